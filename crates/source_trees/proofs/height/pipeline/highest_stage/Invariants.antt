use Rattle.std.proofs.Common.{◌≡◌, map, take}
use Rattle.source_trees.specs.Heights.{capped, highest}
use Rattle.source_trees.specs.Heights.{height_of_stage}
use Rattle.source_trees.proofs.height.pipeline.highest_stage.Given as goal

abbrev pub invariant-stages : goal.invariant-stages
invariant-stages l = l.highest ≡ capped (highest (map height_of_stage (take l.stage-index l.stage-items)))
