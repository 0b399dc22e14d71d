use Rattle.std.proofs.Common.{◌≡◌, map, take}
use Rattle.source_trees.specs.Heights.{capped, highest}
use Rattle.source_trees.specs.Heights.{height_of_target}
use Rattle.source_trees.proofs.height.target.highest_target.Given as goal

abbrev pub invariant-targets : goal.invariant-targets
invariant-targets l = l.highest ≡ capped (highest (map height_of_target (take l.target-index l.target-items)))
