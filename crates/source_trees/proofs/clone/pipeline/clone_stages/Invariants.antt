use Rattle.std.proofs.Common.{◌≡◌, take}
use Rattle.source_trees.proofs.clone.pipeline.clone_stages.Given as goal

abbrev pub invariant-stages : goal.invariant-stages
invariant-stages l = l.copy ≡ take l.stage-index l.stage-items
