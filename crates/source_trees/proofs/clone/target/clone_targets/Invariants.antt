use Rattle.std.proofs.Common.{◌≡◌, take}
use Rattle.source_trees.proofs.clone.target.clone_targets.Given as goal

abbrev pub invariant-targets : goal.invariant-targets
invariant-targets l = l.copy ≡ take l.target-index l.target-items
