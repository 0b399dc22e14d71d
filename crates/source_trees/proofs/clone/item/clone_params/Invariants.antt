use Rattle.std.proofs.Common.{◌≡◌, take}
use Rattle.source_trees.proofs.clone.item.clone_params.Given as goal

abbrev pub invariant-params : goal.invariant-params
invariant-params l = l.copy ≡ take l.param-index l.param-items
