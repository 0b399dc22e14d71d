use Rattle.std.proofs.Common.{◌≡◌, take}
use Rattle.source_trees.proofs.clone.node.clone_names.Given as goal

abbrev pub invariant-names : goal.invariant-names
invariant-names l = l.copy ≡ take l.name-index l.name-items
