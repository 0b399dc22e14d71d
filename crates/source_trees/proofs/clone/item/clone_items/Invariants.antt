use Rattle.std.proofs.Common.{◌≡◌, take}
use Rattle.source_trees.proofs.clone.item.clone_items.Given as goal

abbrev pub invariant-items : goal.invariant-items
invariant-items l = l.copy ≡ take l.item-index l.item-items
