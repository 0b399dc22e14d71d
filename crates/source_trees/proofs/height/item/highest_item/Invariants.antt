use Rattle.std.proofs.Common.{◌≡◌, map, take}
use Rattle.source_trees.specs.Heights.{capped, highest}
use Rattle.source_trees.specs.Heights.{height_of_item}
use Rattle.source_trees.proofs.height.item.highest_item.Given as goal

abbrev pub invariant-items : goal.invariant-items
invariant-items l = l.highest ≡ capped (highest (map height_of_item (take l.item-index l.item-items)))
