use Rattle.std.proofs.Common.{arith}
use Rattle.source_trees.specs.Heights.{height_of_item}
use Rattle.source_trees.proofs.Highest.{highest_next}
use Rattle.source_trees.proofs.height.item.highest_item.Goals as goal

pub items-preserved : goal.items-preserved
items-preserved c =
    let next = highest_next height_of_item c.as_slice-item-items.result.now c.items.item-index c.item-item.result c.items-test.true c.item-item.is in
    grind (arith, next)
