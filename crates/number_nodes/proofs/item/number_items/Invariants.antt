use Rattle.std.proofs.Common.{length}
use Rattle.source_trees.specs.Bare.{bare_item}
use Rattle.source_trees.specs.Nodes.{nodes_of_item}
use Rattle.number_nodes.proofs.Reaching.{Reaches}
use Rattle.number_nodes.proofs.item.number_items.Given as goal

abbrev pub invariant-items : goal.invariant-items
invariant-items l = Reaches bare_item nodes_of_item l.fn.next l.fn.items l.rest l.numbered l.next

abbrev pub decreases-items : goal.decreases-items
decreases-items l = length l.rest
