use Rattle.source_trees.specs.Bare.{bare_item}
use Rattle.source_trees.specs.Nodes.{nodes_of_item}
use Rattle.number_nodes.proofs.Reaching.{reaches_more}
use Rattle.number_nodes.proofs.item.number_items.Goals as goal

pub items-preserved : goal.items-preserved
items-preserved c = reaches_more bare_item nodes_of_item c.items.invariant c.in-Some.ensures c.in_ok-number_item.ensures c.in_ok-push.ensures.ok
