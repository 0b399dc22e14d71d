use Rattle.source_trees.specs.Bare.{bare_member}
use Rattle.source_trees.specs.Nodes.{nodes_of_member}
use Rattle.number_nodes.proofs.Reaching.{reaches_more}
use Rattle.number_nodes.proofs.item.number_members.Goals as goal

pub members-preserved : goal.members-preserved
members-preserved c = reaches_more bare_member nodes_of_member c.members.invariant c.in-Some.ensures c.in_ok-number_member.ensures c.in_ok-push.ensures.ok
