use Rattle.std.proofs.Common.{length}
use Rattle.source_trees.specs.Bare.{bare_member}
use Rattle.source_trees.specs.Nodes.{nodes_of_member}
use Rattle.number_nodes.proofs.Reaching.{Reaches}
use Rattle.number_nodes.proofs.item.number_members.Given as goal

abbrev pub invariant-members : goal.invariant-members
invariant-members l = Reaches bare_member nodes_of_member l.fn.next l.fn.members l.rest l.numbered l.next

abbrev pub decreases-members : goal.decreases-members
decreases-members l = length l.rest
