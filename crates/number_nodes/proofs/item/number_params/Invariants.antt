use Rattle.std.proofs.Common.{length}
use Rattle.source_trees.specs.Bare.{bare_param}
use Rattle.source_trees.specs.Nodes.{nodes_of_param}
use Rattle.number_nodes.proofs.Reaching.{Reaches}
use Rattle.number_nodes.proofs.item.number_params.Given as goal

abbrev pub invariant-params : goal.invariant-params
invariant-params l = Reaches bare_param nodes_of_param l.fn.next l.fn.params l.rest l.numbered l.next

abbrev pub decreases-params : goal.decreases-params
decreases-params l = length l.rest
