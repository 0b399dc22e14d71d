use Rattle.std.proofs.Common.{length}
use Rattle.source_trees.specs.Bare.{bare_name}
use Rattle.number_nodes.specs.Numbers.{nodes_of_name}
use Rattle.number_nodes.proofs.Reaching.{Reaches}
use Rattle.number_nodes.proofs.target.number_names.Given as goal

abbrev pub invariant-names : goal.invariant-names
invariant-names l = Reaches bare_name nodes_of_name l.fn.next l.fn.names l.rest l.numbered l.next

abbrev pub decreases-names : goal.decreases-names
decreases-names l = length l.rest
