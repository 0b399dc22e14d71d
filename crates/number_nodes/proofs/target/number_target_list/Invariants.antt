use Rattle.std.proofs.Common.{length}
use Rattle.source_trees.specs.Bare.{bare_target}
use Rattle.source_trees.specs.Nodes.{nodes_of_target}
use Rattle.number_nodes.proofs.Reaching.{Reaches}
use Rattle.number_nodes.proofs.target.number_target_list.Given as goal

abbrev pub invariant-targets : goal.invariant-targets
invariant-targets l = Reaches bare_target nodes_of_target l.fn.next l.fn.targets l.rest l.numbered l.next

abbrev pub decreases-targets : goal.decreases-targets
decreases-targets l = length l.rest
