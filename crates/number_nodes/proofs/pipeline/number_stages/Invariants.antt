use Rattle.std.proofs.Common.{length}
use Rattle.source_trees.specs.Bare.{bare_stage}
use Rattle.source_trees.specs.Nodes.{nodes_of_stage}
use Rattle.number_nodes.proofs.Reaching.{Reaches}
use Rattle.number_nodes.proofs.pipeline.number_stages.Given as goal

abbrev pub invariant-stages : goal.invariant-stages
invariant-stages l = Reaches bare_stage nodes_of_stage l.fn.next l.fn.stages l.rest l.numbered l.next

abbrev pub decreases-stages : goal.decreases-stages
decreases-stages l = length l.rest
