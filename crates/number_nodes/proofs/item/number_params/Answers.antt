use Rattle.source_trees.specs.Bare.{bare_param}
use Rattle.source_trees.specs.Nodes.{nodes_of_param}
use Rattle.number_nodes.proofs.Reaching.{reaches_more}
use Rattle.number_nodes.proofs.item.number_params.Goals as goal

pub params-preserved : goal.params-preserved
params-preserved c = reaches_more bare_param nodes_of_param c.params.invariant c.in-Some.ensures c.in_ok-number_param.ensures c.in_ok-push.ensures.ok
