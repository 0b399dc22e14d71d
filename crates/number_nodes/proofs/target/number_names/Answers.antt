use Rattle.source_trees.specs.Bare.{bare_name}
use Rattle.number_nodes.specs.Numbers.{nodes_of_name}
use Rattle.number_nodes.proofs.Reaching.{reaches_more}
use Rattle.number_nodes.proofs.target.number_names.Goals as goal

pub names-preserved : goal.names-preserved
names-preserved c = reaches_more bare_name nodes_of_name c.names.invariant c.in-Some.ensures c.in_ok-number_name.ensures c.in_ok-push.ensures.ok
