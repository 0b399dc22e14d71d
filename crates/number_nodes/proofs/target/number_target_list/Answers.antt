use Rattle.source_trees.specs.Bare.{bare_target}
use Rattle.source_trees.specs.Nodes.{nodes_of_target}
use Rattle.number_nodes.proofs.Reaching.{reaches_more}
use Rattle.number_nodes.proofs.target.number_target_list.Goals as goal

pub targets-preserved : goal.targets-preserved
targets-preserved c = reaches_more bare_target nodes_of_target c.targets.invariant c.in-Some.ensures c.in_ok-number_target.ensures c.in_ok-push.ensures.ok
