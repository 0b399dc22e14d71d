use Rattle.source_trees.specs.Bare.{bare_stage}
use Rattle.source_trees.specs.Nodes.{nodes_of_stage}
use Rattle.number_nodes.proofs.Reaching.{reaches_more}
use Rattle.number_nodes.proofs.pipeline.number_stages.Goals as goal

pub stages-preserved : goal.stages-preserved
stages-preserved c = reaches_more bare_stage nodes_of_stage c.stages.invariant c.in-Some.ensures c.in_ok-number_stage.ensures c.in_ok-push.ensures.ok
