use Rattle.std.proofs.Common.{arith}
use Rattle.source_trees.specs.Heights.{height_of_stage}
use Rattle.source_trees.proofs.Highest.{highest_next}
use Rattle.source_trees.proofs.height.pipeline.highest_stage.Goals as goal

pub stages-preserved : goal.stages-preserved
stages-preserved c =
    let next = highest_next height_of_stage c.as_slice-stage-items.result.now c.stages.stage-index c.stage-item.result c.stages-test.true c.stage-item.is in
    grind (arith, next)
