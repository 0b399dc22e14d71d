use Rattle.std.proofs.Common.{arith}
use Rattle.source_trees.specs.Heights.{height_of_param}
use Rattle.source_trees.proofs.Highest.{highest_next}
use Rattle.source_trees.proofs.height.item.highest_param.Goals as goal

pub params-preserved : goal.params-preserved
params-preserved c =
    let next = highest_next height_of_param c.as_slice-param-items.result.now c.params.param-index c.param-item.result c.params-test.true c.param-item.is in
    grind (arith, next)
