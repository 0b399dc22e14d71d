use Rattle.std.proofs.Common.{arith}
use Rattle.source_trees.specs.Heights.{height_of_target}
use Rattle.source_trees.proofs.Highest.{highest_next}
use Rattle.source_trees.proofs.height.target.highest_target.Goals as goal

pub targets-preserved : goal.targets-preserved
targets-preserved c =
    let next = highest_next height_of_target c.as_slice-target-items.result.now c.targets.target-index c.target-item.result c.targets-test.true c.target-item.is in
    grind (arith, next)
