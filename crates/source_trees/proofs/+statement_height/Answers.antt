use Rattle.std.proofs.Common.{arith}
use Rattle.source_trees.specs.Heights.{height_of_arm}
use Rattle.source_trees.specs.Heights.{height_of_stmt}
use Rattle.std.proofs.lemmas.Grind.{common_steps}
use Rattle.source_trees.proofs.HeightForms.{highest_arms}
use Rattle.source_trees.proofs.Highest.{highest_next}
use Rattle.source_trees.proofs.+statement_height.Goals as goal

pub height::statement::highest_stmt-stmts-preserved : goal.height::statement::highest_stmt-stmts-preserved
height::statement::highest_stmt-stmts-preserved t c =
    let next = highest_next height_of_stmt c.as_slice-stmt-items.result.now c.stmts.stmt-index c.stmt-item.result c.stmts-test.true c.stmt-item.is in
    grind (arith, next)

pub height::statement::highest_arm-arms-preserved : goal.height::statement::highest_arm-arms-preserved
height::statement::highest_arm-arms-preserved t c =
    let next = highest_next height_of_arm c.as_slice-arm-items.result.now c.arms.arm-index c.arm-item.result c.arms-test.true c.arm-item.is in
    grind (arith, next)

pub height::statement::highest_arm-returns : goal.height::statement::highest_arm-returns
height::statement::highest_arm-returns t c = let joined = highest_arms c.args.arms.now in grind (arith, common_steps, joined)
