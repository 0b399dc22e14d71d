use Rattle.source_trees.specs.Bare.{bare_stmt, bare_arm}
use Rattle.source_trees.specs.Nodes.{nodes_of_stmt, nodes_of_arm}
use Rattle.number_nodes.proofs.StatementForms as form
use Rattle.number_nodes.proofs.Reaching.{reaches_more}
use Rattle.number_nodes.proofs.Parts.{its_node, its_part, its_pair, of_form}
use Rattle.number_nodes.proofs.statement.+number_statement.Goals as goal

pub number_stmt-returns-in_ok-number_node-in-Pass : goal.number_stmt-returns-in_ok-number_node-in-Pass
number_stmt-returns-in_ok-number_node-in-Pass t c = form.stmt_Pass c.in-Pass.is c.in_ok-number_node-in-Pass.ensures

pub number_stmt-returns-in_ok-number_node-in-Break : goal.number_stmt-returns-in_ok-number_node-in-Break
number_stmt-returns-in_ok-number_node-in-Break t c = form.stmt_Break c.in-Break.is c.in_ok-number_node-in-Break.ensures

pub number_stmt-returns-in_ok-number_node-in-Continue : goal.number_stmt-returns-in_ok-number_node-in-Continue
number_stmt-returns-in_ok-number_node-in-Continue t c = form.stmt_Continue c.in-Continue.is c.in_ok-number_node-in-Continue.ensures

pub number_stmt-returns-in-Return : goal.number_stmt-returns-in-Return
number_stmt-returns-in-Return t c = of_form bare_stmt nodes_of_stmt _ _ _ c.in-Return.is c.number_return.ensures

pub number_stmt-returns-in-Yield : goal.number_stmt-returns-in-Yield
number_stmt-returns-in-Yield t c = of_form bare_stmt nodes_of_stmt _ _ _ c.in-Yield.is c.number_yield.ensures

pub number_stmt-returns-in-Raise : goal.number_stmt-returns-in-Raise
number_stmt-returns-in-Raise t c = of_form bare_stmt nodes_of_stmt _ _ _ c.in-Raise.is c.number_raise.ensures

pub number_stmt-returns-in-Assert : goal.number_stmt-returns-in-Assert
number_stmt-returns-in-Assert t c = of_form bare_stmt nodes_of_stmt _ _ _ c.in-Assert.is c.number_assert.ensures

pub number_stmt-returns-in-Annotated : goal.number_stmt-returns-in-Annotated
number_stmt-returns-in-Annotated t c = of_form bare_stmt nodes_of_stmt _ _ _ c.in-Annotated.is c.number_annotated.ensures

pub number_stmt-returns-in-Assign : goal.number_stmt-returns-in-Assign
number_stmt-returns-in-Assign t c = of_form bare_stmt nodes_of_stmt _ _ _ c.in-Assign.is c.number_assign.ensures

pub number_stmt-returns-in-Update : goal.number_stmt-returns-in-Update
number_stmt-returns-in-Update t c = of_form bare_stmt nodes_of_stmt _ _ _ c.in-Update.is c.number_update.ensures

pub number_stmt-returns-in-Evaluate : goal.number_stmt-returns-in-Evaluate
number_stmt-returns-in-Evaluate t c = of_form bare_stmt nodes_of_stmt _ _ _ c.in-Evaluate.is c.number_evaluate.ensures

pub number_stmt-returns-in-Print : goal.number_stmt-returns-in-Print
number_stmt-returns-in-Print t c = of_form bare_stmt nodes_of_stmt _ _ _ c.in-Print.is c.number_print.ensures

pub number_stmt-returns-in-Pipeline : goal.number_stmt-returns-in-Pipeline
number_stmt-returns-in-Pipeline t c = of_form bare_stmt nodes_of_stmt _ _ _ c.in-Pipeline.is c.number_pipeline.ensures

pub number_stmt-returns-in_ok-number_stmts-in-If : goal.number_stmt-returns-in_ok-number_stmts-in-If
number_stmt-returns-in_ok-number_stmts-in-If t c = form.stmt_If c.in-If.is c.in_ok-node-in-If.ensures c.in_ok-arms-in-If.ensures c.in_ok-number_stmts-in-If.ensures

pub number_stmt-returns-in_ok-node-in-While : goal.number_stmt-returns-in_ok-node-in-While
number_stmt-returns-in_ok-node-in-While t c =
    let pair = c.in_ok-node-in-While.ensures in
    let parts = its_pair c.both-parts.ensures pair.1 in
    form.stmt_While c.in-While.is (its_node c.number_node-own.ensures pair.0) (its_part c.number_expr-test.ensures parts.0) (its_part c.number_stmts-inner.ensures parts.1)

pub number_stmt-returns-in_ok-node-in-Par : goal.number_stmt-returns-in_ok-node-in-Par
number_stmt-returns-in_ok-node-in-Par t c =
    let pair = c.in_ok-node-in-Par.ensures in
    form.stmt_Par c.in-Par.is (its_node c.number_node-mark.ensures pair.0) (its_part c.number_for-repeated.ensures pair.1)

pub number_stmt-returns-in_ok-number_for-in-For : goal.number_stmt-returns-in_ok-number_for-in-For
number_stmt-returns-in_ok-number_for-in-For t c = form.stmt_For c.in-For.is c.in_ok-number_for-in-For.ensures

pub number_stmts-stmts-preserved : goal.number_stmts-stmts-preserved
number_stmts-stmts-preserved t c = reaches_more bare_stmt nodes_of_stmt c.stmts.invariant c.in-Some.ensures c.in_ok-number_stmt.ensures c.in_ok-push.ensures.ok

pub number_arms-arms-preserved : goal.number_arms-arms-preserved
number_arms-arms-preserved t c =
    let pair = c.in_ok-condition.ensures in
    let whole = form.arm c.in-Some.field-0 (its_part c.number_expr-condition.ensures pair.0) (its_part c.number_stmts-body.ensures pair.1) in
    reaches_more bare_arm nodes_of_arm c.arms.invariant c.in-Some.ensures whole c.in_ok-push.ensures.ok

pub number_for-returns : goal.number_for-returns
number_for-returns t c =
    let pair = c.in_ok-node.ensures in
    let parts = its_pair c.both-parts.ensures pair.1 in
    let ends = its_pair c.both-end_parts.ensures parts.1 in
    form.for_loop c.args.each (its_node c.number_node-node.ensures pair.0) (its_part c.number_loop_names-names.ensures parts.0) (its_part c.number_expr-iterable.ensures ends.0) (its_part c.number_stmts-body.ensures ends.1)
