use Rattle.std.proofs.Common.{rules}
use Rattle.source_trees.specs.Bare.{bare_expr, bare_comparison}
use Rattle.source_trees.specs.Nodes.{nodes_of_expr}
use Rattle.number_nodes.specs.Numbers.{nodes_of_comparison}
use Rattle.number_nodes.proofs.ExprForms as form
use Rattle.number_nodes.proofs.Taking.{numbers_at}
use Rattle.number_nodes.proofs.Reaching.{reaches_more}
use Rattle.number_nodes.proofs.expression.+number_expression.Goals as goal

pub number_expr-returns-in_ok-number_node-in-Name : goal.number_expr-returns-in_ok-number_node-in-Name
number_expr-returns-in_ok-number_node-in-Name t c = form.expr_Name c.in-Name.is c.in_ok-number_node-in-Name.ensures

pub number_expr-returns-in_ok-number_node-in-Number : goal.number_expr-returns-in_ok-number_node-in-Number
number_expr-returns-in_ok-number_node-in-Number t c = let made = form.expr_Number c.in-Number.is c.in_ok-number_node-in-Number.ensures in search (rules, made)

pub number_expr-returns-in_ok-number_node-in-Text : goal.number_expr-returns-in_ok-number_node-in-Text
number_expr-returns-in_ok-number_node-in-Text t c = form.expr_Text c.in-Text.is c.in_ok-number_node-in-Text.ensures

pub number_expr-returns-in_ok-number_node-in-True : goal.number_expr-returns-in_ok-number_node-in-True
number_expr-returns-in_ok-number_node-in-True t c = form.expr_True c.in-True.is c.in_ok-number_node-in-True.ensures

pub number_expr-returns-in_ok-number_node-in-False : goal.number_expr-returns-in_ok-number_node-in-False
number_expr-returns-in_ok-number_node-in-False t c = form.expr_False c.in-False.is c.in_ok-number_node-in-False.ensures

pub number_expr-returns-in_ok-number_node-in-None : goal.number_expr-returns-in_ok-number_node-in-None
number_expr-returns-in_ok-number_node-in-None t c = form.expr_None c.in-None.is c.in_ok-number_node-in-None.ensures

pub number_expr-returns-in_ok-number_boxed-in-Bracketed : goal.number_expr-returns-in_ok-number_boxed-in-Bracketed
number_expr-returns-in_ok-number_boxed-in-Bracketed t c = form.expr_Bracketed c.in-Bracketed.is c.in_ok-node-in-Bracketed.ensures c.in_ok-number_boxed-in-Bracketed.ensures

pub number_expr-returns-in_ok-number_exprs-in-Tuple : goal.number_expr-returns-in_ok-number_exprs-in-Tuple
number_expr-returns-in_ok-number_exprs-in-Tuple t c = form.expr_Tuple c.in-Tuple.is c.in_ok-node-in-Tuple.ensures c.in_ok-number_exprs-in-Tuple.ensures

pub number_expr-returns-in_ok-number_exprs-in-List : goal.number_expr-returns-in_ok-number_exprs-in-List
number_expr-returns-in_ok-number_exprs-in-List t c = form.expr_List c.in-List.is c.in_ok-node-in-List.ensures c.in_ok-number_exprs-in-List.ensures

pub number_expr-returns-in_ok-condition-in-Comprehension : goal.number_expr-returns-in_ok-condition-in-Comprehension
number_expr-returns-in_ok-condition-in-Comprehension t c = form.expr_Comprehension c.in-Comprehension.is c.in_ok-node-in-Comprehension.ensures c.in_ok-item-in-Comprehension.ensures c.in_ok-names-in-Comprehension.ensures c.in_ok-iterable-in-Comprehension.ensures c.in_ok-condition-in-Comprehension.ensures

pub number_expr-returns-in_ok-other-in-Conditional : goal.number_expr-returns-in_ok-other-in-Conditional
number_expr-returns-in_ok-other-in-Conditional t c = form.expr_Conditional c.in-Conditional.is c.in_ok-node-in-Conditional.ensures c.in_ok-value-in-Conditional.ensures c.in_ok-condition-in-Conditional.ensures c.in_ok-other-in-Conditional.ensures

pub number_expr-returns-in_ok-number_exprs-in-Or : goal.number_expr-returns-in_ok-number_exprs-in-Or
number_expr-returns-in_ok-number_exprs-in-Or t c = form.expr_Or c.in-Or.is c.in_ok-node-in-Or.ensures c.in_ok-number_exprs-in-Or.ensures

pub number_expr-returns-in_ok-number_exprs-in-And : goal.number_expr-returns-in_ok-number_exprs-in-And
number_expr-returns-in_ok-number_exprs-in-And t c = form.expr_And c.in-And.is c.in_ok-node-in-And.ensures c.in_ok-number_exprs-in-And.ensures

pub number_expr-returns-in_ok-number_boxed-in-Not : goal.number_expr-returns-in_ok-number_boxed-in-Not
number_expr-returns-in_ok-number_boxed-in-Not t c = form.expr_Not c.in-Not.is c.in_ok-node-in-Not.ensures c.in_ok-number_boxed-in-Not.ensures

pub number_expr-returns-in_ok-number_comparisons-in-Compare : goal.number_expr-returns-in_ok-number_comparisons-in-Compare
number_expr-returns-in_ok-number_comparisons-in-Compare t c = form.expr_Compare c.in-Compare.is c.in_ok-node-in-Compare.ensures c.in_ok-first-in-Compare.ensures c.in_ok-number_comparisons-in-Compare.ensures

pub number_expr-returns-in_ok-number_boxed-in-Unary : goal.number_expr-returns-in_ok-number_boxed-in-Unary
number_expr-returns-in_ok-number_boxed-in-Unary t c = form.expr_Unary c.in-Unary.is c.in_ok-node-in-Unary.ensures c.in_ok-number_boxed-in-Unary.ensures

pub number_expr-returns-in_ok-number_boxed-in-Binary : goal.number_expr-returns-in_ok-number_boxed-in-Binary
number_expr-returns-in_ok-number_boxed-in-Binary t c = form.expr_Binary c.in-Binary.is c.in_ok-node-in-Binary.ensures c.in_ok-left-in-Binary.ensures c.in_ok-number_boxed-in-Binary.ensures

pub number_expr-returns-in_ok-number_exprs-in-Call : goal.number_expr-returns-in_ok-number_exprs-in-Call
number_expr-returns-in_ok-number_exprs-in-Call t c = form.expr_Call c.in-Call.is c.in_ok-node-in-Call.ensures c.in_ok-name-in-Call.ensures c.in_ok-number_exprs-in-Call.ensures

pub number_expr-returns-in_ok-arguments-in-MethodCall : goal.number_expr-returns-in_ok-arguments-in-MethodCall
number_expr-returns-in_ok-arguments-in-MethodCall t c = form.expr_MethodCall c.in-MethodCall.is c.in_ok-node-in-MethodCall.ensures c.in_ok-method-in-MethodCall.ensures c.in_ok-object-in-MethodCall.ensures c.in_ok-arguments-in-MethodCall.ensures

pub number_expr-returns-in_ok-number_boxed-in-Index : goal.number_expr-returns-in_ok-number_boxed-in-Index
number_expr-returns-in_ok-number_boxed-in-Index t c = form.expr_Index c.in-Index.is c.in_ok-node-in-Index.ensures c.in_ok-object-in-Index.ensures c.in_ok-number_boxed-in-Index.ensures

pub number_expr-returns-in_ok-to-in-Slice : goal.number_expr-returns-in_ok-to-in-Slice
number_expr-returns-in_ok-to-in-Slice t c = form.expr_Slice c.in-Slice.is c.in_ok-node-in-Slice.ensures c.in_ok-object-in-Slice.ensures c.in_ok-from-in-Slice.ensures c.in_ok-to-in-Slice.ensures

pub number_expr-returns-in_ok-number_boxed-in-Field : goal.number_expr-returns-in_ok-number_boxed-in-Field
number_expr-returns-in_ok-number_boxed-in-Field t c = form.expr_Field c.in-Field.is c.in_ok-node-in-Field.ensures c.in_ok-number_boxed-in-Field.ensures

pub number_optional-returns-in_ok-new-in-Some : goal.number_optional-returns-in_ok-new-in-Some
number_optional-returns-in_ok-new-in-Some t c = form.optional_some c.in-Some.is (numbers_at c.in_ok-numbered-in-Some.ensures c.into_inner.ensures c.in_ok-new-in-Some.ensures)

pub number_optional-returns-in-None : goal.number_optional-returns-in-None
number_optional-returns-in-None t c = form.optional_none c.in-None.is

pub number_exprs-exprs-preserved : goal.number_exprs-exprs-preserved
number_exprs-exprs-preserved t c = reaches_more bare_expr nodes_of_expr c.exprs.invariant c.in-Some.ensures c.in_ok-number_expr.ensures c.in_ok-push.ensures.ok

pub number_comparisons-comparisons-preserved : goal.number_comparisons-comparisons-preserved
number_comparisons-comparisons-preserved t c = reaches_more bare_comparison nodes_of_comparison c.comparisons.invariant c.in-Some.ensures (form.comparison c.in-Some.field-0 c.in_ok-right.ensures) c.in_ok-push.ensures.ok
