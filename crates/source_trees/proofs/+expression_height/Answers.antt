use Rattle.std.proofs.Common.{arith, ap}
use Rattle.source_trees.specs.Heights.{height_of_expr}
use Rattle.source_trees.specs.Heights.{over_parts}
use Rattle.source_trees.specs.Parts.{of_comparison}
use Rattle.source_trees.proofs.Equations.{comparison_is}
use Rattle.source_trees.proofs.HeightForms.{height_Comprehension, height_Slice}
use Rattle.source_trees.proofs.Highest.{highest_next}
use Rattle.source_trees.proofs.+expression_height.Goals as goal

pub height::expression::highest_expr-exprs-preserved : goal.height::expression::highest_expr-exprs-preserved
height::expression::highest_expr-exprs-preserved t c =
    let next = highest_next height_of_expr c.as_slice-expr-items.result.now c.exprs.expr-index c.expr-item.result c.exprs-test.true c.expr-item.is in
    grind (arith, next)

pub height::expression::highest_comparison-comparisons-preserved : goal.height::expression::highest_comparison-comparisons-preserved
height::expression::highest_comparison-comparisons-preserved t c =
    let next = highest_next (of_comparison over_parts) c.as_slice-comparison-items.result.now c.comparisons.comparison-index c.comparison-item.result c.comparisons-test.true c.comparison-item.is in
    let same = comparison_is over_parts c.comparison-item.result in
    grind (arith, next, same)

pub expression::Expr::height-returns-in-Comprehension : goal.expression::Expr::height-returns-in-Comprehension
expression::Expr::height-returns-in-Comprehension t c =
    let is = ap height_of_expr c.in-Comprehension.is in
    let whole = height_Comprehension c.in-Comprehension.field-0 c.in-Comprehension.item c.in-Comprehension.names c.in-Comprehension.iterable c.in-Comprehension.condition in
    grind (arith, is, whole)

pub expression::Expr::height-returns-in-Slice : goal.expression::Expr::height-returns-in-Slice
expression::Expr::height-returns-in-Slice t c =
    let is = ap height_of_expr c.in-Slice.is in
    let whole = height_Slice c.in-Slice.field-0 c.in-Slice.object c.in-Slice.from c.in-Slice.to in
    grind (arith, is, whole)
