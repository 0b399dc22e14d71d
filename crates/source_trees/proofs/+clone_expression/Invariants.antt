use Rattle.std.proofs.Common.{◌≡◌, take}
use Rattle.source_trees.proofs.+clone_expression.Given as goal

abbrev pub invariant-clone::expression::clone_exprs-exprs : goal.invariant-clone::expression::clone_exprs-exprs
invariant-clone::expression::clone_exprs-exprs l = l.copy ≡ take l.expr-index l.expr-items

abbrev pub invariant-clone::expression::clone_comparisons-comparisons : goal.invariant-clone::expression::clone_comparisons-comparisons
invariant-clone::expression::clone_comparisons-comparisons l = l.copy ≡ take l.comparison-index l.comparison-items
