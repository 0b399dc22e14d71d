use Rattle.std.proofs.Common.{◌≡◌, map, take}
use Rattle.source_trees.specs.Heights.{capped, highest}
use Rattle.source_trees.specs.Heights.{height_of_expr}
use Rattle.source_trees.specs.Heights.{over_parts}
use Rattle.source_trees.specs.Parts.{of_comparison}
use Rattle.source_trees.proofs.+expression_height.Given as goal

abbrev pub invariant-height::expression::highest_expr-exprs : goal.invariant-height::expression::highest_expr-exprs
invariant-height::expression::highest_expr-exprs l = l.highest ≡ capped (highest (map height_of_expr (take l.expr-index l.expr-items)))

abbrev pub invariant-height::expression::highest_comparison-comparisons : goal.invariant-height::expression::highest_comparison-comparisons
invariant-height::expression::highest_comparison-comparisons l = l.highest ≡ capped (highest (map (of_comparison over_parts) (take l.comparison-index l.comparison-items)))
