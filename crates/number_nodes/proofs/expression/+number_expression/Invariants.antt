use Rattle.std.proofs.Common.{length}
use Rattle.source_trees.specs.Bare.{bare_expr, bare_comparison}
use Rattle.source_trees.specs.Nodes.{nodes_of_expr}
use Rattle.number_nodes.specs.Numbers.{nodes_of_comparison}
use Rattle.number_nodes.proofs.Reaching.{Reaches}
use Rattle.number_nodes.proofs.expression.+number_expression.Given as goal

abbrev pub invariant-number_exprs-exprs : goal.invariant-number_exprs-exprs
invariant-number_exprs-exprs l = Reaches bare_expr nodes_of_expr l.fn.next l.fn.exprs l.rest l.numbered l.next

abbrev pub decreases-number_exprs-exprs : goal.decreases-number_exprs-exprs
decreases-number_exprs-exprs l = length l.rest

abbrev pub invariant-number_comparisons-comparisons : goal.invariant-number_comparisons-comparisons
invariant-number_comparisons-comparisons l = Reaches bare_comparison nodes_of_comparison l.fn.next l.fn.comparisons l.rest l.numbered l.next

abbrev pub decreases-number_comparisons-comparisons : goal.decreases-number_comparisons-comparisons
decreases-number_comparisons-comparisons l = length l.rest
