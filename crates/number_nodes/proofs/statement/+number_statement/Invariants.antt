use Rattle.std.proofs.Common.{length}
use Rattle.source_trees.specs.Bare.{bare_stmt, bare_arm}
use Rattle.source_trees.specs.Nodes.{nodes_of_stmt, nodes_of_arm}
use Rattle.number_nodes.proofs.Reaching.{Reaches}
use Rattle.number_nodes.proofs.statement.+number_statement.Given as goal

abbrev pub invariant-number_stmts-stmts : goal.invariant-number_stmts-stmts
invariant-number_stmts-stmts l = Reaches bare_stmt nodes_of_stmt l.fn.next l.fn.stmts l.rest l.numbered l.next

abbrev pub decreases-number_stmts-stmts : goal.decreases-number_stmts-stmts
decreases-number_stmts-stmts l = length l.rest

abbrev pub invariant-number_arms-arms : goal.invariant-number_arms-arms
invariant-number_arms-arms l = Reaches bare_arm nodes_of_arm l.fn.next l.fn.arms l.rest l.numbered l.next

abbrev pub decreases-number_arms-arms : goal.decreases-number_arms-arms
decreases-number_arms-arms l = length l.rest
