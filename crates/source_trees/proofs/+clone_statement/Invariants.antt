use Rattle.std.proofs.Common.{◌≡◌, take}
use Rattle.source_trees.proofs.+clone_statement.Given as goal

abbrev pub invariant-clone::statement::clone_stmts-stmts : goal.invariant-clone::statement::clone_stmts-stmts
invariant-clone::statement::clone_stmts-stmts l = l.copy ≡ take l.stmt-index l.stmt-items

abbrev pub invariant-clone::statement::clone_arms-arms : goal.invariant-clone::statement::clone_arms-arms
invariant-clone::statement::clone_arms-arms l = l.copy ≡ take l.arm-index l.arm-items
