use Rattle.std.proofs.Common.{◌≡◌, map, take}
use Rattle.source_trees.specs.Heights.{capped, highest}
use Rattle.source_trees.specs.Heights.{height_of_arm}
use Rattle.source_trees.specs.Heights.{height_of_stmt}
use Rattle.source_trees.proofs.+statement_height.Given as goal

abbrev pub invariant-height::statement::highest_stmt-stmts : goal.invariant-height::statement::highest_stmt-stmts
invariant-height::statement::highest_stmt-stmts l = l.highest ≡ capped (highest (map height_of_stmt (take l.stmt-index l.stmt-items)))

abbrev pub invariant-height::statement::highest_arm-arms : goal.invariant-height::statement::highest_arm-arms
invariant-height::statement::highest_arm-arms l = l.highest ≡ capped (highest (map height_of_arm (take l.arm-index l.arm-items)))
