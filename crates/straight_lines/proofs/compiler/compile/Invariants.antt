use Rattle.std.proofs.Common.{drop}
use Rattle.straight_lines.proofs.Programs.{Follows}
use Rattle.straight_lines.proofs.compiler.compile.Given as goal

abbrev pub invariant-items : goal.invariant-items
invariant-items l = Follows l.emitter l.items (drop l.item-index l.items)
