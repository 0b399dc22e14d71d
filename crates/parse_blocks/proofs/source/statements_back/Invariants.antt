use Rattle.std.proofs.Common.{◌≡◌, ◌-◌, ◌++◌, length, reverse}
use Rattle.parse_blocks.proofs.source.statements_back.Given as goal

abbrev pub invariant-turn : goal.invariant-turn
invariant-turn l = record {
  content : reverse l.fn.statements ≡ l.turned ++ reverse l.left;
  count : l._turn-end - l._turn ≡ length l.left;
}
