use Rattle.std.proofs.Common.{◌≡◌, ◌-◌, ◌++◌, length, reverse}
use Rattle.parse_blocks.specs.Sources.{as_items}
use Rattle.parse_blocks.proofs.source.push_statements.Given as goal

abbrev pub invariant-turn : goal.invariant-turn
invariant-turn l = record {
  content : l.fn.items ++ as_items l.fn.statements ≡ l.items ++ as_items (reverse l.left);
  count : l._turn-end - l._turn ≡ length l.left;
}
