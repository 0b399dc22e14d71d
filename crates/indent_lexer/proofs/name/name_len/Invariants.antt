use Rattle.std.proofs.Common.{◌≡◌, ◌+◌, length}
use Rattle.indent_lexer.specs.Name.{name_len}
use Rattle.indent_lexer.proofs.name.name_len.Given as goal

abbrev pub invariant-characters : goal.invariant-characters
invariant-characters l = record {
  counted : name_len 0 l.text ≡ l.len + name_len 0 l.rest;
  passed : l.len + length l.rest ≡ length l.text;
}

abbrev pub decreases-characters : goal.decreases-characters
decreases-characters l = length l.rest
