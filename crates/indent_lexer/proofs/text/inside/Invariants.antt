use Rattle.std.proofs.Common.{◌≡◌, ◌+◌, length}
use Rattle.codon_base.specs.Ascii.{IsAsciiText}
use Rattle.indent_lexer.specs.Literal.{prefixed, inside}
use Rattle.indent_lexer.proofs.text.inside.Given as goal

abbrev pub invariant-parts : goal.invariant-parts
invariant-parts l = record {
  read : inside l.quote l.long l.opening l.text ≡ prefixed l.value.items l.len (inside l.quote l.long 0 l.rest);
  passed : l.len + length l.rest ≡ length l.text;
  ascii : IsAsciiText l.value.items;
}

abbrev pub decreases-parts : goal.decreases-parts
decreases-parts l = length l.rest
