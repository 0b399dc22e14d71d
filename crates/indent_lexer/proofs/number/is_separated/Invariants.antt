use Rattle.std.proofs.Common.{◌≡◌, length}
use Rattle.indent_lexer.specs.Number.{is_separated}
use Rattle.indent_lexer.proofs.number.is_separated.Given as goal

abbrev pub invariant-digits : goal.invariant-digits
invariant-digits l = is_separated l.digits ≡ is_separated l.rest

abbrev pub decreases-digits : goal.decreases-digits
decreases-digits l = length l.rest
