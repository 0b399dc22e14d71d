use Rattle.std.proofs.Common.{◌≡◌, length}
use Rattle.std.specs.List.{fold}
use Rattle.indent_lexer.specs.Number.{with_digit, value_in}
use Rattle.indent_lexer.proofs.number.value_in.Given as goal

abbrev pub invariant-digits : goal.invariant-digits
invariant-digits l = value_in l.base l.digits ≡ fold (with_digit l.base) l.value l.rest

abbrev pub decreases-digits : goal.decreases-digits
decreases-digits l = length l.rest
