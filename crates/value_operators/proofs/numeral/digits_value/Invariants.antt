use Rattle.std.proofs.Common.{◌≡◌, ◌≤◌, drop, min, option_map}
use Rattle.codon_base.specs.Operators.{digits_after}
use Rattle.value_operators.proofs.numeral.digits_value.Given as goal

abbrev pub invariant-digits : goal.invariant-digits
invariant-digits l = (option_map (min 18446744073709551615) (digits_after l.number (drop l.byte-index l.digits)) ≡ option_map (min 18446744073709551615) (digits_after 0 l.digits)) × (l.number ≤ 18446744073709551615)
