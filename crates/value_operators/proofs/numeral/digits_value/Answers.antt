use Rattle.std.proofs.Common.{arith, ◌∙◌}
use Rattle.value_operators.proofs.Numerals.{digits-at, digits-done, filled_from}
use Rattle.value_operators.proofs.numeral.digits_value.Goals as goal

pub digits-preserved : goal.digits-preserved
digits-preserved c = (
  digits-at 18446744073709551615 c.digits.number c.in-Some.digit c.saturating_add-number.result c.digits.byte-index c.args.digits.now c.digits-test.true c.in-Some.ensures (omega arith) ∙ c.digits.invariant.0,
  omega arith,
)

pub returns : goal.returns
returns c = digits-done 18446744073709551615 c.digits.number c.digits.byte-index c.args.digits.now c.digits-test.false c.digits.invariant.1 (filled_from c.args.digits.now c.if-is_empty.ensures) c.digits.invariant.0
