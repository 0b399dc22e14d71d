use Rattle.std.proofs.Common.{rules, sym, ap, ◌∙◌, w64, FitsSigned}
use Rattle.std.proofs.lemmas.Int.{to_z-of_z}
use Rattle.std.specs.Int.{int_wrapping_pow}
use Rattle.codon_base.proofs.Wraps.{int_wrap-power}
use Rattle.codon_base.proofs.number.short_power.Goals as goal

pub returns : goal.returns
returns c =
    let fits : FitsSigned w64 c.wrapping_pow.result = search rules in
    to_z-of_z w64 c.wrapping_pow.result fits ∙ c.wrapping_pow.ensures ∙ ap (λ z. int_wrapping_pow w64 z c.args.exponent) (to_z-of_z w64 c.args.a c.ranges.a) ∙ sym (int_wrap-power c.args.a c.args.exponent c.ranges.a)
