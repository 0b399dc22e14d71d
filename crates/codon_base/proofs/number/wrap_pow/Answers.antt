use Rattle.std.proofs.Common.{rules, w64, FitsSigned}
use Rattle.std.proofs.lemmas.Int.{to_z-of_z}
use Rattle.codon_base.proofs.Wraps.{wrap_pow_is}
use Rattle.codon_base.proofs.number.wrap_pow.Goals as goal

pub returns-else-high-eq0 : goal.returns-else-high-eq0
returns-else-high-eq0 c =
    let low : FitsSigned w64 c.short_power-low.result = search rules in
    let far : FitsSigned w64 c.far_power.result = search rules in
    let product : FitsSigned w64 c.wrap_mul.result = search rules in
    wrap_pow_is c.args.a c.args.b _ _ _ _ _ _ _ _ 4294967296 c.ranges.a (to_z-of_z w64 c.args.a c.ranges.a) (to_z-of_z w64 c.args.b c.ranges.b) c.if-b-lt0.false c.short_power-low.ensures (to_z-of_z w64 c.short_power-low.result low) c.far_power.ensures (to_z-of_z w64 c.far_power.result far) c.wrap_mul.ensures (to_z-of_z w64 c.wrap_mul.result product)
