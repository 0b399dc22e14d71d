use Rattle.std.proofs.Common.{rules, w64, FitsSigned}
use Rattle.std.proofs.lemmas.Int.{to_z-of_z}
use Rattle.codon_base.proofs.Wraps.{far_power_is}
use Rattle.codon_base.proofs.number.far_power.Goals as goal

pub returns : goal.returns
returns c =
    let first : FitsSigned w64 c.short_power.result = search rules in
    let second : FitsSigned w64 c.short_power-2.result = search rules in
    let third : FitsSigned w64 c.short_power-3.result = search rules in
    far_power_is c.args.a _ _ _ _ _ _ _ 65536 c.args.exponent c.ranges.a (to_z-of_z w64 c.args.a c.ranges.a) c.short_power.ensures (to_z-of_z w64 c.short_power.result first) c.short_power-2.ensures (to_z-of_z w64 c.short_power-2.result second) c.short_power-3.ensures (to_z-of_z w64 c.short_power-3.result third)
