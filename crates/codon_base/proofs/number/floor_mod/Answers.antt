use Rattle.std.proofs.Common.{rules, w64, FitsSigned}
use Rattle.std.proofs.lemmas.Int.{to_z-of_z}
use Rattle.codon_base.proofs.Remainders.{floor_mod_is}
use Rattle.codon_base.proofs.number.floor_mod.Goals as goal

pub returns-in-Some : goal.returns-in-Some
returns-in-Some c =
    let quotient : FitsSigned w64 c.in-Some.quotient = search rules in
    let product : FitsSigned w64 c.wrap_mul.result = search rules in
    let rest : FitsSigned w64 c.wrap_sub.result = search rules in
    floor_mod_is c.args.a c.args.b _ _ c.in-Some.quotient _ _ _ _ _ c.ranges.b (to_z-of_z w64 c.args.a c.ranges.a) (to_z-of_z w64 c.args.b c.ranges.b) c.in-Some.ensures (to_z-of_z w64 c.in-Some.quotient quotient) c.wrap_mul.ensures (to_z-of_z w64 c.wrap_mul.result product) c.wrap_sub.ensures (to_z-of_z w64 c.wrap_sub.result rest)
