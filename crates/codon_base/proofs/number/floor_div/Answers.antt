use Rattle.std.proofs.Common.{rules, w64, FitsSigned}
use Rattle.std.proofs.lemmas.Int.{to_z-of_z}
use Rattle.codon_base.proofs.Remainders.{floor_by_minus_one}
use Rattle.codon_base.proofs.number.floor_div.Goals as goal

pub returns-then-b-eqminus1 : goal.returns-then-b-eqminus1
returns-then-b-eqminus1 c =
    let fits : FitsSigned w64 c.wrapping_neg.result = search rules in
    floor_by_minus_one c.args.a c.args.b _ _ _ c.ranges.a c.ranges.b (to_z-of_z w64 c.args.a c.ranges.a) c.if-b-eqminus1.true c.wrapping_neg.ensures (to_z-of_z w64 c.wrapping_neg.result fits)
