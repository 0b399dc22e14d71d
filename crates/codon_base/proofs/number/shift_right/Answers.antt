use Rattle.std.proofs.Common.{w64, rules, FitsSigned, to_z, of_z}
use Rattle.std.specs.Int.Signed.{shr_z}
use Rattle.std.proofs.lemmas.Int.{to_z-of_z}
use Rattle.codon_base.proofs.Shifts.{right-far}
use Rattle.codon_base.proofs.number.shift_right.Goals as goal

pub returns-else-b-lt64 : goal.returns-else-b-lt64
returns-else-b-lt64 c =
    let fits : FitsSigned w64 (shr_z (to_z w64 (of_z w64 c.args.a)) 9223372036854775808) = search rules in
    right-far c.args.a c.args.b _ _ _ (to_z-of_z w64 c.args.a c.ranges.a) (to_z-of_z w64 c.args.b c.ranges.b) (to_z-of_z w64 (shr_z (to_z w64 (of_z w64 c.args.a)) 9223372036854775808) fits) c.ranges.a c.if-b-lt64.false
