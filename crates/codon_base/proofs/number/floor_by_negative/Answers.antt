use Rattle.std.proofs.Common.{rules, w64, FitsSigned, ◌-ℤ◌, pos, to_z, of_z}
use Rattle.std.proofs.lemmas.Int.{to_z-of_z}
use Rattle.codon_base.proofs.Floors.{floor-below_cast, floor-exact_cast}
use Rattle.codon_base.proofs.number.floor_by_negative.Goals as goal

pub returns-then-rem_euclid-gt0 : goal.returns-then-rem_euclid-gt0
returns-then-rem_euclid-gt0 c =
    let quotient = c.div_euclid-quotient.result in
    let rest = c.rem_euclid.result in
    let whole : FitsSigned w64 quotient = search rules in
    let left : FitsSigned w64 rest = search rules in
    let lowered : FitsSigned w64 (to_z w64 (of_z w64 quotient) -ℤ pos 1) = search rules in
    floor-below_cast c.args.a c.args.b _ _ quotient _ rest _ _ (to_z-of_z w64 c.args.a c.ranges.a) (to_z-of_z w64 c.args.b c.ranges.b) (to_z-of_z w64 quotient whole) (to_z-of_z w64 rest left) (to_z-of_z w64 (to_z w64 (of_z w64 quotient) -ℤ pos 1) lowered) c.requires c.div_euclid-quotient.ensures c.rem_euclid.ensures.value c.if-rem_euclid-gt0.true

pub returns-else-rem_euclid-gt0 : goal.returns-else-rem_euclid-gt0
returns-else-rem_euclid-gt0 c =
    let quotient = c.div_euclid-quotient.result in
    let rest = c.rem_euclid.result in
    let whole : FitsSigned w64 quotient = search rules in
    let left : FitsSigned w64 rest = search rules in
    floor-exact_cast c.args.a c.args.b _ _ quotient rest _ _ (to_z-of_z w64 c.args.a c.ranges.a) (to_z-of_z w64 c.args.b c.ranges.b) (to_z-of_z w64 rest left) (to_z-of_z w64 quotient whole) c.requires c.div_euclid-quotient.ensures c.rem_euclid.ensures.value c.if-rem_euclid-gt0.false
