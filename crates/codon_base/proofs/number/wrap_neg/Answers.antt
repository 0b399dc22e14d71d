use Rattle.std.proofs.Common.{ap, ◌∙◌, w64, FitsSigned, rules}
use Rattle.std.specs.Int.{int_wrapping_neg}
use Rattle.std.proofs.lemmas.Int.{to_z-of_z, wrapping_neg_is}
use Rattle.codon_base.proofs.number.wrap_neg.Goals as goal

pub returns : goal.returns
returns c =
    let fits : FitsSigned w64 c.wrapping_neg.result = search rules in
    to_z-of_z w64 c.wrapping_neg.result fits ∙ c.wrapping_neg.ensures ∙ ap (int_wrapping_neg w64) (to_z-of_z w64 c.args.a c.ranges.a) ∙ wrapping_neg_is w64 c.args.a c.ranges.a
