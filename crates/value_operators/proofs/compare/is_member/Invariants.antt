use Rattle.std.proofs.Common.{ℕ, Bool, Result, drop}
use Rattle.codon_base.specs.Compared.{member}
use Rattle.codon_base.specs.Operators.{whole}
use Rattle.codon_base.specs.declared.walk.WalkEnd.{WalkEnd}
use Rattle.value_operators.specs.Answers.{Judges}
use Rattle.value_operators.proofs.compare.is_member.Given as goal

-- what follows from here follows from the start
abbrev pub invariant-member : goal.invariant-member
invariant-member g l =
    (r : Result Bool WalkEnd) (new : ℕ) →
    Judges r (member (whole (g.S.Sighted.sight l.sight)) l.v (drop l.item-index l.items) l.met) new →
    Judges r (member (whole (g.S.Sighted.sight l.sight)) l.v l.items l.initial.met) new
