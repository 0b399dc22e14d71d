-- Steps of a walk over pairs of values.
use Rattle.std.proofs.Common.{◌≡◌, ℕ, zero, suc, ◌+◌, ◌<◌, ◌≤◌, Bool, Result, Err, refl, sym, subst}
use Rattle.std.proofs.lemmas.Bool.{le-ltb, lt-ltb}
use Rattle.codon_base.specs.declared.value.Ref.{Ref}
use Rattle.codon_base.specs.declared.value.Value.{Value}
use Rattle.codon_base.specs.declared.value.Value.TheViews.{out-Value}
use Rattle.codon_base.specs.Walks.{Walked, Seen, value_limit}
use Rattle.codon_base.specs.Compared.{equal, equal_met}
use Rattle.codon_base.specs.declared.walk.WalkEnd.{WalkEnd}
use Rattle.codon_base.specs.declared.walk.WalkEnd.TheVariants.{TooLarge}
use Rattle.value_operators.specs.Answers.{Judges}
use Rattle.value_operators.specs.Comparing.{items_equal}

-- past the limit no pair is met
pub Judges-limit : (look : Ref → Seen) (room : ℕ) (v w : Value) (met new : ℕ) → value_limit ≤ met → Judges {A = Bool} (Err TooLarge) (equal look room v w met) new
unfolding equal
Judges-limit look zero v w met new h = rw (le-ltb met value_limit h) tt
Judges-limit look (suc room) v w met new h = rw (le-ltb met value_limit h) tt

-- below it the walk goes on with the pair that was met
pub equal-met : (look : Ref → Seen) (room : ℕ) (v w : Value) (met : ℕ) → met < value_limit → equal look room v w met ≡ equal_met (items_equal look room) look (out-Value v) (out-Value w) (met + 1)
unfolding equal
equal-met look zero v w met h = rw (lt-ltb met value_limit h) refl
equal-met look (suc room) v w met h = rw (lt-ltb met value_limit h) refl

-- of two equal walks
pub Judges-along : {A : Type 0} (r : Result A WalkEnd) (w w' : Walked A) (n : ℕ) → w ≡ w' → Judges r w' n → Judges r w n
Judges-along {A} r w w' n e h = let P : Walked A → Type 0 = λ x. Judges r x n in subst P (sym e) h
