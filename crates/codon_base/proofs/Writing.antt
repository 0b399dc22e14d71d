-- Steps of a walk that makes a text.
use Rattle.std.proofs.Common.{◌≡◌, ℕ, List, refl, sym, ap, ◌∙◌, subst, Result, Ok, Err, append-nil}
use Rattle.codon_base.specs.declared.memory.Or.{Or}
use Rattle.codon_base.specs.declared.memory.Or.TheVariants.{No}
use Rattle.codon_base.specs.declared.walk.WalkEnd.{WalkEnd}
use Rattle.codon_base.specs.declared.walk.WalkEnd.TheVariants.{TooLarge}
use Rattle.codon_base.specs.Walks.{Walked, Walk}
use Rattle.std.proofs.Common.{zero, suc, ◌+◌, ◌<◌, ◌≤◌, Bool}
use Rattle.std.proofs.lemmas.Bool.{le-ltb, lt-ltb}
use Rattle.std.proofs.lemmas.List.{drop_all}
use Rattle.codon_base.specs.declared.value.Ref.{Ref}
use Rattle.std.proofs.Common.{length, drop}
use Rattle.codon_base.specs.declared.value.Value.{Value, Value-F}
use Rattle.codon_base.specs.declared.value.Value.TheViews.{out-Value, out-roll-Value}
use Rattle.codon_base.specs.declared.value.Value.TheVariants as value
use Rattle.codon_base.specs.Walks.{Seen, value_limit}
use Rattle.codon_base.specs.Printed.{text_of, text_met, tuple_text, more_texts, entered}
use Rattle.codon_base.specs.ShowAnswers.{Writes}

-- past the limit no value is met
pub Writes-limit : (A : Type 0) (look : Ref → Seen) (room : ℕ) (inside : Bool) (v : Value) (old : List ℕ) (met : ℕ) → value_limit ≤ met → Writes {A = A} (Err (No TooLarge)) (text_of look room inside v met) old old met
unfolding text_of
Writes-limit A look zero inside v old met h = rw (le-ltb met value_limit h) tt
Writes-limit A look (suc room) inside v old met h = rw (le-ltb met value_limit h) tt

-- below it the walk goes on with the value that was met
pub text_of-met : (look : Ref → Seen) (room : ℕ) (inside : Bool) (v : Value) (met : ℕ) → met < value_limit → text_of look room inside v met ≡ text_met (entered look room) look inside (out-Value v) (met + 1)
unfolding text_of
text_of-met look zero inside v met h = rw (lt-ltb met value_limit h) refl
text_of-met look (suc room) inside v met h = rw (lt-ltb met value_limit h) refl

-- of two equal walks
pub Writes-along : (A : Type 0) (r : Result A (Or WalkEnd)) (w w' : Walked (List ℕ)) (old new : List ℕ) (m : ℕ) → w ≡ w' → Writes r w' old new m → Writes r w old new m
Writes-along A r w w' old new m e h = let P : Walked (List ℕ) → Type 0 = λ x. Writes r x old new m in subst P (sym e) h

out-Tuple : (values : List Value) → out-Value (value.Tuple values) ≡ Value-F.Tuple values
out-Tuple values = ap out-Value (sym (value.rolls-Tuple values)) ∙ out-roll-Value (Value-F.Tuple values)

pub text_met-Tuple : (enter : List Value → Walk (List ℕ)) (look : Ref → Seen) (inside : Bool) (v : Value) (values : List Value) (met : ℕ) → v ≡ value.Tuple values → text_met enter look inside (out-Value v) met ≡ tuple_text enter values met
text_met-Tuple enter look inside v values met e = ap (λ f. text_met enter look inside f met) (ap out-Value e ∙ out-Tuple values)

-- no item is left
pub Writes-end : (text : Value → Walk (List ℕ)) (vs : List Value) (i : ℕ) (bytes : List ℕ) (met : ℕ) → length vs ≤ i → Writes {A = Unit {0}} (Ok tt) (more_texts text (drop i vs) met) bytes bytes met
Writes-end text vs i bytes met h = rw (drop_all i vs h) (sym (append-nil bytes), refl)
