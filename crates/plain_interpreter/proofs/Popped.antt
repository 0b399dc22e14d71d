-- The last item of a list that is taken out.
use Rattle.std.proofs.Common.{◌≡◌, ◌-◌, refl, ap, sym, subst, ◌∙◌, ℕ, suc, List, [], ◌∷◌, ◌++◌, length, take, Option, Some, None, negsuc, arith}
use Rattle.std.proofs.lemmas.Bool.{lt-ltb}
use Rattle.std.specs.Prelude.{slice_get, if◌then◌else◌}
use Rattle.std.proofs.Math.Seq.{take-append_seam}
use Rattle.codon_base.specs.declared.value.Ref.{Ref}
use Rattle.codon_base.specs.declared.value.Value.{Value}
use Rattle.codon_base.specs.declared.object.Object.{Object}
use Rattle.codon_base.specs.declared.object.Object.TheVariants.{List as Listed}
use Rattle.codon_base.specs.Levels.{object_at, replaced}
use Rattle.codon_base.specs.Sequences.{place_of}
use Rattle.value_operators.specs.Changing.{PopsAt, HasNoItem}
use Rattle.meaning_rules.specs.Outcome.{Gives, bind, pure, change_levels}
use Rattle.meaning_rules.specs.Objects.{pop_last, placed, index_fault, replace}
use Rattle.plain_interpreter.specs.Seen.{seen}
use Rattle.plain_interpreter.specs.Sights.{HasPopped}
use Rattle.plain_interpreter.specs.declared.state.State.{State}

last_item : {A : Type 0} (xs : List A) (x : A) → slice_get (xs ++ x ∷ []) (length xs) ≡ Some x
last_item [] x = refl
last_item (y ∷ xs) x = last_item xs x

one_more : {A : Type 0} (xs : List A) (x : A) → length (xs ++ x ∷ []) ≡ suc (length xs)
one_more [] x = refl
one_more (y ∷ xs) x = ap suc (one_more xs x)

last_place : (size n : ℕ) → size ≡ suc n → place_of size (negsuc 0) ≡ Some n
last_place size n e = ap (λ b. if b then Some (size - 1) else None) (lt-ltb 0 size (omega arith)) ∙ ap Some (omega arith)

-- the last item stands at the place that -1 names
last_placed : {A : Type 0} (xs : List A) (x : A) → placed (xs ++ x ∷ []) (place_of (length (xs ++ x ∷ [])) (negsuc 0)) ≡ Some x
last_placed xs x = ap (placed (xs ++ x ∷ [])) (last_place (length (xs ++ x ∷ [])) (length xs) (one_more xs x)) ∙ last_item xs x

all_but_last : {A : Type 0} (xs : List A) (x : A) → take (length (xs ++ x ∷ []) - 1) (xs ++ x ∷ []) ≡ xs
all_but_last xs x =
    let one : length (xs ++ x ∷ []) - 1 ≡ length xs = omega (arith, one_more xs x) in
    ap (λ n. take n (xs ++ x ∷ [])) one ∙ take-append_seam xs (x ∷ [])

same_items : (vs ws : List Value) → Some (Listed vs) ≡ Some (Listed ws) → vs ≡ ws
same_items vs ws e = cc

no_items : (vs : List Value) → HasNoItem (Some (Listed vs)) → vs ≡ []
no_items [] h = refl
no_items (v ∷ vs) h = absurd h

-- a run whose heap is this
abbrev heap_of : State → List (List Object) → State
heap_of old levels = record old { store = record old.store { heap = levels } }

popped_some : (old : State) (after : List (List Object)) (at : Ref) (rest : List Value) (v : Value) → after ≡ replaced old.store.heap at (Listed rest)
    → pop_last at (rest ++ v ∷ []) (placed (rest ++ v ∷ []) (place_of (length (rest ++ v ∷ [])) (negsuc 0))) (seen old) ≡ Gives v (seen (heap_of old after))
unfolding seen bind pure change_levels
popped_some old after at rest v new =
    ap (λ o. pop_last at (rest ++ v ∷ []) o (seen old)) (last_placed rest v)
    ∙ ap (λ left. bind (replace at (Listed left)) (λ _. pure v) (seen old)) (all_but_last rest v)
    ∙ ap (λ levels. Gives v (seen (heap_of old levels))) (sym new)

popped_none : (old : State) (after : List (List Object)) (at : Ref) → after ≡ old.store.heap
    → pop_last at [] (placed [] (place_of 0 (negsuc 0))) (seen old) ≡ index_fault (seen (heap_of old after))
unfolding seen
popped_none old after at new = ap (λ levels. index_fault {A = Value} (seen (heap_of old levels))) (sym new)

-- what `pop` does where the list is there
pub popped_tells : (old : State) (after : List (List Object)) (at : Ref) (items : List Value) (o : Option Value) → object_at (seen old).shared.levels at ≡ Some (Listed items) → PopsAt o (seen old).shared.levels at after
    → HasPopped o (pop_last at items (placed items (place_of (length items) (negsuc 0))) (seen old)) (record old { store = record old.store { heap = after } })
unfolding seen
popped_tells old after at items (Some v) e (rest, (there, new)) =
    subst (λ vs. pop_last at vs (placed vs (place_of (length vs) (negsuc 0))) (seen old) ≡ Gives v (seen (heap_of old after)))
    (sym (same_items items (rest ++ v ∷ []) (sym e ∙ there))) (popped_some old after at rest v new)
popped_tells old after at items None e (empty, new) =
    subst (λ vs. pop_last at vs (placed vs (place_of (length vs) (negsuc 0))) (seen old) ≡ index_fault (seen (heap_of old after)))
    (sym (no_items items (subst HasNoItem e empty))) (popped_none old after at new)
