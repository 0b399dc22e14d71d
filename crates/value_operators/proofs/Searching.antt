-- A text stands in another where a search finds a place.
use Rattle.std.proofs.Common.{◌≡◌, ℕ, zero, suc, ◌+◌, ◌-◌, ◌<◌, ◌≤◌, Bool, true, false, ◌||◌, List, [], ◌∷◌, length, take, drop, Option, Some, None, refl, sym, ap, ◌∙◌, arith, ◌⊎◌, inl, inr, length-drop}
use Rattle.std.specs.Prelude.{nat_eq, is_some, min}
use Rattle.std.specs.List.{starts_with}
use Rattle.std.specs.Cmp.Lexicographic.{pointwise, same_text}
use Rattle.std.proofs.lemmas.Bool.{cases_Bool}
use Rattle.std.proofs.lemmas.Slice.Eq.{bytes_eq-Decides}
use Rattle.memchr.specs.Find.{OccursAt, FindsNeedle}
use Rattle.memchr.proofs.lemmas.MatchLemmas.{OccursAt-part, OccursAt-from_part}
use Rattle.codon_base.specs.Sequences.{occurs}

-- a place from which the part is read
pub record Place (part text : List ℕ) : Type 0 where
  pub at : ℕ
  pub within : at ≤ length text
  pub reads : starts_with nat_eq (drop at text) part ≡ true

or-left : (a b : Bool) → a ≡ true → (a || b) ≡ true
or-left true b h = refl
or-left false b h = absurd (cc)

or-right : (a b : Bool) → b ≡ true → (a || b) ≡ true
or-right true b h = refl
or-right false b h = h

drop-nil : {A : Type 0} (k : ℕ) → drop {A = A} k [] ≡ []
drop-nil zero = refl
drop-nil (suc k) = refl

pub occurs-at : (part text : List ℕ) (k : ℕ) → starts_with nat_eq (drop k text) part ≡ true → occurs part text ≡ true
occurs-at part [] k h = ap (λ t. starts_with nat_eq t part) (sym (drop-nil k)) ∙ h
occurs-at part (b ∷ bs) zero h = or-left _ _ h
occurs-at part (b ∷ bs) (suc k) h = or-right _ _ (occurs-at part bs k h)

or-cases : (a b : Bool) → (a || b) ≡ true → (a ≡ true) ⊎ (b ≡ true)
or-cases true b h = inl refl
or-cases false b h = inr h

pub place_where : (part text : List ℕ) → occurs part text ≡ true → Place part text
place_where part [] h = record { at = 0; within = omega arith; reads = h }
place_where part (b ∷ bs) h = elim (or-cases (starts_with nat_eq (b ∷ bs) part) (occurs part bs) h) [
  | inl here ↦ record { at = 0; within = omega arith; reads = here }
  | inr later ↦ (let rest = place_where part bs later in let fits : rest.at ≤ length bs = rest.within in record { at = suc (rest.at); within = omega arith; reads = rest.reads })
]

length-take : (n : ℕ) (xs : List ℕ) → length (take n xs) ≤ length xs
length-take zero xs = omega arith
length-take (suc n) [] = omega arith
length-take (suc n) (x ∷ xs) = let h : length (take n xs) ≤ length xs = length-take n xs in omega arith

at_place : (part text : List ℕ) → Place part text → (k : ℕ) × ((k ≤ length text) × OccursAt text part k)
at_place part text p =
    let same : part ≡ take (length part) (drop p.at text) = same_text part _ (sym p.reads) in
    let short : length part ≤ length (drop p.at text) = omega (arith, ap length same, length-take (length part) (drop p.at text)) in
    let inside : p.at ≤ length text = p.within in
    (p.at, (p.within, OccursAt-from_part text part p.at (omega (arith, length-drop p.at text)) (sym same)))

-- what a search answers tells whether the part occurs
pub found_is : (part text : List ℕ) (r : Option ℕ) → FindsNeedle text part 0 r → is_some r ≡ occurs part text
found_is part text None h = elim (cases_Bool (occurs part text)) [
  | inl here ↦ absurd (let p = at_place part text (place_where part text here) in let inside : p.0 ≤ length text = p.1.0 in h p.0 (omega arith) (omega arith) p.1.1)
  | inr nowhere ↦ sym nowhere
]
found_is part text (Some k) h = sym (occurs-at part text k ((bytes_eq-Decides part _).1 (sym (OccursAt-part text part k h.1))))
