-- A word of digits that `parse` refuses says no number of ticks.
use Rattle.std.proofs.Common.{◌≡◌, ◌⊎◌, ℕ, ◌<◌, ◌^◌, List, [], ◌∷◌, Option, Some, None, Bool, true, false, ◌&&◌, if◌then◌else◌, length, drop, nat_le, refl, sym, ap, ◌∙◌, subst, arith, inl, inr}
use Rattle.std.specs.Prelude.{cond}
use Rattle.std.specs.List.{list_all}
use Rattle.std.specs.Int.{IsInRange}
use Rattle.std.specs.Char.{digit_value}
use Rattle.std.specs.Str.Parse.{IsNumeral, AllDigits, digits_value, without_leading_plus}
use Rattle.std.proofs.Math.Bool.{and-true}
use Rattle.std.proofs.Math.Dec.{eqb}
use Rattle.std.proofs.lemmas.Bool.{leb-true}
use Rattle.std.proofs.lemmas.Bool.Decides.{eqb_tells}
use Rattle.std.proofs.lemmas.Str.{digit_value_digit}
use Rattle.codon_front.specs.Command.{is_digit, is_number_word, fuel_in, most_fuel}

both : (a b : Bool) → (a && b) ≡ true → (a ≡ true) × (b ≡ true)
both true b e = (refl, e)
both false b e = absurd (cc)

and_of : (a b : Bool) → a ≡ true → b ≡ true → (a && b) ≡ true
and_of true b e f = f
and_of false b e f = absurd (cc)

in_range : (c : ℕ) → is_digit c ≡ true → IsInRange 48 57 c
in_range c e = let p = both (nat_le 48 c) (nat_le c 57) e in (leb-true 48 c p.0, leb-true c 57 p.1)

below_ten : (c : ℕ) → is_digit c ≡ true → digit_value c < 10
below_ten c e = let r = in_range c e in let v = digit_value_digit c r in omega (arith, v, r.0, r.1)

all_digits : (cs : List ℕ) → list_all is_digit cs ≡ true → AllDigits 10 cs
all_digits [] e = tt
all_digits (c ∷ cs) e = let p = both (is_digit c) (list_all is_digit cs) e in (below_ten c p.0, all_digits cs p.1)

-- a number word is digits alone
digits_alone : (word : List ℕ) → is_number_word word ≡ true → list_all is_digit word ≡ true
digits_alone [] e = refl
digits_alone (c ∷ []) e = and-true (is_digit c) ∙ e
digits_alone (c ∷ d ∷ cs) e =
    let p = both (is_digit c) _ e in
    let q = both _ (list_all is_digit (d ∷ cs)) p.1 in
    and_of (is_digit c) (list_all is_digit (d ∷ cs)) p.0 q.1

not_empty : (word : List ℕ) → is_number_word word ≡ true → 0 < length word
not_empty [] e = absurd (cc)
not_empty (c ∷ cs) e = omega arith

without_plus : (c : ℕ) (cs : List ℕ) → is_digit c ≡ true → without_leading_plus (c ∷ cs) ≡ c ∷ cs
without_plus c cs e =
    let go : ((eqb c 43 ≡ true) × (c ≡ 43)) ⊎ ((eqb c 43 ≡ false) × (c ≡ 43 → ⊥)) → without_leading_plus (c ∷ cs) ≡ c ∷ cs = elim [
      | inl p ↦ let P : ℕ → Type 0 = λ x. is_digit x ≡ true in let f : false ≡ true = subst P p.1 e in absurd (cc)
      | inr p ↦ ap (λ b. drop (cond b 1 0) (c ∷ cs)) p.0
    ] in
    go (eqb_tells c 43)

plain_word : (word : List ℕ) → is_number_word word ≡ true → without_leading_plus word ≡ word
plain_word [] e = absurd (cc)
plain_word (c ∷ cs) e = without_plus c cs (both (is_digit c) (list_all is_digit cs) (digits_alone (c ∷ cs) e)).0

no_choice : (a b : Bool) (x : Option ℕ) → b ≡ false → None ≡ (if a && b then x else None)
no_choice true true x e = absurd (cc)
no_choice true false x e = refl
no_choice false b x e = refl

pub no_fuel : (word : List ℕ) → is_number_word word ≡ true → (IsNumeral 10 (without_leading_plus word) × (digits_value 10 (without_leading_plus word) < 2 ^ 64) → ⊥) → None ≡ fuel_in word
no_fuel word e n =
    let P : List ℕ → Type 0 = λ w. IsNumeral 10 w × (digits_value 10 w < 2 ^ 64) in
    let large : digits_value 10 word < 2 ^ 64 → ⊥ = λ small. n (subst P (sym (plain_word word e)) ((not_empty word e, all_digits word (digits_alone word e)), small)) in
    let go : (b : Bool) → nat_le (digits_value 10 word) most_fuel ≡ b → None ≡ fuel_in word = elim [
      | true ↦ λ h. let le = leb-true (digits_value 10 word) most_fuel h in absurd (large (omega (arith, le)))
      | false ↦ λ h. no_choice (is_number_word word) (nat_le (digits_value 10 word) most_fuel) (Some (digits_value 10 word)) h
    ] in
    go (nat_le (digits_value 10 word) most_fuel) refl
