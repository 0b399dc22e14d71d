-- Digits, where a number past a limit stays at the limit.
use Rattle.std.proofs.Common.{◌≡◌, ℕ, suc, ◌+◌, ◌*◌, ◌<◌, List, [], ◌∷◌, length, get_or, drop, drop-cons, add-one, Bool, false, nat_eq, Option, Some, None, min, ◌≤◌, refl, sym, ap, ◌∙◌, arith}
use Rattle.std.specs.Prelude.{option_map}
use Rattle.std.proofs.lemmas.List.{drop_all}
use Rattle.codon_base.specs.Operators.{digits_after, digits_value, digit_of, with_digit}

go : (limit : ℕ) (o : Option ℕ) (bs : List ℕ) (f g : ℕ → ℕ) → ((d : ℕ) → option_map (min limit) (digits_after (f d) bs) ≡ option_map (min limit) (digits_after (g d) bs))
    → option_map (min limit) (with_digit o (λ d. digits_after (f d) bs)) ≡ option_map (min limit) (with_digit o (λ d. digits_after (g d) bs))
go limit None bs f g h = refl
go limit (Some d) bs f g h = h d

-- numbers that are equal up to the limit go on alike
pub digits_after-limit : (limit m n : ℕ) (bs : List ℕ) → min limit m ≡ min limit n → option_map (min limit) (digits_after m bs) ≡ option_map (min limit) (digits_after n bs)
digits_after-limit limit m n [] h = ap Some h
digits_after-limit limit m n (b ∷ bs) h = go limit (digit_of b) bs (λ d. 10 * m + d) (λ d. 10 * n + d) (λ d. digits_after-limit limit (10 * m + d) (10 * n + d) bs (omega arith))

-- one more digit
pub digits-step : (limit n d next b : ℕ) (bs : List ℕ) → Some d ≡ digit_of b → min limit next ≡ min limit (10 * n + d) → option_map (min limit) (digits_after next bs) ≡ option_map (min limit) (digits_after n (b ∷ bs))
digits-step limit n d next b bs h e = digits_after-limit limit next (10 * n + d) bs e ∙ ap (λ o. option_map (min limit) (with_digit o (λ d. digits_after (10 * n + d) bs))) h

-- at a place of a text
pub digits-at : (limit n d next i : ℕ) (bs : List ℕ) → i < length bs → Some d ≡ digit_of (get_or bs i 0) → min limit next ≡ min limit (10 * n + d)
    → option_map (min limit) (digits_after next (drop (i + 1) bs)) ≡ option_map (min limit) (digits_after n (drop i bs))
digits-at limit n d next i bs h k e =
    ap (λ j. option_map (min limit) (digits_after next (drop j bs))) (add-one i) ∙ digits-step limit n d next (get_or bs i 0) (drop (suc i) bs) k e ∙ ap (λ l. option_map (min limit) (digits_after n l)) (sym (drop-cons bs i 0 h))

-- a text that is not empty
pub digits_value-filled : (bs : List ℕ) → (bs ≡ [] → ⊥) → digits_value bs ≡ digits_after 0 bs
digits_value-filled [] h = absurd (h refl)
digits_value-filled (b ∷ bs) h = refl

-- no digit is left
pub digits-done : (limit n i : ℕ) (bs : List ℕ) → length bs ≤ i → n ≤ limit → (bs ≡ [] → ⊥) → option_map (min limit) (digits_after n (drop i bs)) ≡ option_map (min limit) (digits_after 0 bs)
    → Some n ≡ option_map (min limit) (digits_value bs)
digits-done limit n i bs h k filled e =
    let small : n ≡ min limit n = omega arith in
    ap Some small ∙ ap (λ l. option_map (min limit) (digits_after n l)) (sym (drop_all i bs h)) ∙ e ∙ ap (option_map (min limit)) (sym (digits_value-filled bs filled))

-- a text whose length is not 0 is not empty
pub filled_from : (bs : List ℕ) → false ≡ nat_eq (length bs) 0 → bs ≡ [] → ⊥
filled_from [] h e = cc
filled_from (b ∷ bs) h e = cc
