-- A sequence, several times.
use Rattle.std.proofs.Common.{◌≡◌, ℕ, zero, suc, ◌+◌, ◌*◌, List, [], ◌∷◌, ◌++◌, length, refl, sym, ap, ◌∙◌, subst, Bool, true, false, Result, arith, add-one, append-nil, append_assoc, length-append}
use Rattle.std.proofs.Math.Nat.{suc-mul}
use Rattle.std.proofs.lemmas.Bool.{eqb-true}
use Rattle.std.specs.Prelude.{nat_le, nat_eq, if◌then◌else◌}
use Rattle.codon_base.specs.declared.memory.Memory.{Memory}
use Rattle.codon_base.specs.Operators.{Made, size_limit}
use Rattle.codon_base.specs.Sequences.{repeated}
use Rattle.value_operators.specs.declared.made.Made.{Made as Answer}
use Rattle.value_operators.specs.Answers.{Makes}

pub length-repeated : {A : Type 0} (n : ℕ) (xs : List A) → length (repeated n xs) ≡ n * length xs
unfolding repeated
length-repeated zero xs = omega arith
length-repeated (suc n) xs =
    let more : length (repeated n xs) ≡ n * length xs = length-repeated n xs in
    length-append xs (repeated n xs) ∙ omega (arith, suc-mul n (length xs))

pub repeated-nil : {A : Type 0} (n : ℕ) → repeated {A = A} n [] ≡ []
unfolding repeated
repeated-nil zero = refl
repeated-nil (suc n) = repeated-nil n

pub repeated-zero : {A : Type 0} (xs : List A) → repeated 0 xs ≡ []
unfolding repeated
repeated-zero xs = refl

-- one more time, at the end
pub repeated-suc : {A : Type 0} (n : ℕ) (xs : List A) → repeated (suc n) xs ≡ repeated n xs ++ xs
unfolding repeated
repeated-suc zero xs = append-nil xs
repeated-suc (suc n) xs = ap (λ ys. xs ++ ys) (repeated-suc n xs) ∙ sym (append_assoc xs (repeated n xs) xs)

-- the same, as a count goes up by one
pub repeated-more : {A : Type 0} (n : ℕ) (xs ys zs : List A) → ys ≡ repeated n xs → zs ≡ ys ++ xs → zs ≡ repeated (n + 1) xs
repeated-more n xs ys zs e f = f ∙ ap (λ l. l ++ xs) e ∙ sym (repeated-suc n xs) ∙ ap (λ m. repeated m xs) (sym (add-one n))

-- past the limit
pub repeated-over : {A B : Type 0} (n k : ℕ) (xs : List A) (a b : B) → k ≡ length xs → false ≡ nat_le (n * k) size_limit → (if nat_le (length (repeated n xs)) size_limit then a else b) ≡ b
repeated-over n k xs a b e h = ap (λ m. if nat_le m size_limit then a else b) (length-repeated n xs ∙ ap (λ j. n * j) (sym e)) ∙ ap (λ t. if t then a else b) (sym h)

-- within it
pub repeated-within : {A B : Type 0} (n k : ℕ) (xs : List A) (a b : B) → k ≡ length xs → true ≡ nat_le (n * k) size_limit → (if nat_le (length (repeated n xs)) size_limit then a else b) ≡ a
repeated-within n k xs a b e h = ap (λ m. if nat_le m size_limit then a else b) (length-repeated n xs ∙ ap (λ j. n * j) (sym e)) ∙ ap (λ t. if t then a else b) (sym h)

-- of two equal results
pub Makes-along : (r : Result Answer Memory) (m m' : Made) → m ≡ m' → Makes r m' → Makes r m
Makes-along r m m' e h = let P : Made → Type 0 = λ x. Makes r x in subst P (sym e) h

-- nothing, however often
pub repeated-empty : {A : Type 0} (n : ℕ) (xs ys : List A) → ys ≡ [] → xs ≡ [] → ys ≡ repeated n xs
repeated-empty n xs ys e f = e ∙ sym (repeated-nil n) ∙ ap (repeated n) (sym f)

pub empty_from : {A : Type 0} (xs : List A) → true ≡ nat_eq (length xs) 0 → xs ≡ []
empty_from [] h = refl
empty_from (x ∷ xs) h = let none : length (x ∷ xs) ≡ 0 = eqb-true _ _ (sym h) in absurd (omega arith)
