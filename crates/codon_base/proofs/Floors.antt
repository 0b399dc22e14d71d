-- How the floor of a quotient changes with its dividend, and the floor by a negative divisor.
use Rattle.std.proofs.Common.{◌≡◌, ℕ, zero, suc, ◌+◌, ◌-◌, ◌*◌, ◌/◌, ◌%◌, ◌<◌, refl, sym, ap, ◌∙◌, arith, true, false, ℤ, pos, negsuc, ◌-ℤ◌, ◌<ℤ◌, neg_ℤ, ◌⊎◌, inl, inr}
use Rattle.std.proofs.Math.Nat.{suc-mul, eq-or-lt_of_le, mod-le, zero-div}
use Rattle.std.proofs.lemmas.Nat.{div-mul-add, mod-mul-add, div-add-mod', mod_below}
use Rattle.std.proofs.lemmas.Int.{ints}
use Rattle.std.proofs.lemmas.Bool.Decides.{nat_tests}
use Rattle.std.specs.Prelude.{int_lt}
use Rattle.std.specs.Int.{int_div_euclid, int_rem_euclid}
use Rattle.codon_base.specs.Number.{floor_quotient}

-- from one number to the next: it is a multiple of n + 1 and its quotient is one more, or it is none and its quotient is the same
pub data Step (a n : ℕ) : Type 0 where
  full : a % suc n ≡ n → suc a % suc n ≡ 0 → suc a / suc n ≡ suc (a / suc n) → Step a n
  part : a % suc n < n → 0 < suc a % suc n → suc a / suc n ≡ a / suc n → Step a n

step_full : (a n : ℕ) → a % suc n ≡ n → Step a n
step_full a n h =
    let whole : a / suc n * suc n + a % suc n ≡ a = div-add-mod' a (suc n) in
    let times : suc (a / suc n) * suc n ≡ a / suc n * suc n + suc n = suc-mul (a / suc n) (suc n) in
    let next : suc a ≡ suc (a / suc n) * suc n + 0 = omega arith in
    full h (ap (λ k. k % suc n) next ∙ mod-mul-add (suc (a / suc n)) (suc n) 0 (omega arith)) (ap (λ k. k / suc n) next ∙ div-mul-add (suc (a / suc n)) (suc n) 0 (omega arith))

step_part : (a n : ℕ) → a % suc n < n → Step a n
step_part a n h =
    let whole : a / suc n * suc n + a % suc n ≡ a = div-add-mod' a (suc n) in
    let next : suc a ≡ a / suc n * suc n + suc (a % suc n) = omega arith in
    let rest : suc a % suc n ≡ suc (a % suc n) = ap (λ k. k % suc n) next ∙ mod-mul-add (a / suc n) (suc n) (suc (a % suc n)) (omega arith) in
    part h (omega arith) (ap (λ k. k / suc n) next ∙ div-mul-add (a / suc n) (suc n) (suc (a % suc n)) (omega arith))

pub step : (a n : ℕ) → Step a n
step a n =
    let below : a % suc n < suc n = mod_below a (suc n) (omega arith) in
    elim (eq-or-lt_of_le {n = a % suc n} {m = n} (omega arith)) as (λ (_ : (a % suc n ≡ n) ⊎ (a % suc n < n)). Step a n) [ inl h ↦ step_full a n h | inr h ↦ step_part a n h ]

below_pos : (a n : ℕ) → int_lt (pos 0) (pos (suc a % suc n)) ≡ true → Step a n → neg_ℤ (pos (suc a / suc n)) -ℤ pos 1 ≡ negsuc (a / suc n)
below_pos a n r (full x y z) = absurd (grind (arith, nat_tests))
below_pos a n r (part x y z) = rw z (omega (arith, ints))

below_negsuc : (a n : ℕ) → int_lt (pos 0) (pos (suc n - 1 - a % suc n)) ≡ true → Step a n → pos (suc (a / suc n)) -ℤ pos 1 ≡ pos (suc a / suc n)
below_negsuc a n r (full x y z) = absurd (grind (arith, nat_tests))
below_negsuc a n r (part x y z) = rw z (omega (arith, ints))

exact_pos : (a n : ℕ) → int_lt (pos 0) (pos (suc a % suc n)) ≡ false → Step a n → neg_ℤ (pos (suc a / suc n)) ≡ negsuc (a / suc n)
exact_pos a n r (full x y z) = rw z refl
exact_pos a n r (part x y z) = absurd (grind (arith, nat_tests))

exact_negsuc : (a n : ℕ) → int_lt (pos 0) (pos (suc n - 1 - a % suc n)) ≡ false → Step a n → pos (suc (a / suc n)) ≡ pos (suc a / suc n)
exact_negsuc a n r (full x y z) = ap pos (sym z)
exact_negsuc a n r (part x y z) = absurd (grind (arith, nat_tests))

-- the quotient that leaves no negative remainder is one above the floor where it leaves one, and else the floor
floor-below : (a b : ℤ) → b <ℤ negsuc 0 → int_lt (pos 0) (int_rem_euclid a b) ≡ true → int_div_euclid a b -ℤ pos 1 ≡ floor_quotient a b
floor-below a (pos n) h r = absurd (omega (arith, ints))
floor-below (pos zero) (negsuc n) h r = absurd (grind (arith, nat_tests, mod-le 0 (suc n)))
floor-below (pos (suc a)) (negsuc n) h r = below_pos a n r (step a n)
floor-below (negsuc a) (negsuc n) h r = below_negsuc a n r (step a n)

floor-exact : (a b : ℤ) → b <ℤ negsuc 0 → int_lt (pos 0) (int_rem_euclid a b) ≡ false → int_div_euclid a b ≡ floor_quotient a b
floor-exact a (pos n) h r = absurd (omega (arith, ints))
floor-exact (pos zero) (negsuc n) h r = rw (zero-div (suc n)) refl
floor-exact (pos (suc a)) (negsuc n) h r = exact_pos a n r (step a n)
floor-exact (negsuc a) (negsuc n) h r = exact_negsuc a n r (step a n)

-- the same, where each number stands converted to its bits and back
pub floor-below_cast : (a b a' b' q q' r r' p : ℤ) → a' ≡ a → b' ≡ b → q' ≡ q → r' ≡ r → p ≡ q' -ℤ pos 1 → b <ℤ negsuc 0 → q ≡ int_div_euclid a' b' → r ≡ int_rem_euclid a' b' → int_lt (pos 0) r' ≡ true → p ≡ floor_quotient a b
floor-below_cast a b a' b' q q' r r' p ea eb eq er ep h dq dr test = let exact : int_div_euclid a b -ℤ pos 1 ≡ floor_quotient a b = floor-below a b h (cc) in cc

pub floor-exact_cast : (a b a' b' q r r' p : ℤ) → a' ≡ a → b' ≡ b → r' ≡ r → p ≡ q → b <ℤ negsuc 0 → q ≡ int_div_euclid a' b' → r ≡ int_rem_euclid a' b' → int_lt (pos 0) r' ≡ false → p ≡ floor_quotient a b
floor-exact_cast a b a' b' q r r' p ea eb er ep h dq dr test = let exact : int_div_euclid a b ≡ floor_quotient a b = floor-exact a b h (cc) in cc
