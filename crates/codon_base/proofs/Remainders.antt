-- The floor by -1, and what a floor leaves of its dividend.
use Rattle.std.proofs.Common.{◌≡◌, ℕ, zero, suc, ◌+◌, ◌-◌, ◌*◌, ◌/◌, ◌%◌, ◌^◌, ◌<◌, ◌≤◌, sym, ap, subst, ◌∙◌, arith, ℤ, pos, negsuc, ◌*ℤ◌, ◌-ℤ◌, neg_ℤ, w64, FitsSigned}
use Rattle.std.proofs.Math.Nat.{suc-mul, div-one}
use Rattle.std.proofs.Math.IntN.{*ℤ-negsuc}
use Rattle.std.proofs.lemmas.Nat.{mod_below, div-add-mod'}
use Rattle.std.proofs.lemmas.Int.{ints, int_wrap_fits, int_wrap-sub_right, int_wrap-mul_left, wrapping_neg_is}
use Rattle.std.specs.Prelude.{Some}
use Rattle.std.specs.Int.{int_wrap, cast_unsigned, int_wrapping_neg}
use Rattle.codon_base.specs.Number.{floor_by, quotient_of, remainder_of, product_of, difference_of}

floor_by-one : (a : ℤ) → floor_by a 1 ≡ a
floor_by-one (pos n) = ap pos (div-one n)
floor_by-one (negsuc n) = ap negsuc (div-one n)

pub floor_by_minus_one : (a b a' r p : ℤ) → FitsSigned w64 a → FitsSigned w64 b → a' ≡ a → cast_unsigned w64 b ≡ 2 ^ 64 - 1 → r ≡ int_wrapping_neg w64 a' → p ≡ r → Some p ≡ quotient_of a b
floor_by_minus_one a (pos n) a' r p fa fb ea eb er ep = absurd (let below : n < 2 ^ 63 = fb.sfits in omega arith)
floor_by_minus_one a (negsuc zero) a' r p fa fb ea eb er ep = ap Some (ep ∙ er ∙ ap (int_wrapping_neg w64) ea ∙ wrapping_neg_is w64 a fa ∙ ap (int_wrap w64) (sym (floor_by-one (neg_ℤ a))))
floor_by_minus_one a (negsuc (suc n)) a' r p fa fb ea eb er ep = absurd (let below : suc n < 2 ^ 63 = fb.sfits in omega arith)

-- what the floor by a positive number leaves
remainder_pos : (a : ℤ) (n : ℕ) → (r : ℕ) × ((r ≤ n) × (a -ℤ floor_by a (suc n) *ℤ pos (suc n) ≡ pos r))
remainder_pos (pos a) n =
    let whole : a / suc n * suc n + a % suc n ≡ a = div-add-mod' a (suc n) in
    let below : a % suc n < suc n = mod_below a (suc n) (omega arith) in
    (a % suc n, (omega arith, omega (arith, ints)))
remainder_pos (negsuc a) n =
    let whole : a / suc n * suc n + a % suc n ≡ a = div-add-mod' a (suc n) in
    let below : a % suc n < suc n = mod_below a (suc n) (omega arith) in
    let times : suc (a / suc n) * suc n ≡ a / suc n * suc n + suc n = suc-mul (a / suc n) (suc n) in
    (n - a % suc n, (omega arith, omega (arith, ints)))

turned : (a x : ℤ) (r : ℕ) → neg_ℤ a -ℤ x ≡ pos r → a -ℤ neg_ℤ x ≡ neg_ℤ (pos r)
turned a x r e = omega (arith, ints)

fits_neg : (r n : ℕ) → r ≤ n → n < 2 ^ 63 → FitsSigned w64 (neg_ℤ (pos r))
fits_neg zero n h k = record { sfits = omega arith }
fits_neg (suc r) n h k = record { sfits = omega arith }

-- it fits, so it may be computed with numbers that wrapped
from_wrapped : (a b f q q' m m' d p : ℤ) → FitsSigned w64 (a -ℤ f *ℤ b) → q ≡ int_wrap w64 f → q' ≡ q → m ≡ product_of q' b → m' ≡ m → d ≡ difference_of a m' → p ≡ d → p ≡ a -ℤ f *ℤ b
from_wrapped a b f q q' m m' d p fits eq eq' em em' ed ep =
    let product : m' ≡ int_wrap w64 (f *ℤ b) = em' ∙ em ∙ ap (λ z. int_wrap w64 (z *ℤ b)) (eq' ∙ eq) ∙ int_wrap-mul_left w64 f b in
    ep ∙ ed ∙ ap (λ z. int_wrap w64 (a -ℤ z)) product ∙ int_wrap-sub_right w64 a (f *ℤ b) ∙ int_wrap_fits w64 (a -ℤ f *ℤ b) fits

go : (a b q q' m m' d p : ℤ) → FitsSigned w64 b → Some q ≡ quotient_of a b → q' ≡ q → m ≡ product_of q' b → m' ≡ m → d ≡ difference_of a m' → p ≡ d → Some p ≡ remainder_of a b
go a (pos zero) q q' m m' d p fb eq eq' em em' ed ep = absurd (cc)
go a (pos (suc n)) q q' m m' d p fb eq eq' em em' ed ep =
    let rest = remainder_pos a n in
    let below : suc n < 2 ^ 63 = fb.sfits in
    let small : rest.0 < 2 ^ 63 = omega (arith, rest.1.0) in
    let inner : q ≡ int_wrap w64 (floor_by a (suc n)) = cc in
    let natural : FitsSigned w64 (pos rest.0) = record { sfits = small } in
    let fits : FitsSigned w64 (a -ℤ floor_by a (suc n) *ℤ pos (suc n)) = subst (FitsSigned w64) (sym rest.1.1) natural in
    ap Some (from_wrapped a (pos (suc n)) (floor_by a (suc n)) q q' m m' d p fits inner eq' em em' ed ep)
go a (negsuc n) q q' m m' d p fb eq eq' em em' ed ep =
    let rest = remainder_pos (neg_ℤ a) n in
    let below : n < 2 ^ 63 = fb.sfits in
    let inner : q ≡ int_wrap w64 (floor_by (neg_ℤ a) (suc n)) = cc in
    let negative : a -ℤ floor_by (neg_ℤ a) (suc n) *ℤ negsuc n ≡ neg_ℤ (pos rest.0) =
    ap (λ z. a -ℤ z) (*ℤ-negsuc (floor_by (neg_ℤ a) (suc n)) n) ∙ turned a (floor_by (neg_ℤ a) (suc n) *ℤ pos (suc n)) rest.0 rest.1.1 in
    let fits : FitsSigned w64 (a -ℤ floor_by (neg_ℤ a) (suc n) *ℤ negsuc n) = subst (FitsSigned w64) (sym negative) (fits_neg rest.0 n rest.1.0 below) in
    ap Some (from_wrapped a (negsuc n) (floor_by (neg_ℤ a) (suc n)) q q' m m' d p fits inner eq' em em' ed ep)

pub floor_mod_is : (a b a' b' q q' m m' d p : ℤ) → FitsSigned w64 b → a' ≡ a → b' ≡ b → Some q ≡ quotient_of a' b' → q' ≡ q → m ≡ product_of q' b' → m' ≡ m → d ≡ difference_of a' m' → p ≡ d → Some p ≡ remainder_of a b
floor_mod_is a b a' b' q q' m m' d p fb ea eb eq eq' em em' ed ep =
    go a b q q' m m' d p fb (eq ∙ ap (λ z. quotient_of z b') ea ∙ ap (quotient_of a) eb) eq' (em ∙ ap (λ z. product_of q' z) eb) em' (ed ∙ ap (λ z. difference_of z m') ea) ep
