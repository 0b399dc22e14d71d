-- Shifts by any count, from their bits.
use Rattle.std.proofs.Common.{◌≡◌, ℕ, ◌+◌, ◌-◌, ◌*◌, ◌%◌, ◌^◌, ◌<◌, ◌≤◌, sym, ap, ◌∙◌, arith, false, ℤ, pos, negsuc, w64, FitsSigned, Some, mul_assoc}
use Rattle.std.proofs.Math.Nat.{div-eq_of_lt, mul-mod_left}
use Rattle.std.proofs.lemmas.Nat.{pow-add}
use Rattle.std.proofs.lemmas.Bool.{ltb-false}
use Rattle.std.proofs.Math.Pow.{pow_mono}
use Rattle.std.specs.Prelude.{int_lt}
use Rattle.std.specs.Int.{cast_signed, cast_unsigned}
use Rattle.codon_base.specs.Number.{floor_by, left_shift_of, right_shift_of}
use Rattle.codon_base.proofs.Wraps.{int_wrap-mul-pos}

-- a count below 64
pub left-near : (a b b' : ℤ) → b' ≡ b → FitsSigned w64 a → int_lt b' (pos 0) ≡ false → Some (cast_signed w64 ((cast_unsigned w64 a * 2 ^ cast_unsigned w64 b) % 2 ^ 64)) ≡ left_shift_of a b
left-near a (pos n) b' e fits test = ap Some (sym (int_wrap-mul-pos a (2 ^ n) fits))
left-near a (negsuc n) b' e fits test = let test' = rw e at test in absurd (cc)

-- from 64 on the bits are all moved out
mod-far : (u n : ℕ) → 64 ≤ n → (u * 2 ^ n) % 2 ^ 64 ≡ 0
mod-far u n h =
    let whole : 2 ^ n ≡ 2 ^ (n - 64) * 2 ^ 64 = ap (λ k. 2 ^ k) (let e : n ≡ n - 64 + 64 = omega arith in e) ∙ pow-add 2 (n - 64) 64 in
    ap (λ k. (u * k) % 2 ^ 64) whole ∙ ap (λ k. k % 2 ^ 64) (sym (mul_assoc u (2 ^ (n - 64)) (2 ^ 64))) ∙ mul-mod_left (u * 2 ^ (n - 64)) (2 ^ 64)

pub left-far : (a b b' : ℤ) → b' ≡ b → FitsSigned w64 a → int_lt b' (pos 64) ≡ false → Some (pos 0) ≡ left_shift_of a b
left-far a (pos n) b' e fits test =
    let far = rw e at test in
    ap Some (sym (int_wrap-mul-pos a (2 ^ n) fits ∙ ap (cast_signed w64) (mod-far (cast_unsigned w64 a) n (ltb-false n 64 far))))
left-far a (negsuc n) b' e fits test = let test' = rw e at test in absurd (cc)

-- a quotient by 2 ^ 63 or more has nothing but the sign
floor-far : (a : ℤ) (n : ℕ) → FitsSigned w64 a → 63 ≤ n → floor_by a (2 ^ 63) ≡ floor_by a (2 ^ n)
floor-far (pos a) n fits h =
    let bound : a < 2 ^ 63 = fits.sfits in
    let more : 2 ^ 63 ≤ 2 ^ n = pow_mono h in
    ap pos (div-eq_of_lt bound ∙ sym (div-eq_of_lt {n = a} {m = 2 ^ n} (omega arith)))
floor-far (negsuc a) n fits h =
    let bound : a < 2 ^ 63 = fits.sfits in
    let more : 2 ^ 63 ≤ 2 ^ n = pow_mono h in
    ap negsuc (div-eq_of_lt bound ∙ sym (div-eq_of_lt {n = a} {m = 2 ^ n} (omega arith)))

pub right-far : (a b a' b' p : ℤ) → a' ≡ a → b' ≡ b → p ≡ floor_by a' (2 ^ 63) → FitsSigned w64 a → int_lt b' (pos 64) ≡ false → Some p ≡ right_shift_of a b
right-far a (pos n) a' b' p ea eb ep fits test =
    let far = rw eb at test in
    let count : 64 ≤ n = ltb-false n 64 far in
    ap Some (ep ∙ ap (λ z. floor_by z (2 ^ 63)) ea ∙ floor-far a n fits (omega arith))
right-far a (negsuc n) a' b' p ea eb ep fits test = let test' = rw eb at test in absurd (cc)
