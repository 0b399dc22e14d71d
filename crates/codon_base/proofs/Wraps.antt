-- Whole numbers modulo 2 ^ 64, by their 64 bits as a natural number.
use Rattle.std.proofs.Common.{◌≡◌, ℕ, zero, suc, ◌+◌, ◌*◌, ◌/◌, ◌%◌, ◌^◌, ◌<◌, refl, sym, ap, ◌∙◌, arith, ℤ, pos, negsuc, ◌*ℤ◌, w64, FitsSigned, mul_comm, false}
use Rattle.std.proofs.Math.Nat.{pow-suc, pow-zero, mul-suc, mul-zero}
use Rattle.std.proofs.lemmas.Nat.{mod_below, mul-mod_first, mul-mod_second, mul-mod, pow-mod, pow-add, div-add-mod'}
use Rattle.std.proofs.lemmas.Int.{of_z-to_z, int_wrap-mul_left, int_wrap-mul_right, wrapping_mul_is, wrapping_mul_onto, wrapping_mul-bits, SFits-int_wrap}
use Rattle.std.specs.Int.{int_wrap, cast_signed, cast_unsigned, int_wrapping_mul}
use Rattle.std.specs.Prelude.{int_lt, unsigned_abs, Some}
use Rattle.codon_base.specs.Number.{power, wrapped, product_of, power_of}

-- the 64 bits of a wrapped natural number
int_wrap-pos : (m : ℕ) → int_wrap w64 (pos m) ≡ cast_signed w64 (m % 2 ^ 64)
unfolding int_wrap
int_wrap-pos m = refl

-- a product with a natural number, by the bits of the other factor
pub int_wrap-mul-pos : (a : ℤ) (m : ℕ) → FitsSigned w64 a → int_wrap w64 (a *ℤ pos m) ≡ cast_signed w64 ((cast_unsigned w64 a * m) % 2 ^ 64)
int_wrap-mul-pos a m fits =
    let below : m % 2 ^ 64 < 2 ^ 64 = mod_below m (2 ^ 64) (omega arith) in
    let inner : int_wrap w64 (a *ℤ int_wrap w64 (pos m)) ≡ int_wrap w64 (a *ℤ pos m) = int_wrap-mul_right w64 a (pos m) in
    let bits : cast_unsigned w64 (cast_signed w64 (m % 2 ^ 64)) ≡ m % 2 ^ 64 = of_z-to_z w64 (m % 2 ^ 64) below in
    let product : int_wrapping_mul w64 a (int_wrap w64 (pos m)) ≡ int_wrap w64 (a *ℤ int_wrap w64 (pos m)) = wrapping_mul_is w64 a (int_wrap w64 (pos m)) fits (SFits-int_wrap w64 (pos m)) in
    sym inner ∙ sym product ∙ ap (λ z. cast_signed w64 ((cast_unsigned w64 a * cast_unsigned w64 z) % 2 ^ 64)) (int_wrap-pos m) ∙ ap (λ n. cast_signed w64 ((cast_unsigned w64 a * n) % 2 ^ 64)) bits ∙ ap (cast_signed w64) (mul-mod_second (cast_unsigned w64 a) m (2 ^ 64))

-- a power by the bits of its base
pub int_wrap-power : (a : ℤ) (n : ℕ) → FitsSigned w64 a → int_wrap w64 (power a n) ≡ cast_signed w64 ((cast_unsigned w64 a ^ n) % 2 ^ 64)
unfolding power
int_wrap-power a zero fits = int_wrap-pos 1 ∙ ap (λ k. cast_signed w64 (k % 2 ^ 64)) (sym (pow-zero (cast_unsigned w64 a)))
int_wrap-power a (suc n) fits =
    let u = cast_unsigned w64 a in
    let below : u ^ n % 2 ^ 64 < 2 ^ 64 = mod_below (u ^ n) (2 ^ 64) (omega arith) in
    sym (int_wrap-mul_left w64 (power a n) a) ∙ ap (λ z. int_wrap w64 (z *ℤ a)) (int_wrap-power a n fits) ∙ sym (wrapping_mul_onto w64 (u ^ n % 2 ^ 64) a below fits)
    ∙ ap (cast_signed w64) (mul-mod_first (u ^ n) u (2 ^ 64)) ∙ ap (λ k. cast_signed w64 (k % 2 ^ 64)) (sym (pow-suc u n))

pow-mul : (u x y : ℕ) → (u ^ x) ^ y ≡ u ^ (x * y)
pow-mul u x zero = pow-zero (u ^ x) ∙ sym (ap (λ k. u ^ k) (mul-zero x) ∙ pow-zero u)
pow-mul u x (suc y) = pow-suc (u ^ x) y ∙ ap (λ k. k * u ^ x) (pow-mul u x y) ∙ sym (pow-add u (x * y) x) ∙ ap (λ k. u ^ k) (sym (mul-suc x y))

-- a power of a power
pub int_wrap-power-mul : (a : ℤ) (x y : ℕ) → FitsSigned w64 a → int_wrap w64 (power (int_wrap w64 (power a x)) y) ≡ int_wrap w64 (power a (x * y))
int_wrap-power-mul a x y fits =
    let u = cast_unsigned w64 a in
    let below : u ^ x % 2 ^ 64 < 2 ^ 64 = mod_below (u ^ x) (2 ^ 64) (omega arith) in
    let bits : cast_unsigned w64 (int_wrap w64 (power a x)) ≡ u ^ x % 2 ^ 64 = ap (cast_unsigned w64) (int_wrap-power a x fits) ∙ of_z-to_z w64 (u ^ x % 2 ^ 64) below in
    int_wrap-power (int_wrap w64 (power a x)) y (SFits-int_wrap w64 (power a x)) ∙ ap (λ k. cast_signed w64 (k ^ y % 2 ^ 64)) bits ∙ ap (cast_signed w64) (pow-mod (u ^ x) y (2 ^ 64))
    ∙ ap (λ k. cast_signed w64 (k % 2 ^ 64)) (pow-mul u x y) ∙ sym (int_wrap-power a (x * y) fits)

-- a product of two powers
pub int_wrap-power-add : (a : ℤ) (x y : ℕ) → FitsSigned w64 a → int_wrap w64 (int_wrap w64 (power a x) *ℤ int_wrap w64 (power a y)) ≡ int_wrap w64 (power a (x + y))
int_wrap-power-add a x y fits =
    let u = cast_unsigned w64 a in
    let p = u ^ x % 2 ^ 64 in
    let q = u ^ y % 2 ^ 64 in
    ap (λ z. int_wrap w64 (z *ℤ int_wrap w64 (power a y))) (int_wrap-power a x fits) ∙ ap (λ z. int_wrap w64 (cast_signed w64 p *ℤ z)) (int_wrap-power a y fits)
    ∙ sym (wrapping_mul-bits w64 p q (mod_below (u ^ x) (2 ^ 64) (omega arith)) (mod_below (u ^ y) (2 ^ 64) (omega arith)))
    ∙ ap (cast_signed w64) (sym (mul-mod (u ^ x) (u ^ y) (2 ^ 64))) ∙ ap (λ k. cast_signed w64 (k % 2 ^ 64)) (sym (pow-add u x y)) ∙ sym (int_wrap-power a (x + y) fits)

-- the power by 2 ^ 32 times an exponent, by two powers of 2 ^ 16
pub far_power_is : (a a' r r' s s' t p : ℤ) (h n : ℕ) → FitsSigned w64 a → a' ≡ a → r ≡ wrapped (power a' h) → r' ≡ r → s ≡ wrapped (power r' h) → s' ≡ s → t ≡ wrapped (power s' n) → p ≡ t → p ≡ wrapped (power a (n * (h * h)))
far_power_is a a' r r' s s' t p h n fits ea er er' es es' et ep =
    let first : r' ≡ int_wrap w64 (power a h) = er' ∙ er ∙ ap (λ z. int_wrap w64 (power z h)) ea in
    let second : s' ≡ int_wrap w64 (power a (h * h)) = es' ∙ es ∙ ap (λ z. int_wrap w64 (power z h)) first ∙ int_wrap-power-mul a h h fits in
    ep ∙ et ∙ ap (λ z. int_wrap w64 (power z n)) second ∙ int_wrap-power-mul a (h * h) n fits ∙ ap (λ k. int_wrap w64 (power a k)) (mul_comm (h * h) n)

-- the power by an exponent of which the high and the low part were taken
pub wrap_pow_is : (a b a' b' low low' far far' p r : ℤ) (m : ℕ) → FitsSigned w64 a → a' ≡ a → b' ≡ b → int_lt b' (pos 0) ≡ false → low ≡ wrapped (power a' (unsigned_abs b' % m)) → low' ≡ low
    → far ≡ wrapped (power a' (unsigned_abs b' / m * m)) → far' ≡ far → r ≡ product_of far' low' → p ≡ r → Some p ≡ power_of a b
wrap_pow_is a (pos n) a' b' low low' far far' p r m fits ea eb test el el' ef ef' er ep =
    let lower : low' ≡ int_wrap w64 (power a (n % m)) = el' ∙ el ∙ ap (λ z. int_wrap w64 (power z (unsigned_abs b' % m))) ea ∙ ap (λ z. int_wrap w64 (power a (unsigned_abs z % m))) eb in
    let upper : far' ≡ int_wrap w64 (power a (n / m * m)) = ef' ∙ ef ∙ ap (λ z. int_wrap w64 (power z (unsigned_abs b' / m * m))) ea ∙ ap (λ z. int_wrap w64 (power a (unsigned_abs z / m * m))) eb in
    ap Some (ep ∙ er ∙ ap (λ z. int_wrap w64 (z *ℤ low')) upper ∙ ap (λ z. int_wrap w64 (int_wrap w64 (power a (n / m * m)) *ℤ z)) lower ∙ int_wrap-power-add a (n / m * m) (n % m) fits ∙ ap (λ k. int_wrap w64 (power a k)) (div-add-mod' n m))
wrap_pow_is a (negsuc n) a' b' low low' far far' p r m fits ea eb test el el' ef ef' er ep = let test' = rw eb at test in absurd (cc)
