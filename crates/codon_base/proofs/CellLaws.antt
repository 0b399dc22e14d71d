-- Parts of a reduction combine in any grouping and order.
use Rattle.std.proofs.Common.{◌≡◌, ℕ, ◌*◌, ◌%◌, ◌^◌, ◌<◌, sym, ap, ◌∙◌, arith, ℤ, pos, negsuc, ◌+ℤ◌, ◌*ℤ◌, w64, FitsSigned, mul_assoc}
use Rattle.std.proofs.Math.IntN.{+ℤ_assoc, +ℤ_comm, *ℤ_comm}
use Rattle.std.specs.Int.Bits.{bit_and, bit_or, bit_xor, and_lt, or_lt, xor_lt, xor_assoc, and_comm, or_comm, xor_comm}
use Rattle.std.proofs.lemmas.Nat.{mod_below, mul-mod_first, mul-mod_second, and_assoc}
use Rattle.std.proofs.lemmas.Nat.Bits.{bit_at_or, same_from_bits}
use Rattle.std.proofs.lemmas.Int.{ints, clamps, of_z-to_z, int_wrap-add_left, int_wrap-add_right, wrapping_mul_is, SFits-int_wrap}
use Rattle.std.specs.Int.{int_wrap, cast_signed, cast_unsigned}
use Rattle.codon_base.specs.declared.cell_op.CellOp.{CellOp}
use Rattle.codon_base.specs.declared.cell_op.CellOp.TheVariants.{Sum, Product, And, Or, Xor, Least, Greatest}
use Rattle.codon_base.specs.Number.{product_of}
use Rattle.codon_base.specs.Cells.{combined}

-- the bits of a number of the range are below 2 ^ 64
bits_below : (a : ℤ) → FitsSigned w64 a → cast_unsigned w64 a < 2 ^ 64
bits_below (pos n) fits = let below : n < 2 ^ 63 = fits.sfits in omega arith
bits_below (negsuc n) fits = let below : n < 2 ^ 63 = fits.sfits in omega arith

product-bits : (a b : ℤ) → FitsSigned w64 a → FitsSigned w64 b → product_of a b ≡ cast_signed w64 ((cast_unsigned w64 a * cast_unsigned w64 b) % 2 ^ 64)
product-bits a b fa fb = sym (wrapping_mul_is w64 a b fa fb)

bits-product : (a b : ℤ) → FitsSigned w64 a → FitsSigned w64 b → cast_unsigned w64 (product_of a b) ≡ (cast_unsigned w64 a * cast_unsigned w64 b) % 2 ^ 64
bits-product a b fa fb = ap (cast_unsigned w64) (product-bits a b fa fb) ∙ of_z-to_z w64 _ (mod_below (cast_unsigned w64 a * cast_unsigned w64 b) (2 ^ 64) (omega arith))

product_assoc : (a b c : ℤ) → FitsSigned w64 a → FitsSigned w64 b → FitsSigned w64 c → product_of (product_of a b) c ≡ product_of a (product_of b c)
product_assoc a b c fa fb fc =
    let x = cast_unsigned w64 a in
    let y = cast_unsigned w64 b in
    let z = cast_unsigned w64 c in
    product-bits (product_of a b) c (SFits-int_wrap w64 (a *ℤ b)) fc ∙ ap (λ n. cast_signed w64 ((n * z) % 2 ^ 64)) (bits-product a b fa fb) ∙ ap (cast_signed w64) (mul-mod_first (x * y) z (2 ^ 64))
    ∙ ap (λ n. cast_signed w64 (n % 2 ^ 64)) (mul_assoc x y z) ∙ ap (cast_signed w64) (sym (mul-mod_second x (y * z) (2 ^ 64))) ∙ ap (λ n. cast_signed w64 ((x * n) % 2 ^ 64)) (sym (bits-product b c fb fc))
    ∙ sym (product-bits a (product_of b c) fa (SFits-int_wrap w64 (b *ℤ c)))

or_assoc : (a b c : ℕ) → bit_or (bit_or a b) c ≡ bit_or a (bit_or b c)
or_assoc a b c = same_from_bits (bit_or (bit_or a b) c) (bit_or a (bit_or b c)) (λ i. omega (arith, bit_at_or (bit_or a b) c i, bit_at_or a b i, bit_at_or a (bit_or b c) i, bit_at_or b c i))

pub combined_assoc : (op : CellOp) (a b c : ℤ) → FitsSigned w64 a → FitsSigned w64 b → FitsSigned w64 c → combined op (combined op a b) c ≡ combined op a (combined op b c)
combined_assoc Sum a b c fa fb fc = int_wrap-add_left w64 (a +ℤ b) c ∙ ap (int_wrap w64) (+ℤ_assoc a b c) ∙ sym (int_wrap-add_right w64 a (b +ℤ c))
combined_assoc Product a b c fa fb fc = product_assoc a b c fa fb fc
combined_assoc And a b c fa fb fc =
    let x = cast_unsigned w64 a in
    let y = cast_unsigned w64 b in
    let z = cast_unsigned w64 c in
    ap (λ n. cast_signed w64 (bit_and n z)) (of_z-to_z w64 (bit_and x y) (and_lt 64 x y (bits_below a fa) (bits_below b fb))) ∙ ap (cast_signed w64) (and_assoc z x y)
    ∙ ap (λ n. cast_signed w64 (bit_and x n)) (sym (of_z-to_z w64 (bit_and y z) (and_lt 64 y z (bits_below b fb) (bits_below c fc))))
combined_assoc Or a b c fa fb fc =
    let x = cast_unsigned w64 a in
    let y = cast_unsigned w64 b in
    let z = cast_unsigned w64 c in
    ap (λ n. cast_signed w64 (bit_or n z)) (of_z-to_z w64 (bit_or x y) (or_lt 64 x y (bits_below a fa) (bits_below b fb))) ∙ ap (cast_signed w64) (or_assoc x y z)
    ∙ ap (λ n. cast_signed w64 (bit_or x n)) (sym (of_z-to_z w64 (bit_or y z) (or_lt 64 y z (bits_below b fb) (bits_below c fc))))
combined_assoc Xor a b c fa fb fc =
    let x = cast_unsigned w64 a in
    let y = cast_unsigned w64 b in
    let z = cast_unsigned w64 c in
    ap (λ n. cast_signed w64 (bit_xor n z)) (of_z-to_z w64 (bit_xor x y) (xor_lt 64 x y (bits_below a fa) (bits_below b fb))) ∙ ap (cast_signed w64) (xor_assoc x y z)
    ∙ ap (λ n. cast_signed w64 (bit_xor x n)) (sym (of_z-to_z w64 (bit_xor y z) (xor_lt 64 y z (bits_below b fb) (bits_below c fc))))
combined_assoc Least a b c fa fb fc = omega (arith, ints, clamps)
combined_assoc Greatest a b c fa fb fc = omega (arith, ints, clamps)

pub combined_comm : (op : CellOp) (a b : ℤ) → combined op a b ≡ combined op b a
combined_comm Sum a b = ap (int_wrap w64) (+ℤ_comm a b)
combined_comm Product a b = ap (int_wrap w64) (*ℤ_comm a b)
combined_comm And a b = ap (cast_signed w64) (and_comm (cast_unsigned w64 a) (cast_unsigned w64 b))
combined_comm Or a b = ap (cast_signed w64) (or_comm (cast_unsigned w64 a) (cast_unsigned w64 b))
combined_comm Xor a b = ap (cast_signed w64) (xor_comm (cast_unsigned w64 a) (cast_unsigned w64 b))
combined_comm Least a b = omega (arith, ints, clamps)
combined_comm Greatest a b = omega (arith, ints, clamps)
