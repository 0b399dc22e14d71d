-- How the parts of a reduction combine.
use Rattle.std.specs.Prelude.{ℤ, pos, negsuc}
use Rattle.std.specs.Int.{int_min, int_max}
use Rattle.codon_base.specs.declared.cell_op.CellOp.{CellOp}
use Rattle.codon_base.specs.declared.cell_op.CellOp.TheVariants.{Sum, Product, And, Or, Xor, Least, Greatest}
use Rattle.codon_base.specs.Number.{sum_of, product_of, and_of, or_of, xor_of}

abbrev pub combined : CellOp → ℤ → ℤ → ℤ
combined Sum a b = sum_of a b
combined Product a b = product_of a b
combined And a b = and_of a b
combined Or a b = or_of a b
combined Xor a b = xor_of a b
combined Least a b = int_min a b
combined Greatest a b = int_max a b

-- the number that leaves each other as it is: 0, 1, all bits, or an end of the range
abbrev pub neutral_of : CellOp → ℤ
neutral_of Sum = pos 0
neutral_of Product = pos 1
neutral_of And = negsuc 0
neutral_of Or = pos 0
neutral_of Xor = pos 0
neutral_of Least = pos 9223372036854775807
neutral_of Greatest = negsuc 9223372036854775807
