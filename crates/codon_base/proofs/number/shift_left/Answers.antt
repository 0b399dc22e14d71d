use Rattle.std.proofs.Common.{w64}
use Rattle.std.proofs.lemmas.Int.{to_z-of_z}
use Rattle.codon_base.proofs.Shifts.{left-near, left-far}
use Rattle.codon_base.proofs.number.shift_left.Goals as goal

pub returns-then-b-lt64 : goal.returns-then-b-lt64
returns-then-b-lt64 c = left-near c.args.a c.args.b _ (to_z-of_z w64 c.args.b c.ranges.b) c.ranges.a c.if-b-lt0.false

pub returns-else-b-lt64 : goal.returns-else-b-lt64
returns-else-b-lt64 c = left-far c.args.a c.args.b _ (to_z-of_z w64 c.args.b c.ranges.b) c.ranges.a c.if-b-lt64.false
