use Rattle.codon_base.proofs.CellLaws.{combined_assoc, combined_comm}
use Rattle.codon_base.proofs.cell_op.combine_laws.Goals as goal

pub returns-clause-associative : goal.returns-clause-associative
returns-clause-associative c = combined_assoc c.args.op c.args.a c.args.b c.args.c c.ranges.a c.ranges.b c.ranges.c

pub returns-clause-commutative : goal.returns-clause-commutative
returns-clause-commutative c = combined_comm c.args.op c.args.a c.args.b
