use Rattle.std.proofs.Common.{Option, IfErr, subst, sym}
use Rattle.codon_base.specs.declared.source.Span.{Span}
use Rattle.straight_lines.specs.Built.{unbuilt_in_print}
use Rattle.straight_lines.specs.Emitted.{IsUnbuilt}
use Rattle.straight_lines.proofs.statement.printed_sum.Goals as goal

pub returns-in-Neither-clause-err : goal.returns-in-Neither-clause-err
returns-in-Neither-clause-err c = λ known. subst (λ (o : Option Span). IfErr c.only_value.result (IsUnbuilt o)) (λ i. unbuilt_in_print known c.args.n.now (c.as_slice.ensures i) (sym c.in-Neither.is i)) (c.only_value.ensures.err known)
