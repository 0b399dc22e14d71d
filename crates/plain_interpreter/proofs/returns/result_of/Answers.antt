use Rattle.std.proofs.Common.{subst, sym}
use Rattle.meaning_rules.specs.Outcome.{Run}
use Rattle.codon_base.specs.declared.value.Value.{Value}
use Rattle.plain_interpreter.specs.Seen.{flow_of, ended_by, TellsAt}
use Rattle.plain_interpreter.proofs.Results.{result_left}
use Rattle.plain_interpreter.proofs.returns.result_of.Goals as goal

pub returns : goal.returns
unfolding flow_of
returns c = λ s. subst (λ (r : Run Value). TellsAt (r s) c.result_at.result s) (sym (result_left c.args.known.now.function.now c.args.flow.left (ended_by c.args.flow.end))) (c.result_at.ensures s)
