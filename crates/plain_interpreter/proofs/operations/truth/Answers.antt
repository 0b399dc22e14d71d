use Rattle.std.proofs.Common.{◌∙◌, ap, sym, Bool, Option}
use Rattle.meaning_rules.specs.Outcome.{Stops, pure, stop}
use Rattle.meaning_rules.specs.Objects.{one_of}
use Rattle.plain_interpreter.specs.Seen.{seen}
use Rattle.meaning_rules.specs.State.{Stop}
use Rattle.plain_interpreter.proofs.Operated.{truth_is}
use Rattle.plain_interpreter.proofs.operations.truth.Goals as goal

pub returns-in-Some : goal.returns-in-Some
unfolding pure
returns-in-Some c = truth_is c.args.state.now c.args.v.now ∙ ap (λ (o : Option Bool). one_of o (seen c.args.state.now)) (sym c.in-Some.ensures)

pub returns-in-None : goal.returns-in-None
unfolding stop
returns-in-None c = λ wanted.
    truth_is c.args.state.now c.args.v.now ∙ ap (λ (o : Option Bool). one_of o (seen c.args.state.now)) (sym c.in-None.ensures)
    ∙ ap (λ (why : Stop). Stops why (seen c.args.state.now)) (sym (c.wrong.ensures wanted))
