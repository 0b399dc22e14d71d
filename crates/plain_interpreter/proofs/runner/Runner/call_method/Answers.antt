use Rattle.std.proofs.Common.{sym, ap, ◌∙◌, subst}
use Rattle.meaning_rules.specs.Outcome.{Outcome, Stops}
use Rattle.meaning_rules.specs.State.{Stop}
use Rattle.plain_interpreter.specs.Seen.{seen, Tells}
use Rattle.plain_interpreter.specs.Tasks.{here}
use Rattle.codon_base.specs.declared.value.Value.{Value}
use Rattle.plain_interpreter.proofs.MethodCalls.{on_list, on_instance, on_nothing}
use Rattle.plain_interpreter.proofs.runner.Runner.call_method.Goals as goal

pub returns-in-Instance : goal.returns-in-Instance
returns-in-Instance g c =
    subst (λ (o : Outcome Value). Tells o c.call_on.result c.call_on.new.state) (sym (on_instance (here c.args.self.now.program.now c.args.self.now.limit c.args.self.now.depth) c.args.v c.in_ok-at.at c.args.name.now c.args.given (seen c.args.state.now) c.in_ok-at.ensures c.in-Instance.class (sym c.kind_at.ensures ∙ c.in-Instance.is))) c.call_on.ensures

pub returns-in-Nothing : goal.returns-in-Nothing
returns-in-Nothing g c =
    λ n. on_nothing (here c.args.self.now.program.now c.args.self.now.limit c.args.self.now.depth) c.args.v c.in_ok-at.at c.args.name.now c.args.given (seen c.args.state.now) c.in_ok-at.ensures (sym c.kind_at.ensures ∙ c.in-Nothing.is) ∙ ap (λ (w : Stop). Stops w (seen c.args.state.now)) (sym (c.wrong.ensures n))

pub returns-in-List : goal.returns-in-List
returns-in-List g c =
    subst (λ (o : Outcome Value). Tells o c.list_method.result c.list_method.new.state) (sym (on_list (here c.args.self.now.program.now c.args.self.now.limit c.args.self.now.depth) c.args.v c.in_ok-at.at c.args.name.now c.args.given (seen c.args.state.now) c.in_ok-at.ensures (sym c.kind_at.ensures ∙ c.in-List.is))) c.list_method.ensures
