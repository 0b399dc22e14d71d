use Rattle.std.proofs.Common.{sym, ap, ◌∙◌, subst}
use Rattle.meaning_rules.specs.Outcome.{Outcome, Stops}
use Rattle.meaning_rules.specs.State.{Stop}
use Rattle.plain_interpreter.specs.Seen.{seen, TellsBy}
use Rattle.plain_interpreter.specs.Tasks.{here}
use Rattle.meaning_rules.specs.Loops.{Iterable}
use Rattle.plain_interpreter.specs.Steps.{iterable_of}
use Rattle.plain_interpreter.proofs.MethodCalls.{goes_list, goes_instance, goes_nothing}
use Rattle.plain_interpreter.proofs.runner.Runner.iterable_method.Goals as goal

pub returns-in-List : goal.returns-in-List
returns-in-List g c =
    subst (λ (o : Outcome Iterable). TellsBy iterable_of o c.list_items.result c.list_items.new.state) (sym (goes_list (here c.args.self.now.program.now c.args.self.now.limit c.args.self.now.depth) c.args.v c.in_ok-at.at c.args.name.now c.args.given (seen c.args.state.now) c.in_ok-at.ensures (sym c.kind_at.ensures ∙ c.in-List.is))) c.list_items.ensures

pub returns-in-Instance : goal.returns-in-Instance
returns-in-Instance g c =
    subst (λ (o : Outcome Iterable). TellsBy iterable_of o c.goes_over_on.result c.goes_over_on.new.state) (sym (goes_instance (here c.args.self.now.program.now c.args.self.now.limit c.args.self.now.depth) c.args.v c.in_ok-at.at c.args.name.now c.args.given (seen c.args.state.now) c.in_ok-at.ensures c.in-Instance.class (sym c.kind_at.ensures ∙ c.in-Instance.is))) c.goes_over_on.ensures

pub returns : goal.returns
returns g c =
    λ n. goes_nothing (here c.args.self.now.program.now c.args.self.now.limit c.args.self.now.depth) c.args.v c.in_ok-at.at c.args.name.now c.args.given (seen c.args.state.now) c.in_ok-at.ensures (sym c.kind_at.ensures ∙ c.in-Nothing.is) ∙ ap (λ (w : Stop). Stops w (seen c.args.state.now)) (sym (c.wrong.ensures n))
