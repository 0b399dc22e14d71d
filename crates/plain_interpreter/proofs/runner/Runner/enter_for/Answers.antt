use Rattle.std.proofs.Common.{ap, sym, subst}
use Rattle.meaning_rules.specs.State.{Flow}
use Rattle.meaning_rules.specs.Outcome.{Outcome, and_then, bind}
use Rattle.plain_interpreter.specs.Entered.{TellsEntered}
use Rattle.meaning_rules.specs.Loops.{Iterable}
use Rattle.meaning_rules.specs.Meaning.{turn_of}
use Rattle.plain_interpreter.specs.Scopes.{scope_of}
use Rattle.plain_interpreter.specs.Steps.{looped, turns_from}
use Rattle.meaning_rules.specs.Task.{Body}
use Rattle.plain_interpreter.specs.Tasks.{here, consumers_of}
use Rattle.plain_interpreter.proofs.runner.Runner.enter_for.Goals as goal

pub returns : goal.returns
unfolding bind
returns g c =
    subst (λ (o : Outcome Flow). TellsEntered o (turns_from (here c.args.self.now.program.now c.args.self.now.limit c.args.self.now.depth) (turn_of (here c.args.self.now.program.now c.args.self.now.limit c.args.self.now.depth) (consumers_of c.args.consumers.now) (Body (scope_of c.args.scope.now) c.args.l.now.names c.args.l.now.body))) c.enter_loop.result c.enter_loop.new.cursor c.enter_loop.new.state)
    (sym (ap (λ (o : Outcome Iterable). and_then o (λ goes_over. looped (here c.args.self.now.program.now c.args.self.now.limit c.args.self.now.depth) (consumers_of c.args.consumers.now) goes_over (Body (scope_of c.args.scope.now) c.args.l.now.names c.args.l.now.body))) c.in_ok-goes_over.ensures))
    c.enter_loop.ensures
