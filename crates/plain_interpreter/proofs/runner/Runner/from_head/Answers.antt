use Rattle.std.proofs.Common.{sym, subst}
use Rattle.meaning_rules.specs.Outcome.{Outcome}
use Rattle.meaning_rules.specs.State.{Flow}
use Rattle.plain_interpreter.specs.Seen.{seen, TellsFlow}
use Rattle.plain_interpreter.specs.Scopes.{scope_of}
use Rattle.plain_interpreter.specs.Tasks.{here, consumers_of, region_at}
use Rattle.plain_interpreter.proofs.Passing.{head_some, head_none}
use Rattle.plain_interpreter.proofs.runner.Runner.from_head.Goals as goal

pub returns-in-Some : goal.returns-in-Some
returns-in-Some g c =
    subst (λ (o : Outcome Flow). TellsFlow o c.from_first.result c.from_first.new.state)
    (sym (head_some (here c.args.self.now.program.now c.args.self.now.limit c.args.self.now.depth) (consumers_of c.args.consumers.now) (scope_of c.args.scope.now) c.args.head.now (region_at c.args.region) c.args.stages.now c.in-Some.stage.now (seen c.args.state.now) (sym c.in-Some.ensures.value)))
    c.from_first.ensures

pub returns-in-None : goal.returns-in-None
returns-in-None g c =
    subst (λ (o : Outcome Flow). TellsFlow o c.from_value.result c.from_value.new.state)
    (sym (head_none (here c.args.self.now.program.now c.args.self.now.limit c.args.self.now.depth) (consumers_of c.args.consumers.now) (scope_of c.args.scope.now) c.args.head.now (region_at c.args.region) c.args.stages.now (seen c.args.state.now) (sym c.in-None.ensures.value)))
    c.from_value.ensures
