use Rattle.std.proofs.Common.{◌≡◌, ◌∙◌, ap, sym, subst, List}
use Rattle.meaning_rules.specs.State.{Spelling, Flow}
use Rattle.meaning_rules.specs.Outcome.{Outcome}
use Rattle.meaning_rules.specs.Captures.{body_scope}
use Rattle.plain_interpreter.specs.Entered.{TellsOpened}
use Rattle.meaning_rules.specs.Meaning.{turn_of}
use Rattle.plain_interpreter.specs.Scopes.{scope_of}
use Rattle.plain_interpreter.specs.Seen.{seen}
use Rattle.plain_interpreter.specs.Steps.{iterable_of, looped, turns_from, parallel_left}
use Rattle.meaning_rules.specs.Task.{Parallel}
use Rattle.plain_interpreter.specs.Tasks.{here, consumers_of, region_of}
use Rattle.plain_interpreter.proofs.LoopEnds.{region_is, opened_by}
use Rattle.plain_interpreter.proofs.runner.Runner.enter_region.Goals as goal

pub returns : goal.returns
returns g c =
    let fixed : c.as_slice-2.result.now ≡ (body_scope (scope_of c.args.scope.now) c.args.l.now.names c.args.l.now.body).fixed = c.as_slice-2.ensures ∙ c.in_ok-fixed.ensures ∙ ap (λ b. (body_scope (scope_of c.args.scope.now) c.args.l.now.names b).fixed) c.as_slice.ensures in
    let begins = region_is c.args.self.now.program.now c.args.self.now.limit c.args.self.now.depth (consumers_of c.args.consumers.now) (iterable_of c.args.goes_over) (region_of c.args.region) (scope_of c.args.scope.now) c.args.l.now c.as_slice-2.result.now fixed (seen c.args.state.now) (seen c.start_region-begun.new.state) c.start_region-begun.result.outside c.start_region-begun.result.reached c.start_region-begun.ensures.new c.start_region-begun.ensures.outside c.start_region-begun.ensures.reached in
    subst (λ (f : List Spelling). TellsOpened (parallel_left (here c.args.self.now.program.now c.args.self.now.limit c.args.self.now.depth) (consumers_of c.args.consumers.now) (scope_of c.args.scope.now) c.args.l.now (iterable_of c.args.goes_over) (region_of c.args.region) (seen c.args.state.now)) (turns_from (here c.args.self.now.program.now c.args.self.now.limit c.args.self.now.depth) (turn_of (here c.args.self.now.program.now c.args.self.now.limit c.args.self.now.depth) (consumers_of c.args.consumers.now) (Parallel (region_of c.args.region) (record (scope_of c.args.scope.now) { fixed = f }) c.args.l.now.names c.args.l.now.body))) c.enter_parallel-entered.result c.start_region-begun.result c.enter_parallel-entered.new.cursor c.enter_parallel-entered.new.state) c.as_slice-2.ensures
    (subst (λ (o : Outcome Flow). TellsOpened o (turns_from (here c.args.self.now.program.now c.args.self.now.limit c.args.self.now.depth) (turn_of (here c.args.self.now.program.now c.args.self.now.limit c.args.self.now.depth) (consumers_of c.args.consumers.now) (Parallel (region_of c.args.region) (record (scope_of c.args.scope.now) { fixed = c.as_slice-2.result.now }) c.args.l.now.names c.args.l.now.body))) c.enter_parallel-entered.result c.start_region-begun.result c.enter_parallel-entered.new.cursor c.enter_parallel-entered.new.state) (sym begins)
    (opened_by (looped (here c.args.self.now.program.now c.args.self.now.limit c.args.self.now.depth) (consumers_of c.args.consumers.now) (iterable_of c.args.goes_over) (Parallel (region_of c.args.region) (record (scope_of c.args.scope.now) { fixed = c.as_slice-2.result.now }) c.args.l.now.names c.args.l.now.body) (seen c.start_region-begun.new.state)) (turns_from (here c.args.self.now.program.now c.args.self.now.limit c.args.self.now.depth) (turn_of (here c.args.self.now.program.now c.args.self.now.limit c.args.self.now.depth) (consumers_of c.args.consumers.now) (Parallel (region_of c.args.region) (record (scope_of c.args.scope.now) { fixed = c.as_slice-2.result.now }) c.args.l.now.names c.args.l.now.body))) c.enter_parallel-entered.result c.start_region-begun.result c.enter_parallel-entered.new.cursor c.enter_parallel-entered.new.state c.enter_parallel-entered.ensures))
