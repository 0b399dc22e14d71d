use Rattle.std.proofs.Common.{◌≡◌, ◌<◌, ◌≤◌, ◌+◌, ◌∙◌, ap, sym, subst, arith, List, [], length, drop, Option, Some}
use Rattle.source_trees.specs.declared.pipeline.Stage.{Stage}
use Rattle.std.proofs.lemmas.Grind.{common_steps}
use Rattle.meaning_rules.specs.State.{State, Flow}
use Rattle.meaning_rules.specs.Outcome.{Outcome, Gives, Run, and_then, bind, pure}
use Rattle.meaning_rules.specs.Iterations.{in_place}
use Rattle.plain_interpreter.specs.Cursors.{next_by}
use Rattle.meaning_rules.specs.Meaning.{turn_of}
use Rattle.plain_interpreter.specs.Inside.{saved_of}
use Rattle.meaning_rules.specs.Pipelines.{parallel_part}
use Rattle.plain_interpreter.specs.Stages.{Ended, staged, staged_ahead}
use Rattle.meaning_rules.specs.Loops.{after_loop}
use Rattle.plain_interpreter.specs.Steps.{turns_from}
use Rattle.meaning_rules.specs.Task.{Region, Stages}
use Rattle.plain_interpreter.specs.Seen.{seen, flow_of, why_of, TellsFlow}
use Rattle.plain_interpreter.specs.Scopes.{scope_of}
use Rattle.plain_interpreter.specs.Tasks.{here, consumers_of, region_at, region_of}
use Rattle.plain_interpreter.proofs.Turns.{loop_begins, turn_next}
use Rattle.plain_interpreter.proofs.Ahead.{ahead_some, ahead_none}
use Rattle.plain_interpreter.proofs.Passing.{staged_on, staged_left, staged_stops, reaches_next, passes_on, passes_left, passes_none}
use Rattle.plain_interpreter.proofs.Apart.{begins, region_gives, item_gives, stage_is, stage_above}
use Rattle.plain_interpreter.proofs.runner.Runner.+pipeline.Goals as goal

pub turns_through-turns-init : goal.turns_through-turns-init
turns_through-turns-init g t c = loop_begins (next_by in_place c.args.self.now.limit) (turn_of (here c.args.self.now.program.now c.args.self.now.limit c.args.self.now.depth) (consumers_of c.args.consumers.now) (Stages (scope_of c.args.scope.now) (region_at c.args.region) (drop c.args.from c.args.stages.now))) c.args.self.now.limit c.args.begins (seen c.args.state.now) c.left-left.result c.left-left.ensures

pub turns_through-turns-preserved : goal.turns_through-turns-preserved
turns_through-turns-preserved g t c = c.turns.invariant ∙ turn_next (next_by in_place c.args.self.now.limit) (turn_of (here c.args.self.now.program.now c.args.self.now.limit c.args.self.now.depth) (consumers_of c.args.consumers.now) (Stages (scope_of c.args.scope.now) (region_at c.args.region) (drop c.args.from c.args.stages.now))) c.turns.left c.turns.cursor (seen c.turns.state) (seen c.next.new.state) (seen c.through.new.state) c.in-Some.item (flow_of c.in_ok-flow.flow) (rw c.in-Some.is at c.in_ok-item.ensures) c.in_ok-flow.ensures (sym c.goes_on.ensures ∙ c.if-not-goes_on.false) (omega arith)

pub turns_through-turns-preserved-else-left-eq0 : goal.turns_through-turns-preserved-else-left-eq0
turns_through-turns-preserved-else-left-eq0 g t c = c.turns.invariant ∙ turn_next (next_by in_place c.args.self.now.limit) (turn_of (here c.args.self.now.program.now c.args.self.now.limit c.args.self.now.depth) (consumers_of c.args.consumers.now) (Stages (scope_of c.args.scope.now) (region_at c.args.region) (drop c.args.from c.args.stages.now))) c.turns.left c.turns.cursor (seen c.turns.state) (seen c.next.new.state) (seen c.through.new.state) c.in-Some.item (flow_of c.in_ok-flow.flow) (rw c.in-Some.is at c.in_ok-item.ensures) c.in_ok-flow.ensures (sym c.goes_on.ensures ∙ c.if-not-goes_on.false) (omega arith)

pub turns_through-turns-preserved-else-left-eq0-2 : goal.turns_through-turns-preserved-else-left-eq0-2
turns_through-turns-preserved-else-left-eq0-2 g t c = c.turns.invariant ∙ turn_next (next_by in_place c.args.self.now.limit) (turn_of (here c.args.self.now.program.now c.args.self.now.limit c.args.self.now.depth) (consumers_of c.args.consumers.now) (Stages (scope_of c.args.scope.now) (region_at c.args.region) (drop c.args.from c.args.stages.now))) c.turns.left c.turns.cursor (seen c.turns.state) (seen c.next.new.state) (seen c.through.new.state) c.in-Some.item (flow_of c.in_ok-flow.flow) (rw c.in-Some.is at c.in_ok-item.ensures) c.in_ok-flow.ensures (sym c.goes_on.ensures ∙ c.if-not-goes_on.false) (omega arith)

pub turns_through-turns-preserved-else-left-eq0-3 : goal.turns_through-turns-preserved-else-left-eq0-3
turns_through-turns-preserved-else-left-eq0-3 g t c = c.turns.invariant ∙ turn_next (next_by in_place c.args.self.now.limit) (turn_of (here c.args.self.now.program.now c.args.self.now.limit c.args.self.now.depth) (consumers_of c.args.consumers.now) (Stages (scope_of c.args.scope.now) (region_at c.args.region) (drop c.args.from c.args.stages.now))) c.turns.left c.turns.cursor (seen c.turns.state) (seen c.next.new.state) (seen c.through.new.state) c.in-Some.item (flow_of c.in_ok-flow.flow) (rw c.in-Some.is at c.in_ok-item.ensures) c.in_ok-flow.ensures (sym c.goes_on.ensures ∙ c.if-not-goes_on.false) (omega arith)

pub parallel_stage-leave_iteration-requires : goal.parallel_stage-leave_iteration-requires
parallel_stage-leave_iteration-requires g t c = stage_above c.args.self.now.program.now c.args.self.now.limit c.args.self.now.depth (consumers_of c.args.consumers.now) (scope_of c.args.scope.now) c.args.stage.now (drop c.args.from c.args.stages.now) c.args.v (seen c.enter_iteration.new.state) (seen c.perform_ahead.new.state) (flow_of c.in_ok-flow.flow) c.in_ok-flow.ensures c.in_ok-saved.ensures.above

pub parallel_stage-returns : goal.parallel_stage-returns
parallel_stage-returns g t c = item_gives (region_of c.args.region.now) c.args.v (staged_ahead (here c.args.self.now.program.now c.args.self.now.limit c.args.self.now.depth) (consumers_of c.args.consumers.now) (scope_of c.args.scope.now) c.args.stage.now.form (drop c.args.from c.args.stages.now) c.args.v) (seen c.args.state.now) (stage_is c.args.self.now.program.now c.args.self.now.limit c.args.self.now.depth (consumers_of c.args.consumers.now) (region_of c.args.region.now) (scope_of c.args.scope.now) c.args.stage.now (drop c.args.from c.args.stages.now) c.args.v (seen c.args.state.now)) (seen c.enter_iteration.new.state) (seen c.perform_ahead.new.state) (seen c.leave_iteration.new.state) (saved_of c.in_ok-saved.saved) (flow_of c.in_ok-flow.flow) c.in_ok-saved.ensures.told c.in_ok-flow.ensures c.in_ok-leave_iteration.ensures

pub parallel_stage-returns-in_err-saved : goal.parallel_stage-returns-in_err-saved
unfolding bind pure
parallel_stage-returns-in_err-saved g t c =
    let next = stage_is c.args.self.now.program.now c.args.self.now.limit c.args.self.now.depth (consumers_of c.args.consumers.now) (region_of c.args.region.now) (scope_of c.args.scope.now) c.args.stage.now (drop c.args.from c.args.stages.now) c.args.v (seen c.args.state.now) in
    grind (arith, common_steps, next)

pub parallel_stage-returns-in_err-flow : goal.parallel_stage-returns-in_err-flow
unfolding bind pure
parallel_stage-returns-in_err-flow g t c =
    let next = stage_is c.args.self.now.program.now c.args.self.now.limit c.args.self.now.depth (consumers_of c.args.consumers.now) (region_of c.args.region.now) (scope_of c.args.scope.now) c.args.stage.now (drop c.args.from c.args.stages.now) c.args.v (seen c.args.state.now) in
    grind (arith, common_steps, next)

pub parallel_stage-returns-in_err-leave_iteration : goal.parallel_stage-returns-in_err-leave_iteration
unfolding bind pure
parallel_stage-returns-in_err-leave_iteration g t c =
    let next = stage_is c.args.self.now.program.now c.args.self.now.limit c.args.self.now.depth (consumers_of c.args.consumers.now) (region_of c.args.region.now) (scope_of c.args.scope.now) c.args.stage.now (drop c.args.from c.args.stages.now) c.args.v (seen c.args.state.now) in
    grind (arith, common_steps, next)

pub perform_inside-returns : goal.perform_inside-returns
perform_inside-returns g t c = region_gives (staged (here c.args.self.now.program.now c.args.self.now.limit c.args.self.now.depth) (consumers_of c.args.consumers.now) (scope_of c.args.scope.now) c.args.form.now (Some (region_of c.args.region.now)) (drop c.args.from c.args.stages.now) c.args.v) (seen c.args.state.now) (seen c.start_region-begun.new.state) c.start_region-begun.result.outside c.start_region-begun.result.reached c.start_region-begun.ensures.new c.start_region-begun.ensures.outside c.start_region-begun.ensures.reached (seen c.perform.new.state) (seen c.finish_region.new.state) (flow_of c.in_ok-flow.flow) c.in_ok-flow.ensures c.in_ok-finish_region.ensures

pub perform_inside-returns-in_err-flow : goal.perform_inside-returns-in_err-flow
unfolding bind pure
perform_inside-returns-in_err-flow g t c =
    let next = begins (staged (here c.args.self.now.program.now c.args.self.now.limit c.args.self.now.depth) (consumers_of c.args.consumers.now) (scope_of c.args.scope.now) c.args.form.now (Some (region_of c.args.region.now)) (drop c.args.from c.args.stages.now) c.args.v) (seen c.args.state.now) (seen c.start_region-begun.new.state) c.start_region-begun.result.outside c.start_region-begun.result.reached c.start_region-begun.ensures.new c.start_region-begun.ensures.outside c.start_region-begun.ensures.reached in
    grind (arith, common_steps, next)

pub perform_inside-returns-in_err-finish_region : goal.perform_inside-returns-in_err-finish_region
unfolding bind pure
perform_inside-returns-in_err-finish_region g t c =
    let next = begins (staged (here c.args.self.now.program.now c.args.self.now.limit c.args.self.now.depth) (consumers_of c.args.consumers.now) (scope_of c.args.scope.now) c.args.form.now (Some (region_of c.args.region.now)) (drop c.args.from c.args.stages.now) c.args.v) (seen c.args.state.now) (seen c.start_region-begun.new.state) c.start_region-begun.result.outside c.start_region-begun.result.reached c.start_region-begun.ensures.new c.start_region-begun.ensures.outside c.start_region-begun.ensures.reached in
    grind (arith, common_steps, next)

pub perform_ahead-returns-in-None : goal.perform_ahead-returns-in-None
perform_ahead-returns-in-None g t c =
    let run : Option Region → Run Flow = λ r. staged (here c.args.self.now.program.now c.args.self.now.limit c.args.self.now.depth) (consumers_of c.args.consumers.now) (scope_of c.args.scope.now) c.args.form.now r (drop c.args.from c.args.stages.now) c.args.v in
    let none : parallel_part (drop c.args.from c.args.stages.now) ≡ [] = ap (λ (l : List Stage). parallel_part (drop c.args.from l)) (sym c.as_slice.ensures) ∙ c.in-None.ensures in
    subst (λ (o : Outcome Flow). TellsFlow o c.perform.result c.perform.new.state)
    (sym (ahead_none (here c.args.self.now.program.now c.args.self.now.limit c.args.self.now.depth) (consumers_of c.args.consumers.now) (scope_of c.args.scope.now) run (parallel_part (drop c.args.from c.args.stages.now)) (seen c.args.state.now) none))
    c.perform.ensures

pub perform_ahead-returns-in-Ok : goal.perform_ahead-returns-in-Ok
unfolding bind
perform_ahead-returns-in-Ok g t c =
    let run : Option Region → Run Flow = λ r. staged (here c.args.self.now.program.now c.args.self.now.limit c.args.self.now.depth) (consumers_of c.args.consumers.now) (scope_of c.args.scope.now) c.args.form.now r (drop c.args.from c.args.stages.now) c.args.v in
    let there : c.in-Some.place < length c.args.stages.now = subst (λ (l : List Stage). c.in-Some.place < length l) c.as_slice.ensures c.in-Some.ensures.0 in
    let parts : parallel_part (drop c.args.from c.args.stages.now) ≡ drop c.in-Some.place c.args.stages.now =
    ap (λ (l : List Stage). parallel_part (drop c.args.from l)) (sym c.as_slice.ensures) ∙ c.in-Some.ensures.1 ∙ ap (λ (l : List Stage). drop c.in-Some.place l) c.as_slice.ensures in
    let begins = ahead_some (here c.args.self.now.program.now c.args.self.now.limit c.args.self.now.depth) (consumers_of c.args.consumers.now) (scope_of c.args.scope.now) run c.args.stages.now (parallel_part (drop c.args.from c.args.stages.now)) c.in-Some.place (seen c.args.state.now) there parts in
    subst (λ (o : Outcome Flow). TellsFlow o c.perform_inside.result c.perform_inside.new.state)
    (sym (begins ∙ ap (λ (p : Outcome Region). and_then p (λ region. in_place.region region (run (Some region)))) c.in-Ok.ensures))
    c.perform_inside.ensures

pub perform_ahead-returns-in-Err : goal.perform_ahead-returns-in-Err
unfolding bind
perform_ahead-returns-in-Err g t c = λ known.
    let run : Option Region → Run Flow = λ r. staged (here c.args.self.now.program.now c.args.self.now.limit c.args.self.now.depth) (consumers_of c.args.consumers.now) (scope_of c.args.scope.now) c.args.form.now r (drop c.args.from c.args.stages.now) c.args.v in
    let there : c.in-Some.place < length c.args.stages.now = subst (λ (l : List Stage). c.in-Some.place < length l) c.as_slice.ensures c.in-Some.ensures.0 in
    let parts : parallel_part (drop c.args.from c.args.stages.now) ≡ drop c.in-Some.place c.args.stages.now =
    ap (λ (l : List Stage). parallel_part (drop c.args.from l)) (sym c.as_slice.ensures) ∙ c.in-Some.ensures.1 ∙ ap (λ (l : List Stage). drop c.in-Some.place l) c.as_slice.ensures in
    let begins = ahead_some (here c.args.self.now.program.now c.args.self.now.limit c.args.self.now.depth) (consumers_of c.args.consumers.now) (scope_of c.args.scope.now) run c.args.stages.now (parallel_part (drop c.args.from c.args.stages.now)) c.in-Some.place (seen c.args.state.now) there parts in
    begins ∙ ap (λ (p : Outcome Region). and_then p (λ region. in_place.region region (run (Some region)))) (c.in-Err.ensures known)

pub perform-returns-in-On : goal.perform-returns-in-On
perform-returns-in-On g t c =
    subst (λ (o : Outcome Flow). TellsFlow o c.through.result c.through.new.state)
    (sym (staged_on (here c.args.self.now.program.now c.args.self.now.limit c.args.self.now.depth) (consumers_of c.args.consumers.now) (scope_of c.args.scope.now) (region_at c.args.region) (drop c.args.from c.args.stages.now) c.args.form.now c.args.v c.in-On.v (seen c.args.state.now) (seen c.pass.new.state) (rw c.in-On.is at c.in-Ok.ensures)))
    c.through.ensures

pub perform-returns-in-Left : goal.perform-returns-in-Left
perform-returns-in-Left g t c = staged_left (here c.args.self.now.program.now c.args.self.now.limit c.args.self.now.depth) (consumers_of c.args.consumers.now) (scope_of c.args.scope.now) (region_at c.args.region) (drop c.args.from c.args.stages.now) c.args.form.now c.args.v (flow_of c.in-Left.flow) (seen c.args.state.now) (seen c.pass.new.state) (rw c.in-Left.is at c.in-Ok.ensures)

pub perform-returns-in-Err : goal.perform-returns-in-Err
perform-returns-in-Err g t c = λ n. staged_stops (here c.args.self.now.program.now c.args.self.now.limit c.args.self.now.depth) (consumers_of c.args.consumers.now) (scope_of c.args.scope.now) (region_at c.args.region) (drop c.args.from c.args.stages.now) c.args.form.now c.args.v (why_of c.in-Err.why) (seen c.args.state.now) (seen c.pass.new.state) (c.in-Err.ensures n)

pub through-returns-in-InParallel : goal.through-returns-in-InParallel
through-returns-in-InParallel g t c =
    subst (λ (o : Outcome Flow). TellsFlow o c.joined.result c.joined.new.state)
    (sym (c.stages.invariant.1 ∙ reaches_next (here c.args.self.now.program.now c.args.self.now.limit c.args.self.now.depth) (consumers_of c.args.consumers.now) (scope_of c.args.scope.now) (region_at c.args.region) c.args.stages.now c.stages.at c.in-Some.stage.now c.stages.passed (seen c.stages.state) (sym c.in-Some.ensures.value) c.in-InParallel.is))
    c.joined.ensures

pub through-stages-preserved : goal.through-stages-preserved
through-stages-preserved g t c =
    let before = c.stages.invariant.0 in
    let more : c.args.place ≤ c.stages.at + 1 = omega (arith, before) in
    (more, c.stages.invariant.1 ∙ passes_on (here c.args.self.now.program.now c.args.self.now.limit c.args.self.now.depth) (consumers_of c.args.consumers.now) (scope_of c.args.scope.now) (region_at c.args.region) c.args.stages.now c.stages.at c.in-Some.stage.now c.stages.passed (seen c.stages.state) (sym c.in-Some.ensures.value) c.in-On.v (seen c.pass.new.state) c.in-InTurn.is (rw c.in-On.is at c.in-Ok.ensures))

pub through-returns-in-Left : goal.through-returns-in-Left
through-returns-in-Left g t c = c.stages.invariant.1 ∙ passes_left (here c.args.self.now.program.now c.args.self.now.limit c.args.self.now.depth) (consumers_of c.args.consumers.now) (scope_of c.args.scope.now) (region_at c.args.region) c.args.stages.now c.stages.at c.in-Some.stage.now c.stages.passed (seen c.stages.state) (sym c.in-Some.ensures.value) (flow_of c.in-Left.flow) (seen c.pass.new.state) c.in-InTurn.is (rw c.in-Left.is at c.in-Ok.ensures)

pub through-returns-in-Err : goal.through-returns-in-Err
through-returns-in-Err g t c = λ n. c.stages.invariant.1 ∙ passes_none (here c.args.self.now.program.now c.args.self.now.limit c.args.self.now.depth) (consumers_of c.args.consumers.now) (scope_of c.args.scope.now) (region_at c.args.region) c.args.stages.now c.stages.at c.in-Some.stage.now c.stages.passed (seen c.stages.state) (sym c.in-Some.ensures.value) (why_of c.in-Err.why) (seen c.pass.new.state) c.in-InTurn.is (c.in-Err.ensures n)

pub looped_stages-returns-in-None : goal.looped_stages-returns-in-None
looped_stages-returns-in-None g t c =
    subst (λ (o : Outcome Flow). TellsFlow o c.turns_within.result c.turns_within.new.state)
    (sym (rw c.in-None.is at c.in-Ok.ensures))
    c.turns_within.ensures

pub turns_within-returns : goal.turns_within-returns
turns_within-returns g t c =
    ap (λ (s : State). turns_from (here c.args.self.now.program.now c.args.self.now.limit c.args.self.now.depth) (turn_of (here c.args.self.now.program.now c.args.self.now.limit c.args.self.now.depth) (consumers_of c.args.consumers.now) (Stages (scope_of c.args.scope.now) (region_at c.args.region) (drop c.args.from c.args.stages.now))) c.args.begins s) (sym c.nest.ensures)
    ∙ c.in_ok-flow.ensures
    ∙ ap (λ (s : State). Gives (flow_of c.in_ok-flow.flow) s) (sym c.unnest.ensures)

pub stage_loop-returns : goal.stage_loop-returns
unfolding bind pure
stage_loop-returns g t c =
    ap (λ (o : Outcome Flow). and_then (and_then o (λ flow s. Gives (after_loop flow) s)) (λ flow s. Gives (Ended flow) s)) c.in_ok-flow.ensures
    ∙ ap (λ (flow : Flow). Gives (Ended flow) (seen c.looped_stages.new.state)) (sym c.after_loop.ensures)
