use Rattle.std.proofs.Common.{◌≡◌, ◌<◌, ◌∙◌, ap, sym, subst, List, [], length, drop, Option, Some}
use Rattle.source_trees.specs.declared.pipeline.Stage.{Stage}
use Rattle.meaning_rules.specs.State.{Flow}
use Rattle.meaning_rules.specs.Outcome.{Outcome, Run, and_then, bind}
use Rattle.meaning_rules.specs.Iterations.{in_place}
use Rattle.meaning_rules.specs.Pipelines.{parallel_part, from_head}
use Rattle.plain_interpreter.specs.Seen.{seen, TellsFlow}
use Rattle.plain_interpreter.specs.Scopes.{scope_of}
use Rattle.meaning_rules.specs.Task.{Region}
use Rattle.plain_interpreter.specs.Tasks.{here, consumers_of}
use Rattle.plain_interpreter.proofs.Ahead.{ahead_some, ahead_none}
use Rattle.plain_interpreter.proofs.runner.Runner.pipeline.Goals as goal

pub returns-in-None : goal.returns-in-None
returns-in-None g c =
    let run : Option Region → Run Flow = from_head (here c.args.self.now.program.now c.args.self.now.limit c.args.self.now.depth) (consumers_of c.args.consumers.now) (scope_of c.args.scope.now) c.args.head.now c.args.stages.now in
    let none : parallel_part c.args.stages.now ≡ [] = ap (λ (l : List Stage). parallel_part l) (sym c.as_slice.ensures) ∙ c.in-None.ensures in
    subst (λ (o : Outcome Flow). TellsFlow o c.from_head.result c.from_head.new.state)
    (sym (ahead_none (here c.args.self.now.program.now c.args.self.now.limit c.args.self.now.depth) (consumers_of c.args.consumers.now) (scope_of c.args.scope.now) run (parallel_part c.args.stages.now) (seen c.args.state.now) none))
    c.from_head.ensures

pub returns-in-Ok : goal.returns-in-Ok
unfolding bind
returns-in-Ok g c =
    let run : Option Region → Run Flow = from_head (here c.args.self.now.program.now c.args.self.now.limit c.args.self.now.depth) (consumers_of c.args.consumers.now) (scope_of c.args.scope.now) c.args.head.now c.args.stages.now in
    let there : c.in-Some.place < length c.args.stages.now = subst (λ (l : List Stage). c.in-Some.place < length l) c.as_slice.ensures c.in-Some.ensures.0 in
    let parts : parallel_part c.args.stages.now ≡ drop c.in-Some.place c.args.stages.now =
    ap (λ (l : List Stage). parallel_part l) (sym c.as_slice.ensures) ∙ c.in-Some.ensures.1 ∙ ap (λ (l : List Stage). drop c.in-Some.place l) c.as_slice.ensures in
    let begins = ahead_some (here c.args.self.now.program.now c.args.self.now.limit c.args.self.now.depth) (consumers_of c.args.consumers.now) (scope_of c.args.scope.now) run c.args.stages.now (parallel_part c.args.stages.now) c.in-Some.place (seen c.args.state.now) there parts in
    subst (λ (o : Outcome Flow). TellsFlow o c.pipeline_inside.result c.pipeline_inside.new.state)
    (sym (begins ∙ ap (λ (p : Outcome Region). and_then p (λ region. in_place.region region (run (Some region)))) c.in-Ok.ensures))
    c.pipeline_inside.ensures

pub returns-in-Err : goal.returns-in-Err
unfolding bind
returns-in-Err g c = λ known.
    let run : Option Region → Run Flow = from_head (here c.args.self.now.program.now c.args.self.now.limit c.args.self.now.depth) (consumers_of c.args.consumers.now) (scope_of c.args.scope.now) c.args.head.now c.args.stages.now in
    let there : c.in-Some.place < length c.args.stages.now = subst (λ (l : List Stage). c.in-Some.place < length l) c.as_slice.ensures c.in-Some.ensures.0 in
    let parts : parallel_part c.args.stages.now ≡ drop c.in-Some.place c.args.stages.now =
    ap (λ (l : List Stage). parallel_part l) (sym c.as_slice.ensures) ∙ c.in-Some.ensures.1 ∙ ap (λ (l : List Stage). drop c.in-Some.place l) c.as_slice.ensures in
    let begins = ahead_some (here c.args.self.now.program.now c.args.self.now.limit c.args.self.now.depth) (consumers_of c.args.consumers.now) (scope_of c.args.scope.now) run c.args.stages.now (parallel_part c.args.stages.now) c.in-Some.place (seen c.args.state.now) there parts in
    begins ∙ ap (λ (p : Outcome Region). and_then p (λ region. in_place.region region (run (Some region)))) (c.in-Err.ensures known)
