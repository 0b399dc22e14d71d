use Rattle.std.proofs.Common.{◌≡◌, suc, drop}
use Rattle.meaning_rules.specs.Expressions.{condition}
use Rattle.meaning_rules.specs.Iterations.{in_place}
use Rattle.meaning_rules.specs.Loops.{turns, while_next}
use Rattle.plain_interpreter.specs.Cursors.{next_by}
use Rattle.meaning_rules.specs.Statements.{statements}
use Rattle.meaning_rules.specs.Meaning.{turn_of}
use Rattle.plain_interpreter.specs.Steps.{chosen, while_of, for_of, turns_from}
use Rattle.plain_interpreter.specs.Seen.{seen}
use Rattle.plain_interpreter.specs.Scopes.{scope_of}
use Rattle.meaning_rules.specs.Outcome.{and_then}
use Rattle.meaning_rules.specs.Task.{Body, Parallel}
use Rattle.plain_interpreter.specs.Tasks.{here, consumers_of, region_of}
use Rattle.plain_interpreter.proofs.LoopEnds.{loop_ends}
use Rattle.plain_interpreter.proofs.runner.Runner.+statement.Given as goal

abbrev pub invariant-block-statements : goal.invariant-block-statements
invariant-block-statements g l =
    let at = here l.self.program.now l.self.limit l.self.depth in
    statements at (consumers_of l.consumers) (scope_of l.scope) l.each-items (seen l.fn.state) ≡ statements at (consumers_of l.consumers) (scope_of l.scope) (drop l.each-index l.each-items) (seen l.state)

abbrev pub invariant-choose-arms : goal.invariant-choose-arms
invariant-choose-arms g l =
    let at = here l.self.program.now l.self.limit l.self.depth in
    chosen at (consumers_of l.consumers) (scope_of l.scope) l.arm-items l.otherwise (seen l.fn.state) ≡ chosen at (consumers_of l.consumers) (scope_of l.scope) (drop l.arm-index l.arm-items) l.otherwise (seen l.state)

abbrev pub invariant-while_loop-turns : goal.invariant-while_loop-turns
invariant-while_loop-turns g l =
    let at = here l.self.program.now l.self.limit l.self.depth in
    while_of at (consumers_of l.consumers) (scope_of l.scope) l.e l.body (seen l.fn.state)
    ≡ turns (while_next l.self.limit (condition at (scope_of l.scope) l.e)) (λ _. statements at (consumers_of l.consumers) (scope_of l.scope) l.body) (suc l.left) tt (seen l.state)

abbrev pub decreases-while_loop-turns : goal.decreases-while_loop-turns
decreases-while_loop-turns g l = l.left

-- what the turns from the cursor on give, and how the loop ends then
abbrev pub invariant-for_turns-turns : goal.invariant-for_turns-turns
invariant-for_turns-turns g l =
    let at = here l.self.program.now l.self.limit l.self.depth in
    let turn = turn_of at (consumers_of l.consumers) (Body (scope_of l.scope) l.l.names l.l.body) in
    for_of at (consumers_of l.consumers) (scope_of l.scope) l.l (seen l.fn.state) ≡ and_then (turns (next_by in_place l.self.limit) turn (suc l.left) l.cursor (seen l.state)) loop_ends

abbrev pub decreases-for_turns-turns : goal.decreases-for_turns-turns
decreases-for_turns-turns g l = l.left

abbrev pub invariant-parallel_turns-turns : goal.invariant-parallel_turns-turns
invariant-parallel_turns-turns g l =
    let at = here l.self.program.now l.self.limit l.self.depth in
    let turn = turn_of at (consumers_of l.consumers) (Parallel (region_of l.region) (scope_of l.inner) l.l.names l.l.body) in
    turns_from at turn l.initial.cursor (seen l.initial.state) ≡ turns (next_by in_place l.self.limit) turn (suc l.left) l.cursor (seen l.state)

abbrev pub decreases-parallel_turns-turns : goal.decreases-parallel_turns-turns
decreases-parallel_turns-turns g l = l.left
