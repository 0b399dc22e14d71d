use Rattle.std.proofs.Common.{◌≡◌, ◌≤◌, ◌+◌, ◌-◌, ◌*◌, suc, drop, length}
use Rattle.meaning_rules.specs.Iterations.{in_place}
use Rattle.meaning_rules.specs.Loops.{turns}
use Rattle.meaning_rules.specs.Pipelines.{through}
use Rattle.plain_interpreter.specs.Cursors.{next_by}
use Rattle.meaning_rules.specs.Meaning.{turn_of}
use Rattle.plain_interpreter.specs.Steps.{turns_from}
use Rattle.meaning_rules.specs.Task.{Stages}
use Rattle.plain_interpreter.specs.Seen.{seen}
use Rattle.plain_interpreter.specs.Scopes.{scope_of}
use Rattle.plain_interpreter.specs.Tasks.{here, consumers_of, region_at}
use Rattle.plain_interpreter.proofs.runner.Runner.+pipeline.Given as goal

-- the stages that are left, and then the steps within a stage
abbrev pub decreases-through : goal.decreases-through
decreases-through g l = 12 * (length l.stages.now - l.place)

abbrev pub decreases-turns_through : goal.decreases-turns_through
decreases-turns_through g l = 12 * (length l.stages.now - l.from) + 1

abbrev pub decreases-turns_within : goal.decreases-turns_within
decreases-turns_within g l = 12 * (length l.stages.now - l.from) + 2

abbrev pub decreases-looped_stages : goal.decreases-looped_stages
decreases-looped_stages g l = 12 * (length l.stages.now - l.from) + 3

abbrev pub decreases-stage_loop : goal.decreases-stage_loop
decreases-stage_loop g l = 12 * (length l.stages.now - l.from) + 4

abbrev pub decreases-call_stage : goal.decreases-call_stage
decreases-call_stage g l = 12 * (length l.stages.now - l.from) + 5

abbrev pub decreases-pass : goal.decreases-pass
decreases-pass g l = 12 * (length l.stages.now - l.from) + 6

abbrev pub decreases-perform : goal.decreases-perform
decreases-perform g l = 12 * (length l.stages.now - l.from) + 7

abbrev pub decreases-perform_inside : goal.decreases-perform_inside
decreases-perform_inside g l = 12 * (length l.stages.now - l.from) + 8

abbrev pub decreases-perform_ahead : goal.decreases-perform_ahead
decreases-perform_ahead g l = 12 * (length l.stages.now - l.from) + 9

abbrev pub decreases-parallel_stage : goal.decreases-parallel_stage
decreases-parallel_stage g l = 12 * (length l.stages.now - l.from) + 10

abbrev pub decreases-joined : goal.decreases-joined
decreases-joined g l = 12 * (length l.stages.now - l.from) + 11

abbrev pub invariant-through-stages : goal.invariant-through-stages
invariant-through-stages g l =
    let at = here l.self.program.now l.self.limit l.self.depth in
    (l.place ≤ l.at)
    × (through at (consumers_of l.consumers) (scope_of l.scope) (region_at l.region) (drop l.place l.stages) l.fn.v (seen l.fn.state)
    ≡ through at (consumers_of l.consumers) (scope_of l.scope) (region_at l.region) (drop l.at l.stages) l.passed (seen l.state))

abbrev pub decreases-through-stages : goal.decreases-through-stages
decreases-through-stages g l = length l.stages - l.at

abbrev pub invariant-turns_through-turns : goal.invariant-turns_through-turns
invariant-turns_through-turns g l =
    let at = here l.self.program.now l.self.limit l.self.depth in
    let turn = turn_of at (consumers_of l.consumers) (Stages (scope_of l.scope) (region_at l.region) (drop l.from l.stages)) in
    turns_from at turn l.fn.begins (seen l.fn.state) ≡ turns (next_by in_place l.self.limit) turn (suc l.left) l.cursor (seen l.state)

abbrev pub decreases-turns_through-turns : goal.decreases-turns_through-turns
decreases-turns_through-turns g l = l.left
