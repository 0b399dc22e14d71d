use Rattle.std.proofs.Common.{◌≡◌, [], suc}
use Rattle.meaning_rules.specs.Iterations.{in_place}
use Rattle.meaning_rules.specs.Loops.{turns}
use Rattle.plain_interpreter.specs.Cursors.{next_by}
use Rattle.meaning_rules.specs.Meaning.{turn_of}
use Rattle.plain_interpreter.specs.Steps.{turns_from}
use Rattle.plain_interpreter.specs.Seen.{seen}
use Rattle.meaning_rules.specs.Task.{Gathered}
use Rattle.plain_interpreter.specs.Tasks.{here}
use Rattle.plain_interpreter.proofs.runner.Runner.append_turns.Given as goal

abbrev pub invariant-turns : goal.invariant-turns
invariant-turns g l =
    let at = here l.self.program.now l.self.limit l.self.depth in
    let turn = turn_of at [] (Gathered l.list) in
    turns_from at turn l.fn.from (seen l.fn.state) ≡ turns (next_by in_place l.self.limit) turn (suc l.left) l.cursor (seen l.state)

abbrev pub decreases-turns : goal.decreases-turns
decreases-turns g l = l.left
