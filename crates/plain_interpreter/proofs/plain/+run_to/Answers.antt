use Rattle.std.proofs.Common.{◌≡◌, ap, arith}
use Rattle.meaning_rules.specs.Meaning.{run}
use Rattle.meaning_rules.specs.Outcome.{stop}
use Rattle.plain_interpreter.specs.Seen.{seen}
use Rattle.plain_interpreter.specs.Tasks.{lower, consumers_of, task_of}
use Rattle.plain_interpreter.proofs.Deeper.{deeper}
use Rattle.plain_interpreter.proofs.plain.+run_to.Goals as goal

pub returns-then-depth-eq0 : goal.returns-then-depth-eq0
unfolding run lower stop
returns-then-depth-eq0 t c _ = let none : c.args.depth ≡ 0 = omega arith in ap (λ n. lower c.args.program.now c.args.limit n (consumers_of c.args.consumers.now) (task_of c.args.task) (seen c.args.state.now)) none

pub returns : goal.returns
unfolding run lower
returns t c = rw (deeper (λ n. lower c.args.program.now c.args.limit n (consumers_of c.args.consumers.now) (task_of c.args.task) (seen c.args.state.now)) c.args.depth (omega arith)) c.task.ensures
