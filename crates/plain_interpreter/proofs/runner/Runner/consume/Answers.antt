use Rattle.plain_interpreter.proofs.runner.Runner.consume.Goals as goal

pub returns-in-Parallel : goal.returns-in-Parallel
returns-in-Parallel g c = rw c.in-Parallel.is c.parallel_turn.ensures
