use Rattle.plain_interpreter.proofs.plain.+run_to.Given as goal

abbrev pub decreases-run_to : goal.decreases-run_to
decreases-run_to l = l.depth
