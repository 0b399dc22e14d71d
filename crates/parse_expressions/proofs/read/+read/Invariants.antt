use Rattle.parse_expressions.proofs.read.+read.Given as goal

abbrev pub decreases-read : goal.decreases-read
decreases-read l = l.room
