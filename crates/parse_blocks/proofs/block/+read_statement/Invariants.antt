use Rattle.parse_blocks.proofs.block.+read_statement.Given as goal

abbrev pub decreases-read_statement : goal.decreases-read_statement
decreases-read_statement l = l.room
