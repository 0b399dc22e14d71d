use Rattle.parse_blocks.proofs.Statements.{law_statement, law_stmts, law_block}
use Rattle.parse_blocks.proofs.law.law_of_statements.Goals as goal

pub returns-clause-statement : goal.returns-clause-statement
returns-clause-statement c = law_statement

pub returns-clause-statements : goal.returns-clause-statements
returns-clause-statements c = law_stmts

pub returns-clause-block : goal.returns-clause-block
returns-clause-block c = law_block
