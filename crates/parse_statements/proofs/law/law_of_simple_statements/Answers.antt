use Rattle.parse_statements.proofs.Simples.{simple_law}
use Rattle.parse_statements.proofs.law.law_of_simple_statements.Goals as goal

pub returns : goal.returns
returns c = simple_law
