use Rattle.parse_statements.proofs.Lines.{lines_law}
use Rattle.parse_statements.proofs.law.law_of_lines.Goals as goal

pub returns : goal.returns
returns c = lines_law
