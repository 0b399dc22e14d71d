use Rattle.parse_expressions.proofs.Least.{viable_at}
use Rattle.parse_expressions.proofs.Opens.{opens}
use Rattle.parse_expressions.proofs.Wholes.{read_law}
use Rattle.parse_expressions.proofs.laws.law_of_expressions.Goals as goal

pub returns-clause-exact : goal.returns-clause-exact
returns-clause-exact c = read_law

pub returns-clause-opens : goal.returns-clause-opens
returns-clause-opens c = opens

pub returns-clause-viable : goal.returns-clause-viable
returns-clause-viable c = viable_at
