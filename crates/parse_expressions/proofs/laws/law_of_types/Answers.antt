use Rattle.parse_expressions.proofs.Types.{type_opens, type_viable}
use Rattle.parse_expressions.proofs.TypeLaw.{type_law}
use Rattle.parse_expressions.proofs.laws.law_of_types.Goals as goal

pub returns-clause-exact : goal.returns-clause-exact
returns-clause-exact c = type_law

pub returns-clause-opens : goal.returns-clause-opens
returns-clause-opens c = type_opens

pub returns-clause-viable : goal.returns-clause-viable
returns-clause-viable c = type_viable
