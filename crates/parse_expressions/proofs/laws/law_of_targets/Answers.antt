use Rattle.parse_expressions.proofs.TargetLaw.{target_law, target_opens, target_viable}
use Rattle.parse_expressions.proofs.laws.law_of_targets.Goals as goal

pub returns-clause-exact : goal.returns-clause-exact
returns-clause-exact c = target_law

pub returns-clause-opens : goal.returns-clause-opens
returns-clause-opens c = target_opens

pub returns-clause-viable : goal.returns-clause-viable
returns-clause-viable c = target_viable
