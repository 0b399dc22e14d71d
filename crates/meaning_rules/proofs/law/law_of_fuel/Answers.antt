use Rattle.meaning_rules.proofs.LawsHold.{law as the_law}
use Rattle.meaning_rules.proofs.law.law_of_fuel.Goals as goal

pub returns : goal.returns
returns c = the_law c.args._module.now
