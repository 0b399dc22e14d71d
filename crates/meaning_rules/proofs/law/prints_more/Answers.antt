use Rattle.meaning_rules.proofs.LawsHold.{prints as the_law}
use Rattle.meaning_rules.proofs.law.prints_more.Goals as goal

pub returns : goal.returns
returns c = the_law c.args._module.now
