use Rattle.meaning_rules.proofs.Waiting.{keeps_waiting as the_law}
use Rattle.meaning_rules.proofs.law.keeps_waiting.Goals as goal

pub returns : goal.returns
returns c = the_law c.args._module.now
