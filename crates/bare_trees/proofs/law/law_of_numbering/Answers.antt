use Rattle.bare_trees.proofs.Numbering.{has_numbered}
use Rattle.bare_trees.proofs.law.law_of_numbering.Goals as goal

pub returns : goal.returns
returns c = has_numbered
