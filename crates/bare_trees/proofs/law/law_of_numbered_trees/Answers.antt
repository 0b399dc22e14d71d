use Rattle.bare_trees.proofs.RestoreSources.{one_numbered}
use Rattle.bare_trees.proofs.law.law_of_numbered_trees.Goals as goal

pub returns : goal.returns
returns c = one_numbered
