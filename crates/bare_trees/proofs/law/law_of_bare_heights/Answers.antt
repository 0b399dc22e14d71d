use Rattle.bare_trees.proofs.BareHeights.{same_module}
use Rattle.bare_trees.proofs.law.law_of_bare_heights.Goals as goal

pub returns : goal.returns
returns c = same_module
