use Rattle.bare_trees.proofs.Derived.{derived_bare}
use Rattle.bare_trees.proofs.law.law_of_derived_trees.Goals as goal

pub returns : goal.returns
returns c = derived_bare
