use Rattle.parse_blocks.proofs.Trees.{decided_tree, apart_tree, only_tree, one_place}
use Rattle.parse_blocks.proofs.law.law_of_trees.Goals as goal

pub returns-clause-decided : goal.returns-clause-decided
returns-clause-decided c = decided_tree

pub returns-clause-apart : goal.returns-clause-apart
returns-clause-apart c = apart_tree

pub returns-clause-one_tree : goal.returns-clause-one_tree
returns-clause-one_tree c = only_tree

pub returns-clause-one_place : goal.returns-clause-one_place
returns-clause-one_place c = one_place
