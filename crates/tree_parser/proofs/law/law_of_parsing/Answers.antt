use Rattle.parse_statements.specs.Code.{readers}
use Rattle.parse_blocks.proofs.ExactReaders.{exact_readers}
use Rattle.parse_blocks.proofs.Trees.{decided_tree, apart_tree, only_tree, one_place}
use Rattle.tree_parser.proofs.law.law_of_parsing.Goals as goal

pub returns-clause-decided : goal.returns-clause-decided
returns-clause-decided c = decided_tree readers exact_readers

pub returns-clause-apart : goal.returns-clause-apart
returns-clause-apart c = apart_tree

pub returns-clause-one_tree : goal.returns-clause-one_tree
returns-clause-one_tree c = only_tree readers exact_readers

pub returns-clause-one_place : goal.returns-clause-one_place
returns-clause-one_place c = one_place
