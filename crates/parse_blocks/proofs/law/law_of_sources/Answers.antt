use Rattle.parse_blocks.proofs.Places.{decided, apart, one_tree}
use Rattle.parse_blocks.proofs.Sources.{source_law}
use Rattle.parse_blocks.proofs.law.law_of_sources.Goals as goal

pub returns-clause-exact : goal.returns-clause-exact
returns-clause-exact c = source_law

pub returns-clause-decided : goal.returns-clause-decided
returns-clause-decided c = decided

pub returns-clause-apart : goal.returns-clause-apart
returns-clause-apart c = apart

pub returns-clause-one_tree : goal.returns-clause-one_tree
returns-clause-one_tree c = one_tree
