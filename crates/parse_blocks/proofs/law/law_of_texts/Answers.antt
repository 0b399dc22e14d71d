use Rattle.parse_blocks.proofs.Texts.{tokens_text, decided_source, one_source}
use Rattle.parse_blocks.proofs.law.law_of_texts.Goals as goal

pub returns-clause-ended : goal.returns-clause-ended
returns-clause-ended c = tokens_text

pub returns-clause-one_tree : goal.returns-clause-one_tree
returns-clause-one_tree c = one_source

pub returns-clause-decided : goal.returns-clause-decided
returns-clause-decided c = decided_source
