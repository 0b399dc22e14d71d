use Rattle.parse_blocks.proofs.Whole.{exact_with}
use Rattle.parse_blocks.proofs.law.law_of_readers.Goals as goal

pub returns : goal.returns
returns c = exact_with
