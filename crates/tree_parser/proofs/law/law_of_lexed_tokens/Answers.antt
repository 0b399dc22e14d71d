use Rattle.tree_parser.proofs.Counts.{few_tokens}
use Rattle.tree_parser.proofs.Parsed.{lexed_hold_end}
use Rattle.tree_parser.proofs.law.law_of_lexed_tokens.Goals as goal

pub returns-clause-holds_end : goal.returns-clause-holds_end
returns-clause-holds_end c = lexed_hold_end

pub returns-clause-few : goal.returns-clause-few
returns-clause-few c = few_tokens
