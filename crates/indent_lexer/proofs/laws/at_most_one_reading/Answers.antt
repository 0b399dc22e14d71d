use Rattle.indent_lexer.proofs.OneReading.{lists, apart, refusals}
use Rattle.indent_lexer.proofs.laws.at_most_one_reading.Goals as goal

pub returns : goal.returns
returns c = record { list = lists; apart = apart; refusal = refusals }
