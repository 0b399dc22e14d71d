use Rattle.codon_front.proofs.OneDue.{one_of_text}
use Rattle.codon_front.proofs.laws.law_of_dues.Goals as goal

pub returns : goal.returns
returns c = record { one = one_of_text }
