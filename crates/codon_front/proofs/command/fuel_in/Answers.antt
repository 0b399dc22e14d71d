use Rattle.std.proofs.Common.{sym, ap, ◌∙◌}
use Rattle.codon_front.specs.Command.{is_number_word}
use Rattle.codon_front.proofs.Words.{no_fuel}
use Rattle.codon_front.proofs.command.fuel_in.Goals as goal

pub returns-in_default-2 : goal.returns-in_default-2
returns-in_default-2 c =
    no_fuel c.args.word.now (ap is_number_word (sym c.as_bytes.ensures.value) ∙ sym c.is_number_word.ensures ∙ c.if-not-is_number_word.false) c.in_default.ensures.value.0
