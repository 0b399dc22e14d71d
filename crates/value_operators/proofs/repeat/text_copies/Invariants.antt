use Rattle.std.proofs.Common.{◌≡◌}
use Rattle.codon_base.specs.Sequences.{repeated}
use Rattle.value_operators.proofs.repeat.text_copies.Given as goal

abbrev pub invariant-repeat : goal.invariant-repeat
invariant-repeat l = l.made ≡ repeated l._turn l.text
