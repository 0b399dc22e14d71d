use Rattle.std.proofs.Common.{◌≡◌, option_map, drop}
use Rattle.std.specs.Int.{int_min}
use Rattle.codon_base.specs.Operators.{chosen_from, ints_in}
use Rattle.value_operators.proofs.Choosing.{chosen_after}
use Rattle.value_operators.proofs.extreme.least_of.Given as goal

abbrev pub invariant-least : goal.invariant-least
invariant-least l = option_map (chosen_after int_min l.best) (ints_in (drop l.value-index l.values)) ≡ option_map (chosen_from int_min) (ints_in l.values)
