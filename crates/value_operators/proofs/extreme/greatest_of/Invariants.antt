use Rattle.std.proofs.Common.{◌≡◌, option_map, drop}
use Rattle.std.specs.Int.{int_max}
use Rattle.codon_base.specs.Operators.{chosen_from, ints_in}
use Rattle.value_operators.proofs.Choosing.{chosen_after}
use Rattle.value_operators.proofs.extreme.greatest_of.Given as goal

abbrev pub invariant-greatest : goal.invariant-greatest
invariant-greatest l = option_map (chosen_after int_max l.best) (ints_in (drop l.value-index l.values)) ≡ option_map (chosen_from int_max) (ints_in l.values)
