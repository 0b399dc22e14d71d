use Rattle.std.proofs.Common.{◌≡◌, drop, map}
use Rattle.std.specs.List.{list_all}
use Rattle.codon_base.specs.declared.value.Value.{out-Value}
use Rattle.meaning_rules.specs.Iterations.{is_number, lenders}
use Rattle.plain_interpreter.specs.Seen.{iteration_of}
use Rattle.plain_interpreter.proofs.sight.is_own_place.Given as goal

abbrev pub invariant-own : goal.invariant-own
invariant-own l =
    list_all (λ i. is_number l.place (out-Value i.item)) (lenders l.at (map iteration_of l.iterations))
    ≡ list_all (λ i. is_number l.place (out-Value i.item)) (lenders l.at (map iteration_of (drop l.iteration-index l.iterations)))
