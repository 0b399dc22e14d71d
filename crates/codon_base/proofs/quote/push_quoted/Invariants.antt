use Rattle.std.proofs.Common.{◌≡◌, ◌++◌, drop}
use Rattle.std.specs.List.{flat_map}
use Rattle.codon_base.specs.Printed.{escaped}
use Rattle.codon_base.proofs.quote.push_quoted.Given as goal

abbrev pub invariant-quoted : goal.invariant-quoted
invariant-quoted l = l.initial.to ++ flat_map (escaped l.quote) l.byte-items ≡ l.to ++ flat_map (escaped l.quote) (drop l.byte-index l.byte-items)
