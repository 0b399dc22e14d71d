use Rattle.std.proofs.Common.{◌≡◌, length, take}
use Rattle.value_operators.proofs.change.shorten.Given as goal

abbrev pub invariant-shorten : goal.invariant-shorten
invariant-shorten l = take l.size l.values ≡ take l.size l.initial.values

abbrev pub decreases-shorten : goal.decreases-shorten
decreases-shorten l = length l.values
