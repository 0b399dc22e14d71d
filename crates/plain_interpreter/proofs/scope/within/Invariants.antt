use Rattle.std.proofs.Common.{◌≡◌, ◌∷◌, take}
use Rattle.plain_interpreter.proofs.scope.within.Given as goal

abbrev pub invariant-inner : goal.invariant-inner
invariant-inner l = l.all.items ≡ l.fn.top ∷ take l.each-index l.inner
