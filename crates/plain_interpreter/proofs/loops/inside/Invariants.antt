use Rattle.std.proofs.Common.{◌≡◌, ◌∷◌, take}
use Rattle.plain_interpreter.proofs.loops.inside.Given as goal

abbrev pub invariant-consumers : goal.invariant-consumers
invariant-consumers l = l.all.items ≡ l.fn.top ∷ take l.each-index l.consumers
