use Rattle.std.proofs.Common.{◌≡◌, ◌++◌, drop, map}
use Rattle.plain_interpreter.proofs.bodies.push_all.Given as goal

abbrev pub invariant-all : goal.invariant-all
invariant-all l = l.fn.names ++ map (λ name. name.spelling) l.all ≡ l.names ++ map (λ name. name.spelling) (drop l.name-index l.all)
