use Rattle.std.proofs.Common.{◌≡◌, map, take}
use Rattle.plain_interpreter.specs.Seen.{names_of}
use Rattle.plain_interpreter.proofs.state.Names.held.Given as goal

abbrev pub invariant-own : goal.invariant-own
invariant-own l = l.held.items ≡ map (names_of l.self) (map (λ name. name.spelling) (take l.name-index l.name-items))
