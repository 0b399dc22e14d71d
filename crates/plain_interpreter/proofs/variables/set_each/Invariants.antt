use Rattle.std.proofs.Common.{◌≡◌, drop, map}
use Rattle.meaning_rules.specs.Variables as spec
use Rattle.plain_interpreter.specs.Seen.{seen}
use Rattle.plain_interpreter.specs.Scopes.{scope_of}
use Rattle.plain_interpreter.proofs.variables.set_each.Given as goal

abbrev pub invariant-names : goal.invariant-names
invariant-names l = spec.set_each (scope_of l.scope) (map (λ name. name.spelling) l.names) l.fn.items (seen l.fn.state) ≡ spec.set_each (scope_of l.scope) (map (λ name. name.spelling) (drop l.name-index l.names)) l.rest (seen l.state)
