use Rattle.std.proofs.Common.{◌≡◌, ◌++◌, drop}
use Rattle.meaning_rules.specs.Captures as spec
use Rattle.plain_interpreter.specs.Scopes.{scope_of}
use Rattle.plain_interpreter.proofs.captures.own_of.Given as goal

abbrev pub invariant-own : goal.invariant-own
invariant-own l =
    spec.own_of l.local (scope_of l.scope) l.own ≡ l.names ++ spec.own_of l.local (scope_of l.scope) (drop l.name-index l.own)
