use Rattle.std.proofs.Common.{◌≡◌, ◌++◌, drop}
use Rattle.std.specs.List.{filter}
use Rattle.std.specs.Prelude.{not}
use Rattle.meaning_rules.specs.State.{is_among}
use Rattle.plain_interpreter.specs.Scopes.{scope_of}
use Rattle.plain_interpreter.proofs.captures.push_not_fixed.Given as goal

abbrev pub invariant-assigned : goal.invariant-assigned
invariant-assigned l =
    l.fn.own ++ filter (λ name. not (is_among name (scope_of l.scope).fixed)) l.assigned ≡ l.own ++ filter (λ name. not (is_among name (scope_of l.scope).fixed)) (drop l.name-index l.assigned)
