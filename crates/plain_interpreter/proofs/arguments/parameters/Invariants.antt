use Rattle.std.proofs.Common.{◌≡◌, drop}
use Rattle.meaning_rules.specs.Calls as spec
use Rattle.plain_interpreter.proofs.GivenValues.{held_then}
use Rattle.plain_interpreter.proofs.arguments.parameters.Given as goal

abbrev pub invariant-params : goal.invariant-params
invariant-params l = spec.parameters l.params l.fn.given ≡ held_then l.entries.items (spec.parameters (drop l.param-index l.params) l.rest)
