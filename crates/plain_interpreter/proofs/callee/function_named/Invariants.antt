use Rattle.std.proofs.Common.{◌≡◌, drop}
use Rattle.meaning_rules.specs.Program as spec
use Rattle.plain_interpreter.specs.Callees.{functions_in}
use Rattle.plain_interpreter.proofs.callee.function_named.Given as goal

abbrev pub invariant-functions : goal.invariant-functions
invariant-functions l = spec.function_named l.name (functions_in l.functions) ≡ spec.function_named l.name (functions_in (drop l.known-index l.functions))
