use Rattle.std.proofs.Common.{◌≡◌, [], drop}
use Rattle.meaning_rules.specs.Calls as spec
use Rattle.plain_interpreter.proofs.GivenValues.{more}
use Rattle.plain_interpreter.proofs.arguments.arguments.Given as goal

abbrev pub invariant-params : goal.invariant-params
invariant-params l = spec.arguments l.params l.fn.given ≡ more l.all (spec.arguments (drop l.param-index l.rest) [])
