use Rattle.std.proofs.Common.{◌≡◌, ◌++◌, drop}
use Rattle.meaning_rules.specs.Program as spec
use Rattle.plain_interpreter.proofs.prepare.push_params.Given as goal

abbrev pub invariant-params : goal.invariant-params
invariant-params l = l.fn.names ++ spec.param_names l.params ≡ l.names ++ spec.param_names (drop l.param-index l.params)
