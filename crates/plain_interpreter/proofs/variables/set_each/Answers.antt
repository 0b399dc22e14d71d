use Rattle.std.proofs.Common.{◌∙◌, arith}
use Rattle.std.proofs.lemmas.Grind.{common_steps}
use Rattle.plain_interpreter.specs.Seen.{seen}
use Rattle.plain_interpreter.specs.Scopes.{scope_of}
use Rattle.plain_interpreter.proofs.Sets.{set_next, set_done}
use Rattle.plain_interpreter.proofs.variables.set_each.Goals as goal

pub names-preserved : goal.names-preserved
names-preserved c =
    let next = set_next (scope_of c.args.scope.now) c.args.names.now c.names.name-index c.name-item.result c.names.rest.now (seen c.names.state) c.names-test.true c.name-item.is in
    grind (arith, common_steps, next)

pub returns-in_err-set_name : goal.returns-in_err-set_name
returns-in_err-set_name c =
    let next = set_next (scope_of c.args.scope.now) c.args.names.now c.names.name-index c.name-item.result c.names.rest.now (seen c.names.state) c.names-test.true c.name-item.is in
    grind (arith, common_steps, next)

pub returns : goal.returns
returns c = c.names.invariant ∙ set_done (scope_of c.args.scope.now) c.args.names.now c.names.name-index c.names.rest.now (seen c.names.state) c.names-test.false
