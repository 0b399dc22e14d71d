use Rattle.std.proofs.Common.{arith, drop}
use Rattle.std.proofs.lemmas.Grind.{common_steps}
use Rattle.plain_interpreter.specs.Seen.{names_of}
use Rattle.plain_interpreter.proofs.GivenValues.{param_step, params_end, values_end}
use Rattle.plain_interpreter.proofs.arguments.parameters.Goals as goal

pub returns-in_default : goal.returns-in_default
unfolding names_of
returns-in_default c =
    let none = values_end (drop c.params.param-index c.args.params.now) c.params.entries.items in
    grind (arith, common_steps, none)

pub returns : goal.returns
unfolding names_of
returns c =
    let done = params_end c.args.params.now c.params.param-index c.params.entries.items c.params.rest.now c.params-test.false in
    grind (arith, common_steps, done)

pub params-preserved : goal.params-preserved
params-preserved c =
    let next = param_step c.args.params.now c.params.param-index c.param-item.result c.params.entries.items c.params.rest.now c.params-test.true c.param-item.is in
    grind (arith, common_steps, next)
