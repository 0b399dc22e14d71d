use Rattle.std.proofs.Common.{sym, arith}
use Rattle.std.proofs.lemmas.Grind.{common_steps}
use Rattle.plain_interpreter.proofs.GivenValues.{too_many, given_first}
use Rattle.plain_interpreter.proofs.arguments.arguments.Goals as goal

pub returns-then-len-params : goal.returns-then-len-params
returns-then-len-params c = sym (too_many c.args.params.now c.args.given (omega arith))

pub params-init : goal.params-init
params-init c =
    let first = given_first c.args.params.now c.args.given (omega arith) in
    grind (arith, common_steps, first)
