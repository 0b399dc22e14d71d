use Rattle.std.proofs.Common.{◌∙◌, arith}
use Rattle.std.proofs.lemmas.Grind.{common_steps}
use Rattle.plain_interpreter.specs.Seen.{seen}
use Rattle.plain_interpreter.specs.Scopes.{scope_of}
use Rattle.plain_interpreter.specs.Tasks.{here}
use Rattle.plain_interpreter.proofs.Assigns.{assign_next, assign_done}
use Rattle.plain_interpreter.proofs.runner.Runner.assign_each.Goals as goal

pub targets-preserved : goal.targets-preserved
targets-preserved g c =
    let next = assign_next (here c.args.self.now.program.now c.args.self.now.limit c.args.self.now.depth) (scope_of c.args.scope.now) c.args.all.now c.targets.written-index c.written-item.result c.targets.rest.now (seen c.targets.state) c.targets-test.true c.written-item.is in
    grind (arith, common_steps, next)

pub returns-in_err-assign : goal.returns-in_err-assign
returns-in_err-assign g c =
    let next = assign_next (here c.args.self.now.program.now c.args.self.now.limit c.args.self.now.depth) (scope_of c.args.scope.now) c.args.all.now c.targets.written-index c.written-item.result c.targets.rest.now (seen c.targets.state) c.targets-test.true c.written-item.is in
    grind (arith, common_steps, next)

pub returns-in_default : goal.returns-in_default
returns-in_default g c =
    let next = assign_next (here c.args.self.now.program.now c.args.self.now.limit c.args.self.now.depth) (scope_of c.args.scope.now) c.args.all.now c.targets.written-index c.written-item.result c.targets.rest.now (seen c.targets.state) c.targets-test.true c.written-item.is in
    grind (arith, common_steps, next)

pub returns : goal.returns
returns g c = c.targets.invariant ∙ assign_done (here c.args.self.now.program.now c.args.self.now.limit c.args.self.now.depth) (scope_of c.args.scope.now) c.args.all.now c.targets.written-index c.targets.rest.now (seen c.targets.state) c.targets-test.false
