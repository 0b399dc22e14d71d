use Rattle.std.proofs.Common.{Bool, sym, subst}
use Rattle.meaning_rules.specs.Expressions as spec
use Rattle.meaning_rules.specs.Outcome.{Outcome}
use Rattle.plain_interpreter.specs.Scopes.{scope_of}
use Rattle.plain_interpreter.specs.Seen.{seen, Tells}
use Rattle.plain_interpreter.specs.Tasks.{here}
use Rattle.plain_interpreter.proofs.Gathering.{condition_found}
use Rattle.plain_interpreter.proofs.runner.Runner.kept.Goals as goal

pub returns-in-Some : goal.returns-in-Some
returns-in-Some g c =
    let at = here c.args.self.now.program.now c.args.self.now.limit c.args.self.now.depth in
    subst (λ (o : Outcome Bool). Tells o c.holds.result c.expr.new.state)
    (sym (condition_found at (scope_of c.args.scope.now) c.args.e.now c.in-Some.e c.get.result.now (seen c.args.state.now) c.in-Some.is c.get.ensures))
    (c.holds.ensures (spec.expr at (scope_of c.args.scope.now) c.get.result.now (seen c.args.state.now)) c.expr.ensures)
