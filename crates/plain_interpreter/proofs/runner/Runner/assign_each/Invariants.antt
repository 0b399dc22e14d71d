use Rattle.std.proofs.Common.{◌≡◌, drop}
use Rattle.meaning_rules.specs.Statements as spec
use Rattle.plain_interpreter.specs.Seen.{seen}
use Rattle.plain_interpreter.specs.Scopes.{scope_of}
use Rattle.plain_interpreter.specs.Tasks.{here}
use Rattle.plain_interpreter.proofs.runner.Runner.assign_each.Given as goal

abbrev pub invariant-targets : goal.invariant-targets
invariant-targets g l =
    let at = here l.self.program.now l.self.limit l.self.depth in
    spec.assign_each at (scope_of l.scope) l.all l.fn.items (seen l.fn.state) ≡ spec.assign_each at (scope_of l.scope) (drop l.written-index l.all) l.rest (seen l.state)
