use Rattle.std.proofs.Common.{◌≡◌, [], drop}
use Rattle.std.specs.List.{flat_map}
use Rattle.meaning_rules.specs.Program.{statement_in}
use Rattle.meaning_rules.specs.Statements.{statements}
use Rattle.plain_interpreter.specs.Seen.{seen}
use Rattle.plain_interpreter.specs.Scopes.{scope_of}
use Rattle.plain_interpreter.specs.Tasks.{here}
use Rattle.plain_interpreter.proofs.runner.Runner.top.Given as goal

abbrev pub invariant-items : goal.invariant-items
invariant-items g l =
    let at = here l.self.program.now l.self.limit l.self.depth in
    statements at [] (scope_of l.scope) (flat_map statement_in l.items) (seen l.fn.state) ≡ statements at [] (scope_of l.scope) (flat_map statement_in (drop l.item-index l.items)) (seen l.state)
