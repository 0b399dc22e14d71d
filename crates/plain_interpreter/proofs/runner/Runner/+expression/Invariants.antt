use Rattle.std.proofs.Common.{◌≡◌, [], suc, drop}
use Rattle.meaning_rules.specs.Iterations.{in_place}
use Rattle.meaning_rules.specs.Loops.{turns}
use Rattle.plain_interpreter.specs.Cursors.{next_by}
use Rattle.meaning_rules.specs.Meaning.{turn_of}
use Rattle.plain_interpreter.specs.Gathered.{filling, turns_of}
use Rattle.meaning_rules.specs.Task.{Comprehension}
use Rattle.meaning_rules.specs.Expressions as spec
use Rattle.plain_interpreter.specs.Lists as lists
use Rattle.plain_interpreter.specs.Collected.{collect}
use Rattle.plain_interpreter.specs.Seen.{seen}
use Rattle.plain_interpreter.specs.Scopes.{scope_of}
use Rattle.plain_interpreter.specs.Tasks.{here}
use Rattle.plain_interpreter.proofs.Rest.{after}
use Rattle.plain_interpreter.proofs.runner.Runner.+expression.Given as goal

abbrev pub invariant-exprs-items : goal.invariant-exprs-items
invariant-exprs-items g l =
    let at = here l.self.program.now l.self.limit l.self.depth in
    spec.exprs at (scope_of l.scope) l.items (seen l.fn.state) ≡ after l.done (collect (spec.expr at (scope_of l.scope)) (drop l.e-index l.items) (seen l.state))

abbrev pub invariant-some_true-operands : goal.invariant-some_true-operands
invariant-some_true-operands g l =
    let at = here l.self.program.now l.self.limit l.self.depth in
    lists.some_true at (scope_of l.scope) l.operands (seen l.fn.state) ≡ lists.some_true at (scope_of l.scope) (drop l.e-index l.operands) (seen l.state)

abbrev pub invariant-all_true-operands : goal.invariant-all_true-operands
invariant-all_true-operands g l =
    let at = here l.self.program.now l.self.limit l.self.depth in
    lists.all_true at (scope_of l.scope) l.operands (seen l.fn.state) ≡ lists.all_true at (scope_of l.scope) (drop l.e-index l.operands) (seen l.state)

abbrev pub invariant-chain-chain : goal.invariant-chain-chain
invariant-chain-chain g l =
    let at = here l.self.program.now l.self.limit l.self.depth in
    lists.chained at (scope_of l.scope) l.others l.fn.first (seen l.fn.state) ≡ lists.chained at (scope_of l.scope) (drop l.each-index l.others) l.v (seen l.state)

abbrev pub invariant-fill-turns : goal.invariant-fill-turns
invariant-fill-turns g l =
    let at = here l.self.program.now l.self.limit l.self.depth in
    let turn = turn_of at [] (Comprehension (scope_of l.inner) l.names l.condition l.item l.begun.1.1.0) in
    record {
      same : record { all = l.begun.1.0; list = l.begun.1.1.0; before = l.begun.1.1.1.0; cursor = l.begun.1.1.1.1.0; is_whole = l.begun.1.1.1.1.1.0 } ≡ record l.fn.begun { cursor = l.begun.1.1.1.1.0 };
      rest : filling (turns_of at (scope_of l.scope) l.names l.condition l.item) l.fn.begun (seen l.fn.state) ≡ turns (next_by in_place l.self.limit) turn (suc l.left) l.begun.1.1.1.1.0 (seen l.state);
    }

abbrev pub decreases-fill-turns : goal.decreases-fill-turns
decreases-fill-turns g l = l.left
