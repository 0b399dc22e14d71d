use Rattle.std.proofs.Common.{◌≡◌, ◌≢◌, [], List, ◌∷◌, arith, sym, subst, Result}
use Rattle.std.proofs.lemmas.Grind.{common_steps}
use Rattle.codon_base.specs.declared.value.Value.{Value}
use Rattle.codon_base.specs.declared.object.Object.TheVariants.{List as Listed}
use Rattle.source_trees.specs.Names.{loop_names}
use Rattle.plain_interpreter.specs.declared.comprehensions.Gathering.{Gathering}
use Rattle.plain_interpreter.specs.declared.state.Stop.TheVariants as stop
use Rattle.plain_interpreter.specs.Entered.{TellsEntered}
use Rattle.plain_interpreter.specs.Gathered.{HasNames, ended, filling, turns_of}
use Rattle.plain_interpreter.specs.Lists as lists
use Rattle.meaning_rules.specs.Meaning.{turn_of}
use Rattle.meaning_rules.specs.Objects.{allocate}
use Rattle.meaning_rules.specs.Outcome.{Gives, Stops}
use Rattle.meaning_rules.specs.Program.{Scope, with_locals}
use Rattle.plain_interpreter.specs.Scopes.{scope_of}
use Rattle.plain_interpreter.specs.Seen.{seen, why_of}
use Rattle.plain_interpreter.specs.Steps.{iterable_of, looped, turns_from}
use Rattle.meaning_rules.specs.Task.{Comprehension}
use Rattle.plain_interpreter.specs.Tasks.{here}
use Rattle.plain_interpreter.proofs.Gathering.{inner_locals, inner_scope, gathering_is, gathering_made}
use Rattle.plain_interpreter.proofs.runner.Runner.gathering.Goals as goal

pub returns-in_err-flow-clause-begun : goal.returns-in_err-flow-clause-begun
returns-in_err-flow-clause-begun g c =
    let at = here c.args.self.now.program.now c.args.self.now.limit c.args.self.now.depth in
    let all : c.deref.result.now ≡ record { names = c.args.names } ∷ c.args.scope.now.inner.now = cc (c.deref.ensures.value, c.in_ok-all.ensures) in
    let inside : HasNames c.deref.result.now c.args.names.now c.args.scope.now = inner_locals (record { names = c.args.names }) c.args.scope.now.inner.now c.deref.result.now c.args.scope.now.locals.now all in
    let made : allocate (Listed []) (seen c.args.state.now) ≡ Gives c.in_ok-list.list (seen c.allocate.new.state) = subst (λ (l : List Value). allocate (Listed l) (seen c.args.state.now) ≡ Gives c.in_ok-list.list (seen c.allocate.new.state)) c.new.ensures c.in_ok-list.ensures in
    let next : c.in_err-flow.field-0.0 ≢ stop.Memory → lists.comprehended_of at (scope_of c.args.scope.now) c.args.names.now (iterable_of c.args.goes_over) c.args.condition.now c.args.item.now (seen c.args.state.now) ≡ Stops (why_of c.in_err-flow.field-0.0) (seen c.enter_loop.new.state) = λ n. gathering_is at (scope_of c.args.scope.now) c.args.names.now (iterable_of c.args.goes_over) c.args.condition.now c.args.item.now (seen c.args.state.now) (seen c.allocate.new.state) c.in_ok-list.list c.in_ok-before.before.items (Stops (why_of c.in_err-flow.field-0.0) (seen c.enter_loop.new.state)) made c.in_ok-before.ensures (subst (λ (sc : Scope). looped at [] (iterable_of c.args.goes_over) (Comprehension sc c.args.names.now c.args.condition.now c.args.item.now c.in_ok-list.list) (seen c.allocate.new.state) ≡ Stops (why_of c.in_err-flow.field-0.0) (seen c.enter_loop.new.state)) (inner_scope c.deref.result c.args.names.now c.args.scope.now inside) (c.in_err-flow.ensures n)) in
    grind (arith, common_steps, next)

pub returns-clause-begun : goal.returns-clause-begun
returns-clause-begun g c =
    let at = here c.args.self.now.program.now c.args.self.now.limit c.args.self.now.depth in
    let all : c.deref.result.now ≡ record { names = c.args.names } ∷ c.args.scope.now.inner.now = cc (c.deref.ensures.value, c.in_ok-all.ensures) in
    let inside : HasNames c.deref.result.now c.args.names.now c.args.scope.now = inner_locals (record { names = c.args.names }) c.args.scope.now.inner.now c.deref.result.now c.args.scope.now.locals.now all in
    let made : allocate (Listed []) (seen c.args.state.now) ≡ Gives c.in_ok-list.list (seen c.allocate.new.state) = subst (λ (l : List Value). allocate (Listed l) (seen c.args.state.now) ≡ Gives c.in_ok-list.list (seen c.allocate.new.state)) c.new.ensures c.in_ok-list.ensures in
    let entered : TellsEntered (looped at [] (iterable_of c.args.goes_over) (Comprehension (with_locals (loop_names c.args.names.now) (scope_of c.args.scope.now)) c.args.names.now c.args.condition.now c.args.item.now c.in_ok-list.list) (seen c.allocate.new.state)) (turns_of at (scope_of c.args.scope.now) c.args.names.now c.args.condition.now c.args.item.now c.in_ok-list.list) (Result.Ok c.in_ok-flow.flow) c.enter_loop.new.cursor c.enter_loop.new.state = subst (λ (sc : Scope). TellsEntered (looped at [] (iterable_of c.args.goes_over) (Comprehension sc c.args.names.now c.args.condition.now c.args.item.now c.in_ok-list.list) (seen c.allocate.new.state)) (turns_from at (turn_of at [] (Comprehension sc c.args.names.now c.args.condition.now c.args.item.now c.in_ok-list.list))) (Result.Ok c.in_ok-flow.flow) c.enter_loop.new.cursor c.enter_loop.new.state) (inner_scope c.deref.result c.args.names.now c.args.scope.now inside) c.in_ok-flow.ensures in
    subst (λ (b : Gathering). lists.comprehended_of at (scope_of c.args.scope.now) c.args.names.now (iterable_of c.args.goes_over) c.args.condition.now c.args.item.now (seen c.args.state.now) ≡ ended c.args.names.now b (filling (turns_of at (scope_of c.args.scope.now) c.args.names.now c.args.condition.now c.args.item.now) b (seen c.enter_loop.new.state))) (sym c.in_ok-begun.ensures.ok)
    (gathering_made at (scope_of c.args.scope.now) c.args.names.now (iterable_of c.args.goes_over) c.args.condition.now c.args.item.now (seen c.args.state.now) (seen c.allocate.new.state) c.in_ok-list.list c.in_ok-before.before.items c.enter_loop.new.cursor c.in_ok-flow.flow c.is_some-is_whole.result c.enter_loop.new.state made c.in_ok-before.ensures entered c.is_some-is_whole.ensures)
