use Rattle.std.proofs.Common.{◌∙◌, ap, sym, subst, Bool}
use Rattle.source_trees.specs.declared.expression.Expr.{out-Expr}
use Rattle.meaning_rules.specs.State.{Flow}
use Rattle.meaning_rules.specs.Outcome.{Outcome, and_then, bind, ◌>>=◌}
use Rattle.meaning_rules.specs.Captures.{begin_loop}
use Rattle.plain_interpreter.specs.Entered.{TellsOpened, opened_consumer}
use Rattle.meaning_rules.specs.Loops.{Iterable}
use Rattle.meaning_rules.specs.Meaning.{turn_of}
use Rattle.plain_interpreter.specs.Scopes.{scope_of}
use Rattle.plain_interpreter.specs.Seen.{seen}
use Rattle.meaning_rules.specs.Statements.{goes_over_range}
use Rattle.plain_interpreter.specs.Steps.{iterable_of, turns_from, parallel_left}
use Rattle.meaning_rules.specs.Task.{Region}
use Rattle.plain_interpreter.specs.Tasks.{here, consumers_of, program_of}
use Rattle.plain_interpreter.proofs.runner.Runner.open_region.Goals as goal

pub returns : goal.returns
unfolding bind
returns g c =
    subst (λ (o : Outcome Flow). TellsOpened o (turns_from (here c.args.self.now.program.now c.args.self.now.limit c.args.self.now.depth) (turn_of (here c.args.self.now.program.now c.args.self.now.limit c.args.self.now.depth) (consumers_of c.args.consumers.now) (opened_consumer (scope_of c.args.scope.now) c.args.l.now c.enter_region.new.opened))) c.enter_region.result c.enter_region.new.opened.begun c.enter_region.new.cursor c.enter_region.new.state)
    (sym (ap (λ (o : Outcome Iterable). and_then o (λ goes_over. begin_loop (program_of c.args.self.now.program.now) (scope_of c.args.scope.now) c.args.l.now.names (goes_over_range (program_of c.args.self.now.program.now) (scope_of c.args.scope.now) (out-Expr c.args.l.now.iterable)) c.args.l.now.body >>= λ region. parallel_left (here c.args.self.now.program.now c.args.self.now.limit c.args.self.now.depth) (consumers_of c.args.consumers.now) (scope_of c.args.scope.now) c.args.l.now goes_over region)) c.in_ok-goes_over.ensures
    ∙ ap (λ (b : Bool). and_then (begin_loop (program_of c.args.self.now.program.now) (scope_of c.args.scope.now) c.args.l.now.names b c.args.l.now.body (seen c.iterable.new.state)) (λ region. parallel_left (here c.args.self.now.program.now c.args.self.now.limit c.args.self.now.depth) (consumers_of c.args.consumers.now) (scope_of c.args.scope.now) c.args.l.now (iterable_of c.in_ok-goes_over.goes_over) region)) (sym c.goes_over_range-over_range.ensures)
    ∙ ap (λ (o : Outcome Region). and_then o (λ region. parallel_left (here c.args.self.now.program.now c.args.self.now.limit c.args.self.now.depth) (consumers_of c.args.consumers.now) (scope_of c.args.scope.now) c.args.l.now (iterable_of c.in_ok-goes_over.goes_over) region)) c.in_ok-region.ensures))
    c.enter_region.ensures
