use Rattle.std.proofs.Common.{◌∙◌, ap, sym, subst, arith, List}
use Rattle.std.proofs.lemmas.Grind.{common_steps}
use Rattle.meaning_rules.specs.State.{Flow, Spelling}
use Rattle.meaning_rules.specs.Outcome.{Outcome, Gives, and_then, bind, pure}
use Rattle.meaning_rules.specs.Iterations.{in_place}
use Rattle.plain_interpreter.specs.Cursors.{next_by}
use Rattle.meaning_rules.specs.Meaning.{turn_of}
use Rattle.meaning_rules.specs.Statements.{stmt, statements, raise}
use Rattle.meaning_rules.specs.Expressions.{condition}
use Rattle.meaning_rules.specs.Loops.{while_next}
use Rattle.plain_interpreter.specs.Steps.{chosen, parallel_of, turns_from}
use Rattle.meaning_rules.specs.Task.{Body, Parallel}
use Rattle.plain_interpreter.specs.Inside.{saved_of}
use Rattle.plain_interpreter.specs.Seen.{seen, flow_of, TellsFlow}
use Rattle.plain_interpreter.specs.Entered.{stepped, region_ends}
use Rattle.plain_interpreter.specs.Scopes.{scope_of}
use Rattle.plain_interpreter.specs.Tasks.{here, consumers_of, region_of}
use Rattle.plain_interpreter.proofs.StatementEquations.{stmt_Pass, stmt_Break, stmt_Continue, stmt_Return, stmt_Yield, stmt_Raise, stmt_Assert, stmt_Annotated, stmt_Assign, stmt_Update, stmt_Evaluate, stmt_Print, stmt_Pipeline, stmt_If, stmt_While, stmt_For, stmt_Par}
use Rattle.plain_interpreter.proofs.Blocks.{block_more, block_next, block_leaves, block_end, chosen_next, chosen_end}
use Rattle.plain_interpreter.proofs.Turns.{loop_begins, turn_next, turn_end, turn_leaves, turn_out, by_next, by_turn}
use Rattle.plain_interpreter.proofs.Stepped.{step_end, body_leaves, body_out, body_next, by_step, by_body}
use Rattle.plain_interpreter.proofs.LoopEnds.{loop_ends, for_is, closed_by, stepped_on, stepped_off}
use Rattle.plain_interpreter.proofs.Apart.{turned_by, turned_above, turn_is}
use Rattle.plain_interpreter.proofs.runner.Runner.+statement.Goals as goal

pub statement-returns-in-Return : goal.statement-returns-in-Return
statement-returns-in-Return g t c = subst (λ (o : Outcome Flow). TellsFlow o c.returned.result c.returned.new.state) (sym (ap (λ d. stmt (here c.args.self.now.program.now c.args.self.now.limit c.args.self.now.depth) (consumers_of c.args.consumers.now) d (scope_of c.args.scope.now) (seen c.args.state.now)) c.in-Return.is ∙ stmt_Return (here c.args.self.now.program.now c.args.self.now.limit c.args.self.now.depth) (consumers_of c.args.consumers.now) _ _ (scope_of c.args.scope.now) (seen c.args.state.now))) c.returned.ensures

pub statement-returns-in-Yield : goal.statement-returns-in-Yield
statement-returns-in-Yield g t c = subst (λ (o : Outcome Flow). TellsFlow o c.give_item.result c.give_item.new.state) (sym (ap (λ d. stmt (here c.args.self.now.program.now c.args.self.now.limit c.args.self.now.depth) (consumers_of c.args.consumers.now) d (scope_of c.args.scope.now) (seen c.args.state.now)) c.in-Yield.is ∙ stmt_Yield (here c.args.self.now.program.now c.args.self.now.limit c.args.self.now.depth) (consumers_of c.args.consumers.now) _ _ (scope_of c.args.scope.now) (seen c.args.state.now))) c.give_item.ensures

pub statement-returns-in-Raise : goal.statement-returns-in-Raise
statement-returns-in-Raise g t c = subst (λ (o : Outcome Flow). TellsFlow o c.raise.result c.raise.new.state) (sym (ap (λ d. stmt (here c.args.self.now.program.now c.args.self.now.limit c.args.self.now.depth) (consumers_of c.args.consumers.now) d (scope_of c.args.scope.now) (seen c.args.state.now)) c.in-Raise.is ∙ stmt_Raise (here c.args.self.now.program.now c.args.self.now.limit c.args.self.now.depth) (consumers_of c.args.consumers.now) _ _ _ (scope_of c.args.scope.now) (seen c.args.state.now) ∙ ap (λ k. raise (here c.args.self.now.program.now c.args.self.now.limit c.args.self.now.depth) (scope_of c.args.scope.now) k c.in-Raise.text (seen c.args.state.now)) (sym c.fault_named.ensures))) c.raise.ensures

pub statement-returns-in-Assert : goal.statement-returns-in-Assert
statement-returns-in-Assert g t c = subst (λ (o : Outcome Flow). TellsFlow o c.asserted.result c.asserted.new.state) (sym (ap (λ d. stmt (here c.args.self.now.program.now c.args.self.now.limit c.args.self.now.depth) (consumers_of c.args.consumers.now) d (scope_of c.args.scope.now) (seen c.args.state.now)) c.in-Assert.is ∙ stmt_Assert (here c.args.self.now.program.now c.args.self.now.limit c.args.self.now.depth) (consumers_of c.args.consumers.now) _ _ _ (scope_of c.args.scope.now) (seen c.args.state.now))) c.asserted.ensures

pub statement-returns-in-Annotated : goal.statement-returns-in-Annotated
statement-returns-in-Annotated g t c = subst (λ (o : Outcome Flow). TellsFlow o c.annotation.result c.annotation.new.state) (sym (ap (λ d. stmt (here c.args.self.now.program.now c.args.self.now.limit c.args.self.now.depth) (consumers_of c.args.consumers.now) d (scope_of c.args.scope.now) (seen c.args.state.now)) c.in-Annotated.is ∙ stmt_Annotated (here c.args.self.now.program.now c.args.self.now.limit c.args.self.now.depth) (consumers_of c.args.consumers.now) _ _ _ _ (scope_of c.args.scope.now) (seen c.args.state.now))) c.annotation.ensures

pub statement-returns-in-Assign : goal.statement-returns-in-Assign
statement-returns-in-Assign g t c = subst (λ (o : Outcome Flow). TellsFlow o c.assignment.result c.assignment.new.state) (sym (ap (λ d. stmt (here c.args.self.now.program.now c.args.self.now.limit c.args.self.now.depth) (consumers_of c.args.consumers.now) d (scope_of c.args.scope.now) (seen c.args.state.now)) c.in-Assign.is ∙ stmt_Assign (here c.args.self.now.program.now c.args.self.now.limit c.args.self.now.depth) (consumers_of c.args.consumers.now) _ _ _ (scope_of c.args.scope.now) (seen c.args.state.now))) c.assignment.ensures

pub statement-returns-in-Update : goal.statement-returns-in-Update
statement-returns-in-Update g t c = subst (λ (o : Outcome Flow). TellsFlow o c.augmented.result c.augmented.new.state) (sym (ap (λ d. stmt (here c.args.self.now.program.now c.args.self.now.limit c.args.self.now.depth) (consumers_of c.args.consumers.now) d (scope_of c.args.scope.now) (seen c.args.state.now)) c.in-Update.is ∙ stmt_Update (here c.args.self.now.program.now c.args.self.now.limit c.args.self.now.depth) (consumers_of c.args.consumers.now) _ _ _ _ (scope_of c.args.scope.now) (seen c.args.state.now))) c.augmented.ensures

pub statement-returns-in-Evaluate : goal.statement-returns-in-Evaluate
statement-returns-in-Evaluate g t c = subst (λ (o : Outcome Flow). TellsFlow o c.evaluated.result c.evaluated.new.state) (sym (ap (λ d. stmt (here c.args.self.now.program.now c.args.self.now.limit c.args.self.now.depth) (consumers_of c.args.consumers.now) d (scope_of c.args.scope.now) (seen c.args.state.now)) c.in-Evaluate.is ∙ stmt_Evaluate (here c.args.self.now.program.now c.args.self.now.limit c.args.self.now.depth) (consumers_of c.args.consumers.now) _ _ (scope_of c.args.scope.now) (seen c.args.state.now))) c.evaluated.ensures

pub statement-returns-in-Print : goal.statement-returns-in-Print
statement-returns-in-Print g t c = subst (λ (o : Outcome Flow). TellsFlow o c.print_statement.result c.print_statement.new.state) (sym (ap (λ d. stmt (here c.args.self.now.program.now c.args.self.now.limit c.args.self.now.depth) (consumers_of c.args.consumers.now) d (scope_of c.args.scope.now) (seen c.args.state.now)) c.in-Print.is ∙ stmt_Print (here c.args.self.now.program.now c.args.self.now.limit c.args.self.now.depth) (consumers_of c.args.consumers.now) _ _ (scope_of c.args.scope.now) (seen c.args.state.now))) c.print_statement.ensures

pub statement-returns-in-Pipeline : goal.statement-returns-in-Pipeline
statement-returns-in-Pipeline g t c = subst (λ (o : Outcome Flow). TellsFlow o c.pipeline.result c.pipeline.new.state) (sym (ap (λ d. stmt (here c.args.self.now.program.now c.args.self.now.limit c.args.self.now.depth) (consumers_of c.args.consumers.now) d (scope_of c.args.scope.now) (seen c.args.state.now)) c.in-Pipeline.is ∙ stmt_Pipeline (here c.args.self.now.program.now c.args.self.now.limit c.args.self.now.depth) (consumers_of c.args.consumers.now) _ _ _ (scope_of c.args.scope.now) (seen c.args.state.now))) c.pipeline.ensures

pub statement-returns-in-If : goal.statement-returns-in-If
statement-returns-in-If g t c = subst (λ (o : Outcome Flow). TellsFlow o c.choose.result c.choose.new.state) (sym (ap (λ d. stmt (here c.args.self.now.program.now c.args.self.now.limit c.args.self.now.depth) (consumers_of c.args.consumers.now) d (scope_of c.args.scope.now) (seen c.args.state.now)) c.in-If.is ∙ stmt_If (here c.args.self.now.program.now c.args.self.now.limit c.args.self.now.depth) (consumers_of c.args.consumers.now) _ _ _ (scope_of c.args.scope.now) (seen c.args.state.now))) c.choose.ensures

pub statement-returns-in-While : goal.statement-returns-in-While
statement-returns-in-While g t c = subst (λ (o : Outcome Flow). TellsFlow o c.while_loop.result c.while_loop.new.state) (sym (ap (λ d. stmt (here c.args.self.now.program.now c.args.self.now.limit c.args.self.now.depth) (consumers_of c.args.consumers.now) d (scope_of c.args.scope.now) (seen c.args.state.now)) c.in-While.is ∙ stmt_While (here c.args.self.now.program.now c.args.self.now.limit c.args.self.now.depth) (consumers_of c.args.consumers.now) _ _ _ (scope_of c.args.scope.now) (seen c.args.state.now))) c.while_loop.ensures

pub statement-returns-in-For : goal.statement-returns-in-For
statement-returns-in-For g t c = subst (λ (o : Outcome Flow). TellsFlow o c.for_loop.result c.for_loop.new.state) (sym (ap (λ d. stmt (here c.args.self.now.program.now c.args.self.now.limit c.args.self.now.depth) (consumers_of c.args.consumers.now) d (scope_of c.args.scope.now) (seen c.args.state.now)) c.in-For.is ∙ stmt_For (here c.args.self.now.program.now c.args.self.now.limit c.args.self.now.depth) (consumers_of c.args.consumers.now) _ (scope_of c.args.scope.now) (seen c.args.state.now))) c.for_loop.ensures

pub statement-returns-in-Par : goal.statement-returns-in-Par
statement-returns-in-Par g t c = subst (λ (o : Outcome Flow). TellsFlow o c.parallel_loop.result c.parallel_loop.new.state) (sym (ap (λ d. stmt (here c.args.self.now.program.now c.args.self.now.limit c.args.self.now.depth) (consumers_of c.args.consumers.now) d (scope_of c.args.scope.now) (seen c.args.state.now)) c.in-Par.is ∙ stmt_Par (here c.args.self.now.program.now c.args.self.now.limit c.args.self.now.depth) (consumers_of c.args.consumers.now) _ _ _ (scope_of c.args.scope.now) (seen c.args.state.now))) c.parallel_loop.ensures

pub statement-returns-in-Pass : goal.statement-returns-in-Pass
unfolding pure
statement-returns-in-Pass g t c = ap (λ d. stmt (here c.args.self.now.program.now c.args.self.now.limit c.args.self.now.depth) (consumers_of c.args.consumers.now) d (scope_of c.args.scope.now) (seen c.args.state.now)) c.in-Pass.is ∙ stmt_Pass (here c.args.self.now.program.now c.args.self.now.limit c.args.self.now.depth) (consumers_of c.args.consumers.now) _ (scope_of c.args.scope.now) (seen c.args.state.now) ∙ ap (λ f. Gives f (seen c.args.state.now)) (sym c.ended.ensures)

pub statement-returns-in-Break : goal.statement-returns-in-Break
unfolding pure
statement-returns-in-Break g t c = ap (λ d. stmt (here c.args.self.now.program.now c.args.self.now.limit c.args.self.now.depth) (consumers_of c.args.consumers.now) d (scope_of c.args.scope.now) (seen c.args.state.now)) c.in-Break.is ∙ stmt_Break (here c.args.self.now.program.now c.args.self.now.limit c.args.self.now.depth) (consumers_of c.args.consumers.now) _ (scope_of c.args.scope.now) (seen c.args.state.now) ∙ ap (λ f. Gives f (seen c.args.state.now)) (sym c.ended-in-Break.ensures)

pub statement-returns-in-Continue : goal.statement-returns-in-Continue
unfolding pure
statement-returns-in-Continue g t c = ap (λ d. stmt (here c.args.self.now.program.now c.args.self.now.limit c.args.self.now.depth) (consumers_of c.args.consumers.now) d (scope_of c.args.scope.now) (seen c.args.state.now)) c.in-Continue.is ∙ stmt_Continue (here c.args.self.now.program.now c.args.self.now.limit c.args.self.now.depth) (consumers_of c.args.consumers.now) _ (scope_of c.args.scope.now) (seen c.args.state.now) ∙ ap (λ f. Gives f (seen c.args.state.now)) (sym c.ended-in-Continue.ensures)

pub block-statements-preserved : goal.block-statements-preserved
block-statements-preserved g t c = c.statements.invariant ∙ block_more (here c.args.self.now.program.now c.args.self.now.limit c.args.self.now.depth) (consumers_of c.args.consumers.now) (scope_of c.args.scope.now) c.as_slice-each-items.result.now c.statements.each-index c.each-item.result (seen c.statements.state) (seen c.statement.new.state) (flow_of c.in_ok-flow.flow) c.statements-test.true c.each-item.is c.in_ok-flow.ensures (sym c.is_next.ensures ∙ c.if-not-is_next.false)

pub block-returns : goal.block-returns
block-returns g t c = ap (λ l. statements (here c.args.self.now.program.now c.args.self.now.limit c.args.self.now.depth) (consumers_of c.args.consumers.now) (scope_of c.args.scope.now) l (seen c.args.state.now)) (sym c.as_slice-each-items.ensures) ∙ c.statements.invariant ∙ block_end (here c.args.self.now.program.now c.args.self.now.limit c.args.self.now.depth) (consumers_of c.args.consumers.now) (scope_of c.args.scope.now) c.as_slice-each-items.result.now c.statements.each-index (seen c.statements.state) c.statements-test.false ∙ ap (λ f. Gives f (seen c.statements.state)) (sym c.ended.ensures)

pub block-returns-then-not-is_next : goal.block-returns-then-not-is_next
block-returns-then-not-is_next g t c = ap (λ l. statements (here c.args.self.now.program.now c.args.self.now.limit c.args.self.now.depth) (consumers_of c.args.consumers.now) (scope_of c.args.scope.now) l (seen c.args.state.now)) (sym c.as_slice-each-items.ensures) ∙ c.statements.invariant ∙ block_leaves (here c.args.self.now.program.now c.args.self.now.limit c.args.self.now.depth) (consumers_of c.args.consumers.now) (scope_of c.args.scope.now) c.as_slice-each-items.result.now c.statements.each-index c.each-item.result (seen c.statements.state) (seen c.statement.new.state) (flow_of c.in_ok-flow.flow) c.statements-test.true c.each-item.is c.in_ok-flow.ensures (sym c.is_next.ensures ∙ c.if-not-is_next.true)

pub block-returns-in_err-flow : goal.block-returns-in_err-flow
block-returns-in_err-flow g t c = let next = block_next (here c.args.self.now.program.now c.args.self.now.limit c.args.self.now.depth) (consumers_of c.args.consumers.now) (scope_of c.args.scope.now) c.as_slice-each-items.result.now c.statements.each-index c.each-item.result (seen c.statements.state) c.statements-test.true c.each-item.is in
    grind (arith, common_steps, next)

pub choose-arms-preserved : goal.choose-arms-preserved
choose-arms-preserved g t c = let next = chosen_next (here c.args.self.now.program.now c.args.self.now.limit c.args.self.now.depth) (consumers_of c.args.consumers.now) (scope_of c.args.scope.now) c.as_slice-arm-items.result.now c.args.otherwise.now c.arms.arm-index c.arm-item.result (seen c.arms.state) c.arms-test.true c.arm-item.is in
    grind (arith, common_steps, next)

pub choose-returns-in_err-condition : goal.choose-returns-in_err-condition
choose-returns-in_err-condition g t c = let next = chosen_next (here c.args.self.now.program.now c.args.self.now.limit c.args.self.now.depth) (consumers_of c.args.consumers.now) (scope_of c.args.scope.now) c.as_slice-arm-items.result.now c.args.otherwise.now c.arms.arm-index c.arm-item.result (seen c.arms.state) c.arms-test.true c.arm-item.is in
    grind (arith, common_steps, next)

pub choose-returns : goal.choose-returns
choose-returns g t c = subst (λ (o : Outcome Flow). TellsFlow o c.block-2.result c.block-2.new.state) (sym (ap (λ l. chosen (here c.args.self.now.program.now c.args.self.now.limit c.args.self.now.depth) (consumers_of c.args.consumers.now) (scope_of c.args.scope.now) l c.args.otherwise.now (seen c.args.state.now)) (sym c.as_slice-arm-items.ensures) ∙ c.arms.invariant ∙ chosen_end (here c.args.self.now.program.now c.args.self.now.limit c.args.self.now.depth) (consumers_of c.args.consumers.now) (scope_of c.args.scope.now) c.as_slice-arm-items.result.now c.args.otherwise.now c.arms.arm-index (seen c.arms.state) c.arms-test.false)) c.block-2.ensures

pub while_loop-turns-init : goal.while_loop-turns-init
while_loop-turns-init g t c = loop_begins (while_next c.args.self.now.limit (condition (here c.args.self.now.program.now c.args.self.now.limit c.args.self.now.depth) (scope_of c.args.scope.now) c.args.e.now)) (λ _. statements (here c.args.self.now.program.now c.args.self.now.limit c.args.self.now.depth) (consumers_of c.args.consumers.now) (scope_of c.args.scope.now) c.args.body.now) c.args.self.now.limit tt (seen c.args.state.now) c.left-left.result c.left-left.ensures

pub while_loop-turns-preserved : goal.while_loop-turns-preserved
while_loop-turns-preserved g t c = c.turns.invariant ∙ turn_next (while_next c.args.self.now.limit (condition (here c.args.self.now.program.now c.args.self.now.limit c.args.self.now.depth) (scope_of c.args.scope.now) c.args.e.now)) (λ _. statements (here c.args.self.now.program.now c.args.self.now.limit c.args.self.now.depth) (consumers_of c.args.consumers.now) (scope_of c.args.scope.now) c.args.body.now) c.turns.left tt (seen c.turns.state) (seen c.while_next.new.state) (seen c.block.new.state) c.in-Some.field-0 (flow_of c.in_ok-flow.flow) (rw c.in-Some.is at c.in_ok-while_next.ensures) c.in_ok-flow.ensures (sym c.goes_on.ensures ∙ c.if-not-goes_on.false) (omega arith)

pub while_loop-turns-preserved-else-left-eq0 : goal.while_loop-turns-preserved-else-left-eq0
while_loop-turns-preserved-else-left-eq0 g t c = c.turns.invariant ∙ turn_next (while_next c.args.self.now.limit (condition (here c.args.self.now.program.now c.args.self.now.limit c.args.self.now.depth) (scope_of c.args.scope.now) c.args.e.now)) (λ _. statements (here c.args.self.now.program.now c.args.self.now.limit c.args.self.now.depth) (consumers_of c.args.consumers.now) (scope_of c.args.scope.now) c.args.body.now) c.turns.left tt (seen c.turns.state) (seen c.while_next.new.state) (seen c.block.new.state) c.in-Some.field-0 (flow_of c.in_ok-flow.flow) (rw c.in-Some.is at c.in_ok-while_next.ensures) c.in_ok-flow.ensures (sym c.goes_on.ensures ∙ c.if-not-goes_on.false) (omega arith)

pub while_loop-turns-preserved-else-left-eq0-2 : goal.while_loop-turns-preserved-else-left-eq0-2
while_loop-turns-preserved-else-left-eq0-2 g t c = c.turns.invariant ∙ turn_next (while_next c.args.self.now.limit (condition (here c.args.self.now.program.now c.args.self.now.limit c.args.self.now.depth) (scope_of c.args.scope.now) c.args.e.now)) (λ _. statements (here c.args.self.now.program.now c.args.self.now.limit c.args.self.now.depth) (consumers_of c.args.consumers.now) (scope_of c.args.scope.now) c.args.body.now) c.turns.left tt (seen c.turns.state) (seen c.while_next.new.state) (seen c.block.new.state) c.in-Some.field-0 (flow_of c.in_ok-flow.flow) (rw c.in-Some.is at c.in_ok-while_next.ensures) c.in_ok-flow.ensures (sym c.goes_on.ensures ∙ c.if-not-goes_on.false) (omega arith)

pub while_loop-turns-preserved-else-left-eq0-3 : goal.while_loop-turns-preserved-else-left-eq0-3
while_loop-turns-preserved-else-left-eq0-3 g t c = c.turns.invariant ∙ turn_next (while_next c.args.self.now.limit (condition (here c.args.self.now.program.now c.args.self.now.limit c.args.self.now.depth) (scope_of c.args.scope.now) c.args.e.now)) (λ _. statements (here c.args.self.now.program.now c.args.self.now.limit c.args.self.now.depth) (consumers_of c.args.consumers.now) (scope_of c.args.scope.now) c.args.body.now) c.turns.left tt (seen c.turns.state) (seen c.while_next.new.state) (seen c.block.new.state) c.in-Some.field-0 (flow_of c.in_ok-flow.flow) (rw c.in-Some.is at c.in_ok-while_next.ensures) c.in_ok-flow.ensures (sym c.goes_on.ensures ∙ c.if-not-goes_on.false) (omega arith)

pub parallel_turn-close_turn-requires : goal.parallel_turn-close_turn-requires
parallel_turn-close_turn-requires g t c = turned_above c.args.self.now.program.now c.args.self.now.limit c.args.self.now.depth (consumers_of c.args.consumers.now) (scope_of c.args.scope.now) c.args.names.now c.args.body.now c.args.v (seen c.enter_iteration.new.state) c.body_turn-left.result c.body_turn-left.new.state c.body_turn-left.ensures c.in_ok-saved.ensures.above

pub parallel_turn-returns : goal.parallel_turn-returns
parallel_turn-returns g t c = turned_by (region_of c.args.region.now) c.args.v (turn_of (here c.args.self.now.program.now c.args.self.now.limit c.args.self.now.depth) (consumers_of c.args.consumers.now) (Body (scope_of c.args.scope.now) c.args.names.now c.args.body.now) c.args.v) (seen c.args.state.now) (seen c.enter_iteration.new.state) (saved_of c.in_ok-saved.saved) (turn_is c.args.self.now.program.now c.args.self.now.limit c.args.self.now.depth (consumers_of c.args.consumers.now) (region_of c.args.region.now) (scope_of c.args.scope.now) c.args.names.now c.args.body.now c.args.v (seen c.args.state.now)) c.in_ok-saved.ensures.told c.body_turn-left.result c.close_turn.result c.body_turn-left.new.state c.close_turn.new.state c.body_turn-left.ensures c.close_turn.ensures

pub parallel_turn-returns-in_err-saved : goal.parallel_turn-returns-in_err-saved
unfolding bind pure
parallel_turn-returns-in_err-saved g t c = let next = turn_is c.args.self.now.program.now c.args.self.now.limit c.args.self.now.depth (consumers_of c.args.consumers.now) (region_of c.args.region.now) (scope_of c.args.scope.now) c.args.names.now c.args.body.now c.args.v (seen c.args.state.now) in
    grind (arith, common_steps, next)

pub parallel_loop-returns : goal.parallel_loop-returns
parallel_loop-returns g t c = closed_by (parallel_of (here c.args.self.now.program.now c.args.self.now.limit c.args.self.now.depth) (consumers_of c.args.consumers.now) (scope_of c.args.scope.now) c.args.l.now (seen c.args.state.now)) c.parallel_turns-left.result c.close_region.result c.parallel_turns-left.new.opened.begun c.parallel_turns-left.new.state c.close_region.new.state c.parallel_turns-left.ensures c.close_region.ensures

pub for_turns-turns-init : goal.for_turns-turns-init
for_turns-turns-init g t c =
    for_is (here c.args.self.now.program.now c.args.self.now.limit c.args.self.now.depth) (consumers_of c.args.consumers.now) (scope_of c.args.scope.now) c.args.l.now (seen c.args.state.now)
    ∙ ap (λ (o : Outcome Flow). and_then o loop_ends) ((rw c.in-None.is at c.in_ok-entered.ensures)
    ∙ loop_begins (next_by in_place c.args.self.now.limit) (turn_of (here c.args.self.now.program.now c.args.self.now.limit c.args.self.now.depth) (consumers_of c.args.consumers.now) (Body (scope_of c.args.scope.now) c.args.l.now.names c.args.l.now.body)) c.args.self.now.limit c.enter_for.new.cursor (seen c.enter_for.new.state) c.left-left.result c.left-left.ensures)

-- loops that begin, and make their turns in place

pub for_turns-turns-preserved : goal.for_turns-turns-preserved
for_turns-turns-preserved g t c = c.turns.invariant ∙ ap (λ (o : Outcome Flow). and_then o loop_ends) (body_next in_place c.args.self.now.limit (scope_of c.args.scope.now) c.args.l.now.names (statements (here c.args.self.now.program.now c.args.self.now.limit c.args.self.now.depth) (consumers_of c.args.consumers.now) (scope_of c.args.scope.now) c.args.l.now.body) c.turns.left c.turns.cursor c.step.new.cursor (seen c.turns.state) (seen c.step.new.state) (seen c.block.new.state) (flow_of c.in_ok-flow.flow) (stepped_on (stepped (scope_of c.args.scope.now) c.args.l.now.names in_place c.args.self.now.limit c.turns.cursor (seen c.turns.state)) c.step.new.cursor c.step.new.state c.in_ok-is_there.is_there c.in_ok-is_there.ensures c.if-not-is_there.false) c.in_ok-flow.ensures (sym c.goes_on.ensures ∙ c.if-not-goes_on.false) (omega arith))

pub for_turns-turns-preserved-else-left-eq0 : goal.for_turns-turns-preserved-else-left-eq0
for_turns-turns-preserved-else-left-eq0 g t c = c.turns.invariant ∙ ap (λ (o : Outcome Flow). and_then o loop_ends) (body_next in_place c.args.self.now.limit (scope_of c.args.scope.now) c.args.l.now.names (statements (here c.args.self.now.program.now c.args.self.now.limit c.args.self.now.depth) (consumers_of c.args.consumers.now) (scope_of c.args.scope.now) c.args.l.now.body) c.turns.left c.turns.cursor c.step.new.cursor (seen c.turns.state) (seen c.step.new.state) (seen c.block.new.state) (flow_of c.in_ok-flow.flow) (stepped_on (stepped (scope_of c.args.scope.now) c.args.l.now.names in_place c.args.self.now.limit c.turns.cursor (seen c.turns.state)) c.step.new.cursor c.step.new.state c.in_ok-is_there.is_there c.in_ok-is_there.ensures c.if-not-is_there.false) c.in_ok-flow.ensures (sym c.goes_on.ensures ∙ c.if-not-goes_on.false) (omega arith))

pub for_turns-turns-preserved-else-left-eq0-2 : goal.for_turns-turns-preserved-else-left-eq0-2
for_turns-turns-preserved-else-left-eq0-2 g t c = c.turns.invariant ∙ ap (λ (o : Outcome Flow). and_then o loop_ends) (body_next in_place c.args.self.now.limit (scope_of c.args.scope.now) c.args.l.now.names (statements (here c.args.self.now.program.now c.args.self.now.limit c.args.self.now.depth) (consumers_of c.args.consumers.now) (scope_of c.args.scope.now) c.args.l.now.body) c.turns.left c.turns.cursor c.step.new.cursor (seen c.turns.state) (seen c.step.new.state) (seen c.block.new.state) (flow_of c.in_ok-flow.flow) (stepped_on (stepped (scope_of c.args.scope.now) c.args.l.now.names in_place c.args.self.now.limit c.turns.cursor (seen c.turns.state)) c.step.new.cursor c.step.new.state c.in_ok-is_there.is_there c.in_ok-is_there.ensures c.if-not-is_there.false) c.in_ok-flow.ensures (sym c.goes_on.ensures ∙ c.if-not-goes_on.false) (omega arith))

pub for_turns-turns-preserved-else-left-eq0-3 : goal.for_turns-turns-preserved-else-left-eq0-3
for_turns-turns-preserved-else-left-eq0-3 g t c = c.turns.invariant ∙ ap (λ (o : Outcome Flow). and_then o loop_ends) (body_next in_place c.args.self.now.limit (scope_of c.args.scope.now) c.args.l.now.names (statements (here c.args.self.now.program.now c.args.self.now.limit c.args.self.now.depth) (consumers_of c.args.consumers.now) (scope_of c.args.scope.now) c.args.l.now.body) c.turns.left c.turns.cursor c.step.new.cursor (seen c.turns.state) (seen c.step.new.state) (seen c.block.new.state) (flow_of c.in_ok-flow.flow) (stepped_on (stepped (scope_of c.args.scope.now) c.args.l.now.names in_place c.args.self.now.limit c.turns.cursor (seen c.turns.state)) c.step.new.cursor c.step.new.state c.in_ok-is_there.is_there c.in_ok-is_there.ensures c.if-not-is_there.false) c.in_ok-flow.ensures (sym c.goes_on.ensures ∙ c.if-not-goes_on.false) (omega arith))

pub for_turns-returns-then-not-is_there : goal.for_turns-returns-then-not-is_there
unfolding pure
for_turns-returns-then-not-is_there g t c = c.turns.invariant ∙ ap (λ (o : Outcome Flow). and_then o loop_ends) (step_end in_place c.args.self.now.limit (scope_of c.args.scope.now) c.args.l.now.names (statements (here c.args.self.now.program.now c.args.self.now.limit c.args.self.now.depth) (consumers_of c.args.consumers.now) (scope_of c.args.scope.now) c.args.l.now.body) c.turns.left c.turns.cursor (seen c.turns.state) (seen c.step.new.state) (stepped_off (stepped (scope_of c.args.scope.now) c.args.l.now.names in_place c.args.self.now.limit c.turns.cursor (seen c.turns.state)) c.step.new.cursor c.step.new.state c.in_ok-is_there.is_there c.in_ok-is_there.ensures c.if-not-is_there.true)) ∙ ap (λ f. Gives f (seen c.step.new.state)) (sym c.ended.ensures)

pub for_turns-returns-in_err-is_there : goal.for_turns-returns-in_err-is_there
unfolding bind pure
for_turns-returns-in_err-is_there g t c =
    let next = by_step in_place c.args.self.now.limit (scope_of c.args.scope.now) c.args.l.now.names (statements (here c.args.self.now.program.now c.args.self.now.limit c.args.self.now.depth) (consumers_of c.args.consumers.now) (scope_of c.args.scope.now) c.args.l.now.body) c.turns.left c.turns.cursor (seen c.turns.state) in
    grind (arith, common_steps, next)

pub for_turns-returns-in_err-flow : goal.for_turns-returns-in_err-flow
unfolding bind pure
for_turns-returns-in_err-flow g t c =
    let next = by_body in_place c.args.self.now.limit (scope_of c.args.scope.now) c.args.l.now.names (statements (here c.args.self.now.program.now c.args.self.now.limit c.args.self.now.depth) (consumers_of c.args.consumers.now) (scope_of c.args.scope.now) c.args.l.now.body) c.turns.left c.turns.cursor c.step.new.cursor (seen c.turns.state) (seen c.step.new.state) (stepped_on (stepped (scope_of c.args.scope.now) c.args.l.now.names in_place c.args.self.now.limit c.turns.cursor (seen c.turns.state)) c.step.new.cursor c.step.new.state c.in_ok-is_there.is_there c.in_ok-is_there.ensures c.if-not-is_there.false) in
    grind (arith, common_steps, next)

pub for_turns-returns-then-not-goes_on : goal.for_turns-returns-then-not-goes_on
unfolding pure
for_turns-returns-then-not-goes_on g t c = c.turns.invariant ∙ ap (λ (o : Outcome Flow). and_then o loop_ends) (body_leaves in_place c.args.self.now.limit (scope_of c.args.scope.now) c.args.l.now.names (statements (here c.args.self.now.program.now c.args.self.now.limit c.args.self.now.depth) (consumers_of c.args.consumers.now) (scope_of c.args.scope.now) c.args.l.now.body) c.turns.left c.turns.cursor c.step.new.cursor (seen c.turns.state) (seen c.step.new.state) (seen c.block.new.state) (flow_of c.in_ok-flow.flow) (stepped_on (stepped (scope_of c.args.scope.now) c.args.l.now.names in_place c.args.self.now.limit c.turns.cursor (seen c.turns.state)) c.step.new.cursor c.step.new.state c.in_ok-is_there.is_there c.in_ok-is_there.ensures c.if-not-is_there.false) c.in_ok-flow.ensures (sym c.goes_on.ensures ∙ c.if-not-goes_on.true)) ∙ ap (λ f. Gives f (seen c.block.new.state)) (sym c.after_loop-then-not-goes_on.ensures)

pub for_turns-returns-then-left-eq0 : goal.for_turns-returns-then-left-eq0
for_turns-returns-then-left-eq0 g t c = λ n. c.turns.invariant ∙ ap (λ (o : Outcome Flow). and_then o loop_ends) (body_out in_place c.args.self.now.limit (scope_of c.args.scope.now) c.args.l.now.names (statements (here c.args.self.now.program.now c.args.self.now.limit c.args.self.now.depth) (consumers_of c.args.consumers.now) (scope_of c.args.scope.now) c.args.l.now.body) c.turns.left c.turns.cursor c.step.new.cursor (seen c.turns.state) (seen c.step.new.state) (seen c.block.new.state) (flow_of c.in_ok-flow.flow) (stepped_on (stepped (scope_of c.args.scope.now) c.args.l.now.names in_place c.args.self.now.limit c.turns.cursor (seen c.turns.state)) c.step.new.cursor c.step.new.state c.in_ok-is_there.is_there c.in_ok-is_there.ensures c.if-not-is_there.false) c.in_ok-flow.ensures (sym c.goes_on.ensures ∙ c.if-not-goes_on.false) c.if-left-eq0.true)

pub for_turns-returns-in-Some : goal.for_turns-returns-in-Some
unfolding pure
for_turns-returns-in-Some g t c = for_is (here c.args.self.now.program.now c.args.self.now.limit c.args.self.now.depth) (consumers_of c.args.consumers.now) (scope_of c.args.scope.now) c.args.l.now (seen c.args.state.now) ∙ ap (λ (o : Outcome Flow). and_then o loop_ends) (rw c.in-Some.is at c.in_ok-entered.ensures) ∙ ap (λ f. Gives f (seen c.enter_for.new.state)) (sym c.after_loop.ensures)

pub for_turns-returns-in_err-entered : goal.for_turns-returns-in_err-entered
unfolding bind pure
for_turns-returns-in_err-entered g t c =
    let next = for_is (here c.args.self.now.program.now c.args.self.now.limit c.args.self.now.depth) (consumers_of c.args.consumers.now) (scope_of c.args.scope.now) c.args.l.now (seen c.args.state.now) in
    grind (arith, common_steps, next)

pub parallel_turns-turns-init : goal.parallel_turns-turns-init
parallel_turns-turns-init g t c = loop_begins (next_by in_place c.args.self.now.limit) (turn_of (here c.args.self.now.program.now c.args.self.now.limit c.args.self.now.depth) (consumers_of c.args.consumers.now) (Parallel (region_of c.open_region.new.opened.region) (record (scope_of c.args.scope.now) { fixed = c.as_slice.result.now }) c.args.l.now.names c.args.l.now.body)) c.args.self.now.limit c.open_region.new.cursor (seen c.open_region.new.state) c.left-left.result c.left-left.ensures

pub parallel_turns-turns-preserved : goal.parallel_turns-turns-preserved
parallel_turns-turns-preserved g t c = c.turns.invariant ∙ turn_next (next_by in_place c.args.self.now.limit) (turn_of (here c.args.self.now.program.now c.args.self.now.limit c.args.self.now.depth) (consumers_of c.args.consumers.now) (Parallel (region_of c.open_region.new.opened.region) (record (scope_of c.args.scope.now) { fixed = c.as_slice.result.now }) c.args.l.now.names c.args.l.now.body)) c.turns.left c.turns.cursor (seen c.turns.state) (seen c.advance.new.state) (seen c.parallel_turn.new.state) (c.in-Some-2.v, c.advance.new.cursor) (flow_of c.in_ok-flow.flow) (rw c.in-Some-2.is at c.in_ok-v.ensures) c.in_ok-flow.ensures (sym c.goes_on.ensures ∙ c.if-not-goes_on.false) (omega arith)

pub parallel_turns-turns-preserved-else-left-eq0 : goal.parallel_turns-turns-preserved-else-left-eq0
parallel_turns-turns-preserved-else-left-eq0 g t c = c.turns.invariant ∙ turn_next (next_by in_place c.args.self.now.limit) (turn_of (here c.args.self.now.program.now c.args.self.now.limit c.args.self.now.depth) (consumers_of c.args.consumers.now) (Parallel (region_of c.open_region.new.opened.region) (record (scope_of c.args.scope.now) { fixed = c.as_slice.result.now }) c.args.l.now.names c.args.l.now.body)) c.turns.left c.turns.cursor (seen c.turns.state) (seen c.advance.new.state) (seen c.parallel_turn.new.state) (c.in-Some-2.v, c.advance.new.cursor) (flow_of c.in_ok-flow.flow) (rw c.in-Some-2.is at c.in_ok-v.ensures) c.in_ok-flow.ensures (sym c.goes_on.ensures ∙ c.if-not-goes_on.false) (omega arith)

pub parallel_turns-turns-preserved-else-left-eq0-2 : goal.parallel_turns-turns-preserved-else-left-eq0-2
parallel_turns-turns-preserved-else-left-eq0-2 g t c = c.turns.invariant ∙ turn_next (next_by in_place c.args.self.now.limit) (turn_of (here c.args.self.now.program.now c.args.self.now.limit c.args.self.now.depth) (consumers_of c.args.consumers.now) (Parallel (region_of c.open_region.new.opened.region) (record (scope_of c.args.scope.now) { fixed = c.as_slice.result.now }) c.args.l.now.names c.args.l.now.body)) c.turns.left c.turns.cursor (seen c.turns.state) (seen c.advance.new.state) (seen c.parallel_turn.new.state) (c.in-Some-2.v, c.advance.new.cursor) (flow_of c.in_ok-flow.flow) (rw c.in-Some-2.is at c.in_ok-v.ensures) c.in_ok-flow.ensures (sym c.goes_on.ensures ∙ c.if-not-goes_on.false) (omega arith)

pub parallel_turns-turns-preserved-else-left-eq0-3 : goal.parallel_turns-turns-preserved-else-left-eq0-3
parallel_turns-turns-preserved-else-left-eq0-3 g t c = c.turns.invariant ∙ turn_next (next_by in_place c.args.self.now.limit) (turn_of (here c.args.self.now.program.now c.args.self.now.limit c.args.self.now.depth) (consumers_of c.args.consumers.now) (Parallel (region_of c.open_region.new.opened.region) (record (scope_of c.args.scope.now) { fixed = c.as_slice.result.now }) c.args.l.now.names c.args.l.now.body)) c.turns.left c.turns.cursor (seen c.turns.state) (seen c.advance.new.state) (seen c.parallel_turn.new.state) (c.in-Some-2.v, c.advance.new.cursor) (flow_of c.in_ok-flow.flow) (rw c.in-Some-2.is at c.in_ok-v.ensures) c.in_ok-flow.ensures (sym c.goes_on.ensures ∙ c.if-not-goes_on.false) (omega arith)

pub parallel_turns-returns-in_default : goal.parallel_turns-returns-in_default
parallel_turns-returns-in_default g t c = (rw c.in-None.is at c.in_ok-entered.ensures) ∙ ap (λ (f : List Spelling). and_then (turns_from (here c.args.self.now.program.now c.args.self.now.limit c.args.self.now.depth) (turn_of (here c.args.self.now.program.now c.args.self.now.limit c.args.self.now.depth) (consumers_of c.args.consumers.now) (Parallel (region_of c.open_region.new.opened.region) (record (scope_of c.args.scope.now) { fixed = f }) c.args.l.now.names c.args.l.now.body)) c.open_region.new.cursor (seen c.open_region.new.state)) (region_ends c.open_region.new.opened.begun.outside c.open_region.new.opened.begun.reached)) (sym c.as_slice.ensures) ∙ ap (λ (o : Outcome Flow). and_then o (region_ends c.open_region.new.opened.begun.outside c.open_region.new.opened.begun.reached)) (c.turns.invariant ∙ turn_end (next_by in_place c.args.self.now.limit) (turn_of (here c.args.self.now.program.now c.args.self.now.limit c.args.self.now.depth) (consumers_of c.args.consumers.now) (Parallel (region_of c.open_region.new.opened.region) (record (scope_of c.args.scope.now) { fixed = c.as_slice.result.now }) c.args.l.now.names c.args.l.now.body)) c.turns.left c.turns.cursor (seen c.turns.state) (seen c.advance.new.state) (rw c.in_default.is at c.in_ok-v.ensures)) ∙ ap (λ f. (region_ends c.open_region.new.opened.begun.outside c.open_region.new.opened.begun.reached) f (seen c.advance.new.state)) (sym c.ended.ensures)

pub parallel_turns-returns-then-not-goes_on : goal.parallel_turns-returns-then-not-goes_on
parallel_turns-returns-then-not-goes_on g t c = (rw c.in-None.is at c.in_ok-entered.ensures) ∙ ap (λ (f : List Spelling). and_then (turns_from (here c.args.self.now.program.now c.args.self.now.limit c.args.self.now.depth) (turn_of (here c.args.self.now.program.now c.args.self.now.limit c.args.self.now.depth) (consumers_of c.args.consumers.now) (Parallel (region_of c.open_region.new.opened.region) (record (scope_of c.args.scope.now) { fixed = f }) c.args.l.now.names c.args.l.now.body)) c.open_region.new.cursor (seen c.open_region.new.state)) (region_ends c.open_region.new.opened.begun.outside c.open_region.new.opened.begun.reached)) (sym c.as_slice.ensures) ∙ ap (λ (o : Outcome Flow). and_then o (region_ends c.open_region.new.opened.begun.outside c.open_region.new.opened.begun.reached)) (c.turns.invariant ∙ turn_leaves (next_by in_place c.args.self.now.limit) (turn_of (here c.args.self.now.program.now c.args.self.now.limit c.args.self.now.depth) (consumers_of c.args.consumers.now) (Parallel (region_of c.open_region.new.opened.region) (record (scope_of c.args.scope.now) { fixed = c.as_slice.result.now }) c.args.l.now.names c.args.l.now.body)) c.turns.left c.turns.cursor (seen c.turns.state) (seen c.advance.new.state) (seen c.parallel_turn.new.state) (c.in-Some-2.v, c.advance.new.cursor) (flow_of c.in_ok-flow.flow) (rw c.in-Some-2.is at c.in_ok-v.ensures) c.in_ok-flow.ensures (sym c.goes_on.ensures ∙ c.if-not-goes_on.true))

pub parallel_turns-returns-then-left-eq0 : goal.parallel_turns-returns-then-left-eq0
parallel_turns-returns-then-left-eq0 g t c = λ n. (rw c.in-None.is at c.in_ok-entered.ensures) ∙ ap (λ (f : List Spelling). and_then (turns_from (here c.args.self.now.program.now c.args.self.now.limit c.args.self.now.depth) (turn_of (here c.args.self.now.program.now c.args.self.now.limit c.args.self.now.depth) (consumers_of c.args.consumers.now) (Parallel (region_of c.open_region.new.opened.region) (record (scope_of c.args.scope.now) { fixed = f }) c.args.l.now.names c.args.l.now.body)) c.open_region.new.cursor (seen c.open_region.new.state)) (region_ends c.open_region.new.opened.begun.outside c.open_region.new.opened.begun.reached)) (sym c.as_slice.ensures) ∙ ap (λ (o : Outcome Flow). and_then o (region_ends c.open_region.new.opened.begun.outside c.open_region.new.opened.begun.reached)) (c.turns.invariant ∙ turn_out (next_by in_place c.args.self.now.limit) (turn_of (here c.args.self.now.program.now c.args.self.now.limit c.args.self.now.depth) (consumers_of c.args.consumers.now) (Parallel (region_of c.open_region.new.opened.region) (record (scope_of c.args.scope.now) { fixed = c.as_slice.result.now }) c.args.l.now.names c.args.l.now.body)) c.turns.left c.turns.cursor (seen c.turns.state) (seen c.advance.new.state) (seen c.parallel_turn.new.state) (c.in-Some-2.v, c.advance.new.cursor) (flow_of c.in_ok-flow.flow) (rw c.in-Some-2.is at c.in_ok-v.ensures) c.in_ok-flow.ensures (sym c.goes_on.ensures ∙ c.if-not-goes_on.false) c.if-left-eq0.true)

pub parallel_turns-returns-in_err-v : goal.parallel_turns-returns-in_err-v
unfolding bind pure
parallel_turns-returns-in_err-v g t c =
    let begins = (rw c.in-None.is at c.in_ok-entered.ensures) ∙ ap (λ (f : List Spelling). and_then (turns_from (here c.args.self.now.program.now c.args.self.now.limit c.args.self.now.depth) (turn_of (here c.args.self.now.program.now c.args.self.now.limit c.args.self.now.depth) (consumers_of c.args.consumers.now) (Parallel (region_of c.open_region.new.opened.region) (record (scope_of c.args.scope.now) { fixed = f }) c.args.l.now.names c.args.l.now.body)) c.open_region.new.cursor (seen c.open_region.new.state)) (region_ends c.open_region.new.opened.begun.outside c.open_region.new.opened.begun.reached)) (sym c.as_slice.ensures) in
    let before = c.turns.invariant in
    let next = by_next (next_by in_place c.args.self.now.limit) (turn_of (here c.args.self.now.program.now c.args.self.now.limit c.args.self.now.depth) (consumers_of c.args.consumers.now) (Parallel (region_of c.open_region.new.opened.region) (record (scope_of c.args.scope.now) { fixed = c.as_slice.result.now }) c.args.l.now.names c.args.l.now.body)) c.turns.left c.turns.cursor (seen c.turns.state) in
    grind (arith, common_steps, begins, before, next)

pub parallel_turns-returns-in_err-flow : goal.parallel_turns-returns-in_err-flow
unfolding bind pure
parallel_turns-returns-in_err-flow g t c =
    let begins = (rw c.in-None.is at c.in_ok-entered.ensures) ∙ ap (λ (f : List Spelling). and_then (turns_from (here c.args.self.now.program.now c.args.self.now.limit c.args.self.now.depth) (turn_of (here c.args.self.now.program.now c.args.self.now.limit c.args.self.now.depth) (consumers_of c.args.consumers.now) (Parallel (region_of c.open_region.new.opened.region) (record (scope_of c.args.scope.now) { fixed = f }) c.args.l.now.names c.args.l.now.body)) c.open_region.new.cursor (seen c.open_region.new.state)) (region_ends c.open_region.new.opened.begun.outside c.open_region.new.opened.begun.reached)) (sym c.as_slice.ensures) in
    let before = c.turns.invariant in
    let next = by_turn (next_by in_place c.args.self.now.limit) (turn_of (here c.args.self.now.program.now c.args.self.now.limit c.args.self.now.depth) (consumers_of c.args.consumers.now) (Parallel (region_of c.open_region.new.opened.region) (record (scope_of c.args.scope.now) { fixed = c.as_slice.result.now }) c.args.l.now.names c.args.l.now.body)) c.turns.left c.turns.cursor (seen c.turns.state) (seen c.advance.new.state) (c.in-Some-2.v, c.advance.new.cursor) (rw c.in-Some-2.is at c.in_ok-v.ensures) in
    grind (arith, common_steps, begins, before, next)
