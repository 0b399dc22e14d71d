use Rattle.std.proofs.Common.{◌≡◌, List, arith, ap, sym, ◌∙◌, subst, Bool, refl}
use Rattle.std.proofs.lemmas.Grind.{common_steps}
use Rattle.meaning_rules.specs.Expressions as spec
use Rattle.meaning_rules.specs.State.{Next}
use Rattle.plain_interpreter.specs.Lists as lists
use Rattle.meaning_rules.specs.Loops as loops
use Rattle.meaning_rules.specs.Outcome.{Outcome, Gives, bind, pure}
use Rattle.meaning_rules.specs.Iterations.{in_place}
use Rattle.meaning_rules.specs.Meaning.{condition_of}
use Rattle.plain_interpreter.specs.Steps.{iterable_of}
use Rattle.plain_interpreter.specs.Seen.{seen, Tells, TellsBy}
use Rattle.plain_interpreter.specs.Scopes.{scope_of}
use Rattle.plain_interpreter.specs.Tasks.{here, known_of}
use Rattle.plain_interpreter.proofs.Parts.{exprs_begin, some_next, some_end, all_next, all_end, chain_more}
use Rattle.plain_interpreter.proofs.Equations.{expr_Name, expr_Number, expr_Text, expr_True, expr_False, expr_None, expr_Bracketed, expr_Tuple, expr_List, expr_Conditional, expr_Or, expr_And, expr_Not, expr_Unary, expr_Binary, expr_MethodCall, expr_Index, expr_Comprehension, expr_Compare, expr_Call, expr_Slice, expr_Field, iterable_MethodCall, iterable_other}
use Rattle.plain_interpreter.proofs.Goings.{range_is, generator_is, value_is}
use Rattle.plain_interpreter.proofs.Gathering.{inner_scope, filling_begins, body, is_passed, stepped_on, ended_same, item_found, condition_found, condition_none, comprehension_found}
use Rattle.codon_base.specs.declared.value.Value.{Value}
use Rattle.plain_interpreter.specs.Collected.{collect}
use Rattle.plain_interpreter.proofs.Rest.{after, collect_next, collect_end}
use Rattle.source_trees.specs.declared.expression.Expr.{Expr}
use Rattle.plain_interpreter.specs.declared.state.State as code
use Rattle.plain_interpreter.specs.declared.scope.Inner.{Inner}
use Rattle.plain_interpreter.specs.declared.comprehensions.Gathering.{Gathering}
use Rattle.plain_interpreter.specs.Entered.{stepped}
use Rattle.plain_interpreter.specs.Gathered.{HasNames, filling, turns_of, ended}
use Rattle.plain_interpreter.proofs.Stepped.{body_next}
use Rattle.plain_interpreter.proofs.runner.Runner.+expression.Goals as goal
use Rattle.plain_interpreter.proofs.runner.Runner.+expression.Goals.{fill-then-is_kept+in_ok-append_found, fill-else-is_kept, fill-in-Some+in_ok-is_kept-in-Some, fill-in-None}

pub exprs-items-init : goal.exprs-items-init
exprs-items-init g t c =
    let at = here c.args.self.now.program.now c.args.self.now.limit c.args.self.now.depth in
    exprs_begin at (scope_of c.args.scope.now) c.args.items.now (seen c.args.state.now) ∙ ap (λ (d : List Value). after d (collect (spec.expr at (scope_of c.args.scope.now)) c.args.items.now (seen c.args.state.now))) (sym c.new-done.ensures)

pub exprs-items-preserved : goal.exprs-items-preserved
exprs-items-preserved g t c =
    let next = collect_next (spec.expr (here c.args.self.now.program.now c.args.self.now.limit c.args.self.now.depth) (scope_of c.args.scope.now)) c.items.done c.args.items.now c.items.e-index c.e-item.result (seen c.items.state) c.items-test.true c.e-item.is in
    grind (arith, common_steps, next)

pub exprs-returns-in_err-expr : goal.exprs-returns-in_err-expr
exprs-returns-in_err-expr g t c =
    let next = collect_next (spec.expr (here c.args.self.now.program.now c.args.self.now.limit c.args.self.now.depth) (scope_of c.args.scope.now)) c.items.done c.args.items.now c.items.e-index c.e-item.result (seen c.items.state) c.items-test.true c.e-item.is in
    grind (arith, common_steps, next)

pub exprs-returns : goal.exprs-returns
exprs-returns g t c =
    let done = collect_end (spec.expr (here c.args.self.now.program.now c.args.self.now.limit c.args.self.now.depth) (scope_of c.args.scope.now)) c.items.done c.args.items.now c.items.e-index (seen c.items.state) c.items-test.false in
    grind (arith, common_steps, done)

pub some_true-operands-preserved : goal.some_true-operands-preserved
some_true-operands-preserved g t c =
    let next = some_next (here c.args.self.now.program.now c.args.self.now.limit c.args.self.now.depth) (scope_of c.args.scope.now) c.args.operands.now c.operands.e-index c.e-item.result (seen c.operands.state) c.operands-test.true c.e-item.is in
    grind (arith, common_steps, next)

pub some_true-returns-in_err-condition : goal.some_true-returns-in_err-condition
some_true-returns-in_err-condition g t c =
    let next = some_next (here c.args.self.now.program.now c.args.self.now.limit c.args.self.now.depth) (scope_of c.args.scope.now) c.args.operands.now c.operands.e-index c.e-item.result (seen c.operands.state) c.operands-test.true c.e-item.is in
    grind (arith, common_steps, next)

pub some_true-returns : goal.some_true-returns
some_true-returns g t c =
    let done = some_end (here c.args.self.now.program.now c.args.self.now.limit c.args.self.now.depth) (scope_of c.args.scope.now) c.args.operands.now c.operands.e-index (seen c.operands.state) c.operands-test.false in
    grind (arith, common_steps, done)

pub all_true-operands-preserved : goal.all_true-operands-preserved
all_true-operands-preserved g t c =
    let next = all_next (here c.args.self.now.program.now c.args.self.now.limit c.args.self.now.depth) (scope_of c.args.scope.now) c.args.operands.now c.operands.e-index c.e-item.result (seen c.operands.state) c.operands-test.true c.e-item.is in
    grind (arith, common_steps, next)

pub all_true-returns-in_err-condition : goal.all_true-returns-in_err-condition
all_true-returns-in_err-condition g t c =
    let next = all_next (here c.args.self.now.program.now c.args.self.now.limit c.args.self.now.depth) (scope_of c.args.scope.now) c.args.operands.now c.operands.e-index c.e-item.result (seen c.operands.state) c.operands-test.true c.e-item.is in
    grind (arith, common_steps, next)

pub all_true-returns : goal.all_true-returns
all_true-returns g t c =
    let done = all_end (here c.args.self.now.program.now c.args.self.now.limit c.args.self.now.depth) (scope_of c.args.scope.now) c.args.operands.now c.operands.e-index (seen c.operands.state) c.operands-test.false in
    grind (arith, common_steps, done)

pub expr-returns-in-Name : goal.expr-returns-in-Name
expr-returns-in-Name g t c = subst (λ (o : Outcome Value). Tells o c.read_name.result c.read_name.new.state) (sym (ap (λ d. spec.expr (here c.args.self.now.program.now c.args.self.now.limit c.args.self.now.depth) (scope_of c.args.scope.now) d (seen c.args.state.now)) c.in-Name.is ∙ expr_Name (here c.args.self.now.program.now c.args.self.now.limit c.args.self.now.depth) _ _ (scope_of c.args.scope.now) (seen c.args.state.now))) c.read_name.ensures

pub expr-returns-in-Text : goal.expr-returns-in-Text
expr-returns-in-Text g t c = subst (λ (o : Outcome Value). Tells o c.text_value.result c.args.state.now) (sym (ap (λ d. spec.expr (here c.args.self.now.program.now c.args.self.now.limit c.args.self.now.depth) (scope_of c.args.scope.now) d (seen c.args.state.now)) c.in-Text.is ∙ expr_Text (here c.args.self.now.program.now c.args.self.now.limit c.args.self.now.depth) _ _ (scope_of c.args.scope.now) (seen c.args.state.now))) c.text_value.ensures

pub expr-returns-in-Tuple : goal.expr-returns-in-Tuple
expr-returns-in-Tuple g t c = subst (λ (o : Outcome Value). Tells o c.tuple.result c.tuple.new.state) (sym (ap (λ d. spec.expr (here c.args.self.now.program.now c.args.self.now.limit c.args.self.now.depth) (scope_of c.args.scope.now) d (seen c.args.state.now)) c.in-Tuple.is ∙ expr_Tuple (here c.args.self.now.program.now c.args.self.now.limit c.args.self.now.depth) _ _ _ (scope_of c.args.scope.now) (seen c.args.state.now))) c.tuple.ensures

pub expr-returns-in-List : goal.expr-returns-in-List
expr-returns-in-List g t c = subst (λ (o : Outcome Value). Tells o c.list.result c.list.new.state) (sym (ap (λ d. spec.expr (here c.args.self.now.program.now c.args.self.now.limit c.args.self.now.depth) (scope_of c.args.scope.now) d (seen c.args.state.now)) c.in-List.is ∙ expr_List (here c.args.self.now.program.now c.args.self.now.limit c.args.self.now.depth) _ _ (scope_of c.args.scope.now) (seen c.args.state.now))) c.list.ensures

pub expr-returns-in-Conditional : goal.expr-returns-in-Conditional
expr-returns-in-Conditional g t c = subst (λ (o : Outcome Value). Tells o c.conditional.result c.conditional.new.state) (sym (ap (λ d. spec.expr (here c.args.self.now.program.now c.args.self.now.limit c.args.self.now.depth) (scope_of c.args.scope.now) d (seen c.args.state.now)) c.in-Conditional.is ∙ expr_Conditional (here c.args.self.now.program.now c.args.self.now.limit c.args.self.now.depth) _ _ _ _ (scope_of c.args.scope.now) (seen c.args.state.now))) c.conditional.ensures

pub expr-returns-in-Not : goal.expr-returns-in-Not
expr-returns-in-Not g t c = subst (λ (o : Outcome Value). Tells o c.negated.result c.negated.new.state) (sym (ap (λ d. spec.expr (here c.args.self.now.program.now c.args.self.now.limit c.args.self.now.depth) (scope_of c.args.scope.now) d (seen c.args.state.now)) c.in-Not.is ∙ expr_Not (here c.args.self.now.program.now c.args.self.now.limit c.args.self.now.depth) _ _ (scope_of c.args.scope.now) (seen c.args.state.now))) c.negated.ensures

pub expr-returns-in-Unary : goal.expr-returns-in-Unary
expr-returns-in-Unary g t c = subst (λ (o : Outcome Value). Tells o c.unary.result c.unary.new.state) (sym (ap (λ d. spec.expr (here c.args.self.now.program.now c.args.self.now.limit c.args.self.now.depth) (scope_of c.args.scope.now) d (seen c.args.state.now)) c.in-Unary.is ∙ expr_Unary (here c.args.self.now.program.now c.args.self.now.limit c.args.self.now.depth) _ _ _ (scope_of c.args.scope.now) (seen c.args.state.now))) c.unary.ensures

pub expr-returns-in-Binary : goal.expr-returns-in-Binary
expr-returns-in-Binary g t c = subst (λ (o : Outcome Value). Tells o c.binary.result c.binary.new.state) (sym (ap (λ d. spec.expr (here c.args.self.now.program.now c.args.self.now.limit c.args.self.now.depth) (scope_of c.args.scope.now) d (seen c.args.state.now)) c.in-Binary.is ∙ expr_Binary (here c.args.self.now.program.now c.args.self.now.limit c.args.self.now.depth) _ _ _ _ (scope_of c.args.scope.now) (seen c.args.state.now))) c.binary.ensures

pub expr-returns-in-Index : goal.expr-returns-in-Index
expr-returns-in-Index g t c = subst (λ (o : Outcome Value). Tells o c.index.result c.index.new.state) (sym (ap (λ d. spec.expr (here c.args.self.now.program.now c.args.self.now.limit c.args.self.now.depth) (scope_of c.args.scope.now) d (seen c.args.state.now)) c.in-Index.is ∙ expr_Index (here c.args.self.now.program.now c.args.self.now.limit c.args.self.now.depth) _ _ _ (scope_of c.args.scope.now) (seen c.args.state.now))) c.index.ensures

pub expr-returns-in-Field : goal.expr-returns-in-Field
expr-returns-in-Field g t c = subst (λ (o : Outcome Value). Tells o c.field.result c.field.new.state) (sym (ap (λ d. spec.expr (here c.args.self.now.program.now c.args.self.now.limit c.args.self.now.depth) (scope_of c.args.scope.now) d (seen c.args.state.now)) c.in-Field.is ∙ expr_Field (here c.args.self.now.program.now c.args.self.now.limit c.args.self.now.depth) _ _ _ (scope_of c.args.scope.now) (seen c.args.state.now))) c.field.ensures

pub expr-returns-in-Comprehension : goal.expr-returns-in-Comprehension
expr-returns-in-Comprehension g t c = subst (λ (o : Outcome Value). Tells o c.comprehended.result c.comprehended.new.state) (sym (ap (λ d. spec.expr (here c.args.self.now.program.now c.args.self.now.limit c.args.self.now.depth) (scope_of c.args.scope.now) d (seen c.args.state.now)) c.in-Comprehension.is ∙ expr_Comprehension (here c.args.self.now.program.now c.args.self.now.limit c.args.self.now.depth) _ _ _ _ _ (scope_of c.args.scope.now) (seen c.args.state.now))) c.comprehended.ensures

pub expr-returns-in-Compare : goal.expr-returns-in-Compare
expr-returns-in-Compare g t c = subst (λ (o : Outcome Value). Tells o c.comparison.result c.comparison.new.state) (sym (ap (λ d. spec.expr (here c.args.self.now.program.now c.args.self.now.limit c.args.self.now.depth) (scope_of c.args.scope.now) d (seen c.args.state.now)) c.in-Compare.is ∙ expr_Compare (here c.args.self.now.program.now c.args.self.now.limit c.args.self.now.depth) _ _ _ (scope_of c.args.scope.now) (seen c.args.state.now))) c.comparison.ensures

pub expr-returns-in-Call : goal.expr-returns-in-Call
expr-returns-in-Call g t c = subst (λ (o : Outcome Value). Tells o c.called.result c.called.new.state) (sym (ap (λ d. spec.expr (here c.args.self.now.program.now c.args.self.now.limit c.args.self.now.depth) (scope_of c.args.scope.now) d (seen c.args.state.now)) c.in-Call.is ∙ expr_Call (here c.args.self.now.program.now c.args.self.now.limit c.args.self.now.depth) _ _ _ (scope_of c.args.scope.now) (seen c.args.state.now))) c.called.ensures

pub expr-returns-in-MethodCall : goal.expr-returns-in-MethodCall
expr-returns-in-MethodCall g t c = subst (λ (o : Outcome Value). Tells o c.method_called.result c.method_called.new.state) (sym (ap (λ d. spec.expr (here c.args.self.now.program.now c.args.self.now.limit c.args.self.now.depth) (scope_of c.args.scope.now) d (seen c.args.state.now)) c.in-MethodCall.is ∙ expr_MethodCall (here c.args.self.now.program.now c.args.self.now.limit c.args.self.now.depth) _ _ _ _ _ (scope_of c.args.scope.now) (seen c.args.state.now))) c.method_called.ensures

pub expr-returns-in-Slice : goal.expr-returns-in-Slice
expr-returns-in-Slice g t c = subst (λ (o : Outcome Value). Tells o c.sliced.result c.sliced.new.state) (sym (ap (λ d. spec.expr (here c.args.self.now.program.now c.args.self.now.limit c.args.self.now.depth) (scope_of c.args.scope.now) d (seen c.args.state.now)) c.in-Slice.is ∙ expr_Slice (here c.args.self.now.program.now c.args.self.now.limit c.args.self.now.depth) _ _ _ _ (scope_of c.args.scope.now) (seen c.args.state.now))) c.sliced.ensures

pub expr-returns-in-Number : goal.expr-returns-in-Number
expr-returns-in-Number g t c = subst (λ (o : Outcome Value). Tells o c.number_value.result c.args.state.now) (sym (ap (λ d. spec.expr (here c.args.self.now.program.now c.args.self.now.limit c.args.self.now.depth) (scope_of c.args.scope.now) d (seen c.args.state.now)) c.in-Number.is ∙ expr_Number (here c.args.self.now.program.now c.args.self.now.limit c.args.self.now.depth) _ _ (scope_of c.args.scope.now) (seen c.args.state.now))) c.number_value.ensures

pub expr-returns-in-True : goal.expr-returns-in-True
unfolding pure
expr-returns-in-True g t c = ap (λ d. spec.expr (here c.args.self.now.program.now c.args.self.now.limit c.args.self.now.depth) (scope_of c.args.scope.now) d (seen c.args.state.now)) c.in-True.is ∙ expr_True (here c.args.self.now.program.now c.args.self.now.limit c.args.self.now.depth) _ (scope_of c.args.scope.now) (seen c.args.state.now)

pub expr-returns-in-False : goal.expr-returns-in-False
unfolding pure
expr-returns-in-False g t c = ap (λ d. spec.expr (here c.args.self.now.program.now c.args.self.now.limit c.args.self.now.depth) (scope_of c.args.scope.now) d (seen c.args.state.now)) c.in-False.is ∙ expr_False (here c.args.self.now.program.now c.args.self.now.limit c.args.self.now.depth) _ (scope_of c.args.scope.now) (seen c.args.state.now)

pub expr-returns-in-None : goal.expr-returns-in-None
unfolding pure
expr-returns-in-None g t c = ap (λ d. spec.expr (here c.args.self.now.program.now c.args.self.now.limit c.args.self.now.depth) (scope_of c.args.scope.now) d (seen c.args.state.now)) c.in-None.is ∙ expr_None (here c.args.self.now.program.now c.args.self.now.limit c.args.self.now.depth) _ (scope_of c.args.scope.now) (seen c.args.state.now)

pub expr-returns-in-Bracketed : goal.expr-returns-in-Bracketed
expr-returns-in-Bracketed g t c = subst (λ (o : Outcome Value). Tells o c.expr.result c.expr.new.state) (sym (ap (λ d. spec.expr (here c.args.self.now.program.now c.args.self.now.limit c.args.self.now.depth) (scope_of c.args.scope.now) d (seen c.args.state.now)) c.in-Bracketed.is ∙ expr_Bracketed (here c.args.self.now.program.now c.args.self.now.limit c.args.self.now.depth) _ _ (scope_of c.args.scope.now) (seen c.args.state.now) ∙ ap (λ d. spec.expr (here c.args.self.now.program.now c.args.self.now.limit c.args.self.now.depth) (scope_of c.args.scope.now) d (seen c.args.state.now)) (sym c.get.ensures))) c.expr.ensures

pub expr-returns-in-Or : goal.expr-returns-in-Or
expr-returns-in-Or g t c = subst (λ (o : Outcome Value). Tells o c.some_true.result c.some_true.new.state) (sym (ap (λ d. spec.expr (here c.args.self.now.program.now c.args.self.now.limit c.args.self.now.depth) (scope_of c.args.scope.now) d (seen c.args.state.now)) c.in-Or.is ∙ expr_Or (here c.args.self.now.program.now c.args.self.now.limit c.args.self.now.depth) _ _ (scope_of c.args.scope.now) (seen c.args.state.now) ∙ ap (λ d. lists.some_true (here c.args.self.now.program.now c.args.self.now.limit c.args.self.now.depth) (scope_of c.args.scope.now) d (seen c.args.state.now)) (sym c.as_slice.ensures))) c.some_true.ensures

pub expr-returns-in-And : goal.expr-returns-in-And
expr-returns-in-And g t c = subst (λ (o : Outcome Value). Tells o c.all_true.result c.all_true.new.state) (sym (ap (λ d. spec.expr (here c.args.self.now.program.now c.args.self.now.limit c.args.self.now.depth) (scope_of c.args.scope.now) d (seen c.args.state.now)) c.in-And.is ∙ expr_And (here c.args.self.now.program.now c.args.self.now.limit c.args.self.now.depth) _ _ (scope_of c.args.scope.now) (seen c.args.state.now) ∙ ap (λ d. lists.all_true (here c.args.self.now.program.now c.args.self.now.limit c.args.self.now.depth) (scope_of c.args.scope.now) d (seen c.args.state.now)) (sym c.as_slice-in-And.ensures))) c.all_true.ensures

pub iterable-returns-in-Range : goal.iterable-returns-in-Range
iterable-returns-in-Range g t c = subst (λ (o : Outcome loops.Iterable). TellsBy iterable_of o c.range.result c.range.new.state) (sym (ap (λ d. spec.iterable (here c.args.self.now.program.now c.args.self.now.limit c.args.self.now.depth) (scope_of c.args.scope.now) d (seen c.args.state.now)) c.in-Call.is ∙ range_is (here c.args.self.now.program.now c.args.self.now.limit c.args.self.now.depth) (scope_of c.args.scope.now) c.in-Call.name c.in-Call.parts (seen c.args.state.now) _ (rw c.in-Range.is at c.goes_as.ensures) ∙ ap (λ d. bind (spec.exprs (here c.args.self.now.program.now c.args.self.now.limit c.args.self.now.depth) (scope_of c.args.scope.now) d) spec.range_of (seen c.args.state.now)) (sym c.as_slice.ensures))) c.range.ensures

pub iterable-returns-in-Generator : goal.iterable-returns-in-Generator
iterable-returns-in-Generator g t c = subst (λ (o : Outcome loops.Iterable). TellsBy iterable_of o c.generated.result c.generated.new.state) (sym (ap (λ d. spec.iterable (here c.args.self.now.program.now c.args.self.now.limit c.args.self.now.depth) (scope_of c.args.scope.now) d (seen c.args.state.now)) c.in-Call.is ∙ generator_is (here c.args.self.now.program.now c.args.self.now.limit c.args.self.now.depth) (scope_of c.args.scope.now) c.in-Call.name c.in-Call.parts (seen c.args.state.now) _ _ (rw c.in-Generator.is at c.goes_as.ensures).0 (rw c.in-Generator.is at c.goes_as.ensures).1 ∙ ap (λ d. lists.generated (here c.args.self.now.program.now c.args.self.now.limit c.args.self.now.depth) (scope_of c.args.scope.now) (known_of c.in-Generator.called) d (seen c.args.state.now)) (sym c.as_slice-in-Generator.ensures))) c.generated.ensures

pub iterable-returns-in-Value : goal.iterable-returns-in-Value
iterable-returns-in-Value g t c = subst (λ (o : Outcome loops.Iterable). TellsBy iterable_of o c.value_iterable.result c.value_iterable.new.state) (sym (ap (λ d. spec.iterable (here c.args.self.now.program.now c.args.self.now.limit c.args.self.now.depth) (scope_of c.args.scope.now) d (seen c.args.state.now)) c.in-Call.is ∙ value_is (here c.args.self.now.program.now c.args.self.now.limit c.args.self.now.depth) (scope_of c.args.scope.now) c.in-Call.name c.in-Call.parts (seen c.args.state.now) _ (rw c.in-Value.is at c.goes_as.ensures) ∙ ap (λ d. spec.items_of (spec.expr (here c.args.self.now.program.now c.args.self.now.limit c.args.self.now.depth) (scope_of c.args.scope.now) d) (seen c.args.state.now)) (sym c.in-Call.is))) c.value_iterable.ensures

pub iterable-returns-in_default : goal.iterable-returns-in_default
unfolding bind pure
iterable-returns-in_default g t c = subst (λ (o : Outcome loops.Iterable). TellsBy iterable_of o c.value_iterable-in_default.result c.value_iterable-in_default.new.state) (sym (iterable_other (here c.args.self.now.program.now c.args.self.now.limit c.args.self.now.depth) (scope_of c.args.scope.now) (seen c.args.state.now) c.args.e.now (c.in_default.not-Call, c.in_default.not-MethodCall))) c.value_iterable-in_default.ensures

pub iterable-returns-in-MethodCall : goal.iterable-returns-in-MethodCall
iterable-returns-in-MethodCall g t c = subst (λ (o : Outcome loops.Iterable). TellsBy iterable_of o c.method_iterable.result c.method_iterable.new.state) (sym (ap (λ d. spec.iterable (here c.args.self.now.program.now c.args.self.now.limit c.args.self.now.depth) (scope_of c.args.scope.now) d (seen c.args.state.now)) c.in-MethodCall.is ∙ iterable_MethodCall (here c.args.self.now.program.now c.args.self.now.limit c.args.self.now.depth) _ _ _ _ _ (scope_of c.args.scope.now) (seen c.args.state.now))) c.method_iterable.ensures

pub chain-chain-preserved : goal.chain-chain-preserved
chain-chain-preserved g t c =
    c.chain.invariant ∙ chain_more (here c.args.self.now.program.now c.args.self.now.limit c.args.self.now.depth) (scope_of c.args.scope.now) c.args.others.now c.chain.each-index c.each-item.result c.chain.v c.in-Some.w (seen c.chain.state) (seen c.compare.new.state) c.chain-test.true c.each-item.is (rw c.in-Some.is at c.in_ok-w.ensures)

pub comprehended-returns : goal.comprehended-returns
comprehended-returns g t c =
    let at = here c.args.self.now.program.now c.args.self.now.limit c.args.self.now.depth in
    let done = c.finish.ensures (filling (turns_of at (scope_of c.args.scope.now) c.args.names.now c.args.condition.now c.args.item.now) c.deref_mut.result.now (seen c.gathering_over.new.state)) c.fill.ensures.filled in
    subst (λ (o : Outcome Value). Tells o c.finish.result c.finish.new.state)
    (ended_same c.args.names.now c.deref_mut.result.now c.fill.new.begun (filling (turns_of at (scope_of c.args.scope.now) c.args.names.now c.args.condition.now c.args.item.now) c.deref_mut.result.now (seen c.gathering_over.new.state)) c.fill.ensures.same
    ∙ ap (λ (b : Gathering). ended c.args.names.now b (filling (turns_of at (scope_of c.args.scope.now) c.args.names.now c.args.condition.now c.args.item.now) b (seen c.gathering_over.new.state))) c.deref_mut.ensures.value
    ∙ sym (comprehension_found at (scope_of c.args.scope.now) c.args.names.now c.args.iterable.now c.get.result.now c.args.condition.now c.args.item.now (seen c.args.state.now) c.get.ensures ∙ c.in_ok-begun.ensures.begun (spec.iterable at (scope_of c.args.scope.now) c.get.result.now (seen c.args.state.now)) c.iterable.ensures))
    done

pub fill-turns-init : goal.fill-turns-init
fill-turns-init g t c =
    let at = here c.args.self.now.program.now c.args.self.now.limit c.args.self.now.depth in
    let inside : HasNames c.deref.result.now c.args.names.now c.args.scope.now = subst (λ (all : List Inner). HasNames all c.args.names.now c.args.scope.now) (sym c.deref.ensures.value) c.requires.inside in
    record {
      same = refl {a = c.args.begun.now};
      rest = filling_begins at (scope_of c.args.scope.now) _ c.args.names.now c.args.condition.now c.args.item.now c.args.begun.now (seen c.args.state.now) c.left-left.result c.if-begun.false (inner_scope c.deref.result c.args.names.now c.args.scope.now inside) c.left-left.ensures;
    }

pub fill-turns-preserved : goal.fill-turns-preserved
fill-turns-preserved g t c =
    let at = here c.args.self.now.program.now c.args.self.now.limit c.args.self.now.depth in
    let inner = scope_of (record { inner = c.deref.result; locals = c.args.scope.now.locals; fixed = c.args.scope.now.fixed; in_prelude = c.args.scope.now.in_prelude }) in
    let made = stepped_on (stepped inner c.args.names.now in_place c.args.self.now.limit c.turns.begun.1.1.1.1.0 (seen c.turns.state)) c.in_ok-step.field-0 c.step.new.cursor c.step.new.state c.if-not-branch.false c.in_ok-step.ensures in
    let held : condition_of at inner c.args.condition.now (seen c.step.new.state) ≡ Gives c.match-condition.is_kept (seen c.match-condition.state) = elim c.match-condition.branch [
      | fill-in-Some+in_ok-is_kept-in-Some w ↦ condition_found at inner c.args.condition.now w.in-Some.condition w.get.result.now (seen c.step.new.state) w.in-Some.is w.get.ensures ∙ w.in_ok-is_kept-in-Some.ensures (spec.expr at inner w.get.result.now (seen c.step.new.state)) w.expr.ensures ∙ (λ i. Gives (sym w.is_kept-is i) (seen (sym w.state-is i)))
      | fill-in-None w ↦ condition_none at inner c.args.condition.now (seen c.step.new.state) w.in-None.is ∙ (λ i. Gives (sym w.is_kept-is i) (seen (sym w.state-is i)))
    ] in
    let turned : body at inner c.args.condition.now c.args.item.now c.turns.begun.1.1.0 (seen c.step.new.state) ≡ Gives Next (seen c.if-is_kept.state) = elim c.if-is_kept.branch [
      | fill-then-is_kept+in_ok-append_found w ↦ item_found at inner c.args.condition.now c.args.item.now c.turns.begun.1.1.0 (seen c.step.new.state) (seen c.match-condition.state) (spec.expr at inner w.get-then-is_kept.result.now (seen c.match-condition.state)) (Gives Next (seen w.append_found.new.state)) (subst (λ (t : Bool). condition_of at inner c.args.condition.now (seen c.step.new.state) ≡ Gives t (seen c.match-condition.state)) w.if-is_kept.true held) (ap (λ (e : Expr). spec.expr at inner e (seen c.match-condition.state)) (sym w.get-then-is_kept.ensures)) (w.in_ok-append_found.ensures (spec.expr at inner w.get-then-is_kept.result.now (seen c.match-condition.state)) w.expr-then-is_kept.ensures) ∙ ap (λ (s : code.State). Gives Next (seen s)) (sym w.state-is)
      | fill-else-is_kept w ↦ is_passed at inner c.args.condition.now c.args.item.now c.turns.begun.1.1.0 (seen c.step.new.state) (seen c.match-condition.state) (subst (λ (t : Bool). condition_of at inner c.args.condition.now (seen c.step.new.state) ≡ Gives t (seen c.match-condition.state)) w.if-is_kept.false held) ∙ ap (λ (s : code.State). Gives Next (seen s)) (sym w.state-is)
    ] in
    record {
      same = ap (λ (v : Value). record c.args.begun.now { list = v; cursor = c.step.new.cursor }) (ap (λ (b : Gathering). b.list) c.turns.invariant.same);
      rest = c.turns.invariant.rest ∙ body_next in_place c.args.self.now.limit inner c.args.names.now (body at inner c.args.condition.now c.args.item.now c.turns.begun.1.1.0) c.turns.left c.turns.begun.1.1.1.1.0 c.step.new.cursor (seen c.turns.state) (seen c.step.new.state) (seen c.if-is_kept.state) Next made turned refl (omega arith);
    }
