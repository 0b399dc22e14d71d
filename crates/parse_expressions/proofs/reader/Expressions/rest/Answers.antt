use Rattle.std.proofs.Common.{rules, arith, ◌∷◌, ◌++◌, []}
use Rattle.std.proofs.lemmas.Grind.{common_steps}
use Rattle.parse_laws.specs.Parser.{repeat}
use Rattle.parse_laws.specs.Parser.{row_turn}
use Rattle.parse_laws.specs.Loops.{rest_of, row_test, starts_in}
use Rattle.grammar_rules.specs.Words.{is_comma}
use Rattle.parse_expressions.specs.declared.form.Form.TheVariants.{Whole}
use Rattle.parse_expressions.specs.Forms.{begins}
use Rattle.parse_expressions.specs.Reading.{limit_of, read}
use Rattle.parse_expressions.proofs.Counting.{one_more, no_more}
use Rattle.parse_expressions.proofs.reader.Expressions.rest.Goals as goal

pub turn-init : goal.turn-init
unfolding rest_of
turn-init g c = first_of (search rules, grind (arith, common_steps))

pub returns-then-not-row_goes_on : goal.returns-then-not-row_goes_on
unfolding repeat
returns-then-not-row_goes_on g c =
    let e = one_more (λ n. repeat (row_test is_comma (starts_in (limit_of c.args.limited) (begins 3))) (row_turn is_comma (λ _. read c.args.self.now.room Whole) (λ v y. v ++ y ∷ [])) n c.turn.row c.turn.cursor) _ c.turn._turn c.turn-test.true c.turn.invariant in
    first_of (search rules, grind (arith, common_steps))

pub returns-in_err-row : goal.returns-in_err-row
unfolding repeat
returns-in_err-row g c =
    let e = one_more (λ n. repeat (row_test is_comma (starts_in (limit_of c.args.limited) (begins 3))) (row_turn is_comma (λ _. read c.args.self.now.room Whole) (λ v y. v ++ y ∷ [])) n c.turn.row c.turn.cursor) _ c.turn._turn c.turn-test.true c.turn.invariant in
    first_of (search rules, grind (arith, common_steps))

pub turn-preserved : goal.turn-preserved
unfolding repeat
turn-preserved g c =
    let e = one_more (λ n. repeat (row_test is_comma (starts_in (limit_of c.args.limited) (begins 3))) (row_turn is_comma (λ _. read c.args.self.now.room Whole) (λ v y. v ++ y ∷ [])) n c.turn.row c.turn.cursor) _ c.turn._turn c.turn-test.true c.turn.invariant in
    first_of (search rules, grind (arith, common_steps))

pub returns : goal.returns
unfolding repeat
returns g c =
    let e = no_more (λ n. repeat (row_test is_comma (starts_in (limit_of c.args.limited) (begins 3))) (row_turn is_comma (λ _. read c.args.self.now.room Whole) (λ v y. v ++ y ∷ [])) n c.turn.row c.turn.cursor) _ c.turn._turn c.turn-test.false c.turn.invariant in
    first_of (search rules, grind (arith, common_steps))
