use Rattle.std.proofs.Common.{rules, arith, ◌∷◌, ◌++◌, ◌&&◌, [], true, false, not}
use Rattle.std.proofs.lemmas.Grind.{common_steps}
use Rattle.parse_laws.specs.Parser.{repeat, row_turn, and_then, pure, expect, has}
use Rattle.grammar_rules.specs.Words.{is_comma}
use Rattle.parse_laws.specs.Loops.{row_test, starts_in, rest_of}
use Rattle.parse_statements.specs.Code.{readers}
use Rattle.parse_statements.specs.Stages.{starts_argument, argument}
use Rattle.parse_expressions.proofs.Counting.{one_more, no_more}
use Rattle.parse_statements.proofs.stage.arguments_on.Goals as goal

pub returns-then-not-goes_on : goal.returns-then-not-goes_on
unfolding repeat
returns-then-not-goes_on c =
    let e = one_more (λ n. repeat (row_test is_comma starts_argument) (row_turn is_comma (λ _. argument readers c.args.room) (λ v z. v ++ z ∷ [])) n c.turn.row c.turn.cursor) _ c.turn._turn c.turn-test.true c.turn.invariant in
    first_of (search rules, grind (arith, common_steps))

pub returns-in_err-row : goal.returns-in_err-row
unfolding repeat
returns-in_err-row c =
    let e = one_more (λ n. repeat (row_test is_comma starts_argument) (row_turn is_comma (λ _. argument readers c.args.room) (λ v z. v ++ z ∷ [])) n c.turn.row c.turn.cursor) _ c.turn._turn c.turn-test.true c.turn.invariant in
    first_of (search rules, grind (arith, common_steps))

pub turn-preserved : goal.turn-preserved
unfolding repeat
turn-preserved c =
    let e = one_more (λ n. repeat (row_test is_comma starts_argument) (row_turn is_comma (λ _. argument readers c.args.room) (λ v z. v ++ z ∷ [])) n c.turn.row c.turn.cursor) _ c.turn._turn c.turn-test.true c.turn.invariant in
    first_of (search rules, grind (arith, common_steps))

pub returns : goal.returns
unfolding repeat
returns c =
    let e = no_more (λ n. repeat (row_test is_comma starts_argument) (row_turn is_comma (λ _. argument readers c.args.room) (λ v z. v ++ z ∷ [])) n c.turn.row c.turn.cursor) _ c.turn._turn c.turn-test.false c.turn.invariant in
    first_of (search rules, grind (arith, common_steps))
