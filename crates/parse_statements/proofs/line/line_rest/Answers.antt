use Rattle.std.proofs.Common.{rules, arith, ◌∷◌, ◌++◌, ◌&&◌, [], true, false, not}
use Rattle.std.proofs.lemmas.Grind.{common_steps}
use Rattle.parse_laws.specs.Parser.{repeat, row_turn, and_then, pure, expect, has}
use Rattle.parse_laws.specs.Loops.{row_test, starts_in, rest_of}
use Rattle.parse_statements.specs.Code.{readers}
use Rattle.parse_expressions.specs.Reading.{any_number}
use Rattle.parse_statements.specs.Simple.{simple}
use Rattle.parse_statements.specs.Lines.{is_semicolon, starts_simple}
use Rattle.parse_expressions.proofs.Counting.{one_more, no_more}
use Rattle.parse_statements.proofs.line.line_rest.Goals as goal

pub turn-init : goal.turn-init
unfolding rest_of
turn-init c = first_of (search rules, grind (arith, common_steps))

pub returns-then-not-goes_on : goal.returns-then-not-goes_on
unfolding repeat
returns-then-not-goes_on c =
    let e = one_more (λ n. repeat (row_test is_semicolon (starts_in any_number starts_simple)) (row_turn is_semicolon (λ _. simple readers c.args.room) (λ v y. v ++ y ∷ [])) n c.turn.row c.turn.cursor) _ c.turn._turn c.turn-test.true c.turn.invariant in
    first_of (search rules, grind (arith, common_steps))

pub returns-in_err-row : goal.returns-in_err-row
unfolding repeat
returns-in_err-row c =
    let e = one_more (λ n. repeat (row_test is_semicolon (starts_in any_number starts_simple)) (row_turn is_semicolon (λ _. simple readers c.args.room) (λ v y. v ++ y ∷ [])) n c.turn.row c.turn.cursor) _ c.turn._turn c.turn-test.true c.turn.invariant in
    first_of (search rules, grind (arith, common_steps))

pub turn-preserved : goal.turn-preserved
unfolding repeat
turn-preserved c =
    let e = one_more (λ n. repeat (row_test is_semicolon (starts_in any_number starts_simple)) (row_turn is_semicolon (λ _. simple readers c.args.room) (λ v y. v ++ y ∷ [])) n c.turn.row c.turn.cursor) _ c.turn._turn c.turn-test.true c.turn.invariant in
    first_of (search rules, grind (arith, common_steps))

pub returns : goal.returns
unfolding repeat
returns c =
    let e = no_more (λ n. repeat (row_test is_semicolon (starts_in any_number starts_simple)) (row_turn is_semicolon (λ _. simple readers c.args.room) (λ v y. v ++ y ∷ [])) n c.turn.row c.turn.cursor) _ c.turn._turn c.turn-test.false c.turn.invariant in
    first_of (search rules, grind (arith, common_steps))
