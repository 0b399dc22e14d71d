use Rattle.std.proofs.Common.{rules, arith, ◌∷◌, ◌++◌, []}
use Rattle.std.proofs.lemmas.Grind.{common_steps}
use Rattle.parse_laws.specs.Parser.{repeat, take_by, row_turn}
use Rattle.parse_laws.specs.Loops.{rest_of, row_test, starts_in}
use Rattle.grammar_rules.specs.Words.{is_comma, name_at}
use Rattle.parse_expressions.specs.Reading.{is_name, any_number}
use Rattle.parse_expressions.proofs.Counting.{one_more, no_more}
use Rattle.parse_expressions.proofs.cursor.Cursor.more_names.Goals as goal

pub turn-init : goal.turn-init
unfolding rest_of
turn-init c = first_of (search rules, grind (arith, common_steps))

pub returns-then-not-names_go_on : goal.returns-then-not-names_go_on
unfolding repeat
returns-then-not-names_go_on c =
    let e = one_more (λ n. repeat (row_test is_comma (starts_in any_number is_name)) (row_turn is_comma (λ _. take_by name_at) (λ v y. v ++ y ∷ [])) n c.turn.row c.turn.self) _ c.turn._turn c.turn-test.true c.turn.invariant in
    first_of (search rules, grind (arith, common_steps))

pub returns-in_err-row : goal.returns-in_err-row
unfolding repeat
returns-in_err-row c =
    let e = one_more (λ n. repeat (row_test is_comma (starts_in any_number is_name)) (row_turn is_comma (λ _. take_by name_at) (λ v y. v ++ y ∷ [])) n c.turn.row c.turn.self) _ c.turn._turn c.turn-test.true c.turn.invariant in
    first_of (search rules, grind (arith, common_steps))

pub turn-preserved : goal.turn-preserved
unfolding repeat
turn-preserved c =
    let e = one_more (λ n. repeat (row_test is_comma (starts_in any_number is_name)) (row_turn is_comma (λ _. take_by name_at) (λ v y. v ++ y ∷ [])) n c.turn.row c.turn.self) _ c.turn._turn c.turn-test.true c.turn.invariant in
    first_of (search rules, grind (arith, common_steps))

pub returns : goal.returns
unfolding repeat
returns c =
    let e = no_more (λ n. repeat (row_test is_comma (starts_in any_number is_name)) (row_turn is_comma (λ _. take_by name_at) (λ v y. v ++ y ∷ [])) n c.turn.row c.turn.self) _ c.turn._turn c.turn-test.false c.turn.invariant in
    first_of (search rules, grind (arith, common_steps))
