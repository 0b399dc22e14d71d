use Rattle.std.proofs.Common.{◌≡◌, ◌-◌, ◌∷◌, ◌++◌, ◌&&◌, [], true, false, not, length}
use Rattle.parse_laws.specs.Parser.{repeat, row_turn, and_then, pure, expect, has}
use Rattle.grammar_rules.specs.Words.{is_comma}
use Rattle.parse_laws.specs.Loops.{row_test, starts_in, rest_of}
use Rattle.parse_expressions.specs.declared.form.Form.TheVariants.{Whole}
use Rattle.parse_expressions.specs.Reading.{read}
use Rattle.parse_statements.specs.Readers.{starts_expr, has_room}
use Rattle.parse_statements.proofs.row.more_items.Given as goal

abbrev pub invariant-turn : goal.invariant-turn
invariant-turn l =
    repeat (row_test is_comma (starts_in has_room starts_expr)) (row_turn is_comma (λ _. read l.room Whole) (λ v y. v ++ y ∷ [])) (length l.fn.cursor) (l.fn.first, true) l.fn.cursor
    ≡ repeat (row_test is_comma (starts_in has_room starts_expr)) (row_turn is_comma (λ _. read l.room Whole) (λ v y. v ++ y ∷ [])) (l._turn-end - l._turn) l.row l.cursor
