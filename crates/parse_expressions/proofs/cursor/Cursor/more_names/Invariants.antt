use Rattle.std.proofs.Common.{◌≡◌, ◌-◌, ◌∷◌, ◌++◌, []}
use Rattle.parse_laws.specs.Parser.{repeat, take_by, row_turn}
use Rattle.parse_laws.specs.Loops.{rest_of, row_test, starts_in}
use Rattle.grammar_rules.specs.Words.{is_comma, name_at}
use Rattle.parse_expressions.specs.Reading.{is_name, any_number}
use Rattle.parse_expressions.proofs.cursor.Cursor.more_names.Given as goal

abbrev pub invariant-turn : goal.invariant-turn
invariant-turn l =
    rest_of is_comma is_name any_number (take_by name_at) l.fn.first l.fn.self
    ≡ repeat (row_test is_comma (starts_in any_number is_name)) (row_turn is_comma (λ _. take_by name_at) (λ v y. v ++ y ∷ [])) (l._turn-end - l._turn) l.row l.self
