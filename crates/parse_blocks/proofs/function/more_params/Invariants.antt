use Rattle.std.proofs.Common.{◌≡◌, ◌-◌, ◌∷◌, ◌++◌, []}
use Rattle.parse_laws.specs.Parser.{repeat, row_turn}
use Rattle.grammar_rules.specs.Words.{is_comma}
use Rattle.parse_laws.specs.Loops.{row_test, starts_in, rest_of}
use Rattle.parse_statements.specs.Code.{readers}
use Rattle.parse_expressions.specs.Reading.{is_name}
use Rattle.parse_statements.specs.Readers.{has_room}
use Rattle.parse_blocks.specs.Functions.{param}
use Rattle.parse_blocks.proofs.function.more_params.Given as goal

abbrev pub invariant-turn : goal.invariant-turn
invariant-turn l =
    rest_of is_comma is_name has_room (param readers l.room) l.fn.first l.fn.cursor
    ≡ repeat (row_test is_comma (starts_in has_room is_name)) (row_turn is_comma (λ _. param readers l.room) (λ v y. v ++ y ∷ [])) (l._turn-end - l._turn) l.row l.cursor
