use Rattle.std.proofs.Common.{◌≡◌, ◌-◌, ◌∷◌, ◌++◌, ◌&&◌, [], true, false, not, length}
use Rattle.parse_laws.specs.Parser.{repeat, row_turn, and_then, pure, expect, has}
use Rattle.parse_laws.specs.Loops.{row_test, starts_in, rest_of}
use Rattle.parse_statements.specs.Code.{readers}
use Rattle.parse_expressions.specs.Reading.{any_number}
use Rattle.parse_statements.specs.Simple.{simple}
use Rattle.parse_statements.specs.Lines.{is_semicolon, starts_simple}
use Rattle.parse_statements.proofs.line.line_rest.Given as goal

abbrev pub invariant-turn : goal.invariant-turn
invariant-turn l =
    rest_of is_semicolon starts_simple any_number (simple readers l.room) l.fn.first l.fn.cursor
    ≡ repeat (row_test is_semicolon (starts_in any_number starts_simple)) (row_turn is_semicolon (λ _. simple readers l.room) (λ v y. v ++ y ∷ [])) (l._turn-end - l._turn) l.row l.cursor
