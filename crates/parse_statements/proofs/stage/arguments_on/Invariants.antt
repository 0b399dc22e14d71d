use Rattle.std.proofs.Common.{◌≡◌, ◌-◌, ◌∷◌, ◌++◌, ◌&&◌, [], true, false, not, length}
use Rattle.parse_laws.specs.Parser.{repeat, row_turn, and_then, pure, expect, has}
use Rattle.grammar_rules.specs.Words.{is_comma}
use Rattle.parse_laws.specs.Loops.{row_test, starts_in, rest_of}
use Rattle.parse_statements.specs.Code.{readers}
use Rattle.parse_statements.specs.Stages.{starts_argument, argument}
use Rattle.parse_statements.proofs.stage.arguments_on.Given as goal

abbrev pub invariant-turn : goal.invariant-turn
invariant-turn l =
    repeat (row_test is_comma starts_argument) (row_turn is_comma (λ _. argument readers l.room) (λ v z. v ++ z ∷ [])) (length l.fn.cursor) (l.fn.first, true) l.fn.cursor
    ≡ repeat (row_test is_comma starts_argument) (row_turn is_comma (λ _. argument readers l.room) (λ v z. v ++ z ∷ [])) (l._turn-end - l._turn) l.row l.cursor
