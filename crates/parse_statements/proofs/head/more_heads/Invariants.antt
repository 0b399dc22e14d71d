use Rattle.std.proofs.Common.{◌≡◌, ◌-◌, ◌∷◌, ◌++◌, ◌&&◌, [], true, false, not, length}
use Rattle.parse_laws.specs.Parser.{repeat, row_turn, and_then, pure, expect, has}
use Rattle.grammar_rules.specs.Words.{is_comma}
use Rattle.parse_laws.specs.Loops.{row_test, starts_in, rest_of}
use Rattle.parse_statements.specs.Code.{readers}
use Rattle.parse_statements.specs.Heads.{starts_head, head_item}
use Rattle.parse_statements.proofs.head.more_heads.Given as goal

abbrev pub invariant-turn : goal.invariant-turn
invariant-turn l =
    repeat (row_test is_comma starts_head) (row_turn is_comma (head_item readers l.room) (λ v y. v ++ y ∷ [])) (length l.fn.cursor) (l.fn.first, true) l.fn.cursor
    ≡ repeat (row_test is_comma starts_head) (row_turn is_comma (head_item readers l.room) (λ v y. v ++ y ∷ [])) (l._turn-end - l._turn) l.row l.cursor
