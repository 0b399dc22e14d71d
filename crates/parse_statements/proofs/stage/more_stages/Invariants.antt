use Rattle.std.proofs.Common.{◌≡◌, ◌-◌, ◌∷◌, ◌++◌, ◌&&◌, [], true, false, not, length}
use Rattle.parse_laws.specs.Parser.{repeat, row_turn, and_then, pure, expect, has}
use Rattle.parse_statements.specs.Code.{readers}
use Rattle.grammar_rules.specs.Simple.{joints}
use Rattle.grammar_rules.specs.Words.{look_up}
use Rattle.parse_statements.specs.Many.{many}
use Rattle.parse_statements.specs.Stages.{stage}
use Rattle.parse_statements.proofs.stage.more_stages.Given as goal

abbrev pub invariant-turn : goal.invariant-turn
invariant-turn l =
    many (has (look_up joints)) (stage readers l.room) l.fn.cursor
    ≡ repeat (λ _. has (look_up joints)) (λ ys ts. and_then (stage readers l.room ts) (λ y. pure (ys ++ y ∷ []))) (l._turn-end - l._turn) l.stages l.cursor
