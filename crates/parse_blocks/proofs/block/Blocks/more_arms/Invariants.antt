use Rattle.std.proofs.Common.{◌≡◌, ◌-◌, ◌∷◌, ◌++◌, []}
use Rattle.parse_laws.specs.Parser.{repeat, and_then, pure}
use Rattle.parse_statements.specs.Code.{readers}
use Rattle.parse_statements.specs.Many.{many}
use Rattle.parse_blocks.specs.Blocks.{is_elif, elif_arm, statement}
use Rattle.parse_blocks.proofs.block.Blocks.more_arms.Given as goal

abbrev pub invariant-turn : goal.invariant-turn
invariant-turn g l =
    many is_elif (elif_arm readers l.self.room (statement readers (l.self.room - 1))) l.fn.cursor
    ≡ repeat (λ _. is_elif) (λ ys ts. and_then (elif_arm readers l.self.room (statement readers (l.self.room - 1)) ts) (λ y. pure (ys ++ y ∷ []))) (l._turn-end - l._turn) l.arms l.cursor
