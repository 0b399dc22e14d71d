use Rattle.std.proofs.Common.{◌≡◌, ◌-◌, ◌∷◌, ◌++◌, [], length}
use Rattle.parse_laws.specs.Parser.{repeat, and_then, pure}
use Rattle.parse_statements.specs.Code.{readers}
use Rattle.parse_blocks.specs.Functions.{starts_member, one_member}
use Rattle.parse_blocks.proofs.class.more_members.Given as goal

abbrev pub invariant-turn : goal.invariant-turn
invariant-turn l =
    repeat starts_member (λ ms ts. and_then (one_member readers l.room ts) (λ y. pure (ms ++ y ∷ []))) (length l.fn.cursor) l.fn.first l.fn.cursor
    ≡ repeat starts_member (λ ms ts. and_then (one_member readers l.room ts) (λ y. pure (ms ++ y ∷ []))) (l._turn-end - l._turn) l.members l.cursor
