use Rattle.std.proofs.Common.{◌≡◌, ◌-◌, ◌++◌}
use Rattle.parse_laws.specs.Parser.{repeat, and_then, pure}
use Rattle.parse_statements.specs.Code.{readers}
use Rattle.parse_blocks.specs.Gather.{gather}
use Rattle.parse_blocks.specs.Blocks.{starts_stmt, statement}
use Rattle.parse_blocks.proofs.block.Blocks.rest.Given as goal

abbrev pub invariant-turn : goal.invariant-turn
invariant-turn g l =
    gather starts_stmt (statement readers (l.self.room - 1)) l.fn.first l.fn.cursor
    ≡ repeat (λ _. starts_stmt) (λ xs ts. and_then (statement readers (l.self.room - 1) ts) (λ ys. pure (xs ++ ys))) (l._turn-end - l._turn) l.body l.cursor
