use Rattle.std.proofs.Common.{◌≡◌, ◌-◌, ◌++◌}
use Rattle.parse_laws.specs.Parser.{repeat, and_then, pure}
use Rattle.parse_statements.specs.Code.{readers}
use Rattle.grammar_rules.specs.Modules.{most_height}
use Rattle.parse_blocks.specs.Sources.{tops, top, starts_top}
use Rattle.parse_blocks.proofs.source.read_items.Given as goal

abbrev pub invariant-turn : goal.invariant-turn
invariant-turn l =
    tops readers most_height l.fn.cursor
    ≡ repeat (λ _. starts_top) (λ xs ts. and_then (top readers most_height ts) (λ ys. pure (xs ++ ys))) (l._turn-end - l._turn) l.items l.cursor
