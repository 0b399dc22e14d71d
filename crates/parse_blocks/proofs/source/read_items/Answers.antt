use Rattle.std.proofs.Common.{rules, arith, ◌++◌}
use Rattle.std.proofs.lemmas.Grind.{common_steps}
use Rattle.parse_laws.specs.Parser.{repeat, and_then, pure}
use Rattle.parse_statements.specs.Code.{readers}
use Rattle.grammar_rules.specs.Modules.{most_height}
use Rattle.parse_blocks.specs.Gather.{gather}
use Rattle.parse_blocks.specs.Sources.{tops, top, starts_top}
use Rattle.parse_expressions.proofs.Counting.{one_more, no_more}
use Rattle.parse_blocks.proofs.source.read_items.Goals as goal

pub turn-init : goal.turn-init
unfolding gather tops
turn-init c = first_of (search rules, grind (arith, common_steps))

pub returns-then-not-starts_top : goal.returns-then-not-starts_top
unfolding repeat
returns-then-not-starts_top c =
    let e = one_more (λ n. repeat (λ _. starts_top) (λ xs ts. and_then (top readers most_height ts) (λ ys. pure (xs ++ ys))) n c.turn.items c.turn.cursor) _ c.turn._turn c.turn-test.true c.turn.invariant in
    first_of (search rules, grind (arith, common_steps))

pub returns-in_err-items : goal.returns-in_err-items
unfolding repeat
returns-in_err-items c =
    let e = one_more (λ n. repeat (λ _. starts_top) (λ xs ts. and_then (top readers most_height ts) (λ ys. pure (xs ++ ys))) n c.turn.items c.turn.cursor) _ c.turn._turn c.turn-test.true c.turn.invariant in
    first_of (search rules, grind (arith, common_steps))

pub turn-preserved : goal.turn-preserved
unfolding repeat
turn-preserved c =
    let e = one_more (λ n. repeat (λ _. starts_top) (λ xs ts. and_then (top readers most_height ts) (λ ys. pure (xs ++ ys))) n c.turn.items c.turn.cursor) _ c.turn._turn c.turn-test.true c.turn.invariant in
    first_of (search rules, grind (arith, common_steps))

pub returns : goal.returns
unfolding repeat
returns c =
    let e = no_more (λ n. repeat (λ _. starts_top) (λ xs ts. and_then (top readers most_height ts) (λ ys. pure (xs ++ ys))) n c.turn.items c.turn.cursor) _ c.turn._turn c.turn-test.false c.turn.invariant in
    first_of (search rules, grind (arith, common_steps))
