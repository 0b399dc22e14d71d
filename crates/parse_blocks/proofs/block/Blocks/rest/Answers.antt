use Rattle.std.proofs.Common.{rules, arith, ◌-◌, ◌++◌}
use Rattle.std.proofs.lemmas.Grind.{common_steps}
use Rattle.parse_laws.specs.Parser.{repeat, and_then, pure}
use Rattle.parse_statements.specs.Code.{readers}
use Rattle.parse_blocks.specs.Gather.{gather}
use Rattle.parse_blocks.specs.Blocks.{starts_stmt, statement}
use Rattle.parse_expressions.proofs.Counting.{one_more, no_more}
use Rattle.parse_blocks.proofs.block.Blocks.rest.Goals as goal

pub turn-init : goal.turn-init
unfolding gather
turn-init g c = first_of (search rules, grind (arith, common_steps))

pub returns-then-not-starts_statement : goal.returns-then-not-starts_statement
unfolding repeat
returns-then-not-starts_statement g c =
    let e = one_more (λ n. repeat (λ _. starts_stmt) (λ xs ts. and_then (statement readers (c.args.self.now.room - 1) ts) (λ ys. pure (xs ++ ys))) n c.turn.body c.turn.cursor) _ c.turn._turn c.turn-test.true c.turn.invariant in
    first_of (search rules, grind (arith, common_steps))

pub returns-in_err-body : goal.returns-in_err-body
unfolding repeat
returns-in_err-body g c =
    let e = one_more (λ n. repeat (λ _. starts_stmt) (λ xs ts. and_then (statement readers (c.args.self.now.room - 1) ts) (λ ys. pure (xs ++ ys))) n c.turn.body c.turn.cursor) _ c.turn._turn c.turn-test.true c.turn.invariant in
    first_of (search rules, grind (arith, common_steps))

pub turn-preserved : goal.turn-preserved
unfolding repeat
turn-preserved g c =
    let e = one_more (λ n. repeat (λ _. starts_stmt) (λ xs ts. and_then (statement readers (c.args.self.now.room - 1) ts) (λ ys. pure (xs ++ ys))) n c.turn.body c.turn.cursor) _ c.turn._turn c.turn-test.true c.turn.invariant in
    first_of (search rules, grind (arith, common_steps))

pub returns : goal.returns
unfolding repeat
returns g c =
    let e = no_more (λ n. repeat (λ _. starts_stmt) (λ xs ts. and_then (statement readers (c.args.self.now.room - 1) ts) (λ ys. pure (xs ++ ys))) n c.turn.body c.turn.cursor) _ c.turn._turn c.turn-test.false c.turn.invariant in
    first_of (search rules, grind (arith, common_steps))
