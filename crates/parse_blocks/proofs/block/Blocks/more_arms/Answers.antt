use Rattle.std.proofs.Common.{rules, arith, ◌-◌, ◌∷◌, ◌++◌, []}
use Rattle.std.proofs.lemmas.Grind.{common_steps}
use Rattle.parse_laws.specs.Parser.{repeat, and_then, pure}
use Rattle.parse_statements.specs.Code.{readers}
use Rattle.parse_statements.specs.Many.{many}
use Rattle.parse_blocks.specs.Blocks.{is_elif, elif_arm, statement}
use Rattle.parse_expressions.proofs.Counting.{one_more, no_more}
use Rattle.parse_blocks.proofs.block.Blocks.more_arms.Goals as goal

pub turn-init : goal.turn-init
unfolding many
turn-init g c = first_of (search rules, grind (arith, common_steps))

pub returns-then-not-sees_keyword : goal.returns-then-not-sees_keyword
unfolding repeat
returns-then-not-sees_keyword g c =
    let e = one_more (λ n. repeat (λ _. is_elif) (λ ys ts. and_then (elif_arm readers c.args.self.now.room (statement readers (c.args.self.now.room - 1)) ts) (λ y. pure (ys ++ y ∷ []))) n c.turn.arms c.turn.cursor) _ c.turn._turn c.turn-test.true c.turn.invariant in
    first_of (search rules, grind (arith, common_steps))

pub returns-in_err-arms : goal.returns-in_err-arms
unfolding repeat
returns-in_err-arms g c =
    let e = one_more (λ n. repeat (λ _. is_elif) (λ ys ts. and_then (elif_arm readers c.args.self.now.room (statement readers (c.args.self.now.room - 1)) ts) (λ y. pure (ys ++ y ∷ []))) n c.turn.arms c.turn.cursor) _ c.turn._turn c.turn-test.true c.turn.invariant in
    first_of (search rules, grind (arith, common_steps))

pub turn-preserved : goal.turn-preserved
unfolding repeat
turn-preserved g c =
    let e = one_more (λ n. repeat (λ _. is_elif) (λ ys ts. and_then (elif_arm readers c.args.self.now.room (statement readers (c.args.self.now.room - 1)) ts) (λ y. pure (ys ++ y ∷ []))) n c.turn.arms c.turn.cursor) _ c.turn._turn c.turn-test.true c.turn.invariant in
    first_of (search rules, grind (arith, common_steps))

pub returns : goal.returns
unfolding repeat
returns g c =
    let e = no_more (λ n. repeat (λ _. is_elif) (λ ys ts. and_then (elif_arm readers c.args.self.now.room (statement readers (c.args.self.now.room - 1)) ts) (λ y. pure (ys ++ y ∷ []))) n c.turn.arms c.turn.cursor) _ c.turn._turn c.turn-test.false c.turn.invariant in
    first_of (search rules, grind (arith, common_steps))
