use Rattle.std.proofs.Common.{rules, arith, ◌∷◌, ◌++◌, ◌&&◌, [], true, false, not}
use Rattle.std.proofs.lemmas.Grind.{common_steps}
use Rattle.parse_laws.specs.Parser.{repeat, row_turn, and_then, pure, expect, has}
use Rattle.parse_statements.specs.Code.{readers}
use Rattle.grammar_rules.specs.Simple.{joints}
use Rattle.grammar_rules.specs.Words.{look_up}
use Rattle.parse_statements.specs.Many.{many}
use Rattle.parse_statements.specs.Stages.{stage}
use Rattle.parse_expressions.proofs.Counting.{one_more, no_more}
use Rattle.parse_statements.proofs.stage.more_stages.Goals as goal

pub turn-init : goal.turn-init
unfolding many
turn-init c = first_of (search rules, grind (arith, common_steps))

pub returns-then-not-sees_joint : goal.returns-then-not-sees_joint
unfolding repeat
returns-then-not-sees_joint c =
    let e = one_more (λ n. repeat (λ _. has (look_up joints)) (λ ys ts. and_then (stage readers c.args.room ts) (λ y. pure (ys ++ y ∷ []))) n c.turn.stages c.turn.cursor) _ c.turn._turn c.turn-test.true c.turn.invariant in
    first_of (search rules, grind (arith, common_steps))

pub returns-in_err-stages : goal.returns-in_err-stages
unfolding repeat
returns-in_err-stages c =
    let e = one_more (λ n. repeat (λ _. has (look_up joints)) (λ ys ts. and_then (stage readers c.args.room ts) (λ y. pure (ys ++ y ∷ []))) n c.turn.stages c.turn.cursor) _ c.turn._turn c.turn-test.true c.turn.invariant in
    first_of (search rules, grind (arith, common_steps))

pub turn-preserved : goal.turn-preserved
unfolding repeat
turn-preserved c =
    let e = one_more (λ n. repeat (λ _. has (look_up joints)) (λ ys ts. and_then (stage readers c.args.room ts) (λ y. pure (ys ++ y ∷ []))) n c.turn.stages c.turn.cursor) _ c.turn._turn c.turn-test.true c.turn.invariant in
    first_of (search rules, grind (arith, common_steps))

pub returns : goal.returns
unfolding repeat
returns c =
    let e = no_more (λ n. repeat (λ _. has (look_up joints)) (λ ys ts. and_then (stage readers c.args.room ts) (λ y. pure (ys ++ y ∷ []))) n c.turn.stages c.turn.cursor) _ c.turn._turn c.turn-test.false c.turn.invariant in
    first_of (search rules, grind (arith, common_steps))
