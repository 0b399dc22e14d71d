use Rattle.std.proofs.Common.{rules, arith, ◌∷◌, ◌++◌, []}
use Rattle.std.proofs.lemmas.Grind.{common_steps}
use Rattle.parse_laws.specs.Parser.{repeat, and_then, pure}
use Rattle.parse_statements.specs.Code.{readers}
use Rattle.parse_blocks.specs.Functions.{starts_member, one_member}
use Rattle.parse_expressions.proofs.Counting.{one_more, no_more}
use Rattle.parse_blocks.proofs.class.more_members.Goals as goal

pub returns-then-not-goes_on : goal.returns-then-not-goes_on
unfolding repeat
returns-then-not-goes_on c =
    let e = one_more (λ n. repeat starts_member (λ ms ts. and_then (one_member readers c.args.room ts) (λ y. pure (ms ++ y ∷ []))) n c.turn.members c.turn.cursor) _ c.turn._turn c.turn-test.true c.turn.invariant in
    first_of (search rules, grind (arith, common_steps))

pub returns-in_err-members : goal.returns-in_err-members
unfolding repeat
returns-in_err-members c =
    let e = one_more (λ n. repeat starts_member (λ ms ts. and_then (one_member readers c.args.room ts) (λ y. pure (ms ++ y ∷ []))) n c.turn.members c.turn.cursor) _ c.turn._turn c.turn-test.true c.turn.invariant in
    first_of (search rules, grind (arith, common_steps))

pub turn-preserved : goal.turn-preserved
unfolding repeat
turn-preserved c =
    let e = one_more (λ n. repeat starts_member (λ ms ts. and_then (one_member readers c.args.room ts) (λ y. pure (ms ++ y ∷ []))) n c.turn.members c.turn.cursor) _ c.turn._turn c.turn-test.true c.turn.invariant in
    first_of (search rules, grind (arith, common_steps))

pub returns : goal.returns
unfolding repeat
returns c =
    let e = no_more (λ n. repeat starts_member (λ ms ts. and_then (one_member readers c.args.room ts) (λ y. pure (ms ++ y ∷ []))) n c.turn.members c.turn.cursor) _ c.turn._turn c.turn-test.false c.turn.invariant in
    first_of (search rules, grind (arith, common_steps))
