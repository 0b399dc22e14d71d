use Rattle.std.proofs.Common.{rules, arith}
use Rattle.std.proofs.lemmas.Grind.{common_steps}
use Rattle.parse_laws.specs.Parser.{repeat}
use Rattle.parse_expressions.specs.Reading.{is_trailer}
use Rattle.parse_expressions.specs.TargetReading.{target_trailers, target_trailer}
use Rattle.parse_expressions.proofs.Counting.{one_more, no_more}
use Rattle.parse_expressions.proofs.target.target_trailers.Goals as goal

pub turn-init : goal.turn-init
unfolding target_trailers
turn-init c = first_of (search rules, grind (arith, common_steps))

pub returns-then-not-sees_trailer : goal.returns-then-not-sees_trailer
unfolding repeat
returns-then-not-sees_trailer c =
    let e = one_more (λ n. repeat (λ _. is_trailer) (target_trailer c.args.room) n c.turn.tree c.turn.cursor) _ c.turn._turn c.turn-test.true c.turn.invariant in
    first_of (search rules, grind (arith, common_steps))

pub returns-in_err-tree : goal.returns-in_err-tree
unfolding repeat
returns-in_err-tree c =
    let e = one_more (λ n. repeat (λ _. is_trailer) (target_trailer c.args.room) n c.turn.tree c.turn.cursor) _ c.turn._turn c.turn-test.true c.turn.invariant in
    first_of (search rules, grind (arith, common_steps))

pub turn-preserved : goal.turn-preserved
unfolding repeat
turn-preserved c =
    let e = one_more (λ n. repeat (λ _. is_trailer) (target_trailer c.args.room) n c.turn.tree c.turn.cursor) _ c.turn._turn c.turn-test.true c.turn.invariant in
    first_of (search rules, grind (arith, common_steps))

pub returns : goal.returns
unfolding repeat
returns c =
    let e = no_more (λ n. repeat (λ _. is_trailer) (target_trailer c.args.room) n c.turn.tree c.turn.cursor) _ c.turn._turn c.turn-test.false c.turn.invariant in
    first_of (search rules, grind (arith, common_steps))
