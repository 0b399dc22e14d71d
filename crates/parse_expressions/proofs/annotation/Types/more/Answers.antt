use Rattle.std.proofs.Common.{rules, arith}
use Rattle.std.proofs.lemmas.Grind.{common_steps}
use Rattle.parse_laws.specs.Parser.{repeat}
use Rattle.parse_expressions.specs.TypeReading.{read_type, types_after, more_types, one_more_type}
use Rattle.parse_expressions.proofs.Counting.{one_more, no_more}
use Rattle.parse_expressions.proofs.annotation.Types.more.Goals as goal

pub turn-init : goal.turn-init
unfolding types_after
turn-init g c = first_of (search rules, grind (arith, common_steps))

pub returns-then-not-goes_on : goal.returns-then-not-goes_on
unfolding repeat
returns-then-not-goes_on g c =
    let e = one_more (λ n. repeat more_types (one_more_type c.args.self.now.room (read_type c.args.self.now.room)) n c.turn.types c.turn.cursor) _ c.turn._turn c.turn-test.true c.turn.invariant in
    first_of (search rules, grind (arith, common_steps))

pub returns-in_err-types : goal.returns-in_err-types
unfolding repeat
returns-in_err-types g c =
    let e = one_more (λ n. repeat more_types (one_more_type c.args.self.now.room (read_type c.args.self.now.room)) n c.turn.types c.turn.cursor) _ c.turn._turn c.turn-test.true c.turn.invariant in
    first_of (search rules, grind (arith, common_steps))

pub turn-preserved : goal.turn-preserved
unfolding repeat
turn-preserved g c =
    let e = one_more (λ n. repeat more_types (one_more_type c.args.self.now.room (read_type c.args.self.now.room)) n c.turn.types c.turn.cursor) _ c.turn._turn c.turn-test.true c.turn.invariant in
    first_of (search rules, grind (arith, common_steps))

pub returns : goal.returns
unfolding repeat
returns g c =
    let e = no_more (λ n. repeat more_types (one_more_type c.args.self.now.room (read_type c.args.self.now.room)) n c.turn.types c.turn.cursor) _ c.turn._turn c.turn-test.false c.turn.invariant in
    first_of (search rules, grind (arith, common_steps))
