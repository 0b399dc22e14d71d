use Rattle.std.proofs.Common.{rules, arith}
use Rattle.std.proofs.lemmas.Grind.{common_steps}
use Rattle.parse_laws.specs.Parser.{repeat, has, turn}
use Rattle.grammar_rules.specs.Levels.{operators}
use Rattle.grammar_rules.specs.Words.{look_up}
use Rattle.parse_expressions.specs.declared.form.Form.TheVariants.{Operand}
use Rattle.parse_expressions.specs.Reading.{read, operations, operation, fits}
use Rattle.parse_expressions.proofs.Counting.{one_more, no_more}
use Rattle.parse_expressions.proofs.reader.Expressions.operations.Goals as goal

pub turn-init : goal.turn-init
unfolding operations
turn-init g c = first_of (search rules, grind (arith, common_steps))

pub returns-then-not-sees_operator : goal.returns-then-not-sees_operator
unfolding repeat
returns-then-not-sees_operator g c =
    let e = one_more (λ n. repeat (λ _. has (look_up (operators c.args.rank))) (turn (λ _. look_up (operators c.args.rank)) (fits c.args.self.now.room (read c.args.self.now.room)) operation (λ _. read c.args.self.now.room (Operand c.args.rank))) n c.turn.tree c.turn.cursor) _ c.turn._turn c.turn-test.true c.turn.invariant in
    first_of (search rules, grind (arith, common_steps))

pub returns-in_err-tree : goal.returns-in_err-tree
unfolding repeat
returns-in_err-tree g c =
    let e = one_more (λ n. repeat (λ _. has (look_up (operators c.args.rank))) (turn (λ _. look_up (operators c.args.rank)) (fits c.args.self.now.room (read c.args.self.now.room)) operation (λ _. read c.args.self.now.room (Operand c.args.rank))) n c.turn.tree c.turn.cursor) _ c.turn._turn c.turn-test.true c.turn.invariant in
    first_of (search rules, grind (arith, common_steps))

pub turn-preserved : goal.turn-preserved
unfolding repeat
turn-preserved g c =
    let e = one_more (λ n. repeat (λ _. has (look_up (operators c.args.rank))) (turn (λ _. look_up (operators c.args.rank)) (fits c.args.self.now.room (read c.args.self.now.room)) operation (λ _. read c.args.self.now.room (Operand c.args.rank))) n c.turn.tree c.turn.cursor) _ c.turn._turn c.turn-test.true c.turn.invariant in
    first_of (search rules, grind (arith, common_steps))

pub returns : goal.returns
unfolding repeat
returns g c =
    let e = no_more (λ n. repeat (λ _. has (look_up (operators c.args.rank))) (turn (λ _. look_up (operators c.args.rank)) (fits c.args.self.now.room (read c.args.self.now.room)) operation (λ _. read c.args.self.now.room (Operand c.args.rank))) n c.turn.tree c.turn.cursor) _ c.turn._turn c.turn-test.false c.turn.invariant in
    first_of (search rules, grind (arith, common_steps))
