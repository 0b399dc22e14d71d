use Rattle.std.proofs.Common.{rules, arith, ◌++◌}
use Rattle.std.proofs.lemmas.Grind.{common_steps}
use Rattle.parse_laws.specs.Parser.{repeat, take_by, pure, ◌>>=◌}
use Rattle.grammar_rules.specs.Words.{text_of}
use Rattle.parse_expressions.specs.Reading.{more_texts, is_text}
use Rattle.parse_expressions.proofs.Counting.{one_more, no_more}
use Rattle.parse_expressions.proofs.cursor.Cursor.more_texts.Goals as goal

pub turn-init : goal.turn-init
unfolding more_texts
turn-init c = first_of (search rules, grind (arith, common_steps))

pub returns-then-not-sees_text : goal.returns-then-not-sees_text
unfolding repeat
returns-then-not-sees_text c =
    let e = one_more (λ n. repeat (λ _. is_text) (λ w. take_by text_of >>= λ value. pure (w ++ value)) n c.turn.text c.turn.self) _ c.turn._turn c.turn-test.true c.turn.invariant in
    first_of (search rules, grind (arith, common_steps))

pub returns-in_err-text : goal.returns-in_err-text
unfolding repeat
returns-in_err-text c =
    let e = one_more (λ n. repeat (λ _. is_text) (λ w. take_by text_of >>= λ value. pure (w ++ value)) n c.turn.text c.turn.self) _ c.turn._turn c.turn-test.true c.turn.invariant in
    first_of (search rules, grind (arith, common_steps))

pub turn-preserved : goal.turn-preserved
unfolding repeat
turn-preserved c =
    let e = one_more (λ n. repeat (λ _. is_text) (λ w. take_by text_of >>= λ value. pure (w ++ value)) n c.turn.text c.turn.self) _ c.turn._turn c.turn-test.true c.turn.invariant in
    first_of (search rules, grind (arith, common_steps))

pub returns : goal.returns
unfolding repeat
returns c =
    let e = no_more (λ n. repeat (λ _. is_text) (λ w. take_by text_of >>= λ value. pure (w ++ value)) n c.turn.text c.turn.self) _ c.turn._turn c.turn-test.false c.turn.invariant in
    first_of (search rules, grind (arith, common_steps))
