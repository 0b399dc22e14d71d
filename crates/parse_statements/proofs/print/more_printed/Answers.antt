use Rattle.std.proofs.Common.{rules, arith, ◌∷◌, ◌++◌, ◌&&◌, [], true, false, not}
use Rattle.std.proofs.lemmas.Grind.{common_steps}
use Rattle.parse_laws.specs.Parser.{repeat, row_turn, and_then, pure, expect, has}
use Rattle.grammar_rules.specs.Words.{is_comma}
use Rattle.parse_statements.specs.Code.{readers}
use Rattle.parse_statements.specs.Prints.{more_printed, print_item, is_whole}
use Rattle.parse_expressions.proofs.Counting.{one_more, no_more}
use Rattle.parse_statements.proofs.print.more_printed.Goals as goal

pub turn-init : goal.turn-init
unfolding more_printed
turn-init c = first_of (search rules, grind (arith, common_steps))

pub returns-then-not-goes_on : goal.returns-then-not-goes_on
unfolding repeat
returns-then-not-goes_on c =
    let e = one_more (λ n. repeat (λ q t. not (is_whole q.options) && is_comma t) (λ q ts. and_then (expect is_comma ts) (λ _. print_item readers c.args.room q)) n c.turn.printed c.turn.cursor) _ c.turn._turn c.turn-test.true c.turn.invariant in
    first_of (search rules, grind (arith, common_steps))

pub returns-in_err-printed : goal.returns-in_err-printed
unfolding repeat
returns-in_err-printed c =
    let e = one_more (λ n. repeat (λ q t. not (is_whole q.options) && is_comma t) (λ q ts. and_then (expect is_comma ts) (λ _. print_item readers c.args.room q)) n c.turn.printed c.turn.cursor) _ c.turn._turn c.turn-test.true c.turn.invariant in
    first_of (search rules, grind (arith, common_steps))

pub turn-preserved : goal.turn-preserved
unfolding repeat
turn-preserved c =
    let e = one_more (λ n. repeat (λ q t. not (is_whole q.options) && is_comma t) (λ q ts. and_then (expect is_comma ts) (λ _. print_item readers c.args.room q)) n c.turn.printed c.turn.cursor) _ c.turn._turn c.turn-test.true c.turn.invariant in
    first_of (search rules, grind (arith, common_steps))

pub returns : goal.returns
unfolding repeat
returns c =
    let e = no_more (λ n. repeat (λ q t. not (is_whole q.options) && is_comma t) (λ q ts. and_then (expect is_comma ts) (λ _. print_item readers c.args.room q)) n c.turn.printed c.turn.cursor) _ c.turn._turn c.turn-test.false c.turn.invariant in
    first_of (search rules, grind (arith, common_steps))
