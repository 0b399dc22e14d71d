use Rattle.std.proofs.Common.{rules, arith, ◌≡◌}
use Rattle.std.proofs.lemmas.Grind.{common_steps}
use Rattle.parse_laws.specs.Parser.{Parsed, expect}
use Rattle.grammar_rules.specs.Words.{is_comma}
use Rattle.parse_expressions.specs.Code.{IsStop}
use Rattle.parse_statements.specs.Code.{readers}
use Rattle.parse_statements.specs.Items.{tuple_after}
use Rattle.parse_statements.proofs.Afters.{tuple_read, tuple_stop}
use Rattle.parse_statements.proofs.row.tuple_after.Goals as goal

pub returns-in_err-items-2 : goal.returns-in_err-items-2
returns-in_err-items-2 c =
    let comma : expect is_comma c.args.cursor.now ≡ Parsed c.in_ok-expect_op.field-0.now c.expect_op.new.self = search rules in
    let stop : IsStop (tuple_after readers c.args.room c.args.first c.args.cursor.now) c.in_err-items-2.field-0.0 c.more_items.new.cursor = tuple_stop c.args.room c.args.first _ c.args.cursor.now c.expect_op.new.self c.more_items.new.cursor _ _ comma c.in_ok-items.ensures c.in_err-items-2.ensures in
    first_of (search rules, grind (arith, common_steps))

pub returns : goal.returns
returns c =
    let comma : expect is_comma c.args.cursor.now ≡ Parsed c.in_ok-expect_op.field-0.now c.expect_op.new.self = search rules in
    tuple_read c.args.room c.args.first _ _ _ _ _ _ _ _ comma c.in_ok-items.ensures c.node-node.ensures c.in_ok-items-2.ensures
