use Rattle.std.proofs.Common.{rules, ◌≡◌}
use Rattle.parse_laws.specs.Parser.{Parsed, expect}
use Rattle.parse_statements.specs.Heads.{is_equals}
use Rattle.parse_statements.proofs.Assigned.{assign_done}
use Rattle.parse_statements.proofs.head.assign_to.Goals as goal

pub returns : goal.returns
returns c =
    let equals : expect is_equals c.args.cursor.now ≡ Parsed c.in_ok-expect_op.field-0.now c.expect_op.new.self = search rules in
    assign_done c.args.room _ c.args.targets _ _ c.args.cursor.now _ _ _ equals c.saturating_sub-low.ensures c.in_ok-value.ensures c.assigned-statement.ensures
