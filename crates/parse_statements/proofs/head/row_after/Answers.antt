use Rattle.std.proofs.Common.{rules, arith, ◌≡◌, ◌∷◌, [], sym}
use Rattle.std.proofs.lemmas.Grind.{common_steps}
use Rattle.grammar_rules.specs.Words.{is_comma}
use Rattle.parse_laws.specs.Parser.{Parsed, expect}
use Rattle.parse_expressions.specs.Code.{IsStop}
use Rattle.parse_statements.specs.Code.{readers}
use Rattle.parse_statements.specs.Heads.{row_after}
use Rattle.parse_statements.proofs.Assigned.{row_read, row_stop}
use Rattle.parse_statements.proofs.head.row_after.Goals as goal

pub returns-in_err-heads-2 : goal.returns-in_err-heads-2
returns-in_err-heads-2 c =
    let comma : expect is_comma c.args.cursor.now ≡ Parsed c.in_ok-expect_op.field-0.now c.expect_op.new.self = search rules in
    let one : c.in_ok-heads.heads ≡ c.args.first ∷ [] = search rules in
    let stop : IsStop (row_after readers c.args.room c.args.first c.args.cursor.now) c.in_err-heads-2.field-0.0 c.more_heads.new.cursor = row_stop c.args.room _ c.args.first _ c.args.cursor.now c.expect_op.new.self c.more_heads.new.cursor _ _ comma one c.saturating_sub-low.ensures c.in_err-heads-2.ensures in
    first_of (search rules, grind (arith, common_steps))

pub returns : goal.returns
returns c =
    let comma : expect is_comma c.args.cursor.now ≡ Parsed c.in_ok-expect_op.field-0.now c.expect_op.new.self = search rules in
    let one : c.in_ok-heads.heads ≡ c.args.first ∷ [] = search rules in
    row_read c.args.room _ c.args.first _ _ _ c.args.cursor.now _ _ c.row_end.new.cursor _ c.row_end.result comma one c.saturating_sub-low.ensures c.in_ok-heads-2.ensures (c.row_end.ensures c.args.first (sym c.requires))
