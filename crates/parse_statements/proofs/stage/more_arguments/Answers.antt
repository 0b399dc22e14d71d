use Rattle.std.proofs.Common.{rules, arith, ◌≡◌, ◌∷◌, [], true}
use Rattle.std.proofs.lemmas.Grind.{common_steps}
use Rattle.parse_laws.specs.Parser.{Parsed, expect, sees}
use Rattle.grammar_rules.specs.Words.{is_comma}
use Rattle.parse_expressions.specs.Code.{IsStop}
use Rattle.parse_statements.specs.Code.{readers}
use Rattle.parse_statements.specs.Stages.{more_arguments}
use Rattle.parse_statements.proofs.Afters.{arguments_read, arguments_stop}
use Rattle.parse_statements.proofs.stage.more_arguments.Goals as goal

pub returns-in_err-arguments-2 : goal.returns-in_err-arguments-2
returns-in_err-arguments-2 c =
    let seen : sees is_comma c.args.cursor.now ≡ true = first_of (search rules, grind (arith, common_steps)) in
    let comma : expect is_comma c.args.cursor.now ≡ Parsed c.in_ok-expect_op.field-0.now c.expect_op.new.self = search rules in
    let one : c.in_ok-arguments.arguments ≡ c.args.first ∷ [] = search rules in
    let stop : IsStop (more_arguments readers c.args.room c.args.first c.args.cursor.now) c.in_err-arguments-2.field-0.0 c.arguments_on.new.cursor = arguments_stop c.args.room c.args.first _ c.args.cursor.now c.expect_op.new.self c.arguments_on.new.cursor _ _ seen comma one c.in_err-arguments-2.ensures in
    first_of (search rules, grind (arith, common_steps))

pub returns : goal.returns
returns c =
    let seen : sees is_comma c.args.cursor.now ≡ true = first_of (search rules, grind (arith, common_steps)) in
    let comma : expect is_comma c.args.cursor.now ≡ Parsed c.in_ok-expect_op.field-0.now c.expect_op.new.self = search rules in
    let one : c.in_ok-arguments.arguments ≡ c.args.first ∷ [] = search rules in
    arguments_read c.args.room c.args.first _ _ _ _ _ _ _ seen comma one c.in_ok-arguments-2.ensures
