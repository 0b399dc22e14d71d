-- The forms of `print` and of stages have their numbers where their parts have.
use Rattle.std.proofs.Common.{◌≡◌, ℕ, List, map, ap}
use Rattle.source_trees.specs.declared.node.Node.{Node}
use Rattle.source_trees.specs.declared.expression.Expr.{Expr}
use Rattle.source_trees.specs.declared.pipeline.PrintOptions.{PrintOptions}
use Rattle.source_trees.specs.declared.pipeline.PrintOptions.TheVariants as options
use Rattle.source_trees.specs.declared.pipeline.Printed.{Printed}
use Rattle.source_trees.specs.declared.pipeline.StageForm.{StageForm}
use Rattle.source_trees.specs.declared.pipeline.StageForm.TheVariants as form
use Rattle.source_trees.specs.declared.pipeline.Stage.{Stage}
use Rattle.source_trees.specs.Parts.{of_print_options}
use Rattle.source_trees.specs.Nodes.{before_parts, nodes_of_expr}
use Rattle.source_trees.specs.Bare.{bare_expr, bare_print_options, bare_printed, bare_stage_form}
use Rattle.number_nodes.specs.Numbers.{NumbersNode, NumbersExpr, NumbersExprs, NumbersPrintOptions, NumbersPrinted, NumbersStageForm, NumbersStage}
use Rattle.number_nodes.proofs.Taking.{takes, numbers_by, takes_none, takes_node, takes_both, takes_last, takes_parts}

pub options_Neither : {whole : PrintOptions} {first : ℕ}
    → whole ≡ options.Neither → NumbersPrintOptions first whole options.Neither first
options_Neither {whole} {first} is =
    let old : bare_print_options whole ≡ options.Neither = ap bare_print_options is in
    numbers_by (cc) (takes_none first)

pub options_Sep : {whole : PrintOptions} {sep sep' : Expr} {first next : ℕ}
    → whole ≡ options.Sep sep → NumbersExpr first sep sep' next → NumbersPrintOptions first whole (options.Sep sep') next
options_Sep {whole} {sep} {sep'} {first} {next} is its_sep =
    let old : bare_print_options whole ≡ options.Sep (bare_expr sep) = ap bare_print_options is in
    numbers_by (cc) (takes_last (takes its_sep))

pub options_End : {whole : PrintOptions} {end_text end_text' : Expr} {first next : ℕ}
    → whole ≡ options.End end_text → NumbersExpr first end_text end_text' next → NumbersPrintOptions first whole (options.End end_text') next
options_End {whole} {end_text} {end_text'} {first} {next} is its_end_text =
    let old : bare_print_options whole ≡ options.End (bare_expr end_text) = ap bare_print_options is in
    numbers_by (cc) (takes_last (takes its_end_text))

pub options_SepEnd : {whole : PrintOptions} {sep sep' end_text end_text' : Expr} {first a next : ℕ}
    → whole ≡ options.SepEnd sep end_text → NumbersExpr first sep sep' a → NumbersExpr a end_text end_text' next → NumbersPrintOptions first whole (options.SepEnd sep' end_text') next
options_SepEnd {whole} {sep} {sep'} {end_text} {end_text'} {first} {a} {next} is its_sep its_end_text =
    let old : bare_print_options whole ≡ options.SepEnd (bare_expr sep) (bare_expr end_text) = ap bare_print_options is in
    numbers_by (cc) (takes_both (takes its_sep) (takes_last (takes its_end_text)))

pub options_EndSep : {whole : PrintOptions} {end_text end_text' sep sep' : Expr} {first a next : ℕ}
    → whole ≡ options.EndSep end_text sep → NumbersExpr first end_text end_text' a → NumbersExpr a sep sep' next → NumbersPrintOptions first whole (options.EndSep end_text' sep') next
options_EndSep {whole} {end_text} {end_text'} {sep} {sep'} {first} {a} {next} is its_end_text its_sep =
    let old : bare_print_options whole ≡ options.EndSep (bare_expr end_text) (bare_expr sep) = ap bare_print_options is in
    numbers_by (cc) (takes_both (takes its_end_text) (takes_last (takes its_sep)))

pub form_Iter : {whole : StageForm} {first : ℕ}
    → whole ≡ form.Iter → NumbersStageForm first whole form.Iter first
form_Iter {whole} {first} is =
    let old : bare_stage_form whole ≡ form.Iter = ap bare_stage_form is in
    numbers_by (cc) (takes_none first)

pub form_Call : {whole : StageForm} {name : List ℕ} {before before' after after' : List Expr} {first a next : ℕ}
    → whole ≡ form.Call name before after → NumbersExprs first before before' a → NumbersExprs a after after' next → NumbersStageForm first whole (form.Call name before' after') next
form_Call {whole} {name} {before} {before'} {after} {after'} {first} {a} {next} is its_before its_after =
    let old : bare_stage_form whole ≡ form.Call name (map bare_expr before) (map bare_expr after) = ap bare_stage_form is in
    numbers_by (cc) (takes_parts (map nodes_of_expr before') (map nodes_of_expr after') (takes its_before) (takes its_after))

pub form_Print : {whole : StageForm} {printed printed' : Printed} {first next : ℕ}
    → whole ≡ form.Print printed → NumbersPrinted first printed printed' next → NumbersStageForm first whole (form.Print printed') next
form_Print {whole} {printed} {printed'} {first} {next} is its_printed =
    let old : bare_stage_form whole ≡ form.Print (bare_printed printed) = ap bare_stage_form is in
    numbers_by (cc) (takes its_printed)

pub printed : (old : Printed) {values : List Expr} {options : PrintOptions} {first a next : ℕ}
    → NumbersExprs first old.values values a → NumbersPrintOptions a old.options options next → NumbersPrinted first old (record { values = values; options = options }) next
printed old {values} {options} {first} {a} {next} its_values its_options =
    numbers_by (cc) (takes_parts (map nodes_of_expr values) (of_print_options before_parts options) (takes its_values) (takes its_options))

pub stage : (old : Stage) {n : Node} {does : StageForm} {first a next : ℕ}
    → NumbersNode first old.node n a → NumbersStageForm a old.form does next → NumbersStage first old (record { node = n; joint = old.joint; form = does }) next
stage old {n} {does} {first} {a} {next} own its_form = numbers_by (cc) (takes_node own (takes its_form))
