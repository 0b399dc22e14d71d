-- A tree without its numbers: the same tree, with the number 0 at each node. Places stay. Two trees that differ in numbers alone have one bare tree.
use Rattle.std.specs.Prelude.{List, map, Option, Some, None}
use Rattle.source_trees.specs.declared.node.Node.{Node}
use Rattle.source_trees.specs.declared.node.Name.{Name}
use Rattle.source_trees.specs.declared.expression.Expr.{Expr, Expr-F}
use Rattle.source_trees.specs.declared.expression.Expr.TheOpen.{Comparison-F}
use Rattle.source_trees.specs.declared.expression.Expr.TheFolds.{fold-Expr, fold-Comparison}
use Rattle.source_trees.specs.declared.expression.Expr.TheVariants as expr
use Rattle.source_trees.specs.declared.expression.Comparison.{Comparison}
use Rattle.source_trees.specs.declared.statement.LoopNames.{LoopNames}
use Rattle.source_trees.specs.declared.statement.LoopNames.TheVariants as names
use Rattle.source_trees.specs.declared.statement.Target.{Target}
use Rattle.source_trees.specs.declared.statement.Target.TheVariants as target
use Rattle.source_trees.specs.declared.statement.Targets.{Targets}
use Rattle.source_trees.specs.declared.statement.Targets.TheVariants as targets
use Rattle.source_trees.specs.declared.statement.Stmt.{Stmt, Stmt-F}
use Rattle.source_trees.specs.declared.statement.Stmt.TheOpen.{Arm-F, For-F}
use Rattle.source_trees.specs.declared.statement.Stmt.TheFolds.{fold-Stmt, fold-Arm, fold-For}
use Rattle.source_trees.specs.declared.statement.Stmt.TheVariants as stmt
use Rattle.source_trees.specs.declared.statement.Arm.{Arm}
use Rattle.source_trees.specs.declared.statement.For.{For}
use Rattle.source_trees.specs.declared.pipeline.PrintOptions.{PrintOptions}
use Rattle.source_trees.specs.declared.pipeline.PrintOptions.TheVariants as options
use Rattle.source_trees.specs.declared.pipeline.Printed.{Printed}
use Rattle.source_trees.specs.declared.pipeline.StageForm.{StageForm}
use Rattle.source_trees.specs.declared.pipeline.StageForm.TheVariants as form
use Rattle.source_trees.specs.declared.pipeline.Stage.{Stage}
use Rattle.source_trees.specs.declared.item.Annotation.{Annotation, Annotation-F, fold-Annotation}
use Rattle.source_trees.specs.declared.item.Annotation.TheVariants as annotation
use Rattle.source_trees.specs.declared.item.Param.{Param}
use Rattle.source_trees.specs.declared.item.Function.{Function}
use Rattle.source_trees.specs.declared.item.Member.{Member}
use Rattle.source_trees.specs.declared.item.Member.TheVariants as member
use Rattle.source_trees.specs.declared.item.Class.{Class}
use Rattle.source_trees.specs.declared.item.Item.{Item}
use Rattle.source_trees.specs.declared.item.Item.TheVariants as item
use Rattle.source_trees.specs.declared.item.Module.{Module}

abbrev pub bare : Node → Node
bare n = record { id = record { 0 = 0 }; at = n.at }

abbrev pub bare_name : Name → Name
bare_name name = record name { node = bare name.node }

abbrev pub bare_loop_names : LoopNames → LoopNames
bare_loop_names (names.One name) = names.One (bare_name name)
bare_loop_names (names.Several all) = names.Several (map bare_name all)

-- ---- expressions, whose parts are bare

abbrev pub expr_step : Expr-F Expr Comparison → Expr
expr_step (Expr-F.Name n spelling) = expr.Name (bare n) spelling
expr_step (Expr-F.Number n number) = expr.Number (bare n) number
expr_step (Expr-F.Text n text) = expr.Text (bare n) text
expr_step (Expr-F.True n) = expr.True (bare n)
expr_step (Expr-F.False n) = expr.False (bare n)
expr_step (Expr-F.None n) = expr.None (bare n)
expr_step (Expr-F.Bracketed n inner) = expr.Bracketed (bare n) inner
expr_step (Expr-F.Tuple n commas items) = expr.Tuple (bare n) commas items
expr_step (Expr-F.List n items) = expr.List (bare n) items
expr_step (Expr-F.Comprehension n item names iterable condition) =
    expr.Comprehension (bare n) item (bare_loop_names names) iterable condition
expr_step (Expr-F.Conditional n value condition other) = expr.Conditional (bare n) value condition other
expr_step (Expr-F.Or n operands) = expr.Or (bare n) operands
expr_step (Expr-F.And n operands) = expr.And (bare n) operands
expr_step (Expr-F.Not n operand) = expr.Not (bare n) operand
expr_step (Expr-F.Compare n first others) = expr.Compare (bare n) first others
expr_step (Expr-F.Unary n op operand) = expr.Unary (bare n) op operand
expr_step (Expr-F.Binary n op left right) = expr.Binary (bare n) op left right
expr_step (Expr-F.Call n name arguments) = expr.Call (bare n) (bare_name name) arguments
expr_step (Expr-F.MethodCall n method object name arguments) = expr.MethodCall (bare n) (bare method) object name arguments
expr_step (Expr-F.Index n object index) = expr.Index (bare n) object index
expr_step (Expr-F.Slice n object from to) = expr.Slice (bare n) object from to
expr_step (Expr-F.Field n object name) = expr.Field (bare n) object name

abbrev pub comparison_step : Comparison-F Expr Comparison → Comparison
comparison_step comparison = record { comparator = comparison.comparator; right = comparison.right }

unfoldable pub bare_expr : Expr → Expr
bare_expr = fold-Expr Expr Comparison expr_step comparison_step

unfoldable pub bare_comparison : Comparison → Comparison
bare_comparison = fold-Comparison Expr Comparison expr_step comparison_step

abbrev pub bare_exprs : List Expr → List Expr
bare_exprs = map bare_expr

abbrev pub bare_optional : {A : Type 0} → (A → A) → Option A → Option A
bare_optional bare_part None = None
bare_optional bare_part (Some part) = Some (bare_part part)

-- ---- types

abbrev pub annotation_step : Annotation-F Annotation → Annotation
annotation_step (Annotation-F.Int n) = annotation.Int (bare n)
annotation_step (Annotation-F.Bool n) = annotation.Bool (bare n)
annotation_step (Annotation-F.Str n) = annotation.Str (bare n)
annotation_step (Annotation-F.None n) = annotation.None (bare n)
annotation_step (Annotation-F.Class n name) = annotation.Class (bare n) name
annotation_step (Annotation-F.List n item) = annotation.List (bare n) item
annotation_step (Annotation-F.Tuple n items) = annotation.Tuple (bare n) items

unfoldable pub bare_annotation : Annotation → Annotation
bare_annotation = fold-Annotation Annotation annotation_step

-- ---- targets, print and pipelines

abbrev pub bare_target : Target → Target
bare_target (target.Name n spelling) = target.Name (bare n) spelling
bare_target (target.Index n object index) = target.Index (bare n) (bare_expr object) (bare_expr index)
bare_target (target.Field n object name) = target.Field (bare n) (bare_expr object) name

abbrev pub bare_targets : Targets → Targets
bare_targets (targets.One only) = targets.One (bare_target only)
bare_targets (targets.Several n all) = targets.Several (bare n) (map bare_target all)

abbrev pub bare_print_options : PrintOptions → PrintOptions
bare_print_options options.Neither = options.Neither
bare_print_options (options.Sep sep) = options.Sep (bare_expr sep)
bare_print_options (options.End end_text) = options.End (bare_expr end_text)
bare_print_options (options.SepEnd sep end_text) = options.SepEnd (bare_expr sep) (bare_expr end_text)
bare_print_options (options.EndSep end_text sep) = options.EndSep (bare_expr end_text) (bare_expr sep)

abbrev pub bare_printed : Printed → Printed
bare_printed printed = record { values = bare_exprs printed.values; options = bare_print_options printed.options }

abbrev pub bare_stage_form : StageForm → StageForm
bare_stage_form form.Iter = form.Iter
bare_stage_form (form.Call name before after) = form.Call name (bare_exprs before) (bare_exprs after)
bare_stage_form (form.Print printed) = form.Print (bare_printed printed)

abbrev pub bare_stage : Stage → Stage
bare_stage stage = record { node = bare stage.node; joint = stage.joint; form = bare_stage_form stage.form }

-- ---- statements, whose statements are bare

abbrev pub stmt_step : Stmt-F Stmt Arm For → Stmt
stmt_step (Stmt-F.Pass n) = stmt.Pass (bare n)
stmt_step (Stmt-F.Break n) = stmt.Break (bare n)
stmt_step (Stmt-F.Continue n) = stmt.Continue (bare n)
stmt_step (Stmt-F.Return n value) = stmt.Return (bare n) (bare_optional bare_expr value)
stmt_step (Stmt-F.Yield n value) = stmt.Yield (bare n) (bare_expr value)
stmt_step (Stmt-F.Raise n name text) = stmt.Raise (bare n) (bare_name name) (bare_optional bare_expr text)
stmt_step (Stmt-F.Assert n condition text) = stmt.Assert (bare n) (bare_expr condition) (bare_optional bare_expr text)
stmt_step (Stmt-F.Annotated n name type value) =
    stmt.Annotated (bare n) (bare_name name) (bare_annotation type) (bare_optional bare_expr value)
stmt_step (Stmt-F.Assign n written value) = stmt.Assign (bare n) (bare_targets written) (bare_expr value)
stmt_step (Stmt-F.Update n written op value) = stmt.Update (bare n) (bare_target written) op (bare_expr value)
stmt_step (Stmt-F.Evaluate n value) = stmt.Evaluate (bare n) (bare_expr value)
stmt_step (Stmt-F.Print n printed) = stmt.Print (bare n) (bare_printed printed)
stmt_step (Stmt-F.Pipeline n head stages) = stmt.Pipeline (bare n) (bare_expr head) (map bare_stage stages)
stmt_step (Stmt-F.If n arms otherwise) = stmt.If (bare n) arms otherwise
stmt_step (Stmt-F.While n condition body) = stmt.While (bare n) (bare_expr condition) body
stmt_step (Stmt-F.For loop) = stmt.For loop
stmt_step (Stmt-F.Par n settings loop) = stmt.Par (bare n) settings loop

abbrev pub arm_step : Arm-F Stmt Arm For → Arm
arm_step arm = record { condition = bare_expr arm.condition; body = arm.body }

abbrev pub for_step : For-F Stmt Arm For → For
for_step loop = record { node = bare loop.node; names = bare_loop_names loop.names; iterable = bare_expr loop.iterable; body = loop.body }

unfoldable pub bare_stmt : Stmt → Stmt
bare_stmt = fold-Stmt Stmt Arm For stmt_step arm_step for_step

unfoldable pub bare_arm : Arm → Arm
bare_arm = fold-Arm Stmt Arm For stmt_step arm_step for_step

unfoldable pub bare_for : For → For
bare_for = fold-For Stmt Arm For stmt_step arm_step for_step

-- ---- functions, classes and sources

abbrev pub bare_param : Param → Param
bare_param param = record { node = bare param.node; name = param.name; annotation = bare_optional bare_annotation param.annotation; default = bare_optional bare_expr param.default }

abbrev pub bare_function : Function → Function
bare_function f = record { node = bare f.node; name = bare_name f.name; params = map bare_param f.params; result = bare_optional bare_annotation f.result; body = map bare_stmt f.body }

abbrev pub bare_member : Member → Member
bare_member (member.Field n name type) = member.Field (bare n) (bare_name name) (bare_annotation type)
bare_member (member.Text n text) = member.Text (bare n) text
bare_member (member.Pass n) = member.Pass (bare n)
bare_member (member.Method f) = member.Method (bare_function f)

abbrev pub bare_class : Class → Class
bare_class c = record { node = bare c.node; name = bare_name c.name; members = map bare_member c.members }

abbrev pub bare_item : Item → Item
bare_item (item.Stmt s) = item.Stmt (bare_stmt s)
bare_item (item.Function f) = item.Function (bare_function f)
bare_item (item.Class c) = item.Class (bare_class c)

abbrev pub bare_module : Module → Module
bare_module m = record { items = map bare_item m.items }
