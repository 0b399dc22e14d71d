-- The nodes of a tree, and which nodes are the parts of which (the full grammar of the Python reference, chapter 10, in this language's profile).
-- `node` tells what a node gives by what its parts give, from left to right as they are written; the definitions below then tell what each tree gives. What is one node gives one answer. What stands for any number of nodes, as the printed values or an arm of `if`, gives a list of answers.
-- Nodes are: each expression, each bracket pair around one, each statement, arguments and items; a name that is called, assigned, defined or follows `raise`; `object.name` where it is called; a parameter and a stage, each with its name; each type. Targets with commas are one node. Chains of `elif`, comparisons, `and` and `or` are flat, and options of `print` and `@par` are no nodes of their own.
use Rattle.std.specs.Prelude.{List, [], ◌∷◌, ◌++◌, map, Option, Some, None}
use Rattle.std.specs.List.{flat_map}
use Rattle.source_trees.specs.declared.node.Node.{Node}
use Rattle.source_trees.specs.declared.node.Name.{Name}
use Rattle.source_trees.specs.declared.expression.Expr.{Expr, Expr-F}
use Rattle.source_trees.specs.declared.expression.Expr.TheOpen.{Comparison-F}
use Rattle.source_trees.specs.declared.expression.Expr.TheFolds.{fold-Expr, fold-Comparison}
use Rattle.source_trees.specs.declared.expression.Comparison.{Comparison}
use Rattle.source_trees.specs.declared.statement.LoopNames.{LoopNames}
use Rattle.source_trees.specs.declared.statement.LoopNames.TheVariants as names
use Rattle.source_trees.specs.declared.statement.Target.{Target}
use Rattle.source_trees.specs.declared.statement.Target.TheVariants as target
use Rattle.source_trees.specs.declared.statement.Targets.{Targets}
use Rattle.source_trees.specs.declared.statement.Targets.TheVariants as targets
use Rattle.source_trees.specs.declared.statement.Stmt.{Stmt, Stmt-F}
use Rattle.source_trees.specs.declared.statement.Stmt.TheOpen.{Arm-F, For-F}
use Rattle.source_trees.specs.declared.statement.Stmt.TheFolds.{fold-Stmt, fold-Arm, fold-For}
use Rattle.source_trees.specs.declared.statement.Arm.{Arm}
use Rattle.source_trees.specs.declared.statement.For.{For}
use Rattle.source_trees.specs.declared.pipeline.PrintOptions.{PrintOptions}
use Rattle.source_trees.specs.declared.pipeline.PrintOptions.TheVariants as options
use Rattle.source_trees.specs.declared.pipeline.Printed.{Printed}
use Rattle.source_trees.specs.declared.pipeline.StageForm.{StageForm}
use Rattle.source_trees.specs.declared.pipeline.StageForm.TheVariants as form
use Rattle.source_trees.specs.declared.pipeline.Stage.{Stage}
use Rattle.source_trees.specs.declared.item.Annotation.{Annotation, Annotation-F, fold-Annotation}
use Rattle.source_trees.specs.declared.item.Param.{Param}
use Rattle.source_trees.specs.declared.item.Function.{Function}
use Rattle.source_trees.specs.declared.item.Member.{Member}
use Rattle.source_trees.specs.declared.item.Member.TheVariants as member
use Rattle.source_trees.specs.declared.item.Class.{Class}
use Rattle.source_trees.specs.declared.item.Item.{Item}
use Rattle.source_trees.specs.declared.item.Item.TheVariants as item
use Rattle.source_trees.specs.declared.item.Module.{Module}

-- a part that may be absent
abbrev pub optional : {A : Type 0} → Option A → List A
optional None = []
optional (Some a) = a ∷ []

module _ {A : Type 0} (node : Node → List A → A) where
  abbrev pub of_name : Name → A
  of_name name = node name.node []

  abbrev pub of_loop_names : LoopNames → List A
  of_loop_names (names.One name) = of_name name ∷ []
  of_loop_names (names.Several all) = map of_name all

  -- ---- expressions

  abbrev pub expr_step : Expr-F A A → A
  expr_step (Expr-F.Name n spelling) = node n []
  expr_step (Expr-F.Number n number) = node n []
  expr_step (Expr-F.Text n text) = node n []
  expr_step (Expr-F.True n) = node n []
  expr_step (Expr-F.False n) = node n []
  expr_step (Expr-F.None n) = node n []
  expr_step (Expr-F.Bracketed n inner) = node n (inner ∷ [])
  expr_step (Expr-F.Tuple n commas items) = node n items
  expr_step (Expr-F.List n items) = node n items
  expr_step (Expr-F.Comprehension n item names iterable condition) =
      node n (item ∷ of_loop_names names ++ iterable ∷ optional condition)
  expr_step (Expr-F.Conditional n value condition other) = node n (value ∷ condition ∷ other ∷ [])
  expr_step (Expr-F.Or n operands) = node n operands
  expr_step (Expr-F.And n operands) = node n operands
  expr_step (Expr-F.Not n operand) = node n (operand ∷ [])
  expr_step (Expr-F.Compare n first others) = node n (first ∷ others)
  expr_step (Expr-F.Unary n op operand) = node n (operand ∷ [])
  expr_step (Expr-F.Binary n op left right) = node n (left ∷ right ∷ [])
  expr_step (Expr-F.Call n name arguments) = node n (of_name name ∷ arguments)
  expr_step (Expr-F.MethodCall n method object name arguments) = node n (node method (object ∷ []) ∷ arguments)
  expr_step (Expr-F.Index n object index) = node n (object ∷ index ∷ [])
  expr_step (Expr-F.Slice n object from to) = node n (object ∷ optional from ++ optional to)
  expr_step (Expr-F.Field n object name) = node n (object ∷ [])

  -- a comparison is no node besides its right operand
  abbrev pub comparison_step : Comparison-F A A → A
  comparison_step comparison = comparison.right

  unfoldable pub of_expr : Expr → A
  of_expr = fold-Expr A A expr_step comparison_step

  unfoldable pub of_comparison : Comparison → A
  of_comparison = fold-Comparison A A expr_step comparison_step

  -- ---- types

  abbrev pub annotation_step : Annotation-F A → A
  annotation_step (Annotation-F.Int n) = node n []
  annotation_step (Annotation-F.Bool n) = node n []
  annotation_step (Annotation-F.Str n) = node n []
  annotation_step (Annotation-F.None n) = node n []
  annotation_step (Annotation-F.Class n name) = node n []
  annotation_step (Annotation-F.List n item) = node n (item ∷ [])
  annotation_step (Annotation-F.Tuple n items) = node n items

  unfoldable pub of_annotation : Annotation → A
  of_annotation = fold-Annotation A annotation_step

  -- ---- targets, print and pipelines

  abbrev pub of_target : Target → A
  of_target (target.Name n spelling) = node n []
  of_target (target.Index n object index) = node n (of_expr object ∷ of_expr index ∷ [])
  of_target (target.Field n object name) = node n (of_expr object ∷ [])

  abbrev pub of_targets : Targets → A
  of_targets (targets.One only) = of_target only
  of_targets (targets.Several n all) = node n (map of_target all)

  abbrev pub of_exprs : List Expr → List A
  of_exprs = map of_expr

  abbrev pub of_optional_expr : Option Expr → List A
  of_optional_expr None = []
  of_optional_expr (Some e) = of_expr e ∷ []

  abbrev pub of_print_options : PrintOptions → List A
  of_print_options options.Neither = []
  of_print_options (options.Sep sep) = of_expr sep ∷ []
  of_print_options (options.End end_text) = of_expr end_text ∷ []
  of_print_options (options.SepEnd sep end_text) = of_expr sep ∷ of_expr end_text ∷ []
  of_print_options (options.EndSep end_text sep) = of_expr end_text ∷ of_expr sep ∷ []

  abbrev pub of_printed : Printed → List A
  of_printed printed = of_exprs printed.values ++ of_print_options printed.options

  abbrev pub of_stage_form : StageForm → List A
  of_stage_form form.Iter = []
  of_stage_form (form.Call name before after) = of_exprs before ++ of_exprs after
  of_stage_form (form.Print printed) = of_printed printed

  abbrev pub of_stage : Stage → A
  of_stage stage = node stage.node (of_stage_form stage.form)

  -- ---- statements

  abbrev pub stmt_step : Stmt-F A (List A) A → A
  stmt_step (Stmt-F.Pass n) = node n []
  stmt_step (Stmt-F.Break n) = node n []
  stmt_step (Stmt-F.Continue n) = node n []
  stmt_step (Stmt-F.Return n value) = node n (of_optional_expr value)
  stmt_step (Stmt-F.Yield n value) = node n (of_expr value ∷ [])
  stmt_step (Stmt-F.Raise n name text) = node n (of_name name ∷ of_optional_expr text)
  stmt_step (Stmt-F.Assert n condition text) = node n (of_expr condition ∷ of_optional_expr text)
  stmt_step (Stmt-F.Annotated n name annotation value) = node n (of_name name ∷ of_annotation annotation ∷ of_optional_expr value)
  stmt_step (Stmt-F.Assign n written value) = node n (of_targets written ∷ of_expr value ∷ [])
  stmt_step (Stmt-F.Update n written op value) = node n (of_target written ∷ of_expr value ∷ [])
  stmt_step (Stmt-F.Evaluate n value) = node n (of_expr value ∷ [])
  stmt_step (Stmt-F.Print n printed) = node n (of_printed printed)
  stmt_step (Stmt-F.Pipeline n head stages) = node n (of_expr head ∷ map of_stage stages)
  stmt_step (Stmt-F.If n arms otherwise) = node n (flat_map (λ arm. arm) arms ++ otherwise)
  stmt_step (Stmt-F.While n condition body) = node n (of_expr condition ∷ body)
  stmt_step (Stmt-F.For loop) = loop
  stmt_step (Stmt-F.Par n settings loop) = node n (loop ∷ [])

  -- a condition and the statements under it
  abbrev pub arm_step : Arm-F A (List A) A → List A
  arm_step arm = of_expr arm.condition ∷ arm.body

  abbrev pub for_step : For-F A (List A) A → A
  for_step loop = node loop.node (of_loop_names loop.names ++ of_expr loop.iterable ∷ loop.body)

  unfoldable pub of_stmt : Stmt → A
  of_stmt = fold-Stmt A (List A) A stmt_step arm_step for_step

  unfoldable pub of_arm : Arm → List A
  of_arm = fold-Arm A (List A) A stmt_step arm_step for_step

  unfoldable pub of_for : For → A
  of_for = fold-For A (List A) A stmt_step arm_step for_step

  -- ---- functions, classes and sources

  abbrev pub of_optional_annotation : Option Annotation → List A
  of_optional_annotation None = []
  of_optional_annotation (Some a) = of_annotation a ∷ []

  abbrev pub of_param : Param → A
  of_param param = node param.node (of_optional_annotation param.annotation ++ of_optional_expr param.default)

  abbrev pub of_function : Function → A
  of_function f = node f.node (of_name f.name ∷ map of_param f.params ++ of_optional_annotation f.result ++ map of_stmt f.body)

  abbrev pub of_member : Member → A
  of_member (member.Field n name annotation) = node n (of_name name ∷ of_annotation annotation ∷ [])
  of_member (member.Text n text) = node n []
  of_member (member.Pass n) = node n []
  of_member (member.Method f) = of_function f

  abbrev pub of_class : Class → A
  of_class c = node c.node (of_name c.name ∷ map of_member c.members)

  abbrev pub of_item : Item → A
  of_item (item.Stmt s) = of_stmt s
  of_item (item.Function f) = of_function f
  of_item (item.Class c) = of_class c

  abbrev pub of_module : Module → List A
  of_module m = map of_item m.items
