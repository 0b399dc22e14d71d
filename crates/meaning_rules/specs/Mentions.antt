-- What the text of a body speaks of: the variables that it mentions, what it calls, and the lists whose places it assigns by name, in the order of the text, which is the order of its nodes.
-- The names of a comprehension and of a parallel loop are its own, so mentions of them inside are none of the text's (the Python reference, 6.2.4).
use Rattle.std.specs.Prelude.{ℕ, Bool, false, not, List, [], ◌∷◌, ◌++◌, map, Option, Some, None}
use Rattle.std.specs.List.{flat_map, filter}
use Rattle.source_trees.specs.declared.node.Name.{Name}
use Rattle.source_trees.specs.declared.expression.Expr.{Expr, Expr-F, out-Expr}
use Rattle.source_trees.specs.declared.expression.Expr.TheOpen.{Comparison-F}
use Rattle.source_trees.specs.declared.expression.Expr.TheFolds.{fold-Expr}
use Rattle.source_trees.specs.declared.expression.Comparison.{Comparison}
use Rattle.source_trees.specs.declared.statement.LoopNames.{LoopNames}
use Rattle.source_trees.specs.declared.statement.LoopNames.TheVariants as names
use Rattle.source_trees.specs.declared.statement.Target.{Target}
use Rattle.source_trees.specs.declared.statement.Target.TheVariants as target
use Rattle.source_trees.specs.declared.statement.Targets.{Targets}
use Rattle.source_trees.specs.declared.statement.Targets.TheVariants as targets
use Rattle.source_trees.specs.declared.statement.Stmt.{Stmt, Stmt-F}
use Rattle.source_trees.specs.declared.statement.Stmt.TheOpen.{Arm-F, For-F}
use Rattle.source_trees.specs.declared.statement.Stmt.TheFolds.{fold-Stmt}
use Rattle.source_trees.specs.declared.pipeline.PrintOptions.{PrintOptions}
use Rattle.source_trees.specs.declared.pipeline.PrintOptions.TheVariants as options
use Rattle.source_trees.specs.declared.pipeline.Printed.{Printed}
use Rattle.source_trees.specs.declared.pipeline.StageForm.{StageForm}
use Rattle.source_trees.specs.declared.pipeline.StageForm.TheVariants as form
use Rattle.source_trees.specs.declared.pipeline.Stage.{Stage}
use Rattle.meaning_rules.specs.State.{Spelling, is_among}
use Rattle.source_trees.specs.Names.{loop_names}

-- a variable, a call or a stage by name, a call of a method, an assignment to a place of what a name holds
pub data Note : Type 0 where
  Mentions : Spelling → Note
  Calls : Spelling → Note
  CallsMethod : Spelling → Note
  WritesPlace : Spelling → Note

-- whether a note speaks of one of these variables
abbrev pub speaks_of : List Spelling → Note → Bool
speaks_of own (Mentions name) = is_among name own
speaks_of own (WritesPlace name) = is_among name own
speaks_of own _ = false

-- the notes of a text that has names of its own
abbrev pub but_of : List Spelling → List Note → List Note
but_of own = filter (λ note. not (speaks_of own note))

abbrev pub mention : Spelling → List Note
mention name = Mentions name ∷ []

abbrev pub optional : Option (List Note) → List Note
optional None = []
optional (Some notes) = notes

abbrev pub all_of : List (List Note) → List Note
all_of = flat_map (λ notes. notes)

-- ---- expressions

abbrev pub expr_step : Expr-F (List Note) (List Note) → List Note
expr_step (Expr-F.Name n name) = mention name
expr_step (Expr-F.Bracketed n inner) = inner
expr_step (Expr-F.Tuple n commas items) = all_of items
expr_step (Expr-F.List n items) = all_of items
expr_step (Expr-F.Comprehension n item names iterable condition) =
    but_of (loop_names names) item ++ iterable ++ but_of (loop_names names) (optional condition)
expr_step (Expr-F.Conditional n value condition other) = value ++ condition ++ other
expr_step (Expr-F.Or n operands) = all_of operands
expr_step (Expr-F.And n operands) = all_of operands
expr_step (Expr-F.Not n operand) = operand
expr_step (Expr-F.Compare n first others) = first ++ all_of others
expr_step (Expr-F.Unary n op operand) = operand
expr_step (Expr-F.Binary n op left right) = left ++ right
expr_step (Expr-F.Call n name arguments) = Calls name.spelling ∷ all_of arguments
expr_step (Expr-F.MethodCall n method object name arguments) = CallsMethod name ∷ object ++ all_of arguments
expr_step (Expr-F.Index n object index) = object ++ index
expr_step (Expr-F.Slice n object from to) = object ++ optional from ++ optional to
expr_step (Expr-F.Field n object name) = object
expr_step _ = []

abbrev pub comparison_step : Comparison-F (List Note) (List Note) → List Note
comparison_step comparison = comparison.right

unfoldable pub notes_of_expr : Expr → List Note
notes_of_expr = fold-Expr (List Note) (List Note) expr_step comparison_step

abbrev pub notes_of_exprs : List Expr → List Note
notes_of_exprs = flat_map notes_of_expr

abbrev pub notes_of_optional : Option Expr → List Note
notes_of_optional None = []
notes_of_optional (Some e) = notes_of_expr e

-- ---- targets

abbrev pub name_in : Expr-F Expr Comparison → List Note
name_in (Expr-F.Name n name) = WritesPlace name ∷ []
name_in _ = []

abbrev pub notes_of_target : Target → List Note
notes_of_target (target.Name n name) = mention name
notes_of_target (target.Index n object index) = name_in (out-Expr object) ++ notes_of_expr object ++ notes_of_expr index
notes_of_target (target.Field n object name) = notes_of_expr object

abbrev pub notes_of_targets : Targets → List Note
notes_of_targets (targets.One only) = notes_of_target only
notes_of_targets (targets.Several n all) = flat_map notes_of_target all

abbrev pub mention_name : Name → List Note
mention_name name = mention name.spelling

abbrev pub notes_of_loop_names : LoopNames → List Note
notes_of_loop_names (names.One name) = mention_name name
notes_of_loop_names (names.Several all) = flat_map mention_name all

-- ---- print and stages

abbrev pub notes_of_options : PrintOptions → List Note
notes_of_options options.Neither = []
notes_of_options (options.Sep sep) = notes_of_expr sep
notes_of_options (options.End end_text) = notes_of_expr end_text
notes_of_options (options.SepEnd sep end_text) = notes_of_expr sep ++ notes_of_expr end_text
notes_of_options (options.EndSep end_text sep) = notes_of_expr end_text ++ notes_of_expr sep

abbrev pub notes_of_printed : Printed → List Note
notes_of_printed printed = notes_of_exprs printed.values ++ notes_of_options printed.options

abbrev pub notes_of_form : StageForm → List Note
notes_of_form form.Iter = []
notes_of_form (form.Call name before behind) = Calls name ∷ notes_of_exprs before ++ notes_of_exprs behind
notes_of_form (form.Print printed) = notes_of_printed printed

abbrev pub notes_of_stages : List Stage → List Note
notes_of_stages = flat_map (λ stage. notes_of_form stage.form)

-- ---- statements

-- a loop: its names, and its notes without and with those of the names themselves
pub record LoopNotes : Type 0 where
  pub own : List Spelling
  pub names : List Note
  pub iterable : List Note
  pub body : List Note

abbrev pub stmt_step : Stmt-F (List Note) (List Note) LoopNotes → List Note
stmt_step (Stmt-F.Return n value) = notes_of_optional value
stmt_step (Stmt-F.Yield n value) = notes_of_expr value
stmt_step (Stmt-F.Raise n name text) = notes_of_optional text
stmt_step (Stmt-F.Assert n condition text) = notes_of_expr condition ++ notes_of_optional text
stmt_step (Stmt-F.Annotated n name annotation value) = mention_name name ++ notes_of_optional value
stmt_step (Stmt-F.Assign n written value) = notes_of_targets written ++ notes_of_expr value
stmt_step (Stmt-F.Update n written op value) = notes_of_target written ++ notes_of_expr value
stmt_step (Stmt-F.Evaluate n value) = notes_of_expr value
stmt_step (Stmt-F.Print n printed) = notes_of_printed printed
stmt_step (Stmt-F.Pipeline n head stages) = notes_of_expr head ++ notes_of_stages stages
stmt_step (Stmt-F.If n arms otherwise) = all_of arms ++ all_of otherwise
stmt_step (Stmt-F.While n condition body) = notes_of_expr condition ++ all_of body
stmt_step (Stmt-F.For loop) = loop.names ++ loop.iterable ++ loop.body
stmt_step (Stmt-F.Par n settings loop) = loop.iterable ++ but_of loop.own loop.body
stmt_step _ = []

abbrev pub arm_step : Arm-F (List Note) (List Note) LoopNotes → List Note
arm_step arm = notes_of_expr arm.condition ++ all_of arm.body

abbrev pub for_step : For-F (List Note) (List Note) LoopNotes → LoopNotes
for_step loop = record {
  own = loop_names loop.names;
  names = notes_of_loop_names loop.names;
  iterable = notes_of_expr loop.iterable;
  body = all_of loop.body;
}

unfoldable pub notes_of_stmt : Stmt → List Note
notes_of_stmt = fold-Stmt (List Note) (List Note) LoopNotes stmt_step arm_step for_step

abbrev pub notes_of_body : List Stmt → List Note
notes_of_body = flat_map notes_of_stmt

-- ---- what notes tell

abbrev pub mention_in : Note → List Spelling
mention_in (Mentions name) = name ∷ []
mention_in _ = []

-- the names that notes mention
abbrev pub mentioned : List Note → List Spelling
mentioned = flat_map mention_in

abbrev pub written_in : Note → List Spelling
written_in (WritesPlace name) = name ∷ []
written_in _ = []

-- the names through which notes write places
abbrev pub written_places : List Note → List Spelling
written_places = flat_map written_in
