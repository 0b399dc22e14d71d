-- Sources in straight lines: which nodes are built yet. A source is one of statements that assign a sum to a name or print a sum; a sum is a number, a name that an earlier statement assigns, a sum in brackets, or a sum, difference or product of two sums.
use Rattle.std.specs.Prelude.{Bool, true, false, ◌||◌, if◌then◌else◌, List, [], ◌∷◌, Option, Some, None, codes}
use Rattle.codon_base.specs.declared.source.Span.{Span}
use Rattle.source_trees.specs.declared.node.Node.{Node}
use Rattle.source_trees.specs.declared.operator.BinaryOp.{BinaryOp}
use Rattle.source_trees.specs.declared.operator.BinaryOp.TheVariants as op
use Rattle.source_trees.specs.declared.expression.Expr.{Expr, Expr-F}
use Rattle.source_trees.specs.declared.expression.Expr.TheFolds.{fold-Expr}
use Rattle.source_trees.specs.declared.statement.Target.{Target}
use Rattle.source_trees.specs.declared.statement.Target.TheVariants as target
use Rattle.source_trees.specs.declared.statement.Targets.{Targets}
use Rattle.source_trees.specs.declared.statement.Targets.TheVariants as targets
use Rattle.source_trees.specs.declared.statement.Stmt.{Stmt, Stmt-F}
use Rattle.source_trees.specs.declared.statement.Stmt.TheFolds.{fold-Stmt}
use Rattle.source_trees.specs.declared.pipeline.PrintOptions.{PrintOptions}
use Rattle.source_trees.specs.declared.pipeline.PrintOptions.TheVariants as options
use Rattle.source_trees.specs.declared.item.Item.{Item}
use Rattle.source_trees.specs.declared.item.Item.TheVariants as item
use Rattle.source_trees.specs.declared.item.Module.{Module}
use Rattle.source_trees.specs.Parts as parts
use Rattle.meaning_rules.specs.State.{Spelling, is_among}
use Rattle.meaning_rules.specs.Bodies.{assigned}
use Rattle.meaning_rules.specs.Program.{statement_in}

-- the first place, where there is one
abbrev pub first_of : List (Option Span) → Option Span
first_of [] = None
first_of (Some at ∷ more) = Some at
first_of (None ∷ more) = first_of more

-- the place of the first node that is not built, of a node and its parts in preorder: the node's own where its form is not built, and else the first that a part gives
abbrev pub first_at : Bool → Node → List (Option Span) → Option Span
first_at true n parts = first_of parts
first_at false n parts = Some n.at

-- a node whose form is not built
abbrev pub not_built : Node → List (Option Span) → Option Span
not_built = first_at false

-- the operators of sums: `+`, `-` and `*`
abbrev pub is_of_sums : BinaryOp → Bool
is_of_sums op.Add = true
is_of_sums op.Subtract = true
is_of_sums op.Multiply = true
is_of_sums _ = false

-- names that are not assigned
abbrev pub reserved : List Spelling
reserved = codes "print" ∷ codes "range" ∷ codes "iter" ∷ []

abbrev pub unbuilt_in_target : Target → Option Span
unbuilt_in_target (target.Name n name) = if is_among name reserved then Some n.at else None
unbuilt_in_target (target.Index n object index) = Some n.at
unbuilt_in_target (target.Field n object name) = Some n.at

abbrev pub unbuilt_in_targets : Targets → Option Span
unbuilt_in_targets (targets.One only) = unbuilt_in_target only
unbuilt_in_targets (targets.Several n all) = Some n.at

-- ---- sums and statements, where some names are known

module _ (known : Spelling → Bool) where
  abbrev pub is_built : Expr-F (Option Span) (Option Span) → Bool
  is_built (Expr-F.Number n z) = true
  is_built (Expr-F.Name n name) = known name
  is_built (Expr-F.Bracketed n inner) = true
  is_built (Expr-F.Binary n by left right) = is_of_sums by
  is_built _ = false

  abbrev pub sum_step : Expr-F (Option Span) (Option Span) → Option Span
  sum_step form = parts.expr_step (first_at (is_built form)) form

  unfoldable pub unbuilt_in_sum : Expr → Option Span
  unbuilt_in_sum = fold-Expr (Option Span) (Option Span) sum_step (parts.comparison_step not_built)

  -- a print of these values, of which one alone is built
  abbrev pub unbuilt_in_values : Node → List Expr → Option Span
  unbuilt_in_values n (e ∷ []) = unbuilt_in_sum e
  unbuilt_in_values n _ = Some n.at

  abbrev pub unbuilt_in_print : Node → List Expr → PrintOptions → Option Span
  unbuilt_in_print n values options.Neither = unbuilt_in_values n values
  unbuilt_in_print n values _ = Some n.at

  abbrev pub stmt_step : Stmt-F (Option Span) (List (Option Span)) (Option Span) → Option Span
  stmt_step (Stmt-F.Assign n written e) = first_at true n (unbuilt_in_targets written ∷ unbuilt_in_sum e ∷ [])
  stmt_step (Stmt-F.Print n printed) = unbuilt_in_print n printed.values printed.options
  stmt_step other = parts.stmt_step not_built other

  unfoldable pub unbuilt_in_stmt : Stmt → Option Span
  unbuilt_in_stmt = fold-Stmt (Option Span) (List (Option Span)) (Option Span) stmt_step (parts.arm_step not_built) (parts.for_step not_built)

  abbrev pub unbuilt_in_item : Item → Option Span
  unbuilt_in_item (item.Stmt s) = unbuilt_in_stmt s
  unbuilt_in_item (item.Function f) = Some f.node.at
  unbuilt_in_item (item.Class c) = Some c.node.at

-- ---- modules

abbrev pub no_name : Spelling → Bool
no_name name = false

-- the names that are known after an item: those that it assigns besides
abbrev pub known_after : (Spelling → Bool) → Item → Spelling → Bool
known_after known i name = is_among name (assigned (statement_in i)) || known name

abbrev pub unbuilt_from : (Spelling → Bool) → List Item → Option Span
unbuilt_from known [] = None
unbuilt_from known (i ∷ items) = first_of (unbuilt_in_item known i ∷ unbuilt_from (known_after known i) items ∷ [])

-- the place of the first node in preorder whose form is not built, where there is one
abbrev pub first_unbuilt : Module → Option Span
first_unbuilt m = unbuilt_from no_name m.items
