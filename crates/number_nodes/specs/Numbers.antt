-- What numbering does to a part of a tree: the part stays as it is but for its numbers, and its nodes get the next numbers in preorder.
use Rattle.std.specs.Prelude.{◌≡◌, ℕ, ◌+◌, List, map, length, Option}
use Rattle.source_trees.specs.declared.node.Node.{Node}
use Rattle.source_trees.specs.declared.node.Name.{Name}
use Rattle.source_trees.specs.declared.expression.Expr.{Expr}
use Rattle.source_trees.specs.declared.expression.Comparison.{Comparison}
use Rattle.source_trees.specs.declared.statement.LoopNames.{LoopNames}
use Rattle.source_trees.specs.declared.statement.Target.{Target}
use Rattle.source_trees.specs.declared.statement.Targets.{Targets}
use Rattle.source_trees.specs.declared.statement.Stmt.{Stmt}
use Rattle.source_trees.specs.declared.statement.Arm.{Arm}
use Rattle.source_trees.specs.declared.statement.For.{For}
use Rattle.source_trees.specs.declared.pipeline.PrintOptions.{PrintOptions}
use Rattle.source_trees.specs.declared.pipeline.Printed.{Printed}
use Rattle.source_trees.specs.declared.pipeline.StageForm.{StageForm}
use Rattle.source_trees.specs.declared.pipeline.Stage.{Stage}
use Rattle.source_trees.specs.declared.item.Annotation.{Annotation}
use Rattle.source_trees.specs.declared.item.Param.{Param}
use Rattle.source_trees.specs.declared.item.Function.{Function}
use Rattle.source_trees.specs.declared.item.Member.{Member}
use Rattle.source_trees.specs.declared.item.Class.{Class}
use Rattle.source_trees.specs.declared.item.Item.{Item}
use Rattle.source_trees.specs.Parts.{of_name, of_comparison, of_print_options, of_stage_form, of_optional_expr, of_optional_annotation}
use Rattle.source_trees.specs.Nodes.{AreNumberedFrom, joined, before_parts, nodes_of_loop_names, nodes_of_expr, nodes_of_annotation, nodes_of_target, nodes_of_targets, nodes_of_printed, nodes_of_stage, nodes_of_stmt, nodes_of_arm, nodes_of_for, nodes_of_param, nodes_of_function, nodes_of_member, nodes_of_class, nodes_of_item}
use Rattle.source_trees.specs.Bare.{bare, bare_name, bare_loop_names, bare_expr, bare_comparison, bare_optional, bare_annotation, bare_target, bare_targets, bare_print_options, bare_printed, bare_stage_form, bare_stage, bare_stmt, bare_arm, bare_for, bare_param, bare_function, bare_member, bare_class, bare_item}

-- The new part is the old one but for its numbers. Its nodes have the numbers from the first on, and the next number follows them.
pub record Numbers {A : Type 0} (bare_part : A → A) (nodes : A → List Node) (first : ℕ) (old new : A) (next : ℕ) : Type 0 where
  pub same : bare_part new ≡ bare_part old
  pub numbered : AreNumberedFrom first (nodes new)
  pub next_is : next ≡ first + length (nodes new)

-- the same of each part of a list, one after another
abbrev pub NumbersAll : {A : Type 0} → (A → A) → (A → List Node) → ℕ → List A → List A → ℕ → Type 0
NumbersAll bare_part nodes = Numbers (map bare_part) (λ parts. joined (map nodes parts))

-- the same of one node
pub record NumbersNode (first : ℕ) (old new : Node) (next : ℕ) : Type 0 where
  pub same : bare new ≡ bare old
  pub number : new.id.0 ≡ first
  pub next_is : next ≡ first + 1

abbrev pub nodes_of_name : Name → List Node
nodes_of_name = of_name before_parts

abbrev pub NumbersName : ℕ → Name → Name → ℕ → Type 0
NumbersName = Numbers bare_name nodes_of_name

abbrev pub NumbersNames : ℕ → List Name → List Name → ℕ → Type 0
NumbersNames = NumbersAll bare_name nodes_of_name

abbrev pub NumbersLoopNames : ℕ → LoopNames → LoopNames → ℕ → Type 0
NumbersLoopNames = Numbers bare_loop_names nodes_of_loop_names

-- ---- expressions

abbrev pub NumbersExpr : ℕ → Expr → Expr → ℕ → Type 0
NumbersExpr = Numbers bare_expr nodes_of_expr

abbrev pub NumbersExprs : ℕ → List Expr → List Expr → ℕ → Type 0
NumbersExprs = NumbersAll bare_expr nodes_of_expr

abbrev pub nodes_of_optional_expr : Option Expr → List Node
nodes_of_optional_expr expr = joined (of_optional_expr before_parts expr)

abbrev pub NumbersOptionalExpr : ℕ → Option Expr → Option Expr → ℕ → Type 0
NumbersOptionalExpr = Numbers (bare_optional bare_expr) nodes_of_optional_expr

abbrev pub nodes_of_comparison : Comparison → List Node
nodes_of_comparison = of_comparison before_parts

abbrev pub NumbersComparison : ℕ → Comparison → Comparison → ℕ → Type 0
NumbersComparison = Numbers bare_comparison nodes_of_comparison

abbrev pub NumbersComparisons : ℕ → List Comparison → List Comparison → ℕ → Type 0
NumbersComparisons = NumbersAll bare_comparison nodes_of_comparison

-- ---- types

abbrev pub NumbersAnnotation : ℕ → Annotation → Annotation → ℕ → Type 0
NumbersAnnotation = Numbers bare_annotation nodes_of_annotation

abbrev pub NumbersAnnotations : ℕ → List Annotation → List Annotation → ℕ → Type 0
NumbersAnnotations = NumbersAll bare_annotation nodes_of_annotation

abbrev pub nodes_of_optional_annotation : Option Annotation → List Node
nodes_of_optional_annotation annotation = joined (of_optional_annotation before_parts annotation)

abbrev pub NumbersOptionalAnnotation : ℕ → Option Annotation → Option Annotation → ℕ → Type 0
NumbersOptionalAnnotation = Numbers (bare_optional bare_annotation) nodes_of_optional_annotation

-- ---- targets, print and pipelines

abbrev pub NumbersTarget : ℕ → Target → Target → ℕ → Type 0
NumbersTarget = Numbers bare_target nodes_of_target

abbrev pub NumbersTargetList : ℕ → List Target → List Target → ℕ → Type 0
NumbersTargetList = NumbersAll bare_target nodes_of_target

abbrev pub NumbersTargets : ℕ → Targets → Targets → ℕ → Type 0
NumbersTargets = Numbers bare_targets nodes_of_targets

abbrev pub nodes_of_print_options : PrintOptions → List Node
nodes_of_print_options options = joined (of_print_options before_parts options)

abbrev pub NumbersPrintOptions : ℕ → PrintOptions → PrintOptions → ℕ → Type 0
NumbersPrintOptions = Numbers bare_print_options nodes_of_print_options

abbrev pub NumbersPrinted : ℕ → Printed → Printed → ℕ → Type 0
NumbersPrinted = Numbers bare_printed nodes_of_printed

abbrev pub nodes_of_stage_form : StageForm → List Node
nodes_of_stage_form form = joined (of_stage_form before_parts form)

abbrev pub NumbersStageForm : ℕ → StageForm → StageForm → ℕ → Type 0
NumbersStageForm = Numbers bare_stage_form nodes_of_stage_form

abbrev pub NumbersStage : ℕ → Stage → Stage → ℕ → Type 0
NumbersStage = Numbers bare_stage nodes_of_stage

abbrev pub NumbersStages : ℕ → List Stage → List Stage → ℕ → Type 0
NumbersStages = NumbersAll bare_stage nodes_of_stage

-- ---- statements

abbrev pub NumbersStmt : ℕ → Stmt → Stmt → ℕ → Type 0
NumbersStmt = Numbers bare_stmt nodes_of_stmt

abbrev pub NumbersStmts : ℕ → List Stmt → List Stmt → ℕ → Type 0
NumbersStmts = NumbersAll bare_stmt nodes_of_stmt

abbrev pub NumbersArm : ℕ → Arm → Arm → ℕ → Type 0
NumbersArm = Numbers bare_arm nodes_of_arm

abbrev pub NumbersArms : ℕ → List Arm → List Arm → ℕ → Type 0
NumbersArms = NumbersAll bare_arm nodes_of_arm

abbrev pub NumbersFor : ℕ → For → For → ℕ → Type 0
NumbersFor = Numbers bare_for nodes_of_for

-- ---- functions, classes and sources

abbrev pub NumbersParam : ℕ → Param → Param → ℕ → Type 0
NumbersParam = Numbers bare_param nodes_of_param

abbrev pub NumbersParams : ℕ → List Param → List Param → ℕ → Type 0
NumbersParams = NumbersAll bare_param nodes_of_param

abbrev pub NumbersFunction : ℕ → Function → Function → ℕ → Type 0
NumbersFunction = Numbers bare_function nodes_of_function

abbrev pub NumbersMember : ℕ → Member → Member → ℕ → Type 0
NumbersMember = Numbers bare_member nodes_of_member

abbrev pub NumbersMembers : ℕ → List Member → List Member → ℕ → Type 0
NumbersMembers = NumbersAll bare_member nodes_of_member

abbrev pub NumbersClass : ℕ → Class → Class → ℕ → Type 0
NumbersClass = Numbers bare_class nodes_of_class

abbrev pub NumbersItem : ℕ → Item → Item → ℕ → Type 0
NumbersItem = Numbers bare_item nodes_of_item

abbrev pub NumbersItems : ℕ → List Item → List Item → ℕ → Type 0
NumbersItems = NumbersAll bare_item nodes_of_item
