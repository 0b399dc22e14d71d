-- Which parts an expression or a statement has, by its form.
use Rattle.std.specs.Prelude.{◌≡◌, ◌≢◌, List, Option}
use Rattle.source_trees.specs.declared.node.Node.{Node}
use Rattle.source_trees.specs.declared.node.Name.{Name}
use Rattle.source_trees.specs.declared.operator.BinaryOp.{BinaryOp}
use Rattle.source_trees.specs.declared.statement.LoopNames.{LoopNames}
use Rattle.source_trees.specs.declared.expression.Comparison.{Comparison}
use Rattle.source_trees.specs.declared.expression.Expr.{Expr}
use Rattle.source_trees.specs.declared.expression.Expr.TheVariants as e
use Rattle.source_trees.specs.declared.statement.Arm.{Arm}
use Rattle.source_trees.specs.declared.statement.Stmt.{Stmt}
use Rattle.source_trees.specs.declared.statement.Stmt.TheVariants as s
use Rattle.meaning_rules.specs.State.{Spelling}

abbrev pub IsConditional : Expr → Expr → Expr → Expr → Type 0
IsConditional whole first by other = (n : Node) × (whole ≡ e.Conditional n first by other)

abbrev pub IsBinary : Expr → BinaryOp → Expr → Expr → Type 0
IsBinary whole by left right = (n : Node) × (whole ≡ e.Binary n by left right)

abbrev pub IsIndex : Expr → Expr → Expr → Type 0
IsIndex whole container index = (n : Node) × (whole ≡ e.Index n container index)

abbrev pub IsCompare : Expr → Expr → List Comparison → Type 0
IsCompare whole first others = (n : Node) × (whole ≡ e.Compare n first others)

abbrev pub IsMethodCall : Expr → Expr → Spelling → List Expr → Type 0
IsMethodCall whole object name parts = (n : Node) × (m : Node) × (whole ≡ e.MethodCall n m object name parts)

abbrev pub IsSlice : Expr → Expr → Option Expr → Option Expr → Type 0
IsSlice whole part from to = (n : Node) × (whole ≡ e.Slice n part from to)

abbrev pub Comprehends : Expr → LoopNames → Expr → Option Expr → Expr → Type 0
Comprehends whole names goes kept item = (n : Node) × (whole ≡ e.Comprehension n item names goes kept)

-- what a turn of a comprehension evaluates
abbrev pub Gathers : Expr → Option Expr → Expr → Type 0
Gathers whole kept item = (n : Node) × (names : LoopNames) × (goes : Expr) × (whole ≡ e.Comprehension n item names goes kept)

abbrev pub IsNoCall : Expr → Type 0
IsNoCall whole = ((n : Node) (name : Name) (parts : List Expr) → whole ≢ e.Call n name parts) × ((n m : Node) (object : Expr) (name : Spelling) (parts : List Expr) → whole ≢ e.MethodCall n m object name parts)

abbrev pub IsIf : Stmt → List Arm → List Stmt → Type 0
IsIf whole arms otherwise = (n : Node) × (whole ≡ s.If n arms otherwise)
