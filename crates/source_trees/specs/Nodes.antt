-- The nodes of a tree in preorder: a node stands before its parts, and parts stand from left to right as they are written (Knuth, The Art of Computer Programming, 2.3.2). A source's nodes have the numbers 0, 1, 2 and so on in this order.
use Rattle.std.specs.Prelude.{◌≡◌, ℕ, zero, suc, List, [], ◌∷◌, map, length}
use Rattle.std.specs.List.{flat_map}
use Rattle.source_trees.specs.declared.node.Node.{Node}
use Rattle.source_trees.specs.declared.expression.Expr.{Expr}
use Rattle.source_trees.specs.declared.statement.LoopNames.{LoopNames}
use Rattle.source_trees.specs.declared.statement.Target.{Target}
use Rattle.source_trees.specs.declared.statement.Targets.{Targets}
use Rattle.source_trees.specs.declared.statement.Stmt.{Stmt}
use Rattle.source_trees.specs.declared.statement.Arm.{Arm}
use Rattle.source_trees.specs.declared.statement.For.{For}
use Rattle.source_trees.specs.declared.pipeline.Printed.{Printed}
use Rattle.source_trees.specs.declared.pipeline.Stage.{Stage}
use Rattle.source_trees.specs.declared.item.Annotation.{Annotation}
use Rattle.source_trees.specs.declared.item.Param.{Param}
use Rattle.source_trees.specs.declared.item.Function.{Function}
use Rattle.source_trees.specs.declared.item.Member.{Member}
use Rattle.source_trees.specs.declared.item.Class.{Class}
use Rattle.source_trees.specs.declared.item.Item.{Item}
use Rattle.source_trees.specs.declared.item.Module.{Module}
use Rattle.source_trees.specs.Parts.{of_expr, of_loop_names, of_target, of_targets, of_stmt, of_arm, of_for, of_printed, of_stage, of_annotation, of_param, of_function, of_member, of_class, of_item, of_module}

-- the lists of nodes, joined in order
abbrev pub joined : List (List Node) → List Node
joined = flat_map (λ nodes. nodes)

-- a node before its parts
abbrev pub before_parts : Node → List (List Node) → List Node
before_parts n parts = n ∷ joined parts

abbrev pub nodes_of_loop_names : LoopNames → List Node
nodes_of_loop_names names = joined (of_loop_names before_parts names)

abbrev pub nodes_of_expr : Expr → List Node
nodes_of_expr = of_expr before_parts

abbrev pub nodes_of_annotation : Annotation → List Node
nodes_of_annotation = of_annotation before_parts

abbrev pub nodes_of_target : Target → List Node
nodes_of_target = of_target before_parts

abbrev pub nodes_of_targets : Targets → List Node
nodes_of_targets = of_targets before_parts

abbrev pub nodes_of_printed : Printed → List Node
nodes_of_printed printed = joined (of_printed before_parts printed)

abbrev pub nodes_of_stage : Stage → List Node
nodes_of_stage = of_stage before_parts

abbrev pub nodes_of_stmt : Stmt → List Node
nodes_of_stmt = of_stmt before_parts

abbrev pub nodes_of_arm : Arm → List Node
nodes_of_arm arm = joined (of_arm before_parts arm)

abbrev pub nodes_of_for : For → List Node
nodes_of_for = of_for before_parts

abbrev pub nodes_of_param : Param → List Node
nodes_of_param = of_param before_parts

abbrev pub nodes_of_function : Function → List Node
nodes_of_function = of_function before_parts

abbrev pub nodes_of_member : Member → List Node
nodes_of_member = of_member before_parts

abbrev pub nodes_of_class : Class → List Node
nodes_of_class = of_class before_parts

abbrev pub nodes_of_item : Item → List Node
nodes_of_item = of_item before_parts

abbrev pub nodes_of : Module → List Node
nodes_of m = joined (of_module before_parts m)

-- as many numbers, from the first on
abbrev pub numbers_from : ℕ → ℕ → List ℕ
numbers_from first zero = []
numbers_from first (suc more) = first ∷ numbers_from (suc first) more

-- the numbers of these nodes are the first, the next one and so on
abbrev pub AreNumberedFrom : ℕ → List Node → Type 0
AreNumberedFrom first nodes = map (λ n. n.id.0) nodes ≡ numbers_from first (length nodes)

abbrev pub IsNumbered : Module → Type 0
IsNumbered m = AreNumberedFrom 0 (nodes_of m)
