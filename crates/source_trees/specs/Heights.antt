-- The height of a tree: a node without parts has height 1, any other is one higher than its highest part (Knuth, The Art of Computer Programming, 2.3).
use Rattle.std.specs.Prelude.{ℕ, ◌+◌, min, max, List, [], ◌∷◌}
use Rattle.source_trees.specs.declared.node.Node.{Node}
use Rattle.source_trees.specs.declared.expression.Expr.{Expr}
use Rattle.source_trees.specs.declared.statement.Target.{Target}
use Rattle.source_trees.specs.declared.statement.Targets.{Targets}
use Rattle.source_trees.specs.declared.statement.Stmt.{Stmt}
use Rattle.source_trees.specs.declared.statement.Arm.{Arm}
use Rattle.source_trees.specs.declared.statement.For.{For}
use Rattle.source_trees.specs.declared.pipeline.Printed.{Printed}
use Rattle.source_trees.specs.declared.pipeline.Stage.{Stage}
use Rattle.source_trees.specs.declared.item.Annotation.{Annotation}
use Rattle.source_trees.specs.declared.item.Param.{Param}
use Rattle.source_trees.specs.declared.item.Function.{Function}
use Rattle.source_trees.specs.declared.item.Member.{Member}
use Rattle.source_trees.specs.declared.item.Class.{Class}
use Rattle.source_trees.specs.declared.item.Item.{Item}
use Rattle.source_trees.specs.declared.item.Module.{Module}
use Rattle.source_trees.specs.Parts.{of_expr, of_target, of_targets, of_stmt, of_arm, of_for, of_printed, of_stage, of_annotation, of_param, of_function, of_member, of_class, of_item, of_module}

-- the greatest of these heights, 0 where there are none
abbrev pub highest : List ℕ → ℕ
highest [] = 0
highest (height ∷ more) = max height (highest more)

-- the height of a node by those of its parts
abbrev pub over_parts : Node → List ℕ → ℕ
over_parts n parts = highest parts + 1

abbrev pub height_of_expr : Expr → ℕ
height_of_expr = of_expr over_parts

abbrev pub height_of_annotation : Annotation → ℕ
height_of_annotation = of_annotation over_parts

abbrev pub height_of_target : Target → ℕ
height_of_target = of_target over_parts

abbrev pub height_of_targets : Targets → ℕ
height_of_targets = of_targets over_parts

-- of what stands in the brackets of `print(..)`, which is no node by itself
abbrev pub height_of_printed : Printed → ℕ
height_of_printed printed = highest (of_printed over_parts printed)

abbrev pub height_of_stage : Stage → ℕ
height_of_stage = of_stage over_parts

abbrev pub height_of_stmt : Stmt → ℕ
height_of_stmt = of_stmt over_parts

-- of a condition and the statements under it, which are no node by themselves
abbrev pub height_of_arm : Arm → ℕ
height_of_arm arm = highest (of_arm over_parts arm)

abbrev pub height_of_for : For → ℕ
height_of_for = of_for over_parts

abbrev pub height_of_param : Param → ℕ
height_of_param = of_param over_parts

abbrev pub height_of_function : Function → ℕ
height_of_function = of_function over_parts

abbrev pub height_of_member : Member → ℕ
height_of_member = of_member over_parts

abbrev pub height_of_class : Class → ℕ
height_of_class = of_class over_parts

abbrev pub height_of_item : Item → ℕ
height_of_item = of_item over_parts

-- of a source: that of its highest item
abbrev pub height_of : Module → ℕ
height_of m = highest (of_module over_parts m)

-- a height as 32 bits hold it: the greatest number of them stands for each height from it on
abbrev pub capped : ℕ → ℕ
capped height = min height 0xffff_ffff
