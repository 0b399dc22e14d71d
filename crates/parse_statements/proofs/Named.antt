-- The name `print` as a tree: its height, and what begins with it.
use Rattle.std.proofs.Common.{◌≡◌, ℕ, ◌+◌, Bool, nat_le, List, ap}
use Rattle.source_trees.specs.declared.expression.Expr.TheVariants as tree
use Rattle.source_trees.specs.declared.node.Node.{Node}
use Rattle.source_trees.specs.Heights.{height_of_expr}
use Rattle.parse_expressions.proofs.Heights.{height-Name}

pub name_fits : (m : Node) (s : List ℕ) (n : ℕ) → nat_le (height_of_expr (tree.Name m s) + 2) n ≡ nat_le 3 n
name_fits m s n = ap (λ h. nat_le (h + 2) n) (height-Name m s)
