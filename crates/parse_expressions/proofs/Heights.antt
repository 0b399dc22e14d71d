-- The height of each form of expression by those of its parts: it is within a limit exactly where each part is one lower.
use Rattle.std.proofs.Common.{◌≡◌, ℕ, ℤ, ◌+◌, max, List, [], ◌∷◌, ◌++◌, map, sym, ◌∙◌, ap, Option, Some, None, arith}
use Rattle.source_trees.specs.declared.node.Node.{Node}
use Rattle.source_trees.specs.declared.node.Name.{Name}
use Rattle.source_trees.specs.declared.expression.Commas.{Commas}
use Rattle.source_trees.specs.declared.expression.Comparison.{Comparison}
use Rattle.source_trees.specs.declared.expression.Expr.{Expr, Expr-F}
use Rattle.source_trees.specs.declared.expression.Expr.TheFolds.{fold-roll-Expr, fold_out-Comparison}
use Rattle.source_trees.specs.declared.expression.Expr.TheVariants as e
use Rattle.source_trees.specs.declared.operator.BinaryOp.{BinaryOp}
use Rattle.source_trees.specs.declared.operator.UnaryOp.{UnaryOp}
use Rattle.source_trees.specs.declared.statement.LoopNames.{LoopNames}
use Rattle.source_trees.specs.Heights.{highest, over_parts, height_of_expr}
use Rattle.parse_expressions.specs.Reading.{heights}
use Rattle.source_trees.specs.Parts.{of_loop_names, of_expr, of_comparison, expr_step, comparison_step}

pub height-Name : (n : Node) (s : List ℕ) → height_of_expr (e.Name n s) ≡ 1
unfolding of_expr
height-Name n s = ap height_of_expr (sym (e.rolls-Name n s)) ∙ fold-roll-Expr ℕ ℕ (expr_step over_parts) (comparison_step over_parts) (Expr-F.Name n s)

pub height-Number : (n : Node) (s : ℤ) → height_of_expr (e.Number n s) ≡ 1
unfolding of_expr
height-Number n s = ap height_of_expr (sym (e.rolls-Number n s)) ∙ fold-roll-Expr ℕ ℕ (expr_step over_parts) (comparison_step over_parts) (Expr-F.Number n s)

pub height-Text : (n : Node) (s : List ℕ) → height_of_expr (e.Text n s) ≡ 1
unfolding of_expr
height-Text n s = ap height_of_expr (sym (e.rolls-Text n s)) ∙ fold-roll-Expr ℕ ℕ (expr_step over_parts) (comparison_step over_parts) (Expr-F.Text n s)

pub height-True : (n : Node) → height_of_expr (e.True n) ≡ 1
unfolding of_expr
height-True n = ap height_of_expr (sym (e.rolls-True n)) ∙ fold-roll-Expr ℕ ℕ (expr_step over_parts) (comparison_step over_parts) (Expr-F.True n)

pub height-False : (n : Node) → height_of_expr (e.False n) ≡ 1
unfolding of_expr
height-False n = ap height_of_expr (sym (e.rolls-False n)) ∙ fold-roll-Expr ℕ ℕ (expr_step over_parts) (comparison_step over_parts) (Expr-F.False n)

pub height-None : (n : Node) → height_of_expr (e.None n) ≡ 1
unfolding of_expr
height-None n = ap height_of_expr (sym (e.rolls-None n)) ∙ fold-roll-Expr ℕ ℕ (expr_step over_parts) (comparison_step over_parts) (Expr-F.None n)

pub height-Bracketed : (n : Node) (x : Expr) → height_of_expr (e.Bracketed n x) ≡ max (height_of_expr x) 0 + 1
unfolding of_expr
height-Bracketed n x = ap height_of_expr (sym (e.rolls-Bracketed n x)) ∙ fold-roll-Expr ℕ ℕ (expr_step over_parts) (comparison_step over_parts) (Expr-F.Bracketed n x)

pub height-Tuple : (n : Node) (c : Commas) (xs : List Expr) → height_of_expr (e.Tuple n c xs) ≡ highest (map height_of_expr xs) + 1
unfolding of_expr
height-Tuple n c xs = ap height_of_expr (sym (e.rolls-Tuple n c xs)) ∙ fold-roll-Expr ℕ ℕ (expr_step over_parts) (comparison_step over_parts) (Expr-F.Tuple n c xs)

pub height-List : (n : Node) (xs : List Expr) → height_of_expr (e.List n xs) ≡ highest (map height_of_expr xs) + 1
unfolding of_expr
height-List n xs = ap height_of_expr (sym (e.rolls-List n xs)) ∙ fold-roll-Expr ℕ ℕ (expr_step over_parts) (comparison_step over_parts) (Expr-F.List n xs)

pub height-Conditional : (n : Node) (x y z : Expr) → height_of_expr (e.Conditional n x y z) ≡ max (height_of_expr x) (max (height_of_expr y) (max (height_of_expr z) 0)) + 1
unfolding of_expr
height-Conditional n x y z = ap height_of_expr (sym (e.rolls-Conditional n x y z)) ∙ fold-roll-Expr ℕ ℕ (expr_step over_parts) (comparison_step over_parts) (Expr-F.Conditional n x y z)

pub height-Or : (n : Node) (xs : List Expr) → height_of_expr (e.Or n xs) ≡ highest (map height_of_expr xs) + 1
unfolding of_expr
height-Or n xs = ap height_of_expr (sym (e.rolls-Or n xs)) ∙ fold-roll-Expr ℕ ℕ (expr_step over_parts) (comparison_step over_parts) (Expr-F.Or n xs)

pub height-And : (n : Node) (xs : List Expr) → height_of_expr (e.And n xs) ≡ highest (map height_of_expr xs) + 1
unfolding of_expr
height-And n xs = ap height_of_expr (sym (e.rolls-And n xs)) ∙ fold-roll-Expr ℕ ℕ (expr_step over_parts) (comparison_step over_parts) (Expr-F.And n xs)

pub height-Not : (n : Node) (x : Expr) → height_of_expr (e.Not n x) ≡ max (height_of_expr x) 0 + 1
unfolding of_expr
height-Not n x = ap height_of_expr (sym (e.rolls-Not n x)) ∙ fold-roll-Expr ℕ ℕ (expr_step over_parts) (comparison_step over_parts) (Expr-F.Not n x)

pub height-Unary : (n : Node) (o : UnaryOp) (x : Expr) → height_of_expr (e.Unary n o x) ≡ max (height_of_expr x) 0 + 1
unfolding of_expr
height-Unary n o x = ap height_of_expr (sym (e.rolls-Unary n o x)) ∙ fold-roll-Expr ℕ ℕ (expr_step over_parts) (comparison_step over_parts) (Expr-F.Unary n o x)

pub height-Binary : (n : Node) (o : BinaryOp) (x y : Expr) → height_of_expr (e.Binary n o x y) ≡ max (height_of_expr x) (max (height_of_expr y) 0) + 1
unfolding of_expr
height-Binary n o x y = ap height_of_expr (sym (e.rolls-Binary n o x y)) ∙ fold-roll-Expr ℕ ℕ (expr_step over_parts) (comparison_step over_parts) (Expr-F.Binary n o x y)

pub height-Call : (n : Node) (f : Name) (xs : List Expr) → height_of_expr (e.Call n f xs) ≡ max 1 (highest (map height_of_expr xs)) + 1
unfolding of_expr
height-Call n f xs = ap height_of_expr (sym (e.rolls-Call n f xs)) ∙ fold-roll-Expr ℕ ℕ (expr_step over_parts) (comparison_step over_parts) (Expr-F.Call n f xs)

pub height-MethodCall : (n m : Node) (x : Expr) (s : List ℕ) (xs : List Expr) → height_of_expr (e.MethodCall n m x s xs) ≡ max (max (height_of_expr x) 0 + 1) (highest (map height_of_expr xs)) + 1
unfolding of_expr
height-MethodCall n m x s xs = ap height_of_expr (sym (e.rolls-MethodCall n m x s xs)) ∙ fold-roll-Expr ℕ ℕ (expr_step over_parts) (comparison_step over_parts) (Expr-F.MethodCall n m x s xs)

pub height-Index : (n : Node) (x y : Expr) → height_of_expr (e.Index n x y) ≡ max (height_of_expr x) (max (height_of_expr y) 0) + 1
unfolding of_expr
height-Index n x y = ap height_of_expr (sym (e.rolls-Index n x y)) ∙ fold-roll-Expr ℕ ℕ (expr_step over_parts) (comparison_step over_parts) (Expr-F.Index n x y)

pub height-Field : (n : Node) (x : Expr) (s : List ℕ) → height_of_expr (e.Field n x s) ≡ max (height_of_expr x) 0 + 1
unfolding of_expr
height-Field n x s = ap height_of_expr (sym (e.rolls-Field n x s)) ∙ fold-roll-Expr ℕ ℕ (expr_step over_parts) (comparison_step over_parts) (Expr-F.Field n x s)

pub height-Slice : (n : Node) (x : Expr) (y z : Option Expr) → height_of_expr (e.Slice n x y z) ≡ highest (height_of_expr x ∷ heights y ++ heights z) + 1
unfolding of_expr
height-Slice n x None None = ap height_of_expr (sym (e.rolls-Slice n x None None)) ∙ fold-roll-Expr ℕ ℕ (expr_step over_parts) (comparison_step over_parts) (Expr-F.Slice n x None None)
height-Slice n x None (Some z) = ap height_of_expr (sym (e.rolls-Slice n x None (Some z))) ∙ fold-roll-Expr ℕ ℕ (expr_step over_parts) (comparison_step over_parts) (Expr-F.Slice n x None (Some z))
height-Slice n x (Some y) None = ap height_of_expr (sym (e.rolls-Slice n x (Some y) None)) ∙ fold-roll-Expr ℕ ℕ (expr_step over_parts) (comparison_step over_parts) (Expr-F.Slice n x (Some y) None)
height-Slice n x (Some y) (Some z) = ap height_of_expr (sym (e.rolls-Slice n x (Some y) (Some z))) ∙ fold-roll-Expr ℕ ℕ (expr_step over_parts) (comparison_step over_parts) (Expr-F.Slice n x (Some y) (Some z))

pub height-Comprehension : (n : Node) (x : Expr) (ns : LoopNames) (y : Expr) (z : Option Expr)
    → height_of_expr (e.Comprehension n x ns y z) ≡ highest (height_of_expr x ∷ (of_loop_names over_parts ns ++ height_of_expr y ∷ heights z)) + 1
unfolding of_expr
height-Comprehension n x ns y None = ap height_of_expr (sym (e.rolls-Comprehension n x ns y None)) ∙ fold-roll-Expr ℕ ℕ (expr_step over_parts) (comparison_step over_parts) (Expr-F.Comprehension n x ns y None)
height-Comprehension n x ns y (Some z) = ap height_of_expr (sym (e.rolls-Comprehension n x ns y (Some z))) ∙ fold-roll-Expr ℕ ℕ (expr_step over_parts) (comparison_step over_parts) (Expr-F.Comprehension n x ns y (Some z))

pub height-Compare : (n : Node) (x : Expr) (cs : List Comparison) → height_of_expr (e.Compare n x cs) ≡ highest (height_of_expr x ∷ map (of_comparison over_parts) cs) + 1
unfolding of_expr of_comparison
height-Compare n x cs = ap height_of_expr (sym (e.rolls-Compare n x cs)) ∙ fold-roll-Expr ℕ ℕ (expr_step over_parts) (comparison_step over_parts) (Expr-F.Compare n x cs)

pub height_of_comparison : (c : Comparison) → of_comparison over_parts c ≡ height_of_expr c.right
unfolding of_expr of_comparison
height_of_comparison c = fold_out-Comparison ℕ ℕ (expr_step over_parts) (comparison_step over_parts) c

pub ruleset known_heights = (
  height-Name,
  height-Number,
  height-Text,
  height-True,
  height-False,
  height-None,
  height-Bracketed,
  height-Tuple,
  height-List,
  height-Conditional,
  height-Or,
  height-And,
  height-Not,
  height-Unary,
  height-Binary,
  height-Call,
  height-MethodCall,
  height-Index,
  height-Field,
)

pub ruleset compare_known = (height-Compare)

-- ---- the height of a slice by those of its parts

joined_high : (xs ys : List ℕ) → highest (xs ++ ys) ≡ max (highest xs) (highest ys)
joined_high [] ys = omega arith
joined_high (x ∷ xs) ys = let k = joined_high xs ys in omega arith

pub slice_height : (n : Node) (x : Expr) (y z : Option Expr) → height_of_expr (e.Slice n x y z) ≡ max (height_of_expr x) (max (highest (heights y)) (highest (heights z))) + 1
slice_height n x y z = let h = height-Slice n x y z in let k = joined_high (heights y) (heights z) in omega arith
