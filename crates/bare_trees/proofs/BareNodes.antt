-- The node that a bare expression begins with is that of the expression, bare.
use Rattle.std.proofs.Common.{◌≡◌, Some, None, refl, ap, sym, ◌∙◌}
use Rattle.source_trees.specs.declared.node.Node.{Node}
use Rattle.source_trees.specs.declared.expression.Expr.{Expr, Expr-F, out-Expr}
use Rattle.source_trees.specs.declared.expression.Expr.TheViews.{out-roll-Expr}
use Rattle.source_trees.specs.declared.expression.Expr.TheFolds.{map-Expr, fold_out-Expr}
use Rattle.source_trees.specs.declared.expression.Expr.TheVariants as expr
use Rattle.source_trees.specs.declared.expression.Comparison.{Comparison}
use Rattle.source_trees.specs.Bare.{bare, bare_name, bare_loop_names, bare_expr, expr_step, comparison_step}
use Rattle.grammar_rules.specs.Expressions.{node_of}

abbrev node_in : {A B : Type 0} → Expr-F A B → Node
node_in (Expr-F.Name n s) = n
node_in (Expr-F.Number n s) = n
node_in (Expr-F.Text n s) = n
node_in (Expr-F.True n) = n
node_in (Expr-F.False n) = n
node_in (Expr-F.None n) = n
node_in (Expr-F.Bracketed n x) = n
node_in (Expr-F.Tuple n c xs) = n
node_in (Expr-F.List n xs) = n
node_in (Expr-F.Comprehension n x ns y z) = n
node_in (Expr-F.Conditional n x y z) = n
node_in (Expr-F.Or n xs) = n
node_in (Expr-F.And n xs) = n
node_in (Expr-F.Not n x) = n
node_in (Expr-F.Compare n x cs) = n
node_in (Expr-F.Unary n o x) = n
node_in (Expr-F.Binary n o x y) = n
node_in (Expr-F.Call n f xs) = n
node_in (Expr-F.MethodCall n m x s xs) = n
node_in (Expr-F.Index n x y) = n
node_in (Expr-F.Slice n x y z) = n
node_in (Expr-F.Field n x s) = n

-- what a form that is bare begins with
step_node : (q : Expr-F Expr Comparison) → node_of (expr_step q) ≡ bare (node_in q)
unfolding node_of
step_node (Expr-F.Name n s) = ap node_of (sym (expr.rolls-Name (bare n) s)) ∙ ap node_in (out-roll-Expr (Expr-F.Name (bare n) s))
step_node (Expr-F.Number n s) = ap node_of (sym (expr.rolls-Number (bare n) s)) ∙ ap node_in (out-roll-Expr (Expr-F.Number (bare n) s))
step_node (Expr-F.Text n s) = ap node_of (sym (expr.rolls-Text (bare n) s)) ∙ ap node_in (out-roll-Expr (Expr-F.Text (bare n) s))
step_node (Expr-F.True n) = ap node_of (sym (expr.rolls-True (bare n))) ∙ ap node_in (out-roll-Expr (Expr-F.True (bare n)))
step_node (Expr-F.False n) = ap node_of (sym (expr.rolls-False (bare n))) ∙ ap node_in (out-roll-Expr (Expr-F.False (bare n)))
step_node (Expr-F.None n) = ap node_of (sym (expr.rolls-None (bare n))) ∙ ap node_in (out-roll-Expr (Expr-F.None (bare n)))
step_node (Expr-F.Bracketed n x) = ap node_of (sym (expr.rolls-Bracketed (bare n) x)) ∙ ap node_in (out-roll-Expr (Expr-F.Bracketed (bare n) x))
step_node (Expr-F.Tuple n c xs) = ap node_of (sym (expr.rolls-Tuple (bare n) c xs)) ∙ ap node_in (out-roll-Expr (Expr-F.Tuple (bare n) c xs))
step_node (Expr-F.List n xs) = ap node_of (sym (expr.rolls-List (bare n) xs)) ∙ ap node_in (out-roll-Expr (Expr-F.List (bare n) xs))
step_node (Expr-F.Comprehension n x ns y None) = ap node_of (sym (expr.rolls-Comprehension (bare n) x (bare_loop_names ns) y None)) ∙ ap node_in (out-roll-Expr (Expr-F.Comprehension (bare n) x (bare_loop_names ns) y None))
step_node (Expr-F.Comprehension n x ns y (Some z)) = ap node_of (sym (expr.rolls-Comprehension (bare n) x (bare_loop_names ns) y (Some z))) ∙ ap node_in (out-roll-Expr (Expr-F.Comprehension (bare n) x (bare_loop_names ns) y (Some z)))
step_node (Expr-F.Conditional n x y z) = ap node_of (sym (expr.rolls-Conditional (bare n) x y z)) ∙ ap node_in (out-roll-Expr (Expr-F.Conditional (bare n) x y z))
step_node (Expr-F.Or n xs) = ap node_of (sym (expr.rolls-Or (bare n) xs)) ∙ ap node_in (out-roll-Expr (Expr-F.Or (bare n) xs))
step_node (Expr-F.And n xs) = ap node_of (sym (expr.rolls-And (bare n) xs)) ∙ ap node_in (out-roll-Expr (Expr-F.And (bare n) xs))
step_node (Expr-F.Not n x) = ap node_of (sym (expr.rolls-Not (bare n) x)) ∙ ap node_in (out-roll-Expr (Expr-F.Not (bare n) x))
step_node (Expr-F.Compare n x cs) = ap node_of (sym (expr.rolls-Compare (bare n) x cs)) ∙ ap node_in (out-roll-Expr (Expr-F.Compare (bare n) x cs))
step_node (Expr-F.Unary n o x) = ap node_of (sym (expr.rolls-Unary (bare n) o x)) ∙ ap node_in (out-roll-Expr (Expr-F.Unary (bare n) o x))
step_node (Expr-F.Binary n o x y) = ap node_of (sym (expr.rolls-Binary (bare n) o x y)) ∙ ap node_in (out-roll-Expr (Expr-F.Binary (bare n) o x y))
step_node (Expr-F.Call n f xs) = ap node_of (sym (expr.rolls-Call (bare n) (bare_name f) xs)) ∙ ap node_in (out-roll-Expr (Expr-F.Call (bare n) (bare_name f) xs))
step_node (Expr-F.MethodCall n m x s xs) = ap node_of (sym (expr.rolls-MethodCall (bare n) (bare m) x s xs)) ∙ ap node_in (out-roll-Expr (Expr-F.MethodCall (bare n) (bare m) x s xs))
step_node (Expr-F.Index n x y) = ap node_of (sym (expr.rolls-Index (bare n) x y)) ∙ ap node_in (out-roll-Expr (Expr-F.Index (bare n) x y))
step_node (Expr-F.Slice n x None None) = ap node_of (sym (expr.rolls-Slice (bare n) x None None)) ∙ ap node_in (out-roll-Expr (Expr-F.Slice (bare n) x None None))
step_node (Expr-F.Slice n x (Some y) None) = ap node_of (sym (expr.rolls-Slice (bare n) x (Some y) None)) ∙ ap node_in (out-roll-Expr (Expr-F.Slice (bare n) x (Some y) None))
step_node (Expr-F.Slice n x None (Some z)) = ap node_of (sym (expr.rolls-Slice (bare n) x None (Some z))) ∙ ap node_in (out-roll-Expr (Expr-F.Slice (bare n) x None (Some z)))
step_node (Expr-F.Slice n x (Some y) (Some z)) = ap node_of (sym (expr.rolls-Slice (bare n) x (Some y) (Some z))) ∙ ap node_in (out-roll-Expr (Expr-F.Slice (bare n) x (Some y) (Some z)))
step_node (Expr-F.Field n x s) = ap node_of (sym (expr.rolls-Field (bare n) x s)) ∙ ap node_in (out-roll-Expr (Expr-F.Field (bare n) x s))

map_node : {A B C D : Type 0} (h : A → C) (k : B → D) (q : Expr-F A B) → node_in (map-Expr A B C D h k q) ≡ node_in q
map_node h k (Expr-F.Name n s) = refl
map_node h k (Expr-F.Number n s) = refl
map_node h k (Expr-F.Text n s) = refl
map_node h k (Expr-F.True n) = refl
map_node h k (Expr-F.False n) = refl
map_node h k (Expr-F.None n) = refl
map_node h k (Expr-F.Bracketed n x) = refl
map_node h k (Expr-F.Tuple n c xs) = refl
map_node h k (Expr-F.List n xs) = refl
map_node h k (Expr-F.Comprehension n x ns y None) = refl
map_node h k (Expr-F.Comprehension n x ns y (Some z)) = refl
map_node h k (Expr-F.Conditional n x y z) = refl
map_node h k (Expr-F.Or n xs) = refl
map_node h k (Expr-F.And n xs) = refl
map_node h k (Expr-F.Not n x) = refl
map_node h k (Expr-F.Compare n x cs) = refl
map_node h k (Expr-F.Unary n o x) = refl
map_node h k (Expr-F.Binary n o x y) = refl
map_node h k (Expr-F.Call n f xs) = refl
map_node h k (Expr-F.MethodCall n m x s xs) = refl
map_node h k (Expr-F.Index n x y) = refl
map_node h k (Expr-F.Slice n x None None) = refl
map_node h k (Expr-F.Slice n x (Some y) None) = refl
map_node h k (Expr-F.Slice n x None (Some z)) = refl
map_node h k (Expr-F.Slice n x (Some y) (Some z)) = refl
map_node h k (Expr-F.Field n x s) = refl

pub node_bare : (x : Expr) → node_of (bare_expr x) ≡ bare (node_of x)
unfolding node_of bare_expr
node_bare x = ap node_of (fold_out-Expr Expr Comparison expr_step comparison_step x) ∙ step_node _ ∙ ap bare (map_node _ _ (out-Expr x))
