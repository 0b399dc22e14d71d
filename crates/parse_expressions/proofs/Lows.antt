-- Lists of trees within a limit of height.
use Rattle.std.proofs.Common.{◌≡◌, ℕ, ◌+◌, ◌≤◌, max, nat_le, true, false, List, [], ◌∷◌, ◌++◌, map, sym, subst, Option, Some, None, codes, arith}
use Rattle.std.proofs.lemmas.Bool.{le-leb, leb-true}
use Rattle.source_trees.specs.declared.node.Node.{Node}
use Rattle.source_trees.specs.declared.node.Name.{Name}
use Rattle.source_trees.specs.declared.expression.Expr.TheVariants as e
use Rattle.source_trees.specs.declared.expression.Comparison.{Comparison}
use Rattle.source_trees.specs.declared.expression.Expr.{Expr, Expr-F}
use Rattle.source_trees.specs.declared.expression.Expr.TheFolds.{fold_out-Expr}
use Rattle.source_trees.specs.declared.statement.LoopNames.{LoopNames}
use Rattle.source_trees.specs.declared.statement.LoopNames.TheVariants as names
use Rattle.source_trees.specs.Heights.{highest, over_parts, height_of_expr}
use Rattle.source_trees.specs.Parts.{of_name, of_loop_names, of_expr, of_comparison, expr_step, comparison_step}
use Rattle.parse_laws.proofs.Lists.{FitEach}
use Rattle.parse_expressions.specs.Forms.{Low}
use Rattle.grammar_rules.specs.Words.{node_at}
use Rattle.parse_expressions.proofs.Opens.{x_token, x_tree}
use Rattle.parse_expressions.specs.Reading.{heights}
use Rattle.parse_expressions.proofs.Heights.{height-Comprehension, height-Name, height_of_comparison}

step_positive : (q : Expr-F ℕ ℕ) → 1 ≤ expr_step over_parts q
step_positive (Expr-F.Name n s) = omega arith
step_positive (Expr-F.Number n s) = omega arith
step_positive (Expr-F.Text n s) = omega arith
step_positive (Expr-F.True n) = omega arith
step_positive (Expr-F.False n) = omega arith
step_positive (Expr-F.None n) = omega arith
step_positive (Expr-F.Bracketed n x) = omega arith
step_positive (Expr-F.Tuple n c xs) = omega arith
step_positive (Expr-F.List n xs) = omega arith
step_positive (Expr-F.Comprehension n x ns y z) = omega arith
step_positive (Expr-F.Conditional n x y z) = omega arith
step_positive (Expr-F.Or n xs) = omega arith
step_positive (Expr-F.And n xs) = omega arith
step_positive (Expr-F.Not n x) = omega arith
step_positive (Expr-F.Compare n x cs) = omega arith
step_positive (Expr-F.Unary n o x) = omega arith
step_positive (Expr-F.Binary n o x y) = omega arith
step_positive (Expr-F.Call n f xs) = omega arith
step_positive (Expr-F.MethodCall n m x s xs) = omega arith
step_positive (Expr-F.Index n x y) = omega arith
step_positive (Expr-F.Slice n x y z) = omega arith
step_positive (Expr-F.Field n x s) = omega arith

-- each tree has a height of at least 1
pub positive : (x : Expr) → 1 ≤ height_of_expr x
unfolding of_expr
positive x =
    let P : ℕ → Type 0 = λ z. 1 ≤ z in
    subst P (sym (fold_out-Expr ℕ ℕ (expr_step over_parts) (comparison_step over_parts) x)) (step_positive _)

pub highest_up : (n : ℕ) (xs : List Expr) → FitEach (Low n) xs → highest (map height_of_expr xs) ≤ n
highest_up n [] f = omega arith
highest_up n (x ∷ xs) f = let i = f.0 in let k = highest_up n xs f.1 in omega arith

pub highest_down : (n : ℕ) (xs : List Expr) → highest (map height_of_expr xs) ≤ n → FitEach (Low n) xs
highest_down n [] h = tt
highest_down n (x ∷ xs) h = (omega arith, highest_down n xs (omega arith))

pub highest-append : (xs ys : List ℕ) → highest (xs ++ ys) ≡ max (highest xs) (highest ys)
highest-append [] ys = omega arith
highest-append (x ∷ xs) ys = let k = highest-append xs ys in omega arith

names_high : (ns : List Name) → highest (map (of_name over_parts) ns) ≤ 1
names_high [] = omega arith
names_high (n ∷ ns) = let k = names_high ns in omega arith

pub loop_names_high : (ns : LoopNames) → highest (of_loop_names over_parts ns) ≤ 1
loop_names_high (names.One n) = omega arith
loop_names_high (names.Several ns) = names_high ns

-- an expression that may be absent
abbrev pub LowOption : ℕ → Option Expr → Type 0
LowOption n None = Unit {0}
LowOption n (Some x) = Low n x

pub optional_up : (n : ℕ) (o : Option Expr) → LowOption n o → highest (heights o) ≤ n
optional_up n None f = omega arith
optional_up n (Some x) f = omega arith

pub optional_down : (n : ℕ) (o : Option Expr) → highest (heights o) ≤ n → LowOption n o
optional_down n None h = tt
optional_down n (Some x) h = omega arith

-- comparisons, by their right operands
abbrev pub LowComparison : ℕ → Comparison → Type 0
LowComparison n c = Low n c.right

pub comparisons_up : (n : ℕ) (cs : List Comparison) → FitEach (LowComparison n) cs → highest (map (of_comparison over_parts) cs) ≤ n
comparisons_up n [] f = omega arith
comparisons_up n (c ∷ cs) f = let i = f.0 in let k = comparisons_up n cs f.1 in let e = height_of_comparison c in omega arith

pub comparisons_down : (n : ℕ) (cs : List Comparison) → highest (map (of_comparison over_parts) cs) ≤ n → FitEach (LowComparison n) cs
comparisons_down n [] h = tt
comparisons_down n (c ∷ cs) h = let e = height_of_comparison c in (omega arith, comparisons_down n cs (omega arith))

-- ---- the tests of the parser

pub room_true : (n : ℕ) → nat_le 1 n ≡ true → 1 ≤ n
room_true n h = leb-true 1 n h

pub no_room : (k n : ℕ) → nat_le k n ≡ false → k ≤ n → ⊥
no_room k n h l = let i : nat_le k n ≡ true = le-leb k n l in cc

-- the least tree
pub x_low : (n : ℕ) → 1 ≤ n → Low n x_tree
x_low n h = let k = height-Name (node_at x_token) (codes "x") in omega arith

-- ---- one more part

pub highest_push : (xs : List Expr) (y : Expr) → highest (map height_of_expr (xs ++ y ∷ [])) ≡ max (highest (map height_of_expr xs)) (height_of_expr y)
highest_push [] y = omega arith
highest_push (x ∷ xs) y = let k = highest_push xs y in omega arith

pub comparisons_push : (cs : List Comparison) (d : Comparison) → highest (map (of_comparison over_parts) (cs ++ d ∷ [])) ≡ max (highest (map (of_comparison over_parts) cs)) (height_of_expr d.right)
comparisons_push [] d = let e = height_of_comparison d in omega arith
comparisons_push (c ∷ cs) d = let k = comparisons_push cs d in omega arith

pub highest_joined : (xs ys : List Expr) → highest (map height_of_expr (xs ++ ys)) ≡ max (highest (map height_of_expr xs)) (highest (map height_of_expr ys))
highest_joined [] ys = omega arith
highest_joined (x ∷ xs) ys = let k = highest_joined xs ys in omega arith

-- the names of a comprehension are no higher than its item
pub comprehension_height : (n : Node) (x : Expr) (ns : LoopNames) (y : Expr) (z : Option Expr)
    → height_of_expr (e.Comprehension n x ns y z) ≡ max (max (height_of_expr x) (height_of_expr y)) (highest (heights z)) + 1
comprehension_height n x ns y z =
    let h = height-Comprehension n x ns y z in
    let k = highest-append (of_loop_names over_parts ns) (height_of_expr y ∷ heights z) in
    let l = loop_names_high ns in
    let m = positive x in
    omega arith
