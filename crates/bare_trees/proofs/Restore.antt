-- A tree from its bare tree and the numbers of its nodes in preorder: no other tree has both.
use Rattle.std.proofs.Common.{◌≡◌, ℕ, ℤ, List, [], ◌∷◌, ◌++◌, map, Option, Some, None, refl, sym, ◌∙◌, ap, subst, append_assoc}
use Rattle.std.specs.Option.{option_map}
use Rattle.std.proofs.lemmas.List.{append-nil}
use Rattle.source_trees.specs.declared.operator.UnaryOp.{UnaryOp}
use Rattle.source_trees.specs.declared.operator.BinaryOp.{BinaryOp}
use Rattle.source_trees.specs.declared.node.Node.{Node}
use Rattle.source_trees.specs.declared.node.Name.{Name}
use Rattle.source_trees.specs.declared.expression.Commas.{Commas}
use Rattle.source_trees.specs.declared.expression.Expr.{Expr, Expr-F, roll-Expr, ind-Expr}
use Rattle.source_trees.specs.declared.expression.Expr.TheOpen.{Comparison-F}
use Rattle.source_trees.specs.declared.expression.Expr.TheFolds.{fold-Expr, fold-Comparison, map-Expr, map-Comparison, fold-roll-Expr, fold_out-Comparison}
use Rattle.source_trees.specs.declared.expression.Expr.TheVariants as expr
use Rattle.source_trees.specs.declared.expression.Comparison.{Comparison, roll-Comparison}
use Rattle.source_trees.specs.declared.statement.LoopNames.{LoopNames}
use Rattle.source_trees.specs.declared.statement.LoopNames.TheVariants as names
use Rattle.source_trees.specs.Bare.{bare, bare_name, bare_loop_names, bare_expr, bare_comparison, bare_optional}
use Rattle.source_trees.specs.Nodes.{joined, before_parts, nodes_of_expr}
use Rattle.source_trees.specs.Parts.{of_name, of_loop_names, of_comparison, optional}
use Rattle.source_trees.proofs.Equations as q
use Rattle.source_trees.proofs.BareForms as shape

-- ---- numbers from a list

-- takes numbers from a list
abbrev pub State : Type 0 → Type 0
State X = List ℕ → X × List ℕ

abbrev first : List ℕ → ℕ
first [] = 0
first (k ∷ ks) = k

abbrev later : List ℕ → List ℕ
later [] = []
later (k ∷ ks) = ks

-- a node with the next number, and what stands under it
abbrev pub headed : {X : Type 0} → Node → (Node → State X) → State X
headed n body = λ ks. body (record { id = record { 0 = first ks }; at = n.at }) (later ks)

abbrev pub ret : {X : Type 0} → X → State X
ret x = λ ks. (x, ks)

abbrev pub seq : {X Y : Type 0} → State (X → Y) → State X → State Y
seq g s = λ ks. ((g ks).0 (s (g ks).1).0, (s (g ks).1).1)

abbrev pub all : {X : Type 0} → List (State X) → State (List X)
all [] = ret []
all (s ∷ ss) = seq (seq (ret (λ y ys. y ∷ ys)) s) (all ss)

abbrev pub opt : {X : Type 0} → Option (State X) → State (Option X)
opt None = ret None
opt (Some s) = seq (ret Some) s

abbrev pub ids : List Node → List ℕ
ids nodes = map (λ n. n.id.0) nodes

-- from the numbers of these nodes it gives the value, whatever follows
abbrev pub Good : {X : Type 0} → X → State X → List Node → Type 0
Good x s nodes = (rest : List ℕ) → s (ids nodes ++ rest) ≡ (x, rest)

abbrev pub Parts : {X : Type 0} → X → State X → List (List Node) → Type 0
Parts x s parts = Good x s (joined parts)

pub ids_append : (a c : List Node) → ids (a ++ c) ≡ ids a ++ ids c
ids_append [] c = refl
ids_append (n ∷ a) c = ap (λ z. n.id.0 ∷ z) (ids_append a c)

pub joined_append : (ps qs : List (List Node)) → joined (ps ++ qs) ≡ joined ps ++ joined qs
joined_append [] qs = refl
joined_append (p ∷ ps) qs = ap (λ z. p ++ z) (joined_append ps qs) ∙ sym (append_assoc p (joined ps) (joined qs))

pub ret_parts : {X : Type 0} (x : X) → Parts x (ret x) []
ret_parts x rest = refl

pub seq_parts : {X Y : Type 0} (g : X → Y) (s : State (X → Y)) (ps : List (List Node)) (x : X) (t : State X) (qs : List (List Node)) → Parts g s ps → Parts x t qs → Parts (g x) (seq s t) (ps ++ qs)
seq_parts g s ps x t qs h k rest =
    let e : ids (joined (ps ++ qs)) ++ rest ≡ ids (joined ps) ++ (ids (joined qs) ++ rest) =
    ap (λ z. z ++ rest) (ap ids (joined_append ps qs) ∙ ids_append (joined ps) (joined qs)) ∙ append_assoc (ids (joined ps)) (ids (joined qs)) rest in
    ap (λ z. seq s t z) e ∙ ap (λ p. (p.0 (t p.1).0, (t p.1).1)) (h (ids (joined qs) ++ rest)) ∙ ap (λ p. (g p.0, p.1)) (k rest)

pub one : {X : Type 0} (x : X) (s : State X) (nodes : List Node) → Good x s nodes → Parts x s (nodes ∷ [])
one x s nodes h rest = ap (λ z. s (ids z ++ rest)) (append-nil nodes) ∙ h rest

pub good_headed : {X : Type 0} (n : Node) (x : X) (body : Node → State X) (ps : List (List Node)) → Parts x (body n) ps → Good x (headed (bare n) body) (n ∷ joined ps)
good_headed n x body ps h rest = h rest

pub good_by : {X : Type 0} (x : X) (s t : State X) (nodes others : List Node) → s ≡ t → nodes ≡ others → Good x t others → Good x s nodes
good_by x s t nodes others e d h rest = ap (λ z. z (ids nodes ++ rest)) e ∙ ap (λ z. t (ids z ++ rest)) d ∙ h rest

-- each of these has the property
abbrev pub Each : {X : Type 0} → (X → Type 0) → List X → Type 0
Each P [] = Unit {0}
Each P (x ∷ xs) = P x × Each P xs

pub all_parts : {X : Type 0} (restore : X → State X) (bared : X → X) (nodes : X → List Node) (xs : List X) → Each (λ x. Good x (restore (bared x)) (nodes x)) xs → Parts xs (all (map restore (map bared xs))) (map nodes xs)
all_parts restore bared nodes [] h = ret_parts []
all_parts restore bared nodes (x ∷ xs) h =
    seq_parts (λ ys. x ∷ ys) (seq (ret (λ y ys. y ∷ ys)) (restore (bared x))) (nodes x ∷ []) xs (all (map restore (map bared xs))) (map nodes xs)
    (seq_parts (λ y ys. y ∷ ys) (ret (λ y ys. y ∷ ys)) [] x (restore (bared x)) (nodes x ∷ []) (ret_parts (λ y ys. y ∷ ys)) (one x (restore (bared x)) (nodes x) h.0))
    (all_parts restore bared nodes xs h.1)

pub each_by : {X : Type 0} (P : X → Type 0) → ((x : X) → P x) → (xs : List X) → Each P xs
each_by P h [] = tt
each_by P h (x ∷ xs) = (h x, each_by P h xs)

-- ---- names

abbrev pub restore_name : Name → State Name
restore_name name = headed name.node (λ n. ret (record { node = n; spelling = name.spelling }))

pub good_name : (name : Name) → Good name (restore_name (bare_name name)) (of_name before_parts name)
good_name name = good_headed name.node name (λ n. ret (record { node = n; spelling = name.spelling })) [] (ret_parts name)

abbrev pub restore_loop : LoopNames → State LoopNames
restore_loop (names.One name) = seq (ret names.One) (restore_name name)
restore_loop (names.Several all_names) = seq (ret names.Several) (all (map restore_name all_names))

pub loop_parts : (ns : LoopNames) → Parts ns (restore_loop (bare_loop_names ns)) (of_loop_names before_parts ns)
loop_parts (names.One name) =
    seq_parts names.One (ret names.One) [] name (restore_name (bare_name name)) (of_name before_parts name ∷ []) (ret_parts names.One) (one name (restore_name (bare_name name)) (of_name before_parts name) (good_name name))
loop_parts (names.Several ns) =
    seq_parts names.Several (ret names.Several) [] ns (all (map restore_name (map bare_name ns))) (map (of_name before_parts) ns) (ret_parts names.Several)
    (all_parts restore_name bare_name (of_name before_parts) ns (each_by _ good_name ns))

-- ---- expressions

abbrev with_node : Node → Expr → Node × Expr
with_node m x = (m, x)

abbrev method_call : Node → List ℕ → Node × Expr → List Expr → Expr
method_call n s p xs = expr.MethodCall n p.0 p.1 s xs

abbrev step : Expr-F (State Expr) (State Comparison) → State Expr
step (Expr-F.Name n s) = headed n (λ n. ret (expr.Name n s))
step (Expr-F.Number n s) = headed n (λ n. ret (expr.Number n s))
step (Expr-F.Text n s) = headed n (λ n. ret (expr.Text n s))
step (Expr-F.True n) = headed n (λ n. ret (expr.True n))
step (Expr-F.False n) = headed n (λ n. ret (expr.False n))
step (Expr-F.None n) = headed n (λ n. ret (expr.None n))
step (Expr-F.Bracketed n x) = headed n (λ n. seq (ret (λ x. expr.Bracketed n x)) x)
step (Expr-F.Tuple n c xs) = headed n (λ n. seq (ret (λ xs. expr.Tuple n c xs)) (all xs))
step (Expr-F.List n xs) = headed n (λ n. seq (ret (λ xs. expr.List n xs)) (all xs))
step (Expr-F.Comprehension n x ns y z) = headed n (λ n. seq (seq (seq (seq (ret (λ x ns y z. expr.Comprehension n x ns y z)) x) (restore_loop ns)) y) (opt z))
step (Expr-F.Conditional n x y z) = headed n (λ n. seq (seq (seq (ret (λ x y z. expr.Conditional n x y z)) x) y) z)
step (Expr-F.Or n xs) = headed n (λ n. seq (ret (λ xs. expr.Or n xs)) (all xs))
step (Expr-F.And n xs) = headed n (λ n. seq (ret (λ xs. expr.And n xs)) (all xs))
step (Expr-F.Not n x) = headed n (λ n. seq (ret (λ x. expr.Not n x)) x)
step (Expr-F.Compare n x cs) = headed n (λ n. seq (seq (ret (λ x cs. expr.Compare n x cs)) x) (all cs))
step (Expr-F.Unary n o x) = headed n (λ n. seq (ret (λ x. expr.Unary n o x)) x)
step (Expr-F.Binary n o x y) = headed n (λ n. seq (seq (ret (λ x y. expr.Binary n o x y)) x) y)
step (Expr-F.Call n f xs) = headed n (λ n. seq (seq (ret (λ f xs. expr.Call n f xs)) (restore_name f)) (all xs))
step (Expr-F.MethodCall n m x s xs) = headed n (λ n. seq (seq (ret (method_call n s)) (headed m (λ m. seq (ret (with_node m)) x))) (all xs))
step (Expr-F.Index n x y) = headed n (λ n. seq (seq (ret (λ x y. expr.Index n x y)) x) y)
step (Expr-F.Slice n x y z) = headed n (λ n. seq (seq (seq (ret (λ x y z. expr.Slice n x y z)) x) (opt y)) (opt z))
step (Expr-F.Field n x s) = headed n (λ n. seq (ret (λ x. expr.Field n x s)) x)

abbrev step_comparison : Comparison-F (State Expr) (State Comparison) → State Comparison
step_comparison c = seq (ret (λ x. record { comparator = c.comparator; right = x })) c.right

unfoldable pub restore_expr : Expr → State Expr
restore_expr = fold-Expr (State Expr) (State Comparison) step step_comparison

unfoldable pub restore_comparison : Comparison → State Comparison
restore_comparison = fold-Comparison (State Expr) (State Comparison) step step_comparison

abbrev pub GoodExpr : Expr → Type 0
GoodExpr x = Good x (restore_expr (bare_expr x)) (nodes_of_expr x)

abbrev pub GoodComparison : Comparison → Type 0
GoodComparison c = Good c (restore_comparison (bare_comparison c)) (of_comparison before_parts c)

restore_Name : (n : Node) (s : List ℕ) → restore_expr (expr.Name n s) ≡ headed n (λ n. ret (expr.Name n s))
unfolding restore_expr restore_comparison
restore_Name n s = ap restore_expr (sym (expr.rolls-Name n s)) ∙ fold-roll-Expr (State Expr) (State Comparison) step step_comparison (Expr-F.Name n s)

restore_Number : (n : Node) (s : ℤ) → restore_expr (expr.Number n s) ≡ headed n (λ n. ret (expr.Number n s))
unfolding restore_expr restore_comparison
restore_Number n s = ap restore_expr (sym (expr.rolls-Number n s)) ∙ fold-roll-Expr (State Expr) (State Comparison) step step_comparison (Expr-F.Number n s)

restore_Text : (n : Node) (s : List ℕ) → restore_expr (expr.Text n s) ≡ headed n (λ n. ret (expr.Text n s))
unfolding restore_expr restore_comparison
restore_Text n s = ap restore_expr (sym (expr.rolls-Text n s)) ∙ fold-roll-Expr (State Expr) (State Comparison) step step_comparison (Expr-F.Text n s)

restore_True : (n : Node) → restore_expr (expr.True n) ≡ headed n (λ n. ret (expr.True n))
unfolding restore_expr restore_comparison
restore_True n = ap restore_expr (sym (expr.rolls-True n)) ∙ fold-roll-Expr (State Expr) (State Comparison) step step_comparison (Expr-F.True n)

restore_False : (n : Node) → restore_expr (expr.False n) ≡ headed n (λ n. ret (expr.False n))
unfolding restore_expr restore_comparison
restore_False n = ap restore_expr (sym (expr.rolls-False n)) ∙ fold-roll-Expr (State Expr) (State Comparison) step step_comparison (Expr-F.False n)

restore_None : (n : Node) → restore_expr (expr.None n) ≡ headed n (λ n. ret (expr.None n))
unfolding restore_expr restore_comparison
restore_None n = ap restore_expr (sym (expr.rolls-None n)) ∙ fold-roll-Expr (State Expr) (State Comparison) step step_comparison (Expr-F.None n)

restore_Bracketed : (n : Node) (x : Expr) → restore_expr (expr.Bracketed n x) ≡ headed n (λ n. seq (ret (λ x. expr.Bracketed n x)) (restore_expr x))
unfolding restore_expr restore_comparison
restore_Bracketed n x = ap restore_expr (sym (expr.rolls-Bracketed n x)) ∙ fold-roll-Expr (State Expr) (State Comparison) step step_comparison (Expr-F.Bracketed n x)

restore_Tuple : (n : Node) (c : Commas) (xs : List Expr) → restore_expr (expr.Tuple n c xs) ≡ headed n (λ n. seq (ret (λ xs. expr.Tuple n c xs)) (all (map restore_expr xs)))
unfolding restore_expr restore_comparison
restore_Tuple n c xs = ap restore_expr (sym (expr.rolls-Tuple n c xs)) ∙ fold-roll-Expr (State Expr) (State Comparison) step step_comparison (Expr-F.Tuple n c xs)

restore_List : (n : Node) (xs : List Expr) → restore_expr (expr.List n xs) ≡ headed n (λ n. seq (ret (λ xs. expr.List n xs)) (all (map restore_expr xs)))
unfolding restore_expr restore_comparison
restore_List n xs = ap restore_expr (sym (expr.rolls-List n xs)) ∙ fold-roll-Expr (State Expr) (State Comparison) step step_comparison (Expr-F.List n xs)

restore_Comprehension : (n : Node) (x : Expr) (ns : LoopNames) (y : Expr) (z : Option Expr) → restore_expr (expr.Comprehension n x ns y z) ≡ headed n (λ n. seq (seq (seq (seq (ret (λ x ns y z. expr.Comprehension n x ns y z)) (restore_expr x)) (restore_loop ns)) (restore_expr y)) (opt (option_map restore_expr z)))
unfolding restore_expr restore_comparison
restore_Comprehension n x ns y None = ap restore_expr (sym (expr.rolls-Comprehension n x ns y None)) ∙ fold-roll-Expr (State Expr) (State Comparison) step step_comparison (Expr-F.Comprehension n x ns y None)
restore_Comprehension n x ns y (Some z) = ap restore_expr (sym (expr.rolls-Comprehension n x ns y (Some z))) ∙ fold-roll-Expr (State Expr) (State Comparison) step step_comparison (Expr-F.Comprehension n x ns y (Some z))

restore_Conditional : (n : Node) (x : Expr) (y : Expr) (z : Expr) → restore_expr (expr.Conditional n x y z) ≡ headed n (λ n. seq (seq (seq (ret (λ x y z. expr.Conditional n x y z)) (restore_expr x)) (restore_expr y)) (restore_expr z))
unfolding restore_expr restore_comparison
restore_Conditional n x y z = ap restore_expr (sym (expr.rolls-Conditional n x y z)) ∙ fold-roll-Expr (State Expr) (State Comparison) step step_comparison (Expr-F.Conditional n x y z)

restore_Or : (n : Node) (xs : List Expr) → restore_expr (expr.Or n xs) ≡ headed n (λ n. seq (ret (λ xs. expr.Or n xs)) (all (map restore_expr xs)))
unfolding restore_expr restore_comparison
restore_Or n xs = ap restore_expr (sym (expr.rolls-Or n xs)) ∙ fold-roll-Expr (State Expr) (State Comparison) step step_comparison (Expr-F.Or n xs)

restore_And : (n : Node) (xs : List Expr) → restore_expr (expr.And n xs) ≡ headed n (λ n. seq (ret (λ xs. expr.And n xs)) (all (map restore_expr xs)))
unfolding restore_expr restore_comparison
restore_And n xs = ap restore_expr (sym (expr.rolls-And n xs)) ∙ fold-roll-Expr (State Expr) (State Comparison) step step_comparison (Expr-F.And n xs)

restore_Not : (n : Node) (x : Expr) → restore_expr (expr.Not n x) ≡ headed n (λ n. seq (ret (λ x. expr.Not n x)) (restore_expr x))
unfolding restore_expr restore_comparison
restore_Not n x = ap restore_expr (sym (expr.rolls-Not n x)) ∙ fold-roll-Expr (State Expr) (State Comparison) step step_comparison (Expr-F.Not n x)

restore_Compare : (n : Node) (x : Expr) (cs : List Comparison) → restore_expr (expr.Compare n x cs) ≡ headed n (λ n. seq (seq (ret (λ x cs. expr.Compare n x cs)) (restore_expr x)) (all (map restore_comparison cs)))
unfolding restore_expr restore_comparison
restore_Compare n x cs = ap restore_expr (sym (expr.rolls-Compare n x cs)) ∙ fold-roll-Expr (State Expr) (State Comparison) step step_comparison (Expr-F.Compare n x cs)

restore_Unary : (n : Node) (o : UnaryOp) (x : Expr) → restore_expr (expr.Unary n o x) ≡ headed n (λ n. seq (ret (λ x. expr.Unary n o x)) (restore_expr x))
unfolding restore_expr restore_comparison
restore_Unary n o x = ap restore_expr (sym (expr.rolls-Unary n o x)) ∙ fold-roll-Expr (State Expr) (State Comparison) step step_comparison (Expr-F.Unary n o x)

restore_Binary : (n : Node) (o : BinaryOp) (x : Expr) (y : Expr) → restore_expr (expr.Binary n o x y) ≡ headed n (λ n. seq (seq (ret (λ x y. expr.Binary n o x y)) (restore_expr x)) (restore_expr y))
unfolding restore_expr restore_comparison
restore_Binary n o x y = ap restore_expr (sym (expr.rolls-Binary n o x y)) ∙ fold-roll-Expr (State Expr) (State Comparison) step step_comparison (Expr-F.Binary n o x y)

restore_Call : (n : Node) (f : Name) (xs : List Expr) → restore_expr (expr.Call n f xs) ≡ headed n (λ n. seq (seq (ret (λ f xs. expr.Call n f xs)) (restore_name f)) (all (map restore_expr xs)))
unfolding restore_expr restore_comparison
restore_Call n f xs = ap restore_expr (sym (expr.rolls-Call n f xs)) ∙ fold-roll-Expr (State Expr) (State Comparison) step step_comparison (Expr-F.Call n f xs)

restore_MethodCall : (n : Node) (m : Node) (x : Expr) (s : List ℕ) (xs : List Expr) → restore_expr (expr.MethodCall n m x s xs) ≡ headed n (λ n. seq (seq (ret (method_call n s)) (headed m (λ m. seq (ret (with_node m)) (restore_expr x)))) (all (map restore_expr xs)))
unfolding restore_expr restore_comparison
restore_MethodCall n m x s xs = ap restore_expr (sym (expr.rolls-MethodCall n m x s xs)) ∙ fold-roll-Expr (State Expr) (State Comparison) step step_comparison (Expr-F.MethodCall n m x s xs)

restore_Index : (n : Node) (x : Expr) (y : Expr) → restore_expr (expr.Index n x y) ≡ headed n (λ n. seq (seq (ret (λ x y. expr.Index n x y)) (restore_expr x)) (restore_expr y))
unfolding restore_expr restore_comparison
restore_Index n x y = ap restore_expr (sym (expr.rolls-Index n x y)) ∙ fold-roll-Expr (State Expr) (State Comparison) step step_comparison (Expr-F.Index n x y)

restore_Slice : (n : Node) (x : Expr) (y : Option Expr) (z : Option Expr) → restore_expr (expr.Slice n x y z) ≡ headed n (λ n. seq (seq (seq (ret (λ x y z. expr.Slice n x y z)) (restore_expr x)) (opt (option_map restore_expr y))) (opt (option_map restore_expr z)))
unfolding restore_expr restore_comparison
restore_Slice n x None None = ap restore_expr (sym (expr.rolls-Slice n x None None)) ∙ fold-roll-Expr (State Expr) (State Comparison) step step_comparison (Expr-F.Slice n x None None)
restore_Slice n x (Some y) None = ap restore_expr (sym (expr.rolls-Slice n x (Some y) None)) ∙ fold-roll-Expr (State Expr) (State Comparison) step step_comparison (Expr-F.Slice n x (Some y) None)
restore_Slice n x None (Some z) = ap restore_expr (sym (expr.rolls-Slice n x None (Some z))) ∙ fold-roll-Expr (State Expr) (State Comparison) step step_comparison (Expr-F.Slice n x None (Some z))
restore_Slice n x (Some y) (Some z) = ap restore_expr (sym (expr.rolls-Slice n x (Some y) (Some z))) ∙ fold-roll-Expr (State Expr) (State Comparison) step step_comparison (Expr-F.Slice n x (Some y) (Some z))

restore_Field : (n : Node) (x : Expr) (s : List ℕ) → restore_expr (expr.Field n x s) ≡ headed n (λ n. seq (ret (λ x. expr.Field n x s)) (restore_expr x))
unfolding restore_expr restore_comparison
restore_Field n x s = ap restore_expr (sym (expr.rolls-Field n x s)) ∙ fold-roll-Expr (State Expr) (State Comparison) step step_comparison (Expr-F.Field n x s)

abbrev GoodOption : Option Expr → Type 0
GoodOption None = Unit {0}
GoodOption (Some x) = GoodExpr x

opt_parts : (o : Option Expr) → GoodOption o → Parts o (opt (option_map restore_expr (bare_optional bare_expr o))) (optional (option_map nodes_of_expr o))
opt_parts None h = ret_parts None
opt_parts (Some x) h = seq_parts Some (ret Some) [] x (restore_expr (bare_expr x)) (nodes_of_expr x ∷ []) (ret_parts Some) (one x (restore_expr (bare_expr x)) (nodes_of_expr x) h)

case_Name : (n : Node) (s : List ℕ) → GoodExpr (expr.Name n s)
case_Name n s =
    good_by (expr.Name n s) (restore_expr (bare_expr (expr.Name n s))) (headed (bare n) (λ n. ret (expr.Name n s))) (nodes_of_expr (expr.Name n s)) (n ∷ joined ([]))
    (ap restore_expr (shape.expr_Name n s) ∙ restore_Name (bare n) s) (q.expr_Name before_parts n s)
    (good_headed n (expr.Name n s) (λ n. ret (expr.Name n s)) ([]) (ret_parts (expr.Name n s)))

case_Number : (n : Node) (s : ℤ) → GoodExpr (expr.Number n s)
case_Number n s =
    good_by (expr.Number n s) (restore_expr (bare_expr (expr.Number n s))) (headed (bare n) (λ n. ret (expr.Number n s))) (nodes_of_expr (expr.Number n s)) (n ∷ joined ([]))
    (ap restore_expr (shape.expr_Number n s) ∙ restore_Number (bare n) s) (q.expr_Number before_parts n s)
    (good_headed n (expr.Number n s) (λ n. ret (expr.Number n s)) ([]) (ret_parts (expr.Number n s)))

case_Text : (n : Node) (s : List ℕ) → GoodExpr (expr.Text n s)
case_Text n s =
    good_by (expr.Text n s) (restore_expr (bare_expr (expr.Text n s))) (headed (bare n) (λ n. ret (expr.Text n s))) (nodes_of_expr (expr.Text n s)) (n ∷ joined ([]))
    (ap restore_expr (shape.expr_Text n s) ∙ restore_Text (bare n) s) (q.expr_Text before_parts n s)
    (good_headed n (expr.Text n s) (λ n. ret (expr.Text n s)) ([]) (ret_parts (expr.Text n s)))

case_True : (n : Node) → GoodExpr (expr.True n)
case_True n =
    good_by (expr.True n) (restore_expr (bare_expr (expr.True n))) (headed (bare n) (λ n. ret (expr.True n))) (nodes_of_expr (expr.True n)) (n ∷ joined ([]))
    (ap restore_expr (shape.expr_True n) ∙ restore_True (bare n)) (q.expr_True before_parts n)
    (good_headed n (expr.True n) (λ n. ret (expr.True n)) ([]) (ret_parts (expr.True n)))

case_False : (n : Node) → GoodExpr (expr.False n)
case_False n =
    good_by (expr.False n) (restore_expr (bare_expr (expr.False n))) (headed (bare n) (λ n. ret (expr.False n))) (nodes_of_expr (expr.False n)) (n ∷ joined ([]))
    (ap restore_expr (shape.expr_False n) ∙ restore_False (bare n)) (q.expr_False before_parts n)
    (good_headed n (expr.False n) (λ n. ret (expr.False n)) ([]) (ret_parts (expr.False n)))

case_None : (n : Node) → GoodExpr (expr.None n)
case_None n =
    good_by (expr.None n) (restore_expr (bare_expr (expr.None n))) (headed (bare n) (λ n. ret (expr.None n))) (nodes_of_expr (expr.None n)) (n ∷ joined ([]))
    (ap restore_expr (shape.expr_None n) ∙ restore_None (bare n)) (q.expr_None before_parts n)
    (good_headed n (expr.None n) (λ n. ret (expr.None n)) ([]) (ret_parts (expr.None n)))

case_Bracketed : (n : Node) (x : Expr) → GoodExpr x → GoodExpr (expr.Bracketed n x)
case_Bracketed n x hx =
    good_by (expr.Bracketed n x) (restore_expr (bare_expr (expr.Bracketed n x))) (headed (bare n) (λ n. seq (ret (λ x. expr.Bracketed n x)) (restore_expr (bare_expr x)))) (nodes_of_expr (expr.Bracketed n x)) (n ∷ joined (([]) ++ (nodes_of_expr x ∷ [])))
    (ap restore_expr (shape.expr_Bracketed n x) ∙ restore_Bracketed (bare n) (bare_expr x)) (q.expr_Bracketed before_parts n x)
    (good_headed n (expr.Bracketed n x) (λ n. seq (ret (λ x. expr.Bracketed n x)) (restore_expr (bare_expr x))) (([]) ++ (nodes_of_expr x ∷ [])) (seq_parts (λ x. expr.Bracketed n x) (ret (λ x. expr.Bracketed n x)) ([]) x (restore_expr (bare_expr x)) (nodes_of_expr x ∷ []) (ret_parts (λ x. expr.Bracketed n x)) (one x (restore_expr (bare_expr x)) (nodes_of_expr x) hx)))

case_Tuple : (n : Node) (c : Commas) (xs : List Expr) → Each GoodExpr xs → GoodExpr (expr.Tuple n c xs)
case_Tuple n c xs hxs =
    good_by (expr.Tuple n c xs) (restore_expr (bare_expr (expr.Tuple n c xs))) (headed (bare n) (λ n. seq (ret (λ xs. expr.Tuple n c xs)) (all (map restore_expr (map bare_expr xs))))) (nodes_of_expr (expr.Tuple n c xs)) (n ∷ joined (([]) ++ (map nodes_of_expr xs)))
    (ap restore_expr (shape.expr_Tuple n c xs) ∙ restore_Tuple (bare n) c (map bare_expr xs)) (q.expr_Tuple before_parts n c xs)
    (good_headed n (expr.Tuple n c xs) (λ n. seq (ret (λ xs. expr.Tuple n c xs)) (all (map restore_expr (map bare_expr xs)))) (([]) ++ (map nodes_of_expr xs)) (seq_parts (λ xs. expr.Tuple n c xs) (ret (λ xs. expr.Tuple n c xs)) ([]) xs (all (map restore_expr (map bare_expr xs))) (map nodes_of_expr xs) (ret_parts (λ xs. expr.Tuple n c xs)) (all_parts restore_expr bare_expr nodes_of_expr xs hxs)))

case_List : (n : Node) (xs : List Expr) → Each GoodExpr xs → GoodExpr (expr.List n xs)
case_List n xs hxs =
    good_by (expr.List n xs) (restore_expr (bare_expr (expr.List n xs))) (headed (bare n) (λ n. seq (ret (λ xs. expr.List n xs)) (all (map restore_expr (map bare_expr xs))))) (nodes_of_expr (expr.List n xs)) (n ∷ joined (([]) ++ (map nodes_of_expr xs)))
    (ap restore_expr (shape.expr_List n xs) ∙ restore_List (bare n) (map bare_expr xs)) (q.expr_List before_parts n xs)
    (good_headed n (expr.List n xs) (λ n. seq (ret (λ xs. expr.List n xs)) (all (map restore_expr (map bare_expr xs)))) (([]) ++ (map nodes_of_expr xs)) (seq_parts (λ xs. expr.List n xs) (ret (λ xs. expr.List n xs)) ([]) xs (all (map restore_expr (map bare_expr xs))) (map nodes_of_expr xs) (ret_parts (λ xs. expr.List n xs)) (all_parts restore_expr bare_expr nodes_of_expr xs hxs)))

case_Comprehension : (n : Node) (x : Expr) (ns : LoopNames) (y : Expr) (z : Option Expr) → GoodExpr x → GoodExpr y → GoodOption z → GoodExpr (expr.Comprehension n x ns y z)
case_Comprehension n x ns y z hx hy hz =
    good_by (expr.Comprehension n x ns y z) (restore_expr (bare_expr (expr.Comprehension n x ns y z))) (headed (bare n) (λ n. seq (seq (seq (seq (ret (λ x ns y z. expr.Comprehension n x ns y z)) (restore_expr (bare_expr x))) (restore_loop (bare_loop_names ns))) (restore_expr (bare_expr y))) (opt (option_map restore_expr (bare_optional bare_expr z))))) (nodes_of_expr (expr.Comprehension n x ns y z)) (n ∷ joined ((((([]) ++ (nodes_of_expr x ∷ [])) ++ (of_loop_names before_parts ns)) ++ (nodes_of_expr y ∷ [])) ++ (optional (option_map nodes_of_expr z))))
    (ap restore_expr (shape.expr_Comprehension n x ns y z) ∙ restore_Comprehension (bare n) (bare_expr x) (bare_loop_names ns) (bare_expr y) (bare_optional bare_expr z)) ((q.expr_Comprehension before_parts n x ns y z) ∙ ap (λ z. n ∷ joined (nodes_of_expr x ∷ z)) (sym (append_assoc (of_loop_names before_parts ns) (nodes_of_expr y ∷ []) (optional (option_map nodes_of_expr z)))))
    (good_headed n (expr.Comprehension n x ns y z) (λ n. seq (seq (seq (seq (ret (λ x ns y z. expr.Comprehension n x ns y z)) (restore_expr (bare_expr x))) (restore_loop (bare_loop_names ns))) (restore_expr (bare_expr y))) (opt (option_map restore_expr (bare_optional bare_expr z)))) ((((([]) ++ (nodes_of_expr x ∷ [])) ++ (of_loop_names before_parts ns)) ++ (nodes_of_expr y ∷ [])) ++ (optional (option_map nodes_of_expr z))) (seq_parts (λ z. expr.Comprehension n x ns y z) (seq (seq (seq (ret (λ x ns y z. expr.Comprehension n x ns y z)) (restore_expr (bare_expr x))) (restore_loop (bare_loop_names ns))) (restore_expr (bare_expr y))) (((([]) ++ (nodes_of_expr x ∷ [])) ++ (of_loop_names before_parts ns)) ++ (nodes_of_expr y ∷ [])) z (opt (option_map restore_expr (bare_optional bare_expr z))) (optional (option_map nodes_of_expr z)) (seq_parts (λ y z. expr.Comprehension n x ns y z) (seq (seq (ret (λ x ns y z. expr.Comprehension n x ns y z)) (restore_expr (bare_expr x))) (restore_loop (bare_loop_names ns))) ((([]) ++ (nodes_of_expr x ∷ [])) ++ (of_loop_names before_parts ns)) y (restore_expr (bare_expr y)) (nodes_of_expr y ∷ []) (seq_parts (λ ns y z. expr.Comprehension n x ns y z) (seq (ret (λ x ns y z. expr.Comprehension n x ns y z)) (restore_expr (bare_expr x))) (([]) ++ (nodes_of_expr x ∷ [])) ns (restore_loop (bare_loop_names ns)) (of_loop_names before_parts ns) (seq_parts (λ x ns y z. expr.Comprehension n x ns y z) (ret (λ x ns y z. expr.Comprehension n x ns y z)) ([]) x (restore_expr (bare_expr x)) (nodes_of_expr x ∷ []) (ret_parts (λ x ns y z. expr.Comprehension n x ns y z)) (one x (restore_expr (bare_expr x)) (nodes_of_expr x) hx)) (loop_parts ns)) (one y (restore_expr (bare_expr y)) (nodes_of_expr y) hy)) (opt_parts z hz)))

case_Conditional : (n : Node) (x : Expr) (y : Expr) (z : Expr) → GoodExpr x → GoodExpr y → GoodExpr z → GoodExpr (expr.Conditional n x y z)
case_Conditional n x y z hx hy hz =
    good_by (expr.Conditional n x y z) (restore_expr (bare_expr (expr.Conditional n x y z))) (headed (bare n) (λ n. seq (seq (seq (ret (λ x y z. expr.Conditional n x y z)) (restore_expr (bare_expr x))) (restore_expr (bare_expr y))) (restore_expr (bare_expr z)))) (nodes_of_expr (expr.Conditional n x y z)) (n ∷ joined (((([]) ++ (nodes_of_expr x ∷ [])) ++ (nodes_of_expr y ∷ [])) ++ (nodes_of_expr z ∷ [])))
    (ap restore_expr (shape.expr_Conditional n x y z) ∙ restore_Conditional (bare n) (bare_expr x) (bare_expr y) (bare_expr z)) (q.expr_Conditional before_parts n x y z)
    (good_headed n (expr.Conditional n x y z) (λ n. seq (seq (seq (ret (λ x y z. expr.Conditional n x y z)) (restore_expr (bare_expr x))) (restore_expr (bare_expr y))) (restore_expr (bare_expr z))) (((([]) ++ (nodes_of_expr x ∷ [])) ++ (nodes_of_expr y ∷ [])) ++ (nodes_of_expr z ∷ [])) (seq_parts (λ z. expr.Conditional n x y z) (seq (seq (ret (λ x y z. expr.Conditional n x y z)) (restore_expr (bare_expr x))) (restore_expr (bare_expr y))) ((([]) ++ (nodes_of_expr x ∷ [])) ++ (nodes_of_expr y ∷ [])) z (restore_expr (bare_expr z)) (nodes_of_expr z ∷ []) (seq_parts (λ y z. expr.Conditional n x y z) (seq (ret (λ x y z. expr.Conditional n x y z)) (restore_expr (bare_expr x))) (([]) ++ (nodes_of_expr x ∷ [])) y (restore_expr (bare_expr y)) (nodes_of_expr y ∷ []) (seq_parts (λ x y z. expr.Conditional n x y z) (ret (λ x y z. expr.Conditional n x y z)) ([]) x (restore_expr (bare_expr x)) (nodes_of_expr x ∷ []) (ret_parts (λ x y z. expr.Conditional n x y z)) (one x (restore_expr (bare_expr x)) (nodes_of_expr x) hx)) (one y (restore_expr (bare_expr y)) (nodes_of_expr y) hy)) (one z (restore_expr (bare_expr z)) (nodes_of_expr z) hz)))

case_Or : (n : Node) (xs : List Expr) → Each GoodExpr xs → GoodExpr (expr.Or n xs)
case_Or n xs hxs =
    good_by (expr.Or n xs) (restore_expr (bare_expr (expr.Or n xs))) (headed (bare n) (λ n. seq (ret (λ xs. expr.Or n xs)) (all (map restore_expr (map bare_expr xs))))) (nodes_of_expr (expr.Or n xs)) (n ∷ joined (([]) ++ (map nodes_of_expr xs)))
    (ap restore_expr (shape.expr_Or n xs) ∙ restore_Or (bare n) (map bare_expr xs)) (q.expr_Or before_parts n xs)
    (good_headed n (expr.Or n xs) (λ n. seq (ret (λ xs. expr.Or n xs)) (all (map restore_expr (map bare_expr xs)))) (([]) ++ (map nodes_of_expr xs)) (seq_parts (λ xs. expr.Or n xs) (ret (λ xs. expr.Or n xs)) ([]) xs (all (map restore_expr (map bare_expr xs))) (map nodes_of_expr xs) (ret_parts (λ xs. expr.Or n xs)) (all_parts restore_expr bare_expr nodes_of_expr xs hxs)))

case_And : (n : Node) (xs : List Expr) → Each GoodExpr xs → GoodExpr (expr.And n xs)
case_And n xs hxs =
    good_by (expr.And n xs) (restore_expr (bare_expr (expr.And n xs))) (headed (bare n) (λ n. seq (ret (λ xs. expr.And n xs)) (all (map restore_expr (map bare_expr xs))))) (nodes_of_expr (expr.And n xs)) (n ∷ joined (([]) ++ (map nodes_of_expr xs)))
    (ap restore_expr (shape.expr_And n xs) ∙ restore_And (bare n) (map bare_expr xs)) (q.expr_And before_parts n xs)
    (good_headed n (expr.And n xs) (λ n. seq (ret (λ xs. expr.And n xs)) (all (map restore_expr (map bare_expr xs)))) (([]) ++ (map nodes_of_expr xs)) (seq_parts (λ xs. expr.And n xs) (ret (λ xs. expr.And n xs)) ([]) xs (all (map restore_expr (map bare_expr xs))) (map nodes_of_expr xs) (ret_parts (λ xs. expr.And n xs)) (all_parts restore_expr bare_expr nodes_of_expr xs hxs)))

case_Not : (n : Node) (x : Expr) → GoodExpr x → GoodExpr (expr.Not n x)
case_Not n x hx =
    good_by (expr.Not n x) (restore_expr (bare_expr (expr.Not n x))) (headed (bare n) (λ n. seq (ret (λ x. expr.Not n x)) (restore_expr (bare_expr x)))) (nodes_of_expr (expr.Not n x)) (n ∷ joined (([]) ++ (nodes_of_expr x ∷ [])))
    (ap restore_expr (shape.expr_Not n x) ∙ restore_Not (bare n) (bare_expr x)) (q.expr_Not before_parts n x)
    (good_headed n (expr.Not n x) (λ n. seq (ret (λ x. expr.Not n x)) (restore_expr (bare_expr x))) (([]) ++ (nodes_of_expr x ∷ [])) (seq_parts (λ x. expr.Not n x) (ret (λ x. expr.Not n x)) ([]) x (restore_expr (bare_expr x)) (nodes_of_expr x ∷ []) (ret_parts (λ x. expr.Not n x)) (one x (restore_expr (bare_expr x)) (nodes_of_expr x) hx)))

case_Compare : (n : Node) (x : Expr) (cs : List Comparison) → GoodExpr x → Each GoodComparison cs → GoodExpr (expr.Compare n x cs)
case_Compare n x cs hx hcs =
    good_by (expr.Compare n x cs) (restore_expr (bare_expr (expr.Compare n x cs))) (headed (bare n) (λ n. seq (seq (ret (λ x cs. expr.Compare n x cs)) (restore_expr (bare_expr x))) (all (map restore_comparison (map bare_comparison cs))))) (nodes_of_expr (expr.Compare n x cs)) (n ∷ joined ((([]) ++ (nodes_of_expr x ∷ [])) ++ (map (of_comparison before_parts) cs)))
    (ap restore_expr (shape.expr_Compare n x cs) ∙ restore_Compare (bare n) (bare_expr x) (map bare_comparison cs)) (q.expr_Compare before_parts n x cs)
    (good_headed n (expr.Compare n x cs) (λ n. seq (seq (ret (λ x cs. expr.Compare n x cs)) (restore_expr (bare_expr x))) (all (map restore_comparison (map bare_comparison cs)))) ((([]) ++ (nodes_of_expr x ∷ [])) ++ (map (of_comparison before_parts) cs)) (seq_parts (λ cs. expr.Compare n x cs) (seq (ret (λ x cs. expr.Compare n x cs)) (restore_expr (bare_expr x))) (([]) ++ (nodes_of_expr x ∷ [])) cs (all (map restore_comparison (map bare_comparison cs))) (map (of_comparison before_parts) cs) (seq_parts (λ x cs. expr.Compare n x cs) (ret (λ x cs. expr.Compare n x cs)) ([]) x (restore_expr (bare_expr x)) (nodes_of_expr x ∷ []) (ret_parts (λ x cs. expr.Compare n x cs)) (one x (restore_expr (bare_expr x)) (nodes_of_expr x) hx)) (all_parts restore_comparison bare_comparison (of_comparison before_parts) cs hcs)))

case_Unary : (n : Node) (o : UnaryOp) (x : Expr) → GoodExpr x → GoodExpr (expr.Unary n o x)
case_Unary n o x hx =
    good_by (expr.Unary n o x) (restore_expr (bare_expr (expr.Unary n o x))) (headed (bare n) (λ n. seq (ret (λ x. expr.Unary n o x)) (restore_expr (bare_expr x)))) (nodes_of_expr (expr.Unary n o x)) (n ∷ joined (([]) ++ (nodes_of_expr x ∷ [])))
    (ap restore_expr (shape.expr_Unary n o x) ∙ restore_Unary (bare n) o (bare_expr x)) (q.expr_Unary before_parts n o x)
    (good_headed n (expr.Unary n o x) (λ n. seq (ret (λ x. expr.Unary n o x)) (restore_expr (bare_expr x))) (([]) ++ (nodes_of_expr x ∷ [])) (seq_parts (λ x. expr.Unary n o x) (ret (λ x. expr.Unary n o x)) ([]) x (restore_expr (bare_expr x)) (nodes_of_expr x ∷ []) (ret_parts (λ x. expr.Unary n o x)) (one x (restore_expr (bare_expr x)) (nodes_of_expr x) hx)))

case_Binary : (n : Node) (o : BinaryOp) (x : Expr) (y : Expr) → GoodExpr x → GoodExpr y → GoodExpr (expr.Binary n o x y)
case_Binary n o x y hx hy =
    good_by (expr.Binary n o x y) (restore_expr (bare_expr (expr.Binary n o x y))) (headed (bare n) (λ n. seq (seq (ret (λ x y. expr.Binary n o x y)) (restore_expr (bare_expr x))) (restore_expr (bare_expr y)))) (nodes_of_expr (expr.Binary n o x y)) (n ∷ joined ((([]) ++ (nodes_of_expr x ∷ [])) ++ (nodes_of_expr y ∷ [])))
    (ap restore_expr (shape.expr_Binary n o x y) ∙ restore_Binary (bare n) o (bare_expr x) (bare_expr y)) (q.expr_Binary before_parts n o x y)
    (good_headed n (expr.Binary n o x y) (λ n. seq (seq (ret (λ x y. expr.Binary n o x y)) (restore_expr (bare_expr x))) (restore_expr (bare_expr y))) ((([]) ++ (nodes_of_expr x ∷ [])) ++ (nodes_of_expr y ∷ [])) (seq_parts (λ y. expr.Binary n o x y) (seq (ret (λ x y. expr.Binary n o x y)) (restore_expr (bare_expr x))) (([]) ++ (nodes_of_expr x ∷ [])) y (restore_expr (bare_expr y)) (nodes_of_expr y ∷ []) (seq_parts (λ x y. expr.Binary n o x y) (ret (λ x y. expr.Binary n o x y)) ([]) x (restore_expr (bare_expr x)) (nodes_of_expr x ∷ []) (ret_parts (λ x y. expr.Binary n o x y)) (one x (restore_expr (bare_expr x)) (nodes_of_expr x) hx)) (one y (restore_expr (bare_expr y)) (nodes_of_expr y) hy)))

case_Call : (n : Node) (f : Name) (xs : List Expr) → Each GoodExpr xs → GoodExpr (expr.Call n f xs)
case_Call n f xs hxs =
    good_by (expr.Call n f xs) (restore_expr (bare_expr (expr.Call n f xs))) (headed (bare n) (λ n. seq (seq (ret (λ f xs. expr.Call n f xs)) (restore_name (bare_name f))) (all (map restore_expr (map bare_expr xs))))) (nodes_of_expr (expr.Call n f xs)) (n ∷ joined ((([]) ++ (of_name before_parts f ∷ [])) ++ (map nodes_of_expr xs)))
    (ap restore_expr (shape.expr_Call n f xs) ∙ restore_Call (bare n) (bare_name f) (map bare_expr xs)) (q.expr_Call before_parts n f xs)
    (good_headed n (expr.Call n f xs) (λ n. seq (seq (ret (λ f xs. expr.Call n f xs)) (restore_name (bare_name f))) (all (map restore_expr (map bare_expr xs)))) ((([]) ++ (of_name before_parts f ∷ [])) ++ (map nodes_of_expr xs)) (seq_parts (λ xs. expr.Call n f xs) (seq (ret (λ f xs. expr.Call n f xs)) (restore_name (bare_name f))) (([]) ++ (of_name before_parts f ∷ [])) xs (all (map restore_expr (map bare_expr xs))) (map nodes_of_expr xs) (seq_parts (λ f xs. expr.Call n f xs) (ret (λ f xs. expr.Call n f xs)) ([]) f (restore_name (bare_name f)) (of_name before_parts f ∷ []) (ret_parts (λ f xs. expr.Call n f xs)) (one f (restore_name (bare_name f)) (of_name before_parts f) (good_name f))) (all_parts restore_expr bare_expr nodes_of_expr xs hxs)))

case_MethodCall : (n : Node) (m : Node) (x : Expr) (s : List ℕ) (xs : List Expr) → GoodExpr x → Each GoodExpr xs → GoodExpr (expr.MethodCall n m x s xs)
case_MethodCall n m x s xs hx hxs =
    good_by (expr.MethodCall n m x s xs) (restore_expr (bare_expr (expr.MethodCall n m x s xs))) (headed (bare n) (λ n. seq (seq (ret (method_call n s)) (headed m (λ m. seq (ret (with_node m)) (restore_expr (bare_expr x))))) (all (map restore_expr (map bare_expr xs))))) (nodes_of_expr (expr.MethodCall n m x s xs)) (n ∷ joined ((m ∷ joined (nodes_of_expr x ∷ [])) ∷ map nodes_of_expr xs))
    (ap restore_expr (shape.expr_MethodCall n m x s xs) ∙ restore_MethodCall (bare n) (bare m) (bare_expr x) s (map bare_expr xs)) (q.expr_MethodCall before_parts n m x s xs)
    (good_headed n (expr.MethodCall n m x s xs) (λ n. seq (seq (ret (method_call n s)) (headed m (λ m. seq (ret (with_node m)) (restore_expr (bare_expr x))))) (all (map restore_expr (map bare_expr xs)))) ((m ∷ joined (nodes_of_expr x ∷ [])) ∷ map nodes_of_expr xs) (seq_parts (method_call n s (m, x)) (seq (ret (method_call n s)) (headed (bare m) (λ m. seq (ret (with_node m)) (restore_expr (bare_expr x))))) ((m ∷ joined (nodes_of_expr x ∷ [])) ∷ []) xs (all (map restore_expr (map bare_expr xs))) (map nodes_of_expr xs) (seq_parts (method_call n s) (ret (method_call n s)) [] (m, x) (headed (bare m) (λ m. seq (ret (with_node m)) (restore_expr (bare_expr x)))) ((m ∷ joined (nodes_of_expr x ∷ [])) ∷ []) (ret_parts (method_call n s)) (one (m, x) (headed (bare m) (λ m. seq (ret (with_node m)) (restore_expr (bare_expr x)))) (m ∷ joined (nodes_of_expr x ∷ [])) (good_headed m (m, x) (λ m. seq (ret (with_node m)) (restore_expr (bare_expr x))) (nodes_of_expr x ∷ []) (seq_parts (with_node m) (ret (with_node m)) [] x (restore_expr (bare_expr x)) (nodes_of_expr x ∷ []) (ret_parts (with_node m)) (one x (restore_expr (bare_expr x)) (nodes_of_expr x) hx))))) (all_parts restore_expr bare_expr nodes_of_expr xs hxs)))

case_Index : (n : Node) (x : Expr) (y : Expr) → GoodExpr x → GoodExpr y → GoodExpr (expr.Index n x y)
case_Index n x y hx hy =
    good_by (expr.Index n x y) (restore_expr (bare_expr (expr.Index n x y))) (headed (bare n) (λ n. seq (seq (ret (λ x y. expr.Index n x y)) (restore_expr (bare_expr x))) (restore_expr (bare_expr y)))) (nodes_of_expr (expr.Index n x y)) (n ∷ joined ((([]) ++ (nodes_of_expr x ∷ [])) ++ (nodes_of_expr y ∷ [])))
    (ap restore_expr (shape.expr_Index n x y) ∙ restore_Index (bare n) (bare_expr x) (bare_expr y)) (q.expr_Index before_parts n x y)
    (good_headed n (expr.Index n x y) (λ n. seq (seq (ret (λ x y. expr.Index n x y)) (restore_expr (bare_expr x))) (restore_expr (bare_expr y))) ((([]) ++ (nodes_of_expr x ∷ [])) ++ (nodes_of_expr y ∷ [])) (seq_parts (λ y. expr.Index n x y) (seq (ret (λ x y. expr.Index n x y)) (restore_expr (bare_expr x))) (([]) ++ (nodes_of_expr x ∷ [])) y (restore_expr (bare_expr y)) (nodes_of_expr y ∷ []) (seq_parts (λ x y. expr.Index n x y) (ret (λ x y. expr.Index n x y)) ([]) x (restore_expr (bare_expr x)) (nodes_of_expr x ∷ []) (ret_parts (λ x y. expr.Index n x y)) (one x (restore_expr (bare_expr x)) (nodes_of_expr x) hx)) (one y (restore_expr (bare_expr y)) (nodes_of_expr y) hy)))

case_Slice : (n : Node) (x : Expr) (y : Option Expr) (z : Option Expr) → GoodExpr x → GoodOption y → GoodOption z → GoodExpr (expr.Slice n x y z)
case_Slice n x y z hx hy hz =
    good_by (expr.Slice n x y z) (restore_expr (bare_expr (expr.Slice n x y z))) (headed (bare n) (λ n. seq (seq (seq (ret (λ x y z. expr.Slice n x y z)) (restore_expr (bare_expr x))) (opt (option_map restore_expr (bare_optional bare_expr y)))) (opt (option_map restore_expr (bare_optional bare_expr z))))) (nodes_of_expr (expr.Slice n x y z)) (n ∷ joined (((([]) ++ (nodes_of_expr x ∷ [])) ++ (optional (option_map nodes_of_expr y))) ++ (optional (option_map nodes_of_expr z))))
    (ap restore_expr (shape.expr_Slice n x y z) ∙ restore_Slice (bare n) (bare_expr x) (bare_optional bare_expr y) (bare_optional bare_expr z)) (q.expr_Slice before_parts n x y z)
    (good_headed n (expr.Slice n x y z) (λ n. seq (seq (seq (ret (λ x y z. expr.Slice n x y z)) (restore_expr (bare_expr x))) (opt (option_map restore_expr (bare_optional bare_expr y)))) (opt (option_map restore_expr (bare_optional bare_expr z)))) (((([]) ++ (nodes_of_expr x ∷ [])) ++ (optional (option_map nodes_of_expr y))) ++ (optional (option_map nodes_of_expr z))) (seq_parts (λ z. expr.Slice n x y z) (seq (seq (ret (λ x y z. expr.Slice n x y z)) (restore_expr (bare_expr x))) (opt (option_map restore_expr (bare_optional bare_expr y)))) ((([]) ++ (nodes_of_expr x ∷ [])) ++ (optional (option_map nodes_of_expr y))) z (opt (option_map restore_expr (bare_optional bare_expr z))) (optional (option_map nodes_of_expr z)) (seq_parts (λ y z. expr.Slice n x y z) (seq (ret (λ x y z. expr.Slice n x y z)) (restore_expr (bare_expr x))) (([]) ++ (nodes_of_expr x ∷ [])) y (opt (option_map restore_expr (bare_optional bare_expr y))) (optional (option_map nodes_of_expr y)) (seq_parts (λ x y z. expr.Slice n x y z) (ret (λ x y z. expr.Slice n x y z)) ([]) x (restore_expr (bare_expr x)) (nodes_of_expr x ∷ []) (ret_parts (λ x y z. expr.Slice n x y z)) (one x (restore_expr (bare_expr x)) (nodes_of_expr x) hx)) (opt_parts y hy)) (opt_parts z hz)))

case_Field : (n : Node) (x : Expr) (s : List ℕ) → GoodExpr x → GoodExpr (expr.Field n x s)
case_Field n x s hx =
    good_by (expr.Field n x s) (restore_expr (bare_expr (expr.Field n x s))) (headed (bare n) (λ n. seq (ret (λ x. expr.Field n x s)) (restore_expr (bare_expr x)))) (nodes_of_expr (expr.Field n x s)) (n ∷ joined (([]) ++ (nodes_of_expr x ∷ [])))
    (ap restore_expr (shape.expr_Field n x s) ∙ restore_Field (bare n) (bare_expr x) s) (q.expr_Field before_parts n x s)
    (good_headed n (expr.Field n x s) (λ n. seq (ret (λ x. expr.Field n x s)) (restore_expr (bare_expr x))) (([]) ++ (nodes_of_expr x ∷ [])) (seq_parts (λ x. expr.Field n x s) (ret (λ x. expr.Field n x s)) ([]) x (restore_expr (bare_expr x)) (nodes_of_expr x ∷ []) (ret_parts (λ x. expr.Field n x s)) (one x (restore_expr (bare_expr x)) (nodes_of_expr x) hx)))

abbrev Part : Type 0
Part = (x : Expr) × GoodExpr x

abbrev Link : Type 0
Link = (c : Comparison) × GoodComparison c

abbrev tree : Part → Expr
tree p = p.0

abbrev link : Link → Comparison
link p = p.0

each_part : (ps : List Part) → Each GoodExpr (map tree ps)
each_part [] = tt
each_part (p ∷ ps) = (p.1, each_part ps)

each_link : (ps : List Link) → Each GoodComparison (map link ps)
each_link [] = tt
each_link (p ∷ ps) = (p.1, each_link ps)

form_good : (y : Expr-F Part Link) → GoodExpr (roll-Expr (map-Expr Part Link Expr Comparison tree link y))
form_good (Expr-F.Name n s) = subst GoodExpr (sym (expr.rolls-Name n s)) (case_Name n s)
form_good (Expr-F.Number n s) = subst GoodExpr (sym (expr.rolls-Number n s)) (case_Number n s)
form_good (Expr-F.Text n s) = subst GoodExpr (sym (expr.rolls-Text n s)) (case_Text n s)
form_good (Expr-F.True n) = subst GoodExpr (sym (expr.rolls-True n)) (case_True n)
form_good (Expr-F.False n) = subst GoodExpr (sym (expr.rolls-False n)) (case_False n)
form_good (Expr-F.None n) = subst GoodExpr (sym (expr.rolls-None n)) (case_None n)
form_good (Expr-F.Bracketed n x) = subst GoodExpr (sym (expr.rolls-Bracketed n x.0)) (case_Bracketed n x.0 x.1)
form_good (Expr-F.Tuple n c xs) = subst GoodExpr (sym (expr.rolls-Tuple n c (map tree xs))) (case_Tuple n c (map tree xs) (each_part xs))
form_good (Expr-F.List n xs) = subst GoodExpr (sym (expr.rolls-List n (map tree xs))) (case_List n (map tree xs) (each_part xs))
form_good (Expr-F.Comprehension n x ns y None) = subst GoodExpr (sym (expr.rolls-Comprehension n x.0 ns y.0 None)) (case_Comprehension n x.0 ns y.0 None x.1 y.1 tt)
form_good (Expr-F.Comprehension n x ns y (Some z)) = subst GoodExpr (sym (expr.rolls-Comprehension n x.0 ns y.0 (Some z.0))) (case_Comprehension n x.0 ns y.0 (Some z.0) x.1 y.1 z.1)
form_good (Expr-F.Conditional n x y z) = subst GoodExpr (sym (expr.rolls-Conditional n x.0 y.0 z.0)) (case_Conditional n x.0 y.0 z.0 x.1 y.1 z.1)
form_good (Expr-F.Or n xs) = subst GoodExpr (sym (expr.rolls-Or n (map tree xs))) (case_Or n (map tree xs) (each_part xs))
form_good (Expr-F.And n xs) = subst GoodExpr (sym (expr.rolls-And n (map tree xs))) (case_And n (map tree xs) (each_part xs))
form_good (Expr-F.Not n x) = subst GoodExpr (sym (expr.rolls-Not n x.0)) (case_Not n x.0 x.1)
form_good (Expr-F.Compare n x cs) = subst GoodExpr (sym (expr.rolls-Compare n x.0 (map link cs))) (case_Compare n x.0 (map link cs) x.1 (each_link cs))
form_good (Expr-F.Unary n o x) = subst GoodExpr (sym (expr.rolls-Unary n o x.0)) (case_Unary n o x.0 x.1)
form_good (Expr-F.Binary n o x y) = subst GoodExpr (sym (expr.rolls-Binary n o x.0 y.0)) (case_Binary n o x.0 y.0 x.1 y.1)
form_good (Expr-F.Call n f xs) = subst GoodExpr (sym (expr.rolls-Call n f (map tree xs))) (case_Call n f (map tree xs) (each_part xs))
form_good (Expr-F.MethodCall n m x s xs) = subst GoodExpr (sym (expr.rolls-MethodCall n m x.0 s (map tree xs))) (case_MethodCall n m x.0 s (map tree xs) x.1 (each_part xs))
form_good (Expr-F.Index n x y) = subst GoodExpr (sym (expr.rolls-Index n x.0 y.0)) (case_Index n x.0 y.0 x.1 y.1)
form_good (Expr-F.Slice n x None None) = subst GoodExpr (sym (expr.rolls-Slice n x.0 None None)) (case_Slice n x.0 None None x.1 tt tt)
form_good (Expr-F.Slice n x (Some y) None) = subst GoodExpr (sym (expr.rolls-Slice n x.0 (Some y.0) None)) (case_Slice n x.0 (Some y.0) None x.1 y.1 tt)
form_good (Expr-F.Slice n x None (Some z)) = subst GoodExpr (sym (expr.rolls-Slice n x.0 None (Some z.0))) (case_Slice n x.0 None (Some z.0) x.1 tt z.1)
form_good (Expr-F.Slice n x (Some y) (Some z)) = subst GoodExpr (sym (expr.rolls-Slice n x.0 (Some y.0) (Some z.0))) (case_Slice n x.0 (Some y.0) (Some z.0) x.1 y.1 z.1)
form_good (Expr-F.Field n x s) = subst GoodExpr (sym (expr.rolls-Field n x.0 s)) (case_Field n x.0 s x.1)

comparison_by : (c : Comparison) → GoodExpr c.right → GoodComparison c
unfolding restore_expr restore_comparison
comparison_by c h =
    good_by c (restore_comparison (bare_comparison c)) (seq (ret (λ x. record { comparator = c.comparator; right = x })) (restore_expr (bare_expr c.right))) (of_comparison before_parts c) (joined (nodes_of_expr c.right ∷ []))
    (ap restore_comparison (shape.comparison_is c) ∙ fold_out-Comparison (State Expr) (State Comparison) step step_comparison (record { comparator = c.comparator; right = bare_expr c.right }))
    (q.comparison_is before_parts c ∙ sym (append-nil (nodes_of_expr c.right)))
    (seq_parts (λ x. record { comparator = c.comparator; right = x }) (ret (λ x. record { comparator = c.comparator; right = x })) [] c.right (restore_expr (bare_expr c.right)) (nodes_of_expr c.right ∷ []) (ret_parts (λ x. record { comparator = c.comparator; right = x })) (one c.right (restore_expr (bare_expr c.right)) (nodes_of_expr c.right) h))

link_good : (y : Comparison-F Part Link) → GoodComparison (roll-Comparison (map-Comparison Part Link Expr Comparison tree link y))
link_good y = comparison_by (record { comparator = y.comparator; right = y.right.0 }) y.right.1

pub good_expr : (x : Expr) → GoodExpr x
good_expr = ind-Expr GoodExpr GoodComparison (λ x y eq. subst (λ d. GoodExpr (roll-Expr d)) eq (form_good y)) (λ x y eq. subst (λ d. GoodComparison (roll-Comparison d)) eq (link_good y))
