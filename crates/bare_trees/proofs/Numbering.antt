-- Each tree has one with numbers in preorder that has the same bare tree.
use Rattle.std.proofs.Common.{◌≡◌, ℕ, ℤ, zero, suc, ◌+◌, length, arith, List, [], ◌∷◌, ◌++◌, map, Option, Some, None, refl, sym, ◌∙◌, ap, subst}
use Rattle.std.specs.List.{flat_map}
use Rattle.std.specs.Option.{option_map}
use Rattle.source_trees.specs.declared.operator.UnaryOp.{UnaryOp}
use Rattle.source_trees.specs.declared.operator.BinaryOp.{BinaryOp}
use Rattle.source_trees.specs.declared.node.Node.{Node}
use Rattle.source_trees.specs.declared.node.Name.{Name}
use Rattle.source_trees.specs.declared.expression.Commas.{Commas}
use Rattle.source_trees.specs.declared.expression.Expr.{Expr, Expr-F, roll-Expr, ind-Expr}
use Rattle.source_trees.specs.declared.expression.Expr.TheOpen.{Comparison-F}
use Rattle.source_trees.specs.declared.expression.Expr.TheFolds.{map-Expr, map-Comparison}
use Rattle.source_trees.specs.declared.expression.Expr.TheVariants as expr
use Rattle.source_trees.specs.declared.expression.Comparison.{Comparison, roll-Comparison}
use Rattle.source_trees.specs.declared.item.Annotation.{Annotation, Annotation-F, roll-Annotation, ind-Annotation, map-Annotation}
use Rattle.source_trees.specs.declared.item.Annotation.TheVariants as annotation
use Rattle.source_trees.specs.declared.item.Class.{Class}
use Rattle.source_trees.specs.declared.item.Function.{Function}
use Rattle.source_trees.specs.declared.item.Item.{Item}
use Rattle.source_trees.specs.declared.item.Item.TheVariants as item
use Rattle.source_trees.specs.declared.item.Member.{Member}
use Rattle.source_trees.specs.declared.item.Member.TheVariants as member
use Rattle.source_trees.specs.declared.item.Module.{Module}
use Rattle.source_trees.specs.declared.item.Param.{Param}
use Rattle.source_trees.specs.declared.pipeline.PrintOptions.{PrintOptions}
use Rattle.source_trees.specs.declared.pipeline.PrintOptions.TheVariants as options
use Rattle.source_trees.specs.declared.pipeline.Printed.{Printed}
use Rattle.source_trees.specs.declared.pipeline.Stage.{Stage}
use Rattle.source_trees.specs.declared.pipeline.StageForm.{StageForm}
use Rattle.source_trees.specs.declared.pipeline.StageForm.TheVariants as form
use Rattle.source_trees.specs.declared.statement.Arm.{Arm, roll-Arm}
use Rattle.source_trees.specs.declared.statement.For.{For, roll-For}
use Rattle.source_trees.specs.declared.statement.LoopNames.{LoopNames}
use Rattle.source_trees.specs.declared.statement.LoopNames.TheVariants as names
use Rattle.source_trees.specs.declared.statement.ParOptions.{ParOptions}
use Rattle.source_trees.specs.declared.statement.Stmt.{Stmt, Stmt-F, roll-Stmt, ind-Stmt}
use Rattle.source_trees.specs.declared.statement.Stmt.TheOpen.{Arm-F, For-F}
use Rattle.source_trees.specs.declared.statement.Stmt.TheFolds.{map-Stmt, map-Arm, map-For}
use Rattle.source_trees.specs.declared.statement.Stmt.TheVariants as stmt
use Rattle.source_trees.specs.declared.statement.Target.{Target}
use Rattle.source_trees.specs.declared.statement.Target.TheVariants as target
use Rattle.source_trees.specs.declared.statement.Targets.{Targets}
use Rattle.source_trees.specs.declared.statement.Targets.TheVariants as targets
use Rattle.source_trees.specs.Bare.{bare, bare_name, bare_loop_names, bare_expr, bare_comparison, bare_optional, bare_annotation, bare_target, bare_targets, bare_print_options, bare_printed, bare_stage_form, bare_stage, bare_stmt, bare_arm, bare_for, bare_param, bare_function, bare_member, bare_class, bare_item, bare_module}
use Rattle.source_trees.specs.Nodes.{joined, before_parts, nodes_of_expr, nodes_of_annotation, nodes_of_target, nodes_of_targets, nodes_of_stage, nodes_of_stmt, nodes_of_for, nodes_of_param, nodes_of_function, nodes_of_member, nodes_of_class, nodes_of_item, numbers_from, IsNumbered}
use Rattle.source_trees.specs.Parts.{optional, of_name, of_loop_names, of_comparison, of_optional_expr, of_optional_annotation, of_print_options, of_printed, of_stage_form, of_arm}
use Rattle.source_trees.proofs.Equations as q
use Rattle.source_trees.proofs.BareForms as shape
use Rattle.std.proofs.lemmas.List.{append-nil, length-append}
use Rattle.bare_trees.proofs.Restore.{Each, each_by, ids, ids_append, joined_append}

-- ---- numbers in a row

-- the numbers of these nodes are the first, the next one and so on
abbrev Numbered : ℕ → List Node → Type 0
Numbered k nodes = ids nodes ≡ numbers_from k (length nodes)

numbers_split : (k a c : ℕ) → numbers_from k a ++ numbers_from (k + a) c ≡ numbers_from k (a + c)
numbers_split k zero c = let e : k + 0 ≡ k = omega arith in let d : c ≡ 0 + c = omega arith in ap (λ z. numbers_from z c) e ∙ ap (numbers_from k) d
numbers_split k (suc a) c =
    let e : k + suc a ≡ suc k + a = omega arith in
    let d : suc (a + c) ≡ suc a + c = omega arith in
    ap (λ z. k ∷ (numbers_from (suc k) a ++ numbers_from z c)) e ∙ ap (λ z. k ∷ z) (numbers_split (suc k) a c) ∙ ap (numbers_from k) d

numbered_append : (k : ℕ) (a c : List Node) → Numbered k a → Numbered (k + length a) c → Numbered k (a ++ c)
numbered_append k a c p r =
    let d : length a + length c ≡ length (a ++ c) = sym (length-append a c) in
    ids_append a c ∙ ap (λ z. z ++ ids c) p ∙ ap (λ z. numbers_from k (length a) ++ z) r ∙ numbers_split k (length a) (length c) ∙ ap (numbers_from k) d

-- At each number there is a value that is this one when it is bare, whose parts have the numbers from it on.
abbrev pub Supply : {X Y : Type 0} → (X → Y) → (X → List (List Node)) → Y → Type 0
Supply {X} bared parts goal = (k : ℕ) → (x : X) × (bared x ≡ goal) × Numbered k (joined (parts x))

-- one part
abbrev pub single_part : {X : Type 0} → (X → List Node) → X → List (List Node)
single_part nodes x = nodes x ∷ []

abbrev pub both_bare : {X Y V W : Type 0} → (X → Y) → (V → W) → X × V → Y × W
both_bare b c z = (b z.0, c z.1)

abbrev pub both_parts : {X V : Type 0} → (X → List (List Node)) → (V → List (List Node)) → X × V → List (List Node)
both_parts p r z = p z.0 ++ r z.1

pairs : {X Y V W : Type 0} (b : X → Y) (p : X → List (List Node)) (y : Y) (c : V → W) (r : V → List (List Node)) (w : W) → Supply b p y → Supply c r w
    → Supply {Y = Y × W} (both_bare b c) (both_parts p r) (y, w)
pairs b p y c r w f g k =
    let h = f k in
    let i = g (k + length (joined (p h.0))) in
    let P : List Node → Type 0 = λ z. Numbered k z in (
      (h.0, i.0),
      ap (λ z. (z, c i.0)) h.1 ∙ ap (λ z. (y, z)) i.1,
      subst P (sym (joined_append (p h.0) (r i.0))) (numbered_append k (joined (p h.0)) (joined (r i.0)) h.2 i.2),
    )

-- the same of one part
abbrev pub One : {X Y : Type 0} → (X → Y) → (X → List Node) → Y → Type 0
One bared nodes goal = Supply bared (single_part nodes) goal

mapped : {X V Y : Type 0} (make : V → X) (bared : X → Y) (parts : X → List (List Node)) (goal : Y) {W : Type 0} (b : V → W) (p : V → List (List Node)) (w : W) (again : W → Y)
    → ((v : V) → bared (make v) ≡ again (b v)) → ((v : V) → joined (parts (make v)) ≡ joined (p v)) → again w ≡ goal → Supply b p w → Supply bared parts goal
mapped make bared parts goal b p w again e d g f k =
    let h = f k in
    let P : List Node → Type 0 = λ z. Numbered k z in
    (make h.0, e h.0 ∙ ap again h.1 ∙ g, subst P (sym (d h.0)) h.2)

-- a node and its parts
under : {X V Y : Type 0} (n : Node) (make : Node → V → X) (bared : X → Y) (nodes : X → List Node) (goal : Y) {W : Type 0} (b : V → W) (p : V → List (List Node)) (w : W) (again : Node → W → Y)
    → ((m : Node) (v : V) → bared (make m v) ≡ again (bare m) (b v)) → ((m : Node) (v : V) → nodes (make m v) ≡ m ∷ joined (p v)) → again (bare n) w ≡ goal → Supply b p w → One bared nodes goal
under n make bared nodes goal b p w again e d g f k =
    let h = f (suc k) in
    let m : Node = record { id = record { 0 = k }; at = n.at } in
    let P : List Node → Type 0 = λ z. Numbered k z in
    let i : Numbered k (m ∷ joined (p h.0)) = ap (λ z. k ∷ z) h.2 in
    (make m h.0, e m h.0 ∙ ap (again (bare n)) h.1 ∙ g, subst P (sym (append-nil (nodes (make m h.0)) ∙ d m h.0)) i)

abbrev cons_of : {X : Type 0} → X × List X → List X
cons_of v = v.0 ∷ v.1

lists : {X Y : Type 0} (bared : X → Y) (nodes : X → List Node) (xs : List X) → Each (λ x. One bared nodes (bared x)) xs → Supply (map bared) (map nodes) (map bared xs)
lists bared nodes [] h = λ k. ([], refl, refl)
lists bared nodes (x ∷ xs) h =
    mapped cons_of (map bared) (map nodes) (map bared (x ∷ xs)) (both_bare bared (map bared)) (both_parts (single_part nodes) (map nodes)) (bared x, map bared xs) cons_of
    (λ v. refl) (λ v. refl) refl (pairs bared (single_part nodes) (bared x) (map bared) (map nodes) (map bared xs) h.0 (lists bared nodes xs h.1))

none_at : Supply (λ (z : Unit {0}). z) (λ (z : Unit {0}). []) tt
none_at k = (tt, refl, refl)

-- ---- names

name_one : (f : Name) → One bare_name (of_name before_parts) (bare_name f)
name_one f =
    under f.node (λ m (v : Unit {0}). record { node = m; spelling = f.spelling }) bare_name (of_name before_parts) (bare_name f) (λ (z : Unit {0}). z) (λ (z : Unit {0}). []) tt (λ m w. record { node = m; spelling = f.spelling })
    (λ m v. refl) (λ m v. refl) refl none_at

names_some : (ns : LoopNames) → Supply bare_loop_names (of_loop_names before_parts) (bare_loop_names ns)
names_some (names.One f) =
    mapped names.One bare_loop_names (of_loop_names before_parts) (names.One (bare_name f)) bare_name (single_part (of_name before_parts)) (bare_name f) names.One (λ v. refl) (λ v. refl) refl (name_one f)
names_some (names.Several fs) =
    mapped names.Several bare_loop_names (of_loop_names before_parts) (names.Several (map bare_name fs)) (map bare_name) (map (of_name before_parts)) (map bare_name fs) names.Several (λ v. refl) (λ v. refl) refl
    (lists bare_name (of_name before_parts) fs (each_by _ name_one fs))

-- ---- expressions

abbrev pub HasExpr : Expr → Type 0
HasExpr x = One bare_expr nodes_of_expr (bare_expr x)

abbrev HasComparison : Comparison → Type 0
HasComparison c = One bare_comparison (of_comparison before_parts) (bare_comparison c)

abbrev HasOption : Option Expr → Type 0
HasOption None = Unit {0}
HasOption (Some x) = HasExpr x

abbrev maybe_nodes : Option Expr → List (List Node)
maybe_nodes o = optional (option_map nodes_of_expr o)

option_some : (o : Option Expr) → HasOption o → Supply (bare_optional bare_expr) maybe_nodes (bare_optional bare_expr o)
option_some None h = λ k. (None, refl, refl)
option_some (Some x) h = mapped Some (bare_optional bare_expr) maybe_nodes (Some (bare_expr x)) bare_expr (single_part nodes_of_expr) (bare_expr x) Some (λ v. refl) (λ v. refl) refl h

case_Name : (n : Node) (s : List ℕ) → HasExpr (expr.Name n s)
case_Name n s =
    under n (λ m (v : Unit {0}). expr.Name m s) bare_expr nodes_of_expr (bare_expr (expr.Name n s)) (λ (z : Unit {0}). z) (λ (z : Unit {0}). []) tt (λ m (v : Unit {0}). expr.Name m s)
    (λ m v. shape.expr_Name m s) (λ m v. q.expr_Name before_parts m s) (sym (shape.expr_Name n s)) none_at

case_Number : (n : Node) (s : ℤ) → HasExpr (expr.Number n s)
case_Number n s =
    under n (λ m (v : Unit {0}). expr.Number m s) bare_expr nodes_of_expr (bare_expr (expr.Number n s)) (λ (z : Unit {0}). z) (λ (z : Unit {0}). []) tt (λ m (v : Unit {0}). expr.Number m s)
    (λ m v. shape.expr_Number m s) (λ m v. q.expr_Number before_parts m s) (sym (shape.expr_Number n s)) none_at

case_Text : (n : Node) (s : List ℕ) → HasExpr (expr.Text n s)
case_Text n s =
    under n (λ m (v : Unit {0}). expr.Text m s) bare_expr nodes_of_expr (bare_expr (expr.Text n s)) (λ (z : Unit {0}). z) (λ (z : Unit {0}). []) tt (λ m (v : Unit {0}). expr.Text m s)
    (λ m v. shape.expr_Text m s) (λ m v. q.expr_Text before_parts m s) (sym (shape.expr_Text n s)) none_at

case_True : (n : Node) → HasExpr (expr.True n)
case_True n =
    under n (λ m (v : Unit {0}). expr.True m) bare_expr nodes_of_expr (bare_expr (expr.True n)) (λ (z : Unit {0}). z) (λ (z : Unit {0}). []) tt (λ m (v : Unit {0}). expr.True m)
    (λ m v. shape.expr_True m) (λ m v. q.expr_True before_parts m) (sym (shape.expr_True n)) none_at

case_False : (n : Node) → HasExpr (expr.False n)
case_False n =
    under n (λ m (v : Unit {0}). expr.False m) bare_expr nodes_of_expr (bare_expr (expr.False n)) (λ (z : Unit {0}). z) (λ (z : Unit {0}). []) tt (λ m (v : Unit {0}). expr.False m)
    (λ m v. shape.expr_False m) (λ m v. q.expr_False before_parts m) (sym (shape.expr_False n)) none_at

case_None : (n : Node) → HasExpr (expr.None n)
case_None n =
    under n (λ m (v : Unit {0}). expr.None m) bare_expr nodes_of_expr (bare_expr (expr.None n)) (λ (z : Unit {0}). z) (λ (z : Unit {0}). []) tt (λ m (v : Unit {0}). expr.None m)
    (λ m v. shape.expr_None m) (λ m v. q.expr_None before_parts m) (sym (shape.expr_None n)) none_at

case_Bracketed : (n : Node) (x : Expr) → HasExpr x → HasExpr (expr.Bracketed n x)
case_Bracketed n x hx =
    under n (λ m (v : Expr). expr.Bracketed m v) bare_expr nodes_of_expr (bare_expr (expr.Bracketed n x)) bare_expr (single_part nodes_of_expr) (bare_expr x) (λ m (v : Expr). expr.Bracketed m v)
    (λ m v. shape.expr_Bracketed m v) (λ m v. q.expr_Bracketed before_parts m v) (sym (shape.expr_Bracketed n x)) hx

case_Tuple : (n : Node) (c : Commas) (xs : List Expr) → Each HasExpr xs → HasExpr (expr.Tuple n c xs)
case_Tuple n c xs hxs =
    under n (λ m (v : List Expr). expr.Tuple m c v) bare_expr nodes_of_expr (bare_expr (expr.Tuple n c xs)) (map bare_expr) (map nodes_of_expr) (map bare_expr xs) (λ m (v : List Expr). expr.Tuple m c v)
    (λ m v. shape.expr_Tuple m c v) (λ m v. q.expr_Tuple before_parts m c v) (sym (shape.expr_Tuple n c xs)) (lists bare_expr nodes_of_expr xs hxs)

case_List : (n : Node) (xs : List Expr) → Each HasExpr xs → HasExpr (expr.List n xs)
case_List n xs hxs =
    under n (λ m (v : List Expr). expr.List m v) bare_expr nodes_of_expr (bare_expr (expr.List n xs)) (map bare_expr) (map nodes_of_expr) (map bare_expr xs) (λ m (v : List Expr). expr.List m v)
    (λ m v. shape.expr_List m v) (λ m v. q.expr_List before_parts m v) (sym (shape.expr_List n xs)) (lists bare_expr nodes_of_expr xs hxs)

case_Comprehension : (n : Node) (x : Expr) (ns : LoopNames) (y : Expr) (z : Option Expr) → HasExpr x → HasExpr y → HasOption z → HasExpr (expr.Comprehension n x ns y z)
case_Comprehension n x ns y z hx hy hz =
    under n (λ m (v : Expr × (LoopNames × (Expr × (Option Expr)))). expr.Comprehension m v.0 v.1.0 v.1.1.0 v.1.1.1) bare_expr nodes_of_expr (bare_expr (expr.Comprehension n x ns y z)) (both_bare bare_expr (both_bare bare_loop_names (both_bare bare_expr (bare_optional bare_expr)))) (both_parts (single_part nodes_of_expr) (both_parts (of_loop_names before_parts) (both_parts (single_part nodes_of_expr) maybe_nodes))) ((bare_expr x), ((bare_loop_names ns), ((bare_expr y), (bare_optional bare_expr z)))) (λ m (v : Expr × (LoopNames × (Expr × (Option Expr)))). expr.Comprehension m v.0 v.1.0 v.1.1.0 v.1.1.1)
    (λ m v. shape.expr_Comprehension m v.0 v.1.0 v.1.1.0 v.1.1.1) (λ m v. q.expr_Comprehension before_parts m v.0 v.1.0 v.1.1.0 v.1.1.1) (sym (shape.expr_Comprehension n x ns y z)) (pairs bare_expr (single_part nodes_of_expr) (bare_expr x) (both_bare bare_loop_names (both_bare bare_expr (bare_optional bare_expr))) (both_parts (of_loop_names before_parts) (both_parts (single_part nodes_of_expr) maybe_nodes)) ((bare_loop_names ns), ((bare_expr y), (bare_optional bare_expr z))) hx (pairs bare_loop_names (of_loop_names before_parts) (bare_loop_names ns) (both_bare bare_expr (bare_optional bare_expr)) (both_parts (single_part nodes_of_expr) maybe_nodes) ((bare_expr y), (bare_optional bare_expr z)) (names_some ns) (pairs bare_expr (single_part nodes_of_expr) (bare_expr y) (bare_optional bare_expr) maybe_nodes (bare_optional bare_expr z) hy (option_some z hz))))

case_Conditional : (n : Node) (x : Expr) (y : Expr) (z : Expr) → HasExpr x → HasExpr y → HasExpr z → HasExpr (expr.Conditional n x y z)
case_Conditional n x y z hx hy hz =
    under n (λ m (v : Expr × (Expr × Expr)). expr.Conditional m v.0 v.1.0 v.1.1) bare_expr nodes_of_expr (bare_expr (expr.Conditional n x y z)) (both_bare bare_expr (both_bare bare_expr bare_expr)) (both_parts (single_part nodes_of_expr) (both_parts (single_part nodes_of_expr) (single_part nodes_of_expr))) ((bare_expr x), ((bare_expr y), (bare_expr z))) (λ m (v : Expr × (Expr × Expr)). expr.Conditional m v.0 v.1.0 v.1.1)
    (λ m v. shape.expr_Conditional m v.0 v.1.0 v.1.1) (λ m v. q.expr_Conditional before_parts m v.0 v.1.0 v.1.1) (sym (shape.expr_Conditional n x y z)) (pairs bare_expr (single_part nodes_of_expr) (bare_expr x) (both_bare bare_expr bare_expr) (both_parts (single_part nodes_of_expr) (single_part nodes_of_expr)) ((bare_expr y), (bare_expr z)) hx (pairs bare_expr (single_part nodes_of_expr) (bare_expr y) bare_expr (single_part nodes_of_expr) (bare_expr z) hy hz))

case_Or : (n : Node) (xs : List Expr) → Each HasExpr xs → HasExpr (expr.Or n xs)
case_Or n xs hxs =
    under n (λ m (v : List Expr). expr.Or m v) bare_expr nodes_of_expr (bare_expr (expr.Or n xs)) (map bare_expr) (map nodes_of_expr) (map bare_expr xs) (λ m (v : List Expr). expr.Or m v)
    (λ m v. shape.expr_Or m v) (λ m v. q.expr_Or before_parts m v) (sym (shape.expr_Or n xs)) (lists bare_expr nodes_of_expr xs hxs)

case_And : (n : Node) (xs : List Expr) → Each HasExpr xs → HasExpr (expr.And n xs)
case_And n xs hxs =
    under n (λ m (v : List Expr). expr.And m v) bare_expr nodes_of_expr (bare_expr (expr.And n xs)) (map bare_expr) (map nodes_of_expr) (map bare_expr xs) (λ m (v : List Expr). expr.And m v)
    (λ m v. shape.expr_And m v) (λ m v. q.expr_And before_parts m v) (sym (shape.expr_And n xs)) (lists bare_expr nodes_of_expr xs hxs)

case_Not : (n : Node) (x : Expr) → HasExpr x → HasExpr (expr.Not n x)
case_Not n x hx =
    under n (λ m (v : Expr). expr.Not m v) bare_expr nodes_of_expr (bare_expr (expr.Not n x)) bare_expr (single_part nodes_of_expr) (bare_expr x) (λ m (v : Expr). expr.Not m v)
    (λ m v. shape.expr_Not m v) (λ m v. q.expr_Not before_parts m v) (sym (shape.expr_Not n x)) hx

case_Compare : (n : Node) (x : Expr) (cs : List Comparison) → HasExpr x → Each HasComparison cs → HasExpr (expr.Compare n x cs)
case_Compare n x cs hx hcs =
    under n (λ m (v : Expr × (List Comparison)). expr.Compare m v.0 v.1) bare_expr nodes_of_expr (bare_expr (expr.Compare n x cs)) (both_bare bare_expr (map bare_comparison)) (both_parts (single_part nodes_of_expr) (map (of_comparison before_parts))) ((bare_expr x), (map bare_comparison cs)) (λ m (v : Expr × (List Comparison)). expr.Compare m v.0 v.1)
    (λ m v. shape.expr_Compare m v.0 v.1) (λ m v. q.expr_Compare before_parts m v.0 v.1) (sym (shape.expr_Compare n x cs)) (pairs bare_expr (single_part nodes_of_expr) (bare_expr x) (map bare_comparison) (map (of_comparison before_parts)) (map bare_comparison cs) hx (lists bare_comparison (of_comparison before_parts) cs hcs))

case_Unary : (n : Node) (o : UnaryOp) (x : Expr) → HasExpr x → HasExpr (expr.Unary n o x)
case_Unary n o x hx =
    under n (λ m (v : Expr). expr.Unary m o v) bare_expr nodes_of_expr (bare_expr (expr.Unary n o x)) bare_expr (single_part nodes_of_expr) (bare_expr x) (λ m (v : Expr). expr.Unary m o v)
    (λ m v. shape.expr_Unary m o v) (λ m v. q.expr_Unary before_parts m o v) (sym (shape.expr_Unary n o x)) hx

case_Binary : (n : Node) (o : BinaryOp) (x : Expr) (y : Expr) → HasExpr x → HasExpr y → HasExpr (expr.Binary n o x y)
case_Binary n o x y hx hy =
    under n (λ m (v : Expr × Expr). expr.Binary m o v.0 v.1) bare_expr nodes_of_expr (bare_expr (expr.Binary n o x y)) (both_bare bare_expr bare_expr) (both_parts (single_part nodes_of_expr) (single_part nodes_of_expr)) ((bare_expr x), (bare_expr y)) (λ m (v : Expr × Expr). expr.Binary m o v.0 v.1)
    (λ m v. shape.expr_Binary m o v.0 v.1) (λ m v. q.expr_Binary before_parts m o v.0 v.1) (sym (shape.expr_Binary n o x y)) (pairs bare_expr (single_part nodes_of_expr) (bare_expr x) bare_expr (single_part nodes_of_expr) (bare_expr y) hx hy)

case_Call : (n : Node) (f : Name) (xs : List Expr) → Each HasExpr xs → HasExpr (expr.Call n f xs)
case_Call n f xs hxs =
    under n (λ m (v : Name × (List Expr)). expr.Call m v.0 v.1) bare_expr nodes_of_expr (bare_expr (expr.Call n f xs)) (both_bare bare_name (map bare_expr)) (both_parts (single_part (of_name before_parts)) (map nodes_of_expr)) ((bare_name f), (map bare_expr xs)) (λ m (v : Name × (List Expr)). expr.Call m v.0 v.1)
    (λ m v. shape.expr_Call m v.0 v.1) (λ m v. q.expr_Call before_parts m v.0 v.1) (sym (shape.expr_Call n f xs)) (pairs bare_name (single_part (of_name before_parts)) (bare_name f) (map bare_expr) (map nodes_of_expr) (map bare_expr xs) (name_one f) (lists bare_expr nodes_of_expr xs hxs))

abbrev method_nodes : Node × Expr → List Node
method_nodes z = z.0 ∷ joined (nodes_of_expr z.1 ∷ [])

abbrev bare_method : Node × Expr → Node × Expr
bare_method z = (bare z.0, bare_expr z.1)

method_one : (m : Node) (x : Expr) → HasExpr x → One bare_method method_nodes (bare m, bare_expr x)
method_one m x h = under m (λ n (v : Expr). (n, v)) bare_method method_nodes (bare m, bare_expr x) bare_expr (single_part nodes_of_expr) (bare_expr x) (λ n v. (n, v)) (λ n v. refl) (λ n v. refl) refl h

abbrev called : Node → List ℕ → (Node × Expr) × List Expr → Expr
called n s v = expr.MethodCall n v.0.0 v.0.1 s v.1

case_MethodCall : (n : Node) (m : Node) (x : Expr) (s : List ℕ) (xs : List Expr) → HasExpr x → Each HasExpr xs → HasExpr (expr.MethodCall n m x s xs)
case_MethodCall n m x s xs hx hxs =
    under n (λ n v. called n s v) bare_expr nodes_of_expr (bare_expr (expr.MethodCall n m x s xs)) (both_bare bare_method (map bare_expr)) (both_parts (single_part method_nodes) (map nodes_of_expr)) ((bare m, bare_expr x), map bare_expr xs) (λ n v. called n s v)
    (λ k v. shape.expr_MethodCall k v.0.0 v.0.1 s v.1) (λ k v. q.expr_MethodCall before_parts k v.0.0 v.0.1 s v.1) (sym (shape.expr_MethodCall n m x s xs))
    (pairs bare_method (single_part method_nodes) (bare m, bare_expr x) (map bare_expr) (map nodes_of_expr) (map bare_expr xs) (method_one m x hx) (lists bare_expr nodes_of_expr xs hxs))

case_Index : (n : Node) (x : Expr) (y : Expr) → HasExpr x → HasExpr y → HasExpr (expr.Index n x y)
case_Index n x y hx hy =
    under n (λ m (v : Expr × Expr). expr.Index m v.0 v.1) bare_expr nodes_of_expr (bare_expr (expr.Index n x y)) (both_bare bare_expr bare_expr) (both_parts (single_part nodes_of_expr) (single_part nodes_of_expr)) ((bare_expr x), (bare_expr y)) (λ m (v : Expr × Expr). expr.Index m v.0 v.1)
    (λ m v. shape.expr_Index m v.0 v.1) (λ m v. q.expr_Index before_parts m v.0 v.1) (sym (shape.expr_Index n x y)) (pairs bare_expr (single_part nodes_of_expr) (bare_expr x) bare_expr (single_part nodes_of_expr) (bare_expr y) hx hy)

case_Slice : (n : Node) (x : Expr) (y : Option Expr) (z : Option Expr) → HasExpr x → HasOption y → HasOption z → HasExpr (expr.Slice n x y z)
case_Slice n x y z hx hy hz =
    under n (λ m (v : Expr × ((Option Expr) × (Option Expr))). expr.Slice m v.0 v.1.0 v.1.1) bare_expr nodes_of_expr (bare_expr (expr.Slice n x y z)) (both_bare bare_expr (both_bare (bare_optional bare_expr) (bare_optional bare_expr))) (both_parts (single_part nodes_of_expr) (both_parts maybe_nodes maybe_nodes)) ((bare_expr x), ((bare_optional bare_expr y), (bare_optional bare_expr z))) (λ m (v : Expr × ((Option Expr) × (Option Expr))). expr.Slice m v.0 v.1.0 v.1.1)
    (λ m v. shape.expr_Slice m v.0 v.1.0 v.1.1) (λ m v. q.expr_Slice before_parts m v.0 v.1.0 v.1.1) (sym (shape.expr_Slice n x y z)) (pairs bare_expr (single_part nodes_of_expr) (bare_expr x) (both_bare (bare_optional bare_expr) (bare_optional bare_expr)) (both_parts maybe_nodes maybe_nodes) ((bare_optional bare_expr y), (bare_optional bare_expr z)) hx (pairs (bare_optional bare_expr) maybe_nodes (bare_optional bare_expr y) (bare_optional bare_expr) maybe_nodes (bare_optional bare_expr z) (option_some y hy) (option_some z hz)))

case_Field : (n : Node) (x : Expr) (s : List ℕ) → HasExpr x → HasExpr (expr.Field n x s)
case_Field n x s hx =
    under n (λ m (v : Expr). expr.Field m v s) bare_expr nodes_of_expr (bare_expr (expr.Field n x s)) bare_expr (single_part nodes_of_expr) (bare_expr x) (λ m (v : Expr). expr.Field m v s)
    (λ m v. shape.expr_Field m v s) (λ m v. q.expr_Field before_parts m v s) (sym (shape.expr_Field n x s)) hx

abbrev Part : Type 0
Part = (x : Expr) × HasExpr x

abbrev Link : Type 0
Link = (c : Comparison) × HasComparison c

abbrev tree : Part → Expr
tree p = p.0

abbrev link : Link → Comparison
link p = p.0

each_part : (ps : List Part) → Each HasExpr (map tree ps)
each_part [] = tt
each_part (p ∷ ps) = (p.1, each_part ps)

each_link : (ps : List Link) → Each HasComparison (map link ps)
each_link [] = tt
each_link (p ∷ ps) = (p.1, each_link ps)

form_has : (y : Expr-F Part Link) → HasExpr (roll-Expr (map-Expr Part Link Expr Comparison tree link y))
form_has (Expr-F.Name n s) = subst HasExpr (sym (expr.rolls-Name n s)) (case_Name n s)
form_has (Expr-F.Number n s) = subst HasExpr (sym (expr.rolls-Number n s)) (case_Number n s)
form_has (Expr-F.Text n s) = subst HasExpr (sym (expr.rolls-Text n s)) (case_Text n s)
form_has (Expr-F.True n) = subst HasExpr (sym (expr.rolls-True n)) (case_True n)
form_has (Expr-F.False n) = subst HasExpr (sym (expr.rolls-False n)) (case_False n)
form_has (Expr-F.None n) = subst HasExpr (sym (expr.rolls-None n)) (case_None n)
form_has (Expr-F.Bracketed n x) = subst HasExpr (sym (expr.rolls-Bracketed n x.0)) (case_Bracketed n x.0 x.1)
form_has (Expr-F.Tuple n c xs) = subst HasExpr (sym (expr.rolls-Tuple n c (map tree xs))) (case_Tuple n c (map tree xs) (each_part xs))
form_has (Expr-F.List n xs) = subst HasExpr (sym (expr.rolls-List n (map tree xs))) (case_List n (map tree xs) (each_part xs))
form_has (Expr-F.Comprehension n x ns y None) = subst HasExpr (sym (expr.rolls-Comprehension n x.0 ns y.0 None)) (case_Comprehension n x.0 ns y.0 None x.1 y.1 tt)
form_has (Expr-F.Comprehension n x ns y (Some z)) = subst HasExpr (sym (expr.rolls-Comprehension n x.0 ns y.0 (Some z.0))) (case_Comprehension n x.0 ns y.0 (Some z.0) x.1 y.1 z.1)
form_has (Expr-F.Conditional n x y z) = subst HasExpr (sym (expr.rolls-Conditional n x.0 y.0 z.0)) (case_Conditional n x.0 y.0 z.0 x.1 y.1 z.1)
form_has (Expr-F.Or n xs) = subst HasExpr (sym (expr.rolls-Or n (map tree xs))) (case_Or n (map tree xs) (each_part xs))
form_has (Expr-F.And n xs) = subst HasExpr (sym (expr.rolls-And n (map tree xs))) (case_And n (map tree xs) (each_part xs))
form_has (Expr-F.Not n x) = subst HasExpr (sym (expr.rolls-Not n x.0)) (case_Not n x.0 x.1)
form_has (Expr-F.Compare n x cs) = subst HasExpr (sym (expr.rolls-Compare n x.0 (map link cs))) (case_Compare n x.0 (map link cs) x.1 (each_link cs))
form_has (Expr-F.Unary n o x) = subst HasExpr (sym (expr.rolls-Unary n o x.0)) (case_Unary n o x.0 x.1)
form_has (Expr-F.Binary n o x y) = subst HasExpr (sym (expr.rolls-Binary n o x.0 y.0)) (case_Binary n o x.0 y.0 x.1 y.1)
form_has (Expr-F.Call n f xs) = subst HasExpr (sym (expr.rolls-Call n f (map tree xs))) (case_Call n f (map tree xs) (each_part xs))
form_has (Expr-F.MethodCall n m x s xs) = subst HasExpr (sym (expr.rolls-MethodCall n m x.0 s (map tree xs))) (case_MethodCall n m x.0 s (map tree xs) x.1 (each_part xs))
form_has (Expr-F.Index n x y) = subst HasExpr (sym (expr.rolls-Index n x.0 y.0)) (case_Index n x.0 y.0 x.1 y.1)
form_has (Expr-F.Slice n x None None) = subst HasExpr (sym (expr.rolls-Slice n x.0 None None)) (case_Slice n x.0 None None x.1 tt tt)
form_has (Expr-F.Slice n x (Some y) None) = subst HasExpr (sym (expr.rolls-Slice n x.0 (Some y.0) None)) (case_Slice n x.0 (Some y.0) None x.1 y.1 tt)
form_has (Expr-F.Slice n x None (Some z)) = subst HasExpr (sym (expr.rolls-Slice n x.0 None (Some z.0))) (case_Slice n x.0 None (Some z.0) x.1 tt z.1)
form_has (Expr-F.Slice n x (Some y) (Some z)) = subst HasExpr (sym (expr.rolls-Slice n x.0 (Some y.0) (Some z.0))) (case_Slice n x.0 (Some y.0) (Some z.0) x.1 y.1 z.1)
form_has (Expr-F.Field n x s) = subst HasExpr (sym (expr.rolls-Field n x.0 s)) (case_Field n x.0 s x.1)

abbrev compared : Comparison → Expr → Comparison
compared c x = record { comparator = c.comparator; right = x }

comparison_by : (c : Comparison) → HasExpr c.right → HasComparison c
comparison_by c h =
    mapped (compared c) bare_comparison (single_part (of_comparison before_parts)) (bare_comparison c) bare_expr (single_part nodes_of_expr) (bare_expr c.right) (compared c)
    (λ v. shape.comparison_is (compared c v)) (λ v. ap (λ z. joined (z ∷ [])) (q.comparison_is before_parts (compared c v))) (sym (shape.comparison_is c)) h

link_has : (y : Comparison-F Part Link) → HasComparison (roll-Comparison (map-Comparison Part Link Expr Comparison tree link y))
link_has y = comparison_by (record { comparator = y.comparator; right = y.right.0 }) y.right.1

pub expr_one : (x : Expr) → HasExpr x
expr_one = ind-Expr HasExpr HasComparison (λ x y eq. subst (λ d. HasExpr (roll-Expr d)) eq (form_has y)) (λ x y eq. subst (λ d. HasComparison (roll-Comparison d)) eq (link_has y))

exprs_some : (xs : List Expr) → Supply (map bare_expr) (map nodes_of_expr) (map bare_expr xs)
exprs_some xs = lists bare_expr nodes_of_expr xs (each_by _ expr_one xs)

abbrev may_nodes : Option Expr → List (List Node)
may_nodes x = of_optional_expr before_parts x

maybe_some : (x : Option Expr) → Supply (bare_optional bare_expr) may_nodes (bare_optional bare_expr x)
maybe_some None = λ k. (None, refl, refl)
maybe_some (Some x) = mapped Some (bare_optional bare_expr) may_nodes (Some (bare_expr x)) bare_expr (single_part nodes_of_expr) (bare_expr x) Some (λ v. refl) (λ v. refl) refl (expr_one x)

-- ---- types

abbrev HasType : Annotation → Type 0
HasType x = One bare_annotation nodes_of_annotation (bare_annotation x)

type_Int : (n : Node) → HasType (annotation.Int n)
type_Int n =
    under n (λ m (v : Unit {0}). annotation.Int m) bare_annotation nodes_of_annotation (bare_annotation (annotation.Int n)) (λ (z : Unit {0}). z) (λ (z : Unit {0}). []) tt (λ m (v : Unit {0}). annotation.Int m)
    (λ m v. shape.annotation_Int m) (λ m v. q.annotation_Int before_parts m) (sym (shape.annotation_Int n)) none_at

type_Bool : (n : Node) → HasType (annotation.Bool n)
type_Bool n =
    under n (λ m (v : Unit {0}). annotation.Bool m) bare_annotation nodes_of_annotation (bare_annotation (annotation.Bool n)) (λ (z : Unit {0}). z) (λ (z : Unit {0}). []) tt (λ m (v : Unit {0}). annotation.Bool m)
    (λ m v. shape.annotation_Bool m) (λ m v. q.annotation_Bool before_parts m) (sym (shape.annotation_Bool n)) none_at

type_Str : (n : Node) → HasType (annotation.Str n)
type_Str n =
    under n (λ m (v : Unit {0}). annotation.Str m) bare_annotation nodes_of_annotation (bare_annotation (annotation.Str n)) (λ (z : Unit {0}). z) (λ (z : Unit {0}). []) tt (λ m (v : Unit {0}). annotation.Str m)
    (λ m v. shape.annotation_Str m) (λ m v. q.annotation_Str before_parts m) (sym (shape.annotation_Str n)) none_at

type_None : (n : Node) → HasType (annotation.None n)
type_None n =
    under n (λ m (v : Unit {0}). annotation.None m) bare_annotation nodes_of_annotation (bare_annotation (annotation.None n)) (λ (z : Unit {0}). z) (λ (z : Unit {0}). []) tt (λ m (v : Unit {0}). annotation.None m)
    (λ m v. shape.annotation_None m) (λ m v. q.annotation_None before_parts m) (sym (shape.annotation_None n)) none_at

type_Class : (n : Node) (s : List ℕ) → HasType (annotation.Class n s)
type_Class n s =
    under n (λ m (v : Unit {0}). annotation.Class m s) bare_annotation nodes_of_annotation (bare_annotation (annotation.Class n s)) (λ (z : Unit {0}). z) (λ (z : Unit {0}). []) tt (λ m (v : Unit {0}). annotation.Class m s)
    (λ m v. shape.annotation_Class m s) (λ m v. q.annotation_Class before_parts m s) (sym (shape.annotation_Class n s)) none_at

type_List : (n : Node) (x : Annotation) → HasType x → HasType (annotation.List n x)
type_List n x hx =
    under n (λ m (v : Annotation). annotation.List m v) bare_annotation nodes_of_annotation (bare_annotation (annotation.List n x)) bare_annotation (single_part nodes_of_annotation) (bare_annotation x) (λ m (v : Annotation). annotation.List m v)
    (λ m v. shape.annotation_List m v) (λ m v. q.annotation_List before_parts m v) (sym (shape.annotation_List n x)) hx

type_Tuple : (n : Node) (xs : List Annotation) → Each HasType xs → HasType (annotation.Tuple n xs)
type_Tuple n xs hxs =
    under n (λ m (v : List Annotation). annotation.Tuple m v) bare_annotation nodes_of_annotation (bare_annotation (annotation.Tuple n xs)) (map bare_annotation) (map nodes_of_annotation) (map bare_annotation xs) (λ m (v : List Annotation). annotation.Tuple m v)
    (λ m v. shape.annotation_Tuple m v) (λ m v. q.annotation_Tuple before_parts m v) (sym (shape.annotation_Tuple n xs)) (lists bare_annotation nodes_of_annotation xs hxs)

abbrev TypePart : Type 0
TypePart = (x : Annotation) × HasType x

abbrev type_tree : TypePart → Annotation
type_tree p = p.0

each_type : (ps : List TypePart) → Each HasType (map type_tree ps)
each_type [] = tt
each_type (p ∷ ps) = (p.1, each_type ps)

type_form : (y : Annotation-F TypePart) → HasType (roll-Annotation (map-Annotation TypePart Annotation type_tree y))
type_form (Annotation-F.Int n) = subst HasType (sym (annotation.rolls-Int n)) (type_Int n)
type_form (Annotation-F.Bool n) = subst HasType (sym (annotation.rolls-Bool n)) (type_Bool n)
type_form (Annotation-F.Str n) = subst HasType (sym (annotation.rolls-Str n)) (type_Str n)
type_form (Annotation-F.None n) = subst HasType (sym (annotation.rolls-None n)) (type_None n)
type_form (Annotation-F.Class n s) = subst HasType (sym (annotation.rolls-Class n s)) (type_Class n s)
type_form (Annotation-F.List n p) = subst HasType (sym (annotation.rolls-List n p.0)) (type_List n p.0 p.1)
type_form (Annotation-F.Tuple n ps) = subst HasType (sym (annotation.rolls-Tuple n (map type_tree ps))) (type_Tuple n (map type_tree ps) (each_type ps))

type_one : (x : Annotation) → HasType x
type_one = ind-Annotation HasType (λ x y eq. subst (λ d. HasType (roll-Annotation d)) eq (type_form y))

mark_some : (x : Option Annotation) → Supply (bare_optional bare_annotation) (of_optional_annotation before_parts) (bare_optional bare_annotation x)
mark_some None = λ k. (None, refl, refl)
mark_some (Some x) = mapped Some (bare_optional bare_annotation) (of_optional_annotation before_parts) (Some (bare_annotation x)) bare_annotation (single_part nodes_of_annotation) (bare_annotation x) Some (λ v. refl) (λ v. refl) refl (type_one x)

-- ---- targets, print and pipelines

two_exprs : (x y : Expr) → Supply (both_bare bare_expr bare_expr) (both_parts (single_part nodes_of_expr) (single_part nodes_of_expr)) (bare_expr x, bare_expr y)
two_exprs x y = pairs bare_expr (single_part nodes_of_expr) (bare_expr x) bare_expr (single_part nodes_of_expr) (bare_expr y) (expr_one x) (expr_one y)

target_one : (w : Target) → One bare_target nodes_of_target (bare_target w)
target_one (target.Name n s) =
    under n (λ m (v : Unit {0}). target.Name m s) bare_target nodes_of_target (target.Name (bare n) s) (λ (z : Unit {0}). z) (λ (z : Unit {0}). []) tt (λ m w. target.Name m s) (λ m v. refl) (λ m v. refl) refl none_at
target_one (target.Index n x y) =
    under n (λ m (v : Expr × Expr). target.Index m v.0 v.1) bare_target nodes_of_target (target.Index (bare n) (bare_expr x) (bare_expr y)) (both_bare bare_expr bare_expr) (both_parts (single_part nodes_of_expr) (single_part nodes_of_expr)) (bare_expr x, bare_expr y)
    (λ m w. target.Index m w.0 w.1) (λ m v. refl) (λ m v. refl) refl (two_exprs x y)
target_one (target.Field n x s) =
    under n (λ m (v : Expr). target.Field m v s) bare_target nodes_of_target (target.Field (bare n) (bare_expr x) s) bare_expr (single_part nodes_of_expr) (bare_expr x) (λ m w. target.Field m w s) (λ m v. refl) (λ m v. refl) refl (expr_one x)

targets_one : (w : Targets) → One bare_targets nodes_of_targets (bare_targets w)
targets_one (targets.One w) =
    mapped targets.One bare_targets (single_part nodes_of_targets) (targets.One (bare_target w)) bare_target (single_part nodes_of_target) (bare_target w) targets.One (λ v. refl) (λ v. refl) refl (target_one w)
targets_one (targets.Several n ws) =
    under n (λ m (v : List Target). targets.Several m v) bare_targets nodes_of_targets (targets.Several (bare n) (map bare_target ws)) (map bare_target) (map nodes_of_target) (map bare_target ws) (λ m w. targets.Several m w) (λ m v. refl) (λ m v. refl) refl
    (lists bare_target nodes_of_target ws (each_by _ target_one ws))

abbrev option_nodes : PrintOptions → List (List Node)
option_nodes x = of_print_options before_parts x

options_some : (x : PrintOptions) → Supply bare_print_options option_nodes (bare_print_options x)
options_some options.Neither = λ k. (options.Neither, refl, refl)
options_some (options.Sep x) = mapped options.Sep bare_print_options option_nodes (options.Sep (bare_expr x)) bare_expr (single_part nodes_of_expr) (bare_expr x) options.Sep (λ v. refl) (λ v. refl) refl (expr_one x)
options_some (options.End x) = mapped options.End bare_print_options option_nodes (options.End (bare_expr x)) bare_expr (single_part nodes_of_expr) (bare_expr x) options.End (λ v. refl) (λ v. refl) refl (expr_one x)
options_some (options.SepEnd x y) =
    mapped (λ (v : Expr × Expr). options.SepEnd v.0 v.1) bare_print_options option_nodes (options.SepEnd (bare_expr x) (bare_expr y)) (both_bare bare_expr bare_expr) (both_parts (single_part nodes_of_expr) (single_part nodes_of_expr)) (bare_expr x, bare_expr y)
    (λ (w : Expr × Expr). options.SepEnd w.0 w.1) (λ v. refl) (λ v. refl) refl (two_exprs x y)
options_some (options.EndSep x y) =
    mapped (λ (v : Expr × Expr). options.EndSep v.0 v.1) bare_print_options option_nodes (options.EndSep (bare_expr x) (bare_expr y)) (both_bare bare_expr bare_expr) (both_parts (single_part nodes_of_expr) (single_part nodes_of_expr)) (bare_expr x, bare_expr y)
    (λ (w : Expr × Expr). options.EndSep w.0 w.1) (λ v. refl) (λ v. refl) refl (two_exprs x y)

abbrev printed_of : List Expr × PrintOptions → Printed
printed_of v = record { values = v.0; options = v.1 }

abbrev printed_nodes : Printed → List (List Node)
printed_nodes x = of_printed before_parts x

printed_some : (p : Printed) → Supply bare_printed printed_nodes (bare_printed p)
printed_some p =
    mapped printed_of bare_printed printed_nodes (bare_printed p) (both_bare (map bare_expr) bare_print_options) (both_parts (map nodes_of_expr) option_nodes) (map bare_expr p.values, bare_print_options p.options) printed_of
    (λ v. refl) (λ v. refl) refl (pairs (map bare_expr) (map nodes_of_expr) (map bare_expr p.values) bare_print_options option_nodes (bare_print_options p.options) (exprs_some p.values) (options_some p.options))

abbrev form_nodes : StageForm → List (List Node)
form_nodes x = of_stage_form before_parts x

form_some : (g : StageForm) → Supply bare_stage_form form_nodes (bare_stage_form g)
form_some form.Iter = λ k. (form.Iter, refl, refl)
form_some (form.Call s xs ys) =
    mapped (λ (v : List Expr × List Expr). form.Call s v.0 v.1) bare_stage_form form_nodes (form.Call s (map bare_expr xs) (map bare_expr ys)) (both_bare (map bare_expr) (map bare_expr)) (both_parts (map nodes_of_expr) (map nodes_of_expr)) (map bare_expr xs, map bare_expr ys)
    (λ (w : List Expr × List Expr). form.Call s w.0 w.1) (λ v. refl) (λ v. refl) refl (pairs (map bare_expr) (map nodes_of_expr) (map bare_expr xs) (map bare_expr) (map nodes_of_expr) (map bare_expr ys) (exprs_some xs) (exprs_some ys))
form_some (form.Print p) = mapped form.Print bare_stage_form form_nodes (form.Print (bare_printed p)) bare_printed printed_nodes (bare_printed p) form.Print (λ v. refl) (λ v. refl) refl (printed_some p)

abbrev staged : Stage → Node → StageForm → Stage
staged s n g = record { node = n; joint = s.joint; form = g }

stage_one : (s : Stage) → One bare_stage nodes_of_stage (bare_stage s)
stage_one s = under s.node (staged s) bare_stage nodes_of_stage (bare_stage s) bare_stage_form form_nodes (bare_stage_form s.form) (staged s) (λ m v. refl) (λ m v. refl) refl (form_some s.form)

-- ---- statements

abbrev HasStmt : Stmt → Type 0
HasStmt s = One bare_stmt nodes_of_stmt (bare_stmt s)

abbrev arm_nodes : Arm → List (List Node)
arm_nodes x = of_arm before_parts x

abbrev HasArm : Arm → Type 0
HasArm a = Supply bare_arm arm_nodes (bare_arm a)

abbrev HasFor : For → Type 0
HasFor l = One bare_for nodes_of_for (bare_for l)

abbrev all_arms : List Arm → List (List Node)
all_arms arms = flat_map (λ arm. arm) (map (of_arm before_parts) arms)

arms_some : (arms : List Arm) → Each HasArm arms → Supply (map bare_arm) all_arms (map bare_arm arms)
arms_some [] h = λ k. ([], refl, refl)
arms_some (a ∷ arms) h =
    mapped (λ (v : Arm × List Arm). v.0 ∷ v.1) (map bare_arm) all_arms (map bare_arm (a ∷ arms)) (both_bare bare_arm (map bare_arm)) (both_parts arm_nodes all_arms) (bare_arm a, map bare_arm arms) (λ (w : Arm × List Arm). w.0 ∷ w.1)
    (λ v. refl) (λ v. refl) refl (pairs bare_arm arm_nodes (bare_arm a) (map bare_arm) all_arms (map bare_arm arms) h.0 (arms_some arms h.1))

stmt_Pass : (n : Node) → HasStmt (stmt.Pass n)
stmt_Pass n =
    under n (λ m (v : Unit {0}). stmt.Pass m) bare_stmt nodes_of_stmt (bare_stmt (stmt.Pass n)) (λ (z : Unit {0}). z) (λ (z : Unit {0}). []) tt (λ m (v : Unit {0}). stmt.Pass m)
    (λ m v. shape.stmt_Pass m) (λ m v. q.stmt_Pass before_parts m) (sym (shape.stmt_Pass n)) none_at

stmt_Break : (n : Node) → HasStmt (stmt.Break n)
stmt_Break n =
    under n (λ m (v : Unit {0}). stmt.Break m) bare_stmt nodes_of_stmt (bare_stmt (stmt.Break n)) (λ (z : Unit {0}). z) (λ (z : Unit {0}). []) tt (λ m (v : Unit {0}). stmt.Break m)
    (λ m v. shape.stmt_Break m) (λ m v. q.stmt_Break before_parts m) (sym (shape.stmt_Break n)) none_at

stmt_Continue : (n : Node) → HasStmt (stmt.Continue n)
stmt_Continue n =
    under n (λ m (v : Unit {0}). stmt.Continue m) bare_stmt nodes_of_stmt (bare_stmt (stmt.Continue n)) (λ (z : Unit {0}). z) (λ (z : Unit {0}). []) tt (λ m (v : Unit {0}). stmt.Continue m)
    (λ m v. shape.stmt_Continue m) (λ m v. q.stmt_Continue before_parts m) (sym (shape.stmt_Continue n)) none_at

stmt_Return : (n : Node) (x : Option Expr) → HasStmt (stmt.Return n x)
stmt_Return n x =
    under n (λ m (v : Option Expr). stmt.Return m v) bare_stmt nodes_of_stmt (bare_stmt (stmt.Return n x)) (bare_optional bare_expr) may_nodes (bare_optional bare_expr x) (λ m (v : Option Expr). stmt.Return m v)
    (λ m v. shape.stmt_Return m v) (λ m v. q.stmt_Return before_parts m v) (sym (shape.stmt_Return n x)) (maybe_some x)

stmt_Yield : (n : Node) (x : Expr) → HasStmt (stmt.Yield n x)
stmt_Yield n x =
    under n (λ m (v : Expr). stmt.Yield m v) bare_stmt nodes_of_stmt (bare_stmt (stmt.Yield n x)) bare_expr (single_part nodes_of_expr) (bare_expr x) (λ m (v : Expr). stmt.Yield m v)
    (λ m v. shape.stmt_Yield m v) (λ m v. q.stmt_Yield before_parts m v) (sym (shape.stmt_Yield n x)) (expr_one x)

stmt_Raise : (n : Node) (f : Name) (x : Option Expr) → HasStmt (stmt.Raise n f x)
stmt_Raise n f x =
    under n (λ m (v : Name × (Option Expr)). stmt.Raise m v.0 v.1) bare_stmt nodes_of_stmt (bare_stmt (stmt.Raise n f x)) (both_bare bare_name (bare_optional bare_expr)) (both_parts (single_part (of_name before_parts)) may_nodes) ((bare_name f), (bare_optional bare_expr x)) (λ m (v : Name × (Option Expr)). stmt.Raise m v.0 v.1)
    (λ m v. shape.stmt_Raise m v.0 v.1) (λ m v. q.stmt_Raise before_parts m v.0 v.1) (sym (shape.stmt_Raise n f x)) (pairs bare_name (single_part (of_name before_parts)) (bare_name f) (bare_optional bare_expr) may_nodes (bare_optional bare_expr x) (name_one f) (maybe_some x))

stmt_Assert : (n : Node) (x : Expr) (y : Option Expr) → HasStmt (stmt.Assert n x y)
stmt_Assert n x y =
    under n (λ m (v : Expr × (Option Expr)). stmt.Assert m v.0 v.1) bare_stmt nodes_of_stmt (bare_stmt (stmt.Assert n x y)) (both_bare bare_expr (bare_optional bare_expr)) (both_parts (single_part nodes_of_expr) may_nodes) ((bare_expr x), (bare_optional bare_expr y)) (λ m (v : Expr × (Option Expr)). stmt.Assert m v.0 v.1)
    (λ m v. shape.stmt_Assert m v.0 v.1) (λ m v. q.stmt_Assert before_parts m v.0 v.1) (sym (shape.stmt_Assert n x y)) (pairs bare_expr (single_part nodes_of_expr) (bare_expr x) (bare_optional bare_expr) may_nodes (bare_optional bare_expr y) (expr_one x) (maybe_some y))

stmt_Annotated : (n : Node) (f : Name) (t : Annotation) (x : Option Expr) → HasStmt (stmt.Annotated n f t x)
stmt_Annotated n f t x =
    under n (λ m (v : Name × (Annotation × (Option Expr))). stmt.Annotated m v.0 v.1.0 v.1.1) bare_stmt nodes_of_stmt (bare_stmt (stmt.Annotated n f t x)) (both_bare bare_name (both_bare bare_annotation (bare_optional bare_expr))) (both_parts (single_part (of_name before_parts)) (both_parts (single_part nodes_of_annotation) may_nodes)) ((bare_name f), ((bare_annotation t), (bare_optional bare_expr x))) (λ m (v : Name × (Annotation × (Option Expr))). stmt.Annotated m v.0 v.1.0 v.1.1)
    (λ m v. shape.stmt_Annotated m v.0 v.1.0 v.1.1) (λ m v. q.stmt_Annotated before_parts m v.0 v.1.0 v.1.1) (sym (shape.stmt_Annotated n f t x)) (pairs bare_name (single_part (of_name before_parts)) (bare_name f) (both_bare bare_annotation (bare_optional bare_expr)) (both_parts (single_part nodes_of_annotation) may_nodes) ((bare_annotation t), (bare_optional bare_expr x)) (name_one f) (pairs bare_annotation (single_part nodes_of_annotation) (bare_annotation t) (bare_optional bare_expr) may_nodes (bare_optional bare_expr x) (type_one t) (maybe_some x)))

stmt_Assign : (n : Node) (w : Targets) (x : Expr) → HasStmt (stmt.Assign n w x)
stmt_Assign n w x =
    under n (λ m (v : Targets × Expr). stmt.Assign m v.0 v.1) bare_stmt nodes_of_stmt (bare_stmt (stmt.Assign n w x)) (both_bare bare_targets bare_expr) (both_parts (single_part nodes_of_targets) (single_part nodes_of_expr)) ((bare_targets w), (bare_expr x)) (λ m (v : Targets × Expr). stmt.Assign m v.0 v.1)
    (λ m v. shape.stmt_Assign m v.0 v.1) (λ m v. q.stmt_Assign before_parts m v.0 v.1) (sym (shape.stmt_Assign n w x)) (pairs bare_targets (single_part nodes_of_targets) (bare_targets w) bare_expr (single_part nodes_of_expr) (bare_expr x) (targets_one w) (expr_one x))

stmt_Update : (n : Node) (w : Target) (o : BinaryOp) (x : Expr) → HasStmt (stmt.Update n w o x)
stmt_Update n w o x =
    under n (λ m (v : Target × Expr). stmt.Update m v.0 o v.1) bare_stmt nodes_of_stmt (bare_stmt (stmt.Update n w o x)) (both_bare bare_target bare_expr) (both_parts (single_part nodes_of_target) (single_part nodes_of_expr)) ((bare_target w), (bare_expr x)) (λ m (v : Target × Expr). stmt.Update m v.0 o v.1)
    (λ m v. shape.stmt_Update m v.0 o v.1) (λ m v. q.stmt_Update before_parts m v.0 o v.1) (sym (shape.stmt_Update n w o x)) (pairs bare_target (single_part nodes_of_target) (bare_target w) bare_expr (single_part nodes_of_expr) (bare_expr x) (target_one w) (expr_one x))

stmt_Evaluate : (n : Node) (x : Expr) → HasStmt (stmt.Evaluate n x)
stmt_Evaluate n x =
    under n (λ m (v : Expr). stmt.Evaluate m v) bare_stmt nodes_of_stmt (bare_stmt (stmt.Evaluate n x)) bare_expr (single_part nodes_of_expr) (bare_expr x) (λ m (v : Expr). stmt.Evaluate m v)
    (λ m v. shape.stmt_Evaluate m v) (λ m v. q.stmt_Evaluate before_parts m v) (sym (shape.stmt_Evaluate n x)) (expr_one x)

stmt_Print : (n : Node) (p : Printed) → HasStmt (stmt.Print n p)
stmt_Print n p =
    under n (λ m (v : Printed). stmt.Print m v) bare_stmt nodes_of_stmt (bare_stmt (stmt.Print n p)) bare_printed (of_printed before_parts) (bare_printed p) (λ m (v : Printed). stmt.Print m v)
    (λ m v. shape.stmt_Print m v) (λ m v. q.stmt_Print before_parts m v) (sym (shape.stmt_Print n p)) (printed_some p)

stmt_Pipeline : (n : Node) (x : Expr) (ss : List Stage) → HasStmt (stmt.Pipeline n x ss)
stmt_Pipeline n x ss =
    under n (λ m (v : Expr × (List Stage)). stmt.Pipeline m v.0 v.1) bare_stmt nodes_of_stmt (bare_stmt (stmt.Pipeline n x ss)) (both_bare bare_expr (map bare_stage)) (both_parts (single_part nodes_of_expr) (map nodes_of_stage)) ((bare_expr x), (map bare_stage ss)) (λ m (v : Expr × (List Stage)). stmt.Pipeline m v.0 v.1)
    (λ m v. shape.stmt_Pipeline m v.0 v.1) (λ m v. q.stmt_Pipeline before_parts m v.0 v.1) (sym (shape.stmt_Pipeline n x ss)) (pairs bare_expr (single_part nodes_of_expr) (bare_expr x) (map bare_stage) (map nodes_of_stage) (map bare_stage ss) (expr_one x) (lists bare_stage nodes_of_stage ss (each_by _ stage_one ss)))

stmt_If : (n : Node) (arms : List Arm) (other : List Stmt) → Each HasArm arms → Each HasStmt other → HasStmt (stmt.If n arms other)
stmt_If n arms other harms hother =
    under n (λ m (v : (List Arm) × (List Stmt)). stmt.If m v.0 v.1) bare_stmt nodes_of_stmt (bare_stmt (stmt.If n arms other)) (both_bare (map bare_arm) (map bare_stmt)) (both_parts all_arms (map nodes_of_stmt)) ((map bare_arm arms), (map bare_stmt other)) (λ m (v : (List Arm) × (List Stmt)). stmt.If m v.0 v.1)
    (λ m v. shape.stmt_If m v.0 v.1) (λ m v. q.stmt_If before_parts m v.0 v.1) (sym (shape.stmt_If n arms other)) (pairs (map bare_arm) all_arms (map bare_arm arms) (map bare_stmt) (map nodes_of_stmt) (map bare_stmt other) (arms_some arms harms) (lists bare_stmt nodes_of_stmt other hother))

stmt_While : (n : Node) (x : Expr) (body : List Stmt) → Each HasStmt body → HasStmt (stmt.While n x body)
stmt_While n x body hbody =
    under n (λ m (v : Expr × (List Stmt)). stmt.While m v.0 v.1) bare_stmt nodes_of_stmt (bare_stmt (stmt.While n x body)) (both_bare bare_expr (map bare_stmt)) (both_parts (single_part nodes_of_expr) (map nodes_of_stmt)) ((bare_expr x), (map bare_stmt body)) (λ m (v : Expr × (List Stmt)). stmt.While m v.0 v.1)
    (λ m v. shape.stmt_While m v.0 v.1) (λ m v. q.stmt_While before_parts m v.0 v.1) (sym (shape.stmt_While n x body)) (pairs bare_expr (single_part nodes_of_expr) (bare_expr x) (map bare_stmt) (map nodes_of_stmt) (map bare_stmt body) (expr_one x) (lists bare_stmt nodes_of_stmt body hbody))

stmt_For : (loop : For) → HasFor loop → HasStmt (stmt.For loop)
stmt_For loop h =
    mapped stmt.For bare_stmt (single_part nodes_of_stmt) (bare_stmt (stmt.For loop)) bare_for (single_part nodes_of_for) (bare_for loop) stmt.For
    (λ v. shape.stmt_For v) (λ v. ap (λ z. joined (z ∷ [])) (q.stmt_For before_parts v)) (sym (shape.stmt_For loop)) h

stmt_Par : (n : Node) (o : ParOptions) (loop : For) → HasFor loop → HasStmt (stmt.Par n o loop)
stmt_Par n o loop hloop =
    under n (λ m (v : For). stmt.Par m o v) bare_stmt nodes_of_stmt (bare_stmt (stmt.Par n o loop)) bare_for (single_part nodes_of_for) (bare_for loop) (λ m (v : For). stmt.Par m o v)
    (λ m v. shape.stmt_Par m o v) (λ m v. q.stmt_Par before_parts m o v) (sym (shape.stmt_Par n o loop)) hloop

abbrev arm_of : Expr × List Stmt → Arm
arm_of v = record { condition = v.0; body = v.1 }

abbrev cond_parts : Expr × List Stmt → List (List Node)
cond_parts z = (nodes_of_expr z.0 ∷ []) ++ map nodes_of_stmt z.1

abbrev bare_cond : Expr × List Stmt → Expr × List Stmt
bare_cond z = (bare_expr z.0, map bare_stmt z.1)

cond_some : (x : Expr) (body : List Stmt) → Each HasStmt body → Supply bare_cond cond_parts (bare_cond (x, body))
cond_some x body h = pairs bare_expr (single_part nodes_of_expr) (bare_expr x) (map bare_stmt) (map nodes_of_stmt) (map bare_stmt body) (expr_one x) (lists bare_stmt nodes_of_stmt body h)

arm_by : (a : Arm) → Each HasStmt a.body → HasArm a
arm_by a h =
    mapped arm_of bare_arm arm_nodes (bare_arm a) bare_cond cond_parts (bare_cond (a.condition, a.body)) arm_of
    (λ v. shape.arm_is (arm_of v)) (λ v. ap joined (q.arm_is before_parts (arm_of v))) (sym (shape.arm_is a)) (cond_some a.condition a.body h)

abbrev Looped : Type 0
Looped = LoopNames × (Expr × List Stmt)

abbrev loop_with : Node → Looped → For
loop_with n v = record { node = n; names = v.0; iterable = v.1.0; body = v.1.1 }

for_by : (l : For) → Each HasStmt l.body → HasFor l
for_by l h =
    under l.node loop_with bare_for nodes_of_for (bare_for l) (both_bare bare_loop_names bare_cond) (both_parts (of_loop_names before_parts) cond_parts) (bare_loop_names l.names, bare_cond (l.iterable, l.body)) loop_with
    (λ m v. shape.for_is (loop_with m v)) (λ m v. q.for_is before_parts (loop_with m v)) (sym (shape.for_is l))
    (pairs bare_loop_names (of_loop_names before_parts) (bare_loop_names l.names) bare_cond cond_parts (bare_cond (l.iterable, l.body)) (names_some l.names) (cond_some l.iterable l.body h))

abbrev StmtPart : Type 0
StmtPart = (s : Stmt) × HasStmt s

abbrev ArmPart : Type 0
ArmPart = (a : Arm) × HasArm a

abbrev LoopPart : Type 0
LoopPart = (l : For) × HasFor l

abbrev stmt_tree : StmtPart → Stmt
stmt_tree p = p.0

abbrev arm_tree : ArmPart → Arm
arm_tree p = p.0

abbrev loop_tree : LoopPart → For
loop_tree p = p.0

each_stmt : (ps : List StmtPart) → Each HasStmt (map stmt_tree ps)
each_stmt [] = tt
each_stmt (p ∷ ps) = (p.1, each_stmt ps)

each_arm : (ps : List ArmPart) → Each HasArm (map arm_tree ps)
each_arm [] = tt
each_arm (p ∷ ps) = (p.1, each_arm ps)

stmt_form : (y : Stmt-F StmtPart ArmPart LoopPart) → HasStmt (roll-Stmt (map-Stmt StmtPart ArmPart LoopPart Stmt Arm For stmt_tree arm_tree loop_tree y))
stmt_form (Stmt-F.Pass n) = subst HasStmt (sym (stmt.rolls-Pass n)) (stmt_Pass n)
stmt_form (Stmt-F.Break n) = subst HasStmt (sym (stmt.rolls-Break n)) (stmt_Break n)
stmt_form (Stmt-F.Continue n) = subst HasStmt (sym (stmt.rolls-Continue n)) (stmt_Continue n)
stmt_form (Stmt-F.Return n x) = subst HasStmt (sym (stmt.rolls-Return n x)) (stmt_Return n x)
stmt_form (Stmt-F.Yield n x) = subst HasStmt (sym (stmt.rolls-Yield n x)) (stmt_Yield n x)
stmt_form (Stmt-F.Raise n f x) = subst HasStmt (sym (stmt.rolls-Raise n f x)) (stmt_Raise n f x)
stmt_form (Stmt-F.Assert n x y) = subst HasStmt (sym (stmt.rolls-Assert n x y)) (stmt_Assert n x y)
stmt_form (Stmt-F.Annotated n f t x) = subst HasStmt (sym (stmt.rolls-Annotated n f t x)) (stmt_Annotated n f t x)
stmt_form (Stmt-F.Assign n w x) = subst HasStmt (sym (stmt.rolls-Assign n w x)) (stmt_Assign n w x)
stmt_form (Stmt-F.Update n w o x) = subst HasStmt (sym (stmt.rolls-Update n w o x)) (stmt_Update n w o x)
stmt_form (Stmt-F.Evaluate n x) = subst HasStmt (sym (stmt.rolls-Evaluate n x)) (stmt_Evaluate n x)
stmt_form (Stmt-F.Print n p) = subst HasStmt (sym (stmt.rolls-Print n p)) (stmt_Print n p)
stmt_form (Stmt-F.Pipeline n x ss) = subst HasStmt (sym (stmt.rolls-Pipeline n x ss)) (stmt_Pipeline n x ss)
stmt_form (Stmt-F.If n arms other) = subst HasStmt (sym (stmt.rolls-If n (map arm_tree arms) (map stmt_tree other))) (stmt_If n (map arm_tree arms) (map stmt_tree other) (each_arm arms) (each_stmt other))
stmt_form (Stmt-F.While n x body) = subst HasStmt (sym (stmt.rolls-While n x (map stmt_tree body))) (stmt_While n x (map stmt_tree body) (each_stmt body))
stmt_form (Stmt-F.For loop) = subst HasStmt (sym (stmt.rolls-For loop.0)) (stmt_For loop.0 loop.1)
stmt_form (Stmt-F.Par n o loop) = subst HasStmt (sym (stmt.rolls-Par n o loop.0)) (stmt_Par n o loop.0 loop.1)

arm_form : (y : Arm-F StmtPart ArmPart LoopPart) → HasArm (roll-Arm (map-Arm StmtPart ArmPart LoopPart Stmt Arm For stmt_tree arm_tree loop_tree y))
arm_form y = arm_by (arm_of (y.condition, map stmt_tree y.body)) (each_stmt y.body)

loop_form : (y : For-F StmtPart ArmPart LoopPart) → HasFor (roll-For (map-For StmtPart ArmPart LoopPart Stmt Arm For stmt_tree arm_tree loop_tree y))
loop_form y = for_by (loop_with y.node (y.names, (y.iterable, map stmt_tree y.body))) (each_stmt y.body)

stmt_one : (s : Stmt) → HasStmt s
stmt_one = ind-Stmt HasStmt HasArm HasFor
    (λ x y eq. subst (λ d. HasStmt (roll-Stmt d)) eq (stmt_form y))
    (λ x y eq. subst (λ d. HasArm (roll-Arm d)) eq (arm_form y))
    (λ x y eq. subst (λ d. HasFor (roll-For d)) eq (loop_form y))

stmts_some : (ss : List Stmt) → Supply (map bare_stmt) (map nodes_of_stmt) (map bare_stmt ss)
stmts_some ss = lists bare_stmt nodes_of_stmt ss (each_by _ stmt_one ss)

-- ---- functions, classes and sources

abbrev Marks : Type 0
Marks = Option Annotation × Option Expr

abbrev param_with : List ℕ → Node → Marks → Param
param_with s n v = record { node = n; name = s; annotation = v.0; default = v.1 }

param_one : (p : Param) → One bare_param nodes_of_param (bare_param p)
param_one p =
    under p.node (param_with p.name) bare_param nodes_of_param (bare_param p) (both_bare (bare_optional bare_annotation) (bare_optional bare_expr)) (both_parts (of_optional_annotation before_parts) may_nodes)
    (bare_optional bare_annotation p.annotation, bare_optional bare_expr p.default) (param_with p.name) (λ m v. refl) (λ m v. refl) refl
    (pairs (bare_optional bare_annotation) (of_optional_annotation before_parts) (bare_optional bare_annotation p.annotation) (bare_optional bare_expr) may_nodes (bare_optional bare_expr p.default) (mark_some p.annotation) (maybe_some p.default))

abbrev Named : Type 0
Named = Name × List Param

abbrev bare_named : Named → Named
bare_named z = (bare_name z.0, map bare_param z.1)

abbrev named_parts : Named → List (List Node)
named_parts z = (of_name before_parts z.0 ∷ []) ++ map nodes_of_param z.1

abbrev Headed : Type 0
Headed = Named × Option Annotation

abbrev bare_headed : Headed → Headed
bare_headed z = (bare_named z.0, bare_optional bare_annotation z.1)

abbrev headed_parts : Headed → List (List Node)
headed_parts z = named_parts z.0 ++ of_optional_annotation before_parts z.1

abbrev Defined : Type 0
Defined = Headed × List Stmt

abbrev function_with : Node → Defined → Function
function_with n v = record { node = n; name = v.0.0.0; params = v.0.0.1; result = v.0.1; body = v.1 }

function_one : (f : Function) → One bare_function nodes_of_function (bare_function f)
function_one f =
    let name = bare_named (f.name, f.params) in
    let head = bare_headed ((f.name, f.params), f.result) in
    under f.node function_with bare_function nodes_of_function (bare_function f) (both_bare bare_headed (map bare_stmt)) (both_parts headed_parts (map nodes_of_stmt)) (head, map bare_stmt f.body) function_with (λ m v. refl) (λ m v. refl) refl
    (pairs bare_headed headed_parts head (map bare_stmt) (map nodes_of_stmt) (map bare_stmt f.body)
    (pairs bare_named named_parts name (bare_optional bare_annotation) (of_optional_annotation before_parts) (bare_optional bare_annotation f.result)
    (pairs bare_name (single_part (of_name before_parts)) (bare_name f.name) (map bare_param) (map nodes_of_param) (map bare_param f.params) (name_one f.name) (lists bare_param nodes_of_param f.params (each_by _ param_one f.params)))
    (mark_some f.result)) (stmts_some f.body))

abbrev field_with : Node → Name × Annotation → Member
field_with n v = member.Field n v.0 v.1

member_one : (m : Member) → One bare_member nodes_of_member (bare_member m)
member_one (member.Field n name type) =
    under n field_with bare_member nodes_of_member (member.Field (bare n) (bare_name name) (bare_annotation type)) (both_bare bare_name bare_annotation) (both_parts (single_part (of_name before_parts)) (single_part nodes_of_annotation)) (bare_name name, bare_annotation type) field_with
    (λ m v. refl) (λ m v. refl) refl (pairs bare_name (single_part (of_name before_parts)) (bare_name name) bare_annotation (single_part nodes_of_annotation) (bare_annotation type) (name_one name) (type_one type))
member_one (member.Text n w) =
    under n (λ m (v : Unit {0}). member.Text m w) bare_member nodes_of_member (member.Text (bare n) w) (λ (z : Unit {0}). z) (λ (z : Unit {0}). []) tt (λ m v. member.Text m w) (λ m v. refl) (λ m v. refl) refl none_at
member_one (member.Pass n) =
    under n (λ m (v : Unit {0}). member.Pass m) bare_member nodes_of_member (member.Pass (bare n)) (λ (z : Unit {0}). z) (λ (z : Unit {0}). []) tt (λ m v. member.Pass m) (λ m v. refl) (λ m v. refl) refl none_at
member_one (member.Method f) =
    mapped member.Method bare_member (single_part nodes_of_member) (member.Method (bare_function f)) bare_function (single_part nodes_of_function) (bare_function f) member.Method (λ v. refl) (λ v. refl) refl (function_one f)

abbrev class_with : Node → Name × List Member → Class
class_with n v = record { node = n; name = v.0; members = v.1 }

class_one : (c : Class) → One bare_class nodes_of_class (bare_class c)
class_one c =
    under c.node class_with bare_class nodes_of_class (bare_class c) (both_bare bare_name (map bare_member)) (both_parts (single_part (of_name before_parts)) (map nodes_of_member)) (bare_name c.name, map bare_member c.members) class_with
    (λ m v. refl) (λ m v. refl) refl (pairs bare_name (single_part (of_name before_parts)) (bare_name c.name) (map bare_member) (map nodes_of_member) (map bare_member c.members) (name_one c.name) (lists bare_member nodes_of_member c.members (each_by _ member_one c.members)))

item_one : (i : Item) → One bare_item nodes_of_item (bare_item i)
item_one (item.Stmt s) = mapped item.Stmt bare_item (single_part nodes_of_item) (item.Stmt (bare_stmt s)) bare_stmt (single_part nodes_of_stmt) (bare_stmt s) item.Stmt (λ v. refl) (λ v. refl) refl (stmt_one s)
item_one (item.Function f) = mapped item.Function bare_item (single_part nodes_of_item) (item.Function (bare_function f)) bare_function (single_part nodes_of_function) (bare_function f) item.Function (λ v. refl) (λ v. refl) refl (function_one f)
item_one (item.Class c) = mapped item.Class bare_item (single_part nodes_of_item) (item.Class (bare_class c)) bare_class (single_part nodes_of_class) (bare_class c) item.Class (λ v. refl) (λ v. refl) refl (class_one c)

-- each source has one with numbers
pub has_numbered : (m : Module) → (w : Module) × (bare_module w ≡ bare_module m) × IsNumbered w
has_numbered m =
    let f = lists bare_item nodes_of_item m.items (each_by _ item_one m.items) 0 in
    (record { items = f.0 }, ap (λ z. record { items = z }) f.1, f.2)
