-- A tree and its bare tree have one height.
use Rattle.std.proofs.Common.{◌≡◌, ℕ, ℤ, ◌+◌, List, [], ◌∷◌, ◌++◌, map, Option, Some, None, refl, sym, ◌∙◌, ap, subst}
use Rattle.std.specs.List.{flat_map}
use Rattle.std.specs.Option.{option_map}
use Rattle.source_trees.specs.declared.operator.UnaryOp.{UnaryOp}
use Rattle.source_trees.specs.declared.operator.BinaryOp.{BinaryOp}
use Rattle.source_trees.specs.declared.node.Node.{Node}
use Rattle.source_trees.specs.declared.node.Name.{Name}
use Rattle.source_trees.specs.declared.expression.Commas.{Commas}
use Rattle.source_trees.specs.declared.expression.Expr.{Expr, Expr-F, roll-Expr, ind-Expr}
use Rattle.source_trees.specs.declared.expression.Expr.TheOpen.{Comparison-F}
use Rattle.source_trees.specs.declared.expression.Expr.TheFolds.{map-Expr, map-Comparison}
use Rattle.source_trees.specs.declared.expression.Expr.TheVariants as expr
use Rattle.source_trees.specs.declared.expression.Comparison.{Comparison, roll-Comparison}
use Rattle.source_trees.specs.declared.item.Annotation.{Annotation, Annotation-F, roll-Annotation, ind-Annotation, map-Annotation}
use Rattle.source_trees.specs.declared.item.Annotation.TheVariants as annotation
use Rattle.source_trees.specs.declared.item.Class.{Class}
use Rattle.source_trees.specs.declared.item.Function.{Function}
use Rattle.source_trees.specs.declared.item.Item.{Item}
use Rattle.source_trees.specs.declared.item.Item.TheVariants as item
use Rattle.source_trees.specs.declared.item.Member.{Member}
use Rattle.source_trees.specs.declared.item.Member.TheVariants as member
use Rattle.source_trees.specs.declared.item.Module.{Module}
use Rattle.source_trees.specs.declared.item.Param.{Param}
use Rattle.source_trees.specs.declared.pipeline.PrintOptions.{PrintOptions}
use Rattle.source_trees.specs.declared.pipeline.PrintOptions.TheVariants as options
use Rattle.source_trees.specs.declared.pipeline.Printed.{Printed}
use Rattle.source_trees.specs.declared.pipeline.Stage.{Stage}
use Rattle.source_trees.specs.declared.pipeline.StageForm.{StageForm}
use Rattle.source_trees.specs.declared.pipeline.StageForm.TheVariants as form
use Rattle.source_trees.specs.declared.statement.Arm.{Arm, roll-Arm}
use Rattle.source_trees.specs.declared.statement.For.{For, roll-For}
use Rattle.source_trees.specs.declared.statement.LoopNames.{LoopNames}
use Rattle.source_trees.specs.declared.statement.LoopNames.TheVariants as names
use Rattle.source_trees.specs.declared.statement.ParOptions.{ParOptions}
use Rattle.source_trees.specs.declared.statement.Stmt.{Stmt, Stmt-F, roll-Stmt, ind-Stmt}
use Rattle.source_trees.specs.declared.statement.Stmt.TheOpen.{Arm-F, For-F}
use Rattle.source_trees.specs.declared.statement.Stmt.TheFolds.{map-Stmt, map-Arm, map-For}
use Rattle.source_trees.specs.declared.statement.Stmt.TheVariants as stmt
use Rattle.source_trees.specs.declared.statement.Target.{Target}
use Rattle.source_trees.specs.declared.statement.Target.TheVariants as target
use Rattle.source_trees.specs.declared.statement.Targets.{Targets}
use Rattle.source_trees.specs.declared.statement.Targets.TheVariants as targets
use Rattle.source_trees.specs.Bare.{bare, bare_name, bare_loop_names, bare_expr, bare_comparison, bare_optional, bare_annotation, bare_target, bare_targets, bare_print_options, bare_printed, bare_stage_form, bare_stage, bare_stmt, bare_arm, bare_for, bare_param, bare_function, bare_member, bare_class, bare_item, bare_module}
use Rattle.source_trees.specs.Heights.{highest, over_parts, height_of_expr, height_of_annotation, height_of_target, height_of_targets, height_of_stage, height_of_stmt, height_of_for, height_of_param, height_of_function, height_of_member, height_of_class, height_of_item, height_of}
use Rattle.source_trees.specs.Parts.{optional, of_name, of_loop_names, of_comparison, of_optional_expr, of_optional_annotation, of_print_options, of_printed, of_stage_form, of_arm}
use Rattle.source_trees.proofs.Equations as q
use Rattle.source_trees.proofs.BareForms as shape
use Rattle.bare_trees.proofs.Restore.{Each, each_by}

-- ---- lists of heights

-- the height of a node by its parts
abbrev over : List ℕ → ℕ
over parts = highest parts + 1

join : {a a' c c' : List ℕ} → a ≡ a' → c ≡ c' → a ++ c ≡ a' ++ c'
join {a' = a'} {c = c} p r = ap (λ z. z ++ c) p ∙ ap (λ z. a' ++ z) r

single : {k l : ℕ} → k ≡ l → k ∷ [] ≡ l ∷ []
single p = ap (λ z. z ∷ []) p

map_same : {X : Type 0} (height : X → ℕ) (bared : X → X) (xs : List X) → Each (λ x. height (bared x) ≡ height x) xs → map height (map bared xs) ≡ map height xs
map_same height bared [] h = refl
map_same height bared (x ∷ xs) h = join (single h.0) (map_same height bared xs h.1)

names_same : (ns : List Name) → map (of_name over_parts) (map bare_name ns) ≡ map (of_name over_parts) ns
names_same [] = refl
names_same (n ∷ ns) = ap (λ z. 1 ∷ z) (names_same ns)

loop_same : (ns : LoopNames) → of_loop_names over_parts (bare_loop_names ns) ≡ of_loop_names over_parts ns
loop_same (names.One n) = refl
loop_same (names.Several ns) = names_same ns

-- ---- expressions

abbrev pub SameExpr : Expr → Type 0
SameExpr x = height_of_expr (bare_expr x) ≡ height_of_expr x

abbrev SameComparison : Comparison → Type 0
SameComparison c = of_comparison over_parts (bare_comparison c) ≡ of_comparison over_parts c

abbrev SameOption : Option Expr → Type 0
SameOption None = Unit {0}
SameOption (Some x) = SameExpr x

option_same : (o : Option Expr) → SameOption o → optional (option_map height_of_expr (bare_optional bare_expr o)) ≡ optional (option_map height_of_expr o)
option_same None h = refl
option_same (Some x) h = single h

case_Name : (n : Node) (s : List ℕ) → SameExpr (expr.Name n s)
case_Name n s = ap height_of_expr (shape.expr_Name n s) ∙ q.expr_Name over_parts (bare n) s ∙ sym (q.expr_Name over_parts n s)

case_Number : (n : Node) (s : ℤ) → SameExpr (expr.Number n s)
case_Number n s = ap height_of_expr (shape.expr_Number n s) ∙ q.expr_Number over_parts (bare n) s ∙ sym (q.expr_Number over_parts n s)

case_Text : (n : Node) (s : List ℕ) → SameExpr (expr.Text n s)
case_Text n s = ap height_of_expr (shape.expr_Text n s) ∙ q.expr_Text over_parts (bare n) s ∙ sym (q.expr_Text over_parts n s)

case_True : (n : Node) → SameExpr (expr.True n)
case_True n = ap height_of_expr (shape.expr_True n) ∙ q.expr_True over_parts (bare n) ∙ sym (q.expr_True over_parts n)

case_False : (n : Node) → SameExpr (expr.False n)
case_False n = ap height_of_expr (shape.expr_False n) ∙ q.expr_False over_parts (bare n) ∙ sym (q.expr_False over_parts n)

case_None : (n : Node) → SameExpr (expr.None n)
case_None n = ap height_of_expr (shape.expr_None n) ∙ q.expr_None over_parts (bare n) ∙ sym (q.expr_None over_parts n)

case_Bracketed : (n : Node) (x : Expr) → SameExpr x → SameExpr (expr.Bracketed n x)
case_Bracketed n x hx = ap height_of_expr (shape.expr_Bracketed n x) ∙ q.expr_Bracketed over_parts (bare n) (bare_expr x) ∙ ap over (single hx) ∙ sym (q.expr_Bracketed over_parts n x)

case_Tuple : (n : Node) (c : Commas) (xs : List Expr) → Each SameExpr xs → SameExpr (expr.Tuple n c xs)
case_Tuple n c xs hxs = ap height_of_expr (shape.expr_Tuple n c xs) ∙ q.expr_Tuple over_parts (bare n) c (map bare_expr xs) ∙ ap over (map_same height_of_expr bare_expr xs hxs) ∙ sym (q.expr_Tuple over_parts n c xs)

case_List : (n : Node) (xs : List Expr) → Each SameExpr xs → SameExpr (expr.List n xs)
case_List n xs hxs = ap height_of_expr (shape.expr_List n xs) ∙ q.expr_List over_parts (bare n) (map bare_expr xs) ∙ ap over (map_same height_of_expr bare_expr xs hxs) ∙ sym (q.expr_List over_parts n xs)

case_Comprehension : (n : Node) (x : Expr) (ns : LoopNames) (y : Expr) (z : Option Expr) → SameExpr x → SameExpr y → SameOption z → SameExpr (expr.Comprehension n x ns y z)
case_Comprehension n x ns y z hx hy hz = ap height_of_expr (shape.expr_Comprehension n x ns y z) ∙ q.expr_Comprehension over_parts (bare n) (bare_expr x) (bare_loop_names ns) (bare_expr y) (bare_optional bare_expr z) ∙ ap over (join (single hx) (join (loop_same ns) (join (single hy) (option_same z hz)))) ∙ sym (q.expr_Comprehension over_parts n x ns y z)

case_Conditional : (n : Node) (x : Expr) (y : Expr) (z : Expr) → SameExpr x → SameExpr y → SameExpr z → SameExpr (expr.Conditional n x y z)
case_Conditional n x y z hx hy hz = ap height_of_expr (shape.expr_Conditional n x y z) ∙ q.expr_Conditional over_parts (bare n) (bare_expr x) (bare_expr y) (bare_expr z) ∙ ap over (join (single hx) (join (single hy) (single hz))) ∙ sym (q.expr_Conditional over_parts n x y z)

case_Or : (n : Node) (xs : List Expr) → Each SameExpr xs → SameExpr (expr.Or n xs)
case_Or n xs hxs = ap height_of_expr (shape.expr_Or n xs) ∙ q.expr_Or over_parts (bare n) (map bare_expr xs) ∙ ap over (map_same height_of_expr bare_expr xs hxs) ∙ sym (q.expr_Or over_parts n xs)

case_And : (n : Node) (xs : List Expr) → Each SameExpr xs → SameExpr (expr.And n xs)
case_And n xs hxs = ap height_of_expr (shape.expr_And n xs) ∙ q.expr_And over_parts (bare n) (map bare_expr xs) ∙ ap over (map_same height_of_expr bare_expr xs hxs) ∙ sym (q.expr_And over_parts n xs)

case_Not : (n : Node) (x : Expr) → SameExpr x → SameExpr (expr.Not n x)
case_Not n x hx = ap height_of_expr (shape.expr_Not n x) ∙ q.expr_Not over_parts (bare n) (bare_expr x) ∙ ap over (single hx) ∙ sym (q.expr_Not over_parts n x)

case_Compare : (n : Node) (x : Expr) (cs : List Comparison) → SameExpr x → Each SameComparison cs → SameExpr (expr.Compare n x cs)
case_Compare n x cs hx hcs = ap height_of_expr (shape.expr_Compare n x cs) ∙ q.expr_Compare over_parts (bare n) (bare_expr x) (map bare_comparison cs) ∙ ap over (join (single hx) (map_same (of_comparison over_parts) bare_comparison cs hcs)) ∙ sym (q.expr_Compare over_parts n x cs)

case_Unary : (n : Node) (o : UnaryOp) (x : Expr) → SameExpr x → SameExpr (expr.Unary n o x)
case_Unary n o x hx = ap height_of_expr (shape.expr_Unary n o x) ∙ q.expr_Unary over_parts (bare n) o (bare_expr x) ∙ ap over (single hx) ∙ sym (q.expr_Unary over_parts n o x)

case_Binary : (n : Node) (o : BinaryOp) (x : Expr) (y : Expr) → SameExpr x → SameExpr y → SameExpr (expr.Binary n o x y)
case_Binary n o x y hx hy = ap height_of_expr (shape.expr_Binary n o x y) ∙ q.expr_Binary over_parts (bare n) o (bare_expr x) (bare_expr y) ∙ ap over (join (single hx) (single hy)) ∙ sym (q.expr_Binary over_parts n o x y)

case_Call : (n : Node) (f : Name) (xs : List Expr) → Each SameExpr xs → SameExpr (expr.Call n f xs)
case_Call n f xs hxs = ap height_of_expr (shape.expr_Call n f xs) ∙ q.expr_Call over_parts (bare n) (bare_name f) (map bare_expr xs) ∙ ap over (join (single {k = 1} refl) (map_same height_of_expr bare_expr xs hxs)) ∙ sym (q.expr_Call over_parts n f xs)

case_MethodCall : (n : Node) (m : Node) (x : Expr) (s : List ℕ) (xs : List Expr) → SameExpr x → Each SameExpr xs → SameExpr (expr.MethodCall n m x s xs)
case_MethodCall n m x s xs hx hxs = ap height_of_expr (shape.expr_MethodCall n m x s xs) ∙ q.expr_MethodCall over_parts (bare n) (bare m) (bare_expr x) s (map bare_expr xs) ∙ ap over (join (single (ap over (single hx))) (map_same height_of_expr bare_expr xs hxs)) ∙ sym (q.expr_MethodCall over_parts n m x s xs)

case_Index : (n : Node) (x : Expr) (y : Expr) → SameExpr x → SameExpr y → SameExpr (expr.Index n x y)
case_Index n x y hx hy = ap height_of_expr (shape.expr_Index n x y) ∙ q.expr_Index over_parts (bare n) (bare_expr x) (bare_expr y) ∙ ap over (join (single hx) (single hy)) ∙ sym (q.expr_Index over_parts n x y)

case_Slice : (n : Node) (x : Expr) (y : Option Expr) (z : Option Expr) → SameExpr x → SameOption y → SameOption z → SameExpr (expr.Slice n x y z)
case_Slice n x y z hx hy hz = ap height_of_expr (shape.expr_Slice n x y z) ∙ q.expr_Slice over_parts (bare n) (bare_expr x) (bare_optional bare_expr y) (bare_optional bare_expr z) ∙ ap over (join (single hx) (join (option_same y hy) (option_same z hz))) ∙ sym (q.expr_Slice over_parts n x y z)

case_Field : (n : Node) (x : Expr) (s : List ℕ) → SameExpr x → SameExpr (expr.Field n x s)
case_Field n x s hx = ap height_of_expr (shape.expr_Field n x s) ∙ q.expr_Field over_parts (bare n) (bare_expr x) s ∙ ap over (single hx) ∙ sym (q.expr_Field over_parts n x s)

abbrev Part : Type 0
Part = (x : Expr) × SameExpr x

abbrev Link : Type 0
Link = (c : Comparison) × SameComparison c

abbrev tree : Part → Expr
tree p = p.0

abbrev link : Link → Comparison
link p = p.0

each_part : (ps : List Part) → Each SameExpr (map tree ps)
each_part [] = tt
each_part (p ∷ ps) = (p.1, each_part ps)

each_link : (ps : List Link) → Each SameComparison (map link ps)
each_link [] = tt
each_link (p ∷ ps) = (p.1, each_link ps)

form_same : (y : Expr-F Part Link) → SameExpr (roll-Expr (map-Expr Part Link Expr Comparison tree link y))
form_same (Expr-F.Name n s) = subst SameExpr (sym (expr.rolls-Name n s)) (case_Name n s)
form_same (Expr-F.Number n s) = subst SameExpr (sym (expr.rolls-Number n s)) (case_Number n s)
form_same (Expr-F.Text n s) = subst SameExpr (sym (expr.rolls-Text n s)) (case_Text n s)
form_same (Expr-F.True n) = subst SameExpr (sym (expr.rolls-True n)) (case_True n)
form_same (Expr-F.False n) = subst SameExpr (sym (expr.rolls-False n)) (case_False n)
form_same (Expr-F.None n) = subst SameExpr (sym (expr.rolls-None n)) (case_None n)
form_same (Expr-F.Bracketed n x) = subst SameExpr (sym (expr.rolls-Bracketed n x.0)) (case_Bracketed n x.0 x.1)
form_same (Expr-F.Tuple n c xs) = subst SameExpr (sym (expr.rolls-Tuple n c (map tree xs))) (case_Tuple n c (map tree xs) (each_part xs))
form_same (Expr-F.List n xs) = subst SameExpr (sym (expr.rolls-List n (map tree xs))) (case_List n (map tree xs) (each_part xs))
form_same (Expr-F.Comprehension n x ns y None) = subst SameExpr (sym (expr.rolls-Comprehension n x.0 ns y.0 None)) (case_Comprehension n x.0 ns y.0 None x.1 y.1 tt)
form_same (Expr-F.Comprehension n x ns y (Some z)) = subst SameExpr (sym (expr.rolls-Comprehension n x.0 ns y.0 (Some z.0))) (case_Comprehension n x.0 ns y.0 (Some z.0) x.1 y.1 z.1)
form_same (Expr-F.Conditional n x y z) = subst SameExpr (sym (expr.rolls-Conditional n x.0 y.0 z.0)) (case_Conditional n x.0 y.0 z.0 x.1 y.1 z.1)
form_same (Expr-F.Or n xs) = subst SameExpr (sym (expr.rolls-Or n (map tree xs))) (case_Or n (map tree xs) (each_part xs))
form_same (Expr-F.And n xs) = subst SameExpr (sym (expr.rolls-And n (map tree xs))) (case_And n (map tree xs) (each_part xs))
form_same (Expr-F.Not n x) = subst SameExpr (sym (expr.rolls-Not n x.0)) (case_Not n x.0 x.1)
form_same (Expr-F.Compare n x cs) = subst SameExpr (sym (expr.rolls-Compare n x.0 (map link cs))) (case_Compare n x.0 (map link cs) x.1 (each_link cs))
form_same (Expr-F.Unary n o x) = subst SameExpr (sym (expr.rolls-Unary n o x.0)) (case_Unary n o x.0 x.1)
form_same (Expr-F.Binary n o x y) = subst SameExpr (sym (expr.rolls-Binary n o x.0 y.0)) (case_Binary n o x.0 y.0 x.1 y.1)
form_same (Expr-F.Call n f xs) = subst SameExpr (sym (expr.rolls-Call n f (map tree xs))) (case_Call n f (map tree xs) (each_part xs))
form_same (Expr-F.MethodCall n m x s xs) = subst SameExpr (sym (expr.rolls-MethodCall n m x.0 s (map tree xs))) (case_MethodCall n m x.0 s (map tree xs) x.1 (each_part xs))
form_same (Expr-F.Index n x y) = subst SameExpr (sym (expr.rolls-Index n x.0 y.0)) (case_Index n x.0 y.0 x.1 y.1)
form_same (Expr-F.Slice n x None None) = subst SameExpr (sym (expr.rolls-Slice n x.0 None None)) (case_Slice n x.0 None None x.1 tt tt)
form_same (Expr-F.Slice n x (Some y) None) = subst SameExpr (sym (expr.rolls-Slice n x.0 (Some y.0) None)) (case_Slice n x.0 (Some y.0) None x.1 y.1 tt)
form_same (Expr-F.Slice n x None (Some z)) = subst SameExpr (sym (expr.rolls-Slice n x.0 None (Some z.0))) (case_Slice n x.0 None (Some z.0) x.1 tt z.1)
form_same (Expr-F.Slice n x (Some y) (Some z)) = subst SameExpr (sym (expr.rolls-Slice n x.0 (Some y.0) (Some z.0))) (case_Slice n x.0 (Some y.0) (Some z.0) x.1 y.1 z.1)
form_same (Expr-F.Field n x s) = subst SameExpr (sym (expr.rolls-Field n x.0 s)) (case_Field n x.0 s x.1)

comparison_by : (c : Comparison) → SameExpr c.right → SameComparison c
comparison_by c h = q.comparison_is over_parts (bare_comparison c) ∙ ap (λ z. height_of_expr z.right) (shape.comparison_is c) ∙ h ∙ sym (q.comparison_is over_parts c)

link_same : (y : Comparison-F Part Link) → SameComparison (roll-Comparison (map-Comparison Part Link Expr Comparison tree link y))
link_same y = comparison_by (record { comparator = y.comparator; right = y.right.0 }) y.right.1

pub same_expr : (x : Expr) → SameExpr x
same_expr = ind-Expr SameExpr SameComparison (λ x y eq. subst (λ d. SameExpr (roll-Expr d)) eq (form_same y)) (λ x y eq. subst (λ d. SameComparison (roll-Comparison d)) eq (link_same y))

exprs_same : (xs : List Expr) → map height_of_expr (map bare_expr xs) ≡ map height_of_expr xs
exprs_same xs = map_same height_of_expr bare_expr xs (each_by _ same_expr xs)

maybe_same : (o : Option Expr) → of_optional_expr over_parts (bare_optional bare_expr o) ≡ of_optional_expr over_parts o
maybe_same None = refl
maybe_same (Some x) = single (same_expr x)

-- ---- types

abbrev SameType : Annotation → Type 0
SameType x = height_of_annotation (bare_annotation x) ≡ height_of_annotation x

type_Int : (n : Node) → SameType (annotation.Int n)
type_Int n = ap height_of_annotation (shape.annotation_Int n) ∙ q.annotation_Int over_parts (bare n) ∙ sym (q.annotation_Int over_parts n)

type_Bool : (n : Node) → SameType (annotation.Bool n)
type_Bool n = ap height_of_annotation (shape.annotation_Bool n) ∙ q.annotation_Bool over_parts (bare n) ∙ sym (q.annotation_Bool over_parts n)

type_Str : (n : Node) → SameType (annotation.Str n)
type_Str n = ap height_of_annotation (shape.annotation_Str n) ∙ q.annotation_Str over_parts (bare n) ∙ sym (q.annotation_Str over_parts n)

type_None : (n : Node) → SameType (annotation.None n)
type_None n = ap height_of_annotation (shape.annotation_None n) ∙ q.annotation_None over_parts (bare n) ∙ sym (q.annotation_None over_parts n)

type_Class : (n : Node) (s : List ℕ) → SameType (annotation.Class n s)
type_Class n s = ap height_of_annotation (shape.annotation_Class n s) ∙ q.annotation_Class over_parts (bare n) s ∙ sym (q.annotation_Class over_parts n s)

type_List : (n : Node) (x : Annotation) → SameType x → SameType (annotation.List n x)
type_List n x h = ap height_of_annotation (shape.annotation_List n x) ∙ q.annotation_List over_parts (bare n) (bare_annotation x) ∙ ap over (single h) ∙ sym (q.annotation_List over_parts n x)

type_Tuple : (n : Node) (xs : List Annotation) → Each SameType xs → SameType (annotation.Tuple n xs)
type_Tuple n xs h = ap height_of_annotation (shape.annotation_Tuple n xs) ∙ q.annotation_Tuple over_parts (bare n) (map bare_annotation xs) ∙ ap over (map_same height_of_annotation bare_annotation xs h) ∙ sym (q.annotation_Tuple over_parts n xs)

abbrev TypePart : Type 0
TypePart = (x : Annotation) × SameType x

abbrev type_tree : TypePart → Annotation
type_tree p = p.0

each_type : (ps : List TypePart) → Each SameType (map type_tree ps)
each_type [] = tt
each_type (p ∷ ps) = (p.1, each_type ps)

type_form : (y : Annotation-F TypePart) → SameType (roll-Annotation (map-Annotation TypePart Annotation type_tree y))
type_form (Annotation-F.Int n) = subst SameType (sym (annotation.rolls-Int n)) (type_Int n)
type_form (Annotation-F.Bool n) = subst SameType (sym (annotation.rolls-Bool n)) (type_Bool n)
type_form (Annotation-F.Str n) = subst SameType (sym (annotation.rolls-Str n)) (type_Str n)
type_form (Annotation-F.None n) = subst SameType (sym (annotation.rolls-None n)) (type_None n)
type_form (Annotation-F.Class n s) = subst SameType (sym (annotation.rolls-Class n s)) (type_Class n s)
type_form (Annotation-F.List n p) = subst SameType (sym (annotation.rolls-List n p.0)) (type_List n p.0 p.1)
type_form (Annotation-F.Tuple n ps) = subst SameType (sym (annotation.rolls-Tuple n (map type_tree ps))) (type_Tuple n (map type_tree ps) (each_type ps))

same_type : (x : Annotation) → SameType x
same_type = ind-Annotation SameType (λ x y eq. subst (λ d. SameType (roll-Annotation d)) eq (type_form y))

-- ---- targets, print and pipelines

same_target : (w : Target) → height_of_target (bare_target w) ≡ height_of_target w
same_target (target.Name n s) = refl
same_target (target.Index n x y) = ap over (join (single (same_expr x)) (single (same_expr y)))
same_target (target.Field n x s) = ap over (single (same_expr x))

same_targets : (w : Targets) → height_of_targets (bare_targets w) ≡ height_of_targets w
same_targets (targets.One w) = same_target w
same_targets (targets.Several n ws) = ap over (map_same height_of_target bare_target ws (each_by _ same_target ws))

same_options : (o : PrintOptions) → of_print_options over_parts (bare_print_options o) ≡ of_print_options over_parts o
same_options options.Neither = refl
same_options (options.Sep x) = single (same_expr x)
same_options (options.End x) = single (same_expr x)
same_options (options.SepEnd x y) = join (single (same_expr x)) (single (same_expr y))
same_options (options.EndSep x y) = join (single (same_expr x)) (single (same_expr y))

same_printed : (p : Printed) → of_printed over_parts (bare_printed p) ≡ of_printed over_parts p
same_printed p = join (exprs_same p.values) (same_options p.options)

same_form : (g : StageForm) → of_stage_form over_parts (bare_stage_form g) ≡ of_stage_form over_parts g
same_form form.Iter = refl
same_form (form.Call s xs ys) = join (exprs_same xs) (exprs_same ys)
same_form (form.Print p) = same_printed p

same_stage : (s : Stage) → height_of_stage (bare_stage s) ≡ height_of_stage s
same_stage s = ap over (same_form s.form)

-- ---- statements

abbrev SameStmt : Stmt → Type 0
SameStmt s = height_of_stmt (bare_stmt s) ≡ height_of_stmt s

abbrev SameArm : Arm → Type 0
SameArm a = of_arm over_parts (bare_arm a) ≡ of_arm over_parts a

abbrev SameFor : For → Type 0
SameFor l = height_of_for (bare_for l) ≡ height_of_for l

arms_same : (arms : List Arm) → Each SameArm arms → flat_map (λ arm. arm) (map (of_arm over_parts) (map bare_arm arms)) ≡ flat_map (λ arm. arm) (map (of_arm over_parts) arms)
arms_same [] h = refl
arms_same (a ∷ arms) h = join h.0 (arms_same arms h.1)

stmt_Pass : (n : Node) → SameStmt (stmt.Pass n)
stmt_Pass n = ap height_of_stmt (shape.stmt_Pass n) ∙ q.stmt_Pass over_parts (bare n) ∙ sym (q.stmt_Pass over_parts n)

stmt_Break : (n : Node) → SameStmt (stmt.Break n)
stmt_Break n = ap height_of_stmt (shape.stmt_Break n) ∙ q.stmt_Break over_parts (bare n) ∙ sym (q.stmt_Break over_parts n)

stmt_Continue : (n : Node) → SameStmt (stmt.Continue n)
stmt_Continue n = ap height_of_stmt (shape.stmt_Continue n) ∙ q.stmt_Continue over_parts (bare n) ∙ sym (q.stmt_Continue over_parts n)

stmt_Return : (n : Node) (x : Option Expr) → SameStmt (stmt.Return n x)
stmt_Return n x = ap height_of_stmt (shape.stmt_Return n x) ∙ q.stmt_Return over_parts (bare n) (bare_optional bare_expr x) ∙ ap over (maybe_same x) ∙ sym (q.stmt_Return over_parts n x)

stmt_Yield : (n : Node) (x : Expr) → SameStmt (stmt.Yield n x)
stmt_Yield n x = ap height_of_stmt (shape.stmt_Yield n x) ∙ q.stmt_Yield over_parts (bare n) (bare_expr x) ∙ ap over (single (same_expr x)) ∙ sym (q.stmt_Yield over_parts n x)

stmt_Raise : (n : Node) (f : Name) (x : Option Expr) → SameStmt (stmt.Raise n f x)
stmt_Raise n f x = ap height_of_stmt (shape.stmt_Raise n f x) ∙ q.stmt_Raise over_parts (bare n) (bare_name f) (bare_optional bare_expr x) ∙ ap over (join (single {k = 1} refl) (maybe_same x)) ∙ sym (q.stmt_Raise over_parts n f x)

stmt_Assert : (n : Node) (x : Expr) (y : Option Expr) → SameStmt (stmt.Assert n x y)
stmt_Assert n x y = ap height_of_stmt (shape.stmt_Assert n x y) ∙ q.stmt_Assert over_parts (bare n) (bare_expr x) (bare_optional bare_expr y) ∙ ap over (join (single (same_expr x)) (maybe_same y)) ∙ sym (q.stmt_Assert over_parts n x y)

stmt_Annotated : (n : Node) (f : Name) (t : Annotation) (x : Option Expr) → SameStmt (stmt.Annotated n f t x)
stmt_Annotated n f t x = ap height_of_stmt (shape.stmt_Annotated n f t x) ∙ q.stmt_Annotated over_parts (bare n) (bare_name f) (bare_annotation t) (bare_optional bare_expr x) ∙ ap over (join (single {k = 1} refl) (join (single (same_type t)) (maybe_same x))) ∙ sym (q.stmt_Annotated over_parts n f t x)

stmt_Assign : (n : Node) (w : Targets) (x : Expr) → SameStmt (stmt.Assign n w x)
stmt_Assign n w x = ap height_of_stmt (shape.stmt_Assign n w x) ∙ q.stmt_Assign over_parts (bare n) (bare_targets w) (bare_expr x) ∙ ap over (join (single (same_targets w)) (single (same_expr x))) ∙ sym (q.stmt_Assign over_parts n w x)

stmt_Update : (n : Node) (w : Target) (o : BinaryOp) (x : Expr) → SameStmt (stmt.Update n w o x)
stmt_Update n w o x = ap height_of_stmt (shape.stmt_Update n w o x) ∙ q.stmt_Update over_parts (bare n) (bare_target w) o (bare_expr x) ∙ ap over (join (single (same_target w)) (single (same_expr x))) ∙ sym (q.stmt_Update over_parts n w o x)

stmt_Evaluate : (n : Node) (x : Expr) → SameStmt (stmt.Evaluate n x)
stmt_Evaluate n x = ap height_of_stmt (shape.stmt_Evaluate n x) ∙ q.stmt_Evaluate over_parts (bare n) (bare_expr x) ∙ ap over (single (same_expr x)) ∙ sym (q.stmt_Evaluate over_parts n x)

stmt_Print : (n : Node) (p : Printed) → SameStmt (stmt.Print n p)
stmt_Print n p = ap height_of_stmt (shape.stmt_Print n p) ∙ q.stmt_Print over_parts (bare n) (bare_printed p) ∙ ap over (same_printed p) ∙ sym (q.stmt_Print over_parts n p)

stmt_Pipeline : (n : Node) (x : Expr) (ss : List Stage) → SameStmt (stmt.Pipeline n x ss)
stmt_Pipeline n x ss = ap height_of_stmt (shape.stmt_Pipeline n x ss) ∙ q.stmt_Pipeline over_parts (bare n) (bare_expr x) (map bare_stage ss) ∙ ap over (join (single (same_expr x)) (map_same height_of_stage bare_stage ss (each_by _ same_stage ss))) ∙ sym (q.stmt_Pipeline over_parts n x ss)

stmt_If : (n : Node) (arms : List Arm) (other : List Stmt) → Each SameArm arms → Each SameStmt other → SameStmt (stmt.If n arms other)
stmt_If n arms other harms hother = ap height_of_stmt (shape.stmt_If n arms other) ∙ q.stmt_If over_parts (bare n) (map bare_arm arms) (map bare_stmt other) ∙ ap over (join (arms_same arms harms) (map_same height_of_stmt bare_stmt other hother)) ∙ sym (q.stmt_If over_parts n arms other)

stmt_While : (n : Node) (x : Expr) (body : List Stmt) → Each SameStmt body → SameStmt (stmt.While n x body)
stmt_While n x body hbody = ap height_of_stmt (shape.stmt_While n x body) ∙ q.stmt_While over_parts (bare n) (bare_expr x) (map bare_stmt body) ∙ ap over (join (single (same_expr x)) (map_same height_of_stmt bare_stmt body hbody)) ∙ sym (q.stmt_While over_parts n x body)

stmt_For : (loop : For) → SameFor loop → SameStmt (stmt.For loop)
stmt_For loop h = ap height_of_stmt (shape.stmt_For loop) ∙ q.stmt_For over_parts (bare_for loop) ∙ h ∙ sym (q.stmt_For over_parts loop)

stmt_Par : (n : Node) (o : ParOptions) (loop : For) → SameFor loop → SameStmt (stmt.Par n o loop)
stmt_Par n o loop hloop = ap height_of_stmt (shape.stmt_Par n o loop) ∙ q.stmt_Par over_parts (bare n) o (bare_for loop) ∙ ap over (single hloop) ∙ sym (q.stmt_Par over_parts n o loop)

abbrev arm_of : Expr → List Stmt → Arm
arm_of x body = record { condition = x; body = body }

arm_by : (a : Arm) → Each SameStmt a.body → SameArm a
arm_by a h =
    ap (of_arm over_parts) (shape.arm_is a) ∙ q.arm_is over_parts (arm_of (bare_expr a.condition) (map bare_stmt a.body))
    ∙ join (single (same_expr a.condition)) (map_same height_of_stmt bare_stmt a.body h) ∙ sym (q.arm_is over_parts a)

abbrev loop_with : Node → LoopNames → Expr → List Stmt → For
loop_with n ns x body = record { node = n; names = ns; iterable = x; body = body }

for_by : (l : For) → Each SameStmt l.body → SameFor l
for_by l h =
    ap height_of_for (shape.for_is l) ∙ q.for_is over_parts (loop_with (bare l.node) (bare_loop_names l.names) (bare_expr l.iterable) (map bare_stmt l.body))
    ∙ ap over (join (loop_same l.names) (join (single (same_expr l.iterable)) (map_same height_of_stmt bare_stmt l.body h))) ∙ sym (q.for_is over_parts l)

abbrev StmtPart : Type 0
StmtPart = (s : Stmt) × SameStmt s

abbrev ArmPart : Type 0
ArmPart = (a : Arm) × SameArm a

abbrev LoopPart : Type 0
LoopPart = (l : For) × SameFor l

abbrev stmt_tree : StmtPart → Stmt
stmt_tree p = p.0

abbrev arm_tree : ArmPart → Arm
arm_tree p = p.0

abbrev loop_tree : LoopPart → For
loop_tree p = p.0

each_stmt : (ps : List StmtPart) → Each SameStmt (map stmt_tree ps)
each_stmt [] = tt
each_stmt (p ∷ ps) = (p.1, each_stmt ps)

each_arm : (ps : List ArmPart) → Each SameArm (map arm_tree ps)
each_arm [] = tt
each_arm (p ∷ ps) = (p.1, each_arm ps)

stmt_form : (y : Stmt-F StmtPart ArmPart LoopPart) → SameStmt (roll-Stmt (map-Stmt StmtPart ArmPart LoopPart Stmt Arm For stmt_tree arm_tree loop_tree y))
stmt_form (Stmt-F.Pass n) = subst SameStmt (sym (stmt.rolls-Pass n)) (stmt_Pass n)
stmt_form (Stmt-F.Break n) = subst SameStmt (sym (stmt.rolls-Break n)) (stmt_Break n)
stmt_form (Stmt-F.Continue n) = subst SameStmt (sym (stmt.rolls-Continue n)) (stmt_Continue n)
stmt_form (Stmt-F.Return n x) = subst SameStmt (sym (stmt.rolls-Return n x)) (stmt_Return n x)
stmt_form (Stmt-F.Yield n x) = subst SameStmt (sym (stmt.rolls-Yield n x)) (stmt_Yield n x)
stmt_form (Stmt-F.Raise n f x) = subst SameStmt (sym (stmt.rolls-Raise n f x)) (stmt_Raise n f x)
stmt_form (Stmt-F.Assert n x y) = subst SameStmt (sym (stmt.rolls-Assert n x y)) (stmt_Assert n x y)
stmt_form (Stmt-F.Annotated n f t x) = subst SameStmt (sym (stmt.rolls-Annotated n f t x)) (stmt_Annotated n f t x)
stmt_form (Stmt-F.Assign n w x) = subst SameStmt (sym (stmt.rolls-Assign n w x)) (stmt_Assign n w x)
stmt_form (Stmt-F.Update n w o x) = subst SameStmt (sym (stmt.rolls-Update n w o x)) (stmt_Update n w o x)
stmt_form (Stmt-F.Evaluate n x) = subst SameStmt (sym (stmt.rolls-Evaluate n x)) (stmt_Evaluate n x)
stmt_form (Stmt-F.Print n p) = subst SameStmt (sym (stmt.rolls-Print n p)) (stmt_Print n p)
stmt_form (Stmt-F.Pipeline n x ss) = subst SameStmt (sym (stmt.rolls-Pipeline n x ss)) (stmt_Pipeline n x ss)
stmt_form (Stmt-F.If n arms other) = subst SameStmt (sym (stmt.rolls-If n (map arm_tree arms) (map stmt_tree other))) (stmt_If n (map arm_tree arms) (map stmt_tree other) (each_arm arms) (each_stmt other))
stmt_form (Stmt-F.While n x body) = subst SameStmt (sym (stmt.rolls-While n x (map stmt_tree body))) (stmt_While n x (map stmt_tree body) (each_stmt body))
stmt_form (Stmt-F.For loop) = subst SameStmt (sym (stmt.rolls-For loop.0)) (stmt_For loop.0 loop.1)
stmt_form (Stmt-F.Par n o loop) = subst SameStmt (sym (stmt.rolls-Par n o loop.0)) (stmt_Par n o loop.0 loop.1)

arm_form : (y : Arm-F StmtPart ArmPart LoopPart) → SameArm (roll-Arm (map-Arm StmtPart ArmPart LoopPart Stmt Arm For stmt_tree arm_tree loop_tree y))
arm_form y = arm_by (arm_of y.condition (map stmt_tree y.body)) (each_stmt y.body)

loop_form : (y : For-F StmtPart ArmPart LoopPart) → SameFor (roll-For (map-For StmtPart ArmPart LoopPart Stmt Arm For stmt_tree arm_tree loop_tree y))
loop_form y = for_by (loop_with y.node y.names y.iterable (map stmt_tree y.body)) (each_stmt y.body)

same_stmt : (s : Stmt) → SameStmt s
same_stmt = ind-Stmt SameStmt SameArm SameFor
    (λ x y eq. subst (λ d. SameStmt (roll-Stmt d)) eq (stmt_form y))
    (λ x y eq. subst (λ d. SameArm (roll-Arm d)) eq (arm_form y))
    (λ x y eq. subst (λ d. SameFor (roll-For d)) eq (loop_form y))

-- ---- functions, classes and sources

mark_same : (o : Option Annotation) → of_optional_annotation over_parts (bare_optional bare_annotation o) ≡ of_optional_annotation over_parts o
mark_same None = refl
mark_same (Some x) = single (same_type x)

same_param : (p : Param) → height_of_param (bare_param p) ≡ height_of_param p
same_param p = ap over (join (mark_same p.annotation) (maybe_same p.default))

same_function : (f : Function) → height_of_function (bare_function f) ≡ height_of_function f
same_function f =
    ap over (join (join (ap (λ z. 1 ∷ z) (map_same height_of_param bare_param f.params (each_by _ same_param f.params))) (mark_same f.result)) (map_same height_of_stmt bare_stmt f.body (each_by _ same_stmt f.body)))

same_member : (m : Member) → height_of_member (bare_member m) ≡ height_of_member m
same_member (member.Field n name type) = ap (λ z. over (1 ∷ z ∷ [])) (same_type type)
same_member (member.Text n value) = refl
same_member (member.Pass n) = refl
same_member (member.Method f) = same_function f

same_class : (c : Class) → height_of_class (bare_class c) ≡ height_of_class c
same_class c = ap (λ z. over (1 ∷ z)) (map_same height_of_member bare_member c.members (each_by _ same_member c.members))

same_item : (i : Item) → height_of_item (bare_item i) ≡ height_of_item i
same_item (item.Stmt s) = same_stmt s
same_item (item.Function f) = same_function f
same_item (item.Class c) = same_class c

pub same_module : (m : Module) → height_of (bare_module m) ≡ height_of m
same_module m = ap highest (map_same height_of_item bare_item m.items (each_by _ same_item m.items))
