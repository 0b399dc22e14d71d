-- The same of types, statements, functions, classes and sources.
use Rattle.std.proofs.Common.{◌≡◌, ℕ, List, [], ◌∷◌, ◌++◌, map, Option, Some, None, sym, ◌∙◌, ap, subst, append_assoc}
use Rattle.std.specs.List.{flat_map}
use Rattle.std.specs.Option.{option_map}
use Rattle.source_trees.specs.declared.operator.BinaryOp.{BinaryOp}
use Rattle.source_trees.specs.declared.node.Node.{Node}
use Rattle.source_trees.specs.declared.node.Name.{Name}
use Rattle.source_trees.specs.declared.expression.Expr.{Expr}
use Rattle.source_trees.specs.declared.item.Annotation.{Annotation, Annotation-F, roll-Annotation, ind-Annotation, map-Annotation, fold-Annotation, fold-roll-Annotation}
use Rattle.source_trees.specs.declared.item.Annotation.TheVariants as annotation
use Rattle.source_trees.specs.declared.pipeline.PrintOptions.{PrintOptions}
use Rattle.source_trees.specs.declared.pipeline.PrintOptions.TheVariants as options
use Rattle.source_trees.specs.declared.pipeline.Printed.{Printed}
use Rattle.source_trees.specs.declared.pipeline.Stage.{Stage}
use Rattle.source_trees.specs.declared.pipeline.StageForm.{StageForm}
use Rattle.source_trees.specs.declared.pipeline.StageForm.TheVariants as form
use Rattle.source_trees.specs.declared.statement.Arm.{Arm, roll-Arm}
use Rattle.source_trees.specs.declared.statement.For.{For, roll-For}
use Rattle.source_trees.specs.declared.statement.LoopNames.{LoopNames}
use Rattle.source_trees.specs.declared.statement.ParOptions.{ParOptions}
use Rattle.source_trees.specs.declared.statement.Stmt.{Stmt, Stmt-F, roll-Stmt, ind-Stmt}
use Rattle.source_trees.specs.declared.statement.Stmt.TheOpen.{Arm-F, For-F}
use Rattle.source_trees.specs.declared.statement.Stmt.TheFolds.{fold-Stmt, fold-Arm, fold-For, map-Stmt, map-Arm, map-For, fold-roll-Stmt, fold_out-Arm, fold_out-For}
use Rattle.source_trees.specs.declared.statement.Stmt.TheVariants as stmt
use Rattle.source_trees.specs.declared.statement.Target.{Target}
use Rattle.source_trees.specs.declared.statement.Target.TheVariants as target
use Rattle.source_trees.specs.declared.statement.Targets.{Targets}
use Rattle.source_trees.specs.declared.statement.Targets.TheVariants as targets
use Rattle.source_trees.specs.Bare.{bare, bare_name, bare_loop_names, bare_expr, bare_optional, bare_annotation, bare_target, bare_targets, bare_print_options, bare_printed, bare_stage_form, bare_stage, bare_stmt, bare_arm, bare_for}
use Rattle.source_trees.specs.Nodes.{joined, before_parts, nodes_of_expr, nodes_of_annotation, nodes_of_target, nodes_of_targets, nodes_of_stage, nodes_of_stmt, nodes_of_for}
use Rattle.source_trees.specs.Parts.{of_name, of_loop_names, of_optional_expr, of_print_options, of_printed, of_stage_form, of_arm}
use Rattle.source_trees.proofs.Equations as q
use Rattle.source_trees.proofs.BareForms as shape
use Rattle.bare_trees.proofs.Restore.{State, headed, ret, seq, all, opt, Good, Parts, ret_parts, seq_parts, one, good_headed, good_by, Each, all_parts, each_by, restore_name, good_name, restore_loop, loop_parts, restore_expr, good_expr}

-- one value of which another is made
abbrev pub made : {X Y : Type 0} → (X → Y) → State X → State Y
made g s = λ ks. (g (s ks).0, (s ks).1)

pub good_made : {X Y : Type 0} (g : X → Y) (x : X) (s : State X) (nodes : List Node) → Good x s nodes → Good (g x) (made g s) nodes
good_made g x s nodes h rest = ap (λ p. (g p.0, p.1)) (h rest)

pub exprs_parts : (xs : List Expr) → Parts xs (all (map restore_expr (map bare_expr xs))) (map nodes_of_expr xs)
exprs_parts xs = all_parts restore_expr bare_expr nodes_of_expr xs (each_by _ good_expr xs)

pub expr_one : (x : Expr) → Parts x (restore_expr (bare_expr x)) (nodes_of_expr x ∷ [])
expr_one x = one x (restore_expr (bare_expr x)) (nodes_of_expr x) (good_expr x)

pub name_one : (x : Name) → Parts x (restore_name (bare_name x)) (of_name before_parts x ∷ [])
name_one x = one x (restore_name (bare_name x)) (of_name before_parts x) (good_name x)

pub option_parts : (o : Option Expr) → Parts o (opt (option_map restore_expr (bare_optional bare_expr o))) (of_optional_expr before_parts o)
option_parts None = ret_parts None
option_parts (Some x) = seq_parts Some (ret Some) [] x (restore_expr (bare_expr x)) (nodes_of_expr x ∷ []) (ret_parts Some) (expr_one x)

-- ---- types

abbrev type_step : Annotation-F (State Annotation) → State Annotation
type_step (Annotation-F.Int n) = headed n (λ n. ret (annotation.Int n))
type_step (Annotation-F.Bool n) = headed n (λ n. ret (annotation.Bool n))
type_step (Annotation-F.Str n) = headed n (λ n. ret (annotation.Str n))
type_step (Annotation-F.None n) = headed n (λ n. ret (annotation.None n))
type_step (Annotation-F.Class n s) = headed n (λ n. ret (annotation.Class n s))
type_step (Annotation-F.List n x) = headed n (λ n. seq (ret (annotation.List n)) x)
type_step (Annotation-F.Tuple n xs) = headed n (λ n. seq (ret (annotation.Tuple n)) (all xs))

unfoldable pub restore_type : Annotation → State Annotation
restore_type = fold-Annotation (State Annotation) type_step

abbrev pub GoodType : Annotation → Type 0
GoodType x = Good x (restore_type (bare_annotation x)) (nodes_of_annotation x)

restore_Int : (n : Node) → restore_type (annotation.Int n) ≡ headed n (λ n. ret (annotation.Int n))
unfolding restore_type
restore_Int n = ap restore_type (sym (annotation.rolls-Int n)) ∙ fold-roll-Annotation (State Annotation) type_step (Annotation-F.Int n)

case_Int : (n : Node) → GoodType (annotation.Int n)
case_Int n =
    good_by (annotation.Int n) (restore_type (bare_annotation (annotation.Int n))) (headed (bare n) (λ n. ret (annotation.Int n))) (nodes_of_annotation (annotation.Int n)) (n ∷ joined [])
    (ap restore_type (shape.annotation_Int n) ∙ restore_Int (bare n)) (q.annotation_Int before_parts n) (good_headed n (annotation.Int n) (λ n. ret (annotation.Int n)) [] (ret_parts (annotation.Int n)))

restore_Bool : (n : Node) → restore_type (annotation.Bool n) ≡ headed n (λ n. ret (annotation.Bool n))
unfolding restore_type
restore_Bool n = ap restore_type (sym (annotation.rolls-Bool n)) ∙ fold-roll-Annotation (State Annotation) type_step (Annotation-F.Bool n)

case_Bool : (n : Node) → GoodType (annotation.Bool n)
case_Bool n =
    good_by (annotation.Bool n) (restore_type (bare_annotation (annotation.Bool n))) (headed (bare n) (λ n. ret (annotation.Bool n))) (nodes_of_annotation (annotation.Bool n)) (n ∷ joined [])
    (ap restore_type (shape.annotation_Bool n) ∙ restore_Bool (bare n)) (q.annotation_Bool before_parts n) (good_headed n (annotation.Bool n) (λ n. ret (annotation.Bool n)) [] (ret_parts (annotation.Bool n)))

restore_Str : (n : Node) → restore_type (annotation.Str n) ≡ headed n (λ n. ret (annotation.Str n))
unfolding restore_type
restore_Str n = ap restore_type (sym (annotation.rolls-Str n)) ∙ fold-roll-Annotation (State Annotation) type_step (Annotation-F.Str n)

case_Str : (n : Node) → GoodType (annotation.Str n)
case_Str n =
    good_by (annotation.Str n) (restore_type (bare_annotation (annotation.Str n))) (headed (bare n) (λ n. ret (annotation.Str n))) (nodes_of_annotation (annotation.Str n)) (n ∷ joined [])
    (ap restore_type (shape.annotation_Str n) ∙ restore_Str (bare n)) (q.annotation_Str before_parts n) (good_headed n (annotation.Str n) (λ n. ret (annotation.Str n)) [] (ret_parts (annotation.Str n)))

restore_None : (n : Node) → restore_type (annotation.None n) ≡ headed n (λ n. ret (annotation.None n))
unfolding restore_type
restore_None n = ap restore_type (sym (annotation.rolls-None n)) ∙ fold-roll-Annotation (State Annotation) type_step (Annotation-F.None n)

case_None : (n : Node) → GoodType (annotation.None n)
case_None n =
    good_by (annotation.None n) (restore_type (bare_annotation (annotation.None n))) (headed (bare n) (λ n. ret (annotation.None n))) (nodes_of_annotation (annotation.None n)) (n ∷ joined [])
    (ap restore_type (shape.annotation_None n) ∙ restore_None (bare n)) (q.annotation_None before_parts n) (good_headed n (annotation.None n) (λ n. ret (annotation.None n)) [] (ret_parts (annotation.None n)))

restore_Class : (n : Node) (s : List ℕ) → restore_type (annotation.Class n s) ≡ headed n (λ n. ret (annotation.Class n s))
unfolding restore_type
restore_Class n s = ap restore_type (sym (annotation.rolls-Class n s)) ∙ fold-roll-Annotation (State Annotation) type_step (Annotation-F.Class n s)

case_Class : (n : Node) (s : List ℕ) → GoodType (annotation.Class n s)
case_Class n s =
    good_by (annotation.Class n s) (restore_type (bare_annotation (annotation.Class n s))) (headed (bare n) (λ n. ret (annotation.Class n s))) (nodes_of_annotation (annotation.Class n s)) (n ∷ joined [])
    (ap restore_type (shape.annotation_Class n s) ∙ restore_Class (bare n) s) (q.annotation_Class before_parts n s) (good_headed n (annotation.Class n s) (λ n. ret (annotation.Class n s)) [] (ret_parts (annotation.Class n s)))

restore_List : (n : Node) (x : Annotation) → restore_type (annotation.List n x) ≡ headed n (λ n. seq (ret (annotation.List n)) (restore_type x))
unfolding restore_type
restore_List n x = ap restore_type (sym (annotation.rolls-List n x)) ∙ fold-roll-Annotation (State Annotation) type_step (Annotation-F.List n x)

case_List : (n : Node) (x : Annotation) → GoodType x → GoodType (annotation.List n x)
case_List n x h =
    good_by (annotation.List n x) (restore_type (bare_annotation (annotation.List n x))) (headed (bare n) (λ n. seq (ret (annotation.List n)) (restore_type (bare_annotation x)))) (nodes_of_annotation (annotation.List n x)) (n ∷ joined (nodes_of_annotation x ∷ []))
    (ap restore_type (shape.annotation_List n x) ∙ restore_List (bare n) (bare_annotation x)) (q.annotation_List before_parts n x) (good_headed n (annotation.List n x) (λ n. seq (ret (annotation.List n)) (restore_type (bare_annotation x))) (nodes_of_annotation x ∷ []) (seq_parts (annotation.List n) (ret (annotation.List n)) [] x (restore_type (bare_annotation x)) (nodes_of_annotation x ∷ []) (ret_parts (annotation.List n)) (one x (restore_type (bare_annotation x)) (nodes_of_annotation x) h)))

restore_Tuple : (n : Node) (xs : List Annotation) → restore_type (annotation.Tuple n xs) ≡ headed n (λ n. seq (ret (annotation.Tuple n)) (all (map restore_type xs)))
unfolding restore_type
restore_Tuple n xs = ap restore_type (sym (annotation.rolls-Tuple n xs)) ∙ fold-roll-Annotation (State Annotation) type_step (Annotation-F.Tuple n xs)

case_Tuple : (n : Node) (xs : List Annotation) → Each GoodType xs → GoodType (annotation.Tuple n xs)
case_Tuple n xs h =
    good_by (annotation.Tuple n xs) (restore_type (bare_annotation (annotation.Tuple n xs))) (headed (bare n) (λ n. seq (ret (annotation.Tuple n)) (all (map restore_type (map bare_annotation xs))))) (nodes_of_annotation (annotation.Tuple n xs)) (n ∷ joined (map nodes_of_annotation xs))
    (ap restore_type (shape.annotation_Tuple n xs) ∙ restore_Tuple (bare n) (map bare_annotation xs)) (q.annotation_Tuple before_parts n xs) (good_headed n (annotation.Tuple n xs) (λ n. seq (ret (annotation.Tuple n)) (all (map restore_type (map bare_annotation xs)))) (map nodes_of_annotation xs) (seq_parts (annotation.Tuple n) (ret (annotation.Tuple n)) [] xs (all (map restore_type (map bare_annotation xs))) (map nodes_of_annotation xs) (ret_parts (annotation.Tuple n)) (all_parts restore_type bare_annotation nodes_of_annotation xs h)))

abbrev TypePart : Type 0
TypePart = (x : Annotation) × GoodType x

abbrev type_tree : TypePart → Annotation
type_tree p = p.0

each_type : (ps : List TypePart) → Each GoodType (map type_tree ps)
each_type [] = tt
each_type (p ∷ ps) = (p.1, each_type ps)

type_form : (y : Annotation-F TypePart) → GoodType (roll-Annotation (map-Annotation TypePart Annotation type_tree y))
type_form (Annotation-F.Int n) = subst GoodType (sym (annotation.rolls-Int n)) (case_Int n)
type_form (Annotation-F.Bool n) = subst GoodType (sym (annotation.rolls-Bool n)) (case_Bool n)
type_form (Annotation-F.Str n) = subst GoodType (sym (annotation.rolls-Str n)) (case_Str n)
type_form (Annotation-F.None n) = subst GoodType (sym (annotation.rolls-None n)) (case_None n)
type_form (Annotation-F.Class n s) = subst GoodType (sym (annotation.rolls-Class n s)) (case_Class n s)
type_form (Annotation-F.List n p) = subst GoodType (sym (annotation.rolls-List n p.0)) (case_List n p.0 p.1)
type_form (Annotation-F.Tuple n ps) = subst GoodType (sym (annotation.rolls-Tuple n (map type_tree ps))) (case_Tuple n (map type_tree ps) (each_type ps))

pub good_type : (x : Annotation) → GoodType x
good_type = ind-Annotation GoodType (λ x y eq. subst (λ d. GoodType (roll-Annotation d)) eq (type_form y))

pub type_one : (x : Annotation) → Parts x (restore_type (bare_annotation x)) (nodes_of_annotation x ∷ [])
type_one x = one x (restore_type (bare_annotation x)) (nodes_of_annotation x) (good_type x)

-- ---- targets

abbrev index_of : Node → Expr → Expr → Target
index_of n x y = target.Index n x y

abbrev restore_target : Target → State Target
restore_target (target.Name n s) = headed n (λ n. ret (target.Name n s))
restore_target (target.Index n x y) = headed n (λ n. seq (seq (ret (index_of n)) (restore_expr x)) (restore_expr y))
restore_target (target.Field n x s) = headed n (λ n. seq (ret (λ x. target.Field n x s)) (restore_expr x))

good_target : (w : Target) → Good w (restore_target (bare_target w)) (nodes_of_target w)
good_target (target.Name n s) = good_headed n (target.Name n s) (λ n. ret (target.Name n s)) [] (ret_parts (target.Name n s))
good_target (target.Index n x y) =
    good_headed n (target.Index n x y) (λ n. seq (seq (ret (index_of n)) (restore_expr (bare_expr x))) (restore_expr (bare_expr y))) (nodes_of_expr x ∷ nodes_of_expr y ∷ [])
    (seq_parts (index_of n x) (seq (ret (index_of n)) (restore_expr (bare_expr x))) (nodes_of_expr x ∷ []) y (restore_expr (bare_expr y)) (nodes_of_expr y ∷ [])
    (seq_parts (index_of n) (ret (index_of n)) [] x (restore_expr (bare_expr x)) (nodes_of_expr x ∷ []) (ret_parts (index_of n)) (expr_one x)) (expr_one y))
good_target (target.Field n x s) =
    good_headed n (target.Field n x s) (λ n. seq (ret (λ x. target.Field n x s)) (restore_expr (bare_expr x))) (nodes_of_expr x ∷ [])
    (seq_parts (λ x. target.Field n x s) (ret (λ x. target.Field n x s)) [] x (restore_expr (bare_expr x)) (nodes_of_expr x ∷ []) (ret_parts (λ x. target.Field n x s)) (expr_one x))

abbrev restore_targets : Targets → State Targets
restore_targets (targets.One w) = made targets.One (restore_target w)
restore_targets (targets.Several n ws) = headed n (λ n. seq (ret (targets.Several n)) (all (map restore_target ws)))

good_targets : (w : Targets) → Good w (restore_targets (bare_targets w)) (nodes_of_targets w)
good_targets (targets.One w) = good_made targets.One w (restore_target (bare_target w)) (nodes_of_target w) (good_target w)
good_targets (targets.Several n ws) =
    good_headed n (targets.Several n ws) (λ n. seq (ret (targets.Several n)) (all (map restore_target (map bare_target ws)))) (map nodes_of_target ws)
    (seq_parts (targets.Several n) (ret (targets.Several n)) [] ws (all (map restore_target (map bare_target ws))) (map nodes_of_target ws) (ret_parts (targets.Several n))
    (all_parts restore_target bare_target nodes_of_target ws (each_by _ good_target ws)))

-- ---- print and pipelines

abbrev restore_options : PrintOptions → State PrintOptions
restore_options options.Neither = ret options.Neither
restore_options (options.Sep x) = seq (ret options.Sep) (restore_expr x)
restore_options (options.End x) = seq (ret options.End) (restore_expr x)
restore_options (options.SepEnd x y) = seq (seq (ret options.SepEnd) (restore_expr x)) (restore_expr y)
restore_options (options.EndSep x y) = seq (seq (ret options.EndSep) (restore_expr x)) (restore_expr y)

one_option : (g : Expr → PrintOptions) (x : Expr) → Parts (g x) (seq (ret g) (restore_expr (bare_expr x))) (nodes_of_expr x ∷ [])
one_option g x = seq_parts g (ret g) [] x (restore_expr (bare_expr x)) (nodes_of_expr x ∷ []) (ret_parts g) (expr_one x)

two_options : (g : Expr → Expr → PrintOptions) (x y : Expr) → Parts (g x y) (seq (seq (ret g) (restore_expr (bare_expr x))) (restore_expr (bare_expr y))) (nodes_of_expr x ∷ nodes_of_expr y ∷ [])
two_options g x y =
    seq_parts (g x) (seq (ret g) (restore_expr (bare_expr x))) (nodes_of_expr x ∷ []) y (restore_expr (bare_expr y)) (nodes_of_expr y ∷ [])
    (seq_parts g (ret g) [] x (restore_expr (bare_expr x)) (nodes_of_expr x ∷ []) (ret_parts g) (expr_one x)) (expr_one y)

options_parts : (o : PrintOptions) → Parts o (restore_options (bare_print_options o)) (of_print_options before_parts o)
options_parts options.Neither = ret_parts options.Neither
options_parts (options.Sep x) = one_option options.Sep x
options_parts (options.End x) = one_option options.End x
options_parts (options.SepEnd x y) = two_options options.SepEnd x y
options_parts (options.EndSep x y) = two_options options.EndSep x y

abbrev printed_of : List Expr → PrintOptions → Printed
printed_of xs o = record { values = xs; options = o }

abbrev restore_printed : Printed → State Printed
restore_printed p = seq (seq (ret printed_of) (all (map restore_expr p.values))) (restore_options p.options)

printed_parts : (p : Printed) → Parts p (restore_printed (bare_printed p)) (of_printed before_parts p)
printed_parts p =
    seq_parts (printed_of p.values) (seq (ret printed_of) (all (map restore_expr (map bare_expr p.values)))) (map nodes_of_expr p.values) p.options (restore_options (bare_print_options p.options)) (of_print_options before_parts p.options)
    (seq_parts printed_of (ret printed_of) [] p.values (all (map restore_expr (map bare_expr p.values))) (map nodes_of_expr p.values) (ret_parts printed_of) (exprs_parts p.values))
    (options_parts p.options)

abbrev call_of : List ℕ → List Expr → List Expr → StageForm
call_of s xs ys = form.Call s xs ys

abbrev restore_form : StageForm → State StageForm
restore_form form.Iter = ret form.Iter
restore_form (form.Call s xs ys) = seq (seq (ret (call_of s)) (all (map restore_expr xs))) (all (map restore_expr ys))
restore_form (form.Print p) = seq (ret form.Print) (restore_printed p)

form_parts : (g : StageForm) → Parts g (restore_form (bare_stage_form g)) (of_stage_form before_parts g)
form_parts form.Iter = ret_parts form.Iter
form_parts (form.Call s xs ys) =
    seq_parts (call_of s xs) (seq (ret (call_of s)) (all (map restore_expr (map bare_expr xs)))) (map nodes_of_expr xs) ys (all (map restore_expr (map bare_expr ys))) (map nodes_of_expr ys)
    (seq_parts (call_of s) (ret (call_of s)) [] xs (all (map restore_expr (map bare_expr xs))) (map nodes_of_expr xs) (ret_parts (call_of s)) (exprs_parts xs))
    (exprs_parts ys)
form_parts (form.Print p) = seq_parts form.Print (ret form.Print) [] p (restore_printed (bare_printed p)) (of_printed before_parts p) (ret_parts form.Print) (printed_parts p)

abbrev staged : Stage → Node → StageForm → Stage
staged s n g = record { node = n; joint = s.joint; form = g }

abbrev restore_stage : Stage → State Stage
restore_stage s = headed s.node (λ n. seq (ret (staged s n)) (restore_form s.form))

good_stage : (s : Stage) → Good s (restore_stage (bare_stage s)) (nodes_of_stage s)
good_stage s =
    good_headed s.node s (λ n. seq (ret (staged s n)) (restore_form (bare_stage_form s.form))) (of_stage_form before_parts s.form)
    (seq_parts (staged s s.node) (ret (staged s s.node)) [] s.form (restore_form (bare_stage_form s.form)) (of_stage_form before_parts s.form) (ret_parts (staged s s.node)) (form_parts s.form))

-- ---- statements

abbrev stmt_step : Stmt-F (State Stmt) (State Arm) (State For) → State Stmt
stmt_step (Stmt-F.Pass n) = headed n (λ n. ret (stmt.Pass n))
stmt_step (Stmt-F.Break n) = headed n (λ n. ret (stmt.Break n))
stmt_step (Stmt-F.Continue n) = headed n (λ n. ret (stmt.Continue n))
stmt_step (Stmt-F.Return n x) = headed n (λ n. seq (ret (λ x. stmt.Return n x)) (opt (option_map restore_expr x)))
stmt_step (Stmt-F.Yield n x) = headed n (λ n. seq (ret (λ x. stmt.Yield n x)) (restore_expr x))
stmt_step (Stmt-F.Raise n f x) = headed n (λ n. seq (seq (ret (λ f x. stmt.Raise n f x)) (restore_name f)) (opt (option_map restore_expr x)))
stmt_step (Stmt-F.Assert n x y) = headed n (λ n. seq (seq (ret (λ x y. stmt.Assert n x y)) (restore_expr x)) (opt (option_map restore_expr y)))
stmt_step (Stmt-F.Annotated n f t x) = headed n (λ n. seq (seq (seq (ret (λ f t x. stmt.Annotated n f t x)) (restore_name f)) (restore_type t)) (opt (option_map restore_expr x)))
stmt_step (Stmt-F.Assign n w x) = headed n (λ n. seq (seq (ret (λ w x. stmt.Assign n w x)) (restore_targets w)) (restore_expr x))
stmt_step (Stmt-F.Update n w o x) = headed n (λ n. seq (seq (ret (λ w x. stmt.Update n w o x)) (restore_target w)) (restore_expr x))
stmt_step (Stmt-F.Evaluate n x) = headed n (λ n. seq (ret (λ x. stmt.Evaluate n x)) (restore_expr x))
stmt_step (Stmt-F.Print n p) = headed n (λ n. seq (ret (λ p. stmt.Print n p)) (restore_printed p))
stmt_step (Stmt-F.Pipeline n x ss) = headed n (λ n. seq (seq (ret (λ x ss. stmt.Pipeline n x ss)) (restore_expr x)) (all (map restore_stage ss)))
stmt_step (Stmt-F.If n arms other) = headed n (λ n. seq (seq (ret (λ arms other. stmt.If n arms other)) (all arms)) (all other))
stmt_step (Stmt-F.While n x body) = headed n (λ n. seq (seq (ret (λ x body. stmt.While n x body)) (restore_expr x)) (all body))
stmt_step (Stmt-F.For loop) = made stmt.For loop
stmt_step (Stmt-F.Par n o loop) = headed n (λ n. seq (ret (λ loop. stmt.Par n o loop)) loop)

abbrev arm_of : Expr → List Stmt → Arm
arm_of x body = record { condition = x; body = body }

abbrev arm_step : Arm-F (State Stmt) (State Arm) (State For) → State Arm
arm_step a = seq (seq (ret arm_of) (restore_expr a.condition)) (all a.body)

abbrev for_step : For-F (State Stmt) (State Arm) (State For) → State For
for_step l = headed l.node (λ n. seq (seq (seq (ret (λ ns x body. record { node = n; names = ns; iterable = x; body = body })) (restore_loop l.names)) (restore_expr l.iterable)) (all l.body))

unfoldable pub restore_stmt : Stmt → State Stmt
restore_stmt = fold-Stmt (State Stmt) (State Arm) (State For) stmt_step arm_step for_step

unfoldable pub restore_arm : Arm → State Arm
restore_arm = fold-Arm (State Stmt) (State Arm) (State For) stmt_step arm_step for_step

unfoldable pub restore_for : For → State For
restore_for = fold-For (State Stmt) (State Arm) (State For) stmt_step arm_step for_step

abbrev pub GoodStmt : Stmt → Type 0
GoodStmt s = Good s (restore_stmt (bare_stmt s)) (nodes_of_stmt s)

abbrev pub GoodArm : Arm → Type 0
GoodArm a = Parts a (restore_arm (bare_arm a)) (of_arm before_parts a)

abbrev pub GoodFor : For → Type 0
GoodFor l = Good l (restore_for (bare_for l)) (nodes_of_for l)

arms_parts : (arms : List Arm) → Each GoodArm arms → Parts arms (all (map restore_arm (map bare_arm arms))) (flat_map (λ arm. arm) (map (of_arm before_parts) arms))
arms_parts [] h = ret_parts []
arms_parts (a ∷ arms) h =
    seq_parts (λ ys. a ∷ ys) (seq (ret (λ y ys. y ∷ ys)) (restore_arm (bare_arm a))) (of_arm before_parts a) arms (all (map restore_arm (map bare_arm arms))) (flat_map (λ arm. arm) (map (of_arm before_parts) arms))
    (seq_parts (λ y ys. y ∷ ys) (ret (λ y ys. y ∷ ys)) [] a (restore_arm (bare_arm a)) (of_arm before_parts a) (ret_parts (λ y ys. y ∷ ys)) h.0) (arms_parts arms h.1)

again_Pass : (n : Node) → restore_stmt (stmt.Pass n) ≡ headed n (λ n. ret (stmt.Pass n))
unfolding restore_stmt restore_arm restore_for
again_Pass n = ap restore_stmt (sym (stmt.rolls-Pass n)) ∙ fold-roll-Stmt (State Stmt) (State Arm) (State For) stmt_step arm_step for_step (Stmt-F.Pass n)

stmt_Pass : (n : Node) → GoodStmt (stmt.Pass n)
stmt_Pass n =
    good_by (stmt.Pass n) (restore_stmt (bare_stmt (stmt.Pass n))) (headed (bare n) (λ n. ret (stmt.Pass n))) (nodes_of_stmt (stmt.Pass n)) (n ∷ joined ([]))
    (ap restore_stmt (shape.stmt_Pass n) ∙ again_Pass (bare n)) (q.stmt_Pass before_parts n) (good_headed n (stmt.Pass n) (λ n. ret (stmt.Pass n)) ([]) (ret_parts (stmt.Pass n)))

again_Break : (n : Node) → restore_stmt (stmt.Break n) ≡ headed n (λ n. ret (stmt.Break n))
unfolding restore_stmt restore_arm restore_for
again_Break n = ap restore_stmt (sym (stmt.rolls-Break n)) ∙ fold-roll-Stmt (State Stmt) (State Arm) (State For) stmt_step arm_step for_step (Stmt-F.Break n)

stmt_Break : (n : Node) → GoodStmt (stmt.Break n)
stmt_Break n =
    good_by (stmt.Break n) (restore_stmt (bare_stmt (stmt.Break n))) (headed (bare n) (λ n. ret (stmt.Break n))) (nodes_of_stmt (stmt.Break n)) (n ∷ joined ([]))
    (ap restore_stmt (shape.stmt_Break n) ∙ again_Break (bare n)) (q.stmt_Break before_parts n) (good_headed n (stmt.Break n) (λ n. ret (stmt.Break n)) ([]) (ret_parts (stmt.Break n)))

again_Continue : (n : Node) → restore_stmt (stmt.Continue n) ≡ headed n (λ n. ret (stmt.Continue n))
unfolding restore_stmt restore_arm restore_for
again_Continue n = ap restore_stmt (sym (stmt.rolls-Continue n)) ∙ fold-roll-Stmt (State Stmt) (State Arm) (State For) stmt_step arm_step for_step (Stmt-F.Continue n)

stmt_Continue : (n : Node) → GoodStmt (stmt.Continue n)
stmt_Continue n =
    good_by (stmt.Continue n) (restore_stmt (bare_stmt (stmt.Continue n))) (headed (bare n) (λ n. ret (stmt.Continue n))) (nodes_of_stmt (stmt.Continue n)) (n ∷ joined ([]))
    (ap restore_stmt (shape.stmt_Continue n) ∙ again_Continue (bare n)) (q.stmt_Continue before_parts n) (good_headed n (stmt.Continue n) (λ n. ret (stmt.Continue n)) ([]) (ret_parts (stmt.Continue n)))

again_Return : (n : Node) (x : Option Expr) → restore_stmt (stmt.Return n x) ≡ headed n (λ n. seq (ret (λ x. stmt.Return n x)) (opt (option_map restore_expr x)))
unfolding restore_stmt restore_arm restore_for
again_Return n x = ap restore_stmt (sym (stmt.rolls-Return n x)) ∙ fold-roll-Stmt (State Stmt) (State Arm) (State For) stmt_step arm_step for_step (Stmt-F.Return n x)

stmt_Return : (n : Node) (x : Option Expr) → GoodStmt (stmt.Return n x)
stmt_Return n x =
    good_by (stmt.Return n x) (restore_stmt (bare_stmt (stmt.Return n x))) (headed (bare n) (λ n. seq (ret (λ x. stmt.Return n x)) (opt (option_map restore_expr (bare_optional bare_expr x))))) (nodes_of_stmt (stmt.Return n x)) (n ∷ joined (([]) ++ (of_optional_expr before_parts x)))
    (ap restore_stmt (shape.stmt_Return n x) ∙ again_Return (bare n) (bare_optional bare_expr x)) (q.stmt_Return before_parts n x) (good_headed n (stmt.Return n x) (λ n. seq (ret (λ x. stmt.Return n x)) (opt (option_map restore_expr (bare_optional bare_expr x)))) (([]) ++ (of_optional_expr before_parts x)) (seq_parts (λ x. stmt.Return n x) (ret (λ x. stmt.Return n x)) ([]) x (opt (option_map restore_expr (bare_optional bare_expr x))) (of_optional_expr before_parts x) (ret_parts (λ x. stmt.Return n x)) (option_parts x)))

again_Yield : (n : Node) (x : Expr) → restore_stmt (stmt.Yield n x) ≡ headed n (λ n. seq (ret (λ x. stmt.Yield n x)) (restore_expr x))
unfolding restore_stmt restore_arm restore_for
again_Yield n x = ap restore_stmt (sym (stmt.rolls-Yield n x)) ∙ fold-roll-Stmt (State Stmt) (State Arm) (State For) stmt_step arm_step for_step (Stmt-F.Yield n x)

stmt_Yield : (n : Node) (x : Expr) → GoodStmt (stmt.Yield n x)
stmt_Yield n x =
    good_by (stmt.Yield n x) (restore_stmt (bare_stmt (stmt.Yield n x))) (headed (bare n) (λ n. seq (ret (λ x. stmt.Yield n x)) (restore_expr (bare_expr x)))) (nodes_of_stmt (stmt.Yield n x)) (n ∷ joined (([]) ++ (nodes_of_expr x ∷ [])))
    (ap restore_stmt (shape.stmt_Yield n x) ∙ again_Yield (bare n) (bare_expr x)) (q.stmt_Yield before_parts n x) (good_headed n (stmt.Yield n x) (λ n. seq (ret (λ x. stmt.Yield n x)) (restore_expr (bare_expr x))) (([]) ++ (nodes_of_expr x ∷ [])) (seq_parts (λ x. stmt.Yield n x) (ret (λ x. stmt.Yield n x)) ([]) x (restore_expr (bare_expr x)) (nodes_of_expr x ∷ []) (ret_parts (λ x. stmt.Yield n x)) (expr_one x)))

again_Raise : (n : Node) (f : Name) (x : Option Expr) → restore_stmt (stmt.Raise n f x) ≡ headed n (λ n. seq (seq (ret (λ f x. stmt.Raise n f x)) (restore_name f)) (opt (option_map restore_expr x)))
unfolding restore_stmt restore_arm restore_for
again_Raise n f x = ap restore_stmt (sym (stmt.rolls-Raise n f x)) ∙ fold-roll-Stmt (State Stmt) (State Arm) (State For) stmt_step arm_step for_step (Stmt-F.Raise n f x)

stmt_Raise : (n : Node) (f : Name) (x : Option Expr) → GoodStmt (stmt.Raise n f x)
stmt_Raise n f x =
    good_by (stmt.Raise n f x) (restore_stmt (bare_stmt (stmt.Raise n f x))) (headed (bare n) (λ n. seq (seq (ret (λ f x. stmt.Raise n f x)) (restore_name (bare_name f))) (opt (option_map restore_expr (bare_optional bare_expr x))))) (nodes_of_stmt (stmt.Raise n f x)) (n ∷ joined ((([]) ++ (of_name before_parts f ∷ [])) ++ (of_optional_expr before_parts x)))
    (ap restore_stmt (shape.stmt_Raise n f x) ∙ again_Raise (bare n) (bare_name f) (bare_optional bare_expr x)) (q.stmt_Raise before_parts n f x) (good_headed n (stmt.Raise n f x) (λ n. seq (seq (ret (λ f x. stmt.Raise n f x)) (restore_name (bare_name f))) (opt (option_map restore_expr (bare_optional bare_expr x)))) ((([]) ++ (of_name before_parts f ∷ [])) ++ (of_optional_expr before_parts x)) (seq_parts (λ x. stmt.Raise n f x) (seq (ret (λ f x. stmt.Raise n f x)) (restore_name (bare_name f))) (([]) ++ (of_name before_parts f ∷ [])) x (opt (option_map restore_expr (bare_optional bare_expr x))) (of_optional_expr before_parts x) (seq_parts (λ f x. stmt.Raise n f x) (ret (λ f x. stmt.Raise n f x)) ([]) f (restore_name (bare_name f)) (of_name before_parts f ∷ []) (ret_parts (λ f x. stmt.Raise n f x)) (name_one f)) (option_parts x)))

again_Assert : (n : Node) (x : Expr) (y : Option Expr) → restore_stmt (stmt.Assert n x y) ≡ headed n (λ n. seq (seq (ret (λ x y. stmt.Assert n x y)) (restore_expr x)) (opt (option_map restore_expr y)))
unfolding restore_stmt restore_arm restore_for
again_Assert n x y = ap restore_stmt (sym (stmt.rolls-Assert n x y)) ∙ fold-roll-Stmt (State Stmt) (State Arm) (State For) stmt_step arm_step for_step (Stmt-F.Assert n x y)

stmt_Assert : (n : Node) (x : Expr) (y : Option Expr) → GoodStmt (stmt.Assert n x y)
stmt_Assert n x y =
    good_by (stmt.Assert n x y) (restore_stmt (bare_stmt (stmt.Assert n x y))) (headed (bare n) (λ n. seq (seq (ret (λ x y. stmt.Assert n x y)) (restore_expr (bare_expr x))) (opt (option_map restore_expr (bare_optional bare_expr y))))) (nodes_of_stmt (stmt.Assert n x y)) (n ∷ joined ((([]) ++ (nodes_of_expr x ∷ [])) ++ (of_optional_expr before_parts y)))
    (ap restore_stmt (shape.stmt_Assert n x y) ∙ again_Assert (bare n) (bare_expr x) (bare_optional bare_expr y)) (q.stmt_Assert before_parts n x y) (good_headed n (stmt.Assert n x y) (λ n. seq (seq (ret (λ x y. stmt.Assert n x y)) (restore_expr (bare_expr x))) (opt (option_map restore_expr (bare_optional bare_expr y)))) ((([]) ++ (nodes_of_expr x ∷ [])) ++ (of_optional_expr before_parts y)) (seq_parts (λ y. stmt.Assert n x y) (seq (ret (λ x y. stmt.Assert n x y)) (restore_expr (bare_expr x))) (([]) ++ (nodes_of_expr x ∷ [])) y (opt (option_map restore_expr (bare_optional bare_expr y))) (of_optional_expr before_parts y) (seq_parts (λ x y. stmt.Assert n x y) (ret (λ x y. stmt.Assert n x y)) ([]) x (restore_expr (bare_expr x)) (nodes_of_expr x ∷ []) (ret_parts (λ x y. stmt.Assert n x y)) (expr_one x)) (option_parts y)))

again_Annotated : (n : Node) (f : Name) (t : Annotation) (x : Option Expr) → restore_stmt (stmt.Annotated n f t x) ≡ headed n (λ n. seq (seq (seq (ret (λ f t x. stmt.Annotated n f t x)) (restore_name f)) (restore_type t)) (opt (option_map restore_expr x)))
unfolding restore_stmt restore_arm restore_for
again_Annotated n f t x = ap restore_stmt (sym (stmt.rolls-Annotated n f t x)) ∙ fold-roll-Stmt (State Stmt) (State Arm) (State For) stmt_step arm_step for_step (Stmt-F.Annotated n f t x)

stmt_Annotated : (n : Node) (f : Name) (t : Annotation) (x : Option Expr) → GoodStmt (stmt.Annotated n f t x)
stmt_Annotated n f t x =
    good_by (stmt.Annotated n f t x) (restore_stmt (bare_stmt (stmt.Annotated n f t x))) (headed (bare n) (λ n. seq (seq (seq (ret (λ f t x. stmt.Annotated n f t x)) (restore_name (bare_name f))) (restore_type (bare_annotation t))) (opt (option_map restore_expr (bare_optional bare_expr x))))) (nodes_of_stmt (stmt.Annotated n f t x)) (n ∷ joined (((([]) ++ (of_name before_parts f ∷ [])) ++ (nodes_of_annotation t ∷ [])) ++ (of_optional_expr before_parts x)))
    (ap restore_stmt (shape.stmt_Annotated n f t x) ∙ again_Annotated (bare n) (bare_name f) (bare_annotation t) (bare_optional bare_expr x)) (q.stmt_Annotated before_parts n f t x) (good_headed n (stmt.Annotated n f t x) (λ n. seq (seq (seq (ret (λ f t x. stmt.Annotated n f t x)) (restore_name (bare_name f))) (restore_type (bare_annotation t))) (opt (option_map restore_expr (bare_optional bare_expr x)))) (((([]) ++ (of_name before_parts f ∷ [])) ++ (nodes_of_annotation t ∷ [])) ++ (of_optional_expr before_parts x)) (seq_parts (λ x. stmt.Annotated n f t x) (seq (seq (ret (λ f t x. stmt.Annotated n f t x)) (restore_name (bare_name f))) (restore_type (bare_annotation t))) ((([]) ++ (of_name before_parts f ∷ [])) ++ (nodes_of_annotation t ∷ [])) x (opt (option_map restore_expr (bare_optional bare_expr x))) (of_optional_expr before_parts x) (seq_parts (λ t x. stmt.Annotated n f t x) (seq (ret (λ f t x. stmt.Annotated n f t x)) (restore_name (bare_name f))) (([]) ++ (of_name before_parts f ∷ [])) t (restore_type (bare_annotation t)) (nodes_of_annotation t ∷ []) (seq_parts (λ f t x. stmt.Annotated n f t x) (ret (λ f t x. stmt.Annotated n f t x)) ([]) f (restore_name (bare_name f)) (of_name before_parts f ∷ []) (ret_parts (λ f t x. stmt.Annotated n f t x)) (name_one f)) (type_one t)) (option_parts x)))

again_Assign : (n : Node) (w : Targets) (x : Expr) → restore_stmt (stmt.Assign n w x) ≡ headed n (λ n. seq (seq (ret (λ w x. stmt.Assign n w x)) (restore_targets w)) (restore_expr x))
unfolding restore_stmt restore_arm restore_for
again_Assign n w x = ap restore_stmt (sym (stmt.rolls-Assign n w x)) ∙ fold-roll-Stmt (State Stmt) (State Arm) (State For) stmt_step arm_step for_step (Stmt-F.Assign n w x)

stmt_Assign : (n : Node) (w : Targets) (x : Expr) → GoodStmt (stmt.Assign n w x)
stmt_Assign n w x =
    good_by (stmt.Assign n w x) (restore_stmt (bare_stmt (stmt.Assign n w x))) (headed (bare n) (λ n. seq (seq (ret (λ w x. stmt.Assign n w x)) (restore_targets (bare_targets w))) (restore_expr (bare_expr x)))) (nodes_of_stmt (stmt.Assign n w x)) (n ∷ joined ((([]) ++ (nodes_of_targets w ∷ [])) ++ (nodes_of_expr x ∷ [])))
    (ap restore_stmt (shape.stmt_Assign n w x) ∙ again_Assign (bare n) (bare_targets w) (bare_expr x)) (q.stmt_Assign before_parts n w x) (good_headed n (stmt.Assign n w x) (λ n. seq (seq (ret (λ w x. stmt.Assign n w x)) (restore_targets (bare_targets w))) (restore_expr (bare_expr x))) ((([]) ++ (nodes_of_targets w ∷ [])) ++ (nodes_of_expr x ∷ [])) (seq_parts (λ x. stmt.Assign n w x) (seq (ret (λ w x. stmt.Assign n w x)) (restore_targets (bare_targets w))) (([]) ++ (nodes_of_targets w ∷ [])) x (restore_expr (bare_expr x)) (nodes_of_expr x ∷ []) (seq_parts (λ w x. stmt.Assign n w x) (ret (λ w x. stmt.Assign n w x)) ([]) w (restore_targets (bare_targets w)) (nodes_of_targets w ∷ []) (ret_parts (λ w x. stmt.Assign n w x)) (one w (restore_targets (bare_targets w)) (nodes_of_targets w) (good_targets w))) (expr_one x)))

again_Update : (n : Node) (w : Target) (o : BinaryOp) (x : Expr) → restore_stmt (stmt.Update n w o x) ≡ headed n (λ n. seq (seq (ret (λ w x. stmt.Update n w o x)) (restore_target w)) (restore_expr x))
unfolding restore_stmt restore_arm restore_for
again_Update n w o x = ap restore_stmt (sym (stmt.rolls-Update n w o x)) ∙ fold-roll-Stmt (State Stmt) (State Arm) (State For) stmt_step arm_step for_step (Stmt-F.Update n w o x)

stmt_Update : (n : Node) (w : Target) (o : BinaryOp) (x : Expr) → GoodStmt (stmt.Update n w o x)
stmt_Update n w o x =
    good_by (stmt.Update n w o x) (restore_stmt (bare_stmt (stmt.Update n w o x))) (headed (bare n) (λ n. seq (seq (ret (λ w x. stmt.Update n w o x)) (restore_target (bare_target w))) (restore_expr (bare_expr x)))) (nodes_of_stmt (stmt.Update n w o x)) (n ∷ joined ((([]) ++ (nodes_of_target w ∷ [])) ++ (nodes_of_expr x ∷ [])))
    (ap restore_stmt (shape.stmt_Update n w o x) ∙ again_Update (bare n) (bare_target w) o (bare_expr x)) (q.stmt_Update before_parts n w o x) (good_headed n (stmt.Update n w o x) (λ n. seq (seq (ret (λ w x. stmt.Update n w o x)) (restore_target (bare_target w))) (restore_expr (bare_expr x))) ((([]) ++ (nodes_of_target w ∷ [])) ++ (nodes_of_expr x ∷ [])) (seq_parts (λ x. stmt.Update n w o x) (seq (ret (λ w x. stmt.Update n w o x)) (restore_target (bare_target w))) (([]) ++ (nodes_of_target w ∷ [])) x (restore_expr (bare_expr x)) (nodes_of_expr x ∷ []) (seq_parts (λ w x. stmt.Update n w o x) (ret (λ w x. stmt.Update n w o x)) ([]) w (restore_target (bare_target w)) (nodes_of_target w ∷ []) (ret_parts (λ w x. stmt.Update n w o x)) (one w (restore_target (bare_target w)) (nodes_of_target w) (good_target w))) (expr_one x)))

again_Evaluate : (n : Node) (x : Expr) → restore_stmt (stmt.Evaluate n x) ≡ headed n (λ n. seq (ret (λ x. stmt.Evaluate n x)) (restore_expr x))
unfolding restore_stmt restore_arm restore_for
again_Evaluate n x = ap restore_stmt (sym (stmt.rolls-Evaluate n x)) ∙ fold-roll-Stmt (State Stmt) (State Arm) (State For) stmt_step arm_step for_step (Stmt-F.Evaluate n x)

stmt_Evaluate : (n : Node) (x : Expr) → GoodStmt (stmt.Evaluate n x)
stmt_Evaluate n x =
    good_by (stmt.Evaluate n x) (restore_stmt (bare_stmt (stmt.Evaluate n x))) (headed (bare n) (λ n. seq (ret (λ x. stmt.Evaluate n x)) (restore_expr (bare_expr x)))) (nodes_of_stmt (stmt.Evaluate n x)) (n ∷ joined (([]) ++ (nodes_of_expr x ∷ [])))
    (ap restore_stmt (shape.stmt_Evaluate n x) ∙ again_Evaluate (bare n) (bare_expr x)) (q.stmt_Evaluate before_parts n x) (good_headed n (stmt.Evaluate n x) (λ n. seq (ret (λ x. stmt.Evaluate n x)) (restore_expr (bare_expr x))) (([]) ++ (nodes_of_expr x ∷ [])) (seq_parts (λ x. stmt.Evaluate n x) (ret (λ x. stmt.Evaluate n x)) ([]) x (restore_expr (bare_expr x)) (nodes_of_expr x ∷ []) (ret_parts (λ x. stmt.Evaluate n x)) (expr_one x)))

again_Print : (n : Node) (p : Printed) → restore_stmt (stmt.Print n p) ≡ headed n (λ n. seq (ret (λ p. stmt.Print n p)) (restore_printed p))
unfolding restore_stmt restore_arm restore_for
again_Print n p = ap restore_stmt (sym (stmt.rolls-Print n p)) ∙ fold-roll-Stmt (State Stmt) (State Arm) (State For) stmt_step arm_step for_step (Stmt-F.Print n p)

stmt_Print : (n : Node) (p : Printed) → GoodStmt (stmt.Print n p)
stmt_Print n p =
    good_by (stmt.Print n p) (restore_stmt (bare_stmt (stmt.Print n p))) (headed (bare n) (λ n. seq (ret (λ p. stmt.Print n p)) (restore_printed (bare_printed p)))) (nodes_of_stmt (stmt.Print n p)) (n ∷ joined (([]) ++ (of_printed before_parts p)))
    (ap restore_stmt (shape.stmt_Print n p) ∙ again_Print (bare n) (bare_printed p)) (q.stmt_Print before_parts n p) (good_headed n (stmt.Print n p) (λ n. seq (ret (λ p. stmt.Print n p)) (restore_printed (bare_printed p))) (([]) ++ (of_printed before_parts p)) (seq_parts (λ p. stmt.Print n p) (ret (λ p. stmt.Print n p)) ([]) p (restore_printed (bare_printed p)) (of_printed before_parts p) (ret_parts (λ p. stmt.Print n p)) (printed_parts p)))

again_Pipeline : (n : Node) (x : Expr) (ss : List Stage) → restore_stmt (stmt.Pipeline n x ss) ≡ headed n (λ n. seq (seq (ret (λ x ss. stmt.Pipeline n x ss)) (restore_expr x)) (all (map restore_stage ss)))
unfolding restore_stmt restore_arm restore_for
again_Pipeline n x ss = ap restore_stmt (sym (stmt.rolls-Pipeline n x ss)) ∙ fold-roll-Stmt (State Stmt) (State Arm) (State For) stmt_step arm_step for_step (Stmt-F.Pipeline n x ss)

stmt_Pipeline : (n : Node) (x : Expr) (ss : List Stage) → GoodStmt (stmt.Pipeline n x ss)
stmt_Pipeline n x ss =
    good_by (stmt.Pipeline n x ss) (restore_stmt (bare_stmt (stmt.Pipeline n x ss))) (headed (bare n) (λ n. seq (seq (ret (λ x ss. stmt.Pipeline n x ss)) (restore_expr (bare_expr x))) (all (map restore_stage (map bare_stage ss))))) (nodes_of_stmt (stmt.Pipeline n x ss)) (n ∷ joined ((([]) ++ (nodes_of_expr x ∷ [])) ++ (map nodes_of_stage ss)))
    (ap restore_stmt (shape.stmt_Pipeline n x ss) ∙ again_Pipeline (bare n) (bare_expr x) (map bare_stage ss)) (q.stmt_Pipeline before_parts n x ss) (good_headed n (stmt.Pipeline n x ss) (λ n. seq (seq (ret (λ x ss. stmt.Pipeline n x ss)) (restore_expr (bare_expr x))) (all (map restore_stage (map bare_stage ss)))) ((([]) ++ (nodes_of_expr x ∷ [])) ++ (map nodes_of_stage ss)) (seq_parts (λ ss. stmt.Pipeline n x ss) (seq (ret (λ x ss. stmt.Pipeline n x ss)) (restore_expr (bare_expr x))) (([]) ++ (nodes_of_expr x ∷ [])) ss (all (map restore_stage (map bare_stage ss))) (map nodes_of_stage ss) (seq_parts (λ x ss. stmt.Pipeline n x ss) (ret (λ x ss. stmt.Pipeline n x ss)) ([]) x (restore_expr (bare_expr x)) (nodes_of_expr x ∷ []) (ret_parts (λ x ss. stmt.Pipeline n x ss)) (expr_one x)) (all_parts restore_stage bare_stage nodes_of_stage ss (each_by _ good_stage ss))))

again_If : (n : Node) (arms : List Arm) (other : List Stmt) → restore_stmt (stmt.If n arms other) ≡ headed n (λ n. seq (seq (ret (λ arms other. stmt.If n arms other)) (all (map restore_arm arms))) (all (map restore_stmt other)))
unfolding restore_stmt restore_arm restore_for
again_If n arms other = ap restore_stmt (sym (stmt.rolls-If n arms other)) ∙ fold-roll-Stmt (State Stmt) (State Arm) (State For) stmt_step arm_step for_step (Stmt-F.If n arms other)

stmt_If : (n : Node) (arms : List Arm) (other : List Stmt) → Each GoodArm arms → Each GoodStmt other → GoodStmt (stmt.If n arms other)
stmt_If n arms other harms hother =
    good_by (stmt.If n arms other) (restore_stmt (bare_stmt (stmt.If n arms other))) (headed (bare n) (λ n. seq (seq (ret (λ arms other. stmt.If n arms other)) (all (map restore_arm (map bare_arm arms)))) (all (map restore_stmt (map bare_stmt other))))) (nodes_of_stmt (stmt.If n arms other)) (n ∷ joined ((([]) ++ (flat_map (λ arm. arm) (map (of_arm before_parts) arms))) ++ (map nodes_of_stmt other)))
    (ap restore_stmt (shape.stmt_If n arms other) ∙ again_If (bare n) (map bare_arm arms) (map bare_stmt other)) (q.stmt_If before_parts n arms other) (good_headed n (stmt.If n arms other) (λ n. seq (seq (ret (λ arms other. stmt.If n arms other)) (all (map restore_arm (map bare_arm arms)))) (all (map restore_stmt (map bare_stmt other)))) ((([]) ++ (flat_map (λ arm. arm) (map (of_arm before_parts) arms))) ++ (map nodes_of_stmt other)) (seq_parts (λ other. stmt.If n arms other) (seq (ret (λ arms other. stmt.If n arms other)) (all (map restore_arm (map bare_arm arms)))) (([]) ++ (flat_map (λ arm. arm) (map (of_arm before_parts) arms))) other (all (map restore_stmt (map bare_stmt other))) (map nodes_of_stmt other) (seq_parts (λ arms other. stmt.If n arms other) (ret (λ arms other. stmt.If n arms other)) ([]) arms (all (map restore_arm (map bare_arm arms))) (flat_map (λ arm. arm) (map (of_arm before_parts) arms)) (ret_parts (λ arms other. stmt.If n arms other)) (arms_parts arms harms)) (all_parts restore_stmt bare_stmt nodes_of_stmt other hother)))

again_While : (n : Node) (x : Expr) (body : List Stmt) → restore_stmt (stmt.While n x body) ≡ headed n (λ n. seq (seq (ret (λ x body. stmt.While n x body)) (restore_expr x)) (all (map restore_stmt body)))
unfolding restore_stmt restore_arm restore_for
again_While n x body = ap restore_stmt (sym (stmt.rolls-While n x body)) ∙ fold-roll-Stmt (State Stmt) (State Arm) (State For) stmt_step arm_step for_step (Stmt-F.While n x body)

stmt_While : (n : Node) (x : Expr) (body : List Stmt) → Each GoodStmt body → GoodStmt (stmt.While n x body)
stmt_While n x body hbody =
    good_by (stmt.While n x body) (restore_stmt (bare_stmt (stmt.While n x body))) (headed (bare n) (λ n. seq (seq (ret (λ x body. stmt.While n x body)) (restore_expr (bare_expr x))) (all (map restore_stmt (map bare_stmt body))))) (nodes_of_stmt (stmt.While n x body)) (n ∷ joined ((([]) ++ (nodes_of_expr x ∷ [])) ++ (map nodes_of_stmt body)))
    (ap restore_stmt (shape.stmt_While n x body) ∙ again_While (bare n) (bare_expr x) (map bare_stmt body)) (q.stmt_While before_parts n x body) (good_headed n (stmt.While n x body) (λ n. seq (seq (ret (λ x body. stmt.While n x body)) (restore_expr (bare_expr x))) (all (map restore_stmt (map bare_stmt body)))) ((([]) ++ (nodes_of_expr x ∷ [])) ++ (map nodes_of_stmt body)) (seq_parts (λ body. stmt.While n x body) (seq (ret (λ x body. stmt.While n x body)) (restore_expr (bare_expr x))) (([]) ++ (nodes_of_expr x ∷ [])) body (all (map restore_stmt (map bare_stmt body))) (map nodes_of_stmt body) (seq_parts (λ x body. stmt.While n x body) (ret (λ x body. stmt.While n x body)) ([]) x (restore_expr (bare_expr x)) (nodes_of_expr x ∷ []) (ret_parts (λ x body. stmt.While n x body)) (expr_one x)) (all_parts restore_stmt bare_stmt nodes_of_stmt body hbody)))

case_For : (loop : For) → GoodFor loop → GoodStmt (stmt.For loop)
unfolding restore_stmt restore_arm restore_for
case_For loop h =
    good_by (stmt.For loop) (restore_stmt (bare_stmt (stmt.For loop))) (made stmt.For (restore_for (bare_for loop))) (nodes_of_stmt (stmt.For loop)) (nodes_of_for loop)
    (ap restore_stmt (shape.stmt_For loop) ∙ (ap restore_stmt (sym (stmt.rolls-For (bare_for loop))) ∙ fold-roll-Stmt (State Stmt) (State Arm) (State For) stmt_step arm_step for_step (Stmt-F.For (bare_for loop))))
    (q.stmt_For before_parts loop) (good_made stmt.For loop (restore_for (bare_for loop)) (nodes_of_for loop) h)

again_Par : (n : Node) (o : ParOptions) (loop : For) → restore_stmt (stmt.Par n o loop) ≡ headed n (λ n. seq (ret (λ loop. stmt.Par n o loop)) (restore_for loop))
unfolding restore_stmt restore_arm restore_for
again_Par n o loop = ap restore_stmt (sym (stmt.rolls-Par n o loop)) ∙ fold-roll-Stmt (State Stmt) (State Arm) (State For) stmt_step arm_step for_step (Stmt-F.Par n o loop)

stmt_Par : (n : Node) (o : ParOptions) (loop : For) → GoodFor loop → GoodStmt (stmt.Par n o loop)
stmt_Par n o loop hloop =
    good_by (stmt.Par n o loop) (restore_stmt (bare_stmt (stmt.Par n o loop))) (headed (bare n) (λ n. seq (ret (λ loop. stmt.Par n o loop)) (restore_for (bare_for loop)))) (nodes_of_stmt (stmt.Par n o loop)) (n ∷ joined (([]) ++ (nodes_of_for loop ∷ [])))
    (ap restore_stmt (shape.stmt_Par n o loop) ∙ again_Par (bare n) o (bare_for loop)) (q.stmt_Par before_parts n o loop) (good_headed n (stmt.Par n o loop) (λ n. seq (ret (λ loop. stmt.Par n o loop)) (restore_for (bare_for loop))) (([]) ++ (nodes_of_for loop ∷ [])) (seq_parts (λ loop. stmt.Par n o loop) (ret (λ loop. stmt.Par n o loop)) ([]) loop (restore_for (bare_for loop)) (nodes_of_for loop ∷ []) (ret_parts (λ loop. stmt.Par n o loop)) (one loop (restore_for (bare_for loop)) (nodes_of_for loop) hloop)))

arm_by : (a : Arm) → Each GoodStmt a.body → GoodArm a
unfolding restore_stmt restore_arm restore_for
arm_by a h =
    let s : State Arm = seq (seq (ret arm_of) (restore_expr (bare_expr a.condition))) (all (map restore_stmt (map bare_stmt a.body))) in
    let ps : List (List Node) = nodes_of_expr a.condition ∷ map nodes_of_stmt a.body in
    good_by a (restore_arm (bare_arm a)) s (joined (of_arm before_parts a)) (joined ps)
    (ap restore_arm (shape.arm_is a) ∙ fold_out-Arm (State Stmt) (State Arm) (State For) stmt_step arm_step for_step (arm_of (bare_expr a.condition) (map bare_stmt a.body)))
    (ap joined (q.arm_is before_parts a))
    (seq_parts (arm_of a.condition) (seq (ret arm_of) (restore_expr (bare_expr a.condition))) (nodes_of_expr a.condition ∷ []) a.body (all (map restore_stmt (map bare_stmt a.body))) (map nodes_of_stmt a.body)
    (seq_parts arm_of (ret arm_of) [] a.condition (restore_expr (bare_expr a.condition)) (nodes_of_expr a.condition ∷ []) (ret_parts arm_of) (expr_one a.condition))
    (all_parts restore_stmt bare_stmt nodes_of_stmt a.body h))

abbrev loop_with : Node → LoopNames → Expr → List Stmt → For
loop_with n ns x body = record { node = n; names = ns; iterable = x; body = body }

for_by : (l : For) → Each GoodStmt l.body → GoodFor l
unfolding restore_stmt restore_arm restore_for
for_by l h =
    let N = restore_loop (bare_loop_names l.names) in
    let X = restore_expr (bare_expr l.iterable) in
    let B = all (map restore_stmt (map bare_stmt l.body)) in
    let body : Node → State For = λ n. seq (seq (seq (ret (loop_with n)) N) X) B in
    let ps : List (List Node) = (of_loop_names before_parts l.names ++ nodes_of_expr l.iterable ∷ []) ++ map nodes_of_stmt l.body in
    good_by l (restore_for (bare_for l)) (headed (bare l.node) body) (nodes_of_for l) (l.node ∷ joined ps)
    (ap restore_for (shape.for_is l) ∙ fold_out-For (State Stmt) (State Arm) (State For) stmt_step arm_step for_step (loop_with (bare l.node) (bare_loop_names l.names) (bare_expr l.iterable) (map bare_stmt l.body)))
    (q.for_is before_parts l ∙ ap (λ z. l.node ∷ joined z) (sym (append_assoc (of_loop_names before_parts l.names) (nodes_of_expr l.iterable ∷ []) (map nodes_of_stmt l.body))))
    (good_headed l.node l body ps
    (seq_parts (loop_with l.node l.names l.iterable) (seq (seq (ret (loop_with l.node)) N) X) (of_loop_names before_parts l.names ++ nodes_of_expr l.iterable ∷ []) l.body B (map nodes_of_stmt l.body)
    (seq_parts (loop_with l.node l.names) (seq (ret (loop_with l.node)) N) (of_loop_names before_parts l.names) l.iterable X (nodes_of_expr l.iterable ∷ [])
    (seq_parts (loop_with l.node) (ret (loop_with l.node)) [] l.names N (of_loop_names before_parts l.names) (ret_parts (loop_with l.node)) (loop_parts l.names))
    (expr_one l.iterable))
    (all_parts restore_stmt bare_stmt nodes_of_stmt l.body h)))

abbrev Part : Type 0
Part = (s : Stmt) × GoodStmt s

abbrev ArmPart : Type 0
ArmPart = (a : Arm) × GoodArm a

abbrev LoopPart : Type 0
LoopPart = (l : For) × GoodFor l

abbrev tree : Part → Stmt
tree p = p.0

abbrev arm_tree : ArmPart → Arm
arm_tree p = p.0

abbrev loop_tree : LoopPart → For
loop_tree p = p.0

each_stmt : (ps : List Part) → Each GoodStmt (map tree ps)
each_stmt [] = tt
each_stmt (p ∷ ps) = (p.1, each_stmt ps)

each_arm : (ps : List ArmPart) → Each GoodArm (map arm_tree ps)
each_arm [] = tt
each_arm (p ∷ ps) = (p.1, each_arm ps)

stmt_form : (y : Stmt-F Part ArmPart LoopPart) → GoodStmt (roll-Stmt (map-Stmt Part ArmPart LoopPart Stmt Arm For tree arm_tree loop_tree y))
stmt_form (Stmt-F.Pass n) = subst GoodStmt (sym (stmt.rolls-Pass n)) (stmt_Pass n)
stmt_form (Stmt-F.Break n) = subst GoodStmt (sym (stmt.rolls-Break n)) (stmt_Break n)
stmt_form (Stmt-F.Continue n) = subst GoodStmt (sym (stmt.rolls-Continue n)) (stmt_Continue n)
stmt_form (Stmt-F.Return n x) = subst GoodStmt (sym (stmt.rolls-Return n x)) (stmt_Return n x)
stmt_form (Stmt-F.Yield n x) = subst GoodStmt (sym (stmt.rolls-Yield n x)) (stmt_Yield n x)
stmt_form (Stmt-F.Raise n f x) = subst GoodStmt (sym (stmt.rolls-Raise n f x)) (stmt_Raise n f x)
stmt_form (Stmt-F.Assert n x y) = subst GoodStmt (sym (stmt.rolls-Assert n x y)) (stmt_Assert n x y)
stmt_form (Stmt-F.Annotated n f t x) = subst GoodStmt (sym (stmt.rolls-Annotated n f t x)) (stmt_Annotated n f t x)
stmt_form (Stmt-F.Assign n w x) = subst GoodStmt (sym (stmt.rolls-Assign n w x)) (stmt_Assign n w x)
stmt_form (Stmt-F.Update n w o x) = subst GoodStmt (sym (stmt.rolls-Update n w o x)) (stmt_Update n w o x)
stmt_form (Stmt-F.Evaluate n x) = subst GoodStmt (sym (stmt.rolls-Evaluate n x)) (stmt_Evaluate n x)
stmt_form (Stmt-F.Print n p) = subst GoodStmt (sym (stmt.rolls-Print n p)) (stmt_Print n p)
stmt_form (Stmt-F.Pipeline n x ss) = subst GoodStmt (sym (stmt.rolls-Pipeline n x ss)) (stmt_Pipeline n x ss)
stmt_form (Stmt-F.If n arms other) = subst GoodStmt (sym (stmt.rolls-If n (map arm_tree arms) (map tree other))) (stmt_If n (map arm_tree arms) (map tree other) (each_arm arms) (each_stmt other))
stmt_form (Stmt-F.While n x body) = subst GoodStmt (sym (stmt.rolls-While n x (map tree body))) (stmt_While n x (map tree body) (each_stmt body))
stmt_form (Stmt-F.For loop) = subst GoodStmt (sym (stmt.rolls-For loop.0)) (case_For loop.0 loop.1)
stmt_form (Stmt-F.Par n o loop) = subst GoodStmt (sym (stmt.rolls-Par n o loop.0)) (stmt_Par n o loop.0 loop.1)

arm_form : (y : Arm-F Part ArmPart LoopPart) → GoodArm (roll-Arm (map-Arm Part ArmPart LoopPart Stmt Arm For tree arm_tree loop_tree y))
arm_form y = arm_by (arm_of y.condition (map tree y.body)) (each_stmt y.body)

loop_form : (y : For-F Part ArmPart LoopPart) → GoodFor (roll-For (map-For Part ArmPart LoopPart Stmt Arm For tree arm_tree loop_tree y))
loop_form y = for_by (loop_with y.node y.names y.iterable (map tree y.body)) (each_stmt y.body)

pub good_stmt : (s : Stmt) → GoodStmt s
good_stmt = ind-Stmt GoodStmt GoodArm GoodFor
    (λ x y eq. subst (λ d. GoodStmt (roll-Stmt d)) eq (stmt_form y))
    (λ x y eq. subst (λ d. GoodArm (roll-Arm d)) eq (arm_form y))
    (λ x y eq. subst (λ d. GoodFor (roll-For d)) eq (loop_form y))

pub stmts_parts : (ss : List Stmt) → Parts ss (all (map restore_stmt (map bare_stmt ss))) (map nodes_of_stmt ss)
stmts_parts ss = all_parts restore_stmt bare_stmt nodes_of_stmt ss (each_by _ good_stmt ss)
