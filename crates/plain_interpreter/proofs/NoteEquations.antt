-- The equations of the notes of expressions and statements, one for each form.
use Rattle.std.proofs.Common.{◌≡◌, ℕ, ℤ, not, List, [], ◌∷◌, ◌++◌, map, Option, Some, None, refl, sym, ap, ◌∙◌}
use Rattle.std.specs.List.{flat_map}
use Rattle.std.proofs.lemmas.List.{append-nil, append_assoc, map-append}
use Rattle.source_trees.specs.declared.node.Node.{Node}
use Rattle.source_trees.specs.declared.node.Name.{Name}
use Rattle.source_trees.specs.declared.operator.UnaryOp.{UnaryOp}
use Rattle.source_trees.specs.declared.operator.BinaryOp.{BinaryOp}
use Rattle.source_trees.specs.declared.expression.Commas.{Commas}
use Rattle.source_trees.specs.declared.expression.Expr.{Expr, Expr-F}
use Rattle.source_trees.specs.declared.expression.Expr.TheFolds.{fold-Comparison, fold-roll-Expr, fold_out-Comparison}
use Rattle.source_trees.specs.declared.expression.Expr.TheVariants as e
use Rattle.source_trees.specs.declared.expression.Comparison.{Comparison}
use Rattle.source_trees.specs.declared.item.Annotation.{Annotation}
use Rattle.source_trees.specs.declared.pipeline.Printed.{Printed}
use Rattle.source_trees.specs.declared.pipeline.Stage.{Stage}
use Rattle.source_trees.specs.declared.statement.LoopNames.{LoopNames}
use Rattle.source_trees.specs.declared.statement.Target.{Target}
use Rattle.source_trees.specs.declared.statement.Targets.{Targets}
use Rattle.source_trees.specs.declared.statement.ParOptions.{ParOptions}
use Rattle.source_trees.specs.declared.statement.Stmt.{Stmt, Stmt-F}
use Rattle.source_trees.specs.declared.statement.Stmt.TheFolds.{fold-Arm, fold-For, fold-roll-Stmt, fold_out-Arm, fold_out-For}
use Rattle.source_trees.specs.declared.statement.Stmt.TheVariants as stmt
use Rattle.source_trees.specs.declared.statement.Arm.{Arm, out-Arm}
use Rattle.source_trees.specs.declared.statement.For.{For, out-For}
use Rattle.source_trees.specs.Names.{loop_names}
use Rattle.meaning_rules.specs.Mentions.{Note, Calls, CallsMethod, but_of, mention, mention_name, all_of, notes_of_expr, notes_of_exprs, notes_of_optional, notes_of_target, notes_of_targets, notes_of_loop_names, notes_of_printed, notes_of_stages, notes_of_stmt, notes_of_body, LoopNotes, expr_step, comparison_step, stmt_step, arm_step, for_step}
use Rattle.plain_interpreter.specs.Noted.{notes_of_comparison, notes_of_arm, notes_of_for, notes_in_parallel}
use Rattle.plain_interpreter.proofs.BodyEquations.{flat_map_map, flat_map_same}

abbrev N : Type 0
N = List Note

abbrev comparisons : Comparison → N
comparisons = fold-Comparison N N expr_step comparison_step

comparison_is : (k : Comparison) → comparisons k ≡ notes_of_comparison k
unfolding notes_of_expr
comparison_is k = fold_out-Comparison N N expr_step comparison_step k

exprs_are : (es : List Expr) → all_of (map notes_of_expr es) ≡ notes_of_exprs es
exprs_are es = flat_map_map notes_of_expr (λ l. l) es

comparisons_are : (ks : List Comparison) → all_of (map comparisons ks) ≡ flat_map notes_of_comparison ks
comparisons_are ks = flat_map_map comparisons (λ l. l) ks ∙ flat_map_same comparisons notes_of_comparison comparison_is ks

pub notes_Name : (n : Node) (name : List ℕ) → notes_of_expr (e.Name n name) ≡ mention name
unfolding notes_of_expr
notes_Name n name = ap notes_of_expr (sym (e.rolls-Name n name)) ∙ fold-roll-Expr N N expr_step comparison_step (Expr-F.Name n name)

pub notes_Number : (n : Node) (z : ℤ) → notes_of_expr (e.Number n z) ≡ []
unfolding notes_of_expr
notes_Number n z = ap notes_of_expr (sym (e.rolls-Number n z)) ∙ fold-roll-Expr N N expr_step comparison_step (Expr-F.Number n z)

pub notes_Text : (n : Node) (text : List ℕ) → notes_of_expr (e.Text n text) ≡ []
unfolding notes_of_expr
notes_Text n text = ap notes_of_expr (sym (e.rolls-Text n text)) ∙ fold-roll-Expr N N expr_step comparison_step (Expr-F.Text n text)

pub notes_True : (n : Node) → notes_of_expr (e.True n) ≡ []
unfolding notes_of_expr
notes_True n = ap notes_of_expr (sym (e.rolls-True n)) ∙ fold-roll-Expr N N expr_step comparison_step (Expr-F.True n)

pub notes_False : (n : Node) → notes_of_expr (e.False n) ≡ []
unfolding notes_of_expr
notes_False n = ap notes_of_expr (sym (e.rolls-False n)) ∙ fold-roll-Expr N N expr_step comparison_step (Expr-F.False n)

pub notes_None : (n : Node) → notes_of_expr (e.None n) ≡ []
unfolding notes_of_expr
notes_None n = ap notes_of_expr (sym (e.rolls-None n)) ∙ fold-roll-Expr N N expr_step comparison_step (Expr-F.None n)

pub notes_Bracketed : (n : Node) (inner : Expr) → notes_of_expr (e.Bracketed n inner) ≡ notes_of_expr inner
unfolding notes_of_expr
notes_Bracketed n inner = ap notes_of_expr (sym (e.rolls-Bracketed n inner)) ∙ fold-roll-Expr N N expr_step comparison_step (Expr-F.Bracketed n inner)

pub notes_Tuple : (n : Node) (commas : Commas) (items : List Expr) → notes_of_expr (e.Tuple n commas items) ≡ notes_of_exprs items
unfolding notes_of_expr
notes_Tuple n commas items = ap notes_of_expr (sym (e.rolls-Tuple n commas items)) ∙ fold-roll-Expr N N expr_step comparison_step (Expr-F.Tuple n commas items) ∙ exprs_are items

pub notes_List : (n : Node) (items : List Expr) → notes_of_expr (e.List n items) ≡ notes_of_exprs items
unfolding notes_of_expr
notes_List n items = ap notes_of_expr (sym (e.rolls-List n items)) ∙ fold-roll-Expr N N expr_step comparison_step (Expr-F.List n items) ∙ exprs_are items

pub notes_Conditional : (n : Node) (value condition other : Expr) → notes_of_expr (e.Conditional n value condition other) ≡ notes_of_expr value ++ notes_of_expr condition ++ notes_of_expr other
unfolding notes_of_expr
notes_Conditional n value condition other = ap notes_of_expr (sym (e.rolls-Conditional n value condition other)) ∙ fold-roll-Expr N N expr_step comparison_step (Expr-F.Conditional n value condition other)

pub notes_Or : (n : Node) (operands : List Expr) → notes_of_expr (e.Or n operands) ≡ notes_of_exprs operands
unfolding notes_of_expr
notes_Or n operands = ap notes_of_expr (sym (e.rolls-Or n operands)) ∙ fold-roll-Expr N N expr_step comparison_step (Expr-F.Or n operands) ∙ exprs_are operands

pub notes_And : (n : Node) (operands : List Expr) → notes_of_expr (e.And n operands) ≡ notes_of_exprs operands
unfolding notes_of_expr
notes_And n operands = ap notes_of_expr (sym (e.rolls-And n operands)) ∙ fold-roll-Expr N N expr_step comparison_step (Expr-F.And n operands) ∙ exprs_are operands

pub notes_Not : (n : Node) (operand : Expr) → notes_of_expr (e.Not n operand) ≡ notes_of_expr operand
unfolding notes_of_expr
notes_Not n operand = ap notes_of_expr (sym (e.rolls-Not n operand)) ∙ fold-roll-Expr N N expr_step comparison_step (Expr-F.Not n operand)

pub notes_Compare : (n : Node) (first : Expr) (others : List Comparison) → notes_of_expr (e.Compare n first others) ≡ notes_of_expr first ++ flat_map notes_of_comparison others
unfolding notes_of_expr
notes_Compare n first others = ap notes_of_expr (sym (e.rolls-Compare n first others)) ∙ fold-roll-Expr N N expr_step comparison_step (Expr-F.Compare n first others) ∙ ap (λ l. notes_of_expr first ++ l) (comparisons_are others)

pub notes_Unary : (n : Node) (op : UnaryOp) (operand : Expr) → notes_of_expr (e.Unary n op operand) ≡ notes_of_expr operand
unfolding notes_of_expr
notes_Unary n op operand = ap notes_of_expr (sym (e.rolls-Unary n op operand)) ∙ fold-roll-Expr N N expr_step comparison_step (Expr-F.Unary n op operand)

pub notes_Binary : (n : Node) (op : BinaryOp) (left right : Expr) → notes_of_expr (e.Binary n op left right) ≡ notes_of_expr left ++ notes_of_expr right
unfolding notes_of_expr
notes_Binary n op left right = ap notes_of_expr (sym (e.rolls-Binary n op left right)) ∙ fold-roll-Expr N N expr_step comparison_step (Expr-F.Binary n op left right)

pub notes_Call : (n : Node) (name : Name) (arguments : List Expr) → notes_of_expr (e.Call n name arguments) ≡ Calls name.spelling ∷ notes_of_exprs arguments
unfolding notes_of_expr
notes_Call n name arguments = ap notes_of_expr (sym (e.rolls-Call n name arguments)) ∙ fold-roll-Expr N N expr_step comparison_step (Expr-F.Call n name arguments) ∙ ap (λ l. Calls name.spelling ∷ l) (exprs_are arguments)

pub notes_MethodCall : (n m : Node) (object : Expr) (name : List ℕ) (arguments : List Expr) → notes_of_expr (e.MethodCall n m object name arguments) ≡ CallsMethod name ∷ notes_of_expr object ++ notes_of_exprs arguments
unfolding notes_of_expr
notes_MethodCall n m object name arguments = ap notes_of_expr (sym (e.rolls-MethodCall n m object name arguments)) ∙ fold-roll-Expr N N expr_step comparison_step (Expr-F.MethodCall n m object name arguments) ∙ ap (λ l. CallsMethod name ∷ notes_of_expr object ++ l) (exprs_are arguments)

pub notes_Index : (n : Node) (object index : Expr) → notes_of_expr (e.Index n object index) ≡ notes_of_expr object ++ notes_of_expr index
unfolding notes_of_expr
notes_Index n object index = ap notes_of_expr (sym (e.rolls-Index n object index)) ∙ fold-roll-Expr N N expr_step comparison_step (Expr-F.Index n object index)

pub notes_Field : (n : Node) (object : Expr) (name : List ℕ) → notes_of_expr (e.Field n object name) ≡ notes_of_expr object
unfolding notes_of_expr
notes_Field n object name = ap notes_of_expr (sym (e.rolls-Field n object name)) ∙ fold-roll-Expr N N expr_step comparison_step (Expr-F.Field n object name)

pub notes_Comprehension : (n : Node) (item : Expr) (names : LoopNames) (iterable : Expr) (condition : Option Expr) → notes_of_expr (e.Comprehension n item names iterable condition) ≡ but_of (loop_names names) (notes_of_expr item) ++ notes_of_expr iterable ++ but_of (loop_names names) (notes_of_optional condition)
unfolding notes_of_expr
notes_Comprehension n item names iterable None = ap notes_of_expr (sym (e.rolls-Comprehension n item names iterable None)) ∙ fold-roll-Expr N N expr_step comparison_step (Expr-F.Comprehension n item names iterable None)
notes_Comprehension n item names iterable (Some kept) = ap notes_of_expr (sym (e.rolls-Comprehension n item names iterable (Some kept))) ∙ fold-roll-Expr N N expr_step comparison_step (Expr-F.Comprehension n item names iterable (Some kept))

pub notes_Slice : (n : Node) (object : Expr) (from to : Option Expr) → notes_of_expr (e.Slice n object from to) ≡ notes_of_expr object ++ notes_of_optional from ++ notes_of_optional to
unfolding notes_of_expr
notes_Slice n object None None = ap notes_of_expr (sym (e.rolls-Slice n object None None)) ∙ fold-roll-Expr N N expr_step comparison_step (Expr-F.Slice n object None None)
notes_Slice n object None (Some to) = ap notes_of_expr (sym (e.rolls-Slice n object None (Some to))) ∙ fold-roll-Expr N N expr_step comparison_step (Expr-F.Slice n object None (Some to))
notes_Slice n object (Some from) None = ap notes_of_expr (sym (e.rolls-Slice n object (Some from) None)) ∙ fold-roll-Expr N N expr_step comparison_step (Expr-F.Slice n object (Some from) None)
notes_Slice n object (Some from) (Some to) = ap notes_of_expr (sym (e.rolls-Slice n object (Some from) (Some to))) ∙ fold-roll-Expr N N expr_step comparison_step (Expr-F.Slice n object (Some from) (Some to))

abbrev arm_notes : Arm → N
arm_notes = fold-Arm N N LoopNotes stmt_step arm_step for_step

abbrev loop_notes : For → LoopNotes
loop_notes = fold-For N N LoopNotes stmt_step arm_step for_step

body_is : (body : List Stmt) → all_of (map notes_of_stmt body) ≡ notes_of_body body
body_is body = flat_map_map notes_of_stmt (λ l. l) body

arm_is : (arm : Arm) → arm_notes arm ≡ notes_of_arm arm
unfolding notes_of_stmt
arm_is arm = fold_out-Arm N N LoopNotes stmt_step arm_step for_step arm ∙ ap (λ l. notes_of_expr (out-Arm arm).condition ++ l) (body_is (out-Arm arm).body)

arms_are : (arms : List Arm) → all_of (map arm_notes arms) ≡ flat_map notes_of_arm arms
arms_are arms = flat_map_map arm_notes (λ l. l) arms ∙ flat_map_same arm_notes notes_of_arm arm_is arms

abbrev loop_parts : For → LoopNotes
loop_parts l = record { own = loop_names (out-For l).names; names = notes_of_loop_names (out-For l).names; iterable = notes_of_expr (out-For l).iterable; body = notes_of_body (out-For l).body }

loop_is : (l : For) → loop_notes l ≡ loop_parts l
unfolding notes_of_stmt
loop_is l = fold_out-For N N LoopNotes stmt_step arm_step for_step l ∙ ap (λ (b : N). record { own = loop_names (out-For l).names; names = notes_of_loop_names (out-For l).names; iterable = notes_of_expr (out-For l).iterable; body = b }) (body_is (out-For l).body)

pub notes_of_Pass : (n : Node) → notes_of_stmt (stmt.Pass n) ≡ []
unfolding notes_of_stmt
notes_of_Pass n = ap notes_of_stmt (sym (stmt.rolls-Pass n)) ∙ fold-roll-Stmt N N LoopNotes stmt_step arm_step for_step (Stmt-F.Pass n)

pub notes_of_Break : (n : Node) → notes_of_stmt (stmt.Break n) ≡ []
unfolding notes_of_stmt
notes_of_Break n = ap notes_of_stmt (sym (stmt.rolls-Break n)) ∙ fold-roll-Stmt N N LoopNotes stmt_step arm_step for_step (Stmt-F.Break n)

pub notes_of_Continue : (n : Node) → notes_of_stmt (stmt.Continue n) ≡ []
unfolding notes_of_stmt
notes_of_Continue n = ap notes_of_stmt (sym (stmt.rolls-Continue n)) ∙ fold-roll-Stmt N N LoopNotes stmt_step arm_step for_step (Stmt-F.Continue n)

pub notes_of_Return : (n : Node) (value : Option Expr) → notes_of_stmt (stmt.Return n value) ≡ notes_of_optional value
unfolding notes_of_stmt
notes_of_Return n value = ap notes_of_stmt (sym (stmt.rolls-Return n value)) ∙ fold-roll-Stmt N N LoopNotes stmt_step arm_step for_step (Stmt-F.Return n value)

pub notes_of_Yield : (n : Node) (value : Expr) → notes_of_stmt (stmt.Yield n value) ≡ notes_of_expr value
unfolding notes_of_stmt
notes_of_Yield n value = ap notes_of_stmt (sym (stmt.rolls-Yield n value)) ∙ fold-roll-Stmt N N LoopNotes stmt_step arm_step for_step (Stmt-F.Yield n value)

pub notes_of_Raise : (n : Node) (name : Name) (text : Option Expr) → notes_of_stmt (stmt.Raise n name text) ≡ notes_of_optional text
unfolding notes_of_stmt
notes_of_Raise n name text = ap notes_of_stmt (sym (stmt.rolls-Raise n name text)) ∙ fold-roll-Stmt N N LoopNotes stmt_step arm_step for_step (Stmt-F.Raise n name text)

pub notes_of_Assert : (n : Node) (condition : Expr) (text : Option Expr) → notes_of_stmt (stmt.Assert n condition text) ≡ notes_of_expr condition ++ notes_of_optional text
unfolding notes_of_stmt
notes_of_Assert n condition text = ap notes_of_stmt (sym (stmt.rolls-Assert n condition text)) ∙ fold-roll-Stmt N N LoopNotes stmt_step arm_step for_step (Stmt-F.Assert n condition text)

pub notes_of_Annotated : (n : Node) (name : Name) (annotation : Annotation) (value : Option Expr) → notes_of_stmt (stmt.Annotated n name annotation value) ≡ mention_name name ++ notes_of_optional value
unfolding notes_of_stmt
notes_of_Annotated n name annotation value = ap notes_of_stmt (sym (stmt.rolls-Annotated n name annotation value)) ∙ fold-roll-Stmt N N LoopNotes stmt_step arm_step for_step (Stmt-F.Annotated n name annotation value)

pub notes_of_Assign : (n : Node) (written : Targets) (value : Expr) → notes_of_stmt (stmt.Assign n written value) ≡ notes_of_targets written ++ notes_of_expr value
unfolding notes_of_stmt
notes_of_Assign n written value = ap notes_of_stmt (sym (stmt.rolls-Assign n written value)) ∙ fold-roll-Stmt N N LoopNotes stmt_step arm_step for_step (Stmt-F.Assign n written value)

pub notes_of_Update : (n : Node) (written : Target) (op : BinaryOp) (value : Expr) → notes_of_stmt (stmt.Update n written op value) ≡ notes_of_target written ++ notes_of_expr value
unfolding notes_of_stmt
notes_of_Update n written op value = ap notes_of_stmt (sym (stmt.rolls-Update n written op value)) ∙ fold-roll-Stmt N N LoopNotes stmt_step arm_step for_step (Stmt-F.Update n written op value)

pub notes_of_Evaluate : (n : Node) (value : Expr) → notes_of_stmt (stmt.Evaluate n value) ≡ notes_of_expr value
unfolding notes_of_stmt
notes_of_Evaluate n value = ap notes_of_stmt (sym (stmt.rolls-Evaluate n value)) ∙ fold-roll-Stmt N N LoopNotes stmt_step arm_step for_step (Stmt-F.Evaluate n value)

pub notes_of_Print : (n : Node) (printed : Printed) → notes_of_stmt (stmt.Print n printed) ≡ notes_of_printed printed
unfolding notes_of_stmt
notes_of_Print n printed = ap notes_of_stmt (sym (stmt.rolls-Print n printed)) ∙ fold-roll-Stmt N N LoopNotes stmt_step arm_step for_step (Stmt-F.Print n printed)

pub notes_of_Pipeline : (n : Node) (head : Expr) (stages : List Stage) → notes_of_stmt (stmt.Pipeline n head stages) ≡ notes_of_expr head ++ notes_of_stages stages
unfolding notes_of_stmt
notes_of_Pipeline n head stages = ap notes_of_stmt (sym (stmt.rolls-Pipeline n head stages)) ∙ fold-roll-Stmt N N LoopNotes stmt_step arm_step for_step (Stmt-F.Pipeline n head stages)

pub notes_of_If : (n : Node) (arms : List Arm) (otherwise : List Stmt) → notes_of_stmt (stmt.If n arms otherwise) ≡ flat_map notes_of_arm arms ++ notes_of_body otherwise
unfolding notes_of_stmt
notes_of_If n arms otherwise = ap notes_of_stmt (sym (stmt.rolls-If n arms otherwise)) ∙ fold-roll-Stmt N N LoopNotes stmt_step arm_step for_step (Stmt-F.If n arms otherwise) ∙ ap (λ l. l ++ all_of (map notes_of_stmt otherwise)) (arms_are arms) ∙ ap (λ l. flat_map notes_of_arm arms ++ l) (body_is otherwise)

pub notes_of_While : (n : Node) (condition : Expr) (body : List Stmt) → notes_of_stmt (stmt.While n condition body) ≡ notes_of_expr condition ++ notes_of_body body
unfolding notes_of_stmt
notes_of_While n condition body = ap notes_of_stmt (sym (stmt.rolls-While n condition body)) ∙ fold-roll-Stmt N N LoopNotes stmt_step arm_step for_step (Stmt-F.While n condition body) ∙ ap (λ l. notes_of_expr condition ++ l) (body_is body)

pub notes_of_For : (l : For) → notes_of_stmt (stmt.For l) ≡ notes_of_for l
unfolding notes_of_stmt
notes_of_For l = ap notes_of_stmt (sym (stmt.rolls-For l)) ∙ fold-roll-Stmt N N LoopNotes stmt_step arm_step for_step (Stmt-F.For l) ∙ ap (λ (k : LoopNotes). k.names ++ k.iterable ++ k.body) (loop_is l)

pub notes_of_Par : (n : Node) (settings : ParOptions) (l : For) → notes_of_stmt (stmt.Par n settings l) ≡ notes_in_parallel l
unfolding notes_of_stmt
notes_of_Par n settings l = ap notes_of_stmt (sym (stmt.rolls-Par n settings l)) ∙ fold-roll-Stmt N N LoopNotes stmt_step arm_step for_step (Stmt-F.Par n settings l) ∙ ap (λ (k : LoopNotes). k.iterable ++ but_of k.own k.body) (loop_is l)

pub ruleset note_rules = (notes_Name, notes_Number, notes_Text, notes_True, notes_False, notes_None, notes_Bracketed, notes_Tuple, notes_List, notes_Conditional, notes_Or, notes_And, notes_Not, notes_Compare, notes_Unary, notes_Binary, notes_Call, notes_MethodCall, notes_Index, notes_Field, notes_Comprehension, notes_Slice, notes_of_Pass, notes_of_Break, notes_of_Continue, notes_of_Return, notes_of_Yield, notes_of_Raise, notes_of_Assert, notes_of_Annotated, notes_of_Assign, notes_of_Update, notes_of_Evaluate, notes_of_Print, notes_of_Pipeline, notes_of_If, notes_of_While, notes_of_For, notes_of_Par, append-nil, append_assoc, map-append)
