-- What stands bare of each form of a tree, one equation a form: the definitions of a bare tree, read at the forms.
use Rattle.std.proofs.Common.{◌≡◌, ℕ, ℤ, List, map, Option, Some, None, ap, sym, ◌∙◌}
use Rattle.source_trees.specs.declared.operator.UnaryOp.{UnaryOp}
use Rattle.source_trees.specs.declared.operator.BinaryOp.{BinaryOp}
use Rattle.source_trees.specs.declared.node.Node.{Node}
use Rattle.source_trees.specs.declared.node.Name.{Name}
use Rattle.source_trees.specs.declared.expression.Commas.{Commas}
use Rattle.source_trees.specs.declared.expression.Expr.{Expr, Expr-F}
use Rattle.source_trees.specs.declared.expression.Expr.TheFolds.{fold-roll-Expr, fold_out-Comparison}
use Rattle.source_trees.specs.declared.expression.Expr.TheVariants as expr
use Rattle.source_trees.specs.declared.expression.Comparison.{Comparison}
use Rattle.source_trees.specs.declared.statement.LoopNames.{LoopNames}
use Rattle.source_trees.specs.declared.statement.ParOptions.{ParOptions}
use Rattle.source_trees.specs.declared.statement.Target.{Target}
use Rattle.source_trees.specs.declared.statement.Targets.{Targets}
use Rattle.source_trees.specs.declared.statement.Stmt.{Stmt, Stmt-F}
use Rattle.source_trees.specs.declared.statement.Stmt.TheFolds.{fold-roll-Stmt, fold_out-Arm, fold_out-For}
use Rattle.source_trees.specs.declared.statement.Stmt.TheVariants as stmt
use Rattle.source_trees.specs.declared.statement.Arm.{Arm}
use Rattle.source_trees.specs.declared.statement.For.{For}
use Rattle.source_trees.specs.declared.pipeline.Printed.{Printed}
use Rattle.source_trees.specs.declared.pipeline.Stage.{Stage}
use Rattle.source_trees.specs.declared.item.Annotation.{Annotation, Annotation-F, fold-roll-Annotation}
use Rattle.source_trees.specs.declared.item.Annotation.TheVariants as annotation
use Rattle.source_trees.specs.Bare.{bare, bare_name, bare_loop_names, bare_expr, bare_exprs, bare_comparison, bare_optional, bare_annotation, bare_target, bare_targets, bare_printed, bare_stage, bare_stmt, bare_arm, bare_for, expr_step, comparison_step, annotation_step, stmt_step, arm_step, for_step}

-- ---- expressions

pub expr_Name : (n : Node) (spelling : List ℕ) → bare_expr (expr.Name n spelling) ≡ expr.Name (bare n) spelling
unfolding bare_expr bare_comparison
expr_Name n spelling = ap bare_expr (sym (expr.rolls-Name n spelling)) ∙ fold-roll-Expr Expr Comparison expr_step comparison_step (Expr-F.Name n spelling)

pub expr_Number : (n : Node) (number : ℤ) → bare_expr (expr.Number n number) ≡ expr.Number (bare n) number
unfolding bare_expr bare_comparison
expr_Number n number = ap bare_expr (sym (expr.rolls-Number n number)) ∙ fold-roll-Expr Expr Comparison expr_step comparison_step (Expr-F.Number n number)

pub expr_Text : (n : Node) (text : List ℕ) → bare_expr (expr.Text n text) ≡ expr.Text (bare n) text
unfolding bare_expr bare_comparison
expr_Text n text = ap bare_expr (sym (expr.rolls-Text n text)) ∙ fold-roll-Expr Expr Comparison expr_step comparison_step (Expr-F.Text n text)

pub expr_True : (n : Node) → bare_expr (expr.True n) ≡ expr.True (bare n)
unfolding bare_expr bare_comparison
expr_True n = ap bare_expr (sym (expr.rolls-True n)) ∙ fold-roll-Expr Expr Comparison expr_step comparison_step (Expr-F.True n)

pub expr_False : (n : Node) → bare_expr (expr.False n) ≡ expr.False (bare n)
unfolding bare_expr bare_comparison
expr_False n = ap bare_expr (sym (expr.rolls-False n)) ∙ fold-roll-Expr Expr Comparison expr_step comparison_step (Expr-F.False n)

pub expr_None : (n : Node) → bare_expr (expr.None n) ≡ expr.None (bare n)
unfolding bare_expr bare_comparison
expr_None n = ap bare_expr (sym (expr.rolls-None n)) ∙ fold-roll-Expr Expr Comparison expr_step comparison_step (Expr-F.None n)

pub expr_Bracketed : (n : Node) (inner : Expr) → bare_expr (expr.Bracketed n inner) ≡ expr.Bracketed (bare n) (bare_expr inner)
unfolding bare_expr bare_comparison
expr_Bracketed n inner = ap bare_expr (sym (expr.rolls-Bracketed n inner)) ∙ fold-roll-Expr Expr Comparison expr_step comparison_step (Expr-F.Bracketed n inner)

pub expr_Tuple : (n : Node) (commas : Commas) (items : List Expr) → bare_expr (expr.Tuple n commas items) ≡ expr.Tuple (bare n) commas (bare_exprs items)
unfolding bare_expr bare_comparison
expr_Tuple n commas items = ap bare_expr (sym (expr.rolls-Tuple n commas items)) ∙ fold-roll-Expr Expr Comparison expr_step comparison_step (Expr-F.Tuple n commas items)

pub expr_List : (n : Node) (items : List Expr) → bare_expr (expr.List n items) ≡ expr.List (bare n) (bare_exprs items)
unfolding bare_expr bare_comparison
expr_List n items = ap bare_expr (sym (expr.rolls-List n items)) ∙ fold-roll-Expr Expr Comparison expr_step comparison_step (Expr-F.List n items)

pub expr_Comprehension : (n : Node) (item : Expr) (names : LoopNames) (iterable : Expr) (condition : Option Expr) → bare_expr (expr.Comprehension n item names iterable condition) ≡ expr.Comprehension (bare n) (bare_expr item) (bare_loop_names names) (bare_expr iterable) (bare_optional bare_expr condition)
unfolding bare_expr bare_comparison
expr_Comprehension n item names iterable None = ap bare_expr (sym (expr.rolls-Comprehension n item names iterable None)) ∙ fold-roll-Expr Expr Comparison expr_step comparison_step (Expr-F.Comprehension n item names iterable None)
expr_Comprehension n item names iterable (Some condition) = ap bare_expr (sym (expr.rolls-Comprehension n item names iterable (Some condition))) ∙ fold-roll-Expr Expr Comparison expr_step comparison_step (Expr-F.Comprehension n item names iterable (Some condition))

pub expr_Conditional : (n : Node) (value condition other : Expr) → bare_expr (expr.Conditional n value condition other) ≡ expr.Conditional (bare n) (bare_expr value) (bare_expr condition) (bare_expr other)
unfolding bare_expr bare_comparison
expr_Conditional n value condition other = ap bare_expr (sym (expr.rolls-Conditional n value condition other)) ∙ fold-roll-Expr Expr Comparison expr_step comparison_step (Expr-F.Conditional n value condition other)

pub expr_Or : (n : Node) (operands : List Expr) → bare_expr (expr.Or n operands) ≡ expr.Or (bare n) (bare_exprs operands)
unfolding bare_expr bare_comparison
expr_Or n operands = ap bare_expr (sym (expr.rolls-Or n operands)) ∙ fold-roll-Expr Expr Comparison expr_step comparison_step (Expr-F.Or n operands)

pub expr_And : (n : Node) (operands : List Expr) → bare_expr (expr.And n operands) ≡ expr.And (bare n) (bare_exprs operands)
unfolding bare_expr bare_comparison
expr_And n operands = ap bare_expr (sym (expr.rolls-And n operands)) ∙ fold-roll-Expr Expr Comparison expr_step comparison_step (Expr-F.And n operands)

pub expr_Not : (n : Node) (operand : Expr) → bare_expr (expr.Not n operand) ≡ expr.Not (bare n) (bare_expr operand)
unfolding bare_expr bare_comparison
expr_Not n operand = ap bare_expr (sym (expr.rolls-Not n operand)) ∙ fold-roll-Expr Expr Comparison expr_step comparison_step (Expr-F.Not n operand)

pub expr_Compare : (n : Node) (first : Expr) (others : List Comparison) → bare_expr (expr.Compare n first others) ≡ expr.Compare (bare n) (bare_expr first) (map bare_comparison others)
unfolding bare_expr bare_comparison
expr_Compare n first others = ap bare_expr (sym (expr.rolls-Compare n first others)) ∙ fold-roll-Expr Expr Comparison expr_step comparison_step (Expr-F.Compare n first others)

pub expr_Unary : (n : Node) (op : UnaryOp) (operand : Expr) → bare_expr (expr.Unary n op operand) ≡ expr.Unary (bare n) op (bare_expr operand)
unfolding bare_expr bare_comparison
expr_Unary n op operand = ap bare_expr (sym (expr.rolls-Unary n op operand)) ∙ fold-roll-Expr Expr Comparison expr_step comparison_step (Expr-F.Unary n op operand)

pub expr_Binary : (n : Node) (op : BinaryOp) (left right : Expr) → bare_expr (expr.Binary n op left right) ≡ expr.Binary (bare n) op (bare_expr left) (bare_expr right)
unfolding bare_expr bare_comparison
expr_Binary n op left right = ap bare_expr (sym (expr.rolls-Binary n op left right)) ∙ fold-roll-Expr Expr Comparison expr_step comparison_step (Expr-F.Binary n op left right)

pub expr_Call : (n : Node) (name : Name) (arguments : List Expr) → bare_expr (expr.Call n name arguments) ≡ expr.Call (bare n) (bare_name name) (bare_exprs arguments)
unfolding bare_expr bare_comparison
expr_Call n name arguments = ap bare_expr (sym (expr.rolls-Call n name arguments)) ∙ fold-roll-Expr Expr Comparison expr_step comparison_step (Expr-F.Call n name arguments)

pub expr_MethodCall : (n method : Node) (object : Expr) (name : List ℕ) (arguments : List Expr) → bare_expr (expr.MethodCall n method object name arguments) ≡ expr.MethodCall (bare n) (bare method) (bare_expr object) name (bare_exprs arguments)
unfolding bare_expr bare_comparison
expr_MethodCall n method object name arguments = ap bare_expr (sym (expr.rolls-MethodCall n method object name arguments)) ∙ fold-roll-Expr Expr Comparison expr_step comparison_step (Expr-F.MethodCall n method object name arguments)

pub expr_Index : (n : Node) (object index : Expr) → bare_expr (expr.Index n object index) ≡ expr.Index (bare n) (bare_expr object) (bare_expr index)
unfolding bare_expr bare_comparison
expr_Index n object index = ap bare_expr (sym (expr.rolls-Index n object index)) ∙ fold-roll-Expr Expr Comparison expr_step comparison_step (Expr-F.Index n object index)

pub expr_Slice : (n : Node) (object : Expr) (from to : Option Expr) → bare_expr (expr.Slice n object from to) ≡ expr.Slice (bare n) (bare_expr object) (bare_optional bare_expr from) (bare_optional bare_expr to)
unfolding bare_expr bare_comparison
expr_Slice n object None None = ap bare_expr (sym (expr.rolls-Slice n object None None)) ∙ fold-roll-Expr Expr Comparison expr_step comparison_step (Expr-F.Slice n object None None)
expr_Slice n object None (Some to) = ap bare_expr (sym (expr.rolls-Slice n object None (Some to))) ∙ fold-roll-Expr Expr Comparison expr_step comparison_step (Expr-F.Slice n object None (Some to))
expr_Slice n object (Some from) None = ap bare_expr (sym (expr.rolls-Slice n object (Some from) None)) ∙ fold-roll-Expr Expr Comparison expr_step comparison_step (Expr-F.Slice n object (Some from) None)
expr_Slice n object (Some from) (Some to) = ap bare_expr (sym (expr.rolls-Slice n object (Some from) (Some to))) ∙ fold-roll-Expr Expr Comparison expr_step comparison_step (Expr-F.Slice n object (Some from) (Some to))

pub expr_Field : (n : Node) (object : Expr) (name : List ℕ) → bare_expr (expr.Field n object name) ≡ expr.Field (bare n) (bare_expr object) name
unfolding bare_expr bare_comparison
expr_Field n object name = ap bare_expr (sym (expr.rolls-Field n object name)) ∙ fold-roll-Expr Expr Comparison expr_step comparison_step (Expr-F.Field n object name)

-- ---- types

pub annotation_Int : (n : Node) → bare_annotation (annotation.Int n) ≡ annotation.Int (bare n)
unfolding bare_annotation
annotation_Int n = ap bare_annotation (sym (annotation.rolls-Int n)) ∙ fold-roll-Annotation Annotation annotation_step (Annotation-F.Int n)

pub annotation_Bool : (n : Node) → bare_annotation (annotation.Bool n) ≡ annotation.Bool (bare n)
unfolding bare_annotation
annotation_Bool n = ap bare_annotation (sym (annotation.rolls-Bool n)) ∙ fold-roll-Annotation Annotation annotation_step (Annotation-F.Bool n)

pub annotation_Str : (n : Node) → bare_annotation (annotation.Str n) ≡ annotation.Str (bare n)
unfolding bare_annotation
annotation_Str n = ap bare_annotation (sym (annotation.rolls-Str n)) ∙ fold-roll-Annotation Annotation annotation_step (Annotation-F.Str n)

pub annotation_None : (n : Node) → bare_annotation (annotation.None n) ≡ annotation.None (bare n)
unfolding bare_annotation
annotation_None n = ap bare_annotation (sym (annotation.rolls-None n)) ∙ fold-roll-Annotation Annotation annotation_step (Annotation-F.None n)

pub annotation_Class : (n : Node) (name : List ℕ) → bare_annotation (annotation.Class n name) ≡ annotation.Class (bare n) name
unfolding bare_annotation
annotation_Class n name = ap bare_annotation (sym (annotation.rolls-Class n name)) ∙ fold-roll-Annotation Annotation annotation_step (Annotation-F.Class n name)

pub annotation_List : (n : Node) (item : Annotation) → bare_annotation (annotation.List n item) ≡ annotation.List (bare n) (bare_annotation item)
unfolding bare_annotation
annotation_List n item = ap bare_annotation (sym (annotation.rolls-List n item)) ∙ fold-roll-Annotation Annotation annotation_step (Annotation-F.List n item)

pub annotation_Tuple : (n : Node) (items : List Annotation) → bare_annotation (annotation.Tuple n items) ≡ annotation.Tuple (bare n) (map bare_annotation items)
unfolding bare_annotation
annotation_Tuple n items = ap bare_annotation (sym (annotation.rolls-Tuple n items)) ∙ fold-roll-Annotation Annotation annotation_step (Annotation-F.Tuple n items)

-- ---- statements

pub stmt_Pass : (n : Node) → bare_stmt (stmt.Pass n) ≡ stmt.Pass (bare n)
unfolding bare_stmt bare_arm bare_for
stmt_Pass n = ap bare_stmt (sym (stmt.rolls-Pass n)) ∙ fold-roll-Stmt Stmt Arm For stmt_step arm_step for_step (Stmt-F.Pass n)

pub stmt_Break : (n : Node) → bare_stmt (stmt.Break n) ≡ stmt.Break (bare n)
unfolding bare_stmt bare_arm bare_for
stmt_Break n = ap bare_stmt (sym (stmt.rolls-Break n)) ∙ fold-roll-Stmt Stmt Arm For stmt_step arm_step for_step (Stmt-F.Break n)

pub stmt_Continue : (n : Node) → bare_stmt (stmt.Continue n) ≡ stmt.Continue (bare n)
unfolding bare_stmt bare_arm bare_for
stmt_Continue n = ap bare_stmt (sym (stmt.rolls-Continue n)) ∙ fold-roll-Stmt Stmt Arm For stmt_step arm_step for_step (Stmt-F.Continue n)

pub stmt_Return : (n : Node) (value : Option Expr) → bare_stmt (stmt.Return n value) ≡ stmt.Return (bare n) (bare_optional bare_expr value)
unfolding bare_stmt bare_arm bare_for
stmt_Return n value = ap bare_stmt (sym (stmt.rolls-Return n value)) ∙ fold-roll-Stmt Stmt Arm For stmt_step arm_step for_step (Stmt-F.Return n value)

pub stmt_Yield : (n : Node) (value : Expr) → bare_stmt (stmt.Yield n value) ≡ stmt.Yield (bare n) (bare_expr value)
unfolding bare_stmt bare_arm bare_for
stmt_Yield n value = ap bare_stmt (sym (stmt.rolls-Yield n value)) ∙ fold-roll-Stmt Stmt Arm For stmt_step arm_step for_step (Stmt-F.Yield n value)

pub stmt_Raise : (n : Node) (name : Name) (text : Option Expr) → bare_stmt (stmt.Raise n name text) ≡ stmt.Raise (bare n) (bare_name name) (bare_optional bare_expr text)
unfolding bare_stmt bare_arm bare_for
stmt_Raise n name text = ap bare_stmt (sym (stmt.rolls-Raise n name text)) ∙ fold-roll-Stmt Stmt Arm For stmt_step arm_step for_step (Stmt-F.Raise n name text)

pub stmt_Assert : (n : Node) (condition : Expr) (text : Option Expr) → bare_stmt (stmt.Assert n condition text) ≡ stmt.Assert (bare n) (bare_expr condition) (bare_optional bare_expr text)
unfolding bare_stmt bare_arm bare_for
stmt_Assert n condition text = ap bare_stmt (sym (stmt.rolls-Assert n condition text)) ∙ fold-roll-Stmt Stmt Arm For stmt_step arm_step for_step (Stmt-F.Assert n condition text)

pub stmt_Annotated : (n : Node) (name : Name) (type : Annotation) (value : Option Expr) → bare_stmt (stmt.Annotated n name type value) ≡ stmt.Annotated (bare n) (bare_name name) (bare_annotation type) (bare_optional bare_expr value)
unfolding bare_stmt bare_arm bare_for
stmt_Annotated n name type value = ap bare_stmt (sym (stmt.rolls-Annotated n name type value)) ∙ fold-roll-Stmt Stmt Arm For stmt_step arm_step for_step (Stmt-F.Annotated n name type value)

pub stmt_Assign : (n : Node) (written : Targets) (value : Expr) → bare_stmt (stmt.Assign n written value) ≡ stmt.Assign (bare n) (bare_targets written) (bare_expr value)
unfolding bare_stmt bare_arm bare_for
stmt_Assign n written value = ap bare_stmt (sym (stmt.rolls-Assign n written value)) ∙ fold-roll-Stmt Stmt Arm For stmt_step arm_step for_step (Stmt-F.Assign n written value)

pub stmt_Update : (n : Node) (written : Target) (op : BinaryOp) (value : Expr) → bare_stmt (stmt.Update n written op value) ≡ stmt.Update (bare n) (bare_target written) op (bare_expr value)
unfolding bare_stmt bare_arm bare_for
stmt_Update n written op value = ap bare_stmt (sym (stmt.rolls-Update n written op value)) ∙ fold-roll-Stmt Stmt Arm For stmt_step arm_step for_step (Stmt-F.Update n written op value)

pub stmt_Evaluate : (n : Node) (value : Expr) → bare_stmt (stmt.Evaluate n value) ≡ stmt.Evaluate (bare n) (bare_expr value)
unfolding bare_stmt bare_arm bare_for
stmt_Evaluate n value = ap bare_stmt (sym (stmt.rolls-Evaluate n value)) ∙ fold-roll-Stmt Stmt Arm For stmt_step arm_step for_step (Stmt-F.Evaluate n value)

pub stmt_Print : (n : Node) (printed : Printed) → bare_stmt (stmt.Print n printed) ≡ stmt.Print (bare n) (bare_printed printed)
unfolding bare_stmt bare_arm bare_for
stmt_Print n printed = ap bare_stmt (sym (stmt.rolls-Print n printed)) ∙ fold-roll-Stmt Stmt Arm For stmt_step arm_step for_step (Stmt-F.Print n printed)

pub stmt_Pipeline : (n : Node) (head : Expr) (stages : List Stage) → bare_stmt (stmt.Pipeline n head stages) ≡ stmt.Pipeline (bare n) (bare_expr head) (map bare_stage stages)
unfolding bare_stmt bare_arm bare_for
stmt_Pipeline n head stages = ap bare_stmt (sym (stmt.rolls-Pipeline n head stages)) ∙ fold-roll-Stmt Stmt Arm For stmt_step arm_step for_step (Stmt-F.Pipeline n head stages)

pub stmt_If : (n : Node) (arms : List Arm) (otherwise : List Stmt) → bare_stmt (stmt.If n arms otherwise) ≡ stmt.If (bare n) (map bare_arm arms) (map bare_stmt otherwise)
unfolding bare_stmt bare_arm bare_for
stmt_If n arms otherwise = ap bare_stmt (sym (stmt.rolls-If n arms otherwise)) ∙ fold-roll-Stmt Stmt Arm For stmt_step arm_step for_step (Stmt-F.If n arms otherwise)

pub stmt_While : (n : Node) (condition : Expr) (body : List Stmt) → bare_stmt (stmt.While n condition body) ≡ stmt.While (bare n) (bare_expr condition) (map bare_stmt body)
unfolding bare_stmt bare_arm bare_for
stmt_While n condition body = ap bare_stmt (sym (stmt.rolls-While n condition body)) ∙ fold-roll-Stmt Stmt Arm For stmt_step arm_step for_step (Stmt-F.While n condition body)

pub stmt_Par : (n : Node) (settings : ParOptions) (loop : For) → bare_stmt (stmt.Par n settings loop) ≡ stmt.Par (bare n) settings (bare_for loop)
unfolding bare_stmt bare_arm bare_for
stmt_Par n settings loop = ap bare_stmt (sym (stmt.rolls-Par n settings loop)) ∙ fold-roll-Stmt Stmt Arm For stmt_step arm_step for_step (Stmt-F.Par n settings loop)

pub stmt_For : (loop : For) → bare_stmt (stmt.For loop) ≡ stmt.For (bare_for loop)
unfolding bare_stmt bare_arm bare_for
stmt_For loop = ap bare_stmt (sym (stmt.rolls-For loop)) ∙ fold-roll-Stmt Stmt Arm For stmt_step arm_step for_step (Stmt-F.For loop)

-- ---- structs

pub comparison_is : (c : Comparison) → bare_comparison c ≡ record { comparator = c.comparator; right = bare_expr c.right }
unfolding bare_expr bare_comparison
comparison_is c = fold_out-Comparison Expr Comparison expr_step comparison_step c

pub arm_is : (arm : Arm) → bare_arm arm ≡ record { condition = bare_expr arm.condition; body = map bare_stmt arm.body }
unfolding bare_stmt bare_arm bare_for
arm_is arm = fold_out-Arm Stmt Arm For stmt_step arm_step for_step arm

pub for_is : (loop : For) → bare_for loop ≡ record { node = bare loop.node; names = bare_loop_names loop.names; iterable = bare_expr loop.iterable; body = map bare_stmt loop.body }
unfolding bare_stmt bare_arm bare_for
for_is loop = fold_out-For Stmt Arm For stmt_step arm_step for_step loop
