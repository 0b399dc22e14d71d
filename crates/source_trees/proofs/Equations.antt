-- What each form of a tree gives by what its parts give, one equation a form: the definitions of Parts, read at the forms.
use Rattle.std.proofs.Common.{◌≡◌, ℕ, ℤ, List, [], ◌∷◌, ◌++◌, map, Option, Some, None, ap, sym, ◌∙◌}
use Rattle.std.specs.List.{flat_map}
use Rattle.std.specs.Option.{option_map}
use Rattle.source_trees.specs.declared.operator.UnaryOp.{UnaryOp}
use Rattle.source_trees.specs.declared.operator.BinaryOp.{BinaryOp}
use Rattle.source_trees.specs.declared.node.Node.{Node}
use Rattle.source_trees.specs.declared.node.Name.{Name}
use Rattle.source_trees.specs.declared.expression.Commas.{Commas}
use Rattle.source_trees.specs.declared.expression.Expr.{Expr, Expr-F}
use Rattle.source_trees.specs.declared.expression.Expr.TheFolds.{fold-roll-Expr, fold_out-Comparison}
use Rattle.source_trees.specs.declared.expression.Expr.TheVariants as expr
use Rattle.source_trees.specs.declared.expression.Comparison.{Comparison}
use Rattle.source_trees.specs.declared.statement.LoopNames.{LoopNames}
use Rattle.source_trees.specs.declared.statement.ParOptions.{ParOptions}
use Rattle.source_trees.specs.declared.statement.Target.{Target}
use Rattle.source_trees.specs.declared.statement.Targets.{Targets}
use Rattle.source_trees.specs.declared.statement.Stmt.{Stmt, Stmt-F}
use Rattle.source_trees.specs.declared.statement.Stmt.TheFolds.{fold-roll-Stmt, fold_out-Arm, fold_out-For}
use Rattle.source_trees.specs.declared.statement.Stmt.TheVariants as stmt
use Rattle.source_trees.specs.declared.statement.Arm.{Arm}
use Rattle.source_trees.specs.declared.statement.For.{For}
use Rattle.source_trees.specs.declared.pipeline.Printed.{Printed}
use Rattle.source_trees.specs.declared.pipeline.Stage.{Stage}
use Rattle.source_trees.specs.declared.item.Annotation.{Annotation, Annotation-F, fold-roll-Annotation}
use Rattle.source_trees.specs.declared.item.Annotation.TheVariants as annotation
use Rattle.source_trees.specs.Parts.{optional, of_name, of_loop_names, of_expr, of_exprs, of_comparison, of_annotation, of_target, of_targets, of_printed, of_stage, of_optional_expr, of_stmt, of_arm, of_for, expr_step, comparison_step, annotation_step, stmt_step, arm_step, for_step}

module _ {A : Type 0} (node : Node → List A → A) where
  pub expr_Name : (n : Node) (spelling : List ℕ) → of_expr node (expr.Name n spelling) ≡ node n []
  unfolding of_expr of_comparison
  expr_Name n spelling = ap (of_expr node) (sym (expr.rolls-Name n spelling)) ∙ fold-roll-Expr A A (expr_step node) (comparison_step node) (Expr-F.Name n spelling)

  pub expr_Number : (n : Node) (number : ℤ) → of_expr node (expr.Number n number) ≡ node n []
  unfolding of_expr of_comparison
  expr_Number n number = ap (of_expr node) (sym (expr.rolls-Number n number)) ∙ fold-roll-Expr A A (expr_step node) (comparison_step node) (Expr-F.Number n number)

  pub expr_Text : (n : Node) (text : List ℕ) → of_expr node (expr.Text n text) ≡ node n []
  unfolding of_expr of_comparison
  expr_Text n text = ap (of_expr node) (sym (expr.rolls-Text n text)) ∙ fold-roll-Expr A A (expr_step node) (comparison_step node) (Expr-F.Text n text)

  pub expr_True : (n : Node) → of_expr node (expr.True n) ≡ node n []
  unfolding of_expr of_comparison
  expr_True n = ap (of_expr node) (sym (expr.rolls-True n)) ∙ fold-roll-Expr A A (expr_step node) (comparison_step node) (Expr-F.True n)

  pub expr_False : (n : Node) → of_expr node (expr.False n) ≡ node n []
  unfolding of_expr of_comparison
  expr_False n = ap (of_expr node) (sym (expr.rolls-False n)) ∙ fold-roll-Expr A A (expr_step node) (comparison_step node) (Expr-F.False n)

  pub expr_None : (n : Node) → of_expr node (expr.None n) ≡ node n []
  unfolding of_expr of_comparison
  expr_None n = ap (of_expr node) (sym (expr.rolls-None n)) ∙ fold-roll-Expr A A (expr_step node) (comparison_step node) (Expr-F.None n)

  pub expr_Bracketed : (n : Node) (inner : Expr) → of_expr node (expr.Bracketed n inner) ≡ node n (of_expr node inner ∷ [])
  unfolding of_expr of_comparison
  expr_Bracketed n inner = ap (of_expr node) (sym (expr.rolls-Bracketed n inner)) ∙ fold-roll-Expr A A (expr_step node) (comparison_step node) (Expr-F.Bracketed n inner)

  pub expr_Tuple : (n : Node) (commas : Commas) (items : List Expr) → of_expr node (expr.Tuple n commas items) ≡ node n (of_exprs node items)
  unfolding of_expr of_comparison
  expr_Tuple n commas items = ap (of_expr node) (sym (expr.rolls-Tuple n commas items)) ∙ fold-roll-Expr A A (expr_step node) (comparison_step node) (Expr-F.Tuple n commas items)

  pub expr_List : (n : Node) (items : List Expr) → of_expr node (expr.List n items) ≡ node n (of_exprs node items)
  unfolding of_expr of_comparison
  expr_List n items = ap (of_expr node) (sym (expr.rolls-List n items)) ∙ fold-roll-Expr A A (expr_step node) (comparison_step node) (Expr-F.List n items)

  pub expr_Comprehension : (n : Node) (item : Expr) (names : LoopNames) (iterable : Expr) (condition : Option Expr) → of_expr node (expr.Comprehension n item names iterable condition) ≡ node n (of_expr node item ∷ of_loop_names node names ++ of_expr node iterable ∷ optional (option_map (of_expr node) condition))
  unfolding of_expr of_comparison
  expr_Comprehension n item names iterable None = ap (of_expr node) (sym (expr.rolls-Comprehension n item names iterable None)) ∙ fold-roll-Expr A A (expr_step node) (comparison_step node) (Expr-F.Comprehension n item names iterable None)
  expr_Comprehension n item names iterable (Some condition) = ap (of_expr node) (sym (expr.rolls-Comprehension n item names iterable (Some condition))) ∙ fold-roll-Expr A A (expr_step node) (comparison_step node) (Expr-F.Comprehension n item names iterable (Some condition))

  pub expr_Conditional : (n : Node) (value : Expr) (condition : Expr) (other : Expr) → of_expr node (expr.Conditional n value condition other) ≡ node n (of_expr node value ∷ of_expr node condition ∷ of_expr node other ∷ [])
  unfolding of_expr of_comparison
  expr_Conditional n value condition other = ap (of_expr node) (sym (expr.rolls-Conditional n value condition other)) ∙ fold-roll-Expr A A (expr_step node) (comparison_step node) (Expr-F.Conditional n value condition other)

  pub expr_Or : (n : Node) (operands : List Expr) → of_expr node (expr.Or n operands) ≡ node n (of_exprs node operands)
  unfolding of_expr of_comparison
  expr_Or n operands = ap (of_expr node) (sym (expr.rolls-Or n operands)) ∙ fold-roll-Expr A A (expr_step node) (comparison_step node) (Expr-F.Or n operands)

  pub expr_And : (n : Node) (operands : List Expr) → of_expr node (expr.And n operands) ≡ node n (of_exprs node operands)
  unfolding of_expr of_comparison
  expr_And n operands = ap (of_expr node) (sym (expr.rolls-And n operands)) ∙ fold-roll-Expr A A (expr_step node) (comparison_step node) (Expr-F.And n operands)

  pub expr_Not : (n : Node) (operand : Expr) → of_expr node (expr.Not n operand) ≡ node n (of_expr node operand ∷ [])
  unfolding of_expr of_comparison
  expr_Not n operand = ap (of_expr node) (sym (expr.rolls-Not n operand)) ∙ fold-roll-Expr A A (expr_step node) (comparison_step node) (Expr-F.Not n operand)

  pub expr_Compare : (n : Node) (first : Expr) (others : List Comparison) → of_expr node (expr.Compare n first others) ≡ node n (of_expr node first ∷ map (of_comparison node) others)
  unfolding of_expr of_comparison
  expr_Compare n first others = ap (of_expr node) (sym (expr.rolls-Compare n first others)) ∙ fold-roll-Expr A A (expr_step node) (comparison_step node) (Expr-F.Compare n first others)

  pub expr_Unary : (n : Node) (op : UnaryOp) (operand : Expr) → of_expr node (expr.Unary n op operand) ≡ node n (of_expr node operand ∷ [])
  unfolding of_expr of_comparison
  expr_Unary n op operand = ap (of_expr node) (sym (expr.rolls-Unary n op operand)) ∙ fold-roll-Expr A A (expr_step node) (comparison_step node) (Expr-F.Unary n op operand)

  pub expr_Binary : (n : Node) (op : BinaryOp) (left : Expr) (right : Expr) → of_expr node (expr.Binary n op left right) ≡ node n (of_expr node left ∷ of_expr node right ∷ [])
  unfolding of_expr of_comparison
  expr_Binary n op left right = ap (of_expr node) (sym (expr.rolls-Binary n op left right)) ∙ fold-roll-Expr A A (expr_step node) (comparison_step node) (Expr-F.Binary n op left right)

  pub expr_Call : (n : Node) (name : Name) (arguments : List Expr) → of_expr node (expr.Call n name arguments) ≡ node n (of_name node name ∷ of_exprs node arguments)
  unfolding of_expr of_comparison
  expr_Call n name arguments = ap (of_expr node) (sym (expr.rolls-Call n name arguments)) ∙ fold-roll-Expr A A (expr_step node) (comparison_step node) (Expr-F.Call n name arguments)

  pub expr_MethodCall : (n : Node) (method : Node) (object : Expr) (name : List ℕ) (arguments : List Expr) → of_expr node (expr.MethodCall n method object name arguments) ≡ node n (node method (of_expr node object ∷ []) ∷ of_exprs node arguments)
  unfolding of_expr of_comparison
  expr_MethodCall n method object name arguments = ap (of_expr node) (sym (expr.rolls-MethodCall n method object name arguments)) ∙ fold-roll-Expr A A (expr_step node) (comparison_step node) (Expr-F.MethodCall n method object name arguments)

  pub expr_Index : (n : Node) (object : Expr) (index : Expr) → of_expr node (expr.Index n object index) ≡ node n (of_expr node object ∷ of_expr node index ∷ [])
  unfolding of_expr of_comparison
  expr_Index n object index = ap (of_expr node) (sym (expr.rolls-Index n object index)) ∙ fold-roll-Expr A A (expr_step node) (comparison_step node) (Expr-F.Index n object index)

  pub expr_Slice : (n : Node) (object : Expr) (from : Option Expr) (to : Option Expr) → of_expr node (expr.Slice n object from to) ≡ node n (of_expr node object ∷ optional (option_map (of_expr node) from) ++ optional (option_map (of_expr node) to))
  unfolding of_expr of_comparison
  expr_Slice n object None None = ap (of_expr node) (sym (expr.rolls-Slice n object None None)) ∙ fold-roll-Expr A A (expr_step node) (comparison_step node) (Expr-F.Slice n object None None)
  expr_Slice n object None (Some to) = ap (of_expr node) (sym (expr.rolls-Slice n object None (Some to))) ∙ fold-roll-Expr A A (expr_step node) (comparison_step node) (Expr-F.Slice n object None (Some to))
  expr_Slice n object (Some from) None = ap (of_expr node) (sym (expr.rolls-Slice n object (Some from) None)) ∙ fold-roll-Expr A A (expr_step node) (comparison_step node) (Expr-F.Slice n object (Some from) None)
  expr_Slice n object (Some from) (Some to) = ap (of_expr node) (sym (expr.rolls-Slice n object (Some from) (Some to))) ∙ fold-roll-Expr A A (expr_step node) (comparison_step node) (Expr-F.Slice n object (Some from) (Some to))

  pub expr_Field : (n : Node) (object : Expr) (name : List ℕ) → of_expr node (expr.Field n object name) ≡ node n (of_expr node object ∷ [])
  unfolding of_expr of_comparison
  expr_Field n object name = ap (of_expr node) (sym (expr.rolls-Field n object name)) ∙ fold-roll-Expr A A (expr_step node) (comparison_step node) (Expr-F.Field n object name)

  -- ---- types

  pub annotation_Int : (n : Node) → of_annotation node (annotation.Int n) ≡ node n []
  unfolding of_annotation
  annotation_Int n = ap (of_annotation node) (sym (annotation.rolls-Int n)) ∙ fold-roll-Annotation A (annotation_step node) (Annotation-F.Int n)

  pub annotation_Bool : (n : Node) → of_annotation node (annotation.Bool n) ≡ node n []
  unfolding of_annotation
  annotation_Bool n = ap (of_annotation node) (sym (annotation.rolls-Bool n)) ∙ fold-roll-Annotation A (annotation_step node) (Annotation-F.Bool n)

  pub annotation_Str : (n : Node) → of_annotation node (annotation.Str n) ≡ node n []
  unfolding of_annotation
  annotation_Str n = ap (of_annotation node) (sym (annotation.rolls-Str n)) ∙ fold-roll-Annotation A (annotation_step node) (Annotation-F.Str n)

  pub annotation_None : (n : Node) → of_annotation node (annotation.None n) ≡ node n []
  unfolding of_annotation
  annotation_None n = ap (of_annotation node) (sym (annotation.rolls-None n)) ∙ fold-roll-Annotation A (annotation_step node) (Annotation-F.None n)

  pub annotation_Class : (n : Node) (name : List ℕ) → of_annotation node (annotation.Class n name) ≡ node n []
  unfolding of_annotation
  annotation_Class n name = ap (of_annotation node) (sym (annotation.rolls-Class n name)) ∙ fold-roll-Annotation A (annotation_step node) (Annotation-F.Class n name)

  pub annotation_List : (n : Node) (item : Annotation) → of_annotation node (annotation.List n item) ≡ node n (of_annotation node item ∷ [])
  unfolding of_annotation
  annotation_List n item = ap (of_annotation node) (sym (annotation.rolls-List n item)) ∙ fold-roll-Annotation A (annotation_step node) (Annotation-F.List n item)

  pub annotation_Tuple : (n : Node) (items : List Annotation) → of_annotation node (annotation.Tuple n items) ≡ node n (map (of_annotation node) items)
  unfolding of_annotation
  annotation_Tuple n items = ap (of_annotation node) (sym (annotation.rolls-Tuple n items)) ∙ fold-roll-Annotation A (annotation_step node) (Annotation-F.Tuple n items)

  -- ---- statements

  pub stmt_Pass : (n : Node) → of_stmt node (stmt.Pass n) ≡ node n []
  unfolding of_stmt of_arm of_for
  stmt_Pass n = ap (of_stmt node) (sym (stmt.rolls-Pass n)) ∙ fold-roll-Stmt A (List A) A (stmt_step node) (arm_step node) (for_step node) (Stmt-F.Pass n)

  pub stmt_Break : (n : Node) → of_stmt node (stmt.Break n) ≡ node n []
  unfolding of_stmt of_arm of_for
  stmt_Break n = ap (of_stmt node) (sym (stmt.rolls-Break n)) ∙ fold-roll-Stmt A (List A) A (stmt_step node) (arm_step node) (for_step node) (Stmt-F.Break n)

  pub stmt_Continue : (n : Node) → of_stmt node (stmt.Continue n) ≡ node n []
  unfolding of_stmt of_arm of_for
  stmt_Continue n = ap (of_stmt node) (sym (stmt.rolls-Continue n)) ∙ fold-roll-Stmt A (List A) A (stmt_step node) (arm_step node) (for_step node) (Stmt-F.Continue n)

  pub stmt_Return : (n : Node) (value : Option Expr) → of_stmt node (stmt.Return n value) ≡ node n (of_optional_expr node value)
  unfolding of_stmt of_arm of_for
  stmt_Return n value = ap (of_stmt node) (sym (stmt.rolls-Return n value)) ∙ fold-roll-Stmt A (List A) A (stmt_step node) (arm_step node) (for_step node) (Stmt-F.Return n value)

  pub stmt_Yield : (n : Node) (value : Expr) → of_stmt node (stmt.Yield n value) ≡ node n (of_expr node value ∷ [])
  unfolding of_stmt of_arm of_for
  stmt_Yield n value = ap (of_stmt node) (sym (stmt.rolls-Yield n value)) ∙ fold-roll-Stmt A (List A) A (stmt_step node) (arm_step node) (for_step node) (Stmt-F.Yield n value)

  pub stmt_Raise : (n : Node) (name : Name) (text : Option Expr) → of_stmt node (stmt.Raise n name text) ≡ node n (of_name node name ∷ of_optional_expr node text)
  unfolding of_stmt of_arm of_for
  stmt_Raise n name text = ap (of_stmt node) (sym (stmt.rolls-Raise n name text)) ∙ fold-roll-Stmt A (List A) A (stmt_step node) (arm_step node) (for_step node) (Stmt-F.Raise n name text)

  pub stmt_Assert : (n : Node) (condition : Expr) (text : Option Expr) → of_stmt node (stmt.Assert n condition text) ≡ node n (of_expr node condition ∷ of_optional_expr node text)
  unfolding of_stmt of_arm of_for
  stmt_Assert n condition text = ap (of_stmt node) (sym (stmt.rolls-Assert n condition text)) ∙ fold-roll-Stmt A (List A) A (stmt_step node) (arm_step node) (for_step node) (Stmt-F.Assert n condition text)

  pub stmt_Annotated : (n : Node) (name : Name) (type : Annotation) (value : Option Expr) → of_stmt node (stmt.Annotated n name type value) ≡ node n (of_name node name ∷ of_annotation node type ∷ of_optional_expr node value)
  unfolding of_stmt of_arm of_for
  stmt_Annotated n name type value = ap (of_stmt node) (sym (stmt.rolls-Annotated n name type value)) ∙ fold-roll-Stmt A (List A) A (stmt_step node) (arm_step node) (for_step node) (Stmt-F.Annotated n name type value)

  pub stmt_Assign : (n : Node) (written : Targets) (value : Expr) → of_stmt node (stmt.Assign n written value) ≡ node n (of_targets node written ∷ of_expr node value ∷ [])
  unfolding of_stmt of_arm of_for
  stmt_Assign n written value = ap (of_stmt node) (sym (stmt.rolls-Assign n written value)) ∙ fold-roll-Stmt A (List A) A (stmt_step node) (arm_step node) (for_step node) (Stmt-F.Assign n written value)

  pub stmt_Update : (n : Node) (written : Target) (op : BinaryOp) (value : Expr) → of_stmt node (stmt.Update n written op value) ≡ node n (of_target node written ∷ of_expr node value ∷ [])
  unfolding of_stmt of_arm of_for
  stmt_Update n written op value = ap (of_stmt node) (sym (stmt.rolls-Update n written op value)) ∙ fold-roll-Stmt A (List A) A (stmt_step node) (arm_step node) (for_step node) (Stmt-F.Update n written op value)

  pub stmt_Evaluate : (n : Node) (value : Expr) → of_stmt node (stmt.Evaluate n value) ≡ node n (of_expr node value ∷ [])
  unfolding of_stmt of_arm of_for
  stmt_Evaluate n value = ap (of_stmt node) (sym (stmt.rolls-Evaluate n value)) ∙ fold-roll-Stmt A (List A) A (stmt_step node) (arm_step node) (for_step node) (Stmt-F.Evaluate n value)

  pub stmt_Print : (n : Node) (printed : Printed) → of_stmt node (stmt.Print n printed) ≡ node n (of_printed node printed)
  unfolding of_stmt of_arm of_for
  stmt_Print n printed = ap (of_stmt node) (sym (stmt.rolls-Print n printed)) ∙ fold-roll-Stmt A (List A) A (stmt_step node) (arm_step node) (for_step node) (Stmt-F.Print n printed)

  pub stmt_Pipeline : (n : Node) (head : Expr) (stages : List Stage) → of_stmt node (stmt.Pipeline n head stages) ≡ node n (of_expr node head ∷ map (of_stage node) stages)
  unfolding of_stmt of_arm of_for
  stmt_Pipeline n head stages = ap (of_stmt node) (sym (stmt.rolls-Pipeline n head stages)) ∙ fold-roll-Stmt A (List A) A (stmt_step node) (arm_step node) (for_step node) (Stmt-F.Pipeline n head stages)

  pub stmt_If : (n : Node) (arms : List Arm) (otherwise : List Stmt) → of_stmt node (stmt.If n arms otherwise) ≡ node n (flat_map (λ arm. arm) (map (of_arm node) arms) ++ map (of_stmt node) otherwise)
  unfolding of_stmt of_arm of_for
  stmt_If n arms otherwise = ap (of_stmt node) (sym (stmt.rolls-If n arms otherwise)) ∙ fold-roll-Stmt A (List A) A (stmt_step node) (arm_step node) (for_step node) (Stmt-F.If n arms otherwise)

  pub stmt_While : (n : Node) (condition : Expr) (body : List Stmt) → of_stmt node (stmt.While n condition body) ≡ node n (of_expr node condition ∷ map (of_stmt node) body)
  unfolding of_stmt of_arm of_for
  stmt_While n condition body = ap (of_stmt node) (sym (stmt.rolls-While n condition body)) ∙ fold-roll-Stmt A (List A) A (stmt_step node) (arm_step node) (for_step node) (Stmt-F.While n condition body)

  pub stmt_For : (loop : For) → of_stmt node (stmt.For loop) ≡ of_for node loop
  unfolding of_stmt of_arm of_for
  stmt_For loop = ap (of_stmt node) (sym (stmt.rolls-For loop)) ∙ fold-roll-Stmt A (List A) A (stmt_step node) (arm_step node) (for_step node) (Stmt-F.For loop)

  pub stmt_Par : (n : Node) (settings : ParOptions) (loop : For) → of_stmt node (stmt.Par n settings loop) ≡ node n (of_for node loop ∷ [])
  unfolding of_stmt of_arm of_for
  stmt_Par n settings loop = ap (of_stmt node) (sym (stmt.rolls-Par n settings loop)) ∙ fold-roll-Stmt A (List A) A (stmt_step node) (arm_step node) (for_step node) (Stmt-F.Par n settings loop)

  -- ---- structs

  pub comparison_is : (c : Comparison) → of_comparison node c ≡ of_expr node c.right
  unfolding of_expr of_comparison
  comparison_is c = fold_out-Comparison A A (expr_step node) (comparison_step node) c

  pub arm_is : (arm : Arm) → of_arm node arm ≡ of_expr node arm.condition ∷ map (of_stmt node) arm.body
  unfolding of_stmt of_arm of_for
  arm_is arm = fold_out-Arm A (List A) A (stmt_step node) (arm_step node) (for_step node) arm

  pub for_is : (loop : For) → of_for node loop ≡ node loop.node (of_loop_names node loop.names ++ of_expr node loop.iterable ∷ map (of_stmt node) loop.body)
  unfolding of_stmt of_arm of_for
  for_is loop = fold_out-For A (List A) A (stmt_step node) (arm_step node) (for_step node) loop

pub ruleset struct_rules = (comparison_is, arm_is, for_is)

pub ruleset expr_rules = (expr_Name, expr_Number, expr_Text, expr_True, expr_False, expr_None, expr_Bracketed, expr_Tuple, expr_List, expr_Conditional, expr_Or, expr_And, expr_Not, expr_Compare, expr_Unary, expr_Binary, expr_Call, expr_MethodCall, expr_Index, expr_Field)

pub ruleset annotation_rules = (annotation_Int, annotation_Bool, annotation_Str, annotation_None, annotation_Class, annotation_List, annotation_Tuple)

pub ruleset stmt_rules = (stmt_Pass, stmt_Break, stmt_Continue, stmt_Return, stmt_Yield, stmt_Raise, stmt_Assert, stmt_Annotated, stmt_Assign, stmt_Update, stmt_Evaluate, stmt_Print, stmt_Pipeline, stmt_If, stmt_While, stmt_For, stmt_Par)
