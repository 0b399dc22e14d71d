-- The height of each form of statement by those of its parts.
use Rattle.std.proofs.Common.{◌≡◌, List, [], ◌∷◌, ◌++◌, map, Option, ap, sym, ◌∙◌}
use Rattle.std.specs.List.{flat_map}
use Rattle.source_trees.specs.declared.operator.BinaryOp.{BinaryOp}
use Rattle.source_trees.specs.declared.node.Node.{Node}
use Rattle.source_trees.specs.declared.node.Name.{Name}
use Rattle.source_trees.specs.declared.expression.Expr.{Expr}
use Rattle.source_trees.specs.declared.statement.ParOptions.{ParOptions}
use Rattle.source_trees.specs.declared.statement.Target.{Target}
use Rattle.source_trees.specs.declared.statement.Targets.{Targets}
use Rattle.source_trees.specs.declared.statement.Stmt.{Stmt, Stmt-F}
use Rattle.source_trees.specs.declared.statement.Stmt.TheFolds.{fold-roll-Stmt, fold_out-Arm, fold_out-For}
use Rattle.source_trees.specs.declared.statement.Stmt.TheVariants as stmt
use Rattle.source_trees.specs.declared.statement.Arm.{Arm}
use Rattle.source_trees.specs.declared.statement.For.{For}
use Rattle.source_trees.specs.declared.pipeline.Printed.{Printed}
use Rattle.source_trees.specs.declared.pipeline.Stage.{Stage}
use Rattle.source_trees.specs.declared.item.Annotation.{Annotation}
use Rattle.source_trees.specs.Parts.{of_name, of_loop_names, of_expr, of_annotation, of_target, of_targets, of_printed, of_stage, of_optional_expr, of_stmt, of_arm, of_for, stmt_step, arm_step, for_step}

module _ {A : Type 0} (node : Node → List A → A) where
  pub stmt_Pass : (n : Node) → of_stmt node (stmt.Pass n) ≡ node n []
  unfolding of_stmt of_arm of_for
  stmt_Pass n = ap (of_stmt node) (sym (stmt.rolls-Pass n)) ∙ fold-roll-Stmt A (List A) A (stmt_step node) (arm_step node) (for_step node) (Stmt-F.Pass n)

  pub stmt_Break : (n : Node) → of_stmt node (stmt.Break n) ≡ node n []
  unfolding of_stmt of_arm of_for
  stmt_Break n = ap (of_stmt node) (sym (stmt.rolls-Break n)) ∙ fold-roll-Stmt A (List A) A (stmt_step node) (arm_step node) (for_step node) (Stmt-F.Break n)

  pub stmt_Continue : (n : Node) → of_stmt node (stmt.Continue n) ≡ node n []
  unfolding of_stmt of_arm of_for
  stmt_Continue n = ap (of_stmt node) (sym (stmt.rolls-Continue n)) ∙ fold-roll-Stmt A (List A) A (stmt_step node) (arm_step node) (for_step node) (Stmt-F.Continue n)

  pub stmt_Return : (n : Node) (value : Option Expr) → of_stmt node (stmt.Return n value) ≡ node n (of_optional_expr node value)
  unfolding of_stmt of_arm of_for
  stmt_Return n value = ap (of_stmt node) (sym (stmt.rolls-Return n value)) ∙ fold-roll-Stmt A (List A) A (stmt_step node) (arm_step node) (for_step node) (Stmt-F.Return n value)

  pub stmt_Yield : (n : Node) (value : Expr) → of_stmt node (stmt.Yield n value) ≡ node n (of_expr node value ∷ [])
  unfolding of_stmt of_arm of_for
  stmt_Yield n value = ap (of_stmt node) (sym (stmt.rolls-Yield n value)) ∙ fold-roll-Stmt A (List A) A (stmt_step node) (arm_step node) (for_step node) (Stmt-F.Yield n value)

  pub stmt_Raise : (n : Node) (name : Name) (text : Option Expr) → of_stmt node (stmt.Raise n name text) ≡ node n (of_name node name ∷ of_optional_expr node text)
  unfolding of_stmt of_arm of_for
  stmt_Raise n name text = ap (of_stmt node) (sym (stmt.rolls-Raise n name text)) ∙ fold-roll-Stmt A (List A) A (stmt_step node) (arm_step node) (for_step node) (Stmt-F.Raise n name text)

  pub stmt_Assert : (n : Node) (condition : Expr) (text : Option Expr) → of_stmt node (stmt.Assert n condition text) ≡ node n (of_expr node condition ∷ of_optional_expr node text)
  unfolding of_stmt of_arm of_for
  stmt_Assert n condition text = ap (of_stmt node) (sym (stmt.rolls-Assert n condition text)) ∙ fold-roll-Stmt A (List A) A (stmt_step node) (arm_step node) (for_step node) (Stmt-F.Assert n condition text)

  pub stmt_Annotated : (n : Node) (name : Name) (type : Annotation) (value : Option Expr) → of_stmt node (stmt.Annotated n name type value) ≡ node n (of_name node name ∷ of_annotation node type ∷ of_optional_expr node value)
  unfolding of_stmt of_arm of_for
  stmt_Annotated n name type value = ap (of_stmt node) (sym (stmt.rolls-Annotated n name type value)) ∙ fold-roll-Stmt A (List A) A (stmt_step node) (arm_step node) (for_step node) (Stmt-F.Annotated n name type value)

  pub stmt_Assign : (n : Node) (written : Targets) (value : Expr) → of_stmt node (stmt.Assign n written value) ≡ node n (of_targets node written ∷ of_expr node value ∷ [])
  unfolding of_stmt of_arm of_for
  stmt_Assign n written value = ap (of_stmt node) (sym (stmt.rolls-Assign n written value)) ∙ fold-roll-Stmt A (List A) A (stmt_step node) (arm_step node) (for_step node) (Stmt-F.Assign n written value)

  pub stmt_Update : (n : Node) (written : Target) (op : BinaryOp) (value : Expr) → of_stmt node (stmt.Update n written op value) ≡ node n (of_target node written ∷ of_expr node value ∷ [])
  unfolding of_stmt of_arm of_for
  stmt_Update n written op value = ap (of_stmt node) (sym (stmt.rolls-Update n written op value)) ∙ fold-roll-Stmt A (List A) A (stmt_step node) (arm_step node) (for_step node) (Stmt-F.Update n written op value)

  pub stmt_Evaluate : (n : Node) (value : Expr) → of_stmt node (stmt.Evaluate n value) ≡ node n (of_expr node value ∷ [])
  unfolding of_stmt of_arm of_for
  stmt_Evaluate n value = ap (of_stmt node) (sym (stmt.rolls-Evaluate n value)) ∙ fold-roll-Stmt A (List A) A (stmt_step node) (arm_step node) (for_step node) (Stmt-F.Evaluate n value)

  pub stmt_Print : (n : Node) (printed : Printed) → of_stmt node (stmt.Print n printed) ≡ node n (of_printed node printed)
  unfolding of_stmt of_arm of_for
  stmt_Print n printed = ap (of_stmt node) (sym (stmt.rolls-Print n printed)) ∙ fold-roll-Stmt A (List A) A (stmt_step node) (arm_step node) (for_step node) (Stmt-F.Print n printed)

  pub stmt_Pipeline : (n : Node) (head : Expr) (stages : List Stage) → of_stmt node (stmt.Pipeline n head stages) ≡ node n (of_expr node head ∷ map (of_stage node) stages)
  unfolding of_stmt of_arm of_for
  stmt_Pipeline n head stages = ap (of_stmt node) (sym (stmt.rolls-Pipeline n head stages)) ∙ fold-roll-Stmt A (List A) A (stmt_step node) (arm_step node) (for_step node) (Stmt-F.Pipeline n head stages)

  pub stmt_If : (n : Node) (arms : List Arm) (otherwise : List Stmt) → of_stmt node (stmt.If n arms otherwise) ≡ node n (flat_map (λ arm. arm) (map (of_arm node) arms) ++ map (of_stmt node) otherwise)
  unfolding of_stmt of_arm of_for
  stmt_If n arms otherwise = ap (of_stmt node) (sym (stmt.rolls-If n arms otherwise)) ∙ fold-roll-Stmt A (List A) A (stmt_step node) (arm_step node) (for_step node) (Stmt-F.If n arms otherwise)

  pub stmt_While : (n : Node) (condition : Expr) (body : List Stmt) → of_stmt node (stmt.While n condition body) ≡ node n (of_expr node condition ∷ map (of_stmt node) body)
  unfolding of_stmt of_arm of_for
  stmt_While n condition body = ap (of_stmt node) (sym (stmt.rolls-While n condition body)) ∙ fold-roll-Stmt A (List A) A (stmt_step node) (arm_step node) (for_step node) (Stmt-F.While n condition body)

  pub stmt_For : (loop : For) → of_stmt node (stmt.For loop) ≡ of_for node loop
  unfolding of_stmt of_arm of_for
  stmt_For loop = ap (of_stmt node) (sym (stmt.rolls-For loop)) ∙ fold-roll-Stmt A (List A) A (stmt_step node) (arm_step node) (for_step node) (Stmt-F.For loop)

  pub stmt_Par : (n : Node) (settings : ParOptions) (loop : For) → of_stmt node (stmt.Par n settings loop) ≡ node n (of_for node loop ∷ [])
  unfolding of_stmt of_arm of_for
  stmt_Par n settings loop = ap (of_stmt node) (sym (stmt.rolls-Par n settings loop)) ∙ fold-roll-Stmt A (List A) A (stmt_step node) (arm_step node) (for_step node) (Stmt-F.Par n settings loop)

  pub arm_is : (arm : Arm) → of_arm node arm ≡ of_expr node arm.condition ∷ map (of_stmt node) arm.body
  unfolding of_stmt of_arm of_for
  arm_is arm = fold_out-Arm A (List A) A (stmt_step node) (arm_step node) (for_step node) arm

  pub for_is : (loop : For) → of_for node loop ≡ node loop.node (of_loop_names node loop.names ++ of_expr node loop.iterable ∷ map (of_stmt node) loop.body)
  unfolding of_stmt of_arm of_for
  for_is loop = fold_out-For A (List A) A (stmt_step node) (arm_step node) (for_step node) loop
