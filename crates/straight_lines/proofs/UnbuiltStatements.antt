-- What is not built in a statement, one equation a form of statements.
use Rattle.std.proofs.Common.{◌≡◌, Bool, List, [], ◌∷◌, Option, Some, ap, sym, ◌∙◌}
use Rattle.codon_base.specs.declared.source.Span.{Span}
use Rattle.source_trees.specs.declared.operator.BinaryOp.{BinaryOp}
use Rattle.source_trees.specs.declared.node.Node.{Node}
use Rattle.source_trees.specs.declared.node.Name.{Name}
use Rattle.source_trees.specs.declared.expression.Expr.{Expr}
use Rattle.source_trees.specs.declared.item.Annotation.{Annotation}
use Rattle.source_trees.specs.declared.pipeline.Printed.{Printed}
use Rattle.source_trees.specs.declared.pipeline.Stage.{Stage}
use Rattle.source_trees.specs.declared.statement.ParOptions.{ParOptions}
use Rattle.source_trees.specs.declared.statement.Target.{Target}
use Rattle.source_trees.specs.declared.statement.Targets.{Targets}
use Rattle.source_trees.specs.declared.statement.Arm.{Arm}
use Rattle.source_trees.specs.declared.statement.For.{For}
use Rattle.source_trees.specs.declared.statement.Stmt.{Stmt, Stmt-F}
use Rattle.source_trees.specs.declared.statement.Stmt.TheFolds.{fold-roll-Stmt, fold_out-For, fold-For}
use Rattle.source_trees.specs.declared.statement.Stmt.TheVariants as d
use Rattle.source_trees.specs.Parts as trees
use Rattle.meaning_rules.specs.State.{Spelling}
use Rattle.straight_lines.specs.Built.{first_of, not_built, unbuilt_in_targets, unbuilt_in_sum, unbuilt_in_print, stmt_step, unbuilt_in_stmt}

module _ (known : Spelling → Bool) where
  for_is : (loop : For) → fold-For (Option Span) (List (Option Span)) (Option Span) (stmt_step known) (trees.arm_step not_built) (trees.for_step not_built) loop ≡ Some loop.node.at
  for_is loop = fold_out-For (Option Span) (List (Option Span)) (Option Span) (stmt_step known) (trees.arm_step not_built) (trees.for_step not_built) loop

  pub unbuilt_Pass : (n : Node) → unbuilt_in_stmt known (d.Pass n) ≡ Some n.at
  unfolding unbuilt_in_stmt
  unbuilt_Pass n = ap (unbuilt_in_stmt known) (sym (d.rolls-Pass n)) ∙ fold-roll-Stmt (Option Span) (List (Option Span)) (Option Span) (stmt_step known) (trees.arm_step not_built) (trees.for_step not_built) (Stmt-F.Pass n)

  pub unbuilt_Break : (n : Node) → unbuilt_in_stmt known (d.Break n) ≡ Some n.at
  unfolding unbuilt_in_stmt
  unbuilt_Break n = ap (unbuilt_in_stmt known) (sym (d.rolls-Break n)) ∙ fold-roll-Stmt (Option Span) (List (Option Span)) (Option Span) (stmt_step known) (trees.arm_step not_built) (trees.for_step not_built) (Stmt-F.Break n)

  pub unbuilt_Continue : (n : Node) → unbuilt_in_stmt known (d.Continue n) ≡ Some n.at
  unfolding unbuilt_in_stmt
  unbuilt_Continue n = ap (unbuilt_in_stmt known) (sym (d.rolls-Continue n)) ∙ fold-roll-Stmt (Option Span) (List (Option Span)) (Option Span) (stmt_step known) (trees.arm_step not_built) (trees.for_step not_built) (Stmt-F.Continue n)

  pub unbuilt_Return : (n : Node) (value : Option Expr) → unbuilt_in_stmt known (d.Return n value) ≡ Some n.at
  unfolding unbuilt_in_stmt
  unbuilt_Return n value = ap (unbuilt_in_stmt known) (sym (d.rolls-Return n value)) ∙ fold-roll-Stmt (Option Span) (List (Option Span)) (Option Span) (stmt_step known) (trees.arm_step not_built) (trees.for_step not_built) (Stmt-F.Return n value)

  pub unbuilt_Yield : (n : Node) (value : Expr) → unbuilt_in_stmt known (d.Yield n value) ≡ Some n.at
  unfolding unbuilt_in_stmt
  unbuilt_Yield n value = ap (unbuilt_in_stmt known) (sym (d.rolls-Yield n value)) ∙ fold-roll-Stmt (Option Span) (List (Option Span)) (Option Span) (stmt_step known) (trees.arm_step not_built) (trees.for_step not_built) (Stmt-F.Yield n value)

  pub unbuilt_Raise : (n : Node) (name : Name) (text : Option Expr) → unbuilt_in_stmt known (d.Raise n name text) ≡ Some n.at
  unfolding unbuilt_in_stmt
  unbuilt_Raise n name text = ap (unbuilt_in_stmt known) (sym (d.rolls-Raise n name text)) ∙ fold-roll-Stmt (Option Span) (List (Option Span)) (Option Span) (stmt_step known) (trees.arm_step not_built) (trees.for_step not_built) (Stmt-F.Raise n name text)

  pub unbuilt_Assert : (n : Node) (condition : Expr) (text : Option Expr) → unbuilt_in_stmt known (d.Assert n condition text) ≡ Some n.at
  unfolding unbuilt_in_stmt
  unbuilt_Assert n condition text = ap (unbuilt_in_stmt known) (sym (d.rolls-Assert n condition text)) ∙ fold-roll-Stmt (Option Span) (List (Option Span)) (Option Span) (stmt_step known) (trees.arm_step not_built) (trees.for_step not_built) (Stmt-F.Assert n condition text)

  pub unbuilt_Annotated : (n : Node) (name : Name) (type : Annotation) (value : Option Expr) → unbuilt_in_stmt known (d.Annotated n name type value) ≡ Some n.at
  unfolding unbuilt_in_stmt
  unbuilt_Annotated n name type value = ap (unbuilt_in_stmt known) (sym (d.rolls-Annotated n name type value)) ∙ fold-roll-Stmt (Option Span) (List (Option Span)) (Option Span) (stmt_step known) (trees.arm_step not_built) (trees.for_step not_built) (Stmt-F.Annotated n name type value)

  pub unbuilt_Assign : (n : Node) (written : Targets) (value : Expr) → unbuilt_in_stmt known (d.Assign n written value) ≡ first_of (unbuilt_in_targets written ∷ unbuilt_in_sum known value ∷ [])
  unfolding unbuilt_in_stmt
  unbuilt_Assign n written value = ap (unbuilt_in_stmt known) (sym (d.rolls-Assign n written value)) ∙ fold-roll-Stmt (Option Span) (List (Option Span)) (Option Span) (stmt_step known) (trees.arm_step not_built) (trees.for_step not_built) (Stmt-F.Assign n written value)

  pub unbuilt_Update : (n : Node) (written : Target) (by : BinaryOp) (value : Expr) → unbuilt_in_stmt known (d.Update n written by value) ≡ Some n.at
  unfolding unbuilt_in_stmt
  unbuilt_Update n written by value = ap (unbuilt_in_stmt known) (sym (d.rolls-Update n written by value)) ∙ fold-roll-Stmt (Option Span) (List (Option Span)) (Option Span) (stmt_step known) (trees.arm_step not_built) (trees.for_step not_built) (Stmt-F.Update n written by value)

  pub unbuilt_Evaluate : (n : Node) (value : Expr) → unbuilt_in_stmt known (d.Evaluate n value) ≡ Some n.at
  unfolding unbuilt_in_stmt
  unbuilt_Evaluate n value = ap (unbuilt_in_stmt known) (sym (d.rolls-Evaluate n value)) ∙ fold-roll-Stmt (Option Span) (List (Option Span)) (Option Span) (stmt_step known) (trees.arm_step not_built) (trees.for_step not_built) (Stmt-F.Evaluate n value)

  pub unbuilt_Print : (n : Node) (printed : Printed) → unbuilt_in_stmt known (d.Print n printed) ≡ unbuilt_in_print known n printed.values printed.options
  unfolding unbuilt_in_stmt
  unbuilt_Print n printed = ap (unbuilt_in_stmt known) (sym (d.rolls-Print n printed)) ∙ fold-roll-Stmt (Option Span) (List (Option Span)) (Option Span) (stmt_step known) (trees.arm_step not_built) (trees.for_step not_built) (Stmt-F.Print n printed)

  pub unbuilt_Pipeline : (n : Node) (head : Expr) (stages : List Stage) → unbuilt_in_stmt known (d.Pipeline n head stages) ≡ Some n.at
  unfolding unbuilt_in_stmt
  unbuilt_Pipeline n head stages = ap (unbuilt_in_stmt known) (sym (d.rolls-Pipeline n head stages)) ∙ fold-roll-Stmt (Option Span) (List (Option Span)) (Option Span) (stmt_step known) (trees.arm_step not_built) (trees.for_step not_built) (Stmt-F.Pipeline n head stages)

  pub unbuilt_If : (n : Node) (arms : List Arm) (otherwise : List Stmt) → unbuilt_in_stmt known (d.If n arms otherwise) ≡ Some n.at
  unfolding unbuilt_in_stmt
  unbuilt_If n arms otherwise = ap (unbuilt_in_stmt known) (sym (d.rolls-If n arms otherwise)) ∙ fold-roll-Stmt (Option Span) (List (Option Span)) (Option Span) (stmt_step known) (trees.arm_step not_built) (trees.for_step not_built) (Stmt-F.If n arms otherwise)

  pub unbuilt_While : (n : Node) (condition : Expr) (body : List Stmt) → unbuilt_in_stmt known (d.While n condition body) ≡ Some n.at
  unfolding unbuilt_in_stmt
  unbuilt_While n condition body = ap (unbuilt_in_stmt known) (sym (d.rolls-While n condition body)) ∙ fold-roll-Stmt (Option Span) (List (Option Span)) (Option Span) (stmt_step known) (trees.arm_step not_built) (trees.for_step not_built) (Stmt-F.While n condition body)

  pub unbuilt_For : (loop : For) → unbuilt_in_stmt known (d.For loop) ≡ Some loop.node.at
  unfolding unbuilt_in_stmt
  unbuilt_For loop = ap (unbuilt_in_stmt known) (sym (d.rolls-For loop)) ∙ fold-roll-Stmt (Option Span) (List (Option Span)) (Option Span) (stmt_step known) (trees.arm_step not_built) (trees.for_step not_built) (Stmt-F.For loop) ∙ for_is loop

  pub unbuilt_Par : (n : Node) (settings : ParOptions) (loop : For) → unbuilt_in_stmt known (d.Par n settings loop) ≡ Some n.at
  unfolding unbuilt_in_stmt
  unbuilt_Par n settings loop = ap (unbuilt_in_stmt known) (sym (d.rolls-Par n settings loop)) ∙ fold-roll-Stmt (Option Span) (List (Option Span)) (Option Span) (stmt_step known) (trees.arm_step not_built) (trees.for_step not_built) (Stmt-F.Par n settings loop)

pub ruleset unbuilt_statement_rules = (unbuilt_Pass, unbuilt_Break, unbuilt_Continue, unbuilt_Return, unbuilt_Yield, unbuilt_Raise, unbuilt_Assert, unbuilt_Annotated, unbuilt_Assign, unbuilt_Update, unbuilt_Evaluate, unbuilt_Print, unbuilt_Pipeline, unbuilt_If, unbuilt_While, unbuilt_For, unbuilt_Par)
