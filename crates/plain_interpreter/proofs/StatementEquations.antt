-- The equations of statements, one for each form.
use Rattle.std.proofs.Common.{◌≡◌, if◌then◌else◌, List, [], ◌∷◌, map, Option, Some, refl, sym, ap, ◌∙◌}
use Rattle.codon_base.specs.declared.fault.FaultKind.TheVariants as kind
use Rattle.source_trees.specs.declared.node.Node.{Node}
use Rattle.source_trees.specs.declared.node.Name.{Name}
use Rattle.source_trees.specs.declared.item.Annotation.{Annotation}
use Rattle.source_trees.specs.declared.operator.BinaryOp.{BinaryOp}
use Rattle.source_trees.specs.declared.expression.Expr.{Expr, out-Expr}
use Rattle.source_trees.specs.declared.pipeline.Printed.{Printed}
use Rattle.source_trees.specs.declared.pipeline.Stage.{Stage}
use Rattle.source_trees.specs.declared.statement.ParOptions.{ParOptions}
use Rattle.source_trees.specs.declared.statement.Target.{Target}
use Rattle.source_trees.specs.declared.statement.Targets.{Targets}
use Rattle.source_trees.specs.declared.statement.Arm.{Arm, out-Arm, roll-out-Arm}
use Rattle.source_trees.specs.declared.statement.For.{For, out-For, roll-out-For}
use Rattle.source_trees.specs.declared.statement.Stmt.{Stmt, Stmt-F}
use Rattle.source_trees.specs.declared.statement.Stmt.TheFolds.{para-Arm, para-For, para-roll-Stmt, para-roll-Arm, para-roll-For}
use Rattle.source_trees.specs.declared.statement.Stmt.TheVariants as d
use Rattle.meaning_rules.specs.State.{State, Flow, Next, Break, Continue}
use Rattle.meaning_rules.specs.Outcome.{Run, ◌>>=◌, pure}
use Rattle.meaning_rules.specs.Program.{Scope}
use Rattle.meaning_rules.specs.Captures.{begin_loop, body_scope}
use Rattle.meaning_rules.specs.Task.{Consumer, Body, Parallel, Setting}
use Rattle.meaning_rules.specs.Loops.{yield, over, after_loop}
use Rattle.meaning_rules.specs.Expressions.{expr, iterable, condition}
use Rattle.meaning_rules.specs.Printing.{print_after}
use Rattle.meaning_rules.specs.Pipelines.{pipeline}
use Rattle.meaning_rules.specs.Statements as spec
use Rattle.meaning_rules.specs.Statements.{Does, Chooses, Loop, stmt, statements, fault_named}
use Rattle.plain_interpreter.specs.Steps.{chosen, while_of, for_of, parallel_of}

module _ (here : Setting) (consumers : List Consumer) where
  trees_paired : (body : List Stmt) → spec.trees (map (λ each. (each, stmt here consumers each)) body) ≡ body
  trees_paired [] = refl
  trees_paired (each ∷ body) = ap (λ (l : List Stmt). each ∷ l) (trees_paired body)

  abbrev arm_does : Arm → Chooses
  arm_does = para-Arm Does Chooses Loop (spec.stmt_step here consumers) (spec.arm_step here consumers) (spec.for_step here consumers)

  abbrev loop_does : For → Loop
  loop_does = para-For Does Chooses Loop (spec.stmt_step here consumers) (spec.arm_step here consumers) (spec.for_step here consumers)

  arm_is : (arm : Arm) → arm_does arm ≡ (λ scope otherwise. condition here scope arm.condition >>= λ t. if t then statements here consumers scope arm.body else otherwise)
  unfolding stmt
  arm_is arm = ap arm_does (sym (roll-out-Arm arm)) ∙ para-roll-Arm Does Chooses Loop (spec.stmt_step here consumers) (spec.arm_step here consumers) (spec.for_step here consumers) (out-Arm arm)

  arms_paired : (scope : Scope) (arms : List Arm) (otherwise : List Stmt) → spec.arms_or here consumers scope (map (λ arm. (arm, arm_does arm)) arms) (statements here consumers scope otherwise) ≡ chosen here consumers scope arms otherwise
  arms_paired scope [] otherwise = refl
  arms_paired scope (arm ∷ more) otherwise = (λ i. arm_is arm i scope (arms_paired scope more otherwise i))

  loop_is : (l : For) → loop_does l ≡ record { names = l.names; iterable = l.iterable; body = map (λ each. (each, stmt here consumers each)) l.body }
  unfolding stmt
  loop_is l = ap loop_does (sym (roll-out-For l)) ∙ para-roll-For Does Chooses Loop (spec.stmt_step here consumers) (spec.arm_step here consumers) (spec.for_step here consumers) (out-For l)

  for_paired : (scope : Scope) (l : For) → spec.for_loop here consumers scope (loop_does l) ≡ for_of here consumers scope l
  for_paired scope l = ap (spec.for_loop here consumers scope) (loop_is l) ∙ (λ i. iterable here scope l.iterable >>= λ goes_over. over here consumers goes_over (Body scope l.names (trees_paired l.body i)) (spec.body_turn here consumers scope l.names (statements here consumers scope l.body)) >>= λ flow. pure (after_loop flow))

  parallel_paired : (scope : Scope) (l : For) → spec.parallel_loop here consumers scope (loop_does l) ≡ parallel_of here consumers scope l
  parallel_paired scope l = ap (spec.parallel_loop here consumers scope) (loop_is l) ∙ (λ i. iterable here scope l.iterable >>= λ goes_over.
      begin_loop here.program scope l.names (spec.goes_over_range here.program scope (out-Expr l.iterable)) (trees_paired l.body i) >>= λ region.
      let inner = body_scope scope l.names (trees_paired l.body i) in
      here.rules.region region (over here consumers goes_over (Parallel region inner l.names (trees_paired l.body i)) (spec.parallel_turn here consumers region inner l.names (statements here consumers inner l.body))) >>= λ flow. pure (after_loop flow))

  pub stmt_Pass : (n : Node) (scope : Scope) (s : State) → stmt here consumers (d.Pass n) scope s ≡ (pure Next) s
  unfolding stmt
  stmt_Pass n scope s = ap (λ t. stmt here consumers t scope s) (sym (d.rolls-Pass n)) ∙ ap (λ (m : Does). m scope s) (para-roll-Stmt Does Chooses Loop (spec.stmt_step here consumers) (spec.arm_step here consumers) (spec.for_step here consumers) (Stmt-F.Pass n))

  pub stmt_Break : (n : Node) (scope : Scope) (s : State) → stmt here consumers (d.Break n) scope s ≡ (pure Break) s
  unfolding stmt
  stmt_Break n scope s = ap (λ t. stmt here consumers t scope s) (sym (d.rolls-Break n)) ∙ ap (λ (m : Does). m scope s) (para-roll-Stmt Does Chooses Loop (spec.stmt_step here consumers) (spec.arm_step here consumers) (spec.for_step here consumers) (Stmt-F.Break n))

  pub stmt_Continue : (n : Node) (scope : Scope) (s : State) → stmt here consumers (d.Continue n) scope s ≡ (pure Continue) s
  unfolding stmt
  stmt_Continue n scope s = ap (λ t. stmt here consumers t scope s) (sym (d.rolls-Continue n)) ∙ ap (λ (m : Does). m scope s) (para-roll-Stmt Does Chooses Loop (spec.stmt_step here consumers) (spec.arm_step here consumers) (spec.for_step here consumers) (Stmt-F.Continue n))

  pub stmt_Return : (n : Node) (e : Option Expr) (scope : Scope) (s : State) → stmt here consumers (d.Return n e) scope s ≡ (spec.returned here scope e) s
  unfolding stmt
  stmt_Return n e scope s = ap (λ t. stmt here consumers t scope s) (sym (d.rolls-Return n e)) ∙ ap (λ (m : Does). m scope s) (para-roll-Stmt Does Chooses Loop (spec.stmt_step here consumers) (spec.arm_step here consumers) (spec.for_step here consumers) (Stmt-F.Return n e))

  pub stmt_Yield : (n : Node) (e : Expr) (scope : Scope) (s : State) → stmt here consumers (d.Yield n e) scope s ≡ (expr here scope e >>= yield here consumers) s
  unfolding stmt
  stmt_Yield n e scope s = ap (λ t. stmt here consumers t scope s) (sym (d.rolls-Yield n e)) ∙ ap (λ (m : Does). m scope s) (para-roll-Stmt Does Chooses Loop (spec.stmt_step here consumers) (spec.arm_step here consumers) (spec.for_step here consumers) (Stmt-F.Yield n e))

  pub stmt_Raise : (n : Node) (name : Name) (text : Option Expr) (scope : Scope) (s : State) → stmt here consumers (d.Raise n name text) scope s ≡ (spec.raise here scope (fault_named name.spelling) text) s
  unfolding stmt
  stmt_Raise n name text scope s = ap (λ t. stmt here consumers t scope s) (sym (d.rolls-Raise n name text)) ∙ ap (λ (m : Does). m scope s) (para-roll-Stmt Does Chooses Loop (spec.stmt_step here consumers) (spec.arm_step here consumers) (spec.for_step here consumers) (Stmt-F.Raise n name text))

  pub stmt_Assert : (n : Node) (e : Expr) (text : Option Expr) (scope : Scope) (s : State) → stmt here consumers (d.Assert n e text) scope s ≡ (condition here scope e >>= λ t. if t then pure Next else spec.raise here scope (Some kind.Assertion) text) s
  unfolding stmt
  stmt_Assert n e text scope s = ap (λ t. stmt here consumers t scope s) (sym (d.rolls-Assert n e text)) ∙ ap (λ (m : Does). m scope s) (para-roll-Stmt Does Chooses Loop (spec.stmt_step here consumers) (spec.arm_step here consumers) (spec.for_step here consumers) (Stmt-F.Assert n e text))

  pub stmt_Annotated : (n : Node) (name : Name) (a : Annotation) (e : Option Expr) (scope : Scope) (s : State) → stmt here consumers (d.Annotated n name a e) scope s ≡ (spec.annotated here scope name e >>= λ _. pure Next) s
  unfolding stmt
  stmt_Annotated n name a e scope s = ap (λ t. stmt here consumers t scope s) (sym (d.rolls-Annotated n name a e)) ∙ ap (λ (m : Does). m scope s) (para-roll-Stmt Does Chooses Loop (spec.stmt_step here consumers) (spec.arm_step here consumers) (spec.for_step here consumers) (Stmt-F.Annotated n name a e))

  pub stmt_Assign : (n : Node) (written : Targets) (e : Expr) (scope : Scope) (s : State) → stmt here consumers (d.Assign n written e) scope s ≡ ((expr here scope e >>= spec.assign_all here scope written) >>= λ _. pure Next) s
  unfolding stmt
  stmt_Assign n written e scope s = ap (λ t. stmt here consumers t scope s) (sym (d.rolls-Assign n written e)) ∙ ap (λ (m : Does). m scope s) (para-roll-Stmt Does Chooses Loop (spec.stmt_step here consumers) (spec.arm_step here consumers) (spec.for_step here consumers) (Stmt-F.Assign n written e))

  pub stmt_Update : (n : Node) (written : Target) (by : BinaryOp) (e : Expr) (scope : Scope) (s : State) → stmt here consumers (d.Update n written by e) scope s ≡ (spec.update here scope written by e >>= λ _. pure Next) s
  unfolding stmt
  stmt_Update n written by e scope s = ap (λ t. stmt here consumers t scope s) (sym (d.rolls-Update n written by e)) ∙ ap (λ (m : Does). m scope s) (para-roll-Stmt Does Chooses Loop (spec.stmt_step here consumers) (spec.arm_step here consumers) (spec.for_step here consumers) (Stmt-F.Update n written by e))

  pub stmt_Evaluate : (n : Node) (e : Expr) (scope : Scope) (s : State) → stmt here consumers (d.Evaluate n e) scope s ≡ (expr here scope e >>= λ _. pure Next) s
  unfolding stmt
  stmt_Evaluate n e scope s = ap (λ t. stmt here consumers t scope s) (sym (d.rolls-Evaluate n e)) ∙ ap (λ (m : Does). m scope s) (para-roll-Stmt Does Chooses Loop (spec.stmt_step here consumers) (spec.arm_step here consumers) (spec.for_step here consumers) (Stmt-F.Evaluate n e))

  pub stmt_Print : (n : Node) (printed : Printed) (scope : Scope) (s : State) → stmt here consumers (d.Print n printed) scope s ≡ (print_after here scope [] printed >>= λ _. pure Next) s
  unfolding stmt
  stmt_Print n printed scope s = ap (λ t. stmt here consumers t scope s) (sym (d.rolls-Print n printed)) ∙ ap (λ (m : Does). m scope s) (para-roll-Stmt Does Chooses Loop (spec.stmt_step here consumers) (spec.arm_step here consumers) (spec.for_step here consumers) (Stmt-F.Print n printed))

  pub stmt_Pipeline : (n : Node) (head : Expr) (stages : List Stage) (scope : Scope) (s : State) → stmt here consumers (d.Pipeline n head stages) scope s ≡ (pipeline here consumers scope head stages) s
  unfolding stmt
  stmt_Pipeline n head stages scope s = ap (λ t. stmt here consumers t scope s) (sym (d.rolls-Pipeline n head stages)) ∙ ap (λ (m : Does). m scope s) (para-roll-Stmt Does Chooses Loop (spec.stmt_step here consumers) (spec.arm_step here consumers) (spec.for_step here consumers) (Stmt-F.Pipeline n head stages))

  pub stmt_If : (n : Node) (arms : List Arm) (otherwise : List Stmt) (scope : Scope) (s : State) → stmt here consumers (d.If n arms otherwise) scope s ≡ (chosen here consumers scope arms otherwise) s
  unfolding stmt
  stmt_If n arms otherwise scope s = ap (λ t. stmt here consumers t scope s) (sym (d.rolls-If n arms otherwise)) ∙ ap (λ (m : Does). m scope s) (para-roll-Stmt Does Chooses Loop (spec.stmt_step here consumers) (spec.arm_step here consumers) (spec.for_step here consumers) (Stmt-F.If n arms otherwise)) ∙ ap (λ (r : Run Flow). r s) (arms_paired scope arms otherwise)

  pub stmt_While : (n : Node) (e : Expr) (body : List Stmt) (scope : Scope) (s : State) → stmt here consumers (d.While n e body) scope s ≡ (while_of here consumers scope e body >>= λ flow. pure (after_loop flow)) s
  unfolding stmt
  stmt_While n e body scope s = ap (λ t. stmt here consumers t scope s) (sym (d.rolls-While n e body)) ∙ ap (λ (m : Does). m scope s) (para-roll-Stmt Does Chooses Loop (spec.stmt_step here consumers) (spec.arm_step here consumers) (spec.for_step here consumers) (Stmt-F.While n e body))

  pub stmt_For : (l : For) (scope : Scope) (s : State) → stmt here consumers (d.For l) scope s ≡ (for_of here consumers scope l) s
  unfolding stmt
  stmt_For l scope s = ap (λ t. stmt here consumers t scope s) (sym (d.rolls-For l)) ∙ ap (λ (m : Does). m scope s) (para-roll-Stmt Does Chooses Loop (spec.stmt_step here consumers) (spec.arm_step here consumers) (spec.for_step here consumers) (Stmt-F.For l)) ∙ ap (λ (r : Run Flow). r s) (for_paired scope l)

  pub stmt_Par : (n : Node) (settings : ParOptions) (l : For) (scope : Scope) (s : State) → stmt here consumers (d.Par n settings l) scope s ≡ (parallel_of here consumers scope l) s
  unfolding stmt
  stmt_Par n settings l scope s = ap (λ t. stmt here consumers t scope s) (sym (d.rolls-Par n settings l)) ∙ ap (λ (m : Does). m scope s) (para-roll-Stmt Does Chooses Loop (spec.stmt_step here consumers) (spec.arm_step here consumers) (spec.for_step here consumers) (Stmt-F.Par n settings l)) ∙ ap (λ (r : Run Flow). r s) (parallel_paired scope l)

pub ruleset stmt_rules = (stmt_Pass, stmt_Break, stmt_Continue, stmt_Return, stmt_Yield, stmt_Raise, stmt_Assert, stmt_Annotated, stmt_Assign, stmt_Update, stmt_Evaluate, stmt_Print, stmt_Pipeline, stmt_If, stmt_While, stmt_For, stmt_Par)
