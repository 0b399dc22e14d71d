-- Statements and tasks under a closed relation.
use Rattle.std.proofs.Common.{◌≡◌, ℕ, true, List, [], ◌∷◌, length, map, Option, Some, None, refl, sym, ap, subst}
use Rattle.codon_base.specs.declared.fault.FaultKind.{FaultKind}
use Rattle.codon_base.specs.declared.fault.FaultKind.TheVariants as kind
use Rattle.codon_base.specs.declared.value.Value.{Value, Value-F, out-Value}
use Rattle.source_trees.specs.declared.expression.Expr.{Expr, out-Expr}
use Rattle.source_trees.specs.declared.operator.BinaryOp.{BinaryOp}
use Rattle.source_trees.specs.declared.operator.BinaryOp.TheVariants as op
use Rattle.source_trees.specs.declared.node.Name.{Name}
use Rattle.source_trees.specs.declared.statement.LoopNames.{LoopNames}
use Rattle.source_trees.specs.declared.statement.Target.{Target}
use Rattle.source_trees.specs.declared.statement.Target.TheVariants as target
use Rattle.source_trees.specs.declared.statement.Targets.{Targets}
use Rattle.source_trees.specs.declared.statement.Targets.TheVariants as targets
use Rattle.source_trees.specs.declared.statement.Stmt.{Stmt, Stmt-F, roll-Stmt, ind-Stmt}
use Rattle.source_trees.specs.declared.statement.Stmt.TheOpen.{Arm-F, For-F}
use Rattle.source_trees.specs.declared.statement.Stmt.TheFolds.{para-Arm, para-For, para-roll-Stmt, para-roll-Arm, para-roll-For, map-Stmt, map-Arm, map-For}
use Rattle.source_trees.specs.declared.statement.Arm.{Arm, roll-Arm}
use Rattle.source_trees.specs.declared.statement.For.{For, roll-For}
use Rattle.meaning_rules.specs.State.{Flow, Next, Break, Continue, Return, Left}
use Rattle.meaning_rules.specs.Outcome.{Run, ◌>>=◌, pure}
use Rattle.meaning_rules.specs.Program.{Program, Scope}
use Rattle.meaning_rules.specs.Task.{Region, Consumer, Body, Parallel, Gathered, Comprehension, Stages, Task, Enter, Turn, Rules, Setting}
use Rattle.meaning_rules.specs.Captures.{begin_loop, body_scope}
use Rattle.meaning_rules.specs.Loops.{over, after_loop}
use Rattle.meaning_rules.specs.Expressions.{iterable}
use Rattle.meaning_rules.specs.Statements as spec
use Rattle.meaning_rules.specs.Statements.{Does, Chooses, Loop}
use Rattle.meaning_rules.specs.Meaning as meanings
use Rattle.meaning_rules.proofs.Closed.{Relation, Closed, chain, gives, pick}
use Rattle.meaning_rules.proofs.ClosedObjects.{text_in_closed, item_at_closed, put_closed, field_closed, set_field_closed, extend_closed, read_name_closed, set_name_closed, unpacked_closed, set_loop_names_closed, binary_closed}
use Rattle.meaning_rules.proofs.ClosedLoops.{here, there, begin_loop_closed, loop_closed, while_next_closed, over_closed, yield_closed}
use Rattle.meaning_rules.proofs.ClosedExpressions.{expr_closed, iterable_closed, condition_closed, append_to_closed, gather_closed}
use Rattle.meaning_rules.proofs.ClosedPipelines.{print_after_closed, pipeline_closed, through_closed}

module _ (program : Program) {R : Relation} {rules : Rules} {limit more : ℕ} {low high : List Consumer → Task → Run Flow} (c : Closed R rules limit more low high) where
  abbrev less : Setting
  less = here program c

  abbrev greater : Setting
  greater = there program c

  up : {n : ℕ} {A : Type 0} {p q : Run A} → R 0 A p q → R n A p q
  up e = c.lifts _ _ _ _ e

  -- ---- assignments and faults

  updated_by_closed : {n : ℕ} (by : BinaryOp) (old v : Value) (f : Value-F Value) → R n Value (spec.updated_by rules by old v f) (spec.updated_by rules by old v f)
  updated_by_closed op.Add old v (Value-F.Ref at) = chain c (extend_closed c at v) (λ _. gives c old)
  updated_by_closed op.Add old v _ = binary_closed c op.Add old v
  updated_by_closed by old v f = binary_closed c by old v

  updated_closed : {n : ℕ} (by : BinaryOp) (old v : Value) → R n Value (spec.updated rules by old v) (spec.updated rules by old v)
  updated_closed by old v = updated_by_closed by old v (out-Value old)

  assign_closed : {n : ℕ} (scope : Scope) (t : Target) (v : Value) → R n (Unit {0}) (spec.assign less scope t v) (spec.assign greater scope t v)
  assign_closed scope (target.Name n name) v = set_name_closed c scope name v
  assign_closed scope (target.Index n container index) v = chain c (up (expr_closed program c scope container)) (λ w. chain c (up (expr_closed program c scope index)) (λ i. put_closed c w i v))
  assign_closed scope (target.Field n object name) v = chain c (up (expr_closed program c scope object)) (λ o. set_field_closed c program o name v)

  assign_each_closed : {n : ℕ} (scope : Scope) (ts : List Target) (vs : List Value) → R n (Unit {0}) (spec.assign_each less scope ts vs) (spec.assign_each greater scope ts vs)
  assign_each_closed scope (t ∷ ts) (v ∷ vs) = chain c (assign_closed scope t v) (λ _. assign_each_closed scope ts vs)
  assign_each_closed scope [] vs = gives c _
  assign_each_closed scope (t ∷ ts) [] = gives c _

  assign_all_closed : {n : ℕ} (scope : Scope) (ts : Targets) (v : Value) → R n (Unit {0}) (spec.assign_all less scope ts v) (spec.assign_all greater scope ts v)
  assign_all_closed scope (targets.One only) v = assign_closed scope only v
  assign_all_closed scope (targets.Several n all) v = chain c (unpacked_closed c _ v) (λ vs. assign_each_closed scope all vs)

  update_closed : {n : ℕ} (scope : Scope) (t : Target) (by : BinaryOp) (e : Expr) → R n (Unit {0}) (spec.update less scope t by e) (spec.update greater scope t by e)
  update_closed scope (target.Name n name) by e =
      chain c (read_name_closed c program scope name) (λ old. chain c (up (expr_closed program c scope e)) (λ v. chain c (updated_closed by old v) (λ w. set_name_closed c scope name w)))
  update_closed scope (target.Index n container index) by e =
      chain c (up (expr_closed program c scope container)) (λ w. chain c (up (expr_closed program c scope index)) (λ i. chain c (item_at_closed c w i) (λ old. chain c (up (expr_closed program c scope e)) (λ v. chain c (updated_closed by old v) (λ u. put_closed c w i u)))))
  update_closed scope (target.Field n object name) by e =
      chain c (up (expr_closed program c scope object)) (λ o. chain c (field_closed c program o name) (λ old. chain c (up (expr_closed program c scope e)) (λ v. chain c (updated_closed by old v) (λ w. set_field_closed c program o name w))))

  annotated_closed : {n : ℕ} (scope : Scope) (name : Name) (o : Option Expr) → R n (Unit {0}) (spec.annotated less scope name o) (spec.annotated greater scope name o)
  annotated_closed scope name None = gives c _
  annotated_closed scope name (Some e) = chain c (up (expr_closed program c scope e)) (λ v. set_name_closed c scope _ v)

  message_closed : {n : ℕ} (scope : Scope) (o : Option Expr) → R n (List ℕ) (spec.message less scope o) (spec.message greater scope o)
  message_closed scope None = gives c _
  message_closed scope (Some e) = chain c (up (expr_closed program c scope e)) (λ v. text_in_closed c _)

  raise_closed : {n : ℕ} (scope : Scope) (which : Option FaultKind) (o : Option Expr) → R n Flow (spec.raise less scope which o) (spec.raise greater scope which o)
  raise_closed scope None o = c.stops _ _ _
  raise_closed scope (Some which) o = chain c (message_closed scope o) (λ text. c.stops _ _ _)

  done_closed : {n : ℕ} {p q : Run (Unit {0})} → R n (Unit {0}) p q → R n Flow (spec.done less p) (spec.done greater q)
  done_closed e = chain c e (λ _. gives c _)

  returned_closed : {n : ℕ} (scope : Scope) (o : Option Expr) → R n Flow (spec.returned less scope o) (spec.returned greater scope o)
  returned_closed scope None = gives c _
  returned_closed scope (Some e) = chain c (up (expr_closed program c scope e)) (λ v. gives c _)

  then_next_closed : {n : ℕ} (flow : Flow) {p q : Run Flow} → R n Flow p q → R n Flow (spec.then_next flow p) (spec.then_next flow q)
  then_next_closed Next e = e
  then_next_closed Break e = gives c _
  then_next_closed Continue e = gives c _
  then_next_closed (Return v) e = gives c _
  then_next_closed (Left flow) e = gives c _

  module _ (consumers : List Consumer) where
    -- ---- parts

    abbrev P : Stmt → Type 0
    P s = (scope : Scope) → R (length consumers) Flow (spec.stmt less consumers s scope) (spec.stmt greater consumers s scope)

    abbrev Part : Type 0
    Part = (s : Stmt) × P s

    abbrev tree : Part → Stmt
    tree p = p.0

    abbrev under : Setting → Stmt → Stmt × Does
    under setting s = (s, spec.stmt setting consumers s)

    abbrev parts_under : Setting → List Part → List (Stmt × Does)
    parts_under setting parts = map (under setting) (map tree parts)

    trees_are : (setting : Setting) (parts : List Part) → spec.trees (parts_under setting parts) ≡ map tree parts
    trees_are setting [] = refl
    trees_are setting (p ∷ parts) = ap (λ l. p.0 ∷ l) (trees_are setting parts)

    block_closed : (scope : Scope) (parts : List Part) → R (length consumers) Flow (spec.block less consumers scope (parts_under less parts)) (spec.block greater consumers scope (parts_under greater parts))
    block_closed scope [] = gives c _
    block_closed scope (p ∷ parts) = chain c (p.1 scope) (λ flow. then_next_closed flow (block_closed scope parts))

    -- ---- arms

    abbrev chooses : Setting → Arm → Chooses
    chooses setting = para-Arm Does Chooses Loop (spec.stmt_step setting consumers) (spec.arm_step setting consumers) (spec.for_step setting consumers)

    abbrev Q : Arm → Type 0
    Q arm = (scope : Scope) (p q : Run Flow) → R (length consumers) Flow p q → R (length consumers) Flow (chooses less arm scope p) (chooses greater arm scope q)

    abbrev ArmPart : Type 0
    ArmPart = (arm : Arm) × Q arm

    abbrev arm_tree : ArmPart → Arm
    arm_tree p = p.0

    abbrev arm_under : Setting → Arm → Arm × Chooses
    arm_under setting arm = (arm, chooses setting arm)

    arms_or_closed : (scope : Scope) (arms : List ArmPart) (p q : Run Flow) → R (length consumers) Flow p q → R (length consumers) Flow (spec.arms_or less consumers scope (map (arm_under less) (map arm_tree arms)) p) (spec.arms_or greater consumers scope (map (arm_under greater) (map arm_tree arms)) q)
    arms_or_closed scope [] p q e = e
    arms_or_closed scope (arm ∷ arms) p q e = arm.1 scope _ _ (arms_or_closed scope arms p q e)

    -- ---- loops

    abbrev loops : Setting → For → Loop
    loops setting = para-For Does Chooses Loop (spec.stmt_step setting consumers) (spec.arm_step setting consumers) (spec.for_step setting consumers)

    abbrev loop_under : Setting → LoopNames → Expr → List Part → Loop
    loop_under setting names goes_over parts = record { names = names; iterable = goes_over; body = parts_under setting parts }

    -- a loop whose statements are such in both runs
    record Alike (l m : Loop) : Type 0 where
      pub names : LoopNames
      pub iterable : Expr
      pub parts : List Part
      pub left : l ≡ loop_under less names iterable parts
      pub right : m ≡ loop_under greater names iterable parts

    abbrev S : For → Type 0
    S l = Alike (loops less l) (loops greater l)

    abbrev LoopPart : Type 0
    LoopPart = (l : For) × S l

    abbrev loop_tree : LoopPart → For
    loop_tree p = p.0

    abbrev loop_pair : Setting → For → For × Loop
    loop_pair setting l = (l, loops setting l)

    body_turn_closed : {n : ℕ} (scope : Scope) (names : LoopNames) (p q : Run Flow) → R n Flow p q → (v : Value) → R n Flow (spec.body_turn less consumers scope names p v) (spec.body_turn greater consumers scope names q v)
    body_turn_closed scope names p q e v = chain c (set_loop_names_closed c scope names v) (λ _. e)

    parallel_turn_closed : {n : ℕ} (region : Region) (scope : Scope) (names : LoopNames) (p q : Run Flow) → R n Flow p q → (v : Value) → R n Flow (spec.parallel_turn less consumers region scope names p v) (spec.parallel_turn greater consumers region scope names q v)
    parallel_turn_closed region scope names p q e v = c.items _ region v _ _ (body_turn_closed scope names p q e v)

    -- a loop with the trees of its statements beside what they do
    abbrev for_with : Setting → Scope → LoopNames → Expr → List Stmt → Run Flow → Run Flow
    for_with setting scope names goes body_trees body =
        iterable setting scope goes >>= λ goes_over. over setting consumers goes_over (Body scope names body_trees) (spec.body_turn setting consumers scope names body) >>= λ flow. pure (after_loop flow)

    for_with_closed : (scope : Scope) (names : LoopNames) (goes : Expr) (body_trees : List Stmt) (p q : Run Flow) → R (length consumers) Flow p q → R (length consumers) Flow (for_with less scope names goes body_trees p) (for_with greater scope names goes body_trees q)
    for_with_closed scope names goes body_trees p q e =
        chain c (up (iterable_closed program c scope goes)) (λ goes_over. chain c (over_closed program c consumers goes_over _ _ _ (body_turn_closed scope names p q e)) (λ flow. gives c _))

    abbrev parallel_with : Setting → Scope → LoopNames → Expr → List Stmt → (Scope → Run Flow) → Run Flow
    parallel_with setting scope names goes body_trees body =
        iterable setting scope goes >>= λ goes_over.
        begin_loop program scope names (spec.goes_over_range program scope (out-Expr goes)) body_trees >>= λ region.
        let inner = body_scope scope names body_trees in
        setting.rules.region region (over setting consumers goes_over (Parallel region inner names body_trees) (spec.parallel_turn setting consumers region inner names (body inner))) >>= λ flow. pure (after_loop flow)

    parallel_with_closed : (scope : Scope) (names : LoopNames) (goes : Expr) (body_trees : List Stmt) (p q : Scope → Run Flow) → ((inner : Scope) → R (length consumers) Flow (p inner) (q inner)) → R (length consumers) Flow (parallel_with less scope names goes body_trees p) (parallel_with greater scope names goes body_trees q)
    parallel_with_closed scope names goes body_trees p q e =
        chain c (up (iterable_closed program c scope goes)) (λ goes_over. chain c (begin_loop_closed program c scope names _ body_trees) (λ region.
        chain c (c.regions _ region _ _ (over_closed program c consumers goes_over (Parallel region (body_scope scope names body_trees) names body_trees) _ _ (parallel_turn_closed region (body_scope scope names body_trees) names _ _ (e (body_scope scope names body_trees))))) (λ flow. gives c _)))

    for_parts_closed : (scope : Scope) (names : LoopNames) (goes : Expr) (parts : List Part) → R (length consumers) Flow (spec.for_loop less consumers scope (loop_under less names goes parts)) (spec.for_loop greater consumers scope (loop_under greater names goes parts))
    for_parts_closed scope names goes parts =
        let p = spec.block less consumers scope (parts_under less parts) in let q = spec.block greater consumers scope (parts_under greater parts) in
        subst (λ ts. R (length consumers) Flow (for_with less scope names goes ts p) (for_with greater scope names goes (spec.trees (parts_under greater parts)) q)) (sym (trees_are less parts))
        (subst (λ ts. R (length consumers) Flow (for_with less scope names goes (map tree parts) p) (for_with greater scope names goes ts q)) (sym (trees_are greater parts))
        (for_with_closed scope names goes (map tree parts) p q (block_closed scope parts)))

    for_loop_closed : (scope : Scope) (l m : Loop) → Alike l m → R (length consumers) Flow (spec.for_loop less consumers scope l) (spec.for_loop greater consumers scope m)
    for_loop_closed scope l m a =
        subst (λ x. R (length consumers) Flow (spec.for_loop less consumers scope x) (spec.for_loop greater consumers scope m)) (sym a.left)
        (subst (λ x. R (length consumers) Flow (spec.for_loop less consumers scope (loop_under less a.names a.iterable a.parts)) (spec.for_loop greater consumers scope x)) (sym a.right)
        (for_parts_closed scope a.names a.iterable a.parts))

    parallel_parts_closed : (scope : Scope) (names : LoopNames) (goes : Expr) (parts : List Part) → R (length consumers) Flow (spec.parallel_loop less consumers scope (loop_under less names goes parts)) (spec.parallel_loop greater consumers scope (loop_under greater names goes parts))
    parallel_parts_closed scope names goes parts =
        let p : Scope → Run Flow = λ inner. spec.block less consumers inner (parts_under less parts) in let q : Scope → Run Flow = λ inner. spec.block greater consumers inner (parts_under greater parts) in
        subst (λ ts. R (length consumers) Flow (parallel_with less scope names goes ts p) (parallel_with greater scope names goes (spec.trees (parts_under greater parts)) q)) (sym (trees_are less parts))
        (subst (λ ts. R (length consumers) Flow (parallel_with less scope names goes (map tree parts) p) (parallel_with greater scope names goes ts q)) (sym (trees_are greater parts))
        (parallel_with_closed scope names goes (map tree parts) p q (λ inner. block_closed inner parts)))

    parallel_loop_closed : (scope : Scope) (l m : Loop) → Alike l m → R (length consumers) Flow (spec.parallel_loop less consumers scope l) (spec.parallel_loop greater consumers scope m)
    parallel_loop_closed scope l m a =
        subst (λ x. R (length consumers) Flow (spec.parallel_loop less consumers scope x) (spec.parallel_loop greater consumers scope m)) (sym a.left)
        (subst (λ x. R (length consumers) Flow (spec.parallel_loop less consumers scope (loop_under less a.names a.iterable a.parts)) (spec.parallel_loop greater consumers scope x)) (sym a.right)
        (parallel_parts_closed scope a.names a.iterable a.parts))

    -- ---- forms

    abbrev form_under : Setting → Stmt-F Part ArmPart LoopPart → Stmt-F (Stmt × Does) (Arm × Chooses) (For × Loop)
    form_under setting y = map-Stmt Stmt Arm For (Stmt × Does) (Arm × Chooses) (For × Loop) (under setting) (arm_under setting) (loop_pair setting) (map-Stmt Part ArmPart LoopPart Stmt Arm For tree arm_tree loop_tree y)

    stmt_step_closed : (y : Stmt-F Part ArmPart LoopPart) (scope : Scope) → R (length consumers) Flow (spec.stmt_step less consumers (form_under less y) scope) (spec.stmt_step greater consumers (form_under greater y) scope)
    stmt_step_closed (Stmt-F.Pass n) scope = gives c _
    stmt_step_closed (Stmt-F.Break n) scope = gives c _
    stmt_step_closed (Stmt-F.Continue n) scope = gives c _
    stmt_step_closed (Stmt-F.Return n e) scope = returned_closed scope e
    stmt_step_closed (Stmt-F.Yield n e) scope = chain c (up (expr_closed program c scope e)) (λ v. yield_closed program c consumers v)
    stmt_step_closed (Stmt-F.Raise n name text) scope = raise_closed scope (spec.fault_named name.spelling) text
    stmt_step_closed (Stmt-F.Assert n e text) scope = chain c (up (condition_closed program c scope e)) (λ t. pick c t (gives c Next) (raise_closed scope (Some kind.Assertion) text))
    stmt_step_closed (Stmt-F.Annotated n name annotation e) scope = done_closed (annotated_closed scope name e)
    stmt_step_closed (Stmt-F.Assign n written e) scope = done_closed (chain c (up (expr_closed program c scope e)) (λ v. assign_all_closed scope written v))
    stmt_step_closed (Stmt-F.Update n written by e) scope = done_closed (update_closed scope written by e)
    stmt_step_closed (Stmt-F.Evaluate n e) scope = chain c (up (expr_closed program c scope e)) (λ v. gives c _)
    stmt_step_closed (Stmt-F.Print n printed) scope = done_closed (print_after_closed program c scope [] printed)
    stmt_step_closed (Stmt-F.Pipeline n head stages) scope = pipeline_closed program c consumers scope head stages
    stmt_step_closed (Stmt-F.If n arms otherwise) scope = arms_or_closed scope arms _ _ (block_closed scope otherwise)
    stmt_step_closed (Stmt-F.While n e body) scope = chain c (loop_closed program c _ _ _ _ (while_next_closed program c (up (condition_closed program c scope e))) (λ v. block_closed scope body) tt) (λ flow. gives c _)
    stmt_step_closed (Stmt-F.For l) scope = for_loop_closed scope _ _ l.1
    stmt_step_closed (Stmt-F.Par n settings l) scope = parallel_loop_closed scope _ _ l.1

    -- ---- every statement

    stmt_form : (setting : Setting) (d : Stmt-F Stmt Arm For) → spec.stmt setting consumers (roll-Stmt d) ≡ spec.stmt_step setting consumers (map-Stmt Stmt Arm For (Stmt × Does) (Arm × Chooses) (For × Loop) (under setting) (arm_under setting) (loop_pair setting) d)
    unfolding spec.stmt
    stmt_form setting d = para-roll-Stmt Does Chooses Loop (spec.stmt_step setting consumers) (spec.arm_step setting consumers) (spec.for_step setting consumers) d

    arm_form : (setting : Setting) (d : Arm-F Stmt Arm For) → chooses setting (roll-Arm d) ≡ spec.arm_step setting consumers (map-Arm Stmt Arm For (Stmt × Does) (Arm × Chooses) (For × Loop) (under setting) (arm_under setting) (loop_pair setting) d)
    unfolding spec.stmt
    arm_form setting d = para-roll-Arm Does Chooses Loop (spec.stmt_step setting consumers) (spec.arm_step setting consumers) (spec.for_step setting consumers) d

    loop_form : (setting : Setting) (d : For-F Stmt Arm For) → loops setting (roll-For d) ≡ spec.for_step setting consumers (map-For Stmt Arm For (Stmt × Does) (Arm × Chooses) (For × Loop) (under setting) (arm_under setting) (loop_pair setting) d)
    unfolding spec.stmt
    loop_form setting d = para-roll-For Does Chooses Loop (spec.stmt_step setting consumers) (spec.arm_step setting consumers) (spec.for_step setting consumers) d

    alike : (p q p' q' : Does) → p ≡ p' → q ≡ q' → ((scope : Scope) → R (length consumers) Flow (p' scope) (q' scope)) → (scope : Scope) → R (length consumers) Flow (p scope) (q scope)
    alike p q p' q' a b e = subst (λ r. (scope : Scope) → R (length consumers) Flow (r scope) (q scope)) (sym a) (subst (λ r. (scope : Scope) → R (length consumers) Flow (p' scope) (r scope)) (sym b) e)

    abbrev AlikeArms : Chooses → Chooses → Type 0
    AlikeArms k l = (scope : Scope) (p q : Run Flow) → R (length consumers) Flow p q → R (length consumers) Flow (k scope p) (l scope q)

    alike_arms : (k l k' l' : Chooses) → k ≡ k' → l ≡ l' → AlikeArms k' l' → AlikeArms k l
    alike_arms k l k' l' a b e = subst (λ r. AlikeArms r l) (sym a) (subst (λ r. AlikeArms k' r) (sym b) e)

    stmt_form_closed : (y : Stmt-F Part ArmPart LoopPart) → P (roll-Stmt (map-Stmt Part ArmPart LoopPart Stmt Arm For tree arm_tree loop_tree y))
    stmt_form_closed y = alike _ _ _ _ (stmt_form less _) (stmt_form greater _) (stmt_step_closed y)

    arm_form_closed : (y : Arm-F Part ArmPart LoopPart) → Q (roll-Arm (map-Arm Part ArmPart LoopPart Stmt Arm For tree arm_tree loop_tree y))
    arm_form_closed y = alike_arms _ _ _ _ (arm_form less _) (arm_form greater _) (λ scope p q e. chain c (up (condition_closed program c scope y.condition)) (λ t. pick c t (block_closed scope y.body) e))

    loop_form_closed : (y : For-F Part ArmPart LoopPart) → S (roll-For (map-For Part ArmPart LoopPart Stmt Arm For tree arm_tree loop_tree y))
    loop_form_closed y = record { names = y.names; iterable = y.iterable; parts = y.body; left = loop_form less _; right = loop_form greater _ }

    stmt_closed : (s : Stmt) → P s
    stmt_closed = ind-Stmt P Q S
        (λ x y eq. subst (λ d. P (roll-Stmt d)) eq (stmt_form_closed y))
        (λ x y eq. subst (λ d. Q (roll-Arm d)) eq (arm_form_closed y))
        (λ x y eq. subst (λ d. S (roll-For d)) eq (loop_form_closed y))

    pub statements_closed : (scope : Scope) (body : List Stmt) → R (length consumers) Flow (spec.statements less consumers scope body) (spec.statements greater consumers scope body)
    statements_closed scope [] = gives c _
    statements_closed scope (s ∷ body) = chain c (stmt_closed s scope) (λ flow. then_next_closed flow (statements_closed scope body))

    -- ---- tasks

    turn_of_closed : (consumer : Consumer) (v : Value) → R (length consumers) Flow (meanings.turn_of less consumers consumer v) (meanings.turn_of greater consumers consumer v)
    turn_of_closed (Body scope names body) v = body_turn_closed scope names _ _ (statements_closed scope body) v
    turn_of_closed (Parallel region inner names body) v = parallel_turn_closed region inner names _ _ (statements_closed inner body) v
    turn_of_closed (Gathered list) v = append_to_closed program c list v
    turn_of_closed (Comprehension inner names None item list) v = gather_closed program c inner names _ _ _ _ list v (gives c true) (up (expr_closed program c inner item))
    turn_of_closed (Comprehension inner names (Some kept) item list) v = gather_closed program c inner names _ _ _ _ list v (up (condition_closed program c inner kept)) (up (expr_closed program c inner item))
    turn_of_closed (Stages scope region stages) v = through_closed program c consumers scope region stages v

    pub task_closed : (t : Task) → R (length consumers) Flow (meanings.task less consumers t) (meanings.task greater consumers t)
    task_closed (Enter scope body) = statements_closed scope body
    task_closed (Turn consumer v) = turn_of_closed consumer v
