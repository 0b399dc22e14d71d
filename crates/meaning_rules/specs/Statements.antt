-- What statements do (the Python reference, chapters 7 and 8).
use Rattle.std.specs.Prelude.{ℕ, Bool, true, false, if◌then◌else◌, List, [], ◌∷◌, length, map, Option, Some, None, codes}
use Rattle.codon_base.specs.declared.fault.FaultKind.{FaultKind}
use Rattle.codon_base.specs.declared.fault.FaultKind.TheVariants as kind
use Rattle.codon_base.specs.declared.value.Value.{Value, Value-F, out-Value}
use Rattle.codon_base.specs.declared.value.Value.TheVariants as value
use Rattle.source_trees.specs.declared.expression.Expr.{Expr, Expr-F, out-Expr}
use Rattle.source_trees.specs.declared.expression.Comparison.{Comparison}
use Rattle.source_trees.specs.declared.operator.BinaryOp.{BinaryOp}
use Rattle.source_trees.specs.declared.operator.BinaryOp.TheVariants as op
use Rattle.source_trees.specs.declared.node.Name.{Name}
use Rattle.source_trees.specs.declared.statement.LoopNames.{LoopNames}
use Rattle.source_trees.specs.declared.statement.Target.{Target}
use Rattle.source_trees.specs.declared.statement.Target.TheVariants as target
use Rattle.source_trees.specs.declared.statement.Targets.{Targets}
use Rattle.source_trees.specs.declared.statement.Targets.TheVariants as targets
use Rattle.source_trees.specs.declared.statement.Stmt.{Stmt, Stmt-F}
use Rattle.source_trees.specs.declared.statement.Stmt.TheOpen.{Arm-F, For-F}
use Rattle.source_trees.specs.declared.statement.Stmt.TheFolds.{para-Stmt}
use Rattle.source_trees.specs.declared.statement.Arm.{Arm}
use Rattle.source_trees.specs.declared.statement.For.{For}
use Rattle.meaning_rules.specs.State.{Spelling, same, Flow, Next, Break, Continue, Return}
use Rattle.meaning_rules.specs.Outcome.{Run, ◌>>=◌, pure, fault}
use Rattle.meaning_rules.specs.Objects.{text_in, item_at, put, field, set_field, extend}
use Rattle.meaning_rules.specs.Variables.{read_name, set_name, set_loop_names, unpacked}
use Rattle.meaning_rules.specs.Program.{Program, Scope, Standard, Range, Callee, callee}
use Rattle.meaning_rules.specs.Task.{Region, Consumer, Body, Parallel, Rules, Setting}
use Rattle.meaning_rules.specs.Captures.{begin_loop, body_scope}
use Rattle.meaning_rules.specs.Loops.{loop, while_next, over, yield, after_loop}
use Rattle.meaning_rules.specs.Operations.{binary}
use Rattle.meaning_rules.specs.Expressions.{expr, iterable, condition, not_set}
use Rattle.meaning_rules.specs.Printing.{print_after}
use Rattle.meaning_rules.specs.Pipelines.{pipeline}

-- ---- faults by name

abbrev pub fault_named : Spelling → Option FaultKind
fault_named name =
    if same name (codes "ValueError") then Some kind.Value else
    (if same name (codes "IndexError") then Some kind.Index else
    (if same name (codes "ZeroDivisionError") then Some kind.ZeroDivision else
    (if same name (codes "AssertionError") then Some kind.Assertion else
    (if same name (codes "RuntimeError") then Some kind.Runtime else None))))

-- ---- augmented assignments

-- `+=` on a list extends it in place; every other operator makes a new value
abbrev pub updated_by : Rules → BinaryOp → Value → Value → Value-F Value → Run Value
updated_by rules op.Add old v (Value-F.Ref at) = extend rules at v >>= λ _. pure old
updated_by rules by old v form = binary rules by old v

abbrev pub updated : Rules → BinaryOp → Value → Value → Run Value
updated rules by old v = updated_by rules by old v (out-Value old)

-- ---- loops

abbrev pub is_range : Callee → Bool
is_range (Standard Range) = true
is_range _ = false

-- whether a loop goes over a call of `range`
abbrev pub goes_over_range : Program → Scope → Expr-F Expr Comparison → Bool
goes_over_range program scope (Expr-F.Call n name parts) = is_range (callee program scope name.spelling)
goes_over_range program scope _ = false

-- a statement that is over, and those after it
abbrev pub then_next : Flow → Run Flow → Run Flow
then_next Next more = more
then_next flow more = pure flow

-- what a statement does, by the text in which it stands
abbrev pub Does : Type 0
Does = Scope → Run Flow

-- what an arm of `if` does, or what stands after it where its condition does not hold
abbrev pub Chooses : Type 0
Chooses = Scope → Run Flow → Run Flow

-- a loop with what its statements do
pub record Loop : Type 0 where
  pub names : LoopNames
  pub iterable : Expr
  pub body : List (Stmt × Does)

abbrev pub trees : List (Stmt × Does) → List Stmt
trees = map (λ part. part.0)

module _ (here : Setting) where
  -- ---- targets

  abbrev pub assign : Scope → Target → Value → Run (Unit {0})
  assign scope (target.Name n name) v = set_name scope name v
  assign scope (target.Index n container index) v = expr here scope container >>= λ c. expr here scope index >>= λ i. put here.rules c i v
  assign scope (target.Field n object name) v = expr here scope object >>= λ o. set_field here.program here.rules o name v

  abbrev pub assign_each : Scope → List Target → List Value → Run (Unit {0})
  assign_each scope (t ∷ more) (v ∷ vs) = assign scope t v >>= λ _. assign_each scope more vs
  assign_each scope _ _ = pure tt

  -- targets with commas take the items of a tuple of as many, from left to right
  abbrev pub assign_all : Scope → Targets → Value → Run (Unit {0})
  assign_all scope (targets.One only) v = assign scope only v
  assign_all scope (targets.Several n all) v = unpacked (length all) v >>= assign_each scope all

  -- the parts of the target are evaluated once; it is read, the right side is evaluated, and it is written
  abbrev pub update : Scope → Target → BinaryOp → Expr → Run (Unit {0})
  update scope (target.Name n name) by e =
      read_name here.program scope name >>= λ old. expr here scope e >>= λ v. updated here.rules by old v >>= set_name scope name
  update scope (target.Index n container index) by e =
      expr here scope container >>= λ c. expr here scope index >>= λ i. item_at here.rules c i >>= λ old. expr here scope e >>= λ v. updated here.rules by old v >>= put here.rules c i
  update scope (target.Field n object name) by e =
      expr here scope object >>= λ o. field here.program o name >>= λ old. expr here scope e >>= λ v. updated here.rules by old v >>= set_field here.program here.rules o name

  abbrev pub annotated : Scope → Name → Option Expr → Run (Unit {0})
  annotated scope name None = pure tt
  annotated scope name (Some e) = expr here scope e >>= set_name scope name.spelling

  -- ---- faults

  -- the text of a fault
  abbrev pub message : Scope → Option Expr → Run (List ℕ)
  message scope None = pure []
  message scope (Some e) = expr here scope e >>= λ v. text_in (out-Value v)

  abbrev pub raise : Scope → Option FaultKind → Option Expr → Run Flow
  raise scope None text = not_set here
  raise scope (Some which) text = message scope text >>= λ bytes. fault which bytes

  -- ---- ends

  abbrev pub done : Run (Unit {0}) → Run Flow
  done run = run >>= λ _. pure Next

  abbrev pub returned : Scope → Option Expr → Run Flow
  returned scope None = pure (Return value.Unit)
  returned scope (Some e) = expr here scope e >>= λ v. pure (Return v)

  module _ (consumers : List Consumer) where
    abbrev pub block : Scope → List (Stmt × Does) → Run Flow
    block scope [] = pure Next
    block scope (part ∷ more) = part.1 scope >>= λ flow. then_next flow (block scope more)

    abbrev pub arms_or : Scope → List (Arm × Chooses) → Run Flow → Run Flow
    arms_or scope [] otherwise = otherwise
    arms_or scope (arm ∷ more) otherwise = arm.1 scope (arms_or scope more otherwise)

    -- ---- loops

    -- a turn of a loop: its names take the item, and its body runs
    abbrev pub body_turn : Scope → LoopNames → Run Flow → Value → Run Flow
    body_turn scope names body v = set_loop_names scope names v >>= λ _. body

    -- a turn of a parallel loop: the same in an iteration
    abbrev pub parallel_turn : Region → Scope → LoopNames → Run Flow → Value → Run Flow
    parallel_turn region inner names body v = here.rules.item region v (body_turn inner names body v)

    abbrev pub for_loop : Scope → Loop → Run Flow
    for_loop scope l =
        iterable here scope l.iterable >>= λ goes_over. over here consumers goes_over (Body scope l.names (trees l.body)) (body_turn scope l.names (block scope l.body)) >>= λ flow. pure (after_loop flow)

    -- the operands of what it goes over are evaluated, then the captured names are read, and then the loop begins
    abbrev pub parallel_loop : Scope → Loop → Run Flow
    parallel_loop scope l =
        iterable here scope l.iterable >>= λ goes_over.
        begin_loop here.program scope l.names (goes_over_range here.program scope (out-Expr l.iterable)) (trees l.body) >>= λ region.
        let inner = body_scope scope l.names (trees l.body) in
        here.rules.region region (over here consumers goes_over (Parallel region inner l.names (trees l.body)) (parallel_turn region inner l.names (block inner l.body))) >>= λ flow. pure (after_loop flow)

    -- ---- statements by their forms

    abbrev pub stmt_step : Stmt-F (Stmt × Does) (Arm × Chooses) (For × Loop) → Does
    stmt_step (Stmt-F.Pass n) scope = pure Next
    stmt_step (Stmt-F.Break n) scope = pure Break
    stmt_step (Stmt-F.Continue n) scope = pure Continue
    stmt_step (Stmt-F.Return n e) scope = returned scope e
    stmt_step (Stmt-F.Yield n e) scope = expr here scope e >>= yield here consumers
    stmt_step (Stmt-F.Raise n name text) scope = raise scope (fault_named name.spelling) text
    stmt_step (Stmt-F.Assert n e text) scope =
        condition here scope e >>= λ t. if t then pure Next else raise scope (Some kind.Assertion) text
    stmt_step (Stmt-F.Annotated n name annotation e) scope = done (annotated scope name e)
    stmt_step (Stmt-F.Assign n written e) scope = done (expr here scope e >>= assign_all scope written)
    stmt_step (Stmt-F.Update n written by e) scope = done (update scope written by e)
    stmt_step (Stmt-F.Evaluate n e) scope = expr here scope e >>= λ _. pure Next
    stmt_step (Stmt-F.Print n printed) scope = done (print_after here scope [] printed)
    stmt_step (Stmt-F.Pipeline n head stages) scope = pipeline here consumers scope head stages
    stmt_step (Stmt-F.If n arms otherwise) scope = arms_or scope arms (block scope otherwise)
    stmt_step (Stmt-F.While n e body) scope =
        loop here.limit (while_next here.limit (condition here scope e)) (λ _. block scope body) tt >>= λ flow. pure (after_loop flow)
    stmt_step (Stmt-F.For l) scope = for_loop scope l.1
    stmt_step (Stmt-F.Par n settings l) scope = parallel_loop scope l.1

    abbrev pub arm_step : Arm-F (Stmt × Does) (Arm × Chooses) (For × Loop) → Chooses
    arm_step arm scope otherwise = condition here scope arm.condition >>= λ t. if t then block scope arm.body else otherwise

    abbrev pub for_step : For-F (Stmt × Does) (Arm × Chooses) (For × Loop) → Loop
    for_step l = record { names = l.names; iterable = l.iterable; body = l.body }

    unfoldable pub stmt : Stmt → Does
    stmt = para-Stmt Does Chooses Loop stmt_step arm_step for_step

    -- statements in order, up to one that does not end by going on
    abbrev pub statements : Scope → List Stmt → Run Flow
    statements scope body = block scope (map (λ each. (each, stmt each)) body)
