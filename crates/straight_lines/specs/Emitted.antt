-- What the code of sums and statements is to do: what the meaning of their trees says.
use Rattle.std.specs.Prelude.{◌≡◌, ◌≤◌, ℕ, ℤ, false, List, [], ◌∷◌, ◌++◌, Option, Some, None, slice_get, length}
use Rattle.codon_base.specs.declared.source.Span.{Span}
use Rattle.codon_base.specs.declared.value.Value.{Value}
use Rattle.codon_base.specs.declared.value.Value.TheVariants as value
use Rattle.source_trees.specs.declared.operator.BinaryOp.{BinaryOp}
use Rattle.source_trees.specs.declared.operator.BinaryOp.TheVariants as op
use Rattle.source_trees.specs.declared.expression.Expr.{Expr}
use Rattle.source_trees.specs.declared.node.Node.{Node}
use Rattle.source_trees.specs.declared.statement.Target.{Target}
use Rattle.source_trees.specs.declared.statement.Target.TheVariants as target
use Rattle.source_trees.specs.declared.statement.Targets.{Targets}
use Rattle.source_trees.specs.declared.statement.Targets.TheVariants as targets
use Rattle.source_trees.specs.declared.statement.Stmt.{Stmt}
use Rattle.source_trees.specs.declared.statement.Stmt.TheVariants as statement
use Rattle.source_trees.specs.declared.item.Item.{Item}
use Rattle.source_trees.specs.declared.item.Item.TheVariants as item
use Rattle.meaning_rules.specs.State.{Spelling, State, Next}
use Rattle.meaning_rules.specs.Outcome.{Gives}
use Rattle.meaning_rules.specs.Program.{Scope}
use Rattle.meaning_rules.specs.Task.{Setting}
use Rattle.meaning_rules.specs.Expressions.{expr}
use Rattle.meaning_rules.specs.Statements.{stmt}
use Rattle.code_module.specs.declared.instr.Instr.{Instr}
use Rattle.code_module.specs.declared.instr.Instr.TheVariants as instr
use Rattle.code_module.specs.declared.instr.Constant.TheVariants.{Unit as UnitConst}
use Rattle.code_module.specs.declared.instr.BinaryOp.{BinaryOp as Operation}
use Rattle.code_module.specs.declared.instr.BinaryOp.TheVariants as operation
use Rattle.code_module.specs.Machine as machine
use Rattle.straight_lines.specs.declared.fault.NotCompiled.{NotCompiled}
use Rattle.straight_lines.specs.declared.fault.NotCompiled.TheVariants as fault
use Rattle.straight_lines.specs.declared.emitter.Emitter.{Emitter}
use Rattle.straight_lines.specs.Names.{number_in, is_numbered, AreNumbers}
use Rattle.straight_lines.specs.Built.{unbuilt_in_sum, unbuilt_in_stmt, known_after}

-- a node that is not built is told by its place; memory may be short anywhere
abbrev pub IsUnbuilt : Option Span → NotCompiled → Type 0
IsUnbuilt first (fault.NotBuilt at) = first ≡ Some at
IsUnbuilt first fault.Memory = Unit {0}

-- the separator and the end of what is printed
abbrev pub text_table : List (List ℕ)
text_table = (32 ∷ []) ∷ (10 ∷ []) ∷ []

-- the operation of an operator of sums
abbrev pub operation_of : BinaryOp → Option Operation
operation_of op.Add = Some operation.Add
operation_of op.Subtract = Some operation.Sub
operation_of op.Multiply = Some operation.Mul
operation_of _ = None

-- prints the value on the stack
abbrev pub print_code : List Instr
print_code = instr.Text 0 ∷ instr.Text 1 ∷ instr.Print 1 ∷ []

abbrev pub end_code : List Instr
end_code = instr.Const UnitConst ∷ instr.Return ∷ []

-- the run of this code, with a stack, the machine's globals and what was printed
abbrev pub run_at : List Instr → List Value → List Value → List ℕ → machine.End
run_at code stack globals out = machine.run_from text_table code (record { stack = stack; globals = globals; out = out })

-- where the statements of a module stand: each name is the module's
abbrev pub of_module : List Spelling → Scope
of_module fixed = record { locals = []; fixed = fixed; in_prelude = false }

-- each name that has a number is a variable that holds a number, which the machine's global holds too
abbrev pub Agree : (Spelling → Option ℕ) → State → List Value → Type 0
Agree numbers s globals = (name : Spelling) (k : ℕ) → numbers name ≡ Some k → (z : ℤ) × (s.shared.globals name ≡ value.Int z) × (slice_get globals k ≡ Some (value.Int z))

-- an expression means a number, changes nothing, and its code pushes this number
abbrev pub Pushes : (Spelling → Option ℕ) → Expr → List Instr → Type 0
Pushes numbers e code =
    (here : Setting) (fixed : List Spelling) (s : State) (globals : List Value) → Agree numbers s globals →
    (z : ℤ)
    × (expr here (of_module fixed) e s ≡ Gives (value.Int z) s)
    × ((stack : List Value) (out : List ℕ) (rest : List Instr) → run_at (code ++ rest) stack globals out ≡ run_at rest (value.Int z ∷ stack) globals out)

-- the code of a sum was written
pub record EmitsSum (numbers : Spelling → Option ℕ) (e : Expr) (old new : List Instr) : Type 0 where
  pub built : unbuilt_in_sum (is_numbered numbers) e ≡ None
  pub code : List Instr
  pub written : new ≡ old ++ code
  pub pushes : Pushes numbers e code

-- with so many globals or more, the code of a statement does what the statement means: it prints the same, and the globals hold what the variables hold
abbrev pub Performs : (Spelling → Option ℕ) → (Spelling → Option ℕ) → ℕ → Stmt → List Instr → Type 0
Performs old numbers count st code =
    (here : Setting) (fixed : List Spelling) (s : State) (globals : List Value) → count ≤ length globals → Agree old s globals →
    (t : State) × (after : List Value)
    × (stmt here [] st (of_module fixed) s ≡ Gives Next t)
    × (length after ≡ length globals)
    × Agree numbers t after
    × ((rest : List Instr) → run_at (code ++ rest) [] globals s.shared.out ≡ run_at rest [] after t.shared.out)

-- the code of a statement was written, and the names that it assigns have numbers
pub record EmitsStmt (st : Stmt) (old new : Emitter) : Type 0 where
  pub built : unbuilt_in_stmt (is_numbered (number_in old.names)) st ≡ None
  pub known : (name : Spelling) → is_numbered (number_in new.names) name ≡ known_after (is_numbered (number_in old.names)) (item.Stmt st) name
  pub valid : AreNumbers (number_in new.names) new.names.count
  pub more : old.names.count ≤ new.names.count
  pub code : List Instr
  pub written : new.code.items ≡ old.code.items ++ code
  pub performs : Performs (number_in old.names) (number_in new.names) new.names.count st code

abbrev pub EmitsAssignment : Targets → Expr → Emitter → Emitter → Type 0
EmitsAssignment written e old new = (n : Node) → EmitsStmt (statement.Assign n written e) old new

abbrev pub EmitsItem : Item → Emitter → Emitter → Type 0
EmitsItem (item.Stmt st) old new = EmitsStmt st old new
EmitsItem (item.Function f) old new = ⊥
EmitsItem (item.Class c) old new = ⊥

abbrev pub name_of : Target → Option Spelling
name_of (target.Name n name) = Some name
name_of (target.Index n object index) = None
name_of (target.Field n object name) = None

-- the name that an assignment to one name assigns
abbrev pub assigned_name : Targets → Option Spelling
assigned_name (targets.One only) = name_of only
assigned_name (targets.Several n all) = None
