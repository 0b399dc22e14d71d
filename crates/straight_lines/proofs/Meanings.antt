-- What the expressions and statements of sources in straight lines mean, one equation a form, and what the steps of the meaning give on numbers.
use Rattle.std.proofs.Common.{◌≡◌, ℕ, suc, ℤ, true, false, List, [], ◌∷◌, ◌++◌, Some, refl, sym, ap, ◌∙◌, codes}
use Rattle.std.specs.Fmt.{signed_decimal}
use Rattle.codon_base.specs.declared.value.Value.{Value, out-Value}
use Rattle.codon_base.specs.declared.value.Value.TheVariants as value
use Rattle.codon_base.specs.Walks.{going, Seen}
use Rattle.codon_base.specs.declared.value.Ref.{Ref}
use Rattle.codon_base.specs.Printed.{text_of}
use Rattle.codon_base.specs.Operators.{whole, after_walk, made}
use Rattle.source_trees.specs.declared.node.Node.{Node}
use Rattle.source_trees.specs.declared.operator.BinaryOp.{BinaryOp}
use Rattle.source_trees.specs.declared.operator.BinaryOp.TheVariants as op
use Rattle.source_trees.specs.declared.pipeline.Printed.{Printed}
use Rattle.source_trees.specs.declared.pipeline.PrintOptions.TheVariants as options
use Rattle.source_trees.specs.declared.statement.Targets.{Targets}
use Rattle.source_trees.specs.declared.statement.Targets.TheVariants as targets
use Rattle.source_trees.specs.declared.statement.Target.TheVariants as target
use Rattle.source_trees.specs.declared.expression.Expr.{Expr, Expr-F}
use Rattle.source_trees.specs.declared.expression.Expr.TheFolds.{para-roll-Expr}
use Rattle.source_trees.specs.declared.expression.Expr.TheVariants as e
use Rattle.source_trees.specs.declared.statement.Stmt.{Stmt-F}
use Rattle.source_trees.specs.declared.statement.Stmt.TheFolds.{para-roll-Stmt, fold-roll-Stmt}
use Rattle.source_trees.specs.declared.statement.Stmt.TheVariants as d
use Rattle.meaning_rules.specs.State.{Spelling, State, Next, assigned_to}
use Rattle.meaning_rules.specs.Outcome.{Run, Gives, and_then, bind, pure, look, write, change_globals}
use Rattle.source_trees.specs.Names.{targets_names}
use Rattle.meaning_rules.specs.Bodies.{assigned_by, assigned_step, assigned_in_arm, assigned_in_loop}
use Rattle.meaning_rules.specs.Objects.{if_set, text_in, settled, sight}
use Rattle.meaning_rules.specs.Variables.{read_name}
use Rattle.meaning_rules.specs.Program.{Program, Scope}
use Rattle.meaning_rules.specs.Task.{Consumer, Setting, Rules}
use Rattle.meaning_rules.specs.Operations.{binary}
use Rattle.meaning_rules.specs.Printing as printing
use Rattle.meaning_rules.specs.Expressions as expressions
use Rattle.meaning_rules.specs.Expressions.{Means, Compares, meant, expr, exprs}
use Rattle.meaning_rules.specs.Statements as statements
use Rattle.meaning_rules.specs.Statements.{Does, Chooses, Loop, stmt}
use Rattle.code_module.specs.declared.instr.BinaryOp.{BinaryOp as Operation}
use Rattle.code_module.specs.declared.instr.BinaryOp.TheVariants as operation
use Rattle.code_module.specs.Machine.{result_of}
use Rattle.straight_lines.specs.Built.{is_of_sums}
use Rattle.straight_lines.specs.Emitted.{operation_of, of_module, assigned_name}

-- one step that gives a value, and the next
pub bind_gives : {A B : Type 0} (first : Run A) (next : A → Run B) (s t : State) (a : A) → first s ≡ Gives a t → bind first next s ≡ next a t
unfolding bind
bind_gives first next s t a h = ap (λ o. and_then o next) h

-- ---- forms

module _ (here : Setting) where
  pub expr_Name : (n : Node) (name : Spelling) (scope : Scope) (s : State) → expr here scope (e.Name n name) s ≡ read_name here.program scope name s
  unfolding meant
  expr_Name n name scope s = ap (λ d. expr here scope d s) (sym (e.rolls-Name n name)) ∙ ap (λ (m : Means). (m scope).value s) (para-roll-Expr Means Compares (expressions.expr_step here) (expressions.comparison_step here) (Expr-F.Name n name))

  pub expr_Number : (n : Node) (z : ℤ) (scope : Scope) (s : State) → expr here scope (e.Number n z) s ≡ pure (value.Int z) s
  unfolding meant
  expr_Number n z scope s = ap (λ d. expr here scope d s) (sym (e.rolls-Number n z)) ∙ ap (λ (m : Means). (m scope).value s) (para-roll-Expr Means Compares (expressions.expr_step here) (expressions.comparison_step here) (Expr-F.Number n z))

  pub expr_Bracketed : (n : Node) (a : Expr) (scope : Scope) (s : State) → expr here scope (e.Bracketed n a) s ≡ expr here scope a s
  unfolding meant
  expr_Bracketed n a scope s = ap (λ d. expr here scope d s) (sym (e.rolls-Bracketed n a)) ∙ ap (λ (m : Means). (m scope).value s) (para-roll-Expr Means Compares (expressions.expr_step here) (expressions.comparison_step here) (Expr-F.Bracketed n a))

  pub expr_Binary : (n : Node) (by : BinaryOp) (a b : Expr) (scope : Scope) (s : State) → expr here scope (e.Binary n by a b) s ≡ bind (expr here scope a) (λ v. bind (expr here scope b) (λ w. binary here.rules by v w)) s
  unfolding meant
  expr_Binary n by a b scope s = ap (λ d. expr here scope d s) (sym (e.rolls-Binary n by a b)) ∙ ap (λ (m : Means). (m scope).value s) (para-roll-Expr Means Compares (expressions.expr_step here) (expressions.comparison_step here) (Expr-F.Binary n by a b))

  module _ (consumers : List Consumer) where
    pub stmt_Assign : (n : Node) (written : Targets) (e : Expr) (scope : Scope) (s : State) → stmt here consumers (d.Assign n written e) scope s ≡ bind (bind (expr here scope e) (statements.assign_all here scope written)) (λ _. pure Next) s
    unfolding stmt
    stmt_Assign n written e scope s = ap (λ t. stmt here consumers t scope s) (sym (d.rolls-Assign n written e)) ∙ ap (λ (m : Does). m scope s) (para-roll-Stmt Does Chooses Loop (statements.stmt_step here consumers) (statements.arm_step here consumers) (statements.for_step here consumers) (Stmt-F.Assign n written e))

    pub stmt_Print : (n : Node) (printed : Printed) (scope : Scope) (s : State) → stmt here consumers (d.Print n printed) scope s ≡ bind (printing.print_after here scope [] printed) (λ _. pure Next) s
    unfolding stmt
    stmt_Print n printed scope s = ap (λ t. stmt here consumers t scope s) (sym (d.rolls-Print n printed)) ∙ ap (λ (m : Does). m scope s) (para-roll-Stmt Does Chooses Loop (statements.stmt_step here consumers) (statements.arm_step here consumers) (statements.for_step here consumers) (Stmt-F.Print n printed))

-- ---- names

pub read_held : (program : Program) (fixed : List Spelling) (name : Spelling) (z : ℤ) (s : State) → s.shared.globals name ≡ value.Int z → read_name program (of_module fixed) name s ≡ Gives (value.Int z) s
unfolding bind pure look out-Value denote.Hole.Carrier.out
read_held program fixed name z s h = ap (λ v. if_set (codes "name is not set") v s) h

-- ---- operators

pub operator_gives : (by : BinaryOp) (operation : Operation) → operation_of by ≡ Some operation → (rules : Rules) (a b : ℤ) (s : State) → binary rules by (value.Int a) (value.Int b) s ≡ Gives (value.Int (result_of operation a b)) s
unfolding bind pure look out-Value denote.Hole.Carrier.out
operator_gives op.Add operation.Add h rules a b s = refl
operator_gives op.Subtract operation.Sub h rules a b s = refl
operator_gives op.Multiply operation.Mul h rules a b s = refl
operator_gives _ _ h rules a b s = cc

pub operator_is_built : (by : BinaryOp) (operation : Operation) → operation_of by ≡ Some operation → is_of_sums by ≡ true
operator_is_built op.Add operation h = refl
operator_is_built op.Subtract operation h = refl
operator_is_built op.Multiply operation h = refl
operator_is_built _ operation h = cc

-- ---- printing

int_walked : (look_at : Ref → Seen) (room : ℕ) (z : ℤ) → text_of look_at (suc room) false (value.Int z) 0 ≡ going (signed_decimal z) 1
unfolding text_of out-Value denote.Hole.Carrier.out
int_walked look_at room z = refl

text_given : (rules : Rules) (z : ℤ) (s : State) → printing.text_of_value rules (value.Int z) s ≡ Gives (signed_decimal z) s
unfolding bind pure look out-Value denote.Hole.Carrier.out
text_given rules z s = ap (λ w. and_then (settled (after_walk w (λ text. made (value.Text text))) s) (λ text. text_in (out-Value text))) (int_walked (whole (sight rules s)) 999 z)

-- a print of one number
pub number_printed : (rules : Rules) (z : ℤ) (s : State) → printing.print rules (value.Int z ∷ []) (record { between = printing.space; last = printing.line_end }) s ≡ write (signed_decimal z ++ 10 ∷ []) s
unfolding bind pure out-Value denote.Hole.Carrier.out
number_printed rules z s = ap (λ o. and_then (and_then o (λ text. bind (printing.texts_of rules []) (λ more. pure (text ∷ more)))) (λ texts. write (printing.separated (codes " ") texts ++ 10 ∷ []))) (text_given rules z s)

-- a print whose one value is a number
pub print_given : (here : Setting) (fixed : List Spelling) (e : Expr) (printed : Printed) (z : ℤ) (s : State) → printed.values ≡ e ∷ [] → printed.options ≡ options.Neither → expr here (of_module fixed) e s ≡ Gives (value.Int z) s → printing.print_after here (of_module fixed) [] printed s ≡ write (signed_decimal z ++ 10 ∷ []) s
unfolding bind pure
print_given here fixed e printed z s one plain h =
    (λ i. bind (exprs here (of_module fixed) (one i)) (λ vs. bind (printing.ends here (of_module fixed) (plain i)) (printing.print here.rules vs)) s)
    ∙ ap (λ o. and_then (and_then o (λ v. bind (exprs here (of_module fixed) []) (λ vs. pure (v ∷ vs)))) (λ vs. bind (printing.ends here (of_module fixed) options.Neither) (printing.print here.rules vs))) h
    ∙ number_printed here.rules z s

-- ---- assignments

same_name : (m n : Spelling) → Some m ≡ Some n → m ≡ n
same_name m n e = cc

abbrev pub with_variable : Spelling → Value → State → State
with_variable name v s = record s { shared = record s.shared { globals = assigned_to name v s.shared.globals } }

abbrev pub with_printed : List ℕ → State → State
with_printed bytes s = record s { shared = record s.shared { out = s.shared.out ++ bytes } }

-- an assignment to one name of the module
pub name_assigned : (here : Setting) (fixed : List Spelling) (written : Targets) (name : Spelling) (v : Value) (s : State) → assigned_name written ≡ Some name → statements.assign_all here (of_module fixed) written v s ≡ Gives tt (with_variable name v s)
unfolding change_globals
name_assigned here fixed (targets.One (target.Name n x)) name v s e = ap (λ m. Gives tt (with_variable m v s)) (same_name x name e)
name_assigned here fixed (targets.One (target.Index n a b)) name v s e = cc
name_assigned here fixed (targets.One (target.Field n a x)) name v s e = cc
name_assigned here fixed (targets.Several n all) name v s e = cc

-- ---- the names that statements assign

pub assigned_by_Assign : (n : Node) (written : Targets) (value : Expr) → assigned_by (λ names. names) (d.Assign n written value) ≡ targets_names written
unfolding assigned_by
assigned_by_Assign n written value = ap (assigned_by (λ names. names)) (sym (d.rolls-Assign n written value)) ∙ fold-roll-Stmt (List Spelling) (List Spelling) (List Spelling) (assigned_step (λ names. names)) (assigned_in_arm (λ names. names)) (assigned_in_loop (λ names. names)) (Stmt-F.Assign n written value)

pub assigned_by_Print : (n : Node) (printed : Printed) → assigned_by (λ names. names) (d.Print n printed) ≡ []
unfolding assigned_by
assigned_by_Print n printed = ap (assigned_by (λ names. names)) (sym (d.rolls-Print n printed)) ∙ fold-roll-Stmt (List Spelling) (List Spelling) (List Spelling) (assigned_step (λ names. names)) (assigned_in_arm (λ names. names)) (assigned_in_loop (λ names. names)) (Stmt-F.Print n printed)

pub names_assigned : (written : Targets) (name : Spelling) → assigned_name written ≡ Some name → targets_names written ≡ name ∷ []
names_assigned (targets.One (target.Name n x)) name e = ap (λ m. m ∷ []) (same_name x name e)
names_assigned (targets.One (target.Index n a b)) name e = cc
names_assigned (targets.One (target.Field n a x)) name e = cc
names_assigned (targets.Several n all) name e = cc
