-- What is not built in a sum, one equation a form of expressions.
use Rattle.std.proofs.Common.{◌≡◌, ℕ, ℤ, Bool, true, false, if◌then◌else◌, List, [], ◌∷◌, Option, Some, None, ap, sym, ◌∙◌, refl}
use Rattle.codon_base.specs.declared.source.Span.{Span}
use Rattle.source_trees.specs.declared.operator.UnaryOp.{UnaryOp}
use Rattle.source_trees.specs.declared.operator.BinaryOp.{BinaryOp}
use Rattle.source_trees.specs.declared.node.Node.{Node}
use Rattle.source_trees.specs.declared.node.Name.{Name}
use Rattle.source_trees.specs.declared.statement.LoopNames.{LoopNames}
use Rattle.source_trees.specs.declared.expression.Commas.{Commas}
use Rattle.source_trees.specs.declared.expression.Comparison.{Comparison}
use Rattle.source_trees.specs.declared.expression.Expr.{Expr, Expr-F}
use Rattle.source_trees.specs.declared.expression.Expr.TheFolds.{fold-roll-Expr}
use Rattle.source_trees.specs.declared.expression.Expr.TheVariants as e
use Rattle.source_trees.specs.Parts as trees
use Rattle.meaning_rules.specs.State.{Spelling}
use Rattle.straight_lines.specs.Built.{first_of, first_at, not_built, is_of_sums, sum_step, unbuilt_in_sum}

module _ (known : Spelling → Bool) where
  name_by : (n : Node) (b : Bool) → first_at b n [] ≡ (if b then None else Some n.at)
  name_by n true = refl
  name_by n false = refl

  pub unbuilt_Name : (n : Node) (name : Spelling) → unbuilt_in_sum known (e.Name n name) ≡ (if known name then None else Some n.at)
  unfolding unbuilt_in_sum
  unbuilt_Name n name = ap (unbuilt_in_sum known) (sym (e.rolls-Name n name)) ∙ fold-roll-Expr (Option Span) (Option Span) (sum_step known) (trees.comparison_step not_built) (Expr-F.Name n name) ∙ name_by n (known name)

  pub unbuilt_Number : (n : Node) (z : ℤ) → unbuilt_in_sum known (e.Number n z) ≡ None
  unfolding unbuilt_in_sum
  unbuilt_Number n z = ap (unbuilt_in_sum known) (sym (e.rolls-Number n z)) ∙ fold-roll-Expr (Option Span) (Option Span) (sum_step known) (trees.comparison_step not_built) (Expr-F.Number n z)

  pub unbuilt_Text : (n : Node) (text : List ℕ) → unbuilt_in_sum known (e.Text n text) ≡ Some n.at
  unfolding unbuilt_in_sum
  unbuilt_Text n text = ap (unbuilt_in_sum known) (sym (e.rolls-Text n text)) ∙ fold-roll-Expr (Option Span) (Option Span) (sum_step known) (trees.comparison_step not_built) (Expr-F.Text n text)

  pub unbuilt_True : (n : Node) → unbuilt_in_sum known (e.True n) ≡ Some n.at
  unfolding unbuilt_in_sum
  unbuilt_True n = ap (unbuilt_in_sum known) (sym (e.rolls-True n)) ∙ fold-roll-Expr (Option Span) (Option Span) (sum_step known) (trees.comparison_step not_built) (Expr-F.True n)

  pub unbuilt_False : (n : Node) → unbuilt_in_sum known (e.False n) ≡ Some n.at
  unfolding unbuilt_in_sum
  unbuilt_False n = ap (unbuilt_in_sum known) (sym (e.rolls-False n)) ∙ fold-roll-Expr (Option Span) (Option Span) (sum_step known) (trees.comparison_step not_built) (Expr-F.False n)

  pub unbuilt_None : (n : Node) → unbuilt_in_sum known (e.None n) ≡ Some n.at
  unfolding unbuilt_in_sum
  unbuilt_None n = ap (unbuilt_in_sum known) (sym (e.rolls-None n)) ∙ fold-roll-Expr (Option Span) (Option Span) (sum_step known) (trees.comparison_step not_built) (Expr-F.None n)

  pub unbuilt_Bracketed : (n : Node) (a : Expr) → unbuilt_in_sum known (e.Bracketed n a) ≡ first_of (unbuilt_in_sum known a ∷ [])
  unfolding unbuilt_in_sum
  unbuilt_Bracketed n a = ap (unbuilt_in_sum known) (sym (e.rolls-Bracketed n a)) ∙ fold-roll-Expr (Option Span) (Option Span) (sum_step known) (trees.comparison_step not_built) (Expr-F.Bracketed n a)

  pub unbuilt_Tuple : (n : Node) (c : Commas) (parts : List Expr) → unbuilt_in_sum known (e.Tuple n c parts) ≡ Some n.at
  unfolding unbuilt_in_sum
  unbuilt_Tuple n c parts = ap (unbuilt_in_sum known) (sym (e.rolls-Tuple n c parts)) ∙ fold-roll-Expr (Option Span) (Option Span) (sum_step known) (trees.comparison_step not_built) (Expr-F.Tuple n c parts)

  pub unbuilt_List : (n : Node) (parts : List Expr) → unbuilt_in_sum known (e.List n parts) ≡ Some n.at
  unfolding unbuilt_in_sum
  unbuilt_List n parts = ap (unbuilt_in_sum known) (sym (e.rolls-List n parts)) ∙ fold-roll-Expr (Option Span) (Option Span) (sum_step known) (trees.comparison_step not_built) (Expr-F.List n parts)

  pub unbuilt_Comprehension : (n : Node) (a : Expr) (names : LoopNames) (goes : Expr) (kept : Option Expr) → unbuilt_in_sum known (e.Comprehension n a names goes kept) ≡ Some n.at
  unfolding unbuilt_in_sum
  unbuilt_Comprehension n a names goes kept = ap (unbuilt_in_sum known) (sym (e.rolls-Comprehension n a names goes kept)) ∙ fold-roll-Expr (Option Span) (Option Span) (sum_step known) (trees.comparison_step not_built) (Expr-F.Comprehension n a names goes kept)

  pub unbuilt_Conditional : (n : Node) (a b c : Expr) → unbuilt_in_sum known (e.Conditional n a b c) ≡ Some n.at
  unfolding unbuilt_in_sum
  unbuilt_Conditional n a b c = ap (unbuilt_in_sum known) (sym (e.rolls-Conditional n a b c)) ∙ fold-roll-Expr (Option Span) (Option Span) (sum_step known) (trees.comparison_step not_built) (Expr-F.Conditional n a b c)

  pub unbuilt_Or : (n : Node) (parts : List Expr) → unbuilt_in_sum known (e.Or n parts) ≡ Some n.at
  unfolding unbuilt_in_sum
  unbuilt_Or n parts = ap (unbuilt_in_sum known) (sym (e.rolls-Or n parts)) ∙ fold-roll-Expr (Option Span) (Option Span) (sum_step known) (trees.comparison_step not_built) (Expr-F.Or n parts)

  pub unbuilt_And : (n : Node) (parts : List Expr) → unbuilt_in_sum known (e.And n parts) ≡ Some n.at
  unfolding unbuilt_in_sum
  unbuilt_And n parts = ap (unbuilt_in_sum known) (sym (e.rolls-And n parts)) ∙ fold-roll-Expr (Option Span) (Option Span) (sum_step known) (trees.comparison_step not_built) (Expr-F.And n parts)

  pub unbuilt_Not : (n : Node) (a : Expr) → unbuilt_in_sum known (e.Not n a) ≡ Some n.at
  unfolding unbuilt_in_sum
  unbuilt_Not n a = ap (unbuilt_in_sum known) (sym (e.rolls-Not n a)) ∙ fold-roll-Expr (Option Span) (Option Span) (sum_step known) (trees.comparison_step not_built) (Expr-F.Not n a)

  pub unbuilt_Compare : (n : Node) (a : Expr) (others : List Comparison) → unbuilt_in_sum known (e.Compare n a others) ≡ Some n.at
  unfolding unbuilt_in_sum
  unbuilt_Compare n a others = ap (unbuilt_in_sum known) (sym (e.rolls-Compare n a others)) ∙ fold-roll-Expr (Option Span) (Option Span) (sum_step known) (trees.comparison_step not_built) (Expr-F.Compare n a others)

  pub unbuilt_Unary : (n : Node) (by : UnaryOp) (a : Expr) → unbuilt_in_sum known (e.Unary n by a) ≡ Some n.at
  unfolding unbuilt_in_sum
  unbuilt_Unary n by a = ap (unbuilt_in_sum known) (sym (e.rolls-Unary n by a)) ∙ fold-roll-Expr (Option Span) (Option Span) (sum_step known) (trees.comparison_step not_built) (Expr-F.Unary n by a)

  pub unbuilt_Binary : (n : Node) (by : BinaryOp) (a b : Expr) → unbuilt_in_sum known (e.Binary n by a b) ≡ first_at (is_of_sums by) n (unbuilt_in_sum known a ∷ unbuilt_in_sum known b ∷ [])
  unfolding unbuilt_in_sum
  unbuilt_Binary n by a b = ap (unbuilt_in_sum known) (sym (e.rolls-Binary n by a b)) ∙ fold-roll-Expr (Option Span) (Option Span) (sum_step known) (trees.comparison_step not_built) (Expr-F.Binary n by a b)

  pub unbuilt_Call : (n : Node) (name : Name) (parts : List Expr) → unbuilt_in_sum known (e.Call n name parts) ≡ Some n.at
  unfolding unbuilt_in_sum
  unbuilt_Call n name parts = ap (unbuilt_in_sum known) (sym (e.rolls-Call n name parts)) ∙ fold-roll-Expr (Option Span) (Option Span) (sum_step known) (trees.comparison_step not_built) (Expr-F.Call n name parts)

  pub unbuilt_MethodCall : (n m : Node) (a : Expr) (name : Spelling) (parts : List Expr) → unbuilt_in_sum known (e.MethodCall n m a name parts) ≡ Some n.at
  unfolding unbuilt_in_sum
  unbuilt_MethodCall n m a name parts = ap (unbuilt_in_sum known) (sym (e.rolls-MethodCall n m a name parts)) ∙ fold-roll-Expr (Option Span) (Option Span) (sum_step known) (trees.comparison_step not_built) (Expr-F.MethodCall n m a name parts)

  pub unbuilt_Index : (n : Node) (a b : Expr) → unbuilt_in_sum known (e.Index n a b) ≡ Some n.at
  unfolding unbuilt_in_sum
  unbuilt_Index n a b = ap (unbuilt_in_sum known) (sym (e.rolls-Index n a b)) ∙ fold-roll-Expr (Option Span) (Option Span) (sum_step known) (trees.comparison_step not_built) (Expr-F.Index n a b)

  pub unbuilt_Slice : (n : Node) (a : Expr) (from to : Option Expr) → unbuilt_in_sum known (e.Slice n a from to) ≡ Some n.at
  unfolding unbuilt_in_sum
  unbuilt_Slice n a from to = ap (unbuilt_in_sum known) (sym (e.rolls-Slice n a from to)) ∙ fold-roll-Expr (Option Span) (Option Span) (sum_step known) (trees.comparison_step not_built) (Expr-F.Slice n a from to)

  pub unbuilt_Field : (n : Node) (a : Expr) (name : Spelling) → unbuilt_in_sum known (e.Field n a name) ≡ Some n.at
  unfolding unbuilt_in_sum
  unbuilt_Field n a name = ap (unbuilt_in_sum known) (sym (e.rolls-Field n a name)) ∙ fold-roll-Expr (Option Span) (Option Span) (sum_step known) (trees.comparison_step not_built) (Expr-F.Field n a name)

pub ruleset unbuilt_rules = (unbuilt_Name, unbuilt_Number, unbuilt_Text, unbuilt_True, unbuilt_False, unbuilt_None, unbuilt_Bracketed, unbuilt_Tuple, unbuilt_List, unbuilt_Comprehension, unbuilt_Conditional, unbuilt_Or, unbuilt_And, unbuilt_Not, unbuilt_Compare, unbuilt_Unary, unbuilt_Binary, unbuilt_Call, unbuilt_MethodCall, unbuilt_Index, unbuilt_Slice, unbuilt_Field)
