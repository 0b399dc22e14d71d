-- The equations of expressions, one for each form.
use Rattle.std.proofs.Common.{◌≡◌, ℕ, Bool, true, false, not, if◌then◌else◌, List, [], ◌∷◌, map, Option, Some, None, refl, sym, ap, ◌∙◌, ℤ}
use Rattle.codon_base.specs.declared.value.Value.{Value, out-Value}
use Rattle.codon_base.specs.declared.value.Value.TheVariants as value
use Rattle.codon_base.specs.declared.object.Object.TheVariants.{List as Listed}
use Rattle.source_trees.specs.declared.node.Node.{Node}
use Rattle.source_trees.specs.declared.node.Name.{Name}
use Rattle.source_trees.specs.declared.operator.UnaryOp.{UnaryOp}
use Rattle.source_trees.specs.declared.operator.BinaryOp.{BinaryOp}
use Rattle.source_trees.specs.declared.statement.LoopNames.{LoopNames}
use Rattle.source_trees.specs.declared.expression.Commas.{Commas}
use Rattle.source_trees.specs.declared.expression.Comparison.{Comparison}
use Rattle.source_trees.specs.declared.expression.Expr.{Expr, Expr-F, roll-Expr, ind-Expr}
use Rattle.source_trees.specs.declared.expression.Expr.TheFolds.{para-Comparison, para-roll-Expr, para-roll-Comparison, map-Expr}
use Rattle.std.specs.Prelude.{option_map}
use Rattle.source_trees.specs.declared.expression.Expr.TheVariants as e
use Rattle.meaning_rules.specs.State.{Spelling, State}
use Rattle.meaning_rules.specs.Outcome.{Run, Gives, and_then, ◌>>=◌, pure, bind}
use Rattle.meaning_rules.specs.Bodies.{yields}
use Rattle.source_trees.specs.Names.{loop_names}
use Rattle.meaning_rules.specs.Objects.{operate, allocate, item_at, slice, field}
use Rattle.meaning_rules.specs.Variables.{read_name}
use Rattle.meaning_rules.specs.Program.{Scope, Known, Builtin, Length, Least, Greatest, ToText, ToInt, ToBool, Code, Character, ToList, Range, Callee, Defined, Constructor, Standard, Variable, Unknown, callee, with_locals}
use Rattle.meaning_rules.specs.Calls.{call, construct}
use Rattle.meaning_rules.specs.Loops.{Iterable, Items, Generated}
use Rattle.plain_interpreter.specs.Forms.{IsNoCall}
use Rattle.meaning_rules.specs.Task.{Setting}
use Rattle.meaning_rules.specs.Operations.{binary, unary_made, builtin}
use Rattle.meaning_rules.specs.Expressions as spec
use Rattle.meaning_rules.specs.Expressions.{Meant, Means, Compares, meant, expr, exprs, iterable, condition}
use Rattle.plain_interpreter.specs.Lists as lists

module _ (here : Setting) where
  paired : List Expr → List (Expr × Means)
  paired parts = map (λ e. (e, meant here e)) parts

  values_paired : (scope : Scope) (parts : List Expr) → spec.values_in here scope (map (λ e. (e, meant here e)) parts) ≡ exprs here scope parts
  values_paired scope [] = refl
  values_paired scope (e ∷ more) = ap (λ (rest : Run (List Value)). expr here scope e >>= λ v. rest >>= λ vs. pure (v ∷ vs)) (values_paired scope more)

  some_paired : (scope : Scope) (parts : List Expr) → spec.some_true here scope (map (λ e. (e, meant here e)) parts) ≡ lists.some_true here scope parts
  some_paired scope [] = refl
  some_paired scope (e ∷ more) = ap (λ (rest : Run Value). condition here scope e >>= λ t. if t then pure (value.Bool true) else rest) (some_paired scope more)

  all_paired : (scope : Scope) (parts : List Expr) → spec.all_true here scope (map (λ e. (e, meant here e)) parts) ≡ lists.all_true here scope parts
  all_paired scope [] = refl
  all_paired scope (e ∷ more) = ap (λ (rest : Run Value). condition here scope e >>= λ t. if t then rest else pure (value.Bool false)) (all_paired scope more)

  abbrev step : Comparison → Compares
  step = para-Comparison Means Compares (spec.expr_step here) (spec.comparison_step here)

  step_is : (c : Comparison) (scope : Scope) (v : Value) → step c scope v ≡ lists.compares here scope c v
  unfolding meant
  step_is c scope v = ap (λ (m : Compares). m scope v) (para-roll-Comparison Means Compares (spec.expr_step here) (spec.comparison_step here) (record { comparator = c.comparator; right = c.right }))

  chain_paired : (scope : Scope) (others : List Comparison) (v : Value) → spec.chain here scope (map (λ c. (c, step c)) others) v ≡ lists.chained here scope others v
  chain_paired scope [] v = refl
  chain_paired scope (c ∷ more) v = λ i. step_is c scope v i >>= λ o. spec.if_holds here o (λ w. chain_paired scope more w i)

  bound_paired : (scope : Scope) (o : Option Expr) → spec.bound_in here scope (option_map (λ e. (e, meant here e)) o) ≡ lists.bound here scope o
  bound_paired scope None = refl
  bound_paired scope (Some e) = refl

  kept_paired : (scope : Scope) (names : LoopNames) (item : Expr) (goes : Iterable) (o : Option Expr) →
      (let inner = with_locals (loop_names names) scope in spec.comprehended here inner names goes (spec.tree_of (option_map (λ e. (e, meant here e)) o)) (spec.condition_in here inner (option_map (λ e. (e, meant here e)) o)) item (expr here inner item))
      ≡ lists.comprehended_of here scope names goes o item
  kept_paired scope names item goes None = refl
  kept_paired scope names item goes (Some e) = refl

  plain_paired : (scope : Scope) (which : Builtin) (parts : List Expr) → (spec.values_in here scope (map (λ e. (e, meant here e)) parts) >>= builtin here.rules which) ≡ (exprs here scope parts >>= builtin here.rules which)
  plain_paired scope which parts = ap (λ (r : Run (List Value)). r >>= builtin here.rules which) (values_paired scope parts)

  standard_paired : (scope : Scope) (which : Builtin) (parts : List Expr) → spec.standard_value here scope which (map (λ e. (e, meant here e)) parts) ≡ lists.standard here scope which parts
  standard_paired scope ToList [] = plain_paired scope ToList []
  standard_paired scope ToList (e ∷ []) = refl
  standard_paired scope ToList (e ∷ f ∷ more) = plain_paired scope ToList (e ∷ f ∷ more)
  standard_paired scope Length parts = plain_paired scope Length parts
  standard_paired scope Least parts = plain_paired scope Least parts
  standard_paired scope Greatest parts = plain_paired scope Greatest parts
  standard_paired scope ToText parts = plain_paired scope ToText parts
  standard_paired scope ToInt parts = plain_paired scope ToInt parts
  standard_paired scope ToBool parts = plain_paired scope ToBool parts
  standard_paired scope Code parts = plain_paired scope Code parts
  standard_paired scope Character parts = plain_paired scope Character parts
  standard_paired scope Range parts = plain_paired scope Range parts

  called_paired : (scope : Scope) (c : Callee) (name : Spelling) (parts : List Expr) → spec.call_value here scope c name (map (λ e. (e, meant here e)) parts) ≡ lists.called_by here scope c name parts
  called_paired scope (Defined known) name parts = ap (λ (r : Run (List Value)). r >>= call here known) (values_paired scope parts)
  called_paired scope (Constructor number class) name parts = ap (λ (r : Run (List Value)). r >>= construct here number class) (values_paired scope parts)
  called_paired scope (Standard which) name parts = standard_paired scope which parts
  called_paired scope Variable name parts = refl
  called_paired scope Unknown name parts = refl

  standard_goes_paired : (scope : Scope) (which : Builtin) (parts : List Expr) → spec.standard_iterable here scope which (map (λ e. (e, meant here e)) parts) ≡ lists.standard_goes here scope which parts
  standard_goes_paired scope Range parts = ap (λ (r : Run (List Value)). r >>= spec.range_of) (values_paired scope parts)
  standard_goes_paired scope Length parts = ap (λ (r : Run Value). spec.items_of r) (standard_paired scope Length parts)
  standard_goes_paired scope Least parts = ap (λ (r : Run Value). spec.items_of r) (standard_paired scope Least parts)
  standard_goes_paired scope Greatest parts = ap (λ (r : Run Value). spec.items_of r) (standard_paired scope Greatest parts)
  standard_goes_paired scope ToText parts = ap (λ (r : Run Value). spec.items_of r) (standard_paired scope ToText parts)
  standard_goes_paired scope ToInt parts = ap (λ (r : Run Value). spec.items_of r) (standard_paired scope ToInt parts)
  standard_goes_paired scope ToBool parts = ap (λ (r : Run Value). spec.items_of r) (standard_paired scope ToBool parts)
  standard_goes_paired scope Code parts = ap (λ (r : Run Value). spec.items_of r) (standard_paired scope Code parts)
  standard_goes_paired scope Character parts = ap (λ (r : Run Value). spec.items_of r) (standard_paired scope Character parts)
  standard_goes_paired scope ToList parts = ap (λ (r : Run Value). spec.items_of r) (standard_paired scope ToList parts)

  goes_by : (scope : Scope) (b : Bool) (known : Known) (name : Spelling) (parts : List Expr) →
      (if b then (spec.values_in here scope (map (λ e. (e, meant here e)) parts) >>= λ vs. pure (Generated known vs)) else spec.items_of (spec.call_value here scope (Defined known) name (map (λ e. (e, meant here e)) parts)))
      ≡ (if b then (exprs here scope parts >>= λ vs. pure (Generated known vs)) else spec.items_of (lists.called_by here scope (Defined known) name parts))
  goes_by scope true known name parts = ap (λ (r : Run (List Value)). r >>= λ vs. pure (Generated known vs)) (values_paired scope parts)
  goes_by scope false known name parts = ap (λ (r : Run Value). spec.items_of r) (called_paired scope (Defined known) name parts)

  called_goes_paired : (scope : Scope) (c : Callee) (name : Spelling) (parts : List Expr) → spec.call_iterable here scope c name (map (λ e. (e, meant here e)) parts) ≡ lists.called_goes_by here scope c name parts
  called_goes_paired scope (Defined known) name parts = goes_by scope (yields known.function.body) known name parts
  called_goes_paired scope (Constructor number class) name parts = ap (λ (r : Run Value). spec.items_of r) (called_paired scope (Constructor number class) name parts)
  called_goes_paired scope (Standard which) name parts = standard_goes_paired scope which parts
  called_goes_paired scope Variable name parts = ap (λ (r : Run Value). spec.items_of r) (called_paired scope Variable name parts)
  called_goes_paired scope Unknown name parts = ap (λ (r : Run Value). spec.items_of r) (called_paired scope Unknown name parts)

  pub expr_Name : (n : Node) (name : Spelling) (scope : Scope) (s : State) → expr here scope (e.Name n name) s ≡ (read_name here.program scope name) s
  unfolding meant
  expr_Name n name scope s = ap (λ d. expr here scope d s) (sym (e.rolls-Name n name)) ∙ ap (λ (m : Means). (m scope).value s) (para-roll-Expr Means Compares (spec.expr_step here) (spec.comparison_step here) (Expr-F.Name n name))

  pub expr_Number : (n : Node) (z : ℤ) (scope : Scope) (s : State) → expr here scope (e.Number n z) s ≡ (pure (value.Int z)) s
  unfolding meant
  expr_Number n z scope s = ap (λ d. expr here scope d s) (sym (e.rolls-Number n z)) ∙ ap (λ (m : Means). (m scope).value s) (para-roll-Expr Means Compares (spec.expr_step here) (spec.comparison_step here) (Expr-F.Number n z))

  pub expr_Text : (n : Node) (text : List ℕ) (scope : Scope) (s : State) → expr here scope (e.Text n text) s ≡ (pure (value.Text text)) s
  unfolding meant
  expr_Text n text scope s = ap (λ d. expr here scope d s) (sym (e.rolls-Text n text)) ∙ ap (λ (m : Means). (m scope).value s) (para-roll-Expr Means Compares (spec.expr_step here) (spec.comparison_step here) (Expr-F.Text n text))

  pub expr_True : (n : Node) (scope : Scope) (s : State) → expr here scope (e.True n) s ≡ (pure (value.Bool true)) s
  unfolding meant
  expr_True n scope s = ap (λ d. expr here scope d s) (sym (e.rolls-True n)) ∙ ap (λ (m : Means). (m scope).value s) (para-roll-Expr Means Compares (spec.expr_step here) (spec.comparison_step here) (Expr-F.True n))

  pub expr_False : (n : Node) (scope : Scope) (s : State) → expr here scope (e.False n) s ≡ (pure (value.Bool false)) s
  unfolding meant
  expr_False n scope s = ap (λ d. expr here scope d s) (sym (e.rolls-False n)) ∙ ap (λ (m : Means). (m scope).value s) (para-roll-Expr Means Compares (spec.expr_step here) (spec.comparison_step here) (Expr-F.False n))

  pub expr_None : (n : Node) (scope : Scope) (s : State) → expr here scope (e.None n) s ≡ (pure value.Unit) s
  unfolding meant
  expr_None n scope s = ap (λ d. expr here scope d s) (sym (e.rolls-None n)) ∙ ap (λ (m : Means). (m scope).value s) (para-roll-Expr Means Compares (spec.expr_step here) (spec.comparison_step here) (Expr-F.None n))

  pub expr_Bracketed : (n : Node) (a : Expr) (scope : Scope) (s : State) → expr here scope (e.Bracketed n a) s ≡ (expr here scope a) s
  unfolding meant
  expr_Bracketed n a scope s = ap (λ d. expr here scope d s) (sym (e.rolls-Bracketed n a)) ∙ ap (λ (m : Means). (m scope).value s) (para-roll-Expr Means Compares (spec.expr_step here) (spec.comparison_step here) (Expr-F.Bracketed n a))

  pub expr_Tuple : (n : Node) (c : Commas) (parts : List Expr) (scope : Scope) (s : State) → expr here scope (e.Tuple n c parts) s ≡ (exprs here scope parts >>= λ vs. pure (value.Tuple vs)) s
  unfolding meant
  expr_Tuple n c parts scope s = ap (λ d. expr here scope d s) (sym (e.rolls-Tuple n c parts)) ∙ ap (λ (m : Means). (m scope).value s) (para-roll-Expr Means Compares (spec.expr_step here) (spec.comparison_step here) (Expr-F.Tuple n c parts)) ∙ ap (λ (r : Run (List Value)). (r >>= λ vs. pure (value.Tuple vs)) s) (values_paired scope parts)

  pub expr_List : (n : Node) (parts : List Expr) (scope : Scope) (s : State) → expr here scope (e.List n parts) s ≡ (exprs here scope parts >>= λ vs. allocate (Listed vs)) s
  unfolding meant
  expr_List n parts scope s = ap (λ d. expr here scope d s) (sym (e.rolls-List n parts)) ∙ ap (λ (m : Means). (m scope).value s) (para-roll-Expr Means Compares (spec.expr_step here) (spec.comparison_step here) (Expr-F.List n parts)) ∙ ap (λ (r : Run (List Value)). (r >>= λ vs. allocate (Listed vs)) s) (values_paired scope parts)

  pub expr_Conditional : (n : Node) (a b c : Expr) (scope : Scope) (s : State) → expr here scope (e.Conditional n a b c) s ≡ (condition here scope b >>= λ t. if t then expr here scope a else expr here scope c) s
  unfolding meant
  expr_Conditional n a b c scope s = ap (λ d. expr here scope d s) (sym (e.rolls-Conditional n a b c)) ∙ ap (λ (m : Means). (m scope).value s) (para-roll-Expr Means Compares (spec.expr_step here) (spec.comparison_step here) (Expr-F.Conditional n a b c))

  pub expr_Or : (n : Node) (parts : List Expr) (scope : Scope) (s : State) → expr here scope (e.Or n parts) s ≡ (lists.some_true here scope parts) s
  unfolding meant
  expr_Or n parts scope s = ap (λ d. expr here scope d s) (sym (e.rolls-Or n parts)) ∙ ap (λ (m : Means). (m scope).value s) (para-roll-Expr Means Compares (spec.expr_step here) (spec.comparison_step here) (Expr-F.Or n parts)) ∙ ap (λ (r : Run Value). r s) (some_paired scope parts)

  pub expr_And : (n : Node) (parts : List Expr) (scope : Scope) (s : State) → expr here scope (e.And n parts) s ≡ (lists.all_true here scope parts) s
  unfolding meant
  expr_And n parts scope s = ap (λ d. expr here scope d s) (sym (e.rolls-And n parts)) ∙ ap (λ (m : Means). (m scope).value s) (para-roll-Expr Means Compares (spec.expr_step here) (spec.comparison_step here) (Expr-F.And n parts)) ∙ ap (λ (r : Run Value). r s) (all_paired scope parts)

  pub expr_Not : (n : Node) (a : Expr) (scope : Scope) (s : State) → expr here scope (e.Not n a) s ≡ (condition here scope a >>= λ t. pure (value.Bool (not t))) s
  unfolding meant
  expr_Not n a scope s = ap (λ d. expr here scope d s) (sym (e.rolls-Not n a)) ∙ ap (λ (m : Means). (m scope).value s) (para-roll-Expr Means Compares (spec.expr_step here) (spec.comparison_step here) (Expr-F.Not n a))

  pub expr_Unary : (n : Node) (by : UnaryOp) (a : Expr) (scope : Scope) (s : State) → expr here scope (e.Unary n by a) s ≡ (expr here scope a >>= λ v. operate here.rules (λ sight. unary_made by (out-Value v))) s
  unfolding meant
  expr_Unary n by a scope s = ap (λ d. expr here scope d s) (sym (e.rolls-Unary n by a)) ∙ ap (λ (m : Means). (m scope).value s) (para-roll-Expr Means Compares (spec.expr_step here) (spec.comparison_step here) (Expr-F.Unary n by a))

  pub expr_Binary : (n : Node) (by : BinaryOp) (a b : Expr) (scope : Scope) (s : State) → expr here scope (e.Binary n by a b) s ≡ (expr here scope a >>= λ v. expr here scope b >>= λ w. binary here.rules by v w) s
  unfolding meant
  expr_Binary n by a b scope s = ap (λ d. expr here scope d s) (sym (e.rolls-Binary n by a b)) ∙ ap (λ (m : Means). (m scope).value s) (para-roll-Expr Means Compares (spec.expr_step here) (spec.comparison_step here) (Expr-F.Binary n by a b))

  pub expr_MethodCall : (n m : Node) (a : Expr) (name : Spelling) (parts : List Expr) (scope : Scope) (s : State) → expr here scope (e.MethodCall n m a name parts) s ≡ (expr here scope a >>= λ v. exprs here scope parts >>= spec.call_method here v name) s
  unfolding meant
  expr_MethodCall n m a name parts scope s = ap (λ d. expr here scope d s) (sym (e.rolls-MethodCall n m a name parts)) ∙ ap (λ (m : Means). (m scope).value s) (para-roll-Expr Means Compares (spec.expr_step here) (spec.comparison_step here) (Expr-F.MethodCall n m a name parts)) ∙ ap (λ (r : Run (List Value)). (expr here scope a >>= λ v. r >>= spec.call_method here v name) s) (values_paired scope parts)

  pub expr_Index : (n : Node) (a b : Expr) (scope : Scope) (s : State) → expr here scope (e.Index n a b) s ≡ (expr here scope a >>= λ v. expr here scope b >>= λ w. item_at here.rules v w) s
  unfolding meant
  expr_Index n a b scope s = ap (λ d. expr here scope d s) (sym (e.rolls-Index n a b)) ∙ ap (λ (m : Means). (m scope).value s) (para-roll-Expr Means Compares (spec.expr_step here) (spec.comparison_step here) (Expr-F.Index n a b))

  pub expr_Comprehension : (n : Node) (item : Expr) (names : LoopNames) (goes : Expr) (kept : Option Expr) (scope : Scope) (s : State) → expr here scope (e.Comprehension n item names goes kept) s ≡ (iterable here scope goes >>= λ goes_over. lists.comprehended_of here scope names goes_over kept item) s
  unfolding meant
  expr_Comprehension n item names goes None scope s = ap (λ x. expr here scope x s) (sym (e.rolls-Comprehension n item names goes None)) ∙ ap (λ (m : Means). (m scope).value s) (para-roll-Expr Means Compares (spec.expr_step here) (spec.comparison_step here) (Expr-F.Comprehension n item names goes None))
  expr_Comprehension n item names goes (Some d) scope s = ap (λ x. expr here scope x s) (sym (e.rolls-Comprehension n item names goes (Some d))) ∙ ap (λ (m : Means). (m scope).value s) (para-roll-Expr Means Compares (spec.expr_step here) (spec.comparison_step here) (Expr-F.Comprehension n item names goes (Some d)))

  pub expr_Compare : (n : Node) (first : Expr) (others : List Comparison) (scope : Scope) (s : State) → expr here scope (e.Compare n first others) s ≡ (expr here scope first >>= lists.chained here scope others) s
  unfolding meant
  expr_Compare n first others scope s = ap (λ d. expr here scope d s) (sym (e.rolls-Compare n first others)) ∙ ap (λ (m : Means). (m scope).value s) (para-roll-Expr Means Compares (spec.expr_step here) (spec.comparison_step here) (Expr-F.Compare n first others)) ∙ ap (λ (k : Value → Run Value). (expr here scope first >>= k) s) (λ i v. chain_paired scope others v i)

  pub expr_Call : (n : Node) (name : Name) (parts : List Expr) (scope : Scope) (s : State) → expr here scope (e.Call n name parts) s ≡ (lists.called here scope name.spelling parts) s
  unfolding meant
  expr_Call n name parts scope s = ap (λ d. expr here scope d s) (sym (e.rolls-Call n name parts)) ∙ ap (λ (m : Means). (m scope).value s) (para-roll-Expr Means Compares (spec.expr_step here) (spec.comparison_step here) (Expr-F.Call n name parts)) ∙ ap (λ (r : Run Value). r s) (called_paired scope (callee here.program scope name.spelling) name.spelling parts)

  pub expr_Slice : (n : Node) (a : Expr) (from to : Option Expr) (scope : Scope) (s : State) → expr here scope (e.Slice n a from to) s ≡ (expr here scope a >>= λ v. lists.bound here scope from >>= λ start. lists.bound here scope to >>= λ stop. slice here.rules (out-Value v) start stop) s
  unfolding meant
  expr_Slice n a None None scope s = ap (λ x. expr here scope x s) (sym (e.rolls-Slice n a None None)) ∙ ap (λ (m : Means). (m scope).value s) (para-roll-Expr Means Compares (spec.expr_step here) (spec.comparison_step here) (Expr-F.Slice n a None None))
  expr_Slice n a None (Some f) scope s = ap (λ x. expr here scope x s) (sym (e.rolls-Slice n a None (Some f))) ∙ ap (λ (m : Means). (m scope).value s) (para-roll-Expr Means Compares (spec.expr_step here) (spec.comparison_step here) (Expr-F.Slice n a None (Some f)))
  expr_Slice n a (Some d) None scope s = ap (λ x. expr here scope x s) (sym (e.rolls-Slice n a (Some d) None)) ∙ ap (λ (m : Means). (m scope).value s) (para-roll-Expr Means Compares (spec.expr_step here) (spec.comparison_step here) (Expr-F.Slice n a (Some d) None))
  expr_Slice n a (Some d) (Some f) scope s = ap (λ x. expr here scope x s) (sym (e.rolls-Slice n a (Some d) (Some f))) ∙ ap (λ (m : Means). (m scope).value s) (para-roll-Expr Means Compares (spec.expr_step here) (spec.comparison_step here) (Expr-F.Slice n a (Some d) (Some f)))

  pub expr_Field : (n : Node) (a : Expr) (name : Spelling) (scope : Scope) (s : State) → expr here scope (e.Field n a name) s ≡ (expr here scope a >>= λ v. field here.program v name) s
  unfolding meant
  expr_Field n a name scope s = ap (λ d. expr here scope d s) (sym (e.rolls-Field n a name)) ∙ ap (λ (m : Means). (m scope).value s) (para-roll-Expr Means Compares (spec.expr_step here) (spec.comparison_step here) (Expr-F.Field n a name))

  pub iterable_Call : (n : Node) (name : Name) (parts : List Expr) (scope : Scope) (s : State) → iterable here scope (e.Call n name parts) s ≡ lists.called_iterable here scope name.spelling parts s
  unfolding meant
  iterable_Call n name parts scope s = ap (λ d. iterable here scope d s) (sym (e.rolls-Call n name parts)) ∙ ap (λ (m : Means). (m scope).iterable s) (para-roll-Expr Means Compares (spec.expr_step here) (spec.comparison_step here) (Expr-F.Call n name parts)) ∙ ap (λ (r : Run Iterable). r s) (called_goes_paired scope (callee here.program scope name.spelling) name.spelling parts)

  pub iterable_MethodCall : (n m : Node) (a : Expr) (name : Spelling) (parts : List Expr) (scope : Scope) (s : State) → iterable here scope (e.MethodCall n m a name parts) s ≡ (expr here scope a >>= λ v. exprs here scope parts >>= spec.iterable_method here v name) s
  unfolding meant
  iterable_MethodCall n m a name parts scope s = ap (λ d. iterable here scope d s) (sym (e.rolls-MethodCall n m a name parts)) ∙ ap (λ (k : Means). (k scope).iterable s) (para-roll-Expr Means Compares (spec.expr_step here) (spec.comparison_step here) (Expr-F.MethodCall n m a name parts)) ∙ ap (λ (r : Run (List Value)). (expr here scope a >>= λ v. r >>= spec.iterable_method here v name) s) (values_paired scope parts)

  abbrev mapped : Expr-F Expr Comparison → Expr-F (Expr × Means) (Comparison × Compares)
  mapped = map-Expr Expr Comparison (Expr × Means) (Comparison × Compares) (λ x. (x, meant here x)) (λ x. (x, para-Comparison Means Compares (spec.expr_step here) (spec.comparison_step here) x))

  same : (scope : Scope) (s : State) (x : Expr-F Expr Comparison) → spec.iterable_of here scope (mapped x) s ≡ spec.items_of (spec.value_of here scope (mapped x)) s → iterable here scope (roll-Expr x) s ≡ spec.items_of (expr here scope (roll-Expr x)) s
  unfolding meant bind
  same scope s x h =
      let rolled : meant here (roll-Expr x) ≡ spec.expr_step here (mapped x) = para-roll-Expr Means Compares (spec.expr_step here) (spec.comparison_step here) x in
      ap (λ (m : Means). (m scope).iterable s) rolled ∙ h ∙ sym (ap (λ (m : Means). spec.items_of (m scope).value s) rolled)

  other : (scope : Scope) (s : State) (x : Expr-F Expr Comparison) → IsNoCall (roll-Expr x) → iterable here scope (roll-Expr x) s ≡ spec.items_of (expr here scope (roll-Expr x)) s
  other scope s (Expr-F.Name n name) h = same scope s (Expr-F.Name n name) refl
  other scope s (Expr-F.Number n z) h = same scope s (Expr-F.Number n z) refl
  other scope s (Expr-F.Text n text) h = same scope s (Expr-F.Text n text) refl
  other scope s (Expr-F.True n) h = same scope s (Expr-F.True n) refl
  other scope s (Expr-F.False n) h = same scope s (Expr-F.False n) refl
  other scope s (Expr-F.None n) h = same scope s (Expr-F.None n) refl
  other scope s (Expr-F.Bracketed n a) h = same scope s (Expr-F.Bracketed n a) refl
  other scope s (Expr-F.Tuple n c parts) h = same scope s (Expr-F.Tuple n c parts) refl
  other scope s (Expr-F.List n parts) h = same scope s (Expr-F.List n parts) refl
  other scope s (Expr-F.Comprehension n item names goes None) h = same scope s (Expr-F.Comprehension n item names goes None) refl
  other scope s (Expr-F.Comprehension n item names goes (Some d)) h = same scope s (Expr-F.Comprehension n item names goes (Some d)) refl
  other scope s (Expr-F.Conditional n a b c) h = same scope s (Expr-F.Conditional n a b c) refl
  other scope s (Expr-F.Or n parts) h = same scope s (Expr-F.Or n parts) refl
  other scope s (Expr-F.And n parts) h = same scope s (Expr-F.And n parts) refl
  other scope s (Expr-F.Not n a) h = same scope s (Expr-F.Not n a) refl
  other scope s (Expr-F.Compare n a others) h = same scope s (Expr-F.Compare n a others) refl
  other scope s (Expr-F.Unary n by a) h = same scope s (Expr-F.Unary n by a) refl
  other scope s (Expr-F.Binary n by a b) h = same scope s (Expr-F.Binary n by a b) refl
  other scope s (Expr-F.Index n a b) h = same scope s (Expr-F.Index n a b) refl
  other scope s (Expr-F.Slice n a from to) h = same scope s (Expr-F.Slice n a from to) refl
  other scope s (Expr-F.Field n a name) h = same scope s (Expr-F.Field n a name) refl
  other scope s (Expr-F.Call n name parts) h = absurd (h.0 n name parts (e.rolls-Call n name parts))
  other scope s (Expr-F.MethodCall n m a name parts) h = absurd (h.1 n m a name parts (e.rolls-MethodCall n m a name parts))

  abbrev OtherIs : Scope → State → Expr → Type 0
  OtherIs scope s whole = IsNoCall whole → iterable here scope whole s ≡ spec.items_of (expr here scope whole) s

  pub iterable_other : (scope : Scope) (s : State) (whole : Expr) → IsNoCall whole → iterable here scope whole s ≡ and_then (expr here scope whole s) (λ container s. Gives (Items container) s)
  unfolding bind pure
  iterable_other scope s = ind-Expr (OtherIs scope s) (λ c. Unit {0}) (λ x y eq. other scope s x) (λ x y eq. tt)

pub ruleset expr_rules = (expr_Name, expr_Number, expr_Text, expr_True, expr_False, expr_None, expr_Bracketed, expr_Tuple, expr_List, expr_Conditional, expr_Or, expr_And, expr_Not, expr_Unary, expr_Binary, expr_MethodCall, expr_Index, expr_Comprehension, expr_Compare, expr_Call, expr_Slice, expr_Field, iterable_Call, iterable_MethodCall)
