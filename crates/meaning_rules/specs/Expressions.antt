-- What expressions give (the Python reference, chapter 6). Their parts are evaluated from left to right. An expression that a loop goes over is an iterable: a call of `range` or of a generator is one without being a value.
use Rattle.std.specs.Prelude.{Bool, true, false, not, if◌then◌else◌, List, [], ◌∷◌, Option, Some, None, pos, codes}
use Rattle.codon_base.specs.declared.fault.FaultKind.TheVariants as kind
use Rattle.codon_base.specs.declared.value.Value.{Value, out-Value}
use Rattle.codon_base.specs.declared.value.Value.TheVariants as value
use Rattle.codon_base.specs.declared.value.Ref.{Ref}
use Rattle.codon_base.specs.declared.object.Object.{Object}
use Rattle.codon_base.specs.declared.object.Object.TheVariants.{List as Listed, Instance}
use Rattle.source_trees.specs.declared.expression.Expr.{Expr, Expr-F}
use Rattle.source_trees.specs.declared.expression.Expr.TheOpen.{Comparison-F}
use Rattle.source_trees.specs.declared.expression.Expr.TheFolds.{para-Expr}
use Rattle.source_trees.specs.declared.expression.Comparison.{Comparison}
use Rattle.source_trees.specs.declared.statement.LoopNames.{LoopNames}
use Rattle.meaning_rules.specs.State.{Spelling, with_names_of, Flow, Next}
use Rattle.meaning_rules.specs.Outcome.{Run, ◌>>=◌, pure, fault, wrong, look, change_names}
use Rattle.meaning_rules.specs.Bodies.{yields}
use Rattle.source_trees.specs.Names.{loop_names}
use Rattle.meaning_rules.specs.Objects.{operate, truth, allocate, ref_in, object, item_at, slice, append, field}
use Rattle.meaning_rules.specs.Variables.{read_name, set_loop_names}
use Rattle.meaning_rules.specs.Program.{Scope, Builtin, ToList, Range, Known, Callee, Defined, Constructor, Standard, Variable, Unknown, callee, with_locals}
use Rattle.meaning_rules.specs.Task.{Gathered, Comprehension, Setting}
use Rattle.meaning_rules.specs.Calls.{call, construct, method_of}
use Rattle.meaning_rules.specs.Loops.{Iterable, Numbers, Items, Generated, over}
use Rattle.meaning_rules.specs.Operations.{binary, unary_made, compared_made, builtin, list_method}

-- what an expression is as a value, and as what a loop goes over
pub record Meant : Type 0 where
  pub value : Run Value
  pub iterable : Run Iterable

-- by the text in which it stands
abbrev pub Means : Type 0
Means = Scope → Meant

-- what a comparison of a chain gives to the next by its left operand: its right operand where it holds
abbrev pub Compares : Type 0
Compares = Scope → Value → Run (Option Value)

abbrev pub tree_of : Option (Expr × Means) → Option Expr
tree_of None = None
tree_of (Some part) = Some part.0

abbrev pub items_of : Run Value → Run Iterable
items_of v = v >>= λ container. pure (Items container)

-- the start, stop and step of a range
abbrev pub range_of : List Value → Run Iterable
range_of (stop ∷ []) = pure (Numbers (value.Int (pos 0)) stop (value.Int (pos 1)))
range_of (start ∷ stop ∷ []) = pure (Numbers start stop (value.Int (pos 1)))
range_of (start ∷ stop ∷ step ∷ []) = pure (Numbers start stop step)
range_of _ = wrong

module _ (here : Setting) where
  -- ---- lists that are gathered from an iterable

  abbrev pub append_to : Value → Value → Run Flow
  append_to list v = ref_in (out-Value list) >>= λ at. append at v >>= λ _. pure Next

  -- a turn of a comprehension, with the condition and the item
  abbrev pub gather : Scope → LoopNames → Run Bool → Run Value → Value → Value → Run Flow
  gather inner names condition item list v =
      set_loop_names inner names v >>= λ _. condition >>= λ t. if t then (item >>= append_to list) else pure Next

  -- `list(..)` of an iterable
  abbrev pub gathered : Iterable → Run Value
  gathered iterable =
      allocate (Listed []) >>= λ list. over here [] iterable (Gathered list) (append_to list) >>= λ _. pure list

  -- a comprehension, whose names are its own: after it they hold what they held before it
  abbrev pub comprehended : Scope → LoopNames → Iterable → Option Expr → Run Bool → Expr → Run Value → Run Value
  comprehended inner names iterable condition_tree condition item_tree item =
      allocate (Listed []) >>= λ list. look (λ s. s.names) >>= λ before.
      over here [] iterable (Comprehension inner names condition_tree item_tree list) (gather inner names condition item list) >>= λ _.
      change_names (with_names_of before (loop_names names)) >>= λ _. pure list

  -- ---- calls

  abbrev pub method_on : Value → Ref → Spelling → List Value → Option Object → Run Value
  method_on v at name given (Some (Listed items)) = list_method here.rules name at given
  method_on v at name given _ = method_of here v name >>= λ known. call here known (v ∷ given)

  -- `v.name(given)`
  abbrev pub call_method : Value → Spelling → List Value → Run Value
  call_method v name given = ref_in (out-Value v) >>= λ at. object at >>= method_on v at name given

  abbrev pub generated_by : Value → List Value → Known → Run Iterable
  generated_by v given known =
      if yields known.function.body then pure (Generated known (v ∷ given)) else items_of (call here known (v ∷ given))

  abbrev pub iterable_on : Value → Ref → Spelling → List Value → Option Object → Run Iterable
  iterable_on v at name given (Some (Instance class fields)) = method_of here v name >>= generated_by v given
  iterable_on v at name given o = items_of (method_on v at name given o)

  abbrev pub iterable_method : Value → Spelling → List Value → Run Iterable
  iterable_method v name given = ref_in (out-Value v) >>= λ at. object at >>= iterable_on v at name given

  -- a call on values
  abbrev pub call_builtin : Builtin → List Value → Run Value
  call_builtin ToList (v ∷ []) = gathered (Items v)
  call_builtin which given = builtin here.rules which given

  abbrev pub not_set : {A : Type 0} → Run A
  not_set = fault kind.Runtime (codes "name is not set")

  -- ---- parts

  abbrev pub value_in : Scope → Expr × Means → Run Value
  value_in scope part = (part.1 scope).value

  abbrev pub iterable_in : Scope → Expr × Means → Run Iterable
  iterable_in scope part = (part.1 scope).iterable

  abbrev pub values_in : Scope → List (Expr × Means) → Run (List Value)
  values_in scope [] = pure []
  values_in scope (part ∷ more) = value_in scope part >>= λ v. values_in scope more >>= λ vs. pure (v ∷ vs)

  -- a bound of a slice
  abbrev pub bound_in : Scope → Option (Expr × Means) → Run Value
  bound_in scope None = pure value.Unit
  bound_in scope (Some part) = value_in scope part

  abbrev pub truth_in : Scope → Expr × Means → Run Bool
  truth_in scope part = value_in scope part >>= truth here.rules

  abbrev pub condition_in : Scope → Option (Expr × Means) → Run Bool
  condition_in scope None = pure true
  condition_in scope (Some part) = truth_in scope part

  abbrev pub some_true : Scope → List (Expr × Means) → Run Value
  some_true scope [] = pure (value.Bool false)
  some_true scope (part ∷ more) = truth_in scope part >>= λ t. if t then pure (value.Bool true) else some_true scope more

  abbrev pub all_true : Scope → List (Expr × Means) → Run Value
  all_true scope [] = pure (value.Bool true)
  all_true scope (part ∷ more) = truth_in scope part >>= λ t. if t then all_true scope more else pure (value.Bool false)

  abbrev pub if_holds : Option Value → (Value → Run Value) → Run Value
  if_holds None next = pure (value.Bool false)
  if_holds (Some v) next = next v

  abbrev pub chain : Scope → List (Comparison × Compares) → Value → Run Value
  chain scope [] v = pure (value.Bool true)
  chain scope (part ∷ more) v = part.1 scope v >>= λ o. if_holds o (chain scope more)

  -- ---- expressions by their forms

  abbrev pub standard_value : Scope → Builtin → List (Expr × Means) → Run Value
  standard_value scope ToList (part ∷ []) = iterable_in scope part >>= gathered
  standard_value scope which parts = values_in scope parts >>= builtin here.rules which

  abbrev pub call_value : Scope → Callee → Spelling → List (Expr × Means) → Run Value
  call_value scope (Defined known) name parts = values_in scope parts >>= call here known
  call_value scope (Constructor number class) name parts = values_in scope parts >>= construct here number class
  call_value scope (Standard which) name parts = standard_value scope which parts
  call_value scope Variable name parts = read_name here.program scope name >>= λ _. wrong
  call_value scope Unknown name parts = not_set

  abbrev pub standard_iterable : Scope → Builtin → List (Expr × Means) → Run Iterable
  standard_iterable scope Range parts = values_in scope parts >>= range_of
  standard_iterable scope which parts = items_of (standard_value scope which parts)

  abbrev pub call_iterable : Scope → Callee → Spelling → List (Expr × Means) → Run Iterable
  call_iterable scope (Defined known) name parts =
      if yields known.function.body then (values_in scope parts >>= λ vs. pure (Generated known vs)) else items_of (call_value scope (Defined known) name parts)
  call_iterable scope (Standard which) name parts = standard_iterable scope which parts
  call_iterable scope other name parts = items_of (call_value scope other name parts)

  abbrev pub value_of : Scope → Expr-F (Expr × Means) (Comparison × Compares) → Run Value
  value_of scope (Expr-F.Name n name) = read_name here.program scope name
  value_of scope (Expr-F.Number n z) = pure (value.Int z)
  value_of scope (Expr-F.Text n text) = pure (value.Text text)
  value_of scope (Expr-F.True n) = pure (value.Bool true)
  value_of scope (Expr-F.False n) = pure (value.Bool false)
  value_of scope (Expr-F.None n) = pure value.Unit
  value_of scope (Expr-F.Bracketed n inner) = value_in scope inner
  value_of scope (Expr-F.Tuple n commas parts) = values_in scope parts >>= λ vs. pure (value.Tuple vs)
  value_of scope (Expr-F.List n parts) = values_in scope parts >>= λ vs. allocate (Listed vs)
  value_of scope (Expr-F.Comprehension n item names iterable condition) =
      iterable_in scope iterable >>= λ goes_over. let inner = with_locals (loop_names names) scope in
      comprehended inner names goes_over (tree_of condition) (condition_in inner condition) item.0 (value_in inner item)
  value_of scope (Expr-F.Conditional n first condition other) = truth_in scope condition >>= λ t. if t then value_in scope first else value_in scope other
  value_of scope (Expr-F.Or n parts) = some_true scope parts
  value_of scope (Expr-F.And n parts) = all_true scope parts
  value_of scope (Expr-F.Not n part) = truth_in scope part >>= λ t. pure (value.Bool (not t))
  value_of scope (Expr-F.Compare n first others) = value_in scope first >>= chain scope others
  value_of scope (Expr-F.Unary n by part) = value_in scope part >>= λ v. operate here.rules (λ sight. unary_made by (out-Value v))
  value_of scope (Expr-F.Binary n by left right) = value_in scope left >>= λ v. value_in scope right >>= λ w. binary here.rules by v w
  value_of scope (Expr-F.Call n name parts) = call_value scope (callee here.program scope name.spelling) name.spelling parts
  value_of scope (Expr-F.MethodCall n m part name parts) = value_in scope part >>= λ v. values_in scope parts >>= call_method v name
  value_of scope (Expr-F.Index n part index) = value_in scope part >>= λ v. value_in scope index >>= λ w. item_at here.rules v w
  value_of scope (Expr-F.Slice n part from to) =
      value_in scope part >>= λ v. bound_in scope from >>= λ start. bound_in scope to >>= λ stop. slice here.rules (out-Value v) start stop
  value_of scope (Expr-F.Field n part name) = value_in scope part >>= λ v. field here.program v name

  abbrev pub iterable_of : Scope → Expr-F (Expr × Means) (Comparison × Compares) → Run Iterable
  iterable_of scope (Expr-F.Call n name parts) = call_iterable scope (callee here.program scope name.spelling) name.spelling parts
  iterable_of scope (Expr-F.MethodCall n m part name parts) = value_in scope part >>= λ v. values_in scope parts >>= iterable_method v name
  iterable_of scope other = items_of (value_of scope other)

  abbrev pub expr_step : Expr-F (Expr × Means) (Comparison × Compares) → Means
  expr_step form scope = record { value = λ s. value_of scope form s; iterable = λ s. iterable_of scope form s }

  abbrev pub comparison_step : Comparison-F (Expr × Means) (Comparison × Compares) → Compares
  comparison_step comparison scope v =
      value_in scope comparison.right >>= λ w. operate here.rules (compared_made comparison.comparator v w) >>= truth here.rules >>= λ holds. pure (if holds then Some w else None)

  unfoldable pub meant : Expr → Means
  meant = para-Expr Means Compares expr_step comparison_step

  abbrev pub expr : Scope → Expr → Run Value
  expr scope e = (meant e scope).value

  abbrev pub iterable : Scope → Expr → Run Iterable
  iterable scope e = (meant e scope).iterable

  abbrev pub exprs : Scope → List Expr → Run (List Value)
  exprs scope [] = pure []
  exprs scope (e ∷ more) = expr scope e >>= λ v. exprs scope more >>= λ vs. pure (v ∷ vs)

  abbrev pub condition : Scope → Expr → Run Bool
  condition scope e = expr scope e >>= truth here.rules
