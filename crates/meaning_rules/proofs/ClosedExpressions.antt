-- Expressions under a closed relation. An expression holds no loop round it, so the relation of its runs is that of a text in no loop over a generator.
use Rattle.std.proofs.Common.{◌≡◌, ℕ, Bool, List, [], ◌∷◌, map, Option, Some, None, option_map, sym, subst}
use Rattle.codon_base.specs.declared.value.Value.{Value, out-Value}
use Rattle.codon_base.specs.declared.value.Ref.{Ref}
use Rattle.codon_base.specs.declared.object.Object.{Object}
use Rattle.codon_base.specs.declared.object.Object.TheVariants.{List as Listed, Instance}
use Rattle.source_trees.specs.declared.expression.Expr.{Expr, Expr-F, roll-Expr, ind-Expr}
use Rattle.source_trees.specs.declared.expression.Expr.TheOpen.{Comparison-F}
use Rattle.source_trees.specs.declared.expression.Expr.TheFolds.{para-Comparison, para-roll-Expr, para-roll-Comparison, map-Expr, map-Comparison}
use Rattle.source_trees.specs.declared.expression.Comparison.{Comparison, roll-Comparison}
use Rattle.source_trees.specs.declared.statement.LoopNames.{LoopNames}
use Rattle.meaning_rules.specs.State.{Spelling, Flow}
use Rattle.meaning_rules.specs.Outcome.{Run, ◌>>=◌}
use Rattle.meaning_rules.specs.Bodies.{yields}
use Rattle.source_trees.specs.Names.{loop_names}
use Rattle.meaning_rules.specs.Program.{Program, Scope, Builtin, Length, Least, Greatest, ToText, ToInt, ToBool, Code, Character, ToList, Range, Known, Callee, Defined, Constructor, Standard, Variable, Unknown, callee, with_locals}
use Rattle.meaning_rules.specs.Task.{Consumer, Task, Rules, Setting}
use Rattle.meaning_rules.specs.Objects.{slice}
use Rattle.meaning_rules.specs.Loops.{Iterable, Items, Generated}
use Rattle.meaning_rules.specs.Operations.{unary_made, compared_made}
use Rattle.meaning_rules.specs.Expressions as spec
use Rattle.meaning_rules.specs.Expressions.{Meant, Means, Compares}
use Rattle.meaning_rules.proofs.Closed.{Relation, Closed, chain, gives, pick}
use Rattle.meaning_rules.proofs.ClosedObjects.{allocate_closed, operate_closed, truth_closed, ref_in_closed, item_at_closed, slice_closed, append_closed, field_closed, read_name_closed, set_loop_names_closed, binary_closed, builtin_closed, list_method_closed}
use Rattle.meaning_rules.proofs.ClosedLoops.{here, there, call_closed, construct_closed, method_of_closed, over_closed}

module _ (program : Program) {R : Relation} {rules : Rules} {limit more : ℕ} {low high : List Consumer → Task → Run Flow} (c : Closed R rules limit more low high) where
  abbrev less : Setting
  less = here program c

  abbrev greater : Setting
  greater = there program c

  -- ---- lists that are gathered

  pub append_to_closed : {n : ℕ} (list v : Value) → R n Flow (spec.append_to less list v) (spec.append_to greater list v)
  append_to_closed list v = chain c (ref_in_closed c _) (λ at. chain c (append_closed c at v) (λ _. gives c _))

  pub gather_closed : {n : ℕ} (inner : Scope) (names : LoopNames) (p q : Run Bool) (k l : Run Value) (list v : Value) → R n Bool p q → R n Value k l → R n Flow (spec.gather less inner names p k list v) (spec.gather greater inner names q l list v)
  gather_closed inner names p q k l list v e h = chain c (set_loop_names_closed c inner names v) (λ _. chain c e (λ t. pick c t (chain c h (λ w. append_to_closed list w)) (gives c _)))

  pub gathered_closed : (goes_over : Iterable) → R 0 Value (spec.gathered less goes_over) (spec.gathered greater goes_over)
  gathered_closed goes_over = chain c (allocate_closed c _) (λ list. chain c (over_closed program c [] goes_over _ _ _ (λ v. append_to_closed list v)) (λ _. gives c _))

  comprehended_closed : (inner : Scope) (names : LoopNames) (goes_over : Iterable) (kept : Option Expr) (p q : Run Bool) (item : Expr) (k l : Run Value) → R 0 Bool p q → R 0 Value k l → R 0 Value (spec.comprehended less inner names goes_over kept p item k) (spec.comprehended greater inner names goes_over kept q item l)
  comprehended_closed inner names goes_over kept p q item k l e h =
      chain c (allocate_closed c _) (λ list. chain c (c.looks _ _ _) (λ before. chain c (over_closed program c [] goes_over _ _ _ (λ v. gather_closed inner names p q k l list v e h)) (λ _. chain c (c.changes_names _ _) (λ _. gives c _))))

  -- ---- calls

  method_on_closed : (v : Value) (at : Ref) (name : Spelling) (given : List Value) (o : Option Object) → R 0 Value (spec.method_on less v at name given o) (spec.method_on greater v at name given o)
  method_on_closed v at name given (Some (Listed items)) = list_method_closed c name at given
  method_on_closed v at name given (Some (Instance class fields)) = chain c (method_of_closed program c v name) (λ known. call_closed program c known _)
  method_on_closed v at name given None = chain c (method_of_closed program c v name) (λ known. call_closed program c known _)

  call_method_closed : (v : Value) (name : Spelling) (given : List Value) → R 0 Value (spec.call_method less v name given) (spec.call_method greater v name given)
  call_method_closed v name given = chain c (ref_in_closed c _) (λ at. chain c (c.looks _ _ _) (λ o. method_on_closed v at name given o))

  items_of_closed : {n : ℕ} {p q : Run Value} → R n Value p q → R n Iterable (spec.items_of p) (spec.items_of q)
  items_of_closed e = chain c e (λ v. gives c _)

  generated_by_closed : (v : Value) (given : List Value) (known : Known) → R 0 Iterable (spec.generated_by less v given known) (spec.generated_by greater v given known)
  generated_by_closed v given known = pick c (yields known.function.body) (gives c (Generated known (v ∷ given))) (items_of_closed (call_closed program c known (v ∷ given)))

  iterable_on_closed : (v : Value) (at : Ref) (name : Spelling) (given : List Value) (o : Option Object) → R 0 Iterable (spec.iterable_on less v at name given o) (spec.iterable_on greater v at name given o)
  iterable_on_closed v at name given (Some (Instance class fields)) = chain c (method_of_closed program c v name) (λ known. generated_by_closed v given known)
  iterable_on_closed v at name given (Some (Listed items)) = items_of_closed (method_on_closed v at name given (Some (Listed items)))
  iterable_on_closed v at name given None = items_of_closed (method_on_closed v at name given None)

  iterable_method_closed : (v : Value) (name : Spelling) (given : List Value) → R 0 Iterable (spec.iterable_method less v name given) (spec.iterable_method greater v name given)
  iterable_method_closed v name given = chain c (ref_in_closed c _) (λ at. chain c (c.looks _ _ _) (λ o. iterable_on_closed v at name given o))

  pub call_builtin_closed : (which : Builtin) (given : List Value) → R 0 Value (spec.call_builtin less which given) (spec.call_builtin greater which given)
  call_builtin_closed ToList (v ∷ []) = gathered_closed (Items v)
  call_builtin_closed ToList [] = builtin_closed c ToList []
  call_builtin_closed ToList (v ∷ w ∷ others) = builtin_closed c ToList (v ∷ w ∷ others)
  call_builtin_closed Length given = builtin_closed c Length given
  call_builtin_closed Least given = builtin_closed c Least given
  call_builtin_closed Greatest given = builtin_closed c Greatest given
  call_builtin_closed ToText given = builtin_closed c ToText given
  call_builtin_closed ToInt given = builtin_closed c ToInt given
  call_builtin_closed ToBool given = builtin_closed c ToBool given
  call_builtin_closed Code given = builtin_closed c Code given
  call_builtin_closed Character given = builtin_closed c Character given
  call_builtin_closed Range given = builtin_closed c Range given

  range_of_closed : {n : ℕ} (given : List Value) → R n Iterable (spec.range_of given) (spec.range_of given)
  range_of_closed [] = c.stops _ _ _
  range_of_closed (a ∷ []) = gives c _
  range_of_closed (a ∷ b ∷ []) = gives c _
  range_of_closed (a ∷ b ∷ s ∷ []) = gives c _
  range_of_closed (a ∷ b ∷ s ∷ d ∷ others) = c.stops _ _ _

  -- ---- parts

  -- what an expression means in both runs
  abbrev Both : Means → Means → Type 0
  Both p q = (scope : Scope) → R 0 Value (p scope).value (q scope).value × R 0 Iterable (p scope).iterable (q scope).iterable

  abbrev BothCompare : Compares → Compares → Type 0
  BothCompare p q = (scope : Scope) (v : Value) → R 0 (Option Value) (p scope v) (q scope v)

  abbrev compares : Setting → Comparison → Compares
  compares setting = para-Comparison Means Compares (spec.expr_step setting) (spec.comparison_step setting)

  -- an expression and a comparison for which this has been shown
  abbrev Part : Type 0
  Part = (e : Expr) × Both (spec.meant less e) (spec.meant greater e)

  abbrev Link : Type 0
  Link = (k : Comparison) × BothCompare (compares less k) (compares greater k)

  abbrev tree : Part → Expr
  tree p = p.0

  abbrev link : Link → Comparison
  link k = k.0

  abbrev under : Setting → Expr → Expr × Means
  under setting e = (e, spec.meant setting e)

  abbrev link_under : Setting → Comparison → Comparison × Compares
  link_under setting k = (k, compares setting k)

  abbrev parts_under : Setting → List Part → List (Expr × Means)
  parts_under setting parts = map (under setting) (map tree parts)

  value_in_closed : (scope : Scope) (p : Part) → R 0 Value (spec.value_in less scope (under less p.0)) (spec.value_in greater scope (under greater p.0))
  value_in_closed scope p = (p.1 scope).0

  iterable_in_closed : (scope : Scope) (p : Part) → R 0 Iterable (spec.iterable_in less scope (under less p.0)) (spec.iterable_in greater scope (under greater p.0))
  iterable_in_closed scope p = (p.1 scope).1

  values_in_closed : (scope : Scope) (parts : List Part) → R 0 (List Value) (spec.values_in less scope (parts_under less parts)) (spec.values_in greater scope (parts_under greater parts))
  values_in_closed scope [] = gives c _
  values_in_closed scope (p ∷ parts) = chain c (value_in_closed scope p) (λ v. chain c (values_in_closed scope parts) (λ vs. gives c _))

  truth_in_closed : (scope : Scope) (p : Part) → R 0 Bool (spec.truth_in less scope (under less p.0)) (spec.truth_in greater scope (under greater p.0))
  truth_in_closed scope p = chain c (value_in_closed scope p) (λ v. truth_closed c v)

  some_true_closed : (scope : Scope) (parts : List Part) → R 0 Value (spec.some_true less scope (parts_under less parts)) (spec.some_true greater scope (parts_under greater parts))
  some_true_closed scope [] = gives c _
  some_true_closed scope (p ∷ parts) = chain c (truth_in_closed scope p) (λ t. pick c t (gives c _) (some_true_closed scope parts))

  all_true_closed : (scope : Scope) (parts : List Part) → R 0 Value (spec.all_true less scope (parts_under less parts)) (spec.all_true greater scope (parts_under greater parts))
  all_true_closed scope [] = gives c _
  all_true_closed scope (p ∷ parts) = chain c (truth_in_closed scope p) (λ t. pick c t (all_true_closed scope parts) (gives c _))

  if_holds_closed : (o : Option Value) (k l : Value → Run Value) → ((v : Value) → R 0 Value (k v) (l v)) → R 0 Value (spec.if_holds less o k) (spec.if_holds greater o l)
  if_holds_closed None k l e = gives c _
  if_holds_closed (Some v) k l e = e v

  chain_closed : (scope : Scope) (links : List Link) (v : Value) → R 0 Value (spec.chain less scope (map (link_under less) (map link links)) v) (spec.chain greater scope (map (link_under greater) (map link links)) v)
  chain_closed scope [] v = gives c _
  chain_closed scope (k ∷ links) v = chain c (k.1 scope v) (λ o. if_holds_closed o _ _ (chain_closed scope links))

  -- ---- calls by name

  standard_value_closed : (scope : Scope) (which : Builtin) (parts : List Part) → R 0 Value (spec.standard_value less scope which (parts_under less parts)) (spec.standard_value greater scope which (parts_under greater parts))
  standard_value_closed scope ToList (p ∷ []) = chain c (iterable_in_closed scope p) (λ goes_over. gathered_closed goes_over)
  standard_value_closed scope ToList [] = chain c (values_in_closed scope []) (λ vs. builtin_closed c ToList vs)
  standard_value_closed scope ToList (p ∷ q ∷ parts) = chain c (values_in_closed scope (p ∷ q ∷ parts)) (λ vs. builtin_closed c ToList vs)
  standard_value_closed scope Length parts = chain c (values_in_closed scope parts) (λ vs. builtin_closed c Length vs)
  standard_value_closed scope Least parts = chain c (values_in_closed scope parts) (λ vs. builtin_closed c Least vs)
  standard_value_closed scope Greatest parts = chain c (values_in_closed scope parts) (λ vs. builtin_closed c Greatest vs)
  standard_value_closed scope ToText parts = chain c (values_in_closed scope parts) (λ vs. builtin_closed c ToText vs)
  standard_value_closed scope ToInt parts = chain c (values_in_closed scope parts) (λ vs. builtin_closed c ToInt vs)
  standard_value_closed scope ToBool parts = chain c (values_in_closed scope parts) (λ vs. builtin_closed c ToBool vs)
  standard_value_closed scope Code parts = chain c (values_in_closed scope parts) (λ vs. builtin_closed c Code vs)
  standard_value_closed scope Character parts = chain c (values_in_closed scope parts) (λ vs. builtin_closed c Character vs)
  standard_value_closed scope Range parts = chain c (values_in_closed scope parts) (λ vs. builtin_closed c Range vs)

  call_value_closed : (scope : Scope) (called : Callee) (name : Spelling) (parts : List Part) → R 0 Value (spec.call_value less scope called name (parts_under less parts)) (spec.call_value greater scope called name (parts_under greater parts))
  call_value_closed scope (Defined known) name parts = chain c (values_in_closed scope parts) (λ vs. call_closed program c known vs)
  call_value_closed scope (Constructor number class) name parts = chain c (values_in_closed scope parts) (λ vs. construct_closed program c number class vs)
  call_value_closed scope (Standard which) name parts = standard_value_closed scope which parts
  call_value_closed scope Variable name parts = chain c (read_name_closed c program scope name) (λ _. c.stops _ _ _)
  call_value_closed scope Unknown name parts = c.stops _ _ _

  standard_iterable_closed : (scope : Scope) (which : Builtin) (parts : List Part) → R 0 Iterable (spec.standard_iterable less scope which (parts_under less parts)) (spec.standard_iterable greater scope which (parts_under greater parts))
  standard_iterable_closed scope Range parts = chain c (values_in_closed scope parts) (λ vs. range_of_closed vs)
  standard_iterable_closed scope Length parts = items_of_closed (standard_value_closed scope Length parts)
  standard_iterable_closed scope Least parts = items_of_closed (standard_value_closed scope Least parts)
  standard_iterable_closed scope Greatest parts = items_of_closed (standard_value_closed scope Greatest parts)
  standard_iterable_closed scope ToText parts = items_of_closed (standard_value_closed scope ToText parts)
  standard_iterable_closed scope ToInt parts = items_of_closed (standard_value_closed scope ToInt parts)
  standard_iterable_closed scope ToBool parts = items_of_closed (standard_value_closed scope ToBool parts)
  standard_iterable_closed scope Code parts = items_of_closed (standard_value_closed scope Code parts)
  standard_iterable_closed scope Character parts = items_of_closed (standard_value_closed scope Character parts)
  standard_iterable_closed scope ToList parts = items_of_closed (standard_value_closed scope ToList parts)

  call_iterable_closed : (scope : Scope) (called : Callee) (name : Spelling) (parts : List Part) → R 0 Iterable (spec.call_iterable less scope called name (parts_under less parts)) (spec.call_iterable greater scope called name (parts_under greater parts))
  call_iterable_closed scope (Defined known) name parts =
      pick c (yields known.function.body) (chain c (values_in_closed scope parts) (λ vs. gives c (Generated known vs))) (items_of_closed (call_value_closed scope (Defined known) name parts))
  call_iterable_closed scope (Standard which) name parts = standard_iterable_closed scope which parts
  call_iterable_closed scope (Constructor number class) name parts = items_of_closed (call_value_closed scope (Constructor number class) name parts)
  call_iterable_closed scope Variable name parts = items_of_closed (call_value_closed scope Variable name parts)
  call_iterable_closed scope Unknown name parts = items_of_closed (call_value_closed scope Unknown name parts)

  -- ---- forms

  -- a form of an expression whose parts are such
  abbrev form_under : Setting → Expr-F Part Link → Expr-F (Expr × Means) (Comparison × Compares)
  form_under setting y = map-Expr Expr Comparison (Expr × Means) (Comparison × Compares) (under setting) (link_under setting) (map-Expr Part Link Expr Comparison tree link y)

  condition_in_closed : (scope : Scope) (o : Option Part) → R 0 Bool (spec.condition_in less scope (option_map (under less) (option_map tree o))) (spec.condition_in greater scope (option_map (under greater) (option_map tree o)))
  condition_in_closed scope None = gives c _
  condition_in_closed scope (Some p) = truth_in_closed scope p

  bound_in_closed : (scope : Scope) (o : Option Part) → R 0 Value (spec.bound_in less scope (option_map (under less) (option_map tree o))) (spec.bound_in greater scope (option_map (under greater) (option_map tree o)))
  bound_in_closed scope None = gives c _
  bound_in_closed scope (Some p) = value_in_closed scope p

  slice_of_closed : (scope : Scope) (p : Part) (from to : Option Part) → R 0 Value (spec.value_in less scope (under less p.0) >>= λ v. spec.bound_in less scope (option_map (under less) (option_map tree from)) >>= λ a. spec.bound_in less scope (option_map (under less) (option_map tree to)) >>= λ b. slice rules (out-Value v) a b) (spec.value_in greater scope (under greater p.0) >>= λ v. spec.bound_in greater scope (option_map (under greater) (option_map tree from)) >>= λ a. spec.bound_in greater scope (option_map (under greater) (option_map tree to)) >>= λ b. slice rules (out-Value v) a b)
  slice_of_closed scope p from to = chain c (value_in_closed scope p) (λ v. chain c (bound_in_closed scope from) (λ a. chain c (bound_in_closed scope to) (λ b. slice_closed c (out-Value v) a b)))

  value_of_closed : (scope : Scope) (y : Expr-F Part Link) → R 0 Value (spec.value_of less scope (form_under less y)) (spec.value_of greater scope (form_under greater y))
  value_of_closed scope (Expr-F.Name n name) = read_name_closed c program scope name
  value_of_closed scope (Expr-F.Number n z) = gives c _
  value_of_closed scope (Expr-F.Text n text) = gives c _
  value_of_closed scope (Expr-F.True n) = gives c _
  value_of_closed scope (Expr-F.False n) = gives c _
  value_of_closed scope (Expr-F.None n) = gives c _
  value_of_closed scope (Expr-F.Bracketed n p) = value_in_closed scope p
  value_of_closed scope (Expr-F.Tuple n commas parts) = chain c (values_in_closed scope parts) (λ vs. gives c _)
  value_of_closed scope (Expr-F.List n parts) = chain c (values_in_closed scope parts) (λ vs. allocate_closed c _)
  value_of_closed scope (Expr-F.Comprehension n item names p None) =
      chain c (iterable_in_closed scope p) (λ goes_over. comprehended_closed _ names goes_over None _ _ item.0 _ _ (condition_in_closed (with_locals (loop_names names) scope) None) (value_in_closed (with_locals (loop_names names) scope) item))
  value_of_closed scope (Expr-F.Comprehension n item names p (Some o)) =
      chain c (iterable_in_closed scope p) (λ goes_over. comprehended_closed _ names goes_over (Some o.0) _ _ item.0 _ _ (condition_in_closed (with_locals (loop_names names) scope) (Some o)) (value_in_closed (with_locals (loop_names names) scope) item))
  value_of_closed scope (Expr-F.Conditional n p condition q) = chain c (truth_in_closed scope condition) (λ t. pick c t (value_in_closed scope p) (value_in_closed scope q))
  value_of_closed scope (Expr-F.Or n parts) = some_true_closed scope parts
  value_of_closed scope (Expr-F.And n parts) = all_true_closed scope parts
  value_of_closed scope (Expr-F.Not n p) = chain c (truth_in_closed scope p) (λ t. gives c _)
  value_of_closed scope (Expr-F.Compare n p links) = chain c (value_in_closed scope p) (λ v. chain_closed scope links v)
  value_of_closed scope (Expr-F.Unary n by p) = chain c (value_in_closed scope p) (λ v. operate_closed c (λ sight. unary_made by (out-Value v)))
  value_of_closed scope (Expr-F.Binary n by p q) = chain c (value_in_closed scope p) (λ v. chain c (value_in_closed scope q) (λ w. binary_closed c by v w))
  value_of_closed scope (Expr-F.Call n name parts) = call_value_closed scope (callee program scope name.spelling) name.spelling parts
  value_of_closed scope (Expr-F.MethodCall n m p name parts) = chain c (value_in_closed scope p) (λ v. chain c (values_in_closed scope parts) (λ vs. call_method_closed v name vs))
  value_of_closed scope (Expr-F.Index n p q) = chain c (value_in_closed scope p) (λ v. chain c (value_in_closed scope q) (λ w. item_at_closed c v w))
  value_of_closed scope (Expr-F.Slice n p None None) = slice_of_closed scope p None None
  value_of_closed scope (Expr-F.Slice n p None (Some q)) = slice_of_closed scope p None (Some q)
  value_of_closed scope (Expr-F.Slice n p (Some q) None) = slice_of_closed scope p (Some q) None
  value_of_closed scope (Expr-F.Slice n p (Some q) (Some r)) = slice_of_closed scope p (Some q) (Some r)
  value_of_closed scope (Expr-F.Field n p name) = chain c (value_in_closed scope p) (λ v. field_closed c program v name)

  iterable_of_closed : (scope : Scope) (y : Expr-F Part Link) → R 0 Iterable (spec.iterable_of less scope (form_under less y)) (spec.iterable_of greater scope (form_under greater y))
  iterable_of_closed scope (Expr-F.Call n name parts) = call_iterable_closed scope (callee program scope name.spelling) name.spelling parts
  iterable_of_closed scope (Expr-F.MethodCall n m p name parts) = chain c (value_in_closed scope p) (λ v. chain c (values_in_closed scope parts) (λ vs. iterable_method_closed v name vs))
  iterable_of_closed scope (Expr-F.Name n name) = items_of_closed (value_of_closed scope (Expr-F.Name n name))
  iterable_of_closed scope (Expr-F.Number n z) = items_of_closed (value_of_closed scope (Expr-F.Number n z))
  iterable_of_closed scope (Expr-F.Text n text) = items_of_closed (value_of_closed scope (Expr-F.Text n text))
  iterable_of_closed scope (Expr-F.True n) = items_of_closed (value_of_closed scope (Expr-F.True n))
  iterable_of_closed scope (Expr-F.False n) = items_of_closed (value_of_closed scope (Expr-F.False n))
  iterable_of_closed scope (Expr-F.None n) = items_of_closed (value_of_closed scope (Expr-F.None n))
  iterable_of_closed scope (Expr-F.Bracketed n p) = items_of_closed (value_of_closed scope (Expr-F.Bracketed n p))
  iterable_of_closed scope (Expr-F.Tuple n commas parts) = items_of_closed (value_of_closed scope (Expr-F.Tuple n commas parts))
  iterable_of_closed scope (Expr-F.List n parts) = items_of_closed (value_of_closed scope (Expr-F.List n parts))
  iterable_of_closed scope (Expr-F.Comprehension n item names p o) = items_of_closed (value_of_closed scope (Expr-F.Comprehension n item names p o))
  iterable_of_closed scope (Expr-F.Conditional n p condition q) = items_of_closed (value_of_closed scope (Expr-F.Conditional n p condition q))
  iterable_of_closed scope (Expr-F.Or n parts) = items_of_closed (value_of_closed scope (Expr-F.Or n parts))
  iterable_of_closed scope (Expr-F.And n parts) = items_of_closed (value_of_closed scope (Expr-F.And n parts))
  iterable_of_closed scope (Expr-F.Not n p) = items_of_closed (value_of_closed scope (Expr-F.Not n p))
  iterable_of_closed scope (Expr-F.Compare n p links) = items_of_closed (value_of_closed scope (Expr-F.Compare n p links))
  iterable_of_closed scope (Expr-F.Unary n by p) = items_of_closed (value_of_closed scope (Expr-F.Unary n by p))
  iterable_of_closed scope (Expr-F.Binary n by p q) = items_of_closed (value_of_closed scope (Expr-F.Binary n by p q))
  iterable_of_closed scope (Expr-F.Index n p q) = items_of_closed (value_of_closed scope (Expr-F.Index n p q))
  iterable_of_closed scope (Expr-F.Slice n p from to) = items_of_closed (value_of_closed scope (Expr-F.Slice n p from to))
  iterable_of_closed scope (Expr-F.Field n p name) = items_of_closed (value_of_closed scope (Expr-F.Field n p name))

  -- ---- every expression

  alike : (p q p' q' : Means) → p ≡ p' → q ≡ q' → Both p' q' → Both p q
  alike p q p' q' a b e = subst (λ r. Both r q) (sym a) (subst (λ r. Both p' r) (sym b) e)

  alike_compare : (p q p' q' : Compares) → p ≡ p' → q ≡ q' → BothCompare p' q' → BothCompare p q
  alike_compare p q p' q' a b e = subst (λ r. BothCompare r q) (sym a) (subst (λ r. BothCompare p' r) (sym b) e)

  abbrev P : Expr → Type 0
  P e = Both (spec.meant less e) (spec.meant greater e)

  abbrev Q : Comparison → Type 0
  Q k = BothCompare (compares less k) (compares greater k)

  meant_form : (setting : Setting) (d : Expr-F Expr Comparison) → spec.meant setting (roll-Expr d) ≡ spec.expr_step setting (map-Expr Expr Comparison (Expr × Means) (Comparison × Compares) (under setting) (link_under setting) d)
  unfolding spec.meant
  meant_form setting d = para-roll-Expr Means Compares (spec.expr_step setting) (spec.comparison_step setting) d

  form_closed : (y : Expr-F Part Link) → P (roll-Expr (map-Expr Part Link Expr Comparison tree link y))
  form_closed y = alike _ _ _ _ (meant_form less _) (meant_form greater _) (λ scope. (value_of_closed scope y, iterable_of_closed scope y))

  comparison_form : (setting : Setting) (d : Comparison-F Expr Comparison) → compares setting (roll-Comparison d) ≡ spec.comparison_step setting (map-Comparison Expr Comparison (Expr × Means) (Comparison × Compares) (under setting) (link_under setting) d)
  unfolding spec.meant
  comparison_form setting d = para-roll-Comparison Means Compares (spec.expr_step setting) (spec.comparison_step setting) d

  comparison_closed : (y : Comparison-F Part Link) → Q (roll-Comparison (map-Comparison Part Link Expr Comparison tree link y))
  comparison_closed y = alike_compare _ _ _ _ (comparison_form less _) (comparison_form greater _) (λ scope v. chain c (value_in_closed scope y.right) (λ w. chain c (chain c (operate_closed c (compared_made y.comparator v w)) (λ b. truth_closed c b)) (λ holds. gives c _)))

  meant_closed : (e : Expr) → P e
  meant_closed = ind-Expr P Q (λ x y eq. subst (λ d. P (roll-Expr d)) eq (form_closed y)) (λ x y eq. subst (λ d. Q (roll-Comparison d)) eq (comparison_closed y))

  pub expr_closed : (scope : Scope) (e : Expr) → R 0 Value (spec.expr less scope e) (spec.expr greater scope e)
  expr_closed scope e = (meant_closed e scope).0

  pub iterable_closed : (scope : Scope) (e : Expr) → R 0 Iterable (spec.iterable less scope e) (spec.iterable greater scope e)
  iterable_closed scope e = (meant_closed e scope).1

  pub exprs_closed : (scope : Scope) (es : List Expr) → R 0 (List Value) (spec.exprs less scope es) (spec.exprs greater scope es)
  exprs_closed scope [] = gives c _
  exprs_closed scope (e ∷ es) = chain c (expr_closed scope e) (λ v. chain c (exprs_closed scope es) (λ vs. gives c _))

  pub condition_closed : (scope : Scope) (e : Expr) → R 0 Bool (spec.condition less scope e) (spec.condition greater scope e)
  condition_closed scope e = chain c (expr_closed scope e) (λ v. truth_closed c v)
