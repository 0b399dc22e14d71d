-- Steps on objects, variables and operators are the same in both runs, so a closed relation holds of them.
use Rattle.std.proofs.Common.{◌≡◌, ℕ, Bool, nat_lt, nat_le, List, [], ◌∷◌, length, Option, Some, None, ℤ, pos, ◌==◌}
use Rattle.std.specs.Prelude.{codes}
use Rattle.std.proofs.lemmas.List.{length-set}
use Rattle.codon_base.specs.Levels.{replaced, added}
use Rattle.codon_base.specs.declared.fault.Fault.{Fault}
use Rattle.codon_base.specs.declared.value.Ref.{Ref}
use Rattle.codon_base.specs.declared.value.Value.{Value, Value-F, out-Value}
use Rattle.codon_base.specs.declared.value.Value.TheVariants as value
use Rattle.codon_base.specs.declared.object.Object.{Object}
use Rattle.codon_base.specs.declared.object.Object.TheVariants.{List as Listed, Instance}
use Rattle.codon_base.specs.Operators.{Made, made, new_list, fault as faulted, Sight, size_limit}
use Rattle.source_trees.specs.declared.statement.LoopNames.{LoopNames}
use Rattle.source_trees.specs.declared.statement.LoopNames.TheVariants as names
use Rattle.source_trees.specs.declared.operator.BinaryOp.{BinaryOp}
use Rattle.meaning_rules.specs.State.{Spelling, same, is_among, Flow}
use Rattle.meaning_rules.specs.Outcome.{Run, ◌>>=◌, pure}
use Rattle.meaning_rules.specs.Task.{Access, Whole, Consumer, Task, Rules}
use Rattle.meaning_rules.specs.Program.{Program, Scope, Builtin}
use Rattle.meaning_rules.specs.Objects as objects
use Rattle.meaning_rules.specs.Variables as variables
use Rattle.meaning_rules.specs.Operations as operations
use Rattle.meaning_rules.proofs.Closed.{Relation, Closed, chain, gives, pick}

-- a new object and one in the place of another leave as many levels

added_levels : (new : Object) (levels : List (List Object)) → length (added levels new) ≡ length levels
added_levels new levels = length-set levels _ _

replaced_levels : (new : Object) (at : Ref) (levels : List (List Object)) → length (replaced levels at new) ≡ length levels
replaced_levels new at levels = length-set levels _ _

module _ {R : Relation} {rules : Rules} {limit more : ℕ} {low high : List Consumer → Task → Run Flow} (c : Closed R rules limit more low high) where
  -- ---- heap and operators

  pub allocate_closed : {n : ℕ} (new : Object) → R n Value (objects.allocate new) (objects.allocate new)
  allocate_closed new = chain c (c.looks _ _ _) (λ at. chain c (c.changes_levels _ _ (added_levels new)) (λ _. gives c _))

  pub replace_closed : {n : ℕ} (at : Ref) (new : Object) → R n (Unit {0}) (objects.replace at new) (objects.replace at new)
  replace_closed at new = c.changes_levels _ _ (replaced_levels new at)

  pub settled_closed : {n : ℕ} (m : Made) → R n Value (objects.settled m) (objects.settled m)
  settled_closed (made v) = gives c _
  settled_closed (new_list items) = allocate_closed _
  settled_closed (faulted kind text) = c.stops _ _ _

  pub operate_closed : {n : ℕ} (operator : Sight → Made) → R n Value (objects.operate rules operator) (objects.operate rules operator)
  operate_closed operator = chain c (c.looks _ _ _) (λ m. settled_closed m)

  pub one_of_closed : {n : ℕ} {A : Type 0} (o : Option A) → R n A (objects.one_of o) (objects.one_of o)
  one_of_closed (Some a) = gives c _
  one_of_closed None = c.stops _ _ _

  pub truth_closed : {n : ℕ} (v : Value) → R n Bool (objects.truth rules v) (objects.truth rules v)
  truth_closed v = chain c (c.looks _ _ _) (λ o. one_of_closed o)

  pub text_in_closed : {n : ℕ} (v : Value-F Value) → R n (List ℕ) (objects.text_in v) (objects.text_in v)
  text_in_closed (Value-F.Text text) = gives c _
  text_in_closed _ = c.stops _ _ _

  pub int_in_closed : {n : ℕ} (v : Value-F Value) → R n ℤ (objects.int_in v) (objects.int_in v)
  int_in_closed (Value-F.Int z) = gives c _
  int_in_closed _ = c.stops _ _ _

  pub items_in_tuple_closed : {n : ℕ} (v : Value-F Value) → R n (List Value) (objects.items_in_tuple v) (objects.items_in_tuple v)
  items_in_tuple_closed (Value-F.Tuple items) = gives c _
  items_in_tuple_closed _ = c.stops _ _ _

  pub ref_in_closed : {n : ℕ} (v : Value-F Value) → R n Ref (objects.ref_in v) (objects.ref_in v)
  ref_in_closed (Value-F.Ref at) = gives c _
  ref_in_closed _ = c.stops _ _ _

  -- ---- lists

  items_in_closed : {n : ℕ} (o : Option Object) → R n (List Value) (objects.items_in o) (objects.items_in o)
  items_in_closed (Some (Listed items)) = gives c _
  items_in_closed (Some (Instance class fields)) = c.stops _ _ _
  items_in_closed None = c.stops _ _ _

  pub list_at_closed : {n : ℕ} (at : Ref) → R n (List Value) (objects.list_at at) (objects.list_at at)
  list_at_closed at = chain c (c.looks _ _ _) (λ o. items_in_closed o)

  allowed_closed : {n : ℕ} (o : Option Fault) → R n (Unit {0}) (objects.allowed o) (objects.allowed o)
  allowed_closed None = gives c _
  allowed_closed (Some broken) = c.stops _ _ _

  pub allow_closed : {n : ℕ} (access : Access) → R n (Unit {0}) (objects.allow rules access) (objects.allow rules access)
  allow_closed access = chain c (c.looks _ _ _) (λ o. allowed_closed o)

  in_sequence_closed : {n : ℕ} {A : Type 0} (o : Option A) → R n A (objects.in_sequence o) (objects.in_sequence o)
  in_sequence_closed (Some a) = gives c _
  in_sequence_closed None = c.stops _ _ _

  used_place_closed : {n : ℕ} (at : Ref) (size : ℕ) (index : ℤ) → R n ℕ (objects.used_place rules at size index) (objects.used_place rules at size index)
  used_place_closed at size index = chain c (chain c (c.looks _ _ _) (λ o. in_sequence_closed o)) (λ place. chain c (allow_closed _) (λ _. gives c _))

  item_of_list_closed : {n : ℕ} (at : Ref) (index : ℤ) → R n Value (objects.item_of_list rules at index) (objects.item_of_list rules at index)
  item_of_list_closed at index = chain c (list_at_closed at) (λ items. chain c (used_place_closed at _ index) (λ place. in_sequence_closed _))

  indexed_by_closed : {n : ℕ} (v : Value-F Value) (index : ℤ) → R n Value (objects.indexed_by rules v index) (objects.indexed_by rules v index)
  indexed_by_closed (Value-F.Ref at) index = item_of_list_closed at index
  indexed_by_closed (Value-F.Text text) index = chain c (in_sequence_closed _) (λ code. gives c _)
  indexed_by_closed (Value-F.Tuple items) index = in_sequence_closed _
  indexed_by_closed _ index = c.stops _ _ _

  pub item_at_closed : {n : ℕ} (v w : Value) → R n Value (objects.item_at rules v w) (objects.item_at rules v w)
  item_at_closed v w = chain c (int_in_closed _) (λ z. indexed_by_closed _ z)

  pub put_closed : {n : ℕ} (v w u : Value) → R n (Unit {0}) (objects.put rules v w u) (objects.put rules v w u)
  put_closed v w u = chain c (ref_in_closed _) (λ at. chain c (list_at_closed at) (λ items. chain c (int_in_closed _) (λ z. chain c (used_place_closed at _ z) (λ place. replace_closed at _))))

  found_in_list_closed : {n : ℕ} (at : Ref) (place : ℕ) (items : List Value) → R n (Option Value) (objects.found_in_list rules at place items) (objects.found_in_list rules at place items)
  found_in_list_closed at place items = pick c (nat_lt place (length items)) (chain c (item_of_list_closed at (pos place)) (λ v. gives c (Some v))) (gives c None)

  found_by_closed : {n : ℕ} (place : ℕ) (v : Value-F Value) → R n (Option Value) (objects.found_by rules place v) (objects.found_by rules place v)
  found_by_closed place (Value-F.Ref at) = chain c (list_at_closed at) (λ items. found_in_list_closed at place items)
  found_by_closed place (Value-F.Text text) = gives c _
  found_by_closed place _ = c.stops _ _ _

  pub found_at_closed : {n : ℕ} (v : Value) (place : ℕ) → R n (Option Value) (objects.found_at rules v place) (objects.found_at rules v place)
  found_at_closed v place = found_by_closed place (out-Value v)

  bounded_closed : {n : ℕ} (missing size : ℕ) (v : Value-F Value) → R n ℕ (objects.bounded missing size v) (objects.bounded missing size v)
  bounded_closed missing size Value-F.Unit = gives c _
  bounded_closed missing size (Value-F.Int z) = gives c _
  bounded_closed missing size _ = c.stops _ _ _

  sliced_by_closed : {n : ℕ} {A : Type 0} (items : List A) (from to : Value) (give : List A → Run Value) → ((part : List A) → R n Value (give part) (give part)) → R n Value (objects.sliced_by items from to give) (objects.sliced_by items from to give)
  sliced_by_closed items from to give e = chain c (bounded_closed _ _ _) (λ a. chain c (bounded_closed _ _ _) (λ b. e _))

  pub slice_closed : {n : ℕ} (v : Value-F Value) (from to : Value) → R n Value (objects.slice rules v from to) (objects.slice rules v from to)
  slice_closed (Value-F.Text text) from to = sliced_by_closed text from to (λ part. pure (value.Text part)) (λ part. gives c (value.Text part))
  slice_closed (Value-F.Ref at) from to = chain c (list_at_closed at) (λ items. sliced_by_closed items from to (λ part. objects.allow rules (Whole at) >>= λ _. objects.allocate (Listed part)) (λ part. chain c (allow_closed (Whole at)) (λ _. allocate_closed (Listed part))))
  slice_closed _ from to = c.stops _ _ _

  -- ---- methods of lists

  resize_closed : {n : ℕ} (at : Ref) (items : List Value) → R n (Unit {0}) (objects.resize at items) (objects.resize at items)
  resize_closed at items = pick c (nat_le (length items) size_limit) (replace_closed at _) (c.stops _ _ _)

  pub append_closed : {n : ℕ} (at : Ref) (v : Value) → R n (Unit {0}) (objects.append at v) (objects.append at v)
  append_closed at v = chain c (list_at_closed at) (λ items. resize_closed at _)

  pub extend_closed : {n : ℕ} (at : Ref) (v : Value) → R n (Unit {0}) (objects.extend rules at v) (objects.extend rules at v)
  extend_closed at v = chain c (list_at_closed at) (λ items. chain c (ref_in_closed _) (λ from. chain c (list_at_closed from) (λ others. chain c (allow_closed _) (λ _. resize_closed at _))))

  pop_last_closed : {n : ℕ} (at : Ref) (items : List Value) (o : Option Value) → R n Value (objects.pop_last at items o) (objects.pop_last at items o)
  pop_last_closed at items (Some v) = chain c (replace_closed at _) (λ _. gives c _)
  pop_last_closed at items None = c.stops _ _ _

  pop_closed : {n : ℕ} (at : Ref) → R n Value (objects.pop at) (objects.pop at)
  pop_closed at = chain c (list_at_closed at) (λ items. pop_last_closed at items _)

  copy_closed : {n : ℕ} (at : Ref) → R n Value (objects.copy rules at) (objects.copy rules at)
  copy_closed at = chain c (list_at_closed at) (λ items. chain c (allow_closed _) (λ _. allocate_closed _))

  clear_closed : {n : ℕ} (at : Ref) → R n (Unit {0}) (objects.clear at) (objects.clear at)
  clear_closed at = chain c (list_at_closed at) (λ items. replace_closed at _)

  -- ---- fields

  instance_in_closed : {n : ℕ} (o : Option Object) → R n objects.Instanced (objects.instance_in o) (objects.instance_in o)
  instance_in_closed (Some (Instance class fields)) = gives c _
  instance_in_closed (Some (Listed items)) = c.stops _ _ _
  instance_in_closed None = c.stops _ _ _

  pub instance_at_closed : {n : ℕ} (at : Ref) → R n objects.Instanced (objects.instance_at at) (objects.instance_at at)
  instance_at_closed at = chain c (c.looks _ _ _) (λ o. instance_in_closed o)

  field_place_closed : {n : ℕ} (program : Program) (number : ℕ) (name : Spelling) → R n ℕ (objects.field_place program number name) (objects.field_place program number name)
  field_place_closed program number name = chain c (one_of_closed _) (λ class. one_of_closed _)

  set_value_closed : {n : ℕ} (text : List ℕ) (w : Value-F Value) (v : Value) → R n Value (objects.set_value text w v) (objects.set_value text w v)
  set_value_closed text Value-F.Unset v = c.stops _ _ _
  set_value_closed text _ v = gives c _

  pub if_set_closed : {n : ℕ} (text : List ℕ) (v : Value) → R n Value (objects.if_set text v) (objects.if_set text v)
  if_set_closed text v = set_value_closed text (out-Value v) v

  pub field_closed : {n : ℕ} (program : Program) (v : Value) (name : Spelling) → R n Value (objects.field program v name) (objects.field program v name)
  field_closed program v name =
      chain c (ref_in_closed _) (λ at. chain c (instance_at_closed at) (λ instance. chain c (field_place_closed program _ name) (λ place. chain c (one_of_closed _) (λ w. if_set_closed _ w))))

  pub set_field_closed : {n : ℕ} (program : Program) (v : Value) (name : Spelling) (new : Value) → R n (Unit {0}) (objects.set_field program rules v name new) (objects.set_field program rules v name new)
  set_field_closed program v name new =
      chain c (ref_in_closed _) (λ at. chain c (instance_at_closed at) (λ instance. chain c (field_place_closed program _ name) (λ place. chain c (one_of_closed _) (λ old. chain c (allow_closed _) (λ _. replace_closed at _)))))

  -- ---- variables

  held_by_closed : {n : ℕ} (scope : Scope) (name : Spelling) → R n Value (variables.held_by scope name) (variables.held_by scope name)
  held_by_closed scope name = pick c (is_among name scope.locals) (c.looks _ _ _) (c.looks _ _ _)

  pub read_name_closed : {n : ℕ} (program : Program) (scope : Scope) (name : Spelling) → R n Value (variables.read_name program scope name) (variables.read_name program scope name)
  read_name_closed program scope name = chain c (held_by_closed scope name) (λ v. if_set_closed _ v)

  pub set_name_closed : {n : ℕ} (scope : Scope) (name : Spelling) (v : Value) → R n (Unit {0}) (variables.set_name scope name v) (variables.set_name scope name v)
  set_name_closed scope name v = pick c (is_among name scope.locals) (c.changes_names _ _) (c.changes_globals _ _)

  set_each_closed : {n : ℕ} (scope : Scope) (names : List Spelling) (vs : List Value) → R n (Unit {0}) (variables.set_each scope names vs) (variables.set_each scope names vs)
  set_each_closed scope (name ∷ names) (v ∷ vs) = chain c (set_name_closed scope name v) (λ _. set_each_closed scope names vs)
  set_each_closed scope [] vs = gives c _
  set_each_closed scope (name ∷ names) [] = gives c _

  pub unpacked_closed : {n : ℕ} (count : ℕ) (v : Value) → R n (List Value) (variables.unpacked count v) (variables.unpacked count v)
  unpacked_closed count v = chain c (items_in_tuple_closed _) (λ items. pick c (length items == count) (gives c _) (c.stops _ _ _))

  pub set_loop_names_closed : {n : ℕ} (scope : Scope) (names : LoopNames) (v : Value) → R n (Unit {0}) (variables.set_loop_names scope names v) (variables.set_loop_names scope names v)
  set_loop_names_closed scope (names.One name) v = set_name_closed scope _ v
  set_loop_names_closed scope (names.Several all) v = chain c (unpacked_closed _ v) (λ items. set_each_closed scope _ items)

  -- ---- operators

  pub binary_closed : {n : ℕ} (by : BinaryOp) (v w : Value) → R n Value (operations.binary rules by v w) (operations.binary rules by v w)
  binary_closed by v w = operate_closed (operations.binary_made by (out-Value v) (out-Value w))

  pub builtin_closed : {n : ℕ} (which : Builtin) (given : List Value) → R n Value (operations.builtin rules which given) (operations.builtin rules which given)
  builtin_closed which [] = c.stops _ _ _
  builtin_closed which (v ∷ []) = operate_closed (operations.on_one which v)
  builtin_closed which (v ∷ w ∷ []) = operate_closed (λ sight. operations.on_two which v w)
  builtin_closed which (v ∷ w ∷ u ∷ others) = c.stops _ _ _

  nothing_closed : {n : ℕ} (p : Run (Unit {0})) → R n (Unit {0}) p p → R n Value (operations.nothing p) (operations.nothing p)
  nothing_closed p e = chain c e (λ _. gives c _)

  method_without_closed : {n : ℕ} (name : Spelling) (at : Ref) → R n Value (operations.method_without rules name at) (operations.method_without rules name at)
  method_without_closed name at = pick c (same name (codes "pop")) (pop_closed at) (pick c (same name (codes "copy")) (copy_closed at) (pick c (same name (codes "clear")) (nothing_closed _ (clear_closed at)) (c.stops _ _ _)))

  method_with_closed : {n : ℕ} (name : Spelling) (at : Ref) (v : Value) → R n Value (operations.method_with rules name at v) (operations.method_with rules name at v)
  method_with_closed name at v = pick c (same name (codes "append")) (nothing_closed _ (append_closed at v)) (pick c (same name (codes "extend")) (nothing_closed _ (extend_closed at v)) (c.stops _ _ _))

  pub list_method_closed : {n : ℕ} (name : Spelling) (at : Ref) (given : List Value) → R n Value (operations.list_method rules name at given) (operations.list_method rules name at given)
  list_method_closed name at [] = method_without_closed name at
  list_method_closed name at (v ∷ []) = method_with_closed name at v
  list_method_closed name at (v ∷ w ∷ others) = c.stops _ _ _
