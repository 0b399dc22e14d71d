-- Values and the objects behind them: operators, places of lists and texts, slices, methods of lists, and fields (the Python reference, 6.3, 3.1; the library reference, 'Sequence Types').
use Rattle.std.specs.Prelude.{ℕ, ◌-◌, Bool, true, false, if◌then◌else◌, nat_lt, nat_le, List, [], ◌∷◌, ◌++◌, length, slice_get, slice_set, take, Option, Some, None, ℤ, pos, negsuc, codes}
use Rattle.codon_base.specs.declared.fault.Fault.{Fault}
use Rattle.codon_base.specs.declared.fault.FaultKind.TheVariants as kind
use Rattle.codon_base.specs.declared.value.Ref.{Ref}
use Rattle.codon_base.specs.declared.value.Value.{Value, Value-F, out-Value}
use Rattle.codon_base.specs.declared.value.Value.TheVariants as value
use Rattle.codon_base.specs.declared.object.Object.{Object}
use Rattle.codon_base.specs.declared.object.Object.TheVariants.{List as Listed, Instance}
use Rattle.codon_base.specs.Levels.{object_at, replaced, added, next_address}
use Rattle.codon_base.specs.Sequences.{place_of, bound_of, sliced}
use Rattle.codon_base.specs.Operators.{Made, made, new_list, fault as faulted, Sight, size_limit, truth_of}
use Rattle.meaning_rules.specs.State.{Spelling, State, Faulted}
use Rattle.meaning_rules.specs.Outcome.{Run, ◌>>=◌, pure, stop, fault, wrong, look, change_levels}
use Rattle.meaning_rules.specs.Iterations.{is_lent}
use Rattle.meaning_rules.specs.Program.{Program, fields_of, place_named}
use Rattle.meaning_rules.specs.Task.{Access, Place, Whole, Field, Rules}

-- ---- the heap

abbrev pub object : Ref → Run (Option Object)
object at = look (λ s. object_at s.shared.levels at)

abbrev pub replace : Ref → Object → Run (Unit {0})
replace at new = change_levels (λ levels. replaced levels at new)

-- a new object on the last level
abbrev pub allocate : Object → Run Value
allocate new = look (λ s. next_address s.shared.levels) >>= λ at. change_levels (λ levels. added levels new) >>= λ _. pure (value.Ref at)

-- ---- operators

abbrev pub settled : Made → Run Value
settled (made v) = pure v
settled (new_list items) = allocate (Listed items)
settled (faulted kind text) = fault kind text

-- what operators see at a moment
abbrev pub is_some : {A : Type 0} → Option A → Bool
is_some (Some a) = true
is_some None = false

abbrev pub sight : Rules → State → Sight
sight rules s = record { levels = s.shared.levels; lent = λ at. is_some (rules.judge s.shared.iterations (Whole at)) }

abbrev pub operate : Rules → (Sight → Made) → Run Value
operate rules operator = look (λ s. operator (sight rules s)) >>= settled

abbrev pub one_of : {A : Type 0} → Option A → Run A
one_of (Some a) = pure a
one_of None = wrong

-- the truth of a value, as conditions take it
abbrev pub truth : Rules → Value → Run Bool
truth rules v = look (λ s. truth_of (sight rules s) (out-Value v)) >>= one_of

abbrev pub text_in : Value-F Value → Run (List ℕ)
text_in (Value-F.Text text) = pure text
text_in _ = wrong

abbrev pub int_in : Value-F Value → Run ℤ
int_in (Value-F.Int z) = pure z
int_in _ = wrong

abbrev pub items_in_tuple : Value-F Value → Run (List Value)
items_in_tuple (Value-F.Tuple items) = pure items
items_in_tuple _ = wrong

-- ---- lists

abbrev pub ref_in : Value-F Value → Run Ref
ref_in (Value-F.Ref at) = pure at
ref_in _ = wrong

abbrev pub items_in : Option Object → Run (List Value)
items_in (Some (Listed items)) = pure items
items_in _ = wrong

abbrev pub list_at : Ref → Run (List Value)
list_at at = object at >>= items_in

abbrev pub allowed : Option Fault → Run (Unit {0})
allowed None = pure tt
allowed (Some broken) = stop (Faulted broken)

-- a use of an object in the iterations that run
abbrev pub allow : Rules → Access → Run (Unit {0})
allow rules access = look (λ s. rules.judge s.shared.iterations access) >>= allowed

abbrev pub index_fault : {A : Type 0} → Run A
index_fault = fault kind.Index (codes "index out of range")

abbrev pub size_fault : {A : Type 0} → Run A
size_fault = fault kind.Size (codes "size limit reached")

abbrev pub in_sequence : {A : Type 0} → Option A → Run A
in_sequence (Some a) = pure a
in_sequence None = index_fault

-- a negative index counts from the end, but not of a list that is lent
abbrev pub lent_place : ℕ → ℤ → Option ℕ
lent_place size (pos n) = place_of size (pos n)
lent_place size (negsuc n) = None

abbrev pub place_in : Bool → ℕ → ℤ → Option ℕ
place_in lent size index = if lent then lent_place size index else place_of size index

-- the place of a list that an index names, where it may be used
abbrev pub used_place : Rules → Ref → ℕ → ℤ → Run ℕ
used_place rules at size index =
    look (λ s. place_in (is_lent s.shared.iterations at) size index) >>= in_sequence >>= λ place. allow rules (Place at place) >>= λ _. pure place

abbrev pub item_of_list : Rules → Ref → ℤ → Run Value
item_of_list rules at index =
    list_at at >>= λ items. used_place rules at (length items) index >>= λ place. in_sequence (slice_get items place)

abbrev pub placed : {A : Type 0} → List A → Option ℕ → Option A
placed items (Some place) = slice_get items place
placed items None = None

abbrev pub character : ℕ → Value
character code = value.Text (code ∷ [])

-- `container[index]` of a list, a text or a tuple
abbrev pub indexed_by : Rules → Value-F Value → ℤ → Run Value
indexed_by rules (Value-F.Ref at) index = item_of_list rules at index
indexed_by rules (Value-F.Text text) index = in_sequence (placed text (place_of (length text) index)) >>= λ code. pure (character code)
indexed_by rules (Value-F.Tuple items) index = in_sequence (placed items (place_of (length items) index))
indexed_by rules _ index = wrong

abbrev pub item_at : Rules → Value → Value → Run Value
item_at rules container index = int_in (out-Value index) >>= indexed_by rules (out-Value container)

-- `container[index] = v`
abbrev pub put : Rules → Value → Value → Value → Run (Unit {0})
put rules container index v =
    ref_in (out-Value container) >>= λ at. list_at at >>= λ items. int_in (out-Value index) >>= λ z. used_place rules at (length items) z >>= λ place. replace at (Listed (slice_set items place v))

-- the item that a loop over a list or a text finds at a place, where there is one
abbrev pub found_in_list : Rules → Ref → ℕ → List Value → Run (Option Value)
found_in_list rules at place items =
    if nat_lt place (length items) then (item_of_list rules at (pos place) >>= λ v. pure (Some v)) else pure None

abbrev pub found_in_text : Option ℕ → Option Value
found_in_text (Some code) = Some (character code)
found_in_text None = None

abbrev pub found_by : Rules → ℕ → Value-F Value → Run (Option Value)
found_by rules place (Value-F.Ref at) = list_at at >>= found_in_list rules at place
found_by rules place (Value-F.Text text) = pure (found_in_text (slice_get text place))
found_by rules place _ = wrong

abbrev pub found_at : Rules → Value → ℕ → Run (Option Value)
found_at rules container place = found_by rules place (out-Value container)

-- ---- slices

-- a bound of a slice that is not written is None
abbrev pub bounded : ℕ → ℕ → Value-F Value → Run ℕ
bounded missing size Value-F.Unit = pure missing
bounded missing size (Value-F.Int z) = pure (bound_of size z)
bounded missing size _ = wrong

abbrev pub sliced_by : {A : Type 0} → List A → Value → Value → (List A → Run Value) → Run Value
sliced_by items from to give =
    bounded 0 (length items) (out-Value from) >>= λ start. bounded (length items) (length items) (out-Value to) >>= λ stop. give (sliced items start stop)

abbrev pub slice : Rules → Value-F Value → Value → Value → Run Value
slice rules (Value-F.Text text) from to = sliced_by text from to (λ part. pure (value.Text part))
slice rules (Value-F.Ref at) from to = list_at at >>= λ items. sliced_by items from to (λ part. allow rules (Whole at) >>= λ _. allocate (Listed part))
slice rules _ from to = wrong

-- ---- methods of lists

abbrev pub resize : Ref → List Value → Run (Unit {0})
resize at items = if nat_le (length items) size_limit then replace at (Listed items) else size_fault

abbrev pub append : Ref → Value → Run (Unit {0})
append at v = list_at at >>= λ items. resize at (items ++ v ∷ [])

-- the items of another list go to the end
abbrev pub extend : Rules → Ref → Value → Run (Unit {0})
extend rules at other =
    list_at at >>= λ items. ref_in (out-Value other) >>= λ from. list_at from >>= λ more. allow rules (Whole from) >>= λ _. resize at (items ++ more)

abbrev pub pop_last : Ref → List Value → Option Value → Run Value
pop_last at items (Some v) = replace at (Listed (take (length items - 1) items)) >>= λ _. pure v
pop_last at items None = index_fault

abbrev pub pop : Ref → Run Value
pop at = list_at at >>= λ items. pop_last at items (placed items (place_of (length items) (negsuc 0)))

abbrev pub copy : Rules → Ref → Run Value
copy rules at = list_at at >>= λ items. allow rules (Whole at) >>= λ _. allocate (Listed items)

abbrev pub clear : Ref → Run (Unit {0})
clear at = list_at at >>= λ items. replace at (Listed [])

-- ---- fields

pub record Instanced : Type 0 where
  pub class : ℕ
  pub fields : List Value

abbrev pub instance_in : Option Object → Run Instanced
instance_in (Some (Instance class fields)) = pure (record { class = class; fields = fields })
instance_in _ = wrong

abbrev pub instance_at : Ref → Run Instanced
instance_at at = object at >>= instance_in

-- the place of a field in the instances of a class
abbrev pub field_place : Program → ℕ → Spelling → Run ℕ
field_place program number name = one_of (slice_get program.classes number) >>= λ class. one_of (place_named name (fields_of class))

abbrev pub set_value : List ℕ → Value-F Value → Value → Run Value
set_value text Value-F.Unset v = fault kind.Runtime text
set_value text _ v = pure v

-- a value that has been set
abbrev pub if_set : List ℕ → Value → Run Value
if_set text v = set_value text (out-Value v) v

-- `v.name`
abbrev pub field : Program → Value → Spelling → Run Value
field program v name =
    ref_in (out-Value v) >>= λ at. instance_at at >>= λ instance. field_place program instance.class name >>= λ place. one_of (slice_get instance.fields place) >>= if_set (codes "field is not set")

-- `v.name = new`
abbrev pub set_field : Program → Rules → Value → Spelling → Value → Run (Unit {0})
set_field program rules v name new =
    ref_in (out-Value v) >>= λ at. instance_at at >>= λ instance. field_place program instance.class name >>= λ place. one_of (slice_get instance.fields place) >>= λ old. allow rules (Field at place) >>= λ _. replace at (Instance instance.class (slice_set instance.fields place new))
