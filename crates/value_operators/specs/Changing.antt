-- Changes to a list or an instance that several names may share (Python reference, 3.1 and 7.2).
use Rattle.std.specs.Prelude.{◌≡◌, ℕ, nat_lt, if◌then◌else◌, List, [], ◌∷◌, ◌++◌, length, slice_set, Option, Some, None, option_map, option_and_then, Result, Ok, Err}
use Rattle.codon_base.specs.declared.value.Ref.{Ref}
use Rattle.codon_base.specs.declared.value.Value.{Value}
use Rattle.codon_base.specs.declared.object.Object.{Object}
use Rattle.codon_base.specs.declared.object.Object.TheVariants.{List as Listed, Instance}
use Rattle.codon_base.specs.Levels.{object_at, replaced}
use Rattle.value_operators.specs.declared.change.ChangeRefusal.{ChangeRefusal}
use Rattle.value_operators.specs.declared.change.ChangeRefusal.TheVariants.{NotThere, Memory}

-- what an object becomes, where the change has a meaning for it
abbrev pub with_place : {A : Type 0} → List A → ℕ → A → Option (List A)
with_place items place item = if nat_lt place (length items) then Some (slice_set items place item) else None

abbrev pub item_set : ℕ → Value → Object → Option Object
item_set place item (Listed values) = option_map Listed (with_place values place item)
item_set place item (Instance class fields) = None

abbrev pub item_pushed : Value → Object → Option Object
item_pushed item (Listed values) = Some (Listed (values ++ item ∷ []))
item_pushed item (Instance class fields) = None

abbrev pub cleared : Object → Option Object
cleared (Listed values) = Some (Listed [])
cleared (Instance class fields) = None

abbrev pub extended : List Value → Object → Option Object
extended more (Listed values) = Some (Listed (values ++ more))
extended more (Instance class fields) = None

abbrev pub field_set : ℕ → Value → Object → Option Object
field_set place value (Listed values) = None
field_set place value (Instance class fields) = option_map (Instance class) (with_place fields place value)

-- whether an address has no list with an item
abbrev pub HasNoItem : Option Object → Type 0
HasNoItem (Some (Listed (v ∷ vs))) = ⊥
HasNoItem _ = Unit {0}

-- the last item was taken out of an object; or it has none, and nothing changed
abbrev pub Pops : Option Value → Object → Object → Type 0
Pops (Some item) (Listed values) (Listed rest) = values ≡ rest ++ item ∷ []
Pops (Some item) _ new = ⊥
Pops None (Listed values) new = (values ≡ []) × (new ≡ Listed values)
Pops None (Instance class fields) new = new ≡ Instance class fields

-- the same of the list at an address
abbrev pub PopsAt : Option Value → List (List Object) → Ref → List (List Object) → Type 0
PopsAt (Some item) old at new = (rest : List Value) × ((object_at old at ≡ Some (Listed (rest ++ item ∷ []))) × (new ≡ replaced old at (Listed rest)))
PopsAt None old at new = HasNoItem (object_at old at) × (new ≡ old)

-- the heap after a change of the object at an address
abbrev pub changed : (Object → Option Object) → List (List Object) → Ref → Option (List (List Object))
changed change levels at = option_map (replaced levels at) (option_and_then change (object_at levels at))

-- the change was made; or it has no meaning there, and nothing changed; or there was no memory for it, and nothing changed
abbrev pub Changes : {S : Type 0} → Result (Unit {0}) ChangeRefusal → Option S → S → S → Type 0
Changes (Ok done) wanted old new = wanted ≡ Some new
Changes (Err NotThere) wanted old new = (wanted ≡ None) × (new ≡ old)
Changes (Err Memory) wanted old new = new ≡ old
