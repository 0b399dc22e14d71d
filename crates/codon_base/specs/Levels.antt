-- A heap as the list of its levels, each the list of its objects.
use Rattle.std.specs.Prelude.{ℕ, ◌-◌, List, [], ◌∷◌, ◌++◌, length, slice_get, slice_set, Option, Some, None}
use Rattle.std.specs.List.{slice_index_or}
use Rattle.codon_base.specs.declared.object.Object.{Object}
use Rattle.codon_base.specs.declared.value.Ref.{Ref}

-- the object at a place of a level, where there are both
abbrev pub object_in : Option (List Object) → ℕ → Option Object
object_in (Some objects) place = slice_get objects place
object_in None place = None

-- the object at an address, where the heap has one
abbrev pub object_at : List (List Object) → Ref → Option Object
object_at levels at = object_in (slice_get levels at.level) at.place

-- the objects of the level with that number, where there is one
abbrev pub level_at : List (List Object) → ℕ → List Object
level_at levels number = slice_index_or levels number []

-- the levels with another object at an address
abbrev pub replaced : List (List Object) → Ref → Object → List (List Object)
replaced levels at object = slice_set levels at.level (slice_set (level_at levels at.level) at.place object)

-- the number of the last level, where new objects go
abbrev pub last_level : List (List Object) → ℕ
last_level levels = length levels - 1

-- the objects of the last level
abbrev pub last_objects : List (List Object) → List Object
last_objects levels = slice_index_or levels (last_level levels) []

-- the levels with one more object, at the end of the last level
abbrev pub added : List (List Object) → Object → List (List Object)
added levels object = slice_set levels (last_level levels) (last_objects levels ++ object ∷ [])

-- the address that this object has
abbrev pub next_address : List (List Object) → Ref
next_address levels = record { level = last_level levels; place = length (last_objects levels) }
