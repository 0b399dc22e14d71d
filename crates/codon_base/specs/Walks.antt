-- Walks over values: depth first, from left to right, with two limits.
use Rattle.std.specs.Prelude.{ℕ, ◌+◌, if◌then◌else◌, nat_lt, List, Option, Some, None}
use Rattle.codon_base.specs.declared.value.Ref.{Ref}
use Rattle.codon_base.specs.declared.value.Value.{Value}
use Rattle.codon_base.specs.declared.object.Object.{Object}
use Rattle.codon_base.specs.declared.object.Object.TheVariants.{List as Listed, Instance}
use Rattle.codon_base.specs.Levels.{object_at}

-- why a walk ends before its answer is known: at a value of a wrong kind, at a list that is lent to parallel iterations, or past one of the limits
pub data End : Type 0 where
  wrong_kind : End
  lent_list : End
  too_large : End

-- a walk so far: its answer and how many values it has met, or why and at which value it ended, counted from 1 in the order of the walk
pub data Walked (A : Type 0) : Type 0 where
  going : A → ℕ → Walked A
  ended : End → ℕ → Walked A

-- a walk, by how many values were met before it
abbrev pub Walk : Type 0 → Type 0
Walk A = ℕ → Walked A

abbrev pub and_then : {A B : Type 0} → Walked A → (A → Walk B) → Walked B
and_then (going a met) next = next a met
and_then (ended why met) next = ended why met

-- one walk after another
infixl 1 ◌>>=◌
abbrev pub ◌>>=◌ : {A B : Type 0} → Walk A → (A → Walk B) → Walk B
(first >>= next) met = and_then (first met) next

abbrev pub answer : {A : Type 0} → A → Walk A
answer a met = going a met

abbrev pub end_by : {A : Type 0} → End → Walk A
end_by why met = ended why met

-- how many values one walk may meet, and how many lists and tuples it may enter one inside the other
abbrev pub value_limit : ℕ
value_limit = 33554432

abbrev pub nesting_limit : ℕ
nesting_limit = 1000

-- a value is met, and counted before it is looked at
abbrev pub meet : Walk (Unit {0})
meet met = if nat_lt met value_limit then going tt (met + 1) else ended too_large (met + 1)

-- what a walk finds at an address: the items of a list, or the reason why it ends there
pub data Seen : Type 0 where
  items : List Value → Seen
  barred : End → Seen

abbrev pub seen_object : Option Object → Seen
seen_object (Some (Listed values)) = items values
seen_object (Some (Instance class fields)) = barred wrong_kind
seen_object None = barred wrong_kind

-- what it finds on a heap of which no list is lent
abbrev pub seen_in : List (List Object) → Ref → Seen
seen_in levels at = seen_object (object_at levels at)

-- the items that were found
abbrev pub found : Seen → Walk (List Value)
found (items values) = answer values
found (barred why) = end_by why
