-- Where a walk over values ends early, and what it finds at an address.
use Rattle.std.specs.Prelude.{◌≡◌, List, Option, Some, None, Result, Ok, Err}
use Rattle.std.specs.Borrow.{Bor}
use Rattle.codon_base.specs.declared.value.Value.{Value}
use Rattle.codon_base.specs.Walks.{End, wrong_kind, lent_list, too_large, Seen, items, barred}
use Rattle.codon_base.specs.declared.walk.WalkEnd.{WalkEnd}
use Rattle.codon_base.specs.declared.walk.WalkEnd.TheVariants as reason

abbrev pub end_of : WalkEnd → End
end_of reason.WrongKind = wrong_kind
end_of reason.LentList = lent_list
end_of reason.TooLarge = too_large

-- the items of a list that may be looked at, or why it may not
abbrev pub IsSeen : Result (Bor (List Value)) WalkEnd → Seen → Type 0
IsSeen (Ok values) seen = seen ≡ items values.now
IsSeen (Err e) seen = seen ≡ barred (end_of e)

-- the items that stand at an address, or none where no list stands there
abbrev pub IsFound : Option (List Value) → Seen → Type 0
IsFound (Some values) seen = seen ≡ items values
IsFound None seen = seen ≡ barred wrong_kind
