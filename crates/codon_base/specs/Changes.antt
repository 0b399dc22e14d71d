-- What a heap ends as, where a `&mut` to one of its objects was handed out.
use Rattle.std.specs.Prelude.{ℕ, List, Option, slice_set}
use Rattle.std.specs.Borrow.{LendsIf, MutBor, Fml}
use Rattle.codon_base.specs.declared.object.Object.{Object}
use Rattle.codon_base.specs.declared.value.Ref.{Ref}
use Rattle.codon_base.specs.Levels.{replaced}
use Rattle.codon_base.specs.contracts.heap.Heap as heap
use Rattle.codon_base.specs.contracts.heap.Level as level
use Rattle.codon_base.specs.contracts.object.Object as object

-- a level ends with the last value behind the reference at that place, and as it was where it has no such place
abbrev pub LendsPlace : MutBor (List Object) → ℕ → Option (MutBor Object) → Fml
LendsPlace objects place r = LendsIf level.the_row object.the_row objects r (slice_set objects.now place) objects.now

-- a heap ends with the last value behind the reference as the level with that number, and as it was where it has no such level
abbrev pub LendsLevel : MutBor (List (List Object)) → ℕ → Option (MutBor (List Object)) → Fml
LendsLevel levels number r = LendsIf heap.the_row level.the_row levels r (slice_set levels.now number) levels.now

-- a heap ends with the last value behind the reference at that address, and as it was where it has no such address
abbrev pub LendsObject : MutBor (List (List Object)) → Ref → Option (MutBor Object) → Fml
LendsObject levels at r = LendsIf heap.the_row object.the_row levels r (replaced levels.now at) levels.now
