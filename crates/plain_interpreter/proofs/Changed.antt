-- What the changes of a heap leave, where the list or the instance is there.
use Rattle.std.proofs.Common.{◌≡◌, ◌<◌, refl, ap, sym, subst, ◌∙◌, ℕ, List, [], ◌∷◌, ◌++◌, length, Option, Some, None, Result, Ok, Err, slice_set}
use Rattle.std.specs.Prelude.{option_map, option_and_then, if◌then◌else◌}
use Rattle.std.proofs.lemmas.Bool.{lt-ltb}
use Rattle.codon_base.specs.declared.value.Ref.{Ref}
use Rattle.codon_base.specs.declared.value.Value.{Value}
use Rattle.codon_base.specs.declared.object.Object.{Object}
use Rattle.codon_base.specs.declared.object.Object.TheVariants.{List as Listed, Instance}
use Rattle.codon_base.specs.Levels.{object_at, replaced}
use Rattle.value_operators.specs.declared.change.ChangeRefusal.{ChangeRefusal}
use Rattle.value_operators.specs.declared.change.ChangeRefusal.TheVariants.{NotThere, Memory}
use Rattle.value_operators.specs.Changing.{item_set, item_pushed, cleared, field_set, changed, Changes}
use Rattle.meaning_rules.specs.Outcome.{Gives, change_levels}
use Rattle.meaning_rules.specs.Objects.{replace}
use Rattle.plain_interpreter.specs.Seen.{seen, Tells}
use Rattle.plain_interpreter.specs.Sights.{IsMade, Came}
use Rattle.plain_interpreter.specs.declared.state.State.{State}
use Rattle.plain_interpreter.specs.declared.state.Stop.{Stop}

-- a change that has a meaning was made
made_by : {S : Type 0} (r : Result (Unit {0}) ChangeRefusal) (wanted : Option S) (w old new : S) → wanted ≡ Some w → Changes r wanted old new → IsMade r w new
made_by (Ok done) wanted w old new e h = cc
made_by (Err NotThere) wanted w old new e h = absurd (cc)
made_by (Err Memory) wanted w old new e h = tt

-- the object that is there is changed
changed_there : (change : Object → Option Object) (levels : List (List Object)) (at : Ref) (o new : Object) → object_at levels at ≡ Some o → change o ≡ Some new → changed change levels at ≡ Some (replaced levels at new)
changed_there change levels at o new e h = ap (λ found. option_map (replaced levels at) (option_and_then change found)) e ∙ ap (option_map (replaced levels at)) h

made_at : (r : Result (Unit {0}) ChangeRefusal) (change : Object → Option Object) (levels after : List (List Object)) (at : Ref) (o new : Object) → object_at levels at ≡ Some o → change o ≡ Some new → Changes r (changed change levels at) levels after → IsMade r (replaced levels at new) after
made_at r change levels after at o new e h = made_by r (changed change levels at) (replaced levels at new) levels after (changed_there change levels at o new e h)

pub item_set_made : (r : Result (Unit {0}) ChangeRefusal) (levels after : List (List Object)) (at : Ref) (place : ℕ) (v : Value) (items : List Value) → object_at levels at ≡ Some (Listed items) → place < length items → Changes r (changed (item_set place v) levels at) levels after → IsMade r (replaced levels at (Listed (slice_set items place v))) after
item_set_made r levels after at place v items e lt =
    made_at r (item_set place v) levels after at (Listed items) (Listed (slice_set items place v)) e (ap (λ b. option_map Listed (if b then Some (slice_set items place v) else None)) (lt-ltb place (length items) lt))

pub field_set_made : (r : Result (Unit {0}) ChangeRefusal) (levels after : List (List Object)) (at : Ref) (place : ℕ) (v : Value) (class : ℕ) (fields : List Value) → object_at levels at ≡ Some (Instance class fields) → place < length fields → Changes r (changed (field_set place v) levels at) levels after → IsMade r (replaced levels at (Instance class (slice_set fields place v))) after
field_set_made r levels after at place v class fields e lt =
    made_at r (field_set place v) levels after at (Instance class fields) (Instance class (slice_set fields place v)) e (ap (λ b. option_map (Instance class) (if b then Some (slice_set fields place v) else None)) (lt-ltb place (length fields) lt))

pub item_pushed_made : (r : Result (Unit {0}) ChangeRefusal) (levels after : List (List Object)) (at : Ref) (v : Value) (items : List Value) → object_at levels at ≡ Some (Listed items) → Changes r (changed (item_pushed v) levels at) levels after → IsMade r (replaced levels at (Listed (items ++ v ∷ []))) after
item_pushed_made r levels after at v items e = made_at r (item_pushed v) levels after at (Listed items) (Listed (items ++ v ∷ [])) e refl

pub cleared_made : (r : Result (Unit {0}) ChangeRefusal) (levels after : List (List Object)) (at : Ref) (items : List Value) → object_at levels at ≡ Some (Listed items) → Changes r (changed cleared levels at) levels after → IsMade r (replaced levels at (Listed [])) after
cleared_made r levels after at items e = made_at r cleared levels after at (Listed items) (Listed []) e refl

-- a run that has made a change of its heap has replaced the object
pub replaced_tells : (old : State) (after : List (List Object)) (at : Ref) (o : Object) (r : Result (Unit {0}) ChangeRefusal) (result : Result (Unit {0}) Stop) → IsMade r (replaced (seen old).shared.levels at o) after → Came r result → Tells (replace at o (seen old)) result (record old { store = record old.store { heap = after } })
unfolding seen change_levels
replaced_tells old after at o (Ok done) result m came = subst (λ r. Tells (replace at o (seen old)) r (record old { store = record old.store { heap = after } })) (sym came) (ap (λ (levels : List (List Object)). Gives tt (seen (record old { store = record old.store { heap = levels } }))) (sym m))
replaced_tells old after at o (Err NotThere) result m came = absurd m
replaced_tells old after at o (Err Memory) result m came = subst (λ r. Tells (replace at o (seen old)) r (record old { store = record old.store { heap = after } })) (sym came) (λ ne. absurd (ne refl))
