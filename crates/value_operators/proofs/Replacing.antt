-- A change of an object, seen as a change of its heap.
use Rattle.std.proofs.Common.{◌≡◌, ℕ, List, Option, Some, None, Result, Ok, Err, slice_get, slice_set, [], ◌∷◌, refl, sym, ap, subst, ◌∙◌}
use Rattle.std.specs.Prelude.{option_map, option_and_then}
use Rattle.std.specs.List.{slice_index_or}
use Rattle.std.proofs.lemmas.Option.{get_or_from_slice_get}
use Rattle.std.proofs.lemmas.List.{set-get_or}
use Rattle.codon_base.specs.declared.value.Ref.{Ref}
use Rattle.codon_base.specs.declared.value.Value.{Value}
use Rattle.codon_base.specs.declared.object.Object.{Object}
use Rattle.codon_base.specs.declared.object.Object.TheVariants.{List as Listed, Instance}
use Rattle.codon_base.specs.Levels.{object_in, object_at, level_at, replaced}
use Rattle.value_operators.specs.declared.change.ChangeRefusal.{ChangeRefusal}
use Rattle.value_operators.specs.declared.change.ChangeRefusal.TheVariants.{NotThere, Memory}
use Rattle.value_operators.specs.Changing.{changed, Changes, HasNoItem, Pops, PopsAt}

set-same : {A : Type 0} (xs : List A) (i : ℕ) (x : A) → slice_get xs i ≡ Some x → slice_set xs i x ≡ xs
set-same xs i x h = ap (slice_set xs i) (sym (get_or_from_slice_get xs i x x h)) ∙ set-get_or xs i x

-- a level that is found is the level at that number
at_level : (levels : List (List Object)) (l p : ℕ) (o : Object) (found : Option (List Object)) → slice_get levels l ≡ found → Some o ≡ object_in found p → slice_set levels l (slice_set (level_at levels l) p o) ≡ levels
at_level levels l p o None e h = absurd (cc)
at_level levels l p o (Some objects) e h =
    let here : level_at levels l ≡ objects = get_or_from_slice_get levels l objects _ e in
    ap (λ k. slice_set levels l (slice_set k p o)) here ∙ ap (slice_set levels l) (set-same objects p o (sym h)) ∙ set-same levels l objects e

replaced-same : (levels : List (List Object)) (at : Ref) (o : Object) → Some o ≡ object_at levels at → replaced levels at o ≡ levels
replaced-same levels at o h = at_level levels at.level at.place o (slice_get levels at.level) refl h

-- the object that is there was changed
pub Changes-lift : (r : Result (Unit {0}) ChangeRefusal) (change : Object → Option Object) (levels : List (List Object)) (at : Ref) (old new : Object) → Some old ≡ object_at levels at → Changes r (change old) old new → Changes r (changed change levels at) levels (replaced levels at new)
Changes-lift (Ok done) change levels at old new e h = ap (λ o. option_map (replaced levels at) (option_and_then change o)) (sym e) ∙ ap (option_map (replaced levels at)) h
Changes-lift (Err NotThere) change levels at old new e h =
    (ap (λ o. option_map (replaced levels at) (option_and_then change o)) (sym e) ∙ ap (option_map (replaced levels at)) h.0, ap (replaced levels at) h.1 ∙ replaced-same levels at old e)
Changes-lift (Err Memory) change levels at old new e h = ap (replaced levels at) h ∙ replaced-same levels at old e

no_item : (vs : List Value) → vs ≡ [] → HasNoItem (Some (Listed vs))
no_item [] h = tt
no_item (v ∷ vs) h = absurd (cc)

-- the last item of the object that is there was taken out
pub Pops-lift : (r : Option Value) (levels : List (List Object)) (at : Ref) (old new : Object) → Some old ≡ object_at levels at → Pops r old new → PopsAt r levels at (replaced levels at new)
Pops-lift (Some item) levels at (Listed vs) (Listed ws) e h = (ws, (sym e ∙ ap (λ l. Some (Listed l)) h, refl))
Pops-lift (Some item) levels at (Listed vs) (Instance class fields) e h = absurd h
Pops-lift (Some item) levels at (Instance class fields) new e h = absurd h
Pops-lift None levels at (Listed vs) new e h = (subst HasNoItem e (no_item vs h.0), ap (replaced levels at) h.1 ∙ replaced-same levels at (Listed vs) e)
Pops-lift None levels at (Instance class fields) new e h = let empty : HasNoItem (Some (Instance class fields)) = tt in (subst HasNoItem e empty, ap (replaced levels at) h ∙ replaced-same levels at (Instance class fields) e)
