use Rattle.std.proofs.Common.{◌≡◌, ℕ, List, [], Some, slice_get, slice_set, slice_index_or, sym, ap, ◌∙◌}
use Rattle.std.proofs.lemmas.Option.{get_or_from_slice_get}
use Rattle.std.proofs.lemmas.List.{set-get_or}
use borrow.Follows.Closed.{read_of}
use mathlib.Core.Option.{Option as Maybe}
use Rattle.std.specs.Borrow.{GName}
use Rattle.codon_base.specs.declared.object.Object.{Object}
use Rattle.codon_base.specs.Levels.{object_in}
use Rattle.codon_base.proofs.heap.Heap.object_mut.Goals as goal

-- what is read at the level's own place is the level
lent : (name : Maybe GName) (levels : List (List Object)) (number place : ℕ) (level : List Object) → Some level ≡ slice_get levels number
    → read_of name (λ z. slice_set levels number (slice_set level place z)) (slice_set levels number level) ≡ read_of name (λ z. slice_set levels number (slice_set (slice_index_or levels number []) place z)) levels
lent name levels number place level h =
    let here : slice_index_or levels number [] ≡ level = get_or_from_slice_get levels number level [] (sym h) in
    let back : slice_set levels number level ≡ levels = ap (slice_set levels number) (sym here) ∙ set-get_or levels number [] in
    ap (λ l. read_of name (λ z. slice_set levels number (slice_set l place z)) (slice_set levels number level)) (sym here) ∙ ap (λ v. read_of name (λ z. slice_set levels number (slice_set (slice_index_or levels number []) place z)) v) back

pub returns : goal.returns
returns c = (lent _ c.args.self.now c.args.at.level c.args.at.place c.in_ok-level.level.now c.in_ok-level.ensures.value, record { lends = tt; value = c.object_mut.ensures.value ∙ ap (λ l. object_in l c.args.at.place) c.in_ok-level.ensures.value })
