-- Items and slices of lists, texts and tuples (Python reference, 6.3.2 and 6.3.3).
use Rattle.std.specs.Prelude.{ℕ, List, [], ◌∷◌, length, slice_get, Option, Some, None, option_map, option_and_then, ℤ, codes}
use Rattle.codon_base.specs.declared.fault.FaultKind.TheVariants as kind
use Rattle.codon_base.specs.declared.value.Value.{Value, Value-F}
use Rattle.codon_base.specs.declared.value.Value.TheVariants as value
use Rattle.codon_base.specs.Operators.{Made, made, fault, wrong, text_made, list_made, Sight, whole, with_items}
use Rattle.codon_base.specs.Walks.{seen_in}
use Rattle.codon_base.specs.Sequences.{place_of, bound_of, sliced}

-- the item that an index names
abbrev pub item_at : {A : Type 0} → List A → ℤ → Option A
item_at items index = option_and_then (slice_get items) (place_of (length items) index)

abbrev pub item_made : Option Value → Made
item_made (Some v) = made v
item_made None = fault kind.Index (codes "index out of range")

-- `v[w]` of a text or a list, also of a list that is lent
abbrev pub indexed : Sight → Value-F Value → Value-F Value → Made
indexed sight (Value-F.Text t) (Value-F.Int index) = item_made (option_map (λ b. value.Text (b ∷ [])) (item_at t index))
indexed sight (Value-F.Ref at) (Value-F.Int index) = with_items (seen_in sight.levels at) (λ values. item_made (item_at values index))
indexed sight _ _ = wrong

-- the place that a bound names in a sequence of that length, where `None` stands for a bound that is left out
abbrev pub bound_in : ℕ → ℕ → Value-F Value → Option ℕ
bound_in size missing (Value-F.Int index) = Some (bound_of size index)
bound_in size missing Value-F.Unit = Some missing
bound_in size missing _ = None

abbrev pub with_bounds : Option ℕ → Option ℕ → (ℕ → ℕ → Made) → Made
with_bounds (Some from) (Some to) next = next from to
with_bounds _ _ next = wrong

-- both bounds of a slice: from the start and to the end where they are left out
abbrev pub bounds_in : ℕ → Value-F Value → Value-F Value → (ℕ → ℕ → Made) → Made
bounds_in size from to next = with_bounds (bound_in size 0 from) (bound_in size size to) next

-- `v[from:to]` of a text or a list
abbrev pub slice_made : Sight → Value-F Value → Value-F Value → Value-F Value → Made
slice_made sight (Value-F.Text t) from to = bounds_in (length t) from to (λ start end_place. text_made (sliced t start end_place))
slice_made sight (Value-F.Ref at) from to = with_items (seen_in sight.levels at) (λ values. bounds_in (length values) from to (λ start end_place. with_items (whole sight at) (λ values. list_made (sliced values start end_place))))
slice_made sight _ from to = wrong

abbrev pub value_or_wrong : Option Value → Made
value_or_wrong (Some v) = made v
value_or_wrong None = wrong

-- the item of a tuple at a place, counted from 0
abbrev pub tuple_item : Value-F Value → ℕ → Made
tuple_item (Value-F.Tuple values) place = value_or_wrong (slice_get values place)
tuple_item _ place = wrong
