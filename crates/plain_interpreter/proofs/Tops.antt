-- The statements of a module: what they do from an item on.
use Rattle.std.proofs.Common.{◌≡◌, ℕ, ◌+◌, ◌<◌, ◌≤◌, true, false, List, [], ◌++◌, length, get_or, drop, refl, ap, ◌∙◌}
use Rattle.std.specs.List.{flat_map}
use Rattle.source_trees.specs.declared.item.Item.{Item}
use Rattle.source_trees.specs.declared.item.Item.TheVariants as item
use Rattle.meaning_rules.specs.State.{State, Stop, Flow, Next}
use Rattle.meaning_rules.specs.Outcome.{Outcome, Gives, Stops, Run, and_then, bind, pure, is_next}
use Rattle.plain_interpreter.specs.Plain.{item_of}
use Rattle.meaning_rules.specs.Program.{Scope, statement_in}
use Rattle.meaning_rules.specs.Task.{Setting}
use Rattle.meaning_rules.specs.Statements.{statements, then_next}
use Rattle.plain_interpreter.proofs.Left.{next_more, next_none}
use Rattle.plain_interpreter.proofs.Rest.{drop_next, drop_end}

module _ (here : Setting) (scope : Scope) where
  abbrev pub tops : List Item → Run Flow
  tops items = statements here [] scope (flat_map statement_in items)

  first : (x : Item) (rest : List Item) (s : State) → statements here [] scope (statement_in x ++ flat_map statement_in rest) s ≡ and_then (item_of here scope x s) (λ flow. then_next flow (tops rest))
  unfolding bind pure
  first (item.Stmt one) rest s = refl
  first (item.Function f) rest s = refl
  first (item.Class c) rest s = refl

  step : (items : List Item) (i : ℕ) (x : Item) (s : State) (o : Outcome Flow) → i < length items → x ≡ get_or items i x → item_of here scope x s ≡ o → tops (drop i items) s ≡ and_then o (λ flow. then_next flow (tops (drop (i + 1) items)))
  step items i x s o h e f =
      ap (λ (l : List Item). tops l s) (drop_next items i x h e) ∙ first x (drop (i + 1) items) s ∙ ap (λ (o : Outcome Flow). and_then o (λ flow. then_next flow (tops (drop (i + 1) items)))) f

  pub top_more : (items : List Item) (i : ℕ) (x : Item) (s t : State) (flow : Flow) → i < length items → x ≡ get_or items i x → item_of here scope x s ≡ Gives flow t → is_next flow ≡ true → tops (drop i items) s ≡ tops (drop (i + 1) items) t
  top_more items i x s t flow h e f n = step items i x s (Gives flow t) h e f ∙ ap (λ (r : Run Flow). r t) (next_more flow (tops (drop (i + 1) items)) n)

  pub top_leaves : (items : List Item) (i : ℕ) (x : Item) (s t : State) (flow : Flow) → i < length items → x ≡ get_or items i x → item_of here scope x s ≡ Gives flow t → is_next flow ≡ false → tops (drop i items) s ≡ Gives flow t
  unfolding pure
  top_leaves items i x s t flow h e f n = step items i x s (Gives flow t) h e f ∙ ap (λ (r : Run Flow). r t) (next_none flow (tops (drop (i + 1) items)) n)

  pub top_stops : (items : List Item) (i : ℕ) (x : Item) (s t : State) (why : Stop) → i < length items → x ≡ get_or items i x → item_of here scope x s ≡ Stops why t → tops (drop i items) s ≡ Stops why t
  top_stops items i x s t why h e f = step items i x s (Stops why t) h e f

  pub top_end : (items : List Item) (i : ℕ) (s : State) → length items ≤ i → tops (drop i items) s ≡ Gives Next s
  unfolding pure
  top_end items i s h = ap (λ (l : List Item). tops l s) (drop_end items i h)

pub ruleset top_rules = (top_more, top_leaves, top_stops, top_end)
