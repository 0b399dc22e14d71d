-- Loops in place over a cursor, beside the loops of the definitions.
use Rattle.std.proofs.Common.{◌≡◌, ◌≤ℤ◌, ◌<ℤ◌, arith, ℕ, zero, suc, ◌+◌, ℤ, pos, negsuc, ◌+ℤ◌, Bool, true, false, if◌then◌else◌, List, Option, Some, None, refl, sym, ap, ◌∙◌}
use Rattle.std.specs.Prelude.{int_lt, codes}
use Rattle.codon_base.specs.declared.fault.FaultKind.TheVariants as kind
use Rattle.std.proofs.lemmas.Int.{ints}
use Rattle.std.proofs.lemmas.Bool.{ltb-false}
use Rattle.std.proofs.lemmas.Bool.Decides.{nat_tests}
use Rattle.codon_base.specs.Compared.{int_equal}
use Rattle.codon_base.specs.declared.value.Value.{Value, out-Value}
use Rattle.codon_base.specs.declared.value.Value.TheVariants as value
use Rattle.meaning_rules.specs.State.{State, Stop, Flow, Next}
use Rattle.meaning_rules.specs.Outcome.{Outcome, Gives, Stops, Run, and_then, bind, pure, stop, fault, by_fuel, tick, ◌>>=◌}
use Rattle.meaning_rules.specs.Objects.{int_in, found_at}
use Rattle.meaning_rules.specs.Task.{Consumer, Setting}
use Rattle.meaning_rules.specs.Loops as loops
use Rattle.meaning_rules.specs.Loops.{turns, shown, after_turn, ticked, item_found, item_next, is_before, numbers, number_next}
use Rattle.meaning_rules.specs.Meaning.{turn_of}
use Rattle.plain_interpreter.specs.Cursors.{next_by, item_or_end, in_range, advanced, begun, begun_by, IsWithin}
use Rattle.plain_interpreter.specs.Steps.{looped, turns_from}
use Rattle.plain_interpreter.specs.declared.iterable.Cursor.{Cursor}
use Rattle.plain_interpreter.specs.declared.iterable.Cursor.TheVariants as cursor

abbrev goes : {C : Type 0} → (Value → Run Flow) → (C → Run Flow) → Option (Value × C) → Run Flow
goes turn rest o = shown o (λ v b. turn v >>= λ flow. after_turn flow (rest b))

module _ {A B : Type 0} (turn : Value → Run Flow) (one : A → Run Flow) (other : B → Run Flow) where
  ticks : (v : Value) (a : A) (b : B) (o : Outcome (Unit {0})) → one a ≡ other b
      → and_then (and_then o (λ _. pure (Some (v, a)))) (goes turn one) ≡ and_then (and_then o (λ _. pure (Some (v, b)))) (goes turn other)
  unfolding pure
  ticks v a b (Gives u s) e = ap (λ (rest : Run Flow). (turn v >>= λ flow. after_turn flow rest) s) e
  ticks v a b (Stops why s) e = refl

module _ (here : Setting) (turn : Value → Run Flow) where
  module _ (container : Value) where
    items_step : (n place : ℕ) (o : Outcome (Option Value)) → turns (item_next here container) turn n (place + 1) ≡ turns (next_by here.rules here.limit) turn n (cursor.Item container (place + 1))
        → and_then (and_then o (item_found here.limit place)) (goes turn (turns (item_next here container) turn n))
        ≡ and_then (and_then o (item_or_end here.limit container place)) (goes turn (turns (next_by here.rules here.limit) turn n))
    unfolding bind pure
    items_step n place (Gives None s) e = refl
    items_step n place (Gives (Some v) s) e = ticks turn (turns (item_next here container) turn n) (turns (next_by here.rules here.limit) turn n) v (place + 1) (cursor.Item container (place + 1)) (tick here.limit s) e
    items_step n place (Stops why s) e = refl

    items_turns : (n place : ℕ) → turns (item_next here container) turn n place ≡ turns (next_by here.rules here.limit) turn n (cursor.Item container place)
    unfolding bind
    items_turns zero place = refl
    items_turns (suc n) place = λ i s. items_step n place (found_at here.rules container place s) (items_turns n (place + 1)) i

    pub items_loop : (s : State) → loops.loop here.limit (item_next here container) turn 0 s ≡ turns_from here turn (cursor.Item container 0) s
    items_loop s = λ i. by_fuel here.limit (λ left. items_turns (suc left) 0 i) s

pub over_items : (here : Setting) (consumers : List Consumer) (consumer : Consumer) (container : Value) (s : State)
    → looped here consumers (loops.Items container) consumer s ≡ turns_from here (turn_of here consumers consumer) (cursor.Item container 0) s
over_items here consumers consumer container s = items_loop here (turn_of here consumers consumer) container s

-- ---- ranges

module _ (here : Setting) (turn : Value → Run Flow) (stop step : ℤ) where
  abbrev from : Bool → ℤ → Cursor
  from b z = if b then cursor.Number z stop step else cursor.Ended

  abbrev shows : Bool → ℤ → Run (Option (Value × ℤ))
  shows b z = if b then ticked here.limit (value.Int z, z +ℤ step) else pure None

  abbrev tells : Bool → ℤ → Run (Option (Value × Cursor))
  tells b z = if b then ticked here.limit (value.Int z, advanced z stop step) else pure None

  both : (n : ℕ) (z : ℤ) (b : Bool) (s : State) → turns (number_next here.limit step stop) turn n (z +ℤ step) ≡ turns (next_by here.rules here.limit) turn n (advanced z stop step)
      → and_then (shows b z s) (goes turn (turns (number_next here.limit step stop) turn n)) ≡ and_then (tells b z s) (goes turn (turns (next_by here.rules here.limit) turn n))
  unfolding bind pure
  both n z true s e = ticks turn (turns (number_next here.limit step stop) turn n) (turns (next_by here.rules here.limit) turn n) (value.Int z) (z +ℤ step) (advanced z stop step) (tick here.limit s) e
  both n z false s e = refl

  ended_too : (n : ℕ) (z : ℤ) (b : Bool) (s : State) → b ≡ false → and_then (shows b z s) (goes turn (turns (number_next here.limit step stop) turn n)) ≡ pure Next s
  unfolding bind pure
  ended_too n z true s e = cc
  ended_too n z false s e = refl

  module _ (Fine : ℤ → Type 0) (ends : (z : ℤ) → Fine z → in_range z ≡ false → is_before step stop z ≡ false) (grows : (z : ℤ) → Fine z → Fine (z +ℤ step)) where
    numbers_by : (n : ℕ) (z : ℤ) (b : Bool) → in_range z ≡ b → Fine z → turns (number_next here.limit step stop) turn n (z +ℤ step) ≡ turns (next_by here.rules here.limit) turn n (advanced z stop step)
        → turns (number_next here.limit step stop) turn (suc n) z ≡ turns (next_by here.rules here.limit) turn (suc n) (from b z)
    unfolding bind pure
    numbers_by n z true within fine rest = λ i s. both n z (is_before step stop z) s rest i
    numbers_by n z false past fine rest = λ i s. ended_too n z (is_before step stop z) s (ends z fine past) i

    numbers_turns : (n : ℕ) (z : ℤ) → Fine z → turns (number_next here.limit step stop) turn n z ≡ turns (next_by here.rules here.limit) turn n (from (in_range z) z)
    numbers_turns zero z fine = refl
    numbers_turns (suc n) z fine = numbers_by n z (in_range z) refl fine (numbers_turns n (z +ℤ step) (grows z fine))

    pub numbers_loop : (z : ℤ) (s : State) → Fine z → in_range z ≡ true → loops.loop here.limit (number_next here.limit step stop) turn z s ≡ turns_from here turn (cursor.Number z stop step) s
    numbers_loop z s fine within = (λ i. by_fuel here.limit (λ left. numbers_turns (suc left) z fine i) s) ∙ ap (λ b. turns_from here turn (from b z) s) within

-- ---- ranges of int

apart : (n : ℕ) → int_equal (pos (suc n)) (pos 0) ≡ false
apart n = grind (arith, nat_tests)

abbrev begins_if : Bool → ℤ → ℤ → ℤ → Run Cursor
begins_if b at last step = if b then fault kind.Value (codes "range step is zero") else pure (cursor.Number at last step)

not_less : (a b : ℤ) → b ≤ℤ a → int_lt a b ≡ false
not_less a b h = grind (arith, ints)

past_up : (z : ℤ) → negsuc 9223372036854775807 ≤ℤ z → in_range z ≡ false → pos 9223372036854775808 ≤ℤ z
past_up (pos n) h e = let k = ltb-false n 9223372036854775808 e in omega (arith, ints)
past_up (negsuc n) h e = let k = ltb-false n 9223372036854775808 e in omega (arith, ints)

past_down : (z : ℤ) → z <ℤ pos 9223372036854775808 → in_range z ≡ false → z <ℤ negsuc 9223372036854775807
past_down (pos n) h e = let k = ltb-false n 9223372036854775808 e in omega (arith, ints)
past_down (negsuc n) h e = let k = ltb-false n 9223372036854775808 e in omega (arith, ints)

ends_up : (k : ℕ) (stop z : ℤ) → stop <ℤ pos 9223372036854775808 → negsuc 9223372036854775807 ≤ℤ z → in_range z ≡ false → is_before (pos k) stop z ≡ false
ends_up k stop z s h e = let past = past_up z h e in not_less z stop (omega (arith, ints))

ends_down : (k : ℕ) (stop z : ℤ) → negsuc 9223372036854775807 ≤ℤ stop → z <ℤ pos 9223372036854775808 → in_range z ≡ false → is_before (negsuc k) stop z ≡ false
ends_down k stop z s h e = let past = past_down z h e in not_less stop z (omega (arith, ints))

grows_up : (k : ℕ) (z : ℤ) → negsuc 9223372036854775807 ≤ℤ z → negsuc 9223372036854775807 ≤ℤ (z +ℤ pos k)
grows_up k z h = omega (arith, ints)

grows_down : (k : ℕ) (z : ℤ) → z <ℤ pos 9223372036854775808 → (z +ℤ negsuc k) <ℤ pos 9223372036854775808
grows_down k z h = omega (arith, ints)

is_in_range : (z : ℤ) → negsuc 9223372036854775807 ≤ℤ z → z <ℤ pos 9223372036854775808 → in_range z ≡ true
is_in_range (pos n) a b = grind (arith, nat_tests, ints)
is_in_range (negsuc n) a b = grind (arith, nat_tests, ints)

module _ (here : Setting) (turn : Value → Run Flow) where
  -- the loop of the definitions from where it has begun
  abbrev meant_from : Cursor → Run Flow
  meant_from cursor.Ended = turns_from here turn cursor.Ended
  meant_from (cursor.Number at stop step) = loops.loop here.limit (number_next here.limit step stop) turn at
  meant_from (cursor.Item container place) = turns_from here turn (cursor.Item container place)

  is_turns : (from : Cursor) (s : State) → IsWithin from → meant_from from s ≡ turns_from here turn from s
  is_turns cursor.Ended s h = refl
  is_turns (cursor.Item container place) s h = refl
  is_turns (cursor.Number at stop (pos k)) s h =
      numbers_loop here turn stop (pos k) (λ z. negsuc 9223372036854775807 ≤ℤ z) (λ z. ends_up k stop z h.3) (grows_up k) at s h.0 (is_in_range at h.0 h.1)
  is_turns (cursor.Number at stop (negsuc k)) s h =
      numbers_loop here turn stop (negsuc k) (λ z. z <ℤ pos 9223372036854775808) (λ z. ends_down k stop z h.2) (grows_down k) at s h.1 (is_in_range at h.0 h.1)

  from_step : (at last step : ℤ) (s : State) → numbers here at last step turn s ≡ and_then (begun_by at last step s) meant_from
  unfolding bind pure stop
  from_step at last (pos zero) s = refl
  from_step at last (pos (suc n)) s = ap (λ (b : Bool). and_then (begins_if b at last (pos (suc n)) s) meant_from) (sym (apart n))
  from_step at last (negsuc n) s = refl

after_both : {A B C : Type 0} (o : Outcome A) (f : A → Run B) (g : B → Run C) (h : A → Run C) → ((a : A) (s : State) → h a s ≡ and_then (f a s) g) → and_then o h ≡ and_then (and_then o f) g
after_both (Gives a s) f g h e = e a s
after_both (Stops why s) f g h e = refl

module _ (here : Setting) (consumers : List Consumer) (consumer : Consumer) (start stop step : Value) where
  abbrev does : Value → Run Flow
  does = turn_of here consumers consumer

  begins : (s : State) → looped here consumers (loops.Numbers start stop step) consumer s ≡ and_then (begun start stop step s) (meant_from here does)
  unfolding bind
  begins s =
      after_both (int_in (out-Value start) s) (λ a. int_in (out-Value stop) >>= λ b. int_in (out-Value step) >>= λ c. begun_by a b c) (meant_from here does) (λ a. int_in (out-Value stop) >>= λ b. int_in (out-Value step) >>= λ c. numbers here a b c does) (λ a t.
      after_both (int_in (out-Value stop) t) (λ b. int_in (out-Value step) >>= λ c. begun_by a b c) (meant_from here does) (λ b. int_in (out-Value step) >>= λ c. numbers here a b c does) (λ b u.
      after_both (int_in (out-Value step) u) (λ c. begun_by a b c) (meant_from here does) (λ c. numbers here a b c does) (λ c w. from_step here does a b c w)))

  pub over_numbers : (s t : State) (from : Cursor) → begun start stop step s ≡ Gives from t → IsWithin from → looped here consumers (loops.Numbers start stop step) consumer s ≡ turns_from here does from t
  over_numbers s t from e h = begins s ∙ ap (λ (o : Outcome Cursor). and_then o (meant_from here does)) e ∙ is_turns here does from t h

  pub over_none : (s t : State) (why : Stop) → begun start stop step s ≡ Stops why t → looped here consumers (loops.Numbers start stop step) consumer s ≡ Stops why t
  over_none s t why e = begins s ∙ ap (λ (o : Outcome Cursor). and_then o (meant_from here does)) e
