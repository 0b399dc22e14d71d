-- Loops turn by turn.
use Rattle.std.proofs.Common.{◌≡◌, ◌≢◌, ℕ, suc, ◌-◌, true, false, Option, Some, None, refl, sym, ap, ◌∙◌, arith}
use Rattle.codon_base.specs.declared.value.Value.{Value}
use Rattle.meaning_rules.specs.State.{State, Stop, OutOfFuel, Flow, Next}
use Rattle.meaning_rules.specs.Outcome.{Outcome, Gives, Stops, Run, and_then, bind, pure, stop, by_fuel, ◌>>=◌}
use Rattle.meaning_rules.specs.Loops.{loop, turns, shown, after_turn}
use Rattle.plain_interpreter.specs.Flows.{goes_on}
use Rattle.plain_interpreter.proofs.Left.{turn_more, turn_none}

module _ {A : Type 0} (next : A → Run (Option (Value × A))) (turn : Value → Run Flow) where
  pub loop_begins : (limit : ℕ) (a : A) (s : State) (left : ℕ) → left ≡ limit - s.shared.used → loop limit next turn a s ≡ turns next turn (suc left) a s
  unfolding by_fuel
  loop_begins limit a s left e = ap (λ n. turns next turn (suc n) a s) (sym e)

  abbrev goes : ℕ → Option (Value × A) → Run Flow
  goes n o = shown o (λ v b. turn v >>= λ flow. after_turn flow (turns next turn n b))

  first : (n : ℕ) (a : A) (s : State) (o : Outcome (Option (Value × A))) → next a s ≡ o → turns next turn (suc n) a s ≡ and_then o (goes n)
  unfolding bind
  first n a s o e = ap (λ (o : Outcome (Option (Value × A))). and_then o (goes n)) e

  abbrev decides : ℕ → A → Flow → Run Flow
  decides n b flow = after_turn flow (turns next turn n b)

  second : (n : ℕ) (a : A) (s t : State) (p : Value × A) (o : Outcome Flow) → next a s ≡ Gives (Some p) t → turn p.0 t ≡ o → turns next turn (suc n) a s ≡ and_then o (decides n p.1)
  unfolding bind
  second n a s t p o e f = first n a s (Gives (Some p) t) e ∙ ap (λ (o : Outcome Flow). and_then o (decides n p.1)) f

  -- a turn by its item, and by what is done with it
  pub by_next : (n : ℕ) (a : A) (s : State) → turns next turn (suc n) a s ≡ and_then (next a s) (goes n)
  by_next n a s = first n a s (next a s) refl

  pub by_turn : (n : ℕ) (a : A) (s t : State) (p : Value × A) → next a s ≡ Gives (Some p) t → turns next turn (suc n) a s ≡ and_then (turn p.0 t) (decides n p.1)
  by_turn n a s t p e = second n a s t p (turn p.0 t) e refl

  pub turn_end : (n : ℕ) (a : A) (s t : State) → next a s ≡ Gives None t → turns next turn (suc n) a s ≡ Gives Next t
  unfolding pure
  turn_end n a s t e = first n a s (Gives None t) e

  pub turn_stops_before : (n : ℕ) (a : A) (s t : State) (why : Stop) → next a s ≡ Stops why t → turns next turn (suc n) a s ≡ Stops why t
  turn_stops_before n a s t why e = first n a s (Stops why t) e

  pub turn_stops : (n : ℕ) (a : A) (s t u : State) (p : Value × A) (why : Stop) → next a s ≡ Gives (Some p) t → turn p.0 t ≡ Stops why u → turns next turn (suc n) a s ≡ Stops why u
  turn_stops n a s t u p why e f = second n a s t p (Stops why u) e f

  pub turn_leaves : (n : ℕ) (a : A) (s t u : State) (p : Value × A) (flow : Flow) → next a s ≡ Gives (Some p) t → turn p.0 t ≡ Gives flow u → goes_on flow ≡ false → turns next turn (suc n) a s ≡ Gives flow u
  unfolding pure
  turn_leaves n a s t u p flow e f g = second n a s t p (Gives flow u) e f ∙ ap (λ (r : Run Flow). r u) (turn_none flow (turns next turn n p.1) g)

  again : (n : ℕ) (a : A) (s t u : State) (p : Value × A) (flow : Flow) → next a s ≡ Gives (Some p) t → turn p.0 t ≡ Gives flow u → goes_on flow ≡ true → turns next turn (suc n) a s ≡ turns next turn n p.1 u
  again n a s t u p flow e f g = second n a s t p (Gives flow u) e f ∙ ap (λ (r : Run Flow). r u) (turn_more flow (turns next turn n p.1) g)

  pub turn_out : (n : ℕ) (a : A) (s t u : State) (p : Value × A) (flow : Flow) → next a s ≡ Gives (Some p) t → turn p.0 t ≡ Gives flow u → goes_on flow ≡ true → n ≡ 0 → turns next turn (suc n) a s ≡ Stops OutOfFuel u
  unfolding stop
  turn_out n a s t u p flow e f g z = again n a s t u p flow e f g ∙ ap (λ k. turns next turn k p.1 u) z

  pub turn_next : (n : ℕ) (a : A) (s t u : State) (p : Value × A) (flow : Flow) → next a s ≡ Gives (Some p) t → turn p.0 t ≡ Gives flow u → goes_on flow ≡ true → n ≢ 0 → turns next turn (suc n) a s ≡ turns next turn (suc (n - 1)) p.1 u
  turn_next n a s t u p flow e f g h = let one : n ≡ suc (n - 1) = omega arith in again n a s t u p flow e f g ∙ ap (λ k. turns next turn k p.1 u) one
