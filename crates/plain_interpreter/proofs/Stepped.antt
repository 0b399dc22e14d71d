-- Loops turn by turn, where a turn is a step that gives the item to the loop's names, and a body.
use Rattle.std.proofs.Common.{◌≡◌, ◌≢◌, ℕ, suc, ◌-◌, true, false, Option, Some, None, refl, ap, ◌∙◌, arith}
use Rattle.codon_base.specs.declared.value.Value.{Value}
use Rattle.source_trees.specs.declared.statement.LoopNames.{LoopNames}
use Rattle.meaning_rules.specs.State.{State, Stop, OutOfFuel, Flow, Next}
use Rattle.meaning_rules.specs.Outcome.{Outcome, Gives, Stops, Run, and_then, bind, pure, stop, ◌>>=◌}
use Rattle.meaning_rules.specs.Program.{Scope}
use Rattle.meaning_rules.specs.Task.{Rules}
use Rattle.meaning_rules.specs.Variables.{set_loop_names}
use Rattle.meaning_rules.specs.Loops.{turns, shown, after_turn}
use Rattle.plain_interpreter.specs.Cursors.{next_by}
use Rattle.plain_interpreter.specs.Flows.{goes_on}
use Rattle.plain_interpreter.specs.Entered.{stepped, takes}
use Rattle.plain_interpreter.specs.declared.iterable.Cursor.{Cursor}
use Rattle.plain_interpreter.proofs.Left.{turn_more, turn_none}

module _ (rules : Rules) (limit : ℕ) (scope : Scope) (names : LoopNames) (body : Run Flow) where
  abbrev turn : Value → Run Flow
  turn v = set_loop_names scope names v >>= λ _. body

  abbrev all : ℕ → Cursor → Run Flow
  all = turns (next_by rules limit) turn

  abbrev rest : ℕ → Option Cursor → Run Flow
  rest n None = pure Next
  rest n (Some at) = body >>= λ flow. after_turn flow (all n at)

  abbrev goes : ℕ → Option (Value × Cursor) → Run Flow
  goes n o = shown o (λ v b. turn v >>= λ flow. after_turn flow (all n b))

  named : (n : ℕ) (p : Value × Cursor) (o : Outcome (Unit {0})) → and_then (and_then o (λ _. body)) (λ flow. after_turn flow (all n p.1)) ≡ and_then (and_then o (λ _. pure (Some p.1))) (rest n)
  unfolding bind pure
  named n p (Gives u s) = refl
  named n p (Stops why s) = refl

  taken : (n : ℕ) (o : Outcome (Option (Value × Cursor))) → and_then o (goes n) ≡ and_then (and_then o (takes scope names)) (rest n)
  unfolding bind pure
  taken n (Gives None s) = refl
  taken n (Gives (Some p) s) = named n p (set_loop_names scope names p.0 s)
  taken n (Stops why s) = refl

  first : (n : ℕ) (at : Cursor) (s : State) (o : Outcome (Option Cursor)) → stepped scope names rules limit at s ≡ o → all (suc n) at s ≡ and_then o (rest n)
  unfolding bind
  first n at s o e = taken n (next_by rules limit at s) ∙ ap (λ (o : Outcome (Option Cursor)). and_then o (rest n)) e

  second : (n : ℕ) (at b : Cursor) (s t : State) (o : Outcome Flow) → stepped scope names rules limit at s ≡ Gives (Some b) t → body t ≡ o → all (suc n) at s ≡ and_then o (λ flow. after_turn flow (all n b))
  unfolding bind
  second n at b s t o e f = first n at s (Gives (Some b) t) e ∙ ap (λ (o : Outcome Flow). and_then o (λ flow. after_turn flow (all n b))) f

  -- a turn by its step, and by its body
  pub by_step : (n : ℕ) (at : Cursor) (s : State) → all (suc n) at s ≡ and_then (stepped scope names rules limit at s) (rest n)
  by_step n at s = first n at s (stepped scope names rules limit at s) refl

  pub by_body : (n : ℕ) (at b : Cursor) (s t : State) → stepped scope names rules limit at s ≡ Gives (Some b) t → all (suc n) at s ≡ and_then (body t) (λ flow. after_turn flow (all n b))
  by_body n at b s t e = second n at b s t (body t) e refl

  pub step_end : (n : ℕ) (at : Cursor) (s t : State) → stepped scope names rules limit at s ≡ Gives None t → all (suc n) at s ≡ Gives Next t
  unfolding pure
  step_end n at s t e = first n at s (Gives None t) e

  pub step_stops : (n : ℕ) (at : Cursor) (s t : State) (why : Stop) → stepped scope names rules limit at s ≡ Stops why t → all (suc n) at s ≡ Stops why t
  step_stops n at s t why e = first n at s (Stops why t) e

  pub body_stops : (n : ℕ) (at b : Cursor) (s t u : State) (why : Stop) → stepped scope names rules limit at s ≡ Gives (Some b) t → body t ≡ Stops why u → all (suc n) at s ≡ Stops why u
  body_stops n at b s t u why e f = second n at b s t (Stops why u) e f

  pub body_leaves : (n : ℕ) (at b : Cursor) (s t u : State) (flow : Flow) → stepped scope names rules limit at s ≡ Gives (Some b) t → body t ≡ Gives flow u → goes_on flow ≡ false → all (suc n) at s ≡ Gives flow u
  unfolding pure
  body_leaves n at b s t u flow e f g = second n at b s t (Gives flow u) e f ∙ ap (λ (r : Run Flow). r u) (turn_none flow (all n b) g)

  again : (n : ℕ) (at b : Cursor) (s t u : State) (flow : Flow) → stepped scope names rules limit at s ≡ Gives (Some b) t → body t ≡ Gives flow u → goes_on flow ≡ true → all (suc n) at s ≡ all n b u
  again n at b s t u flow e f g = second n at b s t (Gives flow u) e f ∙ ap (λ (r : Run Flow). r u) (turn_more flow (all n b) g)

  pub body_out : (n : ℕ) (at b : Cursor) (s t u : State) (flow : Flow) → stepped scope names rules limit at s ≡ Gives (Some b) t → body t ≡ Gives flow u → goes_on flow ≡ true → n ≡ 0 → all (suc n) at s ≡ Stops OutOfFuel u
  unfolding stop
  body_out n at b s t u flow e f g z = again n at b s t u flow e f g ∙ ap (λ k. all k b u) z

  pub body_next : (n : ℕ) (at b : Cursor) (s t u : State) (flow : Flow) → stepped scope names rules limit at s ≡ Gives (Some b) t → body t ≡ Gives flow u → goes_on flow ≡ true → n ≢ 0 → all (suc n) at s ≡ all (suc (n - 1)) b u
  body_next n at b s t u flow e f g h = let one : n ≡ suc (n - 1) = omega arith in again n at b s t u flow e f g ∙ ap (λ k. all k b u) one
