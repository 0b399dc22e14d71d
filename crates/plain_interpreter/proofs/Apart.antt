-- Regions and their iterations, step by step as the interpreter takes them.
use Rattle.std.proofs.Common.{◌≡◌, ◌<◌, ℕ, Bool, List, length, Result, Ok, Err, OnOk, sym, ap, ◌∙◌, subst, arith}
use Rattle.codon_base.specs.declared.value.Value.{Value}
use Rattle.source_trees.specs.declared.statement.LoopNames.{LoopNames}
use Rattle.source_trees.specs.declared.statement.Stmt.{Stmt}
use Rattle.source_trees.specs.declared.pipeline.Stage.{Stage}
use Rattle.meaning_rules.specs.State.{Spelling, State, Stop, TooDeep, Flow}
use Rattle.meaning_rules.specs.Outcome.{Outcome, Gives, Stops, Run, and_then, bind, pure, ◌>>=◌, is_outside, counting}
use Rattle.meaning_rules.specs.Program.{Scope}
use Rattle.meaning_rules.specs.Task.{Region, Consumer, Body, Parallel, Setting}
use Rattle.meaning_rules.specs.Captures.{body_scope}
use Rattle.meaning_rules.specs.Loops.{Iterable}
use Rattle.plain_interpreter.specs.Steps.{looped}
use Rattle.meaning_rules.specs.Iterations.{in_place}
use Rattle.plain_interpreter.specs.Inside.{Saved, entering, leaving, from_zero, finishing}
use Rattle.meaning_rules.specs.Meaning.{turn_of}
use Rattle.plain_interpreter.specs.Stages.{staged_ahead}
use Rattle.plain_interpreter.specs.Tasks.{program_of, lower, here}
use Rattle.plain_interpreter.specs.Seen.{seen, flow_of, why_of, TellsFlow}
use Rattle.plain_interpreter.specs.Entered.{TellsTurned}
use Rattle.plain_interpreter.specs.declared.flow.Flow as flows
use Rattle.plain_interpreter.specs.declared.state.State as states
use Rattle.plain_interpreter.specs.declared.state.Stop as stops
use Rattle.plain_interpreter.specs.declared.prepared.Prepared.{Prepared}
use Rattle.plain_interpreter.proofs.Iterating.{counting_steps, turn_steps, turn_levels, stage_steps, stage_levels}

-- ---- regions

module _ (body : Run Flow) (s t : State) (outside : Bool) (reached : ℕ) (zero : t ≡ from_zero s) (o : outside ≡ is_outside s.shared.iterations) (r : reached ≡ s.shared.reached) where
  abbrev finishes : Flow → Run Flow
  finishes flow = finishing outside reached flow >>= λ _. pure flow

  pub begins : counting body s ≡ and_then (body t) finishes
  begins = counting_steps body s ∙ (λ i. and_then (body (sym zero i)) (λ flow. finishing (sym o i) (sym r i) flow >>= λ _. pure flow))

  pub region_gives : (u w : State) (flow : Flow) → body t ≡ Gives flow u → finishing outside reached flow u ≡ Gives tt w → counting body s ≡ Gives flow w
  unfolding bind pure
  region_gives u w flow e f = begins ∙ ap (λ p. and_then p finishes) e ∙ ap (λ p. and_then p (λ _. pure flow)) f

  pub region_stops : (u : State) (why : Stop) → body t ≡ Stops why u → counting body s ≡ Stops why u
  region_stops u why e = begins ∙ ap (λ p. and_then p finishes) e

  pub region_stops_after : (u w : State) (flow : Flow) (why : Stop) → body t ≡ Gives flow u → finishing outside reached flow u ≡ Stops why w → counting body s ≡ Stops why w
  unfolding bind
  region_stops_after u w flow why e f = begins ∙ ap (λ p. and_then p finishes) e ∙ ap (λ p. and_then p (λ _. pure flow)) f

-- the region of a parallel loop, whose body stands where its own names are fixed
pub loop_region_begins : (here : Setting) (consumers : List Consumer) (goes_over : Iterable) (region : Region) (scope : Scope) (names : LoopNames) (body : List Stmt) (fixed : List Spelling) → fixed ≡ (body_scope scope names body).fixed
    → (s t : State) (outside : Bool) (reached : ℕ) → t ≡ from_zero s → outside ≡ is_outside s.shared.iterations → reached ≡ s.shared.reached
    → counting (looped here consumers goes_over (Parallel region (body_scope scope names body) names body)) s
    ≡ and_then (looped here consumers goes_over (Parallel region (record scope { fixed = fixed }) names body) t) (λ flow. finishing outside reached flow >>= λ _. pure flow)
loop_region_begins here consumers goes_over region scope names body fixed e s t outside reached zero o r =
    ap (λ f. counting (looped here consumers goes_over (Parallel region (record scope { fixed = f }) names body)) s) (sym e)
    ∙ begins (looped here consumers goes_over (Parallel region (record scope { fixed = fixed }) names body)) s t outside reached zero o r

-- ---- iterations

module _ (region : Region) (v : Value) (body : Run Flow) (s : State) where
  abbrev Steps : Type 0
  Steps = in_place.item region v body s ≡ (entering region v >>= λ saved. body >>= λ flow. leaving region saved >>= λ _. pure flow) s

  abbrev leaves : Saved → Flow → Run Flow
  leaves saved flow = leaving region saved >>= λ _. pure flow

  module _ (steps : Steps) where
    enters : (o : Outcome Saved) → entering region v s ≡ o → in_place.item region v body s ≡ and_then o (λ saved. body >>= leaves saved)
    unfolding bind
    enters o e = steps ∙ ap (λ p. and_then p (λ saved. body >>= leaves saved)) e

    runs : (t : State) (saved : Saved) (o : Outcome Flow) → entering region v s ≡ Gives saved t → body t ≡ o → in_place.item region v body s ≡ and_then o (leaves saved)
    unfolding bind
    runs t saved o e f = enters (Gives saved t) e ∙ ap (λ p. and_then p (leaves saved)) f

    pub item_gives : (t u w : State) (saved : Saved) (flow : Flow) → entering region v s ≡ Gives saved t → body t ≡ Gives flow u → leaving region saved u ≡ Gives tt w → in_place.item region v body s ≡ Gives flow w
    unfolding bind pure
    item_gives t u w saved flow e f g = runs t saved (Gives flow u) e f ∙ ap (λ p. and_then p (λ _. pure flow)) g

    pub item_stops_before : (t : State) (why : Stop) → entering region v s ≡ Stops why t → in_place.item region v body s ≡ Stops why t
    item_stops_before t why e = enters (Stops why t) e

    pub item_stops : (t u : State) (saved : Saved) (why : Stop) → entering region v s ≡ Gives saved t → body t ≡ Stops why u → in_place.item region v body s ≡ Stops why u
    item_stops t u saved why e f = runs t saved (Stops why u) e f

    pub item_stops_after : (t u w : State) (saved : Saved) (flow : Flow) (why : Stop) → entering region v s ≡ Gives saved t → body t ≡ Gives flow u → leaving region saved u ≡ Stops why w → in_place.item region v body s ≡ Stops why w
    unfolding bind
    item_stops_after t u w saved flow why e f g = runs t saved (Gives flow u) e f ∙ ap (λ p. and_then p (λ _. pure flow)) g

-- an iteration ends as its turn was left
pub turned_by : (region : Region) (v : Value) (body : Run Flow) (s t : State) (saved : Saved) → Steps region v body s → entering region v s ≡ Gives saved t
    → (left result : Result flows.Flow stops.Stop) (mid new : states.State) → TellsFlow (body t) left mid → TellsTurned left region saved (seen mid) result new → TellsFlow (in_place.item region v body s) result new
unfolding bind
turned_by region v body s t saved steps e (Ok flow) result mid new f told =
    subst (λ (o : Outcome Flow). TellsFlow o result new) (sym (runs region v body s steps t saved (Gives (flow_of flow) (seen mid)) e f)) told
turned_by region v body s t saved steps e (Err why) result mid new f told =
    subst (λ (r : Result flows.Flow stops.Stop). TellsFlow (in_place.item region v body s) r new) (sym told.0)
    (λ n. item_stops region v body s steps t (seen mid) saved (why_of why) e (f n) ∙ ap (λ u. Stops (why_of why) u) (sym told.1))

-- a level above the first stays one, where there are as many levels
still_above : (s t : State) → length t.shared.levels ≡ length s.shared.levels → 1 < length s.shared.levels → 1 < length t.shared.levels
still_above s t e h = omega (arith, e, h)

module _ (p : Prepared) (limit depth : ℕ) (consumers : List Consumer) where
  pub turn_is : (region : Region) (inner : Scope) (names : LoopNames) (body : List Stmt) (v : Value) (s : State) → Steps region v (turn_of (here p limit depth) consumers (Body inner names body) v) s
  unfolding lower
  turn_is region inner names body v s = turn_steps (program_of p) limit depth TooDeep consumers region inner names body v s

  pub turn_above : (inner : Scope) (names : LoopNames) (body : List Stmt) (v : Value) (s t : State) (flow : Flow) → turn_of (here p limit depth) consumers (Body inner names body) v s ≡ Gives flow t → 1 < length s.shared.levels → 1 < length t.shared.levels
  unfolding lower
  turn_above inner names body v s t flow e h = still_above s t (turn_levels (program_of p) limit depth TooDeep consumers inner names body v s t flow e) h

  pub turned_above : (inner : Scope) (names : LoopNames) (body : List Stmt) (v : Value) (s : State) (left : Result flows.Flow stops.Stop) (mid : states.State)
      → TellsFlow (turn_of (here p limit depth) consumers (Body inner names body) v s) left mid → 1 < length s.shared.levels → OnOk left (1 < length (seen mid).shared.levels)
  turned_above inner names body v s (Ok flow) mid f h = turn_above inner names body v s (seen mid) (flow_of flow) f h
  turned_above inner names body v s (Err why) mid f h = tt

  pub stage_is : (region : Region) (scope : Scope) (stage : Stage) (more : List Stage) (v : Value) (s : State) → Steps region v (staged_ahead (here p limit depth) consumers scope stage.form more v) s
  unfolding lower
  stage_is region scope stage more v s = stage_steps (program_of p) limit depth TooDeep consumers region scope stage more v s

  pub stage_above : (scope : Scope) (stage : Stage) (more : List Stage) (v : Value) (s t : State) (flow : Flow) → staged_ahead (here p limit depth) consumers scope stage.form more v s ≡ Gives flow t → 1 < length s.shared.levels → 1 < length t.shared.levels
  unfolding lower
  stage_above scope stage more v s t flow e h = still_above s t (stage_levels (program_of p) limit depth TooDeep consumers scope stage more v s t flow e) h
