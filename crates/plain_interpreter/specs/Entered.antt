-- How a loop begins and makes its turns in place, one after another: what is left of it where it has begun, and the step that gives the item of a turn to the loop's names.
use Rattle.std.specs.Prelude.{◌≡◌, ◌≢◌, ℕ, Bool, true, false, Option, Some, None, Result, Ok, Err}
use Rattle.codon_base.specs.declared.value.Value.{Value}
use Rattle.source_trees.specs.declared.statement.For.{For}
use Rattle.source_trees.specs.declared.statement.LoopNames.{LoopNames}
use Rattle.meaning_rules.specs.State as meaning
use Rattle.meaning_rules.specs.Outcome.{Outcome, Gives, Stops, Run, ◌>>=◌, pure, and_then}
use Rattle.meaning_rules.specs.Program.{Scope}
use Rattle.meaning_rules.specs.Task.{Rules, Region, Consumer, Parallel}
use Rattle.meaning_rules.specs.Loops.{after_loop}
use Rattle.plain_interpreter.specs.Inside.{Saved, leaving, finishing}
use Rattle.plain_interpreter.specs.Tasks.{region_of}
use Rattle.meaning_rules.specs.Variables.{set_loop_names}
use Rattle.plain_interpreter.specs.Cursors.{next_by}
use Rattle.plain_interpreter.specs.Seen.{seen, flow_of, why_of, TellsFlow}
use Rattle.plain_interpreter.specs.declared.flow.Flow.{Flow}
use Rattle.plain_interpreter.specs.declared.iterable.Cursor.{Cursor}
use Rattle.plain_interpreter.specs.declared.iterations.Begun.{Begun}
use Rattle.plain_interpreter.specs.declared.regions.Opened.{Opened}
use Rattle.plain_interpreter.specs.declared.state.State.{State}
use Rattle.plain_interpreter.specs.declared.state.Stop.{Stop}
use Rattle.plain_interpreter.specs.declared.state.Stop.TheVariants as stop

-- a loop was left by a flow, or its turns from the cursor on are what is left of it
abbrev pub TellsEntered : Outcome meaning.Flow → (Cursor → Run meaning.Flow) → Result (Option Flow) Stop → Cursor → State → Type 0
TellsEntered outcome turns (Ok None) at new = outcome ≡ turns at (seen new)
TellsEntered outcome turns (Ok (Some flow)) at new = outcome ≡ Gives (flow_of flow) (seen new)
TellsEntered outcome turns (Err e) at new = e ≢ stop.Memory → outcome ≡ Stops (why_of e) (seen new)

-- an item was taken, and the cursor stands behind it, or there was none
abbrev pub TellsAdvanced : Outcome (Option (Value × Cursor)) → Result (Option Value) Stop → Cursor → State → Type 0
TellsAdvanced outcome (Ok (Some v)) at new = outcome ≡ Gives (Some (v, at)) (seen new)
TellsAdvanced outcome (Ok None) at new = outcome ≡ Gives None (seen new)
TellsAdvanced outcome (Err e) at new = e ≢ stop.Memory → outcome ≡ Stops (why_of e) (seen new)

module _ (scope : Scope) (names : LoopNames) where
  abbrev pub takes : Option (Value × Cursor) → Run (Option Cursor)
  takes None = pure None
  takes (Some p) = set_loop_names scope names p.0 >>= λ _. pure (Some p.1)

  -- the names take the item of the next turn, where there is one
  abbrev pub stepped : Rules → ℕ → Cursor → Run (Option Cursor)
  stepped rules limit at = next_by rules limit at >>= takes

-- a step was made, and the cursor stands behind it, or there was none
abbrev pub TellsStep : Outcome (Option Cursor) → Result Bool Stop → Cursor → State → Type 0
TellsStep outcome (Ok true) at new = outcome ≡ Gives (Some at) (seen new)
TellsStep outcome (Ok false) at new = outcome ≡ Gives None (seen new)
TellsStep outcome (Err e) at new = e ≢ stop.Memory → outcome ≡ Stops (why_of e) (seen new)

-- ---- parallel loops

-- the end of a region that was left so, and of its loop
abbrev pub region_ends : Bool → ℕ → meaning.Flow → Run meaning.Flow
region_ends outside reached flow = finishing outside reached flow >>= λ _. pure (after_loop flow)

-- a generator has made the turns of a parallel loop, and its region ends as they were left, or its turns from the cursor on and the end of its region are what is left of it
abbrev pub TellsOpened : Outcome meaning.Flow → (Cursor → Run meaning.Flow) → Result (Option Flow) Stop → Begun → Cursor → State → Type 0
TellsOpened outcome turns (Ok None) begun at new = outcome ≡ and_then (turns at (seen new)) (region_ends begun.outside begun.reached)
TellsOpened outcome turns (Ok (Some flow)) begun at new = outcome ≡ region_ends begun.outside begun.reached (flow_of flow) (seen new)
TellsOpened outcome turns (Err e) begun at new = e ≢ stop.Memory → outcome ≡ Stops (why_of e) (seen new)

-- a parallel loop was left so, and its region ends then
abbrev pub TellsUnclosed : Outcome meaning.Flow → Result Flow Stop → Begun → State → Type 0
TellsUnclosed outcome (Ok flow) begun new = outcome ≡ region_ends begun.outside begun.reached (flow_of flow) (seen new)
TellsUnclosed outcome (Err e) begun new = e ≢ stop.Memory → outcome ≡ Stops (why_of e) (seen new)

-- the region of a loop that was left so has ended, and one that stopped stays as it is
abbrev pub TellsClosed : Result Flow Stop → Begun → meaning.State → Result Flow Stop → State → Type 0
TellsClosed (Ok flow) begun s result new = TellsFlow (region_ends begun.outside begun.reached (flow_of flow) s) result new
TellsClosed (Err e) begun s result new = (result ≡ Err e) × (seen new ≡ s)

-- the iteration of a turn that was left so has ended, and one that stopped stays as it is
abbrev pub TellsTurned : Result Flow Stop → Region → Saved → meaning.State → Result Flow Stop → State → Type 0
TellsTurned (Ok flow) region saved s result new = TellsFlow ((leaving region saved >>= λ _. pure (flow_of flow)) s) result new
TellsTurned (Err e) region saved s result new = (result ≡ Err e) × (seen new ≡ s)

-- what takes the items of a parallel loop that has begun
abbrev pub opened_consumer : Scope → For → Opened → Consumer
opened_consumer scope l opened = Parallel (region_of opened.region) (record scope { fixed = opened.fixed }) l.names l.body
