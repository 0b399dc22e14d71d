-- How a loop goes on from where it has begun: its statement ends as its turns do, and a region ends after them.
use Rattle.std.proofs.Common.{◌≡◌, ℕ, Bool, true, false, List, Option, Some, None, Result, Ok, Err, refl, sym, ap, ◌∙◌, subst}
use Rattle.source_trees.specs.declared.statement.For.{For}
use Rattle.meaning_rules.specs.State as meaning
use Rattle.meaning_rules.specs.State.{Spelling}
use Rattle.meaning_rules.specs.Outcome.{Outcome, Gives, Stops, Run, and_then, bind, pure, ◌>>=◌, is_outside}
use Rattle.meaning_rules.specs.Program.{Scope}
use Rattle.meaning_rules.specs.Task.{Region, Consumer, Body, Parallel, Setting}
use Rattle.meaning_rules.specs.Captures.{body_scope}
use Rattle.meaning_rules.specs.Loops as loops
use Rattle.meaning_rules.specs.Loops.{after_loop}
use Rattle.meaning_rules.specs.Expressions.{iterable}
use Rattle.plain_interpreter.specs.Inside.{from_zero, finishing}
use Rattle.plain_interpreter.specs.Steps.{looped, begun_for, for_of, parallel_left}
use Rattle.plain_interpreter.specs.Seen.{seen, why_of, TellsFlow}
use Rattle.plain_interpreter.specs.Entered.{TellsEntered, TellsStep, TellsOpened, TellsUnclosed, TellsClosed, region_ends}
use Rattle.plain_interpreter.specs.Tasks.{here}
use Rattle.plain_interpreter.specs.declared.flow.Flow.{Flow}
use Rattle.plain_interpreter.specs.declared.iterable.Cursor.{Cursor}
use Rattle.plain_interpreter.specs.declared.iterations.Begun.{Begun}
use Rattle.plain_interpreter.specs.declared.prepared.Prepared.{Prepared}
use Rattle.plain_interpreter.specs.declared.state.State.{State}
use Rattle.plain_interpreter.specs.declared.state.Stop.{Stop}
use Rattle.plain_interpreter.proofs.Apart.{loop_region_begins}

abbrev pub loop_ends : meaning.Flow → Run meaning.Flow
loop_ends flow = pure (after_loop flow)

-- ---- loops in turn

module _ (here : Setting) (consumers : List Consumer) (scope : Scope) (l : For) where
  for_by : (o : Outcome loops.Iterable) → and_then o (λ goes_over. looped here consumers goes_over (Body scope l.names l.body) >>= loop_ends) ≡ and_then (and_then o (λ goes_over. looped here consumers goes_over (Body scope l.names l.body))) loop_ends
  unfolding bind
  for_by (Gives goes_over s) = refl
  for_by (Stops why s) = refl

  pub for_is : (s : meaning.State) → for_of here consumers scope l s ≡ and_then (begun_for here consumers scope l s) loop_ends
  unfolding bind
  for_is s = for_by (iterable here scope l.iterable s)

-- ---- steps

pub stepped_on : (outcome : Outcome (Option Cursor)) (at : Cursor) (new : State) (is_there : Bool) → TellsStep outcome (Ok is_there) at new → is_there ≡ true → outcome ≡ Gives (Some at) (seen new)
stepped_on outcome at new true e h = e
stepped_on outcome at new false e h = cc

pub stepped_off : (outcome : Outcome (Option Cursor)) (at : Cursor) (new : State) (is_there : Bool) → TellsStep outcome (Ok is_there) at new → is_there ≡ false → outcome ≡ Gives None (seen new)
stepped_off outcome at new true e h = cc
stepped_off outcome at new false e h = e

-- ---- regions

module _ (outside : Bool) (reached : ℕ) where
  finished : (flow : meaning.Flow) (o : Outcome (Unit {0})) → and_then (and_then o (λ _. pure flow)) loop_ends ≡ and_then o (λ _. pure (after_loop flow))
  unfolding pure
  finished flow (Gives u s) = refl
  finished flow (Stops why s) = refl

  left_by : (o : Outcome meaning.Flow) → and_then (and_then o (λ flow. finishing outside reached flow >>= λ _. pure flow)) loop_ends ≡ and_then o (region_ends outside reached)
  unfolding bind
  left_by (Gives flow s) = finished flow (finishing outside reached flow s)
  left_by (Stops why s) = refl

-- a parallel loop whose region begins, and whose body stands where its own names are fixed
pub region_is : (p : Prepared) (limit depth : ℕ) (consumers : List Consumer) (goes_over : loops.Iterable) (region : Region) (scope : Scope) (l : For) (fixed : List Spelling) → fixed ≡ (body_scope scope l.names l.body).fixed
    → (s t : meaning.State) (outside : Bool) (reached : ℕ) → t ≡ from_zero s → outside ≡ is_outside s.shared.iterations → reached ≡ s.shared.reached
    → parallel_left (here p limit depth) consumers scope l goes_over region s
    ≡ and_then (looped (here p limit depth) consumers goes_over (Parallel region (record scope { fixed = fixed }) l.names l.body) t) (region_ends outside reached)
unfolding bind
region_is p limit depth consumers goes_over region scope l fixed e s t outside reached zero o r =
    ap (λ (o : Outcome meaning.Flow). and_then o loop_ends) (loop_region_begins (here p limit depth) consumers goes_over region scope l.names l.body fixed e s t outside reached zero o r)
    ∙ left_by outside reached (looped (here p limit depth) consumers goes_over (Parallel region (record scope { fixed = fixed }) l.names l.body) t)

-- what is told of the loop is told of its region
pub opened_by : (outcome : Outcome meaning.Flow) (turns : Cursor → Run meaning.Flow) (result : Result (Option Flow) Stop) (begun : Begun) (at : Cursor) (new : State)
    → TellsEntered outcome turns result at new → TellsOpened (and_then outcome (region_ends begun.outside begun.reached)) turns result begun at new
opened_by outcome turns (Ok None) begun at new e = ap (λ (o : Outcome meaning.Flow). and_then o (region_ends begun.outside begun.reached)) e
opened_by outcome turns (Ok (Some flow)) begun at new e = ap (λ (o : Outcome meaning.Flow). and_then o (region_ends begun.outside begun.reached)) e
opened_by outcome turns (Err why) begun at new e = λ n. ap (λ (o : Outcome meaning.Flow). and_then o (region_ends begun.outside begun.reached)) (e n)

-- what is told of a loop up to the end of its region, and of that end, is told of the whole
pub closed_by : (outcome : Outcome meaning.Flow) (left result : Result Flow Stop) (begun : Begun) (mid new : State)
    → TellsUnclosed outcome left begun mid → TellsClosed left begun (seen mid) result new → TellsFlow outcome result new
closed_by outcome (Ok flow) result begun mid new e told = subst (λ (o : Outcome meaning.Flow). TellsFlow o result new) (sym e) told
closed_by outcome (Err why) result begun mid new e told =
    subst (λ (r : Result Flow Stop). TellsFlow outcome r new) (sym told.0) (λ n. e n ∙ ap (λ s. Stops (why_of why) s) (sym told.1))
