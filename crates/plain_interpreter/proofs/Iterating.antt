-- A parallel iteration is its beginning, its body and its end, and a region likewise, since a body leaves the iterations round it as they were.
use Rattle.std.proofs.Common.{◌≡◌, map, ℕ, ◌-◌, Bool, true, false, if◌then◌else◌, List, [], ◌∷◌, ◌++◌, length, take, Option, refl, sym, ap, subst, ◌∙◌, arith}
use Rattle.std.proofs.Math.Seq.{take-append_seam}
use Rattle.std.proofs.lemmas.List.{length-append}
use Rattle.codon_base.specs.declared.object.Object.{Object}
use Rattle.codon_base.specs.declared.value.Value.{Value}
use Rattle.codon_base.specs.declared.value.Value.TheVariants.{Unset}
use Rattle.source_trees.specs.declared.statement.LoopNames.{LoopNames}
use Rattle.source_trees.specs.declared.statement.Stmt.{Stmt}
use Rattle.source_trees.specs.declared.pipeline.Stage.{Stage}
use Rattle.meaning_rules.specs.State.{Spelling, is_among, Names, unset_names, with_names_of, Iteration, State, Stop, Flow}
use Rattle.meaning_rules.specs.Outcome.{Outcome, Gives, Stops, Run, and_then, ◌>>=◌, bind, pure, item_reached, in_iteration, is_outside, counting}
use Rattle.meaning_rules.specs.Program.{Program, Scope}
use Rattle.meaning_rules.specs.Task.{Region, Consumer, Body, Turn, Setting}
use Rattle.meaning_rules.specs.Iterations.{in_place}
use Rattle.meaning_rules.specs.Statements.{statements, body_turn, parallel_turn}
use Rattle.meaning_rules.specs.Pipelines.{parallel_part, ahead_of, perform, through}
use Rattle.meaning_rules.specs.Meaning.{run}
use Rattle.plain_interpreter.specs.Inside.{entering, leaving, from_zero, finishing}
use Rattle.plain_interpreter.specs.Seen.{iteration_of}
use Rattle.plain_interpreter.specs.declared.state.Iteration as code
use Rattle.meaning_rules.proofs.ClosedPipelines.{ahead_of_closed, perform_closed, through_closed}
use Rattle.meaning_rules.proofs.ClosedStatements.{task_closed}
use Rattle.meaning_rules.proofs.Steady.{Kept, runs_steady}

-- ---- what comes back

twice : (b : Bool) (x u y : Value) → (if b then (if b then x else u) else y) ≡ (if b then x else y)
twice true x u y = refl
twice false x u y = refl

names_back : (before after : Names) (own : List Spelling) → with_names_of (with_names_of before own unset_names) own after ≡ with_names_of before own after
names_back before after own i name = twice (is_among name own) (before name) Unset (after name) i

iterations_back : (before after : List Iteration) (one : Iteration) → after ≡ before ++ one ∷ [] → take (length after - 1) after ≡ before
iterations_back before after one e =
    let many = length-append before (one ∷ []) in
    let fewer : length (before ++ one ∷ []) - 1 ≡ length before = omega (arith, many) in
    ap (λ l. take (length l - 1) l) e ∙ ap (λ n. take n (before ++ one ∷ [])) fewer ∙ take-append_seam before (one ∷ [])

levels_back : (before after : List (List Object)) → length after ≡ length (before ++ [] ∷ []) → take (length after - 1) after ≡ take (length before) after
levels_back before after e =
    let many = length-append before ([] ∷ []) in
    let fewer : length after - 1 ≡ length before = omega (arith, many, e) in
    ap (λ n. take n after) fewer

-- ---- iterations

ends_alike : {A : Type 0} (its : List Iteration) (m : ℕ) (x : Outcome A) (f g : State → State) → Kept A its m x → ((t : State) → t.shared.iterations ≡ its → length t.shared.levels ≡ m → f t ≡ g t) → and_then x (λ a t. Gives a (f t)) ≡ and_then x (λ a t. Gives a (g t))
ends_alike its m (Gives a t) f g k e = ap (λ u. Gives a u) (e t k.0 k.1)
ends_alike its m (Stops why t) f g k e = refl

pub item_steps : (region : Region) (v : Value) (body : Run Flow) → ((s : State) → Kept Flow s.shared.iterations (length s.shared.levels) (body s)) → (s : State)
    → in_place.item region v body s ≡ (entering region v >>= λ saved. body >>= λ flow. leaving region saved >>= λ _. pure flow) s
unfolding bind pure item_reached in_iteration entering leaving
item_steps region v body steady s =
    let one : Iteration = record { item = v; lent = region.lent; targets = region.targets } in
    ends_alike (s.shared.iterations ++ one ∷ []) (length (s.shared.levels ++ [] ∷ [])) (body _) _ _ (steady _)
    (λ t its levels i. record t {
      names = sym (names_back s.names t.names region.own) i;
      shared = record t.shared {
        used = s.shared.used;
        levels = sym (levels_back s.shared.levels t.shared.levels levels) i;
        globals = sym (names_back s.shared.globals t.shared.globals region.own_globals) i;
        iterations = sym (iterations_back s.shared.iterations t.shared.iterations one its) i;
      };
    })

-- ---- regions

pub outside_seen : (iterations : List code.Iteration) (empty : Bool) → (empty ≡ true → iterations ≡ []) → (iterations ≡ [] → empty ≡ true) → empty ≡ is_outside (map iteration_of iterations)
outside_seen [] empty f g = g refl
outside_seen (one ∷ more) true f g = let none : one ∷ more ≡ [] = f refl in cc
outside_seen (one ∷ more) false f g = refl

pub counting_steps : (body : Run Flow) (s : State) → counting body s ≡ and_then (body (from_zero s)) (λ flow. finishing (is_outside s.shared.iterations) s.shared.reached flow >>= λ _. pure flow)
unfolding bind pure counting finishing
counting_steps body s = refl

-- ---- the bodies of parallel loops and of stages

levels_kept : (s t : State) (x : Outcome Flow) (flow : Flow) → Kept Flow s.shared.iterations (length s.shared.levels) x → x ≡ Gives flow t → length t.shared.levels ≡ length s.shared.levels
levels_kept s t x flow k e = (subst (λ o. Kept Flow s.shared.iterations (length s.shared.levels) o) e k).1

module _ (program : Program) (limit depth : ℕ) (deep : Stop) where
  abbrev pub at : Setting
  at = record { program = program; limit = limit; rules = in_place; low = run program in_place limit deep depth }

  module _ (consumers : List Consumer) where
    turn_steady : (inner : Scope) (names : LoopNames) (body : List Stmt) (v : Value) (s : State) → Kept Flow s.shared.iterations (length s.shared.levels) (body_turn at consumers inner names (statements at consumers inner body) v s)
    turn_steady inner names body v = task_closed program (runs_steady program limit depth deep) consumers (Turn (Body inner names body) v)

    pub turn_steps : (region : Region) (inner : Scope) (names : LoopNames) (body : List Stmt) (v : Value) (s : State)
        → parallel_turn at consumers region inner names (statements at consumers inner body) v s
        ≡ (entering region v >>= λ saved. body_turn at consumers inner names (statements at consumers inner body) v >>= λ flow. leaving region saved >>= λ _. pure flow) s
    turn_steps region inner names body v s = item_steps region v (body_turn at consumers inner names (statements at consumers inner body) v) (turn_steady inner names body v) s

    pub turn_levels : (inner : Scope) (names : LoopNames) (body : List Stmt) (v : Value) (s t : State) (flow : Flow)
        → body_turn at consumers inner names (statements at consumers inner body) v s ≡ Gives flow t → length t.shared.levels ≡ length s.shared.levels
    turn_levels inner names body v s t flow e = levels_kept s t _ flow (turn_steady inner names body v s) e

    -- the stage at a `||>` and those behind it, on a value
    abbrev pub staged : Scope → Stage → List Stage → Value → Run Flow
    staged scope stage more v = ahead_of at consumers scope (parallel_part more) (λ r. perform at consumers scope stage.form r more (through at consumers scope r more) v)

    stage_steady : (scope : Scope) (stage : Stage) (more : List Stage) (v : Value) (s : State) → Kept Flow s.shared.iterations (length s.shared.levels) (staged scope stage more v s)
    stage_steady scope stage more v =
        let c = runs_steady program limit depth deep in
        let on : Value → Option Region → Run Flow = λ w r. perform at consumers scope stage.form r more (through at consumers scope r more) w in
        ahead_of_closed program c consumers scope (parallel_part more) (on v) (on v) (λ r. perform_closed program c consumers scope stage.form r more (through at consumers scope r more) (through at consumers scope r more) (through_closed program c consumers scope r more) v)

    pub stage_steps : (region : Region) (scope : Scope) (stage : Stage) (more : List Stage) (v : Value) (s : State)
        → in_place.item region v (staged scope stage more v) s ≡ (entering region v >>= λ saved. staged scope stage more v >>= λ flow. leaving region saved >>= λ _. pure flow) s
    stage_steps region scope stage more v s = item_steps region v (staged scope stage more v) (stage_steady scope stage more v) s

    pub stage_levels : (scope : Scope) (stage : Stage) (more : List Stage) (v : Value) (s t : State) (flow : Flow) → staged scope stage more v s ≡ Gives flow t → length t.shared.levels ≡ length s.shared.levels
    stage_levels scope stage more v s t flow e = levels_kept s t _ flow (stage_steady scope stage more v s) e
