-- A run that goes on leaves the parallel iterations as they were, and as many levels of the heap.
use Rattle.std.proofs.Common.{◌≡◌, ℕ, suc, ◌+◌, ◌-◌, ◌≤◌, Bool, true, false, if◌then◌else◌, nat_lt, ◌&&◌, List, [], ◌∷◌, ◌++◌, length, take, refl, sym, ap, ◌∙◌, arith}
use Rattle.std.proofs.lemmas.List.{length-append, length-take-le}
use Rattle.codon_base.specs.declared.object.Object.{Object}
use Rattle.codon_base.specs.declared.value.Value.{Value}
use Rattle.meaning_rules.specs.State.{Spelling, Names, Iteration, Shared, State, Stop, OutOfFuel, Flow}
use Rattle.meaning_rules.specs.Outcome.{Outcome, Gives, Stops, Run, and_then, bind, pure, stop, tick, by_fuel, look, change_names, change_globals, change_levels, write, framed, generating, woken, suspended, resumed, in_iteration, item_reached, is_next, is_outside, counted, counting}
use Rattle.meaning_rules.specs.Program.{Program}
use Rattle.meaning_rules.specs.Task.{Region, Consumer, Task, Setting}
use Rattle.meaning_rules.specs.Iterations.{in_place}
use Rattle.meaning_rules.specs.Meaning.{run}
use Rattle.meaning_rules.proofs.Closed.{Relation, Closed}
use Rattle.meaning_rules.proofs.ClosedRuns.{runs_equal}

abbrev pub Kept : (A : Type 0) → List Iteration → ℕ → Outcome A → Type 0
Kept A iterations levels (Gives a t) = (t.shared.iterations ≡ iterations) × (length t.shared.levels ≡ levels)
Kept A iterations levels (Stops why t) = Unit {0}

abbrev pub Steady : Relation
Steady n A p q = (s : State) → Kept A s.shared.iterations (length s.shared.levels) (q s)

kept_then : {A B : Type 0} (its others : List Iteration) (m k : ℕ) (x : Outcome A) (l : A → Run B) → Kept A its m x → ((a : A) (t : State) → t.shared.iterations ≡ its → length t.shared.levels ≡ m → Kept B others k (l a t)) → Kept B others k (and_then x l)
kept_then its others m k (Gives a t) l h e = e a t h.0 h.1
kept_then its others m k (Stops why t) l h e = tt

moved : {A : Type 0} (its others : List Iteration) (m k : ℕ) (x : Outcome A) → Kept A its m x → its ≡ others → m ≡ k → Kept A others k x
moved its others m k (Gives a t) h i e = (h.0 ∙ i, h.1 ∙ e)
moved its others m k (Stops why t) h i e = tt

stops_steady : (n : ℕ) (A : Type 0) (why : Stop) → Steady n A (stop why) (stop why)
unfolding stop
stops_steady n A why s = tt

pures_steady : (n : ℕ) (A : Type 0) (a : A) → Steady n A (pure a) (pure a)
unfolding pure
pures_steady n A a s = (refl, refl)

looks_steady : (n : ℕ) (A : Type 0) (seen : State → A) → Steady n A (look seen) (look seen)
unfolding look
looks_steady n A seen s = (refl, refl)

names_steady : (n : ℕ) (change : Names → Names) → Steady n (Unit {0}) (change_names change) (change_names change)
unfolding change_names
names_steady n change s = (refl, refl)

globals_steady : (n : ℕ) (change : Names → Names) → Steady n (Unit {0}) (change_globals change) (change_globals change)
unfolding change_globals
globals_steady n change s = (refl, refl)

levels_steady : (n : ℕ) (change : List (List Object) → List (List Object)) → ((levels : List (List Object)) → length (change levels) ≡ length levels) → Steady n (Unit {0}) (change_levels change) (change_levels change)
unfolding change_levels
levels_steady n change e s = (refl, e s.shared.levels)

writes_steady : (n : ℕ) (bytes : List ℕ) → Steady n (Unit {0}) (write bytes) (write bytes)
unfolding write
writes_steady n bytes s = (refl, refl)

reached_steady : (n : ℕ) → Steady n (Unit {0}) item_reached item_reached
unfolding item_reached
reached_steady n s = (refl, refl)

binds_steady : (n : ℕ) (A B : Type 0) (p q : Run A) (k l : A → Run B) → Steady n A p q → ((a : A) → Steady n B (k a) (l a)) → Steady n B (bind p k) (bind q l)
unfolding bind
binds_steady n A B p q k l e h s = kept_then s.shared.iterations s.shared.iterations _ _ (q s) l (e s) (λ a t i m. moved t.shared.iterations s.shared.iterations _ _ (l a t) (h a t) i m)

frames_steady : (n : ℕ) (A : Type 0) (names : Names) (p q : Run A) → Steady n A p q → Steady n A (framed names p) (framed names q)
unfolding framed
frames_steady n A names p q e s = kept_then s.shared.iterations s.shared.iterations _ _ (q (record s { names = names })) _ (e _) (λ a t i m. (i, m))

woken_steady : {A : Type 0} (its : List Iteration) (m : ℕ) (a : A) (waiting : List Names) (t : State) → t.shared.iterations ≡ its → length t.shared.levels ≡ m → Kept A its m (woken a waiting t)
unfolding stop
woken_steady its m a [] t i e = tt
woken_steady its m a (names ∷ waiting) t i e = (i, e)

generates_steady : (n : ℕ) (A : Type 0) (names : Names) (p q : Run A) → Steady (suc n) A p q → Steady n A (generating names p) (generating names q)
unfolding generating
generates_steady n A names p q e s =
    kept_then s.shared.iterations s.shared.iterations _ _ (q (record s { names = names; waiting = s.names ∷ s.waiting })) _ (e _) (λ a t i m. woken_steady _ _ a t.waiting t i m)

resumed_steady : {A : Type 0} (q : Run A) → ((s : State) → Kept A s.shared.iterations (length s.shared.levels) (q s)) → (waiting : List Names) (s : State) → Kept A s.shared.iterations (length s.shared.levels) (resumed q waiting s)
unfolding stop
resumed_steady q e [] s = tt
resumed_steady q e (names ∷ waiting) s = kept_then s.shared.iterations s.shared.iterations _ _ (q (record s { names = names; waiting = waiting })) _ (e _) (λ a t i m. (i, m))

suspends_steady : (n : ℕ) (A : Type 0) (p q : Run A) → Steady n A p q → Steady (suc n) A (suspended p) (suspended q)
unfolding suspended
suspends_steady n A p q e s = resumed_steady q e s.waiting s

-- the level of the iteration was put above the others
outer_levels : (levels after : List (List Object)) → length after ≡ length (levels ++ [] ∷ []) → length (take (length levels) after) ≡ length levels
outer_levels levels after e =
    let more = length-append levels ([] ∷ []) in
    length-take-le (length levels) after (omega (arith, more))

iterations_steady : (n : ℕ) (A : Type 0) (iteration : Iteration) (own own_globals : List Spelling) (p q : Run A) → Steady n A p q → Steady n A (in_iteration iteration own own_globals p) (in_iteration iteration own own_globals q)
unfolding in_iteration
iterations_steady n A iteration own own_globals p q e s =
    kept_then (s.shared.iterations ++ iteration ∷ []) s.shared.iterations (length (s.shared.levels ++ [] ∷ [])) (length s.shared.levels) (q _) _ (e _) (λ a t i m. (refl, outer_levels s.shared.levels t.shared.levels m))

counted_iterations : (counts : Bool) (before after : Shared) → (counted counts before after).iterations ≡ after.iterations
counted_iterations true before after = refl
counted_iterations false before after = refl

counted_levels : (counts : Bool) (before after : Shared) → length (counted counts before after).levels ≡ length after.levels
counted_levels true before after = refl
counted_levels false before after = refl

counting_steady : (n : ℕ) (p q : Run Flow) → Steady n Flow p q → Steady n Flow (counting p) (counting q)
unfolding counting
counting_steady n p q e s =
    kept_then s.shared.iterations s.shared.iterations (length s.shared.levels) (length s.shared.levels) (q _) _ (e _)
    (λ flow t i m.
    let counts = is_outside s.shared.iterations && is_next flow in
    (counted_iterations counts s.shared t.shared ∙ i, counted_levels counts s.shared t.shared ∙ m))

items_steady : (n : ℕ) (region : Region) (v : Value) (p q : Run Flow) → Steady n Flow p q → Steady n Flow (in_place.item region v p) (in_place.item region v q)
items_steady n region v p q e =
    binds_steady n (Unit {0}) Flow item_reached item_reached (λ _. in_iteration (record { item = v; lent = region.lent; targets = region.targets }) region.own region.own_globals p) (λ _. in_iteration (record { item = v; lent = region.lent; targets = region.targets }) region.own region.own_globals q) (reached_steady n) (λ _. iterations_steady n _ _ _ _ p q e)

tick_steady : (its : List Iteration) (m : ℕ) (s t : State) (b : Bool) → t.shared.iterations ≡ its → length t.shared.levels ≡ m → Kept (Unit {0}) its m (if b then Gives tt t else Stops OutOfFuel s)
tick_steady its m s t true i e = (i, e)
tick_steady its m s t false i e = tt

module _ (limit : ℕ) where
  ticks_steady : (n : ℕ) → Steady n (Unit {0}) (tick limit) (tick limit)
  unfolding tick
  ticks_steady n s = tick_steady _ _ s _ (nat_lt s.shared.used limit) refl refl

  fuels_steady : (n : ℕ) (A : Type 0) (k l : ℕ → Run A) → ((a b : ℕ) → a ≤ b → (limit ≡ limit → a ≡ b) → Steady n A (k a) (l b)) → Steady n A (by_fuel limit k) (by_fuel limit l)
  unfolding by_fuel
  fuels_steady n A k l e s = e (limit - s.shared.used) (limit - s.shared.used) (omega arith) (λ h. refl) s

  pub steady : (low high : List Consumer → Task → Run Flow) → ((consumers : List Consumer) (t : Task) → Steady (length consumers) Flow (low consumers t) (high consumers t)) → Closed Steady in_place limit limit low high
  steady low high lows = record {
    pures = pures_steady;
    stops = stops_steady;
    looks = looks_steady;
    changes_names = names_steady;
    changes_globals = globals_steady;
    changes_levels = levels_steady;
    writes = writes_steady;
    ticks = ticks_steady;
    fuels = fuels_steady;
    binds = binds_steady;
    frames = frames_steady;
    generates = generates_steady;
    suspends = suspends_steady;
    regions = λ n region p q e. counting_steady n p q e;
    items = items_steady;
    cuts = λ different n A p q e. e;
    lifts = λ n A p q e. e;
    Ticked = Steady;
    enters = λ n A k l e. binds_steady n (Unit {0}) A (tick limit) (tick limit) k l (ticks_steady n) e;
    binds_ticked = binds_steady;
    frames_ticked = frames_steady;
    generates_ticked = generates_steady;
    lows = lows;
  }

-- runs to any depth, with any word for 'deeper'
pub runs_steady : (program : Program) (limit depth : ℕ) (deep : Stop) → Closed Steady in_place limit limit (run program in_place limit deep depth) (run program in_place limit deep depth)
runs_steady program limit depth deep = steady limit _ _ (runs_equal program Steady in_place limit limit stops_steady (steady limit) deep depth)
