-- Runs that may enter only so many bodies. Where such a run does not stop for that, it is the run to any greater depth on the same fuel, and else it has printed the beginning of what that one prints. And where the fuel is no more than the depth, no run stops for its depth, since each body that is entered takes a tick.
use Rattle.std.proofs.Common.{◌≡◌, ℕ, zero, suc, ◌+◌, ◌-◌, ◌≤◌, ◌<◌, Bool, true, false, if◌then◌else◌, nat_lt, ◌&&◌, List, [], ◌∷◌, ◌++◌, length, refl, sym, ap, subst, ◌∙◌, arith}
use Rattle.std.proofs.lemmas.Bool.Decides.{nat_tests}
use Rattle.codon_base.specs.declared.object.Object.{Object}
use Rattle.codon_base.specs.declared.value.Value.{Value}
use Rattle.source_trees.specs.declared.item.Module.{Module}
use Rattle.meaning_rules.specs.State.{Spelling, Names, with_names_of, unset_names, Iteration, Shared, State, Stop, Faulted, OutOfFuel, TooDeep, Flow}
use Rattle.meaning_rules.specs.Outcome.{Outcome, Gives, Stops, Run, and_then, bind, pure, stop, tick, by_fuel, look, change_names, change_globals, change_levels, write, framed, generating, woken, suspended, resumed, in_iteration, item_reached, is_next, is_outside, counted, counting}
use Rattle.meaning_rules.specs.Program.{Program, program_of, module_scope, statements_of}
use Rattle.meaning_rules.specs.Task.{Region, Consumer, Task, Enter}
use Rattle.meaning_rules.specs.Iterations.{in_place}
use Rattle.meaning_rules.specs.Meaning.{run, outcome, meaning, meaning_of, start}
use Rattle.plain_interpreter.specs.Plain.{IsRun, IsMeant}
use Rattle.plain_interpreter.specs.declared.plain.PlainEnd.{PlainEnd}
use Rattle.meaning_rules.proofs.Closed.{Relation, Closed}
use Rattle.meaning_rules.proofs.ClosedRuns.{runs_closed}
use Rattle.meaning_rules.proofs.ClosedStatements.{task_closed}
use Rattle.meaning_rules.proofs.Longer.{out_of, begins_itself, Later, Longer, stops_later, cuts_later}
use Rattle.meaning_rules.proofs.Fuel.{fuelled}
use Rattle.meaning_rules.proofs.LawsHold.{bytes_are}

-- ---- a run that stops for its depth

-- a stop that is not for want of depth
abbrev IsShallow : Stop → Type 0
IsShallow (Faulted f) = Unit {0}
IsShallow OutOfFuel = Unit {0}
IsShallow TooDeep = ⊥

shallow : (m : Module) (fuel depth : ℕ) → depth ≤ fuel → Later IsShallow Flow [] (outcome m fuel depth TooDeep) (outcome m fuel fuel OutOfFuel)
unfolding outcome
shallow m fuel depth le =
    runs_closed (program_of m) (Longer IsShallow) in_place fuel fuel (stops_later IsShallow) (fuelled IsShallow fuel fuel (omega arith) (λ different h. different refl)) TooDeep (cuts_later IsShallow TooDeep (λ h. h)) (suc depth) (suc fuel) (omega arith) [] (Enter (module_scope m) (statements_of m)) start

-- ---- a depth that no fuel reaches

abbrev Within : (limit used : ℕ) {A : Type 0} → Outcome A → Type 0
Within limit used (Gives a t) = (used ≤ t.shared.used) × (t.shared.used ≤ limit)
Within limit used (Stops why t) = Unit {0}

-- two runs came to the same from a state with so many ticks taken, and took none back
record Alike (limit used : ℕ) (A : Type 0) (x y : Outcome A) : Type 0 where
  equal : x ≡ y
  within : Within limit used x

-- from each state with at least so many ticks taken and no more than there are
abbrev Bounded : (limit least : ℕ) → Relation
Bounded limit least n A p q = (s : State) → least ≤ s.shared.used → s.shared.used ≤ limit → Alike limit s.shared.used A (p s) (q s)

within_earlier : {A : Type 0} (limit used later : ℕ) (x : Outcome A) → used ≤ later → Within limit later x → Within limit used x
within_earlier limit used later (Gives a t) h w = let low = w.0 in (omega (arith, low), w.1)
within_earlier limit used later (Stops why t) h w = tt

earlier : {A : Type 0} (limit used later : ℕ) (x y : Outcome A) → used ≤ later → Alike limit later A x y → Alike limit used A x y
earlier limit used later x y h a = record { equal = a.equal; within = within_earlier limit used later x h a.within }

alike_then : {A B : Type 0} (limit used : ℕ) (x y : Outcome A) (k l : A → Run B) → Alike limit used A x y → ((a : A) (t : State) → used ≤ t.shared.used → t.shared.used ≤ limit → Alike limit used B (k a t) (l a t)) → Alike limit used B (and_then x k) (and_then y l)
alike_then limit used (Gives a t) y k l h e = let g = e a t h.within.0 h.within.1 in record { equal = g.equal ∙ ap (λ o. and_then o l) h.equal; within = g.within }
alike_then limit used (Stops why t) y k l h e = record { equal = ap (λ o. and_then o l) h.equal; within = tt }

-- a step that takes no tick
still : {A : Type 0} (limit : ℕ) (s : State) (a : A) (t : State) → t.shared.used ≡ s.shared.used → s.shared.used ≤ limit → Alike limit s.shared.used A (Gives a t) (Gives a t)
still limit s a t e h = record { equal = refl; within = (omega (arith, e), omega (arith, e)) }

module _ (limit least : ℕ) where
  stops_alike : (n : ℕ) (A : Type 0) (why : Stop) → Bounded limit least n A (stop why) (stop why)
  unfolding stop
  stops_alike n A why s low high = record { equal = refl; within = tt }

  pures_alike : (n : ℕ) (A : Type 0) (a : A) → Bounded limit least n A (pure a) (pure a)
  unfolding pure
  pures_alike n A a s low high = still limit s a s refl high

  looks_alike : (n : ℕ) (A : Type 0) (seen : State → A) → Bounded limit least n A (look seen) (look seen)
  unfolding look
  looks_alike n A seen s low high = still limit s _ s refl high

  names_alike : (n : ℕ) (change : Names → Names) → Bounded limit least n (Unit {0}) (change_names change) (change_names change)
  unfolding change_names
  names_alike n change s low high = still limit s tt _ refl high

  globals_alike : (n : ℕ) (change : Names → Names) → Bounded limit least n (Unit {0}) (change_globals change) (change_globals change)
  unfolding change_globals
  globals_alike n change s low high = still limit s tt _ refl high

  levels_alike : (n : ℕ) (change : List (List Object) → List (List Object)) → Bounded limit least n (Unit {0}) (change_levels change) (change_levels change)
  unfolding change_levels
  levels_alike n change s low high = still limit s tt _ refl high

  writes_alike : (n : ℕ) (bytes : List ℕ) → Bounded limit least n (Unit {0}) (write bytes) (write bytes)
  unfolding write
  writes_alike n bytes s low high = still limit s tt _ refl high

  reached_alike : (n : ℕ) → Bounded limit least n (Unit {0}) item_reached item_reached
  unfolding item_reached
  reached_alike n s low high = still limit s tt _ refl high

  frames_alike : (n : ℕ) (A : Type 0) (names : Names) (p q : Run A) → Bounded limit least n A p q → Bounded limit least n A (framed names p) (framed names q)
  unfolding framed
  frames_alike n A names p q e s low high = alike_then limit s.shared.used _ _ _ _ (e (record s { names = names }) low high) (λ a t i h. record { equal = refl; within = (i, h) })

  woken_alike : {A : Type 0} (used : ℕ) (a : A) (waiting : List Names) (t : State) → used ≤ t.shared.used → t.shared.used ≤ limit → Alike limit used A (woken a waiting t) (woken a waiting t)
  unfolding stop
  woken_alike used a [] t i h = record { equal = refl; within = tt }
  woken_alike used a (names ∷ waiting) t i h = record { equal = refl; within = (i, h) }

  generates_alike : (n : ℕ) (A : Type 0) (names : Names) (p q : Run A) → Bounded limit least (suc n) A p q → Bounded limit least n A (generating names p) (generating names q)
  unfolding generating
  generates_alike n A names p q e s low high =
      alike_then limit s.shared.used _ _ _ _ (e (record s { names = names; waiting = s.names ∷ s.waiting }) low high) (λ a t i h. woken_alike s.shared.used a t.waiting t i h)

  resumed_alike : {A : Type 0} (p q : Run A) → ((s : State) → least ≤ s.shared.used → s.shared.used ≤ limit → Alike limit s.shared.used A (p s) (q s)) → (waiting : List Names) (s : State) → least ≤ s.shared.used → s.shared.used ≤ limit → Alike limit s.shared.used A (resumed p waiting s) (resumed q waiting s)
  unfolding stop
  resumed_alike p q e [] s low high = record { equal = refl; within = tt }
  resumed_alike p q e (names ∷ waiting) s low high = alike_then limit s.shared.used _ _ _ _ (e (record s { names = names; waiting = waiting }) low high) (λ a t i h. record { equal = refl; within = (i, h) })

  suspends_alike : (n : ℕ) (A : Type 0) (p q : Run A) → Bounded limit least n A p q → Bounded limit least (suc n) A (suspended p) (suspended q)
  unfolding suspended
  suspends_alike n A p q e s low high = resumed_alike p q e s.waiting s low high

  binds_alike : (before : ℕ) → least ≤ before → (n : ℕ) (A B : Type 0) (p q : Run A) (k l : A → Run B) → Bounded limit before n A p q → ((a : A) → Bounded limit least n B (k a) (l a)) → Bounded limit before n B (bind p k) (bind q l)
  unfolding bind
  binds_alike before le n A B p q k l e h s low high =
      alike_then limit s.shared.used (p s) (q s) k l (e s low high) (λ a t i top. earlier limit s.shared.used t.shared.used _ _ i (h a t (omega arith) top))

  iterations_alike : (n : ℕ) (A : Type 0) (iteration : Iteration) (own own_globals : List Spelling) (p q : Run A) → Bounded limit least n A p q → Bounded limit least n A (in_iteration iteration own own_globals p) (in_iteration iteration own own_globals q)
  unfolding in_iteration
  iterations_alike n A iteration own own_globals p q e s low high = alike_then limit s.shared.used _ _ _ _
      (e (record s {
        names = with_names_of unset_names own s.names;
        shared = record s.shared { levels = s.shared.levels ++ [] ∷ []; globals = with_names_of unset_names own_globals s.shared.globals; iterations = s.shared.iterations ++ iteration ∷ [] };
      }) low high)
      (λ a t i h. still limit s a _ refl high)

  counted_used : (counts : Bool) (before after : Shared) → (counted counts before after).used ≡ after.used
  counted_used true before after = refl
  counted_used false before after = refl

  counting_alike : (n : ℕ) (p q : Run Flow) → Bounded limit least n Flow p q → Bounded limit least n Flow (counting p) (counting q)
  unfolding counting
  counting_alike n p q e s low high =
      alike_then limit s.shared.used _ _ _ _ (e (record s { shared = record s.shared { reached = 0 } }) low high)
      (λ flow t i h.
      let used = counted_used (is_outside s.shared.iterations && is_next flow) s.shared t.shared in
      record { equal = refl; within = (omega (arith, used), omega (arith, used)) })

  items_alike : (n : ℕ) (region : Region) (v : Value) (p q : Run Flow) → Bounded limit least n Flow p q → Bounded limit least n Flow (in_place.item region v p) (in_place.item region v q)
  items_alike n region v p q e =
      binds_alike least (omega arith) n (Unit {0}) Flow item_reached item_reached (λ _. in_iteration (record { item = v; lent = region.lent; targets = region.targets }) region.own region.own_globals p) (λ _. in_iteration (record { item = v; lent = region.lent; targets = region.targets }) region.own region.own_globals q) (reached_alike n) (λ _. iterations_alike n _ _ _ _ p q e)

  tick_left : (used : ℕ) → nat_lt used limit ≡ true → used + 1 ≤ limit
  tick_left used h = grind (arith, nat_tests)

  -- after the tick at least one more is taken
  entered : {A : Type 0} (k l : Unit {0} → Run A) (s : State) (b : Bool) → (b ≡ true → s.shared.used + 1 ≤ limit) → ((t : State) → t.shared.used ≡ s.shared.used + 1 → t.shared.used ≤ limit → Alike limit t.shared.used A (k tt t) (l tt t))
      → (t : State) → t.shared.used ≡ s.shared.used + 1 → Alike limit s.shared.used A (and_then (if b then Gives tt t else Stops OutOfFuel s) k) (and_then (if b then Gives tt t else Stops OutOfFuel s) l)
  entered k l s true f e t u = let more = f refl in earlier limit s.shared.used t.shared.used _ _ (omega (arith, u)) (e t u (omega (arith, u, more)))
  entered k l s false f e t u = record { equal = refl; within = tt }

  enters_alike : (n : ℕ) (A : Type 0) (k l : Unit {0} → Run A) → ((u : Unit {0}) → Bounded limit (suc least) n A (k u) (l u)) → Bounded limit least n A (bind (tick limit) k) (bind (tick limit) l)
  unfolding bind tick
  enters_alike n A k l e s low high =
      entered k l s (nat_lt s.shared.used limit) (tick_left s.shared.used) (λ t u h. e tt t (omega (arith, u)) h) (record s { shared = record s.shared { used = s.shared.used + 1 } }) refl

tick_alike : (limit : ℕ) (s : State) (b : Bool) → (b ≡ true → s.shared.used + 1 ≤ limit) → Alike limit s.shared.used (Unit {0}) (if b then Gives tt (record s { shared = record s.shared { used = s.shared.used + 1 } }) else Stops OutOfFuel s) (if b then Gives tt (record s { shared = record s.shared { used = s.shared.used + 1 } }) else Stops OutOfFuel s)
tick_alike limit s true f = record { equal = refl; within = (omega arith, f refl) }
tick_alike limit s false f = record { equal = refl; within = tt }

module _ (limit least : ℕ) where
  ticks_alike : (n : ℕ) → Bounded limit least n (Unit {0}) (tick limit) (tick limit)
  unfolding tick
  ticks_alike n s low high = tick_alike limit s (nat_lt s.shared.used limit) (tick_left limit least s.shared.used)

  fuels_alike : (n : ℕ) (A : Type 0) (k l : ℕ → Run A) → ((a b : ℕ) → a ≤ b → (limit ≡ limit → a ≡ b) → Bounded limit least n A (k a) (l b)) → Bounded limit least n A (by_fuel limit k) (by_fuel limit l)
  unfolding by_fuel
  fuels_alike n A k l e s low high = e (limit - s.shared.used) (limit - s.shared.used) (omega arith) (λ h. refl) s low high

  bounded : (low high : List Consumer → Task → Run Flow) → ((consumers : List Consumer) (t : Task) → Bounded limit (suc least) (length consumers) Flow (low consumers t) (high consumers t)) → Closed (Bounded limit least) in_place limit limit low high
  bounded low high lows = record {
    pures = pures_alike limit least;
    stops = stops_alike limit least;
    looks = looks_alike limit least;
    changes_names = names_alike limit least;
    changes_globals = globals_alike limit least;
    changes_levels = λ n change e. levels_alike limit least n change;
    writes = writes_alike limit least;
    ticks = ticks_alike;
    fuels = fuels_alike;
    binds = binds_alike limit least least (omega arith);
    frames = frames_alike limit least;
    generates = generates_alike limit least;
    suspends = suspends_alike limit least;
    regions = λ n region p q e. counting_alike limit least n p q e;
    items = items_alike limit least;
    cuts = λ different n A p q e. absurd (different refl);
    lifts = λ n A p q e. e;
    Ticked = Bounded limit (suc least);
    enters = enters_alike limit least;
    binds_ticked = binds_alike limit least (suc least) (omega arith);
    frames_ticked = frames_alike limit (suc least);
    generates_ticked = generates_alike limit (suc least);
    lows = lows;
  }

module _ (program : Program) (limit : ℕ) (deep other : Stop) where
  runs_alike : (n k least : ℕ) → limit < n + least → limit < k + least → (consumers : List Consumer) (t : Task) → Bounded limit least (length consumers) Flow (run program in_place limit deep n consumers t) (run program in_place limit other k consumers t)
  unfolding run
  runs_alike zero k least a b consumers t s low high = absurd (omega arith)
  runs_alike (suc n) zero least a b consumers t s low high = absurd (omega arith)
  runs_alike (suc n) (suc k) least a b consumers t s low high =
      task_closed program (bounded limit least (run program in_place limit deep n) (run program in_place limit other k) (runs_alike n k (suc least) (omega arith) (omega arith))) consumers t s low high

deep_enough : (m : Module) (fuel depth : ℕ) → fuel ≤ depth → outcome m fuel depth TooDeep ≡ outcome m fuel fuel OutOfFuel
unfolding outcome
deep_enough m fuel depth le =
    (runs_alike (program_of m) fuel TooDeep OutOfFuel (suc depth) (suc fuel) 0 (omega arith) (omega arith) [] (Enter (module_scope m) (statements_of m)) start (omega arith) (omega arith)).equal

-- ---- what the interpreter tells

equal_later : (x y : Outcome Flow) → x ≡ y → Later IsShallow Flow [] x y
equal_later x y e = record { stays = λ h. sym e; grows = (out_of y, refl); begins = subst (λ o. (rest : List ℕ) × (out_of o ≡ out_of x ++ rest)) e (begins_itself (out_of x)) }

by_order : (m : Module) (fuel depth : ℕ) (b : Bool) → nat_lt fuel depth ≡ b → Later IsShallow Flow [] (outcome m fuel depth TooDeep) (outcome m fuel fuel OutOfFuel)
by_order m fuel depth true h = equal_later _ _ (deep_enough m fuel depth (grind (arith, nat_tests)))
by_order m fuel depth false h = shallow m fuel depth (grind (arith, nat_tests))

by_run : (x y : Outcome Flow) (out : List ℕ) (how : PlainEnd) → Later IsShallow Flow [] x y → IsRun x out how → IsMeant (meaning_of y) out how
by_run (Gives flow s) y out how l r =
    subst (λ h. IsMeant (meaning_of y) out h) (sym r.1) (ap (λ o. (meaning_of o).bytes) (l.stays tt) ∙ sym r.0, ap (λ o. (meaning_of o).ending) (l.stays tt))
by_run (Stops (Faulted f) s) y out how l r =
    subst (λ h. IsMeant (meaning_of y) out h) (sym r.1) (ap (λ o. (meaning_of o).bytes) (l.stays tt) ∙ sym r.0, ap (λ o. (meaning_of o).ending) (l.stays tt))
by_run (Stops OutOfFuel s) y out how l r =
    subst (λ h. IsMeant (meaning_of y) out h) (sym r.1) (ap (λ o. (meaning_of o).bytes) (l.stays tt) ∙ sym r.0, ap (λ o. (meaning_of o).ending) (l.stays tt))
by_run (Stops TooDeep s) y out how l r =
    subst (λ h. IsMeant (meaning_of y) out h) (sym r.1) (l.begins.0, bytes_are y ∙ l.begins.1 ∙ ap (λ o. o ++ l.begins.0) (sym r.0))

-- an answer that is a run to a depth is the meaning, or has printed its beginning
pub is_meant : (m : Module) (fuel depth : ℕ) (out : List ℕ) (how : PlainEnd) → IsRun (outcome m fuel depth TooDeep) out how → IsMeant (meaning m fuel) out how
is_meant m fuel depth out how r = by_run _ _ out how (by_order m fuel depth (nat_lt fuel depth) refl) r
