-- A run in a text with so many loops over generators round it leaves the names that wait below them as they were, and as many names above. An expression stands in no such loop of its own, so all names that wait stay.
use Rattle.std.proofs.Common.{◌≡◌, ℕ, zero, suc, ◌-◌, ◌≤◌, Bool, true, false, if◌then◌else◌, nat_lt, List, [], ◌∷◌, ◌++◌, length, refl, ap, ◌∙◌, arith}
use Rattle.codon_base.specs.declared.object.Object.{Object}
use Rattle.codon_base.specs.declared.value.Value.{Value}
use Rattle.source_trees.specs.declared.expression.Expr.{Expr}
use Rattle.source_trees.specs.declared.item.Module.{Module}
use Rattle.meaning_rules.specs.State.{Spelling, Names, Iteration, State, Stop, OutOfFuel, Flow}
use Rattle.meaning_rules.specs.Outcome.{Outcome, Gives, Stops, Run, and_then, bind, pure, stop, tick, by_fuel, look, change_names, change_globals, change_levels, write, framed, generating, woken, suspended, resumed, in_iteration, item_reached, counting}
use Rattle.meaning_rules.specs.Program.{Scope, program_of}
use Rattle.meaning_rules.specs.Task.{Region, Consumer, Task}
use Rattle.meaning_rules.specs.Iterations.{in_place}
use Rattle.meaning_rules.specs.Expressions.{expr}
use Rattle.meaning_rules.specs.Meaning.{run}
use Rattle.meaning_rules.specs.Laws.{SameWaiting, KeepsWaiting, setting_of}
use Rattle.meaning_rules.proofs.Closed.{Relation, Closed}
use Rattle.meaning_rules.proofs.ClosedExpressions.{expr_closed}
use Rattle.meaning_rules.proofs.ClosedRuns.{runs_equal}

-- so many names above those below
pub record Above (n : ℕ) (below waiting : List Names) : Type 0 where
  pub above : List Names
  pub are : waiting ≡ above ++ below
  pub many : length above ≡ n

abbrev pub Kept : (A : Type 0) → ℕ → List Names → Outcome A → Type 0
Kept A n below (Gives a t) = Above n below t.waiting
Kept A n below (Stops why t) = Unit {0}

abbrev pub Keeping : Relation
Keeping n A p q = (s : State) (below : List Names) → Above n below s.waiting → Kept A n below (q s)

kept_then : {A B : Type 0} (n m : ℕ) (below under : List Names) (x : Outcome A) (l : A → Run B) → Kept A n below x → ((a : A) (t : State) → Above n below t.waiting → Kept B m under (l a t)) → Kept B m under (and_then x l)
kept_then n m below under (Gives a t) l k e = e a t k
kept_then n m below under (Stops why t) l k e = tt

stops_kept : (n : ℕ) (A : Type 0) (why : Stop) → Keeping n A (stop why) (stop why)
unfolding stop
stops_kept n A why s below w = tt

pures_kept : (n : ℕ) (A : Type 0) (a : A) → Keeping n A (pure a) (pure a)
unfolding pure
pures_kept n A a s below w = w

looks_kept : (n : ℕ) (A : Type 0) (seen : State → A) → Keeping n A (look seen) (look seen)
unfolding look
looks_kept n A seen s below w = w

names_kept : (n : ℕ) (change : Names → Names) → Keeping n (Unit {0}) (change_names change) (change_names change)
unfolding change_names
names_kept n change s below w = w

globals_kept : (n : ℕ) (change : Names → Names) → Keeping n (Unit {0}) (change_globals change) (change_globals change)
unfolding change_globals
globals_kept n change s below w = w

levels_kept : (n : ℕ) (change : List (List Object) → List (List Object)) → Keeping n (Unit {0}) (change_levels change) (change_levels change)
unfolding change_levels
levels_kept n change s below w = w

writes_kept : (n : ℕ) (bytes : List ℕ) → Keeping n (Unit {0}) (write bytes) (write bytes)
unfolding write
writes_kept n bytes s below w = w

reached_kept : (n : ℕ) → Keeping n (Unit {0}) item_reached item_reached
unfolding item_reached
reached_kept n s below w = w

binds_kept : (n : ℕ) (A B : Type 0) (p q : Run A) (k l : A → Run B) → Keeping n A p q → ((a : A) → Keeping n B (k a) (l a)) → Keeping n B (bind p k) (bind q l)
unfolding bind
binds_kept n A B p q k l e h s below w = kept_then n n below below (q s) l (e s below w) (λ a t v. h a t below v)

frames_kept : (n : ℕ) (A : Type 0) (names : Names) (p q : Run A) → Keeping n A p q → Keeping n A (framed names p) (framed names q)
unfolding framed
frames_kept n A names p q e s below w = kept_then n n below below (q (record s { names = names })) _ (e _ below w) (λ a t v. v)

tail : List Names → List Names
tail [] = []
tail (names ∷ waiting) = waiting

without_first : (n : ℕ) (below waiting : List Names) (names : Names) (above : List Names) → names ∷ waiting ≡ above ++ below → length above ≡ suc n → Above n below waiting
unfolding tail
without_first n below waiting names [] e m = absurd (omega arith)
without_first n below waiting names (first ∷ above) e m = record { above = above; are = ap tail e; many = omega arith }

-- the names of the loop come back, and those below them are kept
woken_kept : {A : Type 0} (n : ℕ) (a : A) (below waiting : List Names) (t : State) → Above (suc n) below waiting → Kept A n below (woken a waiting t)
unfolding stop
woken_kept n a below [] t w = tt
woken_kept n a below (names ∷ waiting) t w = without_first n below waiting names w.above w.are w.many

generates_kept : (n : ℕ) (A : Type 0) (names : Names) (p q : Run A) → Keeping (suc n) A p q → Keeping n A (generating names p) (generating names q)
unfolding generating
generates_kept n A names p q e s below w =
    kept_then (suc n) n below below (q (record s { names = names; waiting = s.names ∷ s.waiting })) _
    (e _ below (record { above = s.names ∷ w.above; are = ap (λ l. s.names ∷ l) w.are; many = ap suc w.many }))
    (λ a t v. woken_kept n a below t.waiting t v)

resumed_kept : {A : Type 0} (n : ℕ) (q : Run A) → ((s : State) (below : List Names) → Above n below s.waiting → Kept A n below (q s)) → (waiting : List Names) (s : State) (below : List Names) → Above (suc n) below waiting → Kept A (suc n) below (resumed q waiting s)
unfolding stop
resumed_kept n q e [] s below w = tt
resumed_kept n q e (names ∷ waiting) s below w =
    kept_then n (suc n) below below (q (record s { names = names; waiting = waiting })) _
    (e _ below (without_first n below waiting names w.above w.are w.many))
    (λ a t v. record { above = t.names ∷ v.above; are = ap (λ l. t.names ∷ l) v.are; many = ap suc v.many })

suspends_kept : (n : ℕ) (A : Type 0) (p q : Run A) → Keeping n A p q → Keeping (suc n) A (suspended p) (suspended q)
unfolding suspended
suspends_kept n A p q e s below w = resumed_kept n q e s.waiting s below w

iterations_kept : (n : ℕ) (A : Type 0) (iteration : Iteration) (own own_globals : List Spelling) (p q : Run A) → Keeping n A p q → Keeping n A (in_iteration iteration own own_globals p) (in_iteration iteration own own_globals q)
unfolding in_iteration
iterations_kept n A iteration own own_globals p q e s below w = kept_then n n below below (q _) _ (e _ below w) (λ a t v. v)

counting_kept : (n : ℕ) (p q : Run Flow) → Keeping n Flow p q → Keeping n Flow (counting p) (counting q)
unfolding counting
counting_kept n p q e s below w = kept_then n n below below (q _) _ (e _ below w) (λ a t v. v)

items_kept : (n : ℕ) (region : Region) (v : Value) (p q : Run Flow) → Keeping n Flow p q → Keeping n Flow (in_place.item region v p) (in_place.item region v q)
items_kept n region v p q e = binds_kept n (Unit {0}) Flow item_reached item_reached (λ _. in_iteration (record { item = v; lent = region.lent; targets = region.targets }) region.own region.own_globals p) (λ _. in_iteration (record { item = v; lent = region.lent; targets = region.targets }) region.own region.own_globals q) (reached_kept n) (λ _. iterations_kept n _ _ _ _ p q e)

tick_kept : (n : ℕ) (below : List Names) (s t : State) (b : Bool) → Above n below t.waiting → Kept (Unit {0}) n below (if b then Gives tt t else Stops OutOfFuel s)
tick_kept n below s t true w = w
tick_kept n below s t false w = tt

all_below : (waiting : List Names) → Above zero waiting waiting
all_below waiting = record { above = []; are = refl; many = refl }

none_above : (waiting below above : List Names) → waiting ≡ above ++ below → length above ≡ zero → waiting ≡ below
none_above waiting below [] e m = e
none_above waiting below (first ∷ above) e m = absurd (omega arith)

lifted : {A : Type 0} (n : ℕ) (below waiting : List Names) (x : Outcome A) → Kept A zero waiting x → Above n below waiting → Kept A n below x
lifted n below waiting (Gives a t) k w = record { above = w.above; are = none_above _ _ k.above k.are k.many ∙ w.are; many = w.many }
lifted n below waiting (Stops why t) k w = tt

-- a text with no loop round it keeps all names that wait
lifts_kept : (n : ℕ) (A : Type 0) (p q : Run A) → Keeping zero A p q → Keeping n A p q
lifts_kept n A p q e s below w = lifted n below s.waiting (q s) (e s s.waiting (all_below s.waiting)) w

module _ (limit : ℕ) where
  ticks_kept : (n : ℕ) → Keeping n (Unit {0}) (tick limit) (tick limit)
  unfolding tick
  ticks_kept n s below w = tick_kept n below s _ (nat_lt s.shared.used limit) w

  fuels_kept : (n : ℕ) (A : Type 0) (k l : ℕ → Run A) → ((a b : ℕ) → a ≤ b → (limit ≡ limit → a ≡ b) → Keeping n A (k a) (l b)) → Keeping n A (by_fuel limit k) (by_fuel limit l)
  unfolding by_fuel
  fuels_kept n A k l e s below w = e (limit - s.shared.used) (limit - s.shared.used) (omega arith) (λ h. refl) s below w

  keeping : (low high : List Consumer → Task → Run Flow) → ((consumers : List Consumer) (t : Task) → Keeping (length consumers) Flow (low consumers t) (high consumers t)) → Closed Keeping in_place limit limit low high
  keeping low high lows = record {
    pures = pures_kept;
    stops = stops_kept;
    looks = looks_kept;
    changes_names = names_kept;
    changes_globals = globals_kept;
    changes_levels = λ n change e. levels_kept n change;
    writes = writes_kept;
    ticks = ticks_kept;
    fuels = fuels_kept;
    binds = binds_kept;
    frames = frames_kept;
    generates = generates_kept;
    suspends = suspends_kept;
    regions = λ n region p q e. counting_kept n p q e;
    items = items_kept;
    cuts = λ different n A p q e. e;
    lifts = lifts_kept;
    Ticked = Keeping;
    enters = λ n A k l e. binds_kept n (Unit {0}) A (tick limit) (tick limit) k l (ticks_kept n) e;
    binds_ticked = binds_kept;
    frames_ticked = frames_kept;
    generates_ticked = generates_kept;
    lows = lows;
  }

same_waiting : (before : State) (x : Outcome Value) → Kept Value zero before.waiting x → SameWaiting before x
same_waiting before (Gives v t) k = none_above _ _ k.above k.are k.many
same_waiting before (Stops why t) k = tt

expressions_keep : (m : Module) (limit depth : ℕ) (deep : Stop) (scope : Scope) (e : Expr) → Keeping zero Value (expr (setting_of m limit deep depth) scope e) (expr (setting_of m limit deep depth) scope e)
expressions_keep m limit depth deep scope e =
    expr_closed (program_of m) (keeping limit (run (program_of m) in_place limit deep depth) (run (program_of m) in_place limit deep depth) (runs_equal (program_of m) Keeping in_place limit limit stops_kept (keeping limit) deep depth)) scope e

pub keeps_waiting : (m : Module) → KeepsWaiting m
keeps_waiting m = record { keeps = λ limit depth deep scope e s. same_waiting s _ (expressions_keep m limit depth deep scope e s s.waiting (all_below s.waiting)) }
