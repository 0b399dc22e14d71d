-- Of two runs from one state: where the shorter one ends, the longer one is equal, and what the shorter one printed is the beginning of what the longer one prints. Which stops are ends is open.
-- The relation says both, and that the longer one prints on from there; the last is what lets a run that is cut off be followed by anything.
use Rattle.std.proofs.Common.{◌≡◌, ℕ, suc, Bool, true, false, ◌&&◌, List, [], ◌∷◌, ◌++◌, length, refl, sym, ap, subst, ◌∙◌}
use Rattle.std.proofs.lemmas.List.{append-nil, append_assoc}
use Rattle.codon_base.specs.declared.object.Object.{Object}
use Rattle.codon_base.specs.declared.value.Value.{Value}
use Rattle.meaning_rules.specs.State.{Spelling, Names, Iteration, Shared, State, Stop, Flow}
use Rattle.meaning_rules.specs.Outcome.{Outcome, Gives, Stops, Run, and_then, bind, pure, stop, look, change_names, change_globals, change_levels, write, framed, generating, woken, suspended, resumed, in_iteration, item_reached, is_next, is_outside, counted, counting}
use Rattle.meaning_rules.specs.Task.{Region}
use Rattle.meaning_rules.specs.Iterations.{in_place}
use Rattle.meaning_rules.proofs.Closed.{Relation}

abbrev pub state_of : {A : Type 0} → Outcome A → State
state_of (Gives a s) = s
state_of (Stops why s) = s

abbrev pub out_of : {A : Type 0} → Outcome A → List ℕ
out_of o = (state_of o).shared.out

-- a run that is not cut off
abbrev pub Ends : (Stop → Type 0) → {A : Type 0} → Outcome A → Type 0
Ends final (Gives a s) = Unit {0}
Ends final (Stops why s) = final why

abbrev pub Begins : List ℕ → List ℕ → Type 0
Begins xs ys = (rest : List ℕ) × (ys ≡ xs ++ rest)

pub begins_itself : (xs : List ℕ) → Begins xs xs
begins_itself xs = ([], sym (append-nil xs))

begins_on : (xs ys zs : List ℕ) → Begins xs ys → Begins ys zs → Begins xs zs
begins_on xs ys zs p q = (p.0 ++ q.0, q.1 ∙ ap (λ l. l ++ q.0) p.1 ∙ append_assoc xs p.0 q.0)

-- what two runs came to from a state where this had been printed
pub record Later (final : Stop → Type 0) (A : Type 0) (before : List ℕ) (x y : Outcome A) : Type 0 where
  pub stays : Ends final x → y ≡ x
  pub grows : Begins before (out_of y)
  pub begins : Begins (out_of x) (out_of y)

module _ (final : Stop → Type 0) where
  abbrev pub Longer : Relation
  Longer n A p q = (s : State) → Later final A s.shared.out (p s) (q s)

  -- a step that is the same in both runs
  pub same_step : {A : Type 0} (before : List ℕ) (x : Outcome A) → Begins before (out_of x) → Later final A before x x
  same_step before x g = record { stays = λ h. refl; grows = g; begins = begins_itself _ }

  quiet_step : {A : Type 0} (s : State) (a : A) (t : State) → t.shared.out ≡ s.shared.out → Later final A s.shared.out (Gives a t) (Gives a t)
  quiet_step s a t e = same_step _ _ ([], e ∙ sym (append-nil _))

  grown_then : {A B : Type 0} (y : Outcome A) (l : A → Run B) → ((a : A) (t : State) → Begins t.shared.out (out_of (l a t))) → Begins (out_of y) (out_of (and_then y l))
  grown_then (Gives a t) l e = e a t
  grown_then (Stops why t) l e = begins_itself _

  later_then : {A B : Type 0} (before : List ℕ) (x y : Outcome A) (k l : A → Run B) → Later final A before x y → ((a : A) (t : State) → Later final B t.shared.out (k a t) (l a t)) → Later final B before (and_then x k) (and_then y l)
  later_then before (Gives a t) y k l p q = subst (λ o. Later final _ before (k a t) (and_then o l)) (sym (p.stays tt)) (record { stays = (q a t).stays; grows = begins_on _ _ _ (subst (λ o. Begins before (out_of o)) (p.stays tt) p.grows) (q a t).grows; begins = (q a t).begins })
  later_then before (Stops why t) y k l p q = record {
    stays = λ h. ap (λ o. and_then o l) (p.stays h);
    grows = begins_on _ _ _ p.grows (grown_then y l (λ a u. (q a u).grows));
    begins = begins_on _ _ _ p.begins (grown_then y l (λ a u. (q a u).grows));
  }

  -- what comes after a run and prints nothing
  later_then_quiet : {A B : Type 0} (before : List ℕ) (x y : Outcome A) (b : A → State → B) (t : A → State → State) → ((a : A) (u : State) → (t a u).shared.out ≡ u.shared.out) → Later final A before x y → Later final B before (and_then x (λ a u. Gives (b a u) (t a u))) (and_then y (λ a u. Gives (b a u) (t a u)))
  later_then_quiet before x y b t e p = later_then before x y _ _ p (λ a u. quiet_step u (b a u) (t a u) (e a u))

  -- ---- the steps

  pub stops_later : (n : ℕ) (A : Type 0) (why : Stop) → Longer n A (stop why) (stop why)
  unfolding stop
  stops_later n A why s = same_step _ _ (begins_itself _)

  pub pures_later : (n : ℕ) (A : Type 0) (a : A) → Longer n A (pure a) (pure a)
  unfolding pure
  pures_later n A a s = same_step _ _ (begins_itself _)

  pub looks_later : (n : ℕ) (A : Type 0) (seen : State → A) → Longer n A (look seen) (look seen)
  unfolding look
  looks_later n A seen s = same_step _ _ (begins_itself _)

  pub names_later : (n : ℕ) (change : Names → Names) → Longer n (Unit {0}) (change_names change) (change_names change)
  unfolding change_names
  names_later n change s = same_step _ _ (begins_itself _)

  pub globals_later : (n : ℕ) (change : Names → Names) → Longer n (Unit {0}) (change_globals change) (change_globals change)
  unfolding change_globals
  globals_later n change s = same_step _ _ (begins_itself _)

  pub levels_later : (n : ℕ) (change : List (List Object) → List (List Object)) → Longer n (Unit {0}) (change_levels change) (change_levels change)
  unfolding change_levels
  levels_later n change s = same_step _ _ (begins_itself _)

  reached_later : (n : ℕ) → Longer n (Unit {0}) item_reached item_reached
  unfolding item_reached
  reached_later n s = same_step _ _ (begins_itself _)

  pub writes_later : (n : ℕ) (bytes : List ℕ) → Longer n (Unit {0}) (write bytes) (write bytes)
  unfolding write
  writes_later n bytes s = same_step _ _ (bytes, refl)

  pub binds_later : (n : ℕ) (A B : Type 0) (p q : Run A) (k l : A → Run B) → Longer n A p q → ((a : A) → Longer n B (k a) (l a)) → Longer n B (bind p k) (bind q l)
  unfolding bind
  binds_later n A B p q k l e h s = later_then _ (p s) (q s) k l (e s) (λ a t. h a t)

  pub frames_later : (n : ℕ) (A : Type 0) (names : Names) (p q : Run A) → Longer n A p q → Longer n A (framed names p) (framed names q)
  unfolding framed
  frames_later n A names p q e s = later_then_quiet _ _ _ _ _ (λ a u. refl) (e (record s { names = names }))

  woken_later : {A : Type 0} (a : A) (waiting : List Names) (t : State) → Later final A t.shared.out (woken a waiting t) (woken a waiting t)
  unfolding stop
  woken_later a [] t = same_step _ _ (begins_itself _)
  woken_later a (names ∷ waiting) t = same_step _ _ (begins_itself _)

  pub generates_later : (n : ℕ) (A : Type 0) (names : Names) (p q : Run A) → Longer (suc n) A p q → Longer n A (generating names p) (generating names q)
  unfolding generating
  generates_later n A names p q e s = later_then _ _ _ _ _ (e (record s { names = names; waiting = s.names ∷ s.waiting })) (λ a t. woken_later a t.waiting t)

  resumed_later : {A : Type 0} (p q : Run A) → ((s : State) → Later final A s.shared.out (p s) (q s)) → (waiting : List Names) (s : State) → Later final A s.shared.out (resumed p waiting s) (resumed q waiting s)
  unfolding stop
  resumed_later p q e [] s = same_step _ _ (begins_itself _)
  resumed_later p q e (names ∷ waiting) s = later_then_quiet _ _ _ _ _ (λ a u. refl) (e (record s { names = names; waiting = waiting }))

  pub suspends_later : (n : ℕ) (A : Type 0) (p q : Run A) → Longer n A p q → Longer (suc n) A (suspended p) (suspended q)
  unfolding suspended
  suspends_later n A p q e s = resumed_later p q e s.waiting s

  iterations_later : (n : ℕ) (A : Type 0) (iteration : Iteration) (own own_globals : List Spelling) (p q : Run A) → Longer n A p q → Longer n A (in_iteration iteration own own_globals p) (in_iteration iteration own own_globals q)
  unfolding in_iteration
  iterations_later n A iteration own own_globals p q e s = later_then_quiet _ _ _ _ _ (λ a u. refl) (e _)

  counted_out : (counts : Bool) (before after : Shared) → (counted counts before after).out ≡ after.out
  counted_out true before after = refl
  counted_out false before after = refl

  pub counting_later : (n : ℕ) (p q : Run Flow) → Longer n Flow p q → Longer n Flow (counting p) (counting q)
  unfolding counting
  counting_later n p q e s = later_then_quiet _ _ _ _ _ (λ flow u. counted_out (is_outside s.shared.iterations && is_next flow) s.shared u.shared) (e _)

  pub items_later : (n : ℕ) (region : Region) (v : Value) (p q : Run Flow) → Longer n Flow p q → Longer n Flow (in_place.item region v p) (in_place.item region v q)
  items_later n region v p q e = binds_later n _ _ _ _ _ _ (reached_later n) (λ _. iterations_later n _ _ _ _ p q e)

  -- a run that is cut off at once
  pub cuts_later : (why : Stop) → (final why → ⊥) → (n : ℕ) (A : Type 0) (p q : Run A) → Longer n A p q → Longer n A (stop why) q
  unfolding stop
  cuts_later why h n A p q e s = record { stays = λ f. absurd (h f); grows = (e s).grows; begins = (e s).grows }
