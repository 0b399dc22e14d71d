-- More fuel, and deeper calls, change no run that ends, and a run that is cut off has printed the beginning of what it prints on more. The ends are open: where both runs have the same fuel, a run that is out of it ends too.
use Rattle.std.proofs.Common.{◌≡◌, ◌≢◌, ℕ, ◌-◌, ◌≤◌, Bool, true, false, if◌then◌else◌, nat_lt, List, length, refl, sym, ap, subst, arith}
use Rattle.std.proofs.lemmas.Bool.Decides.{nat_tests}
use Rattle.meaning_rules.specs.State.{State, Stop, OutOfFuel, Flow}
use Rattle.meaning_rules.specs.Outcome.{Outcome, Gives, Stops, Run, bind, tick, by_fuel}
use Rattle.meaning_rules.specs.Task.{Consumer, Task}
use Rattle.meaning_rules.specs.Iterations.{in_place}
use Rattle.meaning_rules.proofs.Closed.{Relation, Closed}
use Rattle.meaning_rules.proofs.Longer.{out_of, Begins, begins_itself, Later, Longer, same_step, pures_later, stops_later, looks_later, names_later, globals_later, levels_later, writes_later, binds_later, frames_later, generates_later, suspends_later, counting_later, items_later, cuts_later}

tick_either : (final : Stop → Type 0) {A : Type 0} (before : List ℕ) (x : Outcome A) (s : State) (b c : Bool) → (b ≡ true → c ≡ true) → (b ≡ false → c ≡ true → final OutOfFuel → ⊥) → before ≡ s.shared.out → Begins before (out_of x) → Later final A before (if b then x else Stops OutOfFuel s) (if c then x else Stops OutOfFuel s)
tick_either final before x s true c f d e g = subst (λ t. Later final _ before x (if t then x else Stops OutOfFuel s)) (sym (f refl)) (same_step final _ _ g)
tick_either final before x s false true f d e g = record { stays = λ h. absurd (d refl refl h); grows = g; begins = subst (λ l. Begins l (out_of x)) e g }
tick_either final before x s false false f d e g = same_step final _ _ (subst (λ l. Begins before l) e (begins_itself before))

more_left : (used limit more : ℕ) → limit ≤ more → nat_lt used limit ≡ true → nat_lt used more ≡ true
more_left used limit more le h = grind (arith, nat_tests)

unlike : (used limit more : ℕ) → nat_lt used limit ≡ false → nat_lt used more ≡ true → limit ≢ more
unlike used limit more a b e = grind (arith, nat_tests)

module _ (final : Stop → Type 0) (limit more : ℕ) (le : limit ≤ more) (more_is_no_end : limit ≢ more → final OutOfFuel → ⊥) where
  ticks_later : (n : ℕ) → Longer final n (Unit {0}) (tick limit) (tick more)
  unfolding tick
  ticks_later n s =
      tick_either final _ _ s (nat_lt s.shared.used limit) (nat_lt s.shared.used more) (more_left s.shared.used limit more le)
      (λ a b. more_is_no_end (unlike s.shared.used limit more a b)) refl (begins_itself _)

  fuels_later : (n : ℕ) (A : Type 0) (k l : ℕ → Run A) → ((a b : ℕ) → a ≤ b → (limit ≡ more → a ≡ b) → Longer final n A (k a) (l b)) → Longer final n A (by_fuel limit k) (by_fuel more l)
  unfolding by_fuel
  fuels_later n A k l e s = e (limit - s.shared.used) (more - s.shared.used) (omega arith) (λ h. ap (λ m. m - s.shared.used) h) s

  pub fuelled : (low high : List Consumer → Task → Run Flow) → ((consumers : List Consumer) (t : Task) → Longer final (length consumers) Flow (low consumers t) (high consumers t)) → Closed (Longer final) in_place limit more low high
  fuelled low high lows = record {
    pures = pures_later final;
    stops = stops_later final;
    looks = looks_later final;
    changes_names = names_later final;
    changes_globals = globals_later final;
    changes_levels = λ n change e. levels_later final n change;
    writes = writes_later final;
    ticks = ticks_later;
    fuels = fuels_later;
    binds = binds_later final;
    frames = frames_later final;
    generates = generates_later final;
    suspends = suspends_later final;
    regions = λ n region p q e. counting_later final n p q e;
    items = items_later final;
    cuts = λ different. cuts_later final OutOfFuel (more_is_no_end different);
    lifts = λ n A p q e. e;
    Ticked = Longer final;
    enters = λ n A k l e. binds_later final n (Unit {0}) A (tick limit) (tick more) k l (ticks_later n) e;
    binds_ticked = binds_later final;
    frames_ticked = frames_later final;
    generates_ticked = generates_later final;
    lows = lows;
  }
