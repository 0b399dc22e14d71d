-- What is due for a run by the interpreter of trees, from what the interpreter answers.
use Rattle.std.proofs.Common.{◌≡◌, ℕ, List, [], Option, subst, sym, refl, ap, ◌∙◌, inl, inr}
use Rattle.codon_base.specs.declared.fault.Ending.{Ending}
use Rattle.codon_base.specs.declared.fault.Ending.TheVariants as ending
use Rattle.outer_world.specs.Sink.{gained, GainsPrefix}
use Rattle.source_trees.specs.declared.item.Module.{Module}
use Rattle.meaning_rules.specs.State.{State, Faulted, OutOfFuel, TooDeep, Flow}
use Rattle.meaning_rules.specs.Outcome.{Outcome, Gives, Stops}
use Rattle.meaning_rules.specs.Meaning.{meaning, outcome}
use Rattle.plain_interpreter.specs.Plain.{IsRun, IsMeant}
use Rattle.plain_interpreter.specs.declared.plain.PlainEnd.{PlainEnd}
use Rattle.plain_interpreter.specs.declared.plain.PlainEnd.TheVariants as «end»
use Rattle.codon_front.specs.Due.{Due, IsPlainDue, ended, most_depth}
use Rattle.codon_front.specs.Plain.{due_of_end, IsQuietEnd, IsEndStopOf}
use Rattle.codon_front.specs.Stop.{Finishes, StopsBy, IsPutStopOf}
use Rattle.codon_front.specs.declared.report.Stop as code
use Rattle.codon_front.specs.declared.report.Stop.TheVariants as stop
use Rattle.codon_front.proofs.Fronts.{prefix_from_whole}

-- ---- a put on out

pub put_stops : (P : Due → Type 0) (d : Due) → P d → (old new : Option (List ℕ)) (before now : ℕ) (bytes : List ℕ) → d.out ≡ bytes → (s : code.Stop) → IsPutStopOf old new before now bytes s → StopsBy P old new before now s
put_stops P d p old new before now bytes e stop.Memory h = inr (d, p, subst (λ b. GainsPrefix old new b) (sym e) h)
put_stops P d p old new before now bytes e stop.Sink h = (h.0, inr (d, p, subst (λ b. GainsPrefix old new b) (sym e) h.1))
put_stops P d p old new before now bytes e stop.File h = h
put_stops P d p old new before now bytes e stop.Usage h = absurd h
put_stops P d p old new before now bytes e (stop.Refused line) h = absurd h
put_stops P d p old new before now bytes e (stop.Fault line) h = absurd h
put_stops P d p old new before now bytes e stop.OutOfFuel h = absurd h
put_stops P d p old new before now bytes e stop.Deep h = absurd h

-- ---- what is due

ended_run : (o : Outcome Flow) (out : List ℕ) (how : Ending) (s : State) → IsRun o out («end».Ended how) → o ≡ Stops TooDeep s → ⊥
ended_run o out how s h e =
    let P : Outcome Flow → Type 0 = λ x. IsRun x out («end».Ended how) in
    let deep = (subst P e h).1 in cc

deep_run : (o : Outcome Flow) (out : List ℕ) → IsRun o out «end».TooDeep → (s : State) × (o ≡ Stops TooDeep s) × (out ≡ s.shared.out)
deep_run (Gives flow s) out h = let e = h.1 in absurd (cc)
deep_run (Stops (Faulted f) s) out h = let e = h.1 in absurd (cc)
deep_run (Stops OutOfFuel s) out h = let e = h.1 in absurd (cc)
deep_run (Stops TooDeep s) out h = (s, refl, h.0)

pub plain_due : (m : Module) (fuel : ℕ) (out : List ℕ) (how : PlainEnd) → IsRun (outcome m fuel most_depth TooDeep) out how → IsMeant (meaning m fuel) out how → IsPlainDue m fuel (due_of_end out how)
plain_due m fuel out («end».Ended how) run means =
    inl (λ bytes more. ended_run (outcome m fuel most_depth TooDeep) out how more.0 run more.1, sym (ap (λ b. ended b (meaning m fuel).ending) means.0 ∙ ap (ended out) means.1))
plain_due m fuel out «end».TooDeep run means =
    inr (out, means.0, deep_run (outcome m fuel most_depth TooDeep) out run, means.1, refl)

-- ---- what is told of an end does not depend on what was printed

pub ended_out : (out : List ℕ) (how : Ending) → (ended out how).out ≡ out
ended_out out ending.Done = refl
ended_out out (ending.Fault f) = refl
ended_out out ending.OutOfFuel = refl

ended_err : (out : List ℕ) (how : Ending) → (ended out how).err ≡ (ended [] how).err
ended_err out ending.Done = refl
ended_err out (ending.Fault f) = refl
ended_err out ending.OutOfFuel = refl

ended_status : (out : List ℕ) (how : Ending) → (ended out how).status ≡ (ended [] how).status
ended_status out ending.Done = refl
ended_status out (ending.Fault f) = refl
ended_status out ending.OutOfFuel = refl

pub due_out : (out : List ℕ) (how : PlainEnd) → (due_of_end out how).out ≡ out
due_out out («end».Ended how) = ended_out out how
due_out out «end».TooDeep = refl

due_err : (out : List ℕ) (how : PlainEnd) → (due_of_end out how).err ≡ (due_of_end [] how).err
due_err out («end».Ended how) = ended_err out how
due_err out «end».TooDeep = refl

due_status : (out : List ℕ) (how : PlainEnd) → (due_of_end out how).status ≡ (due_of_end [] how).status
due_status out («end».Ended how) = ended_status out how
due_status out «end».TooDeep = refl

-- ---- ends that are told

module _ (m : Module) (fuel : ℕ) (out : List ℕ) (how : PlainEnd) (due : IsPlainDue m fuel (due_of_end out how)) (old new : Option (List ℕ)) (put : new ≡ gained old out) where
  written : new ≡ gained old (due_of_end out how).out
  written = put ∙ ap (gained old) (sym (due_out out how))

  pub plain_done : IsQuietEnd how → Finishes (IsPlainDue m fuel) old new
  plain_done h = record { due = due_of_end out how; is_due = due; out = written; err = due_err out how ∙ h.1; status = due_status out how ∙ h.0 }

  pub plain_stops : (before now : ℕ) (s : code.Stop) → IsEndStopOf how s → StopsBy (IsPlainDue m fuel) old new before now s
  plain_stops before now stop.Memory h = inr (due_of_end out how, due, prefix_from_whole old new (due_of_end out how).out written)
  plain_stops before now stop.Sink h = absurd h
  plain_stops before now stop.File h = h
  plain_stops before now stop.Usage h = record { due = due_of_end out how; is_due = due; out = written; err = due_err out how ∙ h.1; status = due_status out how ∙ h.0 }
  plain_stops before now (stop.Refused line) h = record { due = due_of_end out how; is_due = due; out = written; err = due_err out how ∙ h.1; status = due_status out how ∙ h.0 }
  plain_stops before now (stop.Fault line) h = record { due = due_of_end out how; is_due = due; out = written; err = due_err out how ∙ h.1; status = due_status out how ∙ h.0 }
  plain_stops before now stop.OutOfFuel h = record { due = due_of_end out how; is_due = due; out = written; err = due_err out how ∙ h.1; status = due_status out how ∙ h.0 }
  plain_stops before now stop.Deep h = record { due = due_of_end out how; is_due = due; out = written; err = due_err out how ∙ h.1; status = due_status out how ∙ h.0 }
