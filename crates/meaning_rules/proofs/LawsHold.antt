-- The law of fuel and the law of what is printed, of modules.
use Rattle.std.proofs.Common.{◌≡◌, ◌≢◌, ℕ, suc, ◌≤◌, [], ◌++◌, refl, sym, ap, ◌∙◌, arith}
use Rattle.codon_base.specs.declared.fault.Ending.TheVariants as ending
use Rattle.source_trees.specs.declared.item.Module.{Module}
use Rattle.meaning_rules.specs.State.{Stop, Faulted, OutOfFuel, TooDeep, Flow}
use Rattle.meaning_rules.specs.Outcome.{Outcome, Gives, Stops}
use Rattle.meaning_rules.specs.Program.{program_of, module_scope, statements_of}
use Rattle.meaning_rules.specs.Task.{Enter}
use Rattle.meaning_rules.specs.Iterations.{in_place}
use Rattle.meaning_rules.specs.Meaning.{outcome, meaning_of, start}
use Rattle.meaning_rules.specs.Laws.{LawOfFuel, PrintsMore}
use Rattle.meaning_rules.proofs.ClosedRuns.{runs_closed}
use Rattle.meaning_rules.proofs.Longer.{Ends, out_of, Later, Longer, stops_later, cuts_later}
use Rattle.meaning_rules.proofs.Fuel.{fuelled}

-- a stop that is not for want of fuel
abbrev IsFinal : Stop → Type 0
IsFinal (Faulted f) = Unit {0}
IsFinal OutOfFuel = ⊥
IsFinal TooDeep = Unit {0}

outcome_later : (m : Module) (fuel more : ℕ) → fuel ≤ more → Later IsFinal Flow [] (outcome m fuel fuel OutOfFuel) (outcome m more more OutOfFuel)
unfolding outcome
outcome_later m fuel more le =
    runs_closed (program_of m) (Longer IsFinal) in_place fuel more (stops_later IsFinal) (fuelled IsFinal fuel more le (λ different h. h)) OutOfFuel (cuts_later IsFinal OutOfFuel (λ h. h)) (suc fuel) (suc more) (omega arith) [] (Enter (module_scope m) (statements_of m)) start

ends_of : (o : Outcome Flow) → (meaning_of o).ending ≢ ending.OutOfFuel → Ends IsFinal o
ends_of (Gives flow s) h = tt
ends_of (Stops (Faulted f) s) h = tt
ends_of (Stops OutOfFuel s) h = h refl
ends_of (Stops TooDeep s) h = tt

pub bytes_are : (o : Outcome Flow) → (meaning_of o).bytes ≡ out_of o
bytes_are (Gives flow s) = refl
bytes_are (Stops why s) = refl

pub law : (m : Module) → LawOfFuel m
law m = record { stays = λ fuel more le h. ap meaning_of ((outcome_later m fuel more le).stays (ends_of _ h)) }

pub prints : (m : Module) → PrintsMore m
prints m = record { begins = λ fuel more le. let p = (outcome_later m fuel more le).begins in (p.0, bytes_are (outcome m more more OutOfFuel) ∙ p.1 ∙ ap (λ l. l ++ p.0) (sym (bytes_are (outcome m fuel fuel OutOfFuel)))) }
