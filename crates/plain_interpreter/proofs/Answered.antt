-- What came of a run is what the interpreter answers.
use Rattle.std.proofs.Common.{◌≡◌, ℕ, List, Ok, Err, Result, sym, subst}
use Rattle.meaning_rules.specs.State as meaning
use Rattle.meaning_rules.specs.Outcome.{Outcome}
use Rattle.plain_interpreter.specs.Seen.{seen, TellsFlow}
use Rattle.plain_interpreter.specs.Plain.{IsRun, IsEnd}
use Rattle.plain_interpreter.specs.declared.state.State.{State}
use Rattle.plain_interpreter.specs.declared.state.Stop.{Stop}
use Rattle.plain_interpreter.specs.declared.state.Stop.TheVariants as stop
use Rattle.plain_interpreter.specs.declared.flow.Flow.{Flow}
use Rattle.plain_interpreter.specs.declared.plain.PlainEnd.{PlainEnd}

pub run_told : (o : Outcome meaning.Flow) (r : Result Flow Stop) (state : State) (out : List ℕ) (how : PlainEnd) → TellsFlow o r state → out ≡ state.out → IsEnd r how → IsRun o out how
unfolding seen
run_told o (Ok flow) state out how t e h = subst (λ x. IsRun x out how) (sym t) (e, h)
run_told o (Err (stop.Faulted fault)) state out how t e h = subst (λ x. IsRun x out how) (sym (t (λ w. cc))) (e, h)
run_told o (Err stop.OutOfFuel) state out how t e h = subst (λ x. IsRun x out how) (sym (t (λ w. cc))) (e, h)
run_told o (Err stop.TooDeep) state out how t e h = subst (λ x. IsRun x out how) (sym (t (λ w. cc))) (e, h)
run_told o (Err stop.Memory) state out how t e h = absurd h
