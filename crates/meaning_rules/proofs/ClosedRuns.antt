-- Runs to a depth under a closed relation: at equal depths for any word for 'deeper', and at more depth where that word may stand for any run.
use Rattle.std.proofs.Common.{ℕ, zero, suc, ◌≤◌, List, length, arith}
use Rattle.meaning_rules.specs.State.{Stop, OutOfFuel, Flow}
use Rattle.meaning_rules.specs.Outcome.{Run, stop}
use Rattle.meaning_rules.specs.Program.{Program}
use Rattle.meaning_rules.specs.Task.{Consumer, Task, Rules}
use Rattle.meaning_rules.specs.Meaning.{run}
use Rattle.meaning_rules.proofs.Closed.{Relation, Closed}
use Rattle.meaning_rules.proofs.ClosedStatements.{task_closed}

module _ (program : Program) (R : Relation) (rules : Rules) (limit more : ℕ)
    (stops : (n : ℕ) (A : Type 0) (why : Stop) → R n A (stop why) (stop why))
    (close : (low high : List Consumer → Task → Run Flow) → ((consumers : List Consumer) (t : Task) → R (length consumers) Flow (low consumers t) (high consumers t)) → Closed R rules limit more low high) where
  pub runs_equal : (deep : Stop) (n : ℕ) (consumers : List Consumer) (t : Task) → R (length consumers) Flow (run program rules limit deep n consumers t) (run program rules more deep n consumers t)
  unfolding run
  runs_equal deep zero consumers t = stops _ _ _
  runs_equal deep (suc n) consumers t = task_closed program (close (run program rules limit deep n) (run program rules more deep n) (runs_equal deep n)) consumers t

  module _ (deep : Stop) (cuts : (n : ℕ) (A : Type 0) (p q : Run A) → R n A p q → R n A (stop deep) q) where
    pub runs_closed : (n k : ℕ) → n ≤ k → (consumers : List Consumer) (t : Task) → R (length consumers) Flow (run program rules limit deep n consumers t) (run program rules more OutOfFuel k consumers t)
    unfolding run
    runs_closed zero k h consumers t = cuts _ _ _ _ (runs_equal OutOfFuel k consumers t)
    runs_closed (suc n) zero h consumers t = absurd (omega arith)
    runs_closed (suc n) (suc k) h consumers t = task_closed program (close (run program rules limit deep n) (run program rules more OutOfFuel k) (runs_closed n k (omega arith))) consumers t
