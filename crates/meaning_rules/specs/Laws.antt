-- Laws of the meaning: what more fuel changes, and what expressions leave as it was.
use Rattle.std.specs.Prelude.{◌≡◌, ◌≢◌, ℕ, ◌≤◌, List, ◌++◌}
use Rattle.codon_base.specs.declared.fault.Ending.TheVariants.{OutOfFuel}
use Rattle.codon_base.specs.declared.value.Value.{Value}
use Rattle.source_trees.specs.declared.expression.Expr.{Expr}
use Rattle.source_trees.specs.declared.item.Module.{Module}
use Rattle.meaning_rules.specs.State.{State, Stop}
use Rattle.meaning_rules.specs.Outcome.{Outcome, Gives, Stops}
use Rattle.meaning_rules.specs.Program.{Scope, program_of}
use Rattle.meaning_rules.specs.Task.{Setting}
use Rattle.meaning_rules.specs.Iterations.{in_place}
use Rattle.meaning_rules.specs.Expressions.{expr}
use Rattle.meaning_rules.specs.Meaning.{meaning, run}

-- what a module means on a fuel on which it is not out of fuel, it means on each greater fuel, with all its parts
pub record LawOfFuel (m : Module) : Type 0 where
  pub stays : (fuel more : ℕ) → fuel ≤ more → (meaning m fuel).ending ≢ OutOfFuel → meaning m more ≡ meaning m fuel

-- what a module prints on a fuel is the beginning of what it prints on each greater fuel
pub record PrintsMore (m : Module) : Type 0 where
  pub begins : (fuel more : ℕ) → fuel ≤ more → (rest : List ℕ) × ((meaning m more).bytes ≡ (meaning m fuel).bytes ++ rest)

-- the texts of a module with so many ticks, in which at most so many bodies are entered and not left
abbrev pub setting_of : Module → ℕ → Stop → ℕ → Setting
setting_of m limit deep depth = record { program = program_of m; limit = limit; rules = in_place; low = run (program_of m) in_place limit deep depth }

-- the same names wait as before, where a run goes on
abbrev pub SameWaiting : State → Outcome Value → Type 0
SameWaiting before (Gives v after) = after.waiting ≡ before.waiting
SameWaiting before (Stops why after) = Unit {0}

-- an expression leaves the names of the bodies that wait as they were
pub record KeepsWaiting (m : Module) : Type 0 where
  pub keeps : (limit depth : ℕ) (deep : Stop) (scope : Scope) (e : Expr) (s : State) → SameWaiting s (expr (setting_of m limit deep depth) scope e s)
