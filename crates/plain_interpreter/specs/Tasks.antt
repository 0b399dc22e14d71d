-- What the interpreter's program, tasks and consumers stand for among the definitions.
use Rattle.std.specs.Prelude.{◌≡◌, ℕ, List, map, drop, Option, Some, None, Result}
use Rattle.std.specs.Borrow.{Bor, MutBor}
use Rattle.std.specs.declared.alloc.Global.{Global}
use Rattle.meaning_rules.specs.State as meaning
use Rattle.meaning_rules.specs.Outcome.{Run}
use Rattle.meaning_rules.specs.Program as program
use Rattle.meaning_rules.specs.Task as task
use Rattle.meaning_rules.specs.Iterations.{in_place}
use Rattle.meaning_rules.specs.Meaning.{run}
use Rattle.plain_interpreter.specs.Scopes.{scope_of}
use Rattle.plain_interpreter.specs.Seen.{seen, TellsFlow}
use Rattle.plain_interpreter.specs.declared.state.State.{State}
use Rattle.plain_interpreter.specs.declared.state.Stop.{Stop}
use Rattle.plain_interpreter.specs.declared.flow.Flow.{Flow}
use Rattle.plain_interpreter.specs.declared.prepared.Called.{Called}
use Rattle.plain_interpreter.specs.declared.prepared.Callable.{Callable}
use Rattle.plain_interpreter.specs.declared.prepared.Prepared.{Prepared}
use Rattle.plain_interpreter.specs.declared.task.Region.{Region}
use Rattle.plain_interpreter.specs.declared.task.Consumer.{Consumer}
use Rattle.plain_interpreter.specs.declared.task.Consumer.TheVariants as consumer
use Rattle.plain_interpreter.specs.declared.task.Task.{Task}
use Rattle.plain_interpreter.specs.declared.task.Task.TheVariants as one

-- ---- programs

abbrev pub known_of : Called → program.Known
known_of c = record { function = c.known.now.function.now; in_prelude = c.in_prelude }

abbrev pub class_named : Option (Bor meaning.Spelling) → Option meaning.Spelling
class_named None = None
class_named (Some name) = Some name.now

abbrev pub callable_of : Callable → program.Callable
callable_of c = record { function = c.function.now; class_name = class_named c.class_name }

unfoldable pub program_of : Prepared → program.Program
program_of p = record {
  functions = map (λ k. k.function.now) p.functions.items;
  classes = map (λ c. c.class.now) p.classes.items;
  callables = map callable_of p.callables.items;
  variables = p.variables;
  prelude = map (λ k. k.function.now) p.prelude.items;
}

-- ---- tasks

abbrev pub region_of : Region → task.Region
region_of r = record { lent = r.lent; targets = r.targets; own = r.own; own_globals = r.own_globals }

abbrev pub region_at : Option (Bor Region) → Option task.Region
region_at None = None
region_at (Some r) = Some (region_of r.now)

abbrev pub consumer_of : Consumer → task.Consumer
consumer_of (consumer.Body scope names body) = task.Body (scope_of scope) names.now body.now
consumer_of (consumer.Parallel region scope names body) = task.Parallel (region_of region.now) (scope_of scope) names.now body.now
consumer_of (consumer.Gathered list) = task.Gathered list.now
consumer_of (consumer.Comprehension scope names condition item list) = task.Comprehension (scope_of scope) names.now condition.now item.now list.now
consumer_of (consumer.Stages scope region stages place) = task.Stages (scope_of scope) (region_at region) (drop place stages.now)

abbrev pub consumers_of : List Consumer → List task.Consumer
consumers_of = map consumer_of

abbrev pub task_of : Task → task.Task
task_of (one.Enter scope body) = task.Enter (scope_of scope) body.now
task_of (one.Turn c v) = task.Turn (consumer_of c) v

-- ---- what runs a task one level deeper

unfoldable pub lower : Prepared → ℕ → ℕ → List task.Consumer → task.Task → Run meaning.Flow
lower p limit depth = run (program_of p) in_place limit meaning.TooDeep depth

-- what a text is run with
abbrev pub here : Prepared → ℕ → ℕ → task.Setting
here p limit depth = record { program = program_of p; limit = limit; rules = in_place; low = lower p limit depth }

-- a function value that runs tasks to a depth
pub record Nests (p : Prepared) (limit depth : ℕ)
    (pre : Global → Bor Prepared → ℕ → ℕ → MutBor State → Bor (List Consumer) → Task → Type 0)
    (post : Global → Bor Prepared → ℕ → ℕ → MutBor State → Bor (List Consumer) → Task → Result Flow Stop → MutBor State → Type 0) : Type 0 where
  pub callable : (alloc : Global) (all : Bor Prepared) (old : MutBor State) (consumers : Bor (List Consumer)) (t : Task) → all.now ≡ p → pre alloc all limit depth old consumers t
  pub runs : (alloc : Global) (all : Bor Prepared) (old new : MutBor State) (consumers : Bor (List Consumer)) (t : Task) (r : Result Flow Stop) → all.now ≡ p
      → post alloc all limit depth old consumers t r new → TellsFlow (lower p limit depth (consumers_of consumers.now) (task_of t) (seen old.now)) r new.now
