-- What a module means on so much fuel: what it prints, how it ends, and how many regions ran outside of iterations, with how many items. It is the execution of its statements in order, after the prelude (the Python reference, 9.1).
use Rattle.std.specs.Prelude.{ℕ, zero, suc, Bool, true, min, List, [], ◌∷◌, Option, Some, None}
use Rattle.codon_base.specs.declared.fault.Ending.{Ending}
use Rattle.codon_base.specs.declared.fault.Ending.TheVariants as ending
use Rattle.codon_base.specs.declared.value.Value.{Value}
use Rattle.source_trees.specs.declared.expression.Expr.{Expr}
use Rattle.source_trees.specs.declared.item.Module.{Module}
use Rattle.meaning_rules.specs.State.{unset_names, State, Stop, Faulted, OutOfFuel, TooDeep, Flow}
use Rattle.meaning_rules.specs.Outcome.{Outcome, Gives, Stops, Run, pure, stop}
use Rattle.meaning_rules.specs.Program.{Program, Scope, program_of, module_scope, statements_of}
use Rattle.meaning_rules.specs.Task.{Consumer, Body, Parallel, Gathered, Comprehension, Stages, Task, Enter, Turn, Rules, Setting}
use Rattle.meaning_rules.specs.Iterations.{in_place}
use Rattle.meaning_rules.specs.Expressions.{expr, condition, append_to, gather}
use Rattle.meaning_rules.specs.Pipelines.{through}
use Rattle.meaning_rules.specs.Statements.{statements, body_turn, parallel_turn}

-- ---- tasks

module _ (here : Setting) where
  abbrev pub condition_of : Scope → Option Expr → Run Bool
  condition_of scope None = pure true
  condition_of scope (Some e) = condition here scope e

  -- what a consumer does with an item, where these take the items of the generators round it
  abbrev pub turn_of : List Consumer → Consumer → Value → Run Flow
  turn_of consumers (Body scope names body) v = body_turn here consumers scope names (statements here consumers scope body) v
  turn_of consumers (Parallel region inner names body) v = parallel_turn here consumers region inner names (statements here consumers inner body) v
  turn_of consumers (Gathered list) v = append_to here list v
  turn_of consumers (Comprehension inner names kept item list) v = gather here inner names (condition_of inner kept) (expr here inner item) list v
  turn_of consumers (Stages scope region more) v = through here consumers scope region more v

  abbrev pub task : List Consumer → Task → Run Flow
  task consumers (Enter scope body) = statements here consumers scope body
  task consumers (Turn consumer v) = turn_of consumers consumer v

-- a task in which at most n tasks are run one inside the other, and that stops so where there would be more
unfoldable pub run : Program → Rules → ℕ → Stop → ℕ → List Consumer → Task → Run Flow
run program rules limit deep zero consumers t = stop deep
run program rules limit deep (suc n) consumers t =
    task (record { program = program; limit = limit; rules = rules; low = run program rules limit deep n }) consumers t

-- ---- modules

-- nothing has run; the heap has its first level
abbrev pub start : State
start = record {
  names = unset_names;
  waiting = [];
  shared = record { used = 0; out = []; levels = [] ∷ []; globals = unset_names; iterations = []; reached = 0; regions = 0; items = 0 };
}

-- the run of a module on so many ticks, in which at most so many bodies are entered and not left, and that stops so where there would be more
unfoldable pub outcome : Module → ℕ → ℕ → Stop → Outcome Flow
outcome m fuel depth deep = run (program_of m) in_place fuel deep (suc depth) [] (Enter (module_scope m) (statements_of m)) start

-- the greatest count that is told
abbrev pub greatest_count : ℕ
greatest_count = 18446744073709551615

pub record Meaning : Type 0 where
  pub bytes : List ℕ
  pub ending : Ending
  pub regions : ℕ
  pub items : ℕ

-- each body that is entered takes a tick, so a run that goes deeper than its fuel is out of fuel
abbrev pub ending_of : Stop → Ending
ending_of (Faulted fault) = ending.Fault fault
ending_of OutOfFuel = ending.OutOfFuel
ending_of TooDeep = ending.OutOfFuel

abbrev pub told : Ending → State → Meaning
told how s = record { bytes = s.shared.out; ending = how; regions = min s.shared.regions greatest_count; items = min s.shared.items greatest_count }

-- a break, a continue or a return that nothing takes ends a module with nothing more to say
abbrev pub meaning_of : Outcome Flow → Meaning
meaning_of (Gives flow s) = told ending.Done s
meaning_of (Stops why s) = told (ending_of why) s

abbrev pub meaning : Module → ℕ → Meaning
meaning m fuel = meaning_of (outcome m fuel fuel OutOfFuel)
