-- What a pipeline does, by Codon's documentation on pipelines: `x |> f` calls f with x, and the items of a generator stage go one by one to the rest. `||>` does what `|>` does, and makes the rest a parallel iteration for each value that reaches it.
use Rattle.std.specs.Prelude.{if◌then◌else◌, List, [], ◌∷◌, ◌++◌, Option, Some, None}
use Rattle.codon_base.specs.declared.value.Value.{Value}
use Rattle.codon_base.specs.declared.value.Value.TheVariants as value
use Rattle.source_trees.specs.declared.expression.Expr.{Expr}
use Rattle.source_trees.specs.declared.pipeline.Joint.{Joint}
use Rattle.source_trees.specs.declared.pipeline.Joint.TheVariants.{InTurn, InParallel}
use Rattle.source_trees.specs.declared.pipeline.StageForm.{StageForm}
use Rattle.source_trees.specs.declared.pipeline.StageForm.TheVariants as form
use Rattle.source_trees.specs.declared.pipeline.Stage.{Stage}
use Rattle.meaning_rules.specs.State.{Spelling, Flow, Next}
use Rattle.meaning_rules.specs.Outcome.{Run, ◌>>=◌, pure, wrong, tick}
use Rattle.meaning_rules.specs.Bodies.{yields}
use Rattle.meaning_rules.specs.Mentions.{notes_of_stages}
use Rattle.meaning_rules.specs.Program.{Scope, Callee, Defined, Constructor, Standard, Variable, Unknown, callee}
use Rattle.meaning_rules.specs.Task.{Region, Consumer, Stages, Setting}
use Rattle.meaning_rules.specs.Variables.{read_name}
use Rattle.meaning_rules.specs.Captures.{begin}
use Rattle.meaning_rules.specs.Calls.{call, construct}
use Rattle.meaning_rules.specs.Loops.{Iterable, Items, Generated, over, after_loop}
use Rattle.meaning_rules.specs.Expressions.{expr, exprs, iterable, call_builtin, not_set}
use Rattle.meaning_rules.specs.Printing.{print_after}

-- the stages from the first `||>` on
abbrev pub from_parallel : Joint → Stage → List Stage → List Stage → List Stage
from_parallel InParallel stage more later = stage ∷ more
from_parallel InTurn stage more later = later

abbrev pub parallel_part : List Stage → List Stage
parallel_part [] = []
parallel_part (stage ∷ more) = from_parallel stage.joint stage more (parallel_part more)

module _ (here : Setting) (consumers : List Consumer) (scope : Scope) where
  -- a loop of a pipeline, over the rest
  abbrev pub loop_over : Iterable → Option Region → List Stage → (Value → Run Flow) → Run Flow
  loop_over goes_over region more rest = over here consumers goes_over (Stages scope region more) rest >>= λ flow. pure (after_loop flow)

  -- a stage by name on its arguments: a loop where it is a generator, and else a call that passes its result on
  abbrev pub call_stage : Callee → Spelling → List Value → Option Region → List Stage → (Value → Run Flow) → Run Flow
  call_stage (Defined known) name given region more rest =
      if yields known.function.body then loop_over (Generated known given) region more rest else (call here known given >>= rest)
  call_stage (Constructor number class) name given region more rest = construct here number class given >>= rest
  call_stage (Standard which) name given region more rest = call_builtin here which given >>= rest
  call_stage Variable name given region more rest = read_name here.program scope name >>= λ _. wrong
  call_stage Unknown name given region more rest = not_set here

  -- what a stage does with a value, and the rest with what the stage passes on
  abbrev pub perform : StageForm → Option Region → List Stage → (Value → Run Flow) → Value → Run Flow
  perform form.Iter region more rest v = loop_over (Items v) region more rest
  perform (form.Call name before behind) region more rest v =
      exprs here scope before >>= λ xs. exprs here scope behind >>= λ ys. call_stage (callee here.program scope name) name (xs ++ v ∷ ys) region more rest
  perform (form.Print printed) region more rest v = print_after here scope (v ∷ []) printed >>= λ _. rest value.Unit

  -- stages in which a region may begin: its captured names are read before anything else of them is done
  abbrev pub ahead_of : List Stage → (Option Region → Run Flow) → Run Flow
  ahead_of [] run = run None
  ahead_of (stage ∷ more) run =
      begin here.program scope [] (notes_of_stages (stage ∷ more)) [] >>= λ region. here.rules.region region (run (Some region))

  -- a stage by how it is joined to what comes before it
  abbrev pub joined : Joint → Option Region → List Stage → (Option Region → Run Flow) → Value → Run Flow
  joined InTurn region more run v = run region
  joined InParallel None more run v = wrong
  joined InParallel (Some region) more run v =
      tick here.limit >>= λ _. here.rules.item region v (ahead_of (parallel_part more) run)

  -- stages on a value, where the next `||>` among them is of that region
  abbrev pub through : Option Region → List Stage → Value → Run Flow
  through region [] v = pure Next
  through region (stage ∷ more) v = joined stage.joint region more (λ r. perform stage.form r more (through r more) v) v

  -- the head of a pipeline with its stages: where the first is `iter`, the head is what that stage goes over
  abbrev pub first_stage : Expr → Joint → StageForm → Option Region → List Stage → List Stage → Run Flow
  first_stage head InTurn form.Iter region more all = iterable here scope head >>= λ goes_over. loop_over goes_over region more (through region more)
  first_stage head _ _ region more all = expr here scope head >>= through region all

  abbrev pub from_head : Expr → List Stage → Option Region → Run Flow
  from_head head [] region = expr here scope head >>= λ _. pure Next
  from_head head (stage ∷ more) region = first_stage head stage.joint stage.form region more (stage ∷ more)

  abbrev pub pipeline : Expr → List Stage → Run Flow
  pipeline head stages = ahead_of (parallel_part stages) (from_head head stages)
