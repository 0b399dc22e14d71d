-- Pipelines as the interpreter runs them: a stage with all that comes after it.
use Rattle.std.specs.Prelude.{if◌then◌else◌, List, [], ◌∷◌, ◌++◌, Option}
use Rattle.codon_base.specs.declared.value.Value.{Value}
use Rattle.codon_base.specs.declared.value.Value.TheVariants as value
use Rattle.source_trees.specs.declared.expression.Expr.{Expr}
use Rattle.source_trees.specs.declared.pipeline.StageForm.TheVariants as form
use Rattle.source_trees.specs.declared.pipeline.Printed.{Printed}
use Rattle.source_trees.specs.declared.pipeline.StageForm.{StageForm}
use Rattle.source_trees.specs.declared.pipeline.Stage.{Stage}
use Rattle.source_trees.specs.declared.pipeline.Joint.TheVariants.{InParallel}
use Rattle.meaning_rules.specs.State.{Spelling, Flow}
use Rattle.meaning_rules.specs.Outcome.{Run, ◌>>=◌, pure, wrong}
use Rattle.meaning_rules.specs.Program.{Scope, Callee, Defined, Constructor, Standard, Variable, Unknown, callee}
use Rattle.meaning_rules.specs.Task.{Region, Consumer, Setting}
use Rattle.meaning_rules.specs.Loops.{Iterable, Items, Generated}
use Rattle.meaning_rules.specs.Bodies.{yields}
use Rattle.meaning_rules.specs.Variables.{read_name}
use Rattle.meaning_rules.specs.Calls.{call, construct}
use Rattle.meaning_rules.specs.Expressions.{expr, exprs, call_builtin, not_set}
use Rattle.meaning_rules.specs.Printing.{print_after}
use Rattle.meaning_rules.specs.Pipelines.{loop_over, call_stage, perform, joined, through, ahead_of, parallel_part}

-- what comes of a stage: a value that it passes on, or how the loop was left that it made with all that comes after it
pub data Passed : Type 0 where
  On : Value → Passed
  Ended : Flow → Passed

module _ (here : Setting) (consumers : List Consumer) (scope : Scope) where
  -- what a stage does with a value, and the stages after it with what it passes on
  abbrev pub staged : StageForm → Option Region → List Stage → Value → Run Flow
  staged form region more v = perform here consumers scope form region more (through here consumers scope region more) v

  -- a stage by name on its arguments, and the stages after it
  abbrev pub stage_called : Callee → Spelling → List Value → Option Region → List Stage → Run Flow
  stage_called c name given region more = call_stage here consumers scope c name given region more (through here consumers scope region more)

  -- a loop over something, with the stages that take its items
  abbrev pub stage_loop : Iterable → Option Region → List Stage → Run Flow
  stage_loop goes_over region more = loop_over here consumers scope goes_over region more (through here consumers scope region more)

  -- a stage and those after it, among which a region may begin
  abbrev pub staged_ahead : StageForm → List Stage → Value → Run Flow
  staged_ahead form more v = ahead_of here consumers scope (parallel_part more) (λ region. staged form region more v)

  -- ---- stage by stage

  -- a loop over something, with the stages that take its items, as what comes of a stage
  abbrev pub whole_loop : Iterable → Option Region → List Stage → Run Passed
  whole_loop goes_over region more = stage_loop goes_over region more >>= λ flow. pure (Ended flow)

  -- the arguments of a stage: the piped value stands among those that are written
  abbrev pub given_to : List Expr → Value → List Expr → Run (List Value)
  given_to before v behind = exprs here scope before >>= λ xs. exprs here scope behind >>= λ ys. pure (xs ++ v ∷ ys)

  -- what comes of a stage by name
  abbrev pub called_stage : Callee → Spelling → List Value → Option Region → List Stage → Run Passed
  called_stage (Defined known) name given region more =
      if yields known.function.body then whole_loop (Generated known given) region more else (call here known given >>= λ v. pure (On v))
  called_stage (Constructor number class) name given region more = construct here number class given >>= λ v. pure (On v)
  called_stage (Standard which) name given region more = call_builtin here which given >>= λ v. pure (On v)
  called_stage Variable name given region more = read_name here.program scope name >>= λ _. wrong
  called_stage Unknown name given region more = not_set here

  -- what comes of a stage
  abbrev pub printed_stage : Printed → Value → Run Passed
  printed_stage printed v = print_after here scope (v ∷ []) printed >>= λ _. pure (On value.Unit)

  abbrev pub passed : StageForm → Option Region → List Stage → Value → Run Passed
  passed form.Iter region more v = whole_loop (Items v) region more
  passed (form.Call name before behind) region more v = given_to before v behind >>= λ given. called_stage (callee here.program scope name) name given region more
  passed (form.Print printed) region more v = printed_stage printed v

  -- the stages after one, with what came of it
  abbrev pub resumed : Option Region → List Stage → Passed → Run Flow
  resumed region more (On v) = through here consumers scope region more v
  resumed region more (Ended flow) = pure flow

  -- a value that reaches a stage of a region
  abbrev pub reached_stage : StageForm → Option Region → List Stage → Value → Run Flow
  reached_stage form region more v = joined here consumers scope InParallel region more (λ r. staged form r more v) v

  -- the stages on the value of a head
  abbrev pub headed_by : Expr → Option Region → List Stage → Run Flow
  headed_by head region stages = expr here scope head >>= through here consumers scope region stages
