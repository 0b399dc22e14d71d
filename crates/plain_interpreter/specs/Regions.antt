-- Loops that run in turn or in parallel, and the stages of a region, as the interpreter computes them.
use Rattle.std.specs.Prelude.{List, Some}
use Rattle.codon_base.specs.declared.value.Value.{Value}
use Rattle.source_trees.specs.declared.expression.Expr.{Expr}
use Rattle.source_trees.specs.declared.pipeline.StageForm.{StageForm}
use Rattle.source_trees.specs.declared.pipeline.Stage.{Stage}
use Rattle.meaning_rules.specs.State.{Flow}
use Rattle.meaning_rules.specs.Outcome.{Run}
use Rattle.meaning_rules.specs.Program.{Scope}
use Rattle.meaning_rules.specs.Task.{Region, Consumer, Setting}
use Rattle.meaning_rules.specs.Pipelines.{from_head}
use Rattle.plain_interpreter.specs.Stages.{staged, staged_ahead}

module _ (here : Setting) (consumers : List Consumer) (scope : Scope) where
  -- a pipeline in a region that begins there
  abbrev pub headed_inside : Expr → List Stage → Region → Run Flow
  headed_inside head stages region = here.rules.region region (from_head here consumers scope head stages (Some region))

  -- a stage and those after it, on a value, in a region that begins there
  abbrev pub staged_inside : StageForm → Region → List Stage → Value → Run Flow
  staged_inside form region more v = here.rules.region region (staged here consumers scope form (Some region) more v)

  -- the iteration of a value that reaches a stage of a region
  abbrev pub staged_apart : Region → Stage → List Stage → Value → Run Flow
  staged_apart region stage more v = here.rules.item region v (staged_ahead here consumers scope stage.form more v)
