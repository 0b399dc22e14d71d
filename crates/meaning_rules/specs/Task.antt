-- What a run may put off: the turns of loops over generators, and the bodies that are entered. They are run one level deeper than the text that asks for them.
use Rattle.std.specs.Prelude.{ℕ, List, Option}
use Rattle.codon_base.specs.declared.fault.Fault.{Fault}
use Rattle.codon_base.specs.declared.value.Ref.{Ref}
use Rattle.codon_base.specs.declared.value.Value.{Value}
use Rattle.source_trees.specs.declared.expression.Expr.{Expr}
use Rattle.source_trees.specs.declared.statement.LoopNames.{LoopNames}
use Rattle.source_trees.specs.declared.statement.Stmt.{Stmt}
use Rattle.source_trees.specs.declared.pipeline.Stage.{Stage}
use Rattle.meaning_rules.specs.State.{Spelling, Iteration, Flow}
use Rattle.meaning_rules.specs.Outcome.{Run}
use Rattle.meaning_rules.specs.Program.{Program, Scope}

-- what a region is when it begins: the lists that it lends, the instances that its captured names hold, and its private names, those of the body that runs and those of the module
pub record Region : Type 0 where
  pub lent : List Ref
  pub targets : List Ref
  pub own : List Spelling
  pub own_globals : List Spelling

-- what takes the items of a generator: the body of a loop, the body of a parallel loop, a list that gathers them, a comprehension with its list, or the stages of a pipeline with the region whose `||>` is among them
pub data Consumer : Type 0 where
  Body : Scope → LoopNames → List Stmt → Consumer
  Parallel : Region → Scope → LoopNames → List Stmt → Consumer
  Gathered : Value → Consumer
  Comprehension : Scope → LoopNames → Option Expr → Expr → Value → Consumer
  Stages : Scope → Option Region → List Stage → Consumer

-- a body that is entered, or a turn with an item
pub data Task : Type 0 where
  Enter : Scope → List Stmt → Task
  Turn : Consumer → Value → Task

-- a use of an object: a place of a list by an index, all elements of a list, or a write to a field
pub data Access : Type 0 where
  Place : Ref → ℕ → Access
  Whole : Ref → Access
  Field : Ref → ℕ → Access

-- how parallel iterations are run and judged: what a use of an object is, in these iterations, a fault for; a region with its producer; and the body of an item
pub record Rules : Type 0 where
  pub judge : List Iteration → Access → Option Fault
  pub region : Region → Run Flow → Run Flow
  pub item : Region → Value → Run Flow → Run Flow

-- what a text is run with: its module, the number of ticks, the rules of regions, and how a task runs one level deeper, with those that take the items of the generators round it, the innermost first
pub record Setting : Type 0 where
  pub program : Program
  pub limit : ℕ
  pub rules : Rules
  pub low : List Consumer → Task → Run Flow
