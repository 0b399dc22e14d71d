-- Augmented assignments by the forms of their targets.
use Rattle.source_trees.specs.declared.expression.Expr.{Expr}
use Rattle.source_trees.specs.declared.operator.BinaryOp.{BinaryOp}
use Rattle.meaning_rules.specs.State.{Spelling}
use Rattle.meaning_rules.specs.Outcome.{Run, ◌>>=◌}
use Rattle.meaning_rules.specs.Objects.{item_at, put, field, set_field}
use Rattle.meaning_rules.specs.Variables.{read_name, set_name}
use Rattle.meaning_rules.specs.Program.{Scope}
use Rattle.meaning_rules.specs.Task.{Setting}
use Rattle.meaning_rules.specs.Expressions.{expr}
use Rattle.meaning_rules.specs.Statements.{updated}

module _ (here : Setting) (scope : Scope) where
  abbrev pub update_name : Spelling → BinaryOp → Expr → Run (Unit {0})
  update_name name by e =
      read_name here.program scope name >>= λ old. expr here scope e >>= λ v. updated here.rules by old v >>= set_name scope name

  abbrev pub update_place : Expr → Expr → BinaryOp → Expr → Run (Unit {0})
  update_place container index by e =
      expr here scope container >>= λ c. expr here scope index >>= λ i. item_at here.rules c i >>= λ old. expr here scope e >>= λ v. updated here.rules by old v >>= put here.rules c i

  abbrev pub update_field : Expr → Spelling → BinaryOp → Expr → Run (Unit {0})
  update_field object name by e =
      expr here scope object >>= λ o. field here.program o name >>= λ old. expr here scope e >>= λ v. updated here.rules by old v >>= set_field here.program here.rules o name
