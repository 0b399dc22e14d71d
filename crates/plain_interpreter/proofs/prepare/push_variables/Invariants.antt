use Rattle.std.proofs.Common.{◌≡◌, ◌++◌, drop}
use Rattle.std.specs.List.{flat_map}
use Rattle.meaning_rules.specs.Program as spec
use Rattle.meaning_rules.specs.Bodies.{assigned_by}
use Rattle.plain_interpreter.specs.Walked.{kept_if}
use Rattle.plain_interpreter.proofs.prepare.push_variables.Given as goal

abbrev pub invariant-items : goal.invariant-items
invariant-items l = l.fn.names ++ flat_map (assigned_by (kept_if l.all)) (flat_map spec.statement_in l.items) ≡ l.names ++ flat_map (assigned_by (kept_if l.all)) (flat_map spec.statement_in (drop l.item-index l.items))
