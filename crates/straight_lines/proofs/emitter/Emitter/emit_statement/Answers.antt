use Rattle.std.proofs.Common.{subst, sym}
use Rattle.source_trees.specs.declared.statement.Stmt.{Stmt}
use Rattle.straight_lines.specs.Emitted.{EmitsStmt}
use Rattle.straight_lines.proofs.emitter.Emitter.emit_statement.Goals as goal

pub returns-in_ok-emit_assignment-in-Assign-clause-ok : goal.returns-in_ok-emit_assignment-in-Assign-clause-ok
returns-in_ok-emit_assignment-in-Assign-clause-ok c =
    subst (λ (st : Stmt). EmitsStmt st c.args.self.now c.emit_assignment.new.self) (sym c.in-Assign.is) (c.in_ok-emit_assignment-in-Assign.ensures.ok c.in-Assign.field-0)
