use Rattle.straight_lines.proofs.Statements.{assignment_emitted}
use Rattle.straight_lines.proofs.emitter.Emitter.emit_assignment.Goals as goal

pub returns-clause-ok : goal.returns-clause-ok
returns-clause-ok c =
    assignment_emitted c.args.self.now (record { code = c.push.new.self; names = c.number_or_next.new.self }) c.emit_sum.new.code.items c.args.written.now c.args.value.now c.in_ok-name.name.now c.in_ok-number.number c.in_ok-name.ensures.built c.in_ok-name.ensures.name c.in_ok-emit_sum.ensures.ok c.in_ok-number.ensures c.in_ok-push.ensures.items
