use Rattle.parse_statements.proofs.Assigned.{update_done}
use Rattle.parse_statements.proofs.head.update_to.Goals as goal

pub returns : goal.returns
returns c = update_done c.args.room _ c.args.target _ _ _ c.args.cursor.now _ _ c.in_ok-op.ensures c.saturating_sub-low.ensures c.in_ok-value.ensures c.updated-statement.ensures
