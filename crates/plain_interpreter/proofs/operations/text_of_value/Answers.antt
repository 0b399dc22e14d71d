use Rattle.plain_interpreter.proofs.Operated.{text_given, text_stops}
use Rattle.plain_interpreter.proofs.operations.text_of_value.Goals as goal

pub returns-in-Ok : goal.returns-in-Ok
returns-in-Ok c = text_given c.args.state.now c.args.v.now c.in-Ok.text c.in-Ok.ensures

pub returns-in-Err-No : goal.returns-in-Err-No
returns-in-Err-No c = text_stops c.args.state.now c.args.v.now c.in-Err-No.end c.walk_fault.result (rw c.in-Err-No.field-0-is at c.in-Err-No.ensures) c.walk_fault.ensures
