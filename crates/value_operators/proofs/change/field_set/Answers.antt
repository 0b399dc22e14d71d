use Rattle.value_operators.specs.Changing.{field_set}
use Rattle.value_operators.proofs.Replacing.{Changes-lift}
use Rattle.value_operators.proofs.change.field_set.Goals as goal

pub returns-in-Some : goal.returns-in-Some
returns-in-Some c = Changes-lift c.set_field.result (field_set c.args.place c.args.value) c.args.heap.now c.args.at c.in-Some.object.now c.set_field.new.object c.in-Some.ensures.value c.set_field.ensures
