use Rattle.value_operators.specs.Changing.{item_set}
use Rattle.value_operators.proofs.Replacing.{Changes-lift}
use Rattle.value_operators.proofs.change.item_set.Goals as goal

pub returns-in-Some : goal.returns-in-Some
returns-in-Some c = Changes-lift c.set_item.result (item_set c.args.place c.args.item) c.args.heap.now c.args.at c.in-Some.object.now c.set_item.new.object c.in-Some.ensures.value c.set_item.ensures
