use Rattle.value_operators.specs.Changing.{item_pushed}
use Rattle.value_operators.proofs.Replacing.{Changes-lift}
use Rattle.value_operators.proofs.change.item_pushed.Goals as goal

pub returns-in-Some : goal.returns-in-Some
returns-in-Some c = Changes-lift c.push_item.result (item_pushed c.args.item) c.args.heap.now c.args.at c.in-Some.object.now c.push_item.new.object c.in-Some.ensures.value c.push_item.ensures
