use Rattle.value_operators.proofs.Replacing.{Pops-lift}
use Rattle.value_operators.proofs.change.item_popped.Goals as goal

pub returns-in-Some : goal.returns-in-Some
returns-in-Some c = Pops-lift c.pop_item.result c.args.heap.now c.args.at c.in-Some.object.now c.pop_item.new.object c.in-Some.ensures.value c.pop_item.ensures
