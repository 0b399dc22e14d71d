use Rattle.value_operators.specs.Changing.{cleared}
use Rattle.value_operators.proofs.Replacing.{Changes-lift}
use Rattle.value_operators.proofs.change.cleared.Goals as goal

pub returns-in-Some : goal.returns-in-Some
returns-in-Some c = Changes-lift c.clear.result cleared c.args.heap.now c.args.at c.in-Some.object.now c.clear.new.object c.in-Some.ensures.value c.clear.ensures
