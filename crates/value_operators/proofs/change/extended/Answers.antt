use Rattle.value_operators.specs.Changing.{extended}
use Rattle.value_operators.proofs.Replacing.{Changes-lift}
use Rattle.value_operators.proofs.change.extended.Goals as goal

pub returns-in-Some : goal.returns-in-Some
returns-in-Some c = Changes-lift c.extend.result (extended c.args.more.now) c.args.heap.now c.args.at c.in-Some.object.now c.extend.new.object c.in-Some.ensures.value c.extend.ensures
