use Rattle.meaning_rules.specs.Operations as spec
use Rattle.value_operators.specs.Answers.{made_of}
use Rattle.plain_interpreter.proofs.Operated.{operated_tells}
use Rattle.plain_interpreter.proofs.operations.compared.Goals as goal

pub returns : goal.returns
returns c = operated_tells c.args.state.now c.settled.new.state (spec.compared_made c.args.by c.args.v.now c.args.w.now) (made_of c.in_ok-made.made) c.settled.result c.in_ok-made.ensures c.settled.ensures
