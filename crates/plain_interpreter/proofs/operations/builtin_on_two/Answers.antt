use Rattle.meaning_rules.specs.Operations as spec
use Rattle.plain_interpreter.specs.Callees.{builtin_of}
use Rattle.codon_base.specs.Operators.{Sight}
use Rattle.value_operators.specs.Answers.{made_of}
use Rattle.plain_interpreter.proofs.Operated.{operated_tells}
use Rattle.plain_interpreter.proofs.operations.builtin_on_two.Goals as goal

pub returns : goal.returns
returns c = operated_tells c.args.state.now c.settled.new.state (λ (sight : Sight). spec.on_two (builtin_of c.args.which) c.args.v.now c.args.w.now) (made_of c.in_ok-made.made) c.settled.result c.in_ok-made.ensures c.settled.ensures
