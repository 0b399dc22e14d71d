use Rattle.std.proofs.Common.{◌∙◌, arith}
use Rattle.std.proofs.lemmas.Grind.{common_steps}
use Rattle.meaning_rules.specs.Iterations.{in_place}
use Rattle.plain_interpreter.specs.Seen.{seen}
use Rattle.plain_interpreter.proofs.Pieces.{followed_next, followed_done}
use Rattle.plain_interpreter.proofs.printing.followed.Goals as goal

pub values-preserved : goal.values-preserved
values-preserved c =
    let next = followed_next in_place c.args.vs.now c.values.v-index c.v-item.result c.args.between.now c.values.piece (seen c.values.state) c.values-test.true c.v-item.is in
    grind (arith, common_steps, next)

pub returns-in_err-next : goal.returns-in_err-next
returns-in_err-next c =
    let next = followed_next in_place c.args.vs.now c.values.v-index c.v-item.result c.args.between.now c.values.piece (seen c.values.state) c.values-test.true c.v-item.is in
    grind (arith, common_steps, next)

pub returns : goal.returns
returns c = c.values.invariant ∙ followed_done in_place c.args.vs.now c.values.v-index c.args.between.now c.values.piece (seen c.values.state) c.values-test.false
