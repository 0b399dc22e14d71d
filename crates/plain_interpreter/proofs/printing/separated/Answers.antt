use Rattle.std.proofs.Common.{arith}
use Rattle.std.proofs.lemmas.Grind.{common_steps}
use Rattle.meaning_rules.specs.Iterations.{in_place}
use Rattle.plain_interpreter.specs.Seen.{seen}
use Rattle.plain_interpreter.proofs.Pieces.{separated_next}
use Rattle.plain_interpreter.proofs.printing.separated.Goals as goal

pub returns-in_err-text : goal.returns-in_err-text
returns-in_err-text c =
    let next = separated_next in_place c.args.vs.now c.first-item.result c.args.between.now (seen c.args.state.now) c.in-len1-up.len_at_least c.first-item.is in
    grind (arith, common_steps, next)

pub returns : goal.returns
returns c =
    let next = separated_next in_place c.args.vs.now c.first-item.result c.args.between.now (seen c.args.state.now) c.in-len1-up.len_at_least c.first-item.is in
    grind (arith, common_steps, next)
