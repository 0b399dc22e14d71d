use Rattle.std.proofs.Common.{◌+◌, ◌++◌, ◌∙◌, ap, map}
use Rattle.plain_interpreter.specs.Tasks.{callable_of}
use Rattle.plain_interpreter.proofs.Rounds.{picked_more, joined}
use Rattle.plain_interpreter.proofs.reach.flagged_ones.Goals as goal

pub callables-preserved : goal.callables-preserved
callables-preserved c =
    let next = picked_more c.args.callables.now c.args.flags.now c.callables.callable-index c.callables.place c.callable-item.result c.callables.invariant.0 c.callables-test.true c.callable-item.is in
    (ap (λ n. n + 1) c.callables.invariant.0, joined _ _ _ _ _ (c.callables.invariant.1 ∙ ap (λ l. map callable_of c.callables.ones.items ++ l) next) c.in_ok-push_flagged.ensures)
