use Rattle.std.proofs.Common.{ap}
use Rattle.plain_interpreter.specs.Noted.{noted}
use Rattle.plain_interpreter.proofs.Rounds.{outside_of}
use Rattle.plain_interpreter.proofs.captures.reached_notes.Goals as goal

pub returns : goal.returns
returns c =
    outside_of c.args.program.now (noted c.args.notes.now) c.deref.result.now c.deref-2.result.now c.in_ok-ones.ones.items c.deref-4.result.now c.deref-3.result.now c.in_ok-flags.flags.items (noted c.new-outside.result.items) _
    c.deref.ensures.value c.in_ok-flags.ensures c.deref-2.ensures.value c.deref-3.ensures.value c.in_ok-ones.ensures (ap noted c.new-outside.ensures.items) c.deref-4.ensures.value c.in_ok-push_outside.ensures
