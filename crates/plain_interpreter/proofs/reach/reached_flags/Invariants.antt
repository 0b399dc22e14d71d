use Rattle.std.proofs.Common.{◌≡◌, map}
use Rattle.plain_interpreter.specs.Noted.{noted}
use Rattle.plain_interpreter.specs.Tasks.{callable_of}
use Rattle.plain_interpreter.specs.Reaching.{flags_within}
use Rattle.plain_interpreter.proofs.reach.reached_flags.Given as goal

abbrev pub invariant-rounds : goal.invariant-rounds
invariant-rounds l =
    l.flags.items ≡ flags_within (map callable_of l.callables) (noted l.notes) l.round
