use Rattle.std.proofs.Common.{◌≡◌, ◌++◌, drop, map}
use Rattle.plain_interpreter.specs.Noted.{noted}
use Rattle.plain_interpreter.specs.Tasks.{callable_of}
use Rattle.plain_interpreter.specs.Reaching.{flags_of}
use Rattle.plain_interpreter.proofs.reach.called_flags.Given as goal

abbrev pub invariant-callables : goal.invariant-callables
invariant-callables l =
    flags_of (noted l.notes) (map callable_of l.callables) ≡ l.flags.items ++ flags_of (noted l.notes) (map callable_of (drop l.callable-index l.callables))
