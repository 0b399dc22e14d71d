use Rattle.std.proofs.Common.{◌≡◌, ◌++◌, drop, map}
use Rattle.plain_interpreter.specs.Tasks.{callable_of}
use Rattle.plain_interpreter.specs.Reaching.{picked}
use Rattle.plain_interpreter.proofs.reach.flagged_ones.Given as goal

abbrev pub invariant-callables : goal.invariant-callables
invariant-callables l =
    (l.place ≡ l.callable-index) × (picked (map callable_of l.callables) l.flags ≡ map callable_of l.ones.items ++ picked (map callable_of (drop l.callable-index l.callables)) (drop l.callable-index l.flags))
