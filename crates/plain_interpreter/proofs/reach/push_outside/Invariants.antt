use Rattle.std.proofs.Common.{◌≡◌, ◌++◌, drop, map}
use Rattle.std.specs.List.{flat_map}
use Rattle.plain_interpreter.specs.Noted.{noted}
use Rattle.meaning_rules.specs.Captures as spec
use Rattle.plain_interpreter.specs.Tasks.{callable_of}
use Rattle.plain_interpreter.proofs.reach.push_outside.Given as goal

abbrev pub invariant-ones : goal.invariant-ones
invariant-ones l = noted l.fn.notes.items ++ flat_map spec.notes_outside (map callable_of l.ones) ≡ noted l.notes.items ++ flat_map spec.notes_outside (map callable_of (drop l.callable-index l.ones))
