use Rattle.std.proofs.Common.{◌≡◌, drop}
use Rattle.std.specs.List.{list_any}
use Rattle.meaning_rules.specs.Captures as spec
use Rattle.plain_interpreter.specs.Noted.{noted}
use Rattle.plain_interpreter.specs.Tasks.{callable_of}
use Rattle.plain_interpreter.proofs.reach.is_called.Given as goal

abbrev pub invariant-notes : goal.invariant-notes
invariant-notes l = list_any (spec.is_called_by (callable_of l.callable)) (noted l.notes) ≡ list_any (spec.is_called_by (callable_of l.callable)) (noted (drop l.note-index l.notes))
