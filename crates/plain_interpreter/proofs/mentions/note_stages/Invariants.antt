use Rattle.std.proofs.Common.{◌≡◌, ◌++◌, drop}
use Rattle.meaning_rules.specs.Mentions as spec
use Rattle.plain_interpreter.specs.Noted.{noted}
use Rattle.plain_interpreter.proofs.mentions.note_stages.Given as goal

abbrev pub invariant-stages : goal.invariant-stages
invariant-stages l = noted l.fn.notes.items ++ spec.notes_of_stages l.stages ≡ noted l.notes.items ++ spec.notes_of_stages (drop l.stage-index l.stages)
