use Rattle.std.proofs.Common.{◌≡◌, ◌++◌, drop}
use Rattle.std.specs.List.{flat_map}
use Rattle.meaning_rules.specs.Mentions as spec
use Rattle.plain_interpreter.specs.Noted.{noted, notes_of_arm}
use Rattle.plain_interpreter.proofs.mentions.+statement.Given as goal

abbrev pub invariant-note_arms-arms : goal.invariant-note_arms-arms
invariant-note_arms-arms l = noted l.fn.notes.items ++ flat_map notes_of_arm l.arms ≡ noted l.notes.items ++ flat_map notes_of_arm (drop l.arm-index l.arms)

abbrev pub invariant-note_body-body : goal.invariant-note_body-body
invariant-note_body-body l = noted l.fn.notes.items ++ spec.notes_of_body l.body ≡ noted l.notes.items ++ spec.notes_of_body (drop l.s-index l.body)
