use Rattle.std.proofs.Common.{◌≡◌, ◌++◌, drop}
use Rattle.std.specs.List.{flat_map}
use Rattle.meaning_rules.specs.Mentions as spec
use Rattle.plain_interpreter.specs.Noted.{noted}
use Rattle.plain_interpreter.proofs.mentions.note_each_target.Given as goal

abbrev pub invariant-all : goal.invariant-all
invariant-all l = noted l.fn.notes.items ++ flat_map spec.notes_of_target l.all ≡ noted l.notes.items ++ flat_map spec.notes_of_target (drop l.target-index l.all)
