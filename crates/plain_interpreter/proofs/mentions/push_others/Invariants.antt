use Rattle.std.proofs.Common.{◌≡◌, ◌++◌, drop}
use Rattle.meaning_rules.specs.Mentions as spec
use Rattle.plain_interpreter.specs.Noted.{noted}
use Rattle.plain_interpreter.proofs.mentions.push_others.Given as goal

abbrev pub invariant-inner : goal.invariant-inner
invariant-inner l = noted l.fn.notes.items ++ spec.but_of l.own (noted l.inner) ≡ noted l.notes.items ++ spec.but_of l.own (noted (drop l.note-index l.inner))
