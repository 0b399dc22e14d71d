use Rattle.std.proofs.Common.{◌≡◌, ◌++◌, drop}
use Rattle.meaning_rules.specs.Mentions as mentions
use Rattle.plain_interpreter.specs.Noted.{noted}
use Rattle.plain_interpreter.proofs.captures.written_places.Given as goal

abbrev pub invariant-notes : goal.invariant-notes
invariant-notes l =
    mentions.written_places (noted l.notes) ≡ l.names ++ mentions.written_places (noted (drop l.note-index l.notes))
