use Rattle.std.proofs.Common.{◌≡◌, ◌++◌, drop}
use Rattle.std.specs.List.{flat_map}
use Rattle.meaning_rules.specs.Mentions as spec
use Rattle.plain_interpreter.specs.Noted.{noted, notes_of_comparison}
use Rattle.plain_interpreter.proofs.mentions.+expression.Given as goal

abbrev pub invariant-note_exprs-items : goal.invariant-note_exprs-items
invariant-note_exprs-items l = noted l.fn.notes.items ++ spec.notes_of_exprs l.items ≡ noted l.notes.items ++ spec.notes_of_exprs (drop l.e-index l.items)

abbrev pub invariant-note_comparisons-others : goal.invariant-note_comparisons-others
invariant-note_comparisons-others l = noted l.fn.notes.items ++ flat_map notes_of_comparison l.others ≡ noted l.notes.items ++ flat_map notes_of_comparison (drop l.other-index l.others)
