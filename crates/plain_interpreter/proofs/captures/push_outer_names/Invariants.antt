use Rattle.std.proofs.Common.{◌≡◌, ◌++◌, drop}
use Rattle.std.specs.List.{filter}
use Rattle.std.specs.Prelude.{not, ◌&&◌}
use Rattle.meaning_rules.specs.State.{is_among}
use Rattle.plain_interpreter.specs.Scopes.{scope_of}
use Rattle.meaning_rules.specs.Captures as spec
use Rattle.meaning_rules.specs.Mentions as mentions
use Rattle.plain_interpreter.specs.Noted.{noted}
use Rattle.plain_interpreter.specs.Tasks.{program_of}
use Rattle.meaning_rules.specs.Program.{is_variable}
use Rattle.plain_interpreter.proofs.captures.push_outer_names.Given as goal

abbrev pub invariant-notes : goal.invariant-notes
invariant-notes l =
    l.fn.names ++ spec.each_new l.fn.names (filter (λ name. is_variable (program_of l.program) (scope_of l.scope) name && not (is_among name l.own)) (mentions.mentioned (noted l.notes)))
    ≡ l.names ++ spec.each_new l.names (filter (λ name. is_variable (program_of l.program) (scope_of l.scope) name && not (is_among name l.own)) (mentions.mentioned (noted (drop l.note-index l.notes))))
