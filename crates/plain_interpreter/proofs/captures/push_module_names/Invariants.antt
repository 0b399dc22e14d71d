use Rattle.std.proofs.Common.{◌≡◌, ◌++◌, drop}
use Rattle.std.specs.List.{filter}
use Rattle.std.specs.Prelude.{not, ◌&&◌}
use Rattle.meaning_rules.specs.State.{is_among}
use Rattle.plain_interpreter.specs.Scopes.{scope_of}
use Rattle.meaning_rules.specs.Captures as spec
use Rattle.meaning_rules.specs.Mentions as mentions
use Rattle.plain_interpreter.specs.Noted.{noted}
use Rattle.plain_interpreter.specs.Tasks.{program_of}
use Rattle.plain_interpreter.proofs.captures.push_module_names.Given as goal

abbrev pub invariant-notes : goal.invariant-notes
invariant-notes l =
    l.fn.names ++ spec.each_new l.fn.names (filter (λ name. is_among name (program_of l.program).variables && not (is_among name l.outer && not (is_among name (scope_of l.scope).locals))) (mentions.mentioned (noted l.notes)))
    ≡ l.names ++ spec.each_new l.names (filter (λ name. is_among name (program_of l.program).variables && not (is_among name l.outer && not (is_among name (scope_of l.scope).locals))) (mentions.mentioned (noted (drop l.note-index l.notes))))
