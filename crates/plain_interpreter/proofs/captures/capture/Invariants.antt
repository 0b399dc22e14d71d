use Rattle.std.proofs.Common.{◌≡◌, drop, map}
use Rattle.meaning_rules.specs.Captures as spec
use Rattle.plain_interpreter.specs.Scopes.{scope_of}
use Rattle.plain_interpreter.specs.Seen.{seen}
use Rattle.plain_interpreter.specs.Tasks.{program_of}
use Rattle.plain_interpreter.specs.Reaching.{captured_of}
use Rattle.plain_interpreter.proofs.Rest.{after}
use Rattle.plain_interpreter.proofs.captures.capture.Given as goal

abbrev pub invariant-names : goal.invariant-names
invariant-names l =
    spec.capture (program_of l.program) (scope_of l.scope) l.names (seen l.fn.state)
    ≡ after (map captured_of l.captured.items) (spec.capture (program_of l.program) (scope_of l.scope) (drop l.name-index l.names) (seen l.state))
