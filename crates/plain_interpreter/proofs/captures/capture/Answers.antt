use Rattle.std.proofs.Common.{◌+◌, drop, map, sym, ap, ◌∙◌, arith}
use Rattle.std.proofs.lemmas.List.{map-append}
use Rattle.std.proofs.lemmas.Grind.{common_steps}
use Rattle.meaning_rules.specs.Captures as spec
use Rattle.plain_interpreter.specs.Reaching.{captured_of}
use Rattle.plain_interpreter.specs.Scopes.{scope_of}
use Rattle.plain_interpreter.specs.Seen.{seen}
use Rattle.plain_interpreter.specs.Tasks.{program_of}
use Rattle.plain_interpreter.proofs.Rest.{after}
use Rattle.plain_interpreter.proofs.Capturing.{capture_next, capture_goes}
use Rattle.plain_interpreter.proofs.captures.capture.Goals as goal

pub names-preserved : goal.names-preserved
names-preserved c =
    let rest = spec.capture (program_of c.args.program.now) (scope_of c.args.scope.now) (drop (c.names.name-index + 1) c.args.names.now) (seen c.read_name.new.state) in
    c.names.invariant
    ∙ capture_goes (program_of c.args.program.now) (scope_of c.args.scope.now) (map captured_of c.names.captured.items) c.args.names.now c.names.name-index c.name-item.result c.in_ok-value.value (seen c.names.state) (seen c.read_name.new.state) c.names-test.true c.name-item.is c.in_ok-value.ensures
    ∙ ap (λ l. after l rest) (sym (ap (λ l. map captured_of l) c.in_ok-push.ensures.items ∙ map-append _ c.names.captured.items _))

pub returns-in_err-value : goal.returns-in_err-value
returns-in_err-value c =
    let next = c.names.invariant ∙ capture_next (program_of c.args.program.now) (scope_of c.args.scope.now) (map captured_of c.names.captured.items) c.args.names.now c.names.name-index c.name-item.result (seen c.names.state) c.names-test.true c.name-item.is in
    grind (arith, common_steps, next)
