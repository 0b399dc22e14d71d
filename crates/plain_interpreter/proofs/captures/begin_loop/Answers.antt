use Rattle.std.proofs.Common.{◌++◌, [], if◌then◌else◌, subst, ap, ◌∙◌}
use Rattle.meaning_rules.specs.Captures as spec
use Rattle.meaning_rules.specs.Mentions.{notes_of_body, written_places}
use Rattle.plain_interpreter.specs.Noted.{noted}
use Rattle.plain_interpreter.specs.Scopes.{scope_of}
use Rattle.plain_interpreter.specs.Seen.{seen, TellsBy}
use Rattle.plain_interpreter.specs.Tasks.{program_of, region_of}
use Rattle.plain_interpreter.proofs.Capturing.{begin_loop_is}
use Rattle.plain_interpreter.proofs.captures.begin_loop.Goals as goal

pub returns : goal.returns
returns c =
    let scope = scope_of c.args.scope.now in
    let notes = c.in_ok-note_body.ensures ∙ ap (λ l. noted l ++ notes_of_body c.as_slice.result.now) c.new-notes.ensures.items ∙ ap notes_of_body c.as_slice.ensures in
    subst (λ o. TellsBy region_of o c.begin.result c.begin.new.state)
    (begin_loop_is (program_of c.args.program.now) scope c.args.names.now c.args.over_range c.args.body.now c.as_slice-3.result.now (noted c.deref-2.result.now) c.as_slice-4.result.now (seen c.args.state.now)
    (c.as_slice-3.ensures ∙ c.in_ok-own.ensures ∙ ap (λ b. spec.private_names scope c.args.names.now b) c.as_slice-2.ensures)
    (ap noted c.deref-2.ensures.value ∙ notes)
    (c.as_slice-4.ensures ∙ c.in_ok-lent.ensures ∙ ap (λ n. if c.args.over_range then written_places n else []) (ap noted c.deref.ensures.value ∙ notes)))
    c.begin.ensures
