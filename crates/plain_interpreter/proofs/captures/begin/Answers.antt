use Rattle.std.proofs.Common.{map, refl, sym, ap, ◌∙◌}
use Rattle.std.specs.Prelude.{not, ◌&&◌}
use Rattle.meaning_rules.specs.State.{is_among}
use Rattle.meaning_rules.specs.Program.{is_variable}
use Rattle.meaning_rules.specs.Captures as spec
use Rattle.plain_interpreter.specs.Noted.{noted}
use Rattle.plain_interpreter.specs.Reaching.{captured_of}
use Rattle.plain_interpreter.specs.Scopes.{scope_of}
use Rattle.plain_interpreter.specs.Seen.{seen}
use Rattle.plain_interpreter.specs.Tasks.{program_of, region_of}
use Rattle.plain_interpreter.proofs.Capturing.{begin_is, named_once}
use Rattle.plain_interpreter.proofs.captures.begin.Goals as goal

pub returns : goal.returns
unfolding seen
returns c =
    let program = program_of c.args.program.now in
    let scope = scope_of c.args.scope.now in
    let heap = c.capture-2.new.state.store.heap in
    begin_is program scope c.args.own.now (noted c.args.notes.now) c.args.lent.now c.as_slice.result.now c.as_slice-3.result.now (map captured_of c.in_ok-outer.outer.items) (map captured_of c.in_ok-others-2.others.items) (region_of c.in_ok-region_of.field-0) (seen c.args.state.now) (seen c.capture.new.state) (seen c.capture-2.new.state)
    (c.as_slice.ensures ∙ named_once (λ name. is_variable program scope name && not (is_among name c.args.own.now)) _ _ (noted c.args.notes.now) (noted c.args.notes.now) c.in_ok-push_outer_names.ensures c.new-names.ensures refl)
    c.in_ok-outer.ensures
    (c.as_slice-3.ensures ∙ c.in_ok-others.ensures ∙ ap (λ l. spec.module_names program scope l (noted c.args.notes.now)) (c.as_slice-2.ensures ∙ sym c.as_slice.ensures))
    c.in_ok-others-2.ensures
    (c.in_ok-region_of.ensures
    ∙ ap (λ l. spec.region_of scope c.args.own.now c.args.lent.now heap (map captured_of l) (map captured_of c.deref-2.result.now)) c.deref.ensures.value
    ∙ ap (λ l. spec.region_of scope c.args.own.now c.args.lent.now heap (map captured_of c.in_ok-outer.outer.items) (map captured_of l)) c.deref-2.ensures.value)
