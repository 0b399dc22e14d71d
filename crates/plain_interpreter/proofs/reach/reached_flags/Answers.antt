use Rattle.std.proofs.Common.{◌≡◌, ◌++◌, length, map, sym, ap, ◌∙◌, arith}
use Rattle.std.specs.Cmp.{booleans_Decides}
use Rattle.std.proofs.lemmas.Slice.Eq.{slice_eq-Decides}
use Rattle.meaning_rules.specs.Captures.{notes_of_reached}
use Rattle.plain_interpreter.specs.Noted.{noted}
use Rattle.plain_interpreter.specs.Tasks.{callable_of}
use Rattle.plain_interpreter.specs.Reaching.{picked, flags_of}
use Rattle.plain_interpreter.proofs.Rounds.{settled}
use Rattle.plain_interpreter.proofs.reach.reached_flags.Goals as goal

pub returns-then-eq : goal.returns-then-eq
returns-then-eq c =
    let all = map callable_of c.args.callables.now in
    let same : c.as_slice.result.now ≡ c.as_slice-in-rounds.result.now = (slice_eq-Decides booleans_Decides _ _ _ c.eq.ensures).0 c.if-eq.true in
    let none : c.in_ok-next.next.items ≡ c.rounds.flags.items = sym c.as_slice.ensures.value ∙ same ∙ c.as_slice-in-rounds.ensures.value in
    let within = c.rounds-test.true in
    settled all (noted c.args.notes.now) c.rounds.round (length c.args.callables.now) c.rounds.flags.items c.in_ok-next.next.items c.rounds.invariant
    (c.in_ok-next.ensures ∙ ap (λ f. flags_of (noted c.args.notes.now ++ notes_of_reached (picked all f)) all) c.deref.ensures.value) none (omega (arith, within))
