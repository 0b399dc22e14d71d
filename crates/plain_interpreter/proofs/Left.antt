-- Flows that leave bodies of generators.
use Rattle.std.proofs.Common.{◌≡◌, ◌≢◌, ℕ, suc, ◌+◌, ◌-◌, true, false, refl, ap, arith}
use Rattle.meaning_rules.specs.State.{Flow, Next, Break, Continue, Return, Left}
use Rattle.meaning_rules.specs.Outcome.{Run, pure, is_next}
use Rattle.meaning_rules.specs.Loops.{after_turn, yielded}
use Rattle.meaning_rules.specs.Statements.{then_next}
use Rattle.plain_interpreter.specs.Seen.{left_by}
use Rattle.plain_interpreter.specs.Flows.{goes_on}

pub left_some : (n : ℕ) (flow : Flow) → n ≢ 0 → left_by n flow ≡ Left (left_by (n - 1) flow)
left_some n flow h = let e : n ≡ suc (n - 1) = omega arith in ap (λ k. left_by k flow) e

pub left_more : (n : ℕ) (flow : Flow) → left_by (n + 1) flow ≡ Left (left_by n flow)
left_more n flow = let e : n + 1 ≡ suc n = omega arith in ap (λ k. left_by k flow) e

pub yielded_left : (flow : Flow) → goes_on flow ≡ false → yielded flow ≡ Left flow
yielded_left Next h = cc
yielded_left Break h = refl
yielded_left Continue h = cc
yielded_left (Return v) h = refl
yielded_left (Left flow) h = refl

pub yielded_next : (flow : Flow) → goes_on flow ≡ true → yielded flow ≡ Next
yielded_next Next h = refl
yielded_next Break h = cc
yielded_next Continue h = refl
yielded_next (Return v) h = cc
yielded_next (Left flow) h = cc

pub next_more : (flow : Flow) (more : Run Flow) → is_next flow ≡ true → then_next flow more ≡ more
next_more Next more h = refl
next_more Break more h = cc
next_more Continue more h = cc
next_more (Return v) more h = cc
next_more (Left flow) more h = cc

pub next_none : (flow : Flow) (more : Run Flow) → is_next flow ≡ false → then_next flow more ≡ pure flow
next_none Next more h = cc
next_none Break more h = refl
next_none Continue more h = refl
next_none (Return v) more h = refl
next_none (Left flow) more h = refl

pub turn_more : (flow : Flow) (more : Run Flow) → goes_on flow ≡ true → after_turn flow more ≡ more
turn_more Next more h = refl
turn_more Break more h = cc
turn_more Continue more h = refl
turn_more (Return v) more h = cc
turn_more (Left flow) more h = cc

pub turn_none : (flow : Flow) (more : Run Flow) → goes_on flow ≡ false → after_turn flow more ≡ pure flow
turn_none Next more h = cc
turn_none Break more h = refl
turn_none Continue more h = cc
turn_none (Return v) more h = refl
turn_none (Left flow) more h = refl
