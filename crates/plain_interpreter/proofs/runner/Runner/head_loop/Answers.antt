use Rattle.std.proofs.Common.{◌∙◌, ap, sym}
use Rattle.meaning_rules.specs.State.{Flow}
use Rattle.meaning_rules.specs.Outcome.{Outcome, Gives, and_then, bind, pure}
use Rattle.meaning_rules.specs.Loops.{after_loop}
use Rattle.plain_interpreter.specs.Seen.{seen}
use Rattle.plain_interpreter.proofs.runner.Runner.head_loop.Goals as goal

pub returns : goal.returns
unfolding bind pure
returns g c =
    ap (λ (o : Outcome Flow). and_then o (λ flow s. Gives (after_loop flow) s)) c.in_ok-flow.ensures
    ∙ ap (λ (flow : Flow). Gives flow (seen c.looped_stages.new.state)) (sym c.after_loop.ensures)
