use Rattle.std.proofs.Common.{sym, ap, ◌∙◌, subst}
use Rattle.meaning_rules.specs.Outcome.{Outcome, Stops}
use Rattle.meaning_rules.specs.Program.{Known}
use Rattle.plain_interpreter.specs.Seen.{TellsAtBy}
use Rattle.meaning_rules.specs.State.{Stop}
use Rattle.plain_interpreter.specs.Tasks.{known_of}
use Rattle.plain_interpreter.proofs.MethodCalls.{found_known, found_unknown}
use Rattle.plain_interpreter.proofs.methods.method_in.Goals as goal

pub returns-in-Some : goal.returns-in-Some
returns-in-Some c =
    λ s. subst (λ (o : Outcome Known). TellsAtBy known_of o c.method_of.result s)
    (sym (found_known c.args.program.now c.args.class c.args.name.now c.in-Some.c.now s (sym c.in-Some.ensures)))
    (c.method_of.ensures s)

pub returns-in-None : goal.returns-in-None
returns-in-None c =
    λ s n. found_unknown c.args.program.now c.args.class c.args.name.now s (sym c.in-None.ensures) ∙ ap (λ (w : Stop). Stops w s) (sym (c.wrong.ensures n))
