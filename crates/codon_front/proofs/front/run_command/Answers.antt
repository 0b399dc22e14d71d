use Rattle.std.proofs.Common.{subst}
use Rattle.codon_front.specs.Seen.{seen_command}
use Rattle.codon_front.specs.Due.{IsDueOfText}
use Rattle.codon_front.specs.Stop.{Finishes, StopsBy}
use Rattle.codon_front.proofs.CommandDues.{read_stops, text_done, text_stops}
use Rattle.codon_front.proofs.front.run_command.Goals as goal

pub returns-in-Err-clause-stopped : goal.returns-in-Err-clause-stopped
returns-in-Err-clause-stopped g c =
    read_stops (g.F.Files.holds c.args.files.now) (seen_command c.args.command.now) _ _ _ _ _ c.in-Err.stop c.in-Err.ensures.cause

pub returns-in-Ok-run_text-clause-done : goal.returns-in-Ok-run_text-clause-done
returns-in-Ok-run_text-clause-done g c =
    let old = g.O.Sink.written c.args.out.now in
    let new = g.O.Sink.written c.run_text.new.out in
    text_done (g.F.Files.holds c.args.files.now) (seen_command c.args.command.now) c.in-Ok.text.items c.in-Ok.ensures.text old new
    (subst (λ t. Finishes (IsDueOfText c.args.command.now.action t) old new) c.as_slice.ensures.value c.in-Ok-run_text.ensures.done)

pub returns-clause-stopped : goal.returns-clause-stopped
returns-clause-stopped g c =
    let old = g.O.Sink.written c.args.out.now in
    let new = g.O.Sink.written c.run_text.new.out in
    text_stops (g.F.Files.holds c.args.files.now) (seen_command c.args.command.now) c.in-Ok.text.items c.in-Ok.ensures.text (g.F.Files.faults c.args.files.now) (g.F.Files.faults c.read_source.new.files) old new (g.O.Sink.faults c.args.out.now) (g.O.Sink.faults c.run_text.new.out) c.in-Err-run_text.stop
    (subst (λ t. StopsBy (IsDueOfText c.args.command.now.action t) old new (g.O.Sink.faults c.args.out.now) (g.O.Sink.faults c.run_text.new.out) c.in-Err-run_text.stop) c.as_slice.ensures.value c.in-Err-run_text.ensures.stopped)
