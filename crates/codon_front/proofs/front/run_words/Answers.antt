use Rattle.std.proofs.Common.{Option, map, sym, subst}
use Rattle.std.specs.String.{string_bytes}
use Rattle.codon_front.specs.Command.{Command, command_of}
use Rattle.codon_front.specs.Stop.{IsStopOf}
use Rattle.codon_front.proofs.CommandDues.{usage_owed}
use Rattle.codon_front.proofs.front.run_words.Goals as goal

pub returns-in_default-clause-stopped : goal.returns-in_default-clause-stopped
returns-in_default-clause-stopped g c = usage_owed (g.F.Files.holds c.args.files.now) (command_of (map string_bytes c.args.words.now)) (sym c.in_default.ensures) (g.O.Sink.written c.args.out.now)

pub returns-in-Err-clause-stopped : goal.returns-in-Err-clause-stopped
returns-in-Err-clause-stopped g c =
    let P : Option Command → Type 0 = λ o. IsStopOf o (g.F.Files.holds c.args.files.now) (g.F.Files.faults c.args.files.now) (g.F.Files.faults c.run_command.new.files) (g.O.Sink.written c.args.out.now) (g.O.Sink.written c.run_command.new.out) (g.O.Sink.faults c.args.out.now) (g.O.Sink.faults c.run_command.new.out) c.in-Err.stop in
    subst P c.in-Some.ensures c.in-Err.ensures.stopped
