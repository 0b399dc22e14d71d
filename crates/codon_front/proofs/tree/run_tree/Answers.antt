use Rattle.std.proofs.Common.{refl, sym, subst}
use Rattle.codon_front.specs.Due.{IsDueOfTree, accepted}
use Rattle.codon_front.specs.Stop.{Finishes, StopsBy}
use Rattle.codon_front.specs.declared.command.Action.{Action}
use Rattle.codon_front.specs.declared.command.Action.TheVariants.{Check}
use Rattle.codon_front.proofs.PlainDues.{put_stops}
use Rattle.codon_front.proofs.tree.run_tree.Goals as goal

pub returns-in-Ok-clause-done : goal.returns-in-Ok-clause-done
returns-in-Ok-clause-done g c =
    let P : Action → Type 0 = λ a. Finishes (IsDueOfTree c.args.module.now a) (g.O.Sink.written c.args.out.now) (g.O.Sink.written c.run_compiled.new.out) in
    subst P (sym c.in-Run.is) (c.in-Ok.ensures.done c.in-Run.field-0)

pub returns-in-Err-clause-stopped : goal.returns-in-Err-clause-stopped
returns-in-Err-clause-stopped g c =
    let P : Action → Type 0 = λ a. StopsBy (IsDueOfTree c.args.module.now a) (g.O.Sink.written c.args.out.now) (g.O.Sink.written c.run_compiled.new.out) (g.O.Sink.faults c.args.out.now) (g.O.Sink.faults c.run_compiled.new.out) c.in-Err.stop in
    subst P (sym c.in-Run.is) (c.in-Err.ensures.stopped c.in-Run.field-0)

pub returns-in-Ok-put-clause-done : goal.returns-in-Ok-put-clause-done
returns-in-Ok-put-clause-done g c =
    let P : Action → Type 0 = λ a. Finishes (IsDueOfTree c.args.module.now a) (g.O.Sink.written c.args.out.now) (g.O.Sink.written c.put.new.out) in
    subst P (sym c.in-Check.is) (record { due = accepted; is_due = refl; out = c.in-Ok-put.ensures.done; err = refl; status = refl })

pub returns-in-Err-put-clause-stopped : goal.returns-in-Err-put-clause-stopped
returns-in-Err-put-clause-stopped g c =
    let P : Action → Type 0 = λ a. StopsBy (IsDueOfTree c.args.module.now a) (g.O.Sink.written c.args.out.now) (g.O.Sink.written c.put.new.out) (g.O.Sink.faults c.args.out.now) (g.O.Sink.faults c.put.new.out) c.in-Err-put.stop in
    subst P (sym c.in-Check.is) (put_stops (IsDueOfTree c.args.module.now Check) accepted refl _ _ _ _ _ refl c.in-Err-put.stop c.in-Err-put.ensures.stopped)
