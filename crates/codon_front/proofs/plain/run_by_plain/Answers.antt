use Rattle.std.proofs.Common.{ap, sym, ◌∙◌}
use Rattle.outer_world.specs.Sink.{gained}
use Rattle.codon_front.specs.Due.{IsPlainDue}
use Rattle.codon_front.specs.Plain.{due_of_end}
use Rattle.codon_front.proofs.PlainDues.{plain_due, due_out, plain_done, plain_stops, put_stops}
use Rattle.codon_front.proofs.plain.run_by_plain.Goals as goal

pub returns-in-Err-clause-stopped : goal.returns-in-Err-clause-stopped
returns-in-Err-clause-stopped g c =
    let m = c.args.module.now in
    let p = c.in-Ok.plain in
    let due = plain_due m c.args.fuel p.out p.end c.in-Ok.ensures.run c.in-Ok.ensures.meant in
    put_stops (IsPlainDue m c.args.fuel) (due_of_end p.out p.end) due _ _ _ _ _ (due_out p.out p.end ∙ sym c.as_slice.ensures) c.in-Err.stop c.in-Err.ensures.stopped

pub returns-in-Ok-told-clause-done : goal.returns-in-Ok-told-clause-done
returns-in-Ok-told-clause-done g c =
    let m = c.args.module.now in
    let p = c.in-Ok.plain in
    let due = plain_due m c.args.fuel p.out p.end c.in-Ok.ensures.run c.in-Ok.ensures.meant in
    let old = g.O.Sink.written c.args.out.now in
    let put = c.in_default-put.ensures.done ∙ ap (gained old) c.as_slice.ensures in
    plain_done m c.args.fuel p.out p.end due old (g.O.Sink.written c.put.new.out) put c.in-Ok-told.ensures.done

pub returns-clause-stopped : goal.returns-clause-stopped
returns-clause-stopped g c =
    let m = c.args.module.now in
    let p = c.in-Ok.plain in
    let due = plain_due m c.args.fuel p.out p.end c.in-Ok.ensures.run c.in-Ok.ensures.meant in
    let old = g.O.Sink.written c.args.out.now in
    let put = c.in_default-put.ensures.done ∙ ap (gained old) c.as_slice.ensures in
    plain_stops m c.args.fuel p.out p.end due old (g.O.Sink.written c.put.new.out) put _ _ c.in-Err-told.stop c.in-Err-told.ensures.stopped
