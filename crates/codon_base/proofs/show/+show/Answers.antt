use Rattle.std.proofs.Common.{arith, Ok, true}
use Rattle.codon_base.specs.Printed.{text_of}
use Rattle.codon_base.specs.Operators.{whole}
use Rattle.codon_base.proofs.Writing.{Writes-limit, Writes-along, Writes-end, text_of-met, text_met-Tuple}
use Rattle.codon_base.proofs.show.+show.Goals as goal

pub show_met-returns-in-Tuple : goal.show_met-returns-in-Tuple
show_met-returns-in-Tuple g t c = Writes-along _ _ _ _ _ _ _ (text_met-Tuple _ _ c.args.inside c.args.value.now c.in-Tuple.values c.args.printer.now.met c.in-Tuple.is) (rw c.as_slice.ensures at c.show_tuple.ensures)

pub show_one-returns-then-printer-ge-VALUE_LIMIT : goal.show_one-returns-then-printer-ge-VALUE_LIMIT
show_one-returns-then-printer-ge-VALUE_LIMIT g t c = Writes-limit (Unit {0}) _ c.args.room c.args.inside c.args.value.now c.args.printer.now.text c.args.printer.now.met c.if-printer-ge-VALUE_LIMIT.true

pub show_one-returns : goal.show_one-returns
show_one-returns g t c = Writes-along _ _ _ _ _ _ _ (text_of-met _ c.args.room c.args.inside c.args.value.now c.args.printer.now.met c.if-printer-ge-VALUE_LIMIT.false) c.show_met.ensures

pub show_more-returns : goal.show_more-returns
show_more-returns g t c =
    let text = text_of (whole (g.S.Sighted.sight c.args.sight.now)) c.args.room true in
    c.more.invariant (Ok tt) c.more.printer.text c.more.printer.met (Writes-end text c.args.values.now c.more.value-index c.more.printer.text c.more.printer.met (omega arith))
