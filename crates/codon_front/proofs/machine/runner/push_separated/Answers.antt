use Rattle.codon_front.proofs.Values.{text_more}
use Rattle.codon_front.proofs.machine.runner.push_separated.Goals as goal

pub loop-value-preserved : goal.loop-value-preserved
loop-value-preserved c =
    let inv = c.loop-value.invariant in
    text_more c.args.separator.now c.args.values.now c.loop-value.value-index c.value-item.result c.args.piece.now.items c.loop-value.piece.items c.extend_from_slice.new.self.items c.push_shown.new.bytes.items inv.0 c.in_ok-push_shown.field-0 c.loop-value-test.true c.value-item.is inv.1 inv.2 c.in_ok-extend_from_slice.ensures.items c.if-not-branch.false c.in_ok-push_shown.ensures
