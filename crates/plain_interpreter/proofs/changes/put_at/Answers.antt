use Rattle.std.proofs.Common.{slice_set}
use Rattle.codon_base.specs.declared.object.Object.TheVariants.{List as Listed}
use Rattle.plain_interpreter.specs.Seen.{seen}
use Rattle.plain_interpreter.proofs.Changed.{item_set_made, replaced_tells}
use Rattle.plain_interpreter.proofs.changes.put_at.Goals as goal

pub returns : goal.returns
unfolding seen
returns c = λ items e within.
    let made = item_set_made c.item_set-change.result c.args.state.now.store.heap c.item_set-change.new.heap c.args.at c.args.place c.args.v items e within c.item_set-change.ensures in
    replaced_tells c.args.state.now c.item_set-change.new.heap c.args.at (Listed (slice_set items c.args.place c.args.v)) c.item_set-change.result c.after_change.result made c.after_change.ensures
