use Rattle.std.proofs.Common.{[], ◌∷◌, ◌++◌}
use Rattle.codon_base.specs.declared.object.Object.TheVariants.{List as Listed}
use Rattle.plain_interpreter.specs.Seen.{seen}
use Rattle.plain_interpreter.proofs.Changed.{item_pushed_made, replaced_tells}
use Rattle.plain_interpreter.proofs.changes.push_at.Goals as goal

pub returns : goal.returns
unfolding seen
returns c = λ items e.
    let made = item_pushed_made c.item_pushed-change.result c.args.state.now.store.heap c.item_pushed-change.new.heap c.args.at c.args.v items e c.item_pushed-change.ensures in
    replaced_tells c.args.state.now c.item_pushed-change.new.heap c.args.at (Listed (items ++ c.args.v ∷ [])) c.item_pushed-change.result c.after_change.result made c.after_change.ensures
