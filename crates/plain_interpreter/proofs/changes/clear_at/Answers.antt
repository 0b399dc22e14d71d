use Rattle.std.proofs.Common.{[]}
use Rattle.codon_base.specs.declared.object.Object.TheVariants.{List as Listed}
use Rattle.plain_interpreter.specs.Seen.{seen}
use Rattle.plain_interpreter.proofs.Changed.{cleared_made, replaced_tells}
use Rattle.plain_interpreter.proofs.changes.clear_at.Goals as goal

pub returns : goal.returns
unfolding seen
returns c = λ items e.
    let made = cleared_made c.cleared-change.result c.args.state.now.store.heap c.cleared-change.new.heap c.args.at items e c.cleared-change.ensures in
    replaced_tells c.args.state.now c.cleared-change.new.heap c.args.at (Listed []) c.cleared-change.result c.after_change.result made c.after_change.ensures
