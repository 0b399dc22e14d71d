use Rattle.std.proofs.Common.{slice_set}
use Rattle.codon_base.specs.declared.object.Object.TheVariants.{Instance}
use Rattle.plain_interpreter.specs.Seen.{seen}
use Rattle.plain_interpreter.proofs.Changed.{field_set_made, replaced_tells}
use Rattle.plain_interpreter.proofs.changes.set_field_at.Goals as goal

pub returns : goal.returns
unfolding seen
returns c = λ class fields e within.
    let made = field_set_made c.field_set-change.result c.args.state.now.store.heap c.field_set-change.new.heap c.args.at c.args.place c.args.v class fields e within c.field_set-change.ensures in
    replaced_tells c.args.state.now c.field_set-change.new.heap c.args.at (Instance class (slice_set fields c.args.place c.args.v)) c.field_set-change.result c.after_change.result made c.after_change.ensures
