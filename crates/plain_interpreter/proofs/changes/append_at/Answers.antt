use Rattle.std.proofs.Common.{◌++◌}
use Rattle.codon_base.specs.declared.object.Object.TheVariants.{List as Listed}
use Rattle.plain_interpreter.specs.Seen.{seen}
use Rattle.plain_interpreter.proofs.Changed.{replaced_tells}
use Rattle.plain_interpreter.proofs.changes.append_at.Goals as goal

pub returns : goal.returns
unfolding seen
returns c = λ items e.
    replaced_tells c.args.state.now c.appended-change.new.heap c.args.at (Listed (items ++ c.args.more)) c.appended-change.result c.after_change.result (c.appended-change.ensures items e) c.after_change.ensures
