use Rattle.codon_base.specs.Walks.{nesting_limit}
use Rattle.codon_base.proofs.NeverLent.{text_of-clear, refused}
use Rattle.codon_base.proofs.show.show_value.Goals as goal

pub returns-in-Err-No : goal.returns-in-Err-No
returns-in-Err-No g c =
    rw c.refusal_of.ensures (refused c.in-Err-No.end _ (text_of-clear (g.H.Holder.levels c.args.heap.now) nesting_limit c.args.inside c.args.v.now 0) (rw c.in-Err-No.field-0-is at c.in-Err-No.ensures))
