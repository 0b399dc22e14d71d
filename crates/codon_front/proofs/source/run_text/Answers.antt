use Rattle.codon_front.proofs.TextDues.{no_tree_stops, tree_stops}
use Rattle.codon_front.proofs.source.run_text.Goals as goal

pub returns-in-Err-clause-stopped : goal.returns-in-Err-clause-stopped
returns-in-Err-clause-stopped g c = no_tree_stops c.args.action c.args.text.now _ _ _ c.in-Err.stop c.in-Err.ensures.refusal

pub returns-clause-stopped : goal.returns-clause-stopped
returns-clause-stopped g c = tree_stops c.args.action c.args.text.now c.in-Ok.module c.in-Ok.ensures.tree _ _ _ _ c.in-Err-run_tree.stop c.in-Err-run_tree.ensures.stopped
