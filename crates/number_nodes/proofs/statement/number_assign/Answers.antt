use Rattle.std.proofs.Common.{refl}
use Rattle.number_nodes.proofs.StatementForms as form
use Rattle.number_nodes.proofs.Parts.{its_node, its_part, its_pair}
use Rattle.number_nodes.proofs.statement.number_assign.Goals as goal

pub returns : goal.returns
returns c =
    let pair = c.in_ok-node.ensures in
    let parts = its_pair c.both-parts.ensures pair.1 in
    form.stmt_Assign refl (its_node c.number_node-node.ensures pair.0) (its_part c.number_targets-targets.ensures parts.0) (its_part c.number_expr-value.ensures parts.1)
