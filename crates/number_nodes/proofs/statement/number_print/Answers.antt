use Rattle.std.proofs.Common.{refl}
use Rattle.number_nodes.proofs.StatementForms as form
use Rattle.number_nodes.proofs.Parts.{its_node, its_part}
use Rattle.number_nodes.proofs.statement.number_print.Goals as goal

pub returns : goal.returns
returns c =
    let pair = c.in_ok-node.ensures in
    form.stmt_Print refl (its_node c.number_node-node.ensures pair.0) (its_part c.number_printed-printed.ensures pair.1)
