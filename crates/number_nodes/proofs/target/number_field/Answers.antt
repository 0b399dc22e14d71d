use Rattle.std.proofs.Common.{refl}
use Rattle.number_nodes.proofs.TargetForms as form
use Rattle.number_nodes.proofs.Parts.{its_node, its_part}
use Rattle.number_nodes.proofs.target.number_field.Goals as goal

pub returns : goal.returns
returns c =
    let pair = c.in_ok-node.ensures in
    form.target_Field refl (its_node c.number_node-node.ensures pair.0) (its_part c.number_expr-object.ensures pair.1)
