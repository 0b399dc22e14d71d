use Rattle.number_nodes.proofs.ItemForms as form
use Rattle.number_nodes.proofs.Parts.{its_node, its_part, its_pair}
use Rattle.number_nodes.proofs.item.number_param.Goals as goal

pub returns : goal.returns
returns c =
    let pair = c.in_ok-node.ensures in
    let parts = its_pair c.both-parts.ensures pair.1 in
    form.param c.args.param (its_node c.number_node-node.ensures pair.0) (its_part c.number_optional_annotation-annotation.ensures parts.0) (its_part c.number_optional_expr-default.ensures parts.1)
