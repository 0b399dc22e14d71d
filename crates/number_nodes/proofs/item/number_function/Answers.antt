use Rattle.number_nodes.proofs.ItemForms as form
use Rattle.number_nodes.proofs.item.number_function.Goals as goal

pub returns : goal.returns
returns c = form.function c.args.function c.in_ok-node.ensures c.in_ok-name.ensures c.in_ok-params.ensures c.in_ok-result.ensures c.in_ok-body.ensures
