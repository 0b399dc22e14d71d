use Rattle.number_nodes.proofs.ItemForms as form
use Rattle.number_nodes.proofs.item.number_class.Goals as goal

pub returns : goal.returns
returns c = form.class c.args.class c.in_ok-node.ensures c.in_ok-name.ensures c.in_ok-members.ensures
