use Rattle.number_nodes.proofs.ItemForms.{module_same}
use Rattle.number_nodes.proofs.item.number_nodes.Goals as goal

pub returns : goal.returns
returns c =
    let done = c.in_ok-number_items.ensures in
    record { bare = module_same c.args.source done; numbered = done.numbered }
