use Rattle.number_nodes.proofs.TargetForms as form
use Rattle.number_nodes.proofs.target.number_targets.Goals as goal

pub returns-in_ok-number_target-in-One : goal.returns-in_ok-number_target-in-One
returns-in_ok-number_target-in-One c = form.targets_One c.in-One.is c.in_ok-number_target-in-One.ensures

pub returns-in_ok-number_target_list-in-Several : goal.returns-in_ok-number_target_list-in-Several
returns-in_ok-number_target_list-in-Several c = form.targets_Several c.in-Several.is c.in_ok-node-in-Several.ensures c.in_ok-number_target_list-in-Several.ensures
