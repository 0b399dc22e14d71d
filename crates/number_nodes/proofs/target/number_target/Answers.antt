use Rattle.source_trees.specs.Bare.{bare_target}
use Rattle.source_trees.specs.Nodes.{nodes_of_target}
use Rattle.number_nodes.proofs.TargetForms as form
use Rattle.number_nodes.proofs.Parts.{of_form}
use Rattle.number_nodes.proofs.target.number_target.Goals as goal

pub returns-in_ok-number_node-in-Name : goal.returns-in_ok-number_node-in-Name
returns-in_ok-number_node-in-Name c = form.target_Name c.in-Name.is c.in_ok-number_node-in-Name.ensures

pub returns-in-Index : goal.returns-in-Index
returns-in-Index c = of_form bare_target nodes_of_target _ _ _ c.in-Index.is c.number_place.ensures

pub returns-in-Field : goal.returns-in-Field
returns-in-Field c = of_form bare_target nodes_of_target _ _ _ c.in-Field.is c.number_field.ensures
