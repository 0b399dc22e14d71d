use Rattle.number_nodes.proofs.ItemForms as form
use Rattle.number_nodes.proofs.item.number_member.Goals as goal

pub returns-in_ok-number_annotation-in-Field : goal.returns-in_ok-number_annotation-in-Field
returns-in_ok-number_annotation-in-Field c = form.member_Field c.in-Field.is c.in_ok-node-in-Field.ensures c.in_ok-name-in-Field.ensures c.in_ok-number_annotation-in-Field.ensures

pub returns-in_ok-number_node-in-Text : goal.returns-in_ok-number_node-in-Text
returns-in_ok-number_node-in-Text c = form.member_Text c.in-Text.is c.in_ok-number_node-in-Text.ensures

pub returns-in_ok-number_node-in-Pass : goal.returns-in_ok-number_node-in-Pass
returns-in_ok-number_node-in-Pass c = form.member_Pass c.in-Pass.is c.in_ok-number_node-in-Pass.ensures

pub returns-in_ok-number_function-in-Method : goal.returns-in_ok-number_function-in-Method
returns-in_ok-number_function-in-Method c = form.member_Method c.in-Method.is c.in_ok-number_function-in-Method.ensures
