use Rattle.number_nodes.proofs.ItemForms as form
use Rattle.number_nodes.proofs.item.number_item.Goals as goal

pub returns-in_ok-number_stmt-in-Stmt : goal.returns-in_ok-number_stmt-in-Stmt
returns-in_ok-number_stmt-in-Stmt c = form.item_Stmt c.in-Stmt.is c.in_ok-number_stmt-in-Stmt.ensures

pub returns-in_ok-number_function-in-Function : goal.returns-in_ok-number_function-in-Function
returns-in_ok-number_function-in-Function c = form.item_Function c.in-Function.is c.in_ok-number_function-in-Function.ensures

pub returns-in_ok-number_class-in-Class : goal.returns-in_ok-number_class-in-Class
returns-in_ok-number_class-in-Class c = form.item_Class c.in-Class.is c.in_ok-number_class-in-Class.ensures
