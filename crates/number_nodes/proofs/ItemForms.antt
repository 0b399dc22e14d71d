-- The forms of functions, classes and what they hold have their numbers where their parts have.
use Rattle.std.proofs.Common.{◌≡◌, ℕ, List, ◌++◌, map, Option, ap}
use Rattle.source_trees.specs.declared.node.Node.{Node}
use Rattle.source_trees.specs.declared.node.Name.{Name}
use Rattle.source_trees.specs.declared.expression.Expr.{Expr}
use Rattle.source_trees.specs.declared.statement.Stmt.{Stmt}
use Rattle.source_trees.specs.declared.item.Annotation.{Annotation}
use Rattle.source_trees.specs.declared.item.Param.{Param}
use Rattle.source_trees.specs.declared.item.Function.{Function}
use Rattle.source_trees.specs.declared.item.Member.{Member}
use Rattle.source_trees.specs.declared.item.Member.TheVariants as member
use Rattle.source_trees.specs.declared.item.Class.{Class}
use Rattle.source_trees.specs.declared.item.Item.{Item}
use Rattle.source_trees.specs.declared.item.Item.TheVariants as item
use Rattle.source_trees.specs.declared.item.Module.{Module as Source}
use Rattle.source_trees.specs.Parts.{of_optional_annotation, of_optional_expr}
use Rattle.source_trees.specs.Nodes.{before_parts, nodes_of_param, nodes_of_stmt}
use Rattle.source_trees.specs.Bare.{bare, bare_name, bare_annotation, bare_function, bare_member, bare_class, bare_item, bare_module, bare_stmt}
use Rattle.number_nodes.specs.Numbers.{NumbersNode, NumbersName, NumbersOptionalExpr, NumbersAnnotation, NumbersOptionalAnnotation, NumbersStmt, NumbersStmts, NumbersParam, NumbersParams, NumbersFunction, NumbersMember, NumbersMembers, NumbersClass, NumbersItem, NumbersItems}
use Rattle.number_nodes.proofs.Taking.{takes, numbers_by, takes_none, takes_node, takes_both, takes_last, takes_parts}

pub member_Field : {whole : Member} {n m : Node} {name name' : Name} {type type' : Annotation} {first a b next : ℕ}
    → whole ≡ member.Field n name type → NumbersNode first n m a → NumbersName a name name' b → NumbersAnnotation b type type' next → NumbersMember first whole (member.Field m name' type') next
member_Field {whole} {n} {m} {name} {name'} {type} {type'} {first} {a} {b} {next} is own its_name its_type =
    let old : bare_member whole ≡ member.Field (bare n) (bare_name name) (bare_annotation type) = ap bare_member is in
    numbers_by (cc) (takes_node own (takes_both (takes its_name) (takes_last (takes its_type))))

pub member_Text : {whole : Member} {n m : Node} {text : List ℕ} {first next : ℕ}
    → whole ≡ member.Text n text → NumbersNode first n m next → NumbersMember first whole (member.Text m text) next
member_Text {whole} {n} {m} {text} {first} {next} is own =
    let old : bare_member whole ≡ member.Text (bare n) text = ap bare_member is in
    numbers_by (cc) (takes_node own (takes_none next))

pub member_Pass : {whole : Member} {n m : Node} {first next : ℕ}
    → whole ≡ member.Pass n → NumbersNode first n m next → NumbersMember first whole (member.Pass m) next
member_Pass {whole} {n} {m} {first} {next} is own =
    let old : bare_member whole ≡ member.Pass (bare n) = ap bare_member is in
    numbers_by (cc) (takes_node own (takes_none next))

pub member_Method : {whole : Member} {f f' : Function} {first next : ℕ}
    → whole ≡ member.Method f → NumbersFunction first f f' next → NumbersMember first whole (member.Method f') next
member_Method {whole} {f} {f'} {first} {next} is its_f =
    let old : bare_member whole ≡ member.Method (bare_function f) = ap bare_member is in
    numbers_by (cc) (takes its_f)

pub item_Stmt : {whole : Item} {s s' : Stmt} {first next : ℕ}
    → whole ≡ item.Stmt s → NumbersStmt first s s' next → NumbersItem first whole (item.Stmt s') next
item_Stmt {whole} {s} {s'} {first} {next} is its_s =
    let old : bare_item whole ≡ item.Stmt (bare_stmt s) = ap bare_item is in
    numbers_by (cc) (takes its_s)

pub item_Function : {whole : Item} {f f' : Function} {first next : ℕ}
    → whole ≡ item.Function f → NumbersFunction first f f' next → NumbersItem first whole (item.Function f') next
item_Function {whole} {f} {f'} {first} {next} is its_f =
    let old : bare_item whole ≡ item.Function (bare_function f) = ap bare_item is in
    numbers_by (cc) (takes its_f)

pub item_Class : {whole : Item} {c c' : Class} {first next : ℕ}
    → whole ≡ item.Class c → NumbersClass first c c' next → NumbersItem first whole (item.Class c') next
item_Class {whole} {c} {c'} {first} {next} is its_c =
    let old : bare_item whole ≡ item.Class (bare_class c) = ap bare_item is in
    numbers_by (cc) (takes its_c)

pub param : (old : Param) {n : Node} {annotation : Option Annotation} {default : Option Expr} {first a b next : ℕ}
    → NumbersNode first old.node n a → NumbersOptionalAnnotation a old.annotation annotation b → NumbersOptionalExpr b old.default default next
    → NumbersParam first old (record { node = n; name = old.name; annotation = annotation; default = default }) next
param old {n} {annotation} {default} {first} {a} {b} {next} own its_annotation its_default =
    numbers_by (cc) (takes_node own (takes_parts (of_optional_annotation before_parts annotation) (of_optional_expr before_parts default) (takes its_annotation) (takes its_default)))

pub function : (old : Function) {n : Node} {name : Name} {params : List Param} {result : Option Annotation} {body : List Stmt} {first a b c d next : ℕ}
    → NumbersNode first old.node n a → NumbersName a old.name name b → NumbersParams b old.params params c → NumbersOptionalAnnotation c old.result result d → NumbersStmts d old.body body next
    → NumbersFunction first old (record { node = n; name = name; params = params; result = result; body = body }) next
function old {n} {name} {params} {result} {body} {first} {a} {b} {c} {d} {next} own its_name its_params its_result its_body =
    let types = takes_parts (map nodes_of_param params) (of_optional_annotation before_parts result) (takes its_params) (takes its_result) in
    let all = takes_parts (map nodes_of_param params ++ of_optional_annotation before_parts result) (map nodes_of_stmt body) types (takes its_body) in
    numbers_by (cc) (takes_node own (takes_both (takes its_name) all))

pub class : (old : Class) {n : Node} {name : Name} {members : List Member} {first a b next : ℕ}
    → NumbersNode first old.node n a → NumbersName a old.name name b → NumbersMembers b old.members members next
    → NumbersClass first old (record { node = n; name = name; members = members }) next
class old {n} {name} {members} {first} {a} {b} {next} own its_name its_members = numbers_by (cc) (takes_node own (takes_both (takes its_name) (takes its_members)))

pub module_same : (old : Source) {items : List Item} {first next : ℕ} → NumbersItems first old.items items next → bare_module (record { items = items }) ≡ bare_module old
module_same old h = let same = h.same in cc
