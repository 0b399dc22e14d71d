-- The forms of expressions have their numbers where their parts have.
use Rattle.std.proofs.Common.{◌≡◌, ℕ, ℤ, List, ◌∷◌, Option, Some, None, ap, sym, ◌∙◌}
use Rattle.std.specs.Option.{option_map}
use Rattle.source_trees.specs.declared.operator.UnaryOp.{UnaryOp}
use Rattle.source_trees.specs.declared.operator.BinaryOp.{BinaryOp}
use Rattle.source_trees.specs.declared.node.Node.{Node}
use Rattle.source_trees.specs.declared.node.Name.{Name}
use Rattle.source_trees.specs.declared.expression.Commas.{Commas}
use Rattle.source_trees.specs.declared.expression.Expr.{Expr}
use Rattle.source_trees.specs.declared.expression.Expr.TheVariants as expr
use Rattle.source_trees.specs.declared.expression.Comparison.{Comparison}
use Rattle.source_trees.specs.declared.statement.LoopNames.{LoopNames}
use Rattle.source_trees.specs.Parts.{optional, of_loop_names}
use Rattle.source_trees.specs.Nodes.{before_parts, nodes_of_expr}
use Rattle.source_trees.specs.Bare.{bare_expr, bare_optional}
use Rattle.source_trees.proofs.Equations as parts
use Rattle.number_nodes.specs.Numbers.{NumbersNode, NumbersName, NumbersLoopNames, NumbersExpr, NumbersExprs, NumbersOptionalExpr, NumbersComparison, NumbersComparisons}
use Rattle.source_trees.proofs.BareForms as bare
use Rattle.number_nodes.proofs.Taking.{takes, numbers_by, takes_none, takes_node, takes_both, takes_same, takes_last, takes_parts, takes_option}

pub expr_Name : {whole : Expr} {n m : Node} {spelling : List ℕ} {first next : ℕ}
    → whole ≡ expr.Name n spelling → NumbersNode first n m next → NumbersExpr first whole (expr.Name m spelling) next
expr_Name {whole} {n} {m} {spelling} {first} {next} is own =
    let old = ap bare_expr is ∙ bare.expr_Name n spelling in
    let new = bare.expr_Name m spelling in
    numbers_by (cc) (takes_same (takes_node own (takes_none next)) (parts.expr_Name before_parts m spelling))

pub expr_Number : {whole : Expr} {n m : Node} {number : ℤ} {first next : ℕ}
    → whole ≡ expr.Number n number → NumbersNode first n m next → NumbersExpr first whole (expr.Number m number) next
expr_Number {whole} {n} {m} {number} {first} {next} is own =
    let old = ap bare_expr is ∙ bare.expr_Number n number in
    let new = bare.expr_Number m number in
    numbers_by (cc) (takes_same (takes_node own (takes_none next)) (parts.expr_Number before_parts m number))

pub expr_Text : {whole : Expr} {n m : Node} {text : List ℕ} {first next : ℕ}
    → whole ≡ expr.Text n text → NumbersNode first n m next → NumbersExpr first whole (expr.Text m text) next
expr_Text {whole} {n} {m} {text} {first} {next} is own =
    let old = ap bare_expr is ∙ bare.expr_Text n text in
    let new = bare.expr_Text m text in
    numbers_by (cc) (takes_same (takes_node own (takes_none next)) (parts.expr_Text before_parts m text))

pub expr_True : {whole : Expr} {n m : Node} {first next : ℕ}
    → whole ≡ expr.True n → NumbersNode first n m next → NumbersExpr first whole (expr.True m) next
expr_True {whole} {n} {m} {first} {next} is own =
    let old = ap bare_expr is ∙ bare.expr_True n in
    let new = bare.expr_True m in
    numbers_by (cc) (takes_same (takes_node own (takes_none next)) (parts.expr_True before_parts m))

pub expr_False : {whole : Expr} {n m : Node} {first next : ℕ}
    → whole ≡ expr.False n → NumbersNode first n m next → NumbersExpr first whole (expr.False m) next
expr_False {whole} {n} {m} {first} {next} is own =
    let old = ap bare_expr is ∙ bare.expr_False n in
    let new = bare.expr_False m in
    numbers_by (cc) (takes_same (takes_node own (takes_none next)) (parts.expr_False before_parts m))

pub expr_None : {whole : Expr} {n m : Node} {first next : ℕ}
    → whole ≡ expr.None n → NumbersNode first n m next → NumbersExpr first whole (expr.None m) next
expr_None {whole} {n} {m} {first} {next} is own =
    let old = ap bare_expr is ∙ bare.expr_None n in
    let new = bare.expr_None m in
    numbers_by (cc) (takes_same (takes_node own (takes_none next)) (parts.expr_None before_parts m))

pub expr_Bracketed : {whole : Expr} {n m : Node} {inner inner' : Expr} {first a next : ℕ}
    → whole ≡ expr.Bracketed n inner → NumbersNode first n m a → NumbersExpr a inner inner' next → NumbersExpr first whole (expr.Bracketed m inner') next
expr_Bracketed {whole} {n} {m} {inner} {inner'} {first} {a} {next} is own its_inner =
    let old = ap bare_expr is ∙ bare.expr_Bracketed n inner in
    let new = bare.expr_Bracketed m inner' in
    numbers_by (cc) (takes_same (takes_node own (takes_last (takes its_inner))) (parts.expr_Bracketed before_parts m inner'))

pub expr_Tuple : {whole : Expr} {n m : Node} {commas : Commas} {items items' : List Expr} {first a next : ℕ}
    → whole ≡ expr.Tuple n commas items → NumbersNode first n m a → NumbersExprs a items items' next → NumbersExpr first whole (expr.Tuple m commas items') next
expr_Tuple {whole} {n} {m} {commas} {items} {items'} {first} {a} {next} is own its_items =
    let old = ap bare_expr is ∙ bare.expr_Tuple n commas items in
    let new = bare.expr_Tuple m commas items' in
    numbers_by (cc) (takes_same (takes_node own (takes its_items)) (parts.expr_Tuple before_parts m commas items'))

pub expr_List : {whole : Expr} {n m : Node} {items items' : List Expr} {first a next : ℕ}
    → whole ≡ expr.List n items → NumbersNode first n m a → NumbersExprs a items items' next → NumbersExpr first whole (expr.List m items') next
expr_List {whole} {n} {m} {items} {items'} {first} {a} {next} is own its_items =
    let old = ap bare_expr is ∙ bare.expr_List n items in
    let new = bare.expr_List m items' in
    numbers_by (cc) (takes_same (takes_node own (takes its_items)) (parts.expr_List before_parts m items'))

pub expr_Comprehension : {whole : Expr} {n m : Node} {item item' : Expr} {names names' : LoopNames} {iterable iterable' : Expr} {condition condition' : Option Expr} {first a b c d next : ℕ}
    → whole ≡ expr.Comprehension n item names iterable condition → NumbersNode first n m a → NumbersExpr a item item' b → NumbersLoopNames b names names' c → NumbersExpr c iterable iterable' d → NumbersOptionalExpr d condition condition' next → NumbersExpr first whole (expr.Comprehension m item' names' iterable' condition') next
expr_Comprehension {whole} {n} {m} {item} {item'} {names} {names'} {iterable} {iterable'} {condition} {condition'} {first} {a} {b} {c} {d} {next} is own its_item its_names its_iterable its_condition =
    let old = ap bare_expr is ∙ bare.expr_Comprehension n item names iterable condition in
    let new = bare.expr_Comprehension m item' names' iterable' condition' in
    numbers_by (cc) (takes_same (takes_node own (takes_both (takes its_item) (takes_parts (of_loop_names before_parts names') (nodes_of_expr iterable' ∷ optional (option_map nodes_of_expr condition')) (takes its_names) (takes_both (takes its_iterable) (takes_option condition' (takes its_condition)))))) (parts.expr_Comprehension before_parts m item' names' iterable' condition'))

pub expr_Conditional : {whole : Expr} {n m : Node} {value value' condition condition' other other' : Expr} {first a b c next : ℕ}
    → whole ≡ expr.Conditional n value condition other → NumbersNode first n m a → NumbersExpr a value value' b → NumbersExpr b condition condition' c → NumbersExpr c other other' next → NumbersExpr first whole (expr.Conditional m value' condition' other') next
expr_Conditional {whole} {n} {m} {value} {value'} {condition} {condition'} {other} {other'} {first} {a} {b} {c} {next} is own its_value its_condition its_other =
    let old = ap bare_expr is ∙ bare.expr_Conditional n value condition other in
    let new = bare.expr_Conditional m value' condition' other' in
    numbers_by (cc) (takes_same (takes_node own (takes_both (takes its_value) (takes_both (takes its_condition) (takes_last (takes its_other))))) (parts.expr_Conditional before_parts m value' condition' other'))

pub expr_Or : {whole : Expr} {n m : Node} {operands operands' : List Expr} {first a next : ℕ}
    → whole ≡ expr.Or n operands → NumbersNode first n m a → NumbersExprs a operands operands' next → NumbersExpr first whole (expr.Or m operands') next
expr_Or {whole} {n} {m} {operands} {operands'} {first} {a} {next} is own its_operands =
    let old = ap bare_expr is ∙ bare.expr_Or n operands in
    let new = bare.expr_Or m operands' in
    numbers_by (cc) (takes_same (takes_node own (takes its_operands)) (parts.expr_Or before_parts m operands'))

pub expr_And : {whole : Expr} {n m : Node} {operands operands' : List Expr} {first a next : ℕ}
    → whole ≡ expr.And n operands → NumbersNode first n m a → NumbersExprs a operands operands' next → NumbersExpr first whole (expr.And m operands') next
expr_And {whole} {n} {m} {operands} {operands'} {first} {a} {next} is own its_operands =
    let old = ap bare_expr is ∙ bare.expr_And n operands in
    let new = bare.expr_And m operands' in
    numbers_by (cc) (takes_same (takes_node own (takes its_operands)) (parts.expr_And before_parts m operands'))

pub expr_Not : {whole : Expr} {n m : Node} {operand operand' : Expr} {first a next : ℕ}
    → whole ≡ expr.Not n operand → NumbersNode first n m a → NumbersExpr a operand operand' next → NumbersExpr first whole (expr.Not m operand') next
expr_Not {whole} {n} {m} {operand} {operand'} {first} {a} {next} is own its_operand =
    let old = ap bare_expr is ∙ bare.expr_Not n operand in
    let new = bare.expr_Not m operand' in
    numbers_by (cc) (takes_same (takes_node own (takes_last (takes its_operand))) (parts.expr_Not before_parts m operand'))

pub expr_Compare : {whole : Expr} {n m : Node} {head head' : Expr} {others others' : List Comparison} {first a b next : ℕ}
    → whole ≡ expr.Compare n head others → NumbersNode first n m a → NumbersExpr a head head' b → NumbersComparisons b others others' next → NumbersExpr first whole (expr.Compare m head' others') next
expr_Compare {whole} {n} {m} {head} {head'} {others} {others'} {first} {a} {b} {next} is own its_head its_others =
    let old = ap bare_expr is ∙ bare.expr_Compare n head others in
    let new = bare.expr_Compare m head' others' in
    numbers_by (cc) (takes_same (takes_node own (takes_both (takes its_head) (takes its_others))) (parts.expr_Compare before_parts m head' others'))

pub expr_Unary : {whole : Expr} {n m : Node} {op : UnaryOp} {operand operand' : Expr} {first a next : ℕ}
    → whole ≡ expr.Unary n op operand → NumbersNode first n m a → NumbersExpr a operand operand' next → NumbersExpr first whole (expr.Unary m op operand') next
expr_Unary {whole} {n} {m} {op} {operand} {operand'} {first} {a} {next} is own its_operand =
    let old = ap bare_expr is ∙ bare.expr_Unary n op operand in
    let new = bare.expr_Unary m op operand' in
    numbers_by (cc) (takes_same (takes_node own (takes_last (takes its_operand))) (parts.expr_Unary before_parts m op operand'))

pub expr_Binary : {whole : Expr} {n m : Node} {op : BinaryOp} {left left' right right' : Expr} {first a b next : ℕ}
    → whole ≡ expr.Binary n op left right → NumbersNode first n m a → NumbersExpr a left left' b → NumbersExpr b right right' next → NumbersExpr first whole (expr.Binary m op left' right') next
expr_Binary {whole} {n} {m} {op} {left} {left'} {right} {right'} {first} {a} {b} {next} is own its_left its_right =
    let old = ap bare_expr is ∙ bare.expr_Binary n op left right in
    let new = bare.expr_Binary m op left' right' in
    numbers_by (cc) (takes_same (takes_node own (takes_both (takes its_left) (takes_last (takes its_right)))) (parts.expr_Binary before_parts m op left' right'))

pub expr_Call : {whole : Expr} {n m : Node} {name name' : Name} {arguments arguments' : List Expr} {first a b next : ℕ}
    → whole ≡ expr.Call n name arguments → NumbersNode first n m a → NumbersName a name name' b → NumbersExprs b arguments arguments' next → NumbersExpr first whole (expr.Call m name' arguments') next
expr_Call {whole} {n} {m} {name} {name'} {arguments} {arguments'} {first} {a} {b} {next} is own its_name its_arguments =
    let old = ap bare_expr is ∙ bare.expr_Call n name arguments in
    let new = bare.expr_Call m name' arguments' in
    numbers_by (cc) (takes_same (takes_node own (takes_both (takes its_name) (takes its_arguments))) (parts.expr_Call before_parts m name' arguments'))

pub expr_MethodCall : {whole : Expr} {n m method method' : Node} {object object' : Expr} {name : List ℕ} {arguments arguments' : List Expr} {first a b c next : ℕ}
    → whole ≡ expr.MethodCall n method object name arguments → NumbersNode first n m a → NumbersNode a method method' b → NumbersExpr b object object' c → NumbersExprs c arguments arguments' next → NumbersExpr first whole (expr.MethodCall m method' object' name arguments') next
expr_MethodCall {whole} {n} {m} {method} {method'} {object} {object'} {name} {arguments} {arguments'} {first} {a} {b} {c} {next} is own its_method its_object its_arguments =
    let old = ap bare_expr is ∙ bare.expr_MethodCall n method object name arguments in
    let new = bare.expr_MethodCall m method' object' name arguments' in
    numbers_by (cc) (takes_same (takes_node own (takes_both (takes_node its_method (takes_last (takes its_object))) (takes its_arguments))) (parts.expr_MethodCall before_parts m method' object' name arguments'))

pub expr_Index : {whole : Expr} {n m : Node} {object object' index index' : Expr} {first a b next : ℕ}
    → whole ≡ expr.Index n object index → NumbersNode first n m a → NumbersExpr a object object' b → NumbersExpr b index index' next → NumbersExpr first whole (expr.Index m object' index') next
expr_Index {whole} {n} {m} {object} {object'} {index} {index'} {first} {a} {b} {next} is own its_object its_index =
    let old = ap bare_expr is ∙ bare.expr_Index n object index in
    let new = bare.expr_Index m object' index' in
    numbers_by (cc) (takes_same (takes_node own (takes_both (takes its_object) (takes_last (takes its_index)))) (parts.expr_Index before_parts m object' index'))

pub expr_Slice : {whole : Expr} {n m : Node} {object object' : Expr} {from from' to to' : Option Expr} {first a b c next : ℕ}
    → whole ≡ expr.Slice n object from to → NumbersNode first n m a → NumbersExpr a object object' b → NumbersOptionalExpr b from from' c → NumbersOptionalExpr c to to' next → NumbersExpr first whole (expr.Slice m object' from' to') next
expr_Slice {whole} {n} {m} {object} {object'} {from} {from'} {to} {to'} {first} {a} {b} {c} {next} is own its_object its_from its_to =
    let old = ap bare_expr is ∙ bare.expr_Slice n object from to in
    let new = bare.expr_Slice m object' from' to' in
    numbers_by (cc) (takes_same (takes_node own (takes_both (takes its_object) (takes_parts (optional (option_map nodes_of_expr from')) (optional (option_map nodes_of_expr to')) (takes_option from' (takes its_from)) (takes_option to' (takes its_to))))) (parts.expr_Slice before_parts m object' from' to'))

pub expr_Field : {whole : Expr} {n m : Node} {object object' : Expr} {name : List ℕ} {first a next : ℕ}
    → whole ≡ expr.Field n object name → NumbersNode first n m a → NumbersExpr a object object' next → NumbersExpr first whole (expr.Field m object' name) next
expr_Field {whole} {n} {m} {object} {object'} {name} {first} {a} {next} is own its_object =
    let old = ap bare_expr is ∙ bare.expr_Field n object name in
    let new = bare.expr_Field m object' name in
    numbers_by (cc) (takes_same (takes_node own (takes_last (takes its_object))) (parts.expr_Field before_parts m object' name))

-- ---- parts

pub optional_some : {whole : Option Expr} {e e' : Expr} {first next : ℕ} → whole ≡ Some e → NumbersExpr first e e' next → NumbersOptionalExpr first whole (Some e') next
optional_some {whole} {e} {e'} {first} {next} is h =
    numbers_by (let own = h.same in ap Some own ∙ sym (ap (bare_optional bare_expr) is)) (takes_last (takes h))

pub optional_none : {whole : Option Expr} {first : ℕ} → whole ≡ None → NumbersOptionalExpr first whole None first
optional_none {whole} {first} is = numbers_by (sym (ap (bare_optional bare_expr) is)) (takes_none first)

pub comparison : (old : Comparison) {right : Expr} {first next : ℕ} → NumbersExpr first old.right right next → NumbersComparison first old (record { comparator = old.comparator; right = right }) next
comparison old {right} {first} {next} h =
    let new : Comparison = record { comparator = old.comparator; right = right } in
    let was = bare.comparison_is old in
    let is = bare.comparison_is new in
    let same = h.same in
    numbers_by (is ∙ (ap (λ (e : Expr). record { comparator = old.comparator; right = e }) same ∙ sym was)) (takes_same (takes h) (parts.comparison_is before_parts new))
