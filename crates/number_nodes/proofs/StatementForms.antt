-- The forms of statements have their numbers where their parts have.
use Rattle.std.proofs.Common.{◌≡◌, ℕ, List, ◌∷◌, map, Option, ap, ◌∙◌}
use Rattle.std.specs.List.{flat_map}
use Rattle.source_trees.specs.declared.operator.BinaryOp.{BinaryOp}
use Rattle.source_trees.specs.declared.node.Node.{Node}
use Rattle.source_trees.specs.declared.node.Name.{Name}
use Rattle.source_trees.specs.declared.expression.Expr.{Expr}
use Rattle.source_trees.specs.declared.statement.LoopNames.{LoopNames}
use Rattle.source_trees.specs.declared.statement.ParOptions.{ParOptions}
use Rattle.source_trees.specs.declared.statement.Target.{Target}
use Rattle.source_trees.specs.declared.statement.Targets.{Targets}
use Rattle.source_trees.specs.declared.statement.Stmt.{Stmt}
use Rattle.source_trees.specs.declared.statement.Stmt.TheVariants as stmt
use Rattle.source_trees.specs.declared.statement.Arm.{Arm}
use Rattle.source_trees.specs.declared.statement.For.{For}
use Rattle.source_trees.specs.declared.pipeline.Printed.{Printed}
use Rattle.source_trees.specs.declared.pipeline.Stage.{Stage}
use Rattle.source_trees.specs.declared.item.Annotation.{Annotation}
use Rattle.source_trees.specs.Parts.{of_arm, of_loop_names}
use Rattle.source_trees.specs.Nodes.{joined, before_parts, nodes_of_expr, nodes_of_stmt}
use Rattle.source_trees.specs.Bare.{bare_stmt}
use Rattle.source_trees.proofs.Equations as parts
use Rattle.number_nodes.specs.Numbers.{NumbersNode, NumbersName, NumbersLoopNames, NumbersExpr, NumbersOptionalExpr, NumbersAnnotation, NumbersTarget, NumbersTargets, NumbersPrinted, NumbersStages, NumbersStmt, NumbersStmts, NumbersArm, NumbersArms, NumbersFor}
use Rattle.source_trees.proofs.BareForms as bare
use Rattle.number_nodes.proofs.Taking.{takes, numbers_by, takes_none, takes_node, takes_both, takes_same, takes_last, takes_parts, takes_arms}

pub stmt_Pass : {whole : Stmt} {n m : Node} {first next : ℕ}
    → whole ≡ stmt.Pass n → NumbersNode first n m next → NumbersStmt first whole (stmt.Pass m) next
stmt_Pass {whole} {n} {m} {first} {next} is own =
    let old = ap bare_stmt is ∙ bare.stmt_Pass n in
    let new = bare.stmt_Pass m in
    numbers_by (cc) (takes_same (takes_node own (takes_none next)) (parts.stmt_Pass before_parts m))

pub stmt_Break : {whole : Stmt} {n m : Node} {first next : ℕ}
    → whole ≡ stmt.Break n → NumbersNode first n m next → NumbersStmt first whole (stmt.Break m) next
stmt_Break {whole} {n} {m} {first} {next} is own =
    let old = ap bare_stmt is ∙ bare.stmt_Break n in
    let new = bare.stmt_Break m in
    numbers_by (cc) (takes_same (takes_node own (takes_none next)) (parts.stmt_Break before_parts m))

pub stmt_Continue : {whole : Stmt} {n m : Node} {first next : ℕ}
    → whole ≡ stmt.Continue n → NumbersNode first n m next → NumbersStmt first whole (stmt.Continue m) next
stmt_Continue {whole} {n} {m} {first} {next} is own =
    let old = ap bare_stmt is ∙ bare.stmt_Continue n in
    let new = bare.stmt_Continue m in
    numbers_by (cc) (takes_same (takes_node own (takes_none next)) (parts.stmt_Continue before_parts m))

pub stmt_Return : {whole : Stmt} {n m : Node} {value value' : Option Expr} {first a next : ℕ}
    → whole ≡ stmt.Return n value → NumbersNode first n m a → NumbersOptionalExpr a value value' next → NumbersStmt first whole (stmt.Return m value') next
stmt_Return {whole} {n} {m} {value} {value'} {first} {a} {next} is own its_value =
    let old = ap bare_stmt is ∙ bare.stmt_Return n value in
    let new = bare.stmt_Return m value' in
    numbers_by (cc) (takes_same (takes_node own (takes its_value)) (parts.stmt_Return before_parts m value'))

pub stmt_Yield : {whole : Stmt} {n m : Node} {value value' : Expr} {first a next : ℕ}
    → whole ≡ stmt.Yield n value → NumbersNode first n m a → NumbersExpr a value value' next → NumbersStmt first whole (stmt.Yield m value') next
stmt_Yield {whole} {n} {m} {value} {value'} {first} {a} {next} is own its_value =
    let old = ap bare_stmt is ∙ bare.stmt_Yield n value in
    let new = bare.stmt_Yield m value' in
    numbers_by (cc) (takes_same (takes_node own (takes_last (takes its_value))) (parts.stmt_Yield before_parts m value'))

pub stmt_Raise : {whole : Stmt} {n m : Node} {name name' : Name} {text text' : Option Expr} {first a b next : ℕ}
    → whole ≡ stmt.Raise n name text → NumbersNode first n m a → NumbersName a name name' b → NumbersOptionalExpr b text text' next → NumbersStmt first whole (stmt.Raise m name' text') next
stmt_Raise {whole} {n} {m} {name} {name'} {text} {text'} {first} {a} {b} {next} is own its_name its_text =
    let old = ap bare_stmt is ∙ bare.stmt_Raise n name text in
    let new = bare.stmt_Raise m name' text' in
    numbers_by (cc) (takes_same (takes_node own (takes_both (takes its_name) (takes its_text))) (parts.stmt_Raise before_parts m name' text'))

pub stmt_Assert : {whole : Stmt} {n m : Node} {condition condition' : Expr} {text text' : Option Expr} {first a b next : ℕ}
    → whole ≡ stmt.Assert n condition text → NumbersNode first n m a → NumbersExpr a condition condition' b → NumbersOptionalExpr b text text' next → NumbersStmt first whole (stmt.Assert m condition' text') next
stmt_Assert {whole} {n} {m} {condition} {condition'} {text} {text'} {first} {a} {b} {next} is own its_condition its_text =
    let old = ap bare_stmt is ∙ bare.stmt_Assert n condition text in
    let new = bare.stmt_Assert m condition' text' in
    numbers_by (cc) (takes_same (takes_node own (takes_both (takes its_condition) (takes its_text))) (parts.stmt_Assert before_parts m condition' text'))

pub stmt_Annotated : {whole : Stmt} {n m : Node} {name name' : Name} {type type' : Annotation} {value value' : Option Expr} {first a b c next : ℕ}
    → whole ≡ stmt.Annotated n name type value → NumbersNode first n m a → NumbersName a name name' b → NumbersAnnotation b type type' c → NumbersOptionalExpr c value value' next → NumbersStmt first whole (stmt.Annotated m name' type' value') next
stmt_Annotated {whole} {n} {m} {name} {name'} {type} {type'} {value} {value'} {first} {a} {b} {c} {next} is own its_name its_type its_value =
    let old = ap bare_stmt is ∙ bare.stmt_Annotated n name type value in
    let new = bare.stmt_Annotated m name' type' value' in
    numbers_by (cc) (takes_same (takes_node own (takes_both (takes its_name) (takes_both (takes its_type) (takes its_value)))) (parts.stmt_Annotated before_parts m name' type' value'))

pub stmt_Assign : {whole : Stmt} {n m : Node} {written written' : Targets} {value value' : Expr} {first a b next : ℕ}
    → whole ≡ stmt.Assign n written value → NumbersNode first n m a → NumbersTargets a written written' b → NumbersExpr b value value' next → NumbersStmt first whole (stmt.Assign m written' value') next
stmt_Assign {whole} {n} {m} {written} {written'} {value} {value'} {first} {a} {b} {next} is own its_written its_value =
    let old = ap bare_stmt is ∙ bare.stmt_Assign n written value in
    let new = bare.stmt_Assign m written' value' in
    numbers_by (cc) (takes_same (takes_node own (takes_both (takes its_written) (takes_last (takes its_value)))) (parts.stmt_Assign before_parts m written' value'))

pub stmt_Update : {whole : Stmt} {n m : Node} {written written' : Target} {op : BinaryOp} {value value' : Expr} {first a b next : ℕ}
    → whole ≡ stmt.Update n written op value → NumbersNode first n m a → NumbersTarget a written written' b → NumbersExpr b value value' next → NumbersStmt first whole (stmt.Update m written' op value') next
stmt_Update {whole} {n} {m} {written} {written'} {op} {value} {value'} {first} {a} {b} {next} is own its_written its_value =
    let old = ap bare_stmt is ∙ bare.stmt_Update n written op value in
    let new = bare.stmt_Update m written' op value' in
    numbers_by (cc) (takes_same (takes_node own (takes_both (takes its_written) (takes_last (takes its_value)))) (parts.stmt_Update before_parts m written' op value'))

pub stmt_Evaluate : {whole : Stmt} {n m : Node} {value value' : Expr} {first a next : ℕ}
    → whole ≡ stmt.Evaluate n value → NumbersNode first n m a → NumbersExpr a value value' next → NumbersStmt first whole (stmt.Evaluate m value') next
stmt_Evaluate {whole} {n} {m} {value} {value'} {first} {a} {next} is own its_value =
    let old = ap bare_stmt is ∙ bare.stmt_Evaluate n value in
    let new = bare.stmt_Evaluate m value' in
    numbers_by (cc) (takes_same (takes_node own (takes_last (takes its_value))) (parts.stmt_Evaluate before_parts m value'))

pub stmt_Print : {whole : Stmt} {n m : Node} {printed printed' : Printed} {first a next : ℕ}
    → whole ≡ stmt.Print n printed → NumbersNode first n m a → NumbersPrinted a printed printed' next → NumbersStmt first whole (stmt.Print m printed') next
stmt_Print {whole} {n} {m} {printed} {printed'} {first} {a} {next} is own its_printed =
    let old = ap bare_stmt is ∙ bare.stmt_Print n printed in
    let new = bare.stmt_Print m printed' in
    numbers_by (cc) (takes_same (takes_node own (takes its_printed)) (parts.stmt_Print before_parts m printed'))

pub stmt_Pipeline : {whole : Stmt} {n m : Node} {head head' : Expr} {stages stages' : List Stage} {first a b next : ℕ}
    → whole ≡ stmt.Pipeline n head stages → NumbersNode first n m a → NumbersExpr a head head' b → NumbersStages b stages stages' next → NumbersStmt first whole (stmt.Pipeline m head' stages') next
stmt_Pipeline {whole} {n} {m} {head} {head'} {stages} {stages'} {first} {a} {b} {next} is own its_head its_stages =
    let old = ap bare_stmt is ∙ bare.stmt_Pipeline n head stages in
    let new = bare.stmt_Pipeline m head' stages' in
    numbers_by (cc) (takes_same (takes_node own (takes_both (takes its_head) (takes its_stages))) (parts.stmt_Pipeline before_parts m head' stages'))

pub stmt_If : {whole : Stmt} {n m : Node} {arms arms' : List Arm} {otherwise otherwise' : List Stmt} {first a b next : ℕ}
    → whole ≡ stmt.If n arms otherwise → NumbersNode first n m a → NumbersArms a arms arms' b → NumbersStmts b otherwise otherwise' next → NumbersStmt first whole (stmt.If m arms' otherwise') next
stmt_If {whole} {n} {m} {arms} {arms'} {otherwise} {otherwise'} {first} {a} {b} {next} is own its_arms its_otherwise =
    let old = ap bare_stmt is ∙ bare.stmt_If n arms otherwise in
    let new = bare.stmt_If m arms' otherwise' in
    numbers_by (cc) (takes_same (takes_node own (takes_parts (flat_map (λ arm. arm) (map (of_arm before_parts) arms')) (map nodes_of_stmt otherwise') (takes_arms arms' (takes its_arms)) (takes its_otherwise))) (parts.stmt_If before_parts m arms' otherwise'))

pub stmt_While : {whole : Stmt} {n m : Node} {condition condition' : Expr} {body body' : List Stmt} {first a b next : ℕ}
    → whole ≡ stmt.While n condition body → NumbersNode first n m a → NumbersExpr a condition condition' b → NumbersStmts b body body' next → NumbersStmt first whole (stmt.While m condition' body') next
stmt_While {whole} {n} {m} {condition} {condition'} {body} {body'} {first} {a} {b} {next} is own its_condition its_body =
    let old = ap bare_stmt is ∙ bare.stmt_While n condition body in
    let new = bare.stmt_While m condition' body' in
    numbers_by (cc) (takes_same (takes_node own (takes_both (takes its_condition) (takes its_body))) (parts.stmt_While before_parts m condition' body'))

pub stmt_Par : {whole : Stmt} {n m : Node} {settings : ParOptions} {loop loop' : For} {first a next : ℕ}
    → whole ≡ stmt.Par n settings loop → NumbersNode first n m a → NumbersFor a loop loop' next → NumbersStmt first whole (stmt.Par m settings loop') next
stmt_Par {whole} {n} {m} {settings} {loop} {loop'} {first} {a} {next} is own its_loop =
    let old = ap bare_stmt is ∙ bare.stmt_Par n settings loop in
    let new = bare.stmt_Par m settings loop' in
    numbers_by (cc) (takes_same (takes_node own (takes_last (takes its_loop))) (parts.stmt_Par before_parts m settings loop'))

pub stmt_For : {whole : Stmt} {loop loop' : For} {first next : ℕ} → whole ≡ stmt.For loop → NumbersFor first loop loop' next → NumbersStmt first whole (stmt.For loop') next
stmt_For {whole} {loop} {loop'} {first} {next} is its_loop =
    let old = ap bare_stmt is ∙ bare.stmt_For loop in
    let new = bare.stmt_For loop' in
    numbers_by (cc) (takes_same (takes its_loop) (parts.stmt_For before_parts loop'))

-- ---- structs

pub arm : (old : Arm) {condition : Expr} {body : List Stmt} {first a next : ℕ}
    → NumbersExpr first old.condition condition a → NumbersStmts a old.body body next → NumbersArm first old (record { condition = condition; body = body }) next
arm old {condition} {body} {first} {a} {next} its_condition its_body =
    let made : Arm = record { condition = condition; body = body } in
    let was = bare.arm_is old in
    let is = bare.arm_is made in
    numbers_by (cc) (takes_same (takes_both (takes its_condition) (takes its_body)) (ap joined (parts.arm_is before_parts made)))

pub for_loop : (old : For) {n : Node} {names : LoopNames} {iterable : Expr} {body : List Stmt} {first a b c next : ℕ}
    → NumbersNode first old.node n a → NumbersLoopNames a old.names names b → NumbersExpr b old.iterable iterable c → NumbersStmts c old.body body next
    → NumbersFor first old (record { node = n; names = names; iterable = iterable; body = body }) next
for_loop old {n} {names} {iterable} {body} {first} {a} {b} {c} {next} own its_names its_iterable its_body =
    let made : For = record { node = n; names = names; iterable = iterable; body = body } in
    let was = bare.for_is old in
    let is = bare.for_is made in
    let all = takes_parts (of_loop_names before_parts names) (nodes_of_expr iterable ∷ map nodes_of_stmt body) (takes its_names) (takes_both (takes its_iterable) (takes its_body)) in
    numbers_by (cc) (takes_same (takes_node own all) (parts.for_is before_parts made))
