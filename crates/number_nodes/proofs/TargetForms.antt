-- The forms of what is assigned to, and of the names of loops, have their numbers where their parts have.
use Rattle.std.proofs.Common.{◌≡◌, ℕ, List, map, ap}
use Rattle.source_trees.specs.declared.node.Node.{Node}
use Rattle.source_trees.specs.declared.node.Name.{Name}
use Rattle.source_trees.specs.declared.expression.Expr.{Expr}
use Rattle.source_trees.specs.declared.statement.LoopNames.{LoopNames}
use Rattle.source_trees.specs.declared.statement.LoopNames.TheVariants as names
use Rattle.source_trees.specs.declared.statement.Target.{Target}
use Rattle.source_trees.specs.declared.statement.Target.TheVariants as target
use Rattle.source_trees.specs.declared.statement.Targets.{Targets}
use Rattle.source_trees.specs.declared.statement.Targets.TheVariants as targets
use Rattle.source_trees.specs.Bare.{bare, bare_name, bare_loop_names, bare_expr, bare_target, bare_targets}
use Rattle.number_nodes.specs.Numbers.{NumbersNode, NumbersName, NumbersNames, NumbersLoopNames, NumbersExpr, NumbersTarget, NumbersTargetList, NumbersTargets}
use Rattle.number_nodes.proofs.Taking.{takes, numbers_by, takes_none, takes_node, takes_both, takes_last}

pub names_One : {whole : LoopNames} {name name' : Name} {first next : ℕ}
    → whole ≡ names.One name → NumbersName first name name' next → NumbersLoopNames first whole (names.One name') next
names_One {whole} {name} {name'} {first} {next} is its_name =
    let old : bare_loop_names whole ≡ names.One (bare_name name) = ap bare_loop_names is in
    numbers_by (cc) (takes_last (takes its_name))

pub names_Several : {whole : LoopNames} {all all' : List Name} {first next : ℕ}
    → whole ≡ names.Several all → NumbersNames first all all' next → NumbersLoopNames first whole (names.Several all') next
names_Several {whole} {all} {all'} {first} {next} is its_all =
    let old : bare_loop_names whole ≡ names.Several (map bare_name all) = ap bare_loop_names is in
    numbers_by (cc) (takes its_all)

pub target_Name : {whole : Target} {n m : Node} {spelling : List ℕ} {first next : ℕ}
    → whole ≡ target.Name n spelling → NumbersNode first n m next → NumbersTarget first whole (target.Name m spelling) next
target_Name {whole} {n} {m} {spelling} {first} {next} is own =
    let old : bare_target whole ≡ target.Name (bare n) spelling = ap bare_target is in
    numbers_by (cc) (takes_node own (takes_none next))

pub target_Index : {whole : Target} {n m : Node} {object object' index index' : Expr} {first a b next : ℕ}
    → whole ≡ target.Index n object index → NumbersNode first n m a → NumbersExpr a object object' b → NumbersExpr b index index' next → NumbersTarget first whole (target.Index m object' index') next
target_Index {whole} {n} {m} {object} {object'} {index} {index'} {first} {a} {b} {next} is own its_object its_index =
    let old : bare_target whole ≡ target.Index (bare n) (bare_expr object) (bare_expr index) = ap bare_target is in
    numbers_by (cc) (takes_node own (takes_both (takes its_object) (takes_last (takes its_index))))

pub target_Field : {whole : Target} {n m : Node} {object object' : Expr} {name : List ℕ} {first a next : ℕ}
    → whole ≡ target.Field n object name → NumbersNode first n m a → NumbersExpr a object object' next → NumbersTarget first whole (target.Field m object' name) next
target_Field {whole} {n} {m} {object} {object'} {name} {first} {a} {next} is own its_object =
    let old : bare_target whole ≡ target.Field (bare n) (bare_expr object) name = ap bare_target is in
    numbers_by (cc) (takes_node own (takes_last (takes its_object)))

pub targets_One : {whole : Targets} {only only' : Target} {first next : ℕ}
    → whole ≡ targets.One only → NumbersTarget first only only' next → NumbersTargets first whole (targets.One only') next
targets_One {whole} {only} {only'} {first} {next} is its_only =
    let old : bare_targets whole ≡ targets.One (bare_target only) = ap bare_targets is in
    numbers_by (cc) (takes its_only)

pub targets_Several : {whole : Targets} {n m : Node} {all all' : List Target} {first a next : ℕ}
    → whole ≡ targets.Several n all → NumbersNode first n m a → NumbersTargetList a all all' next → NumbersTargets first whole (targets.Several m all') next
targets_Several {whole} {n} {m} {all} {all'} {first} {a} {next} is own its_all =
    let old : bare_targets whole ≡ targets.Several (bare n) (map bare_target all) = ap bare_targets is in
    numbers_by (cc) (takes_node own (takes its_all))
