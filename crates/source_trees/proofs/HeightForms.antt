-- The heights of the forms whose parts are lists that are joined.
use Rattle.std.proofs.Common.{◌≡◌, ◌+◌, max, List, [], ◌∷◌, ◌++◌, map, Option, refl, ap, ◌∙◌, arith}
use Rattle.std.specs.Option.{option_map}
use Rattle.std.specs.List.{flat_map}
use Rattle.source_trees.specs.declared.node.Node.{Node}
use Rattle.source_trees.specs.declared.expression.Expr.{Expr}
use Rattle.source_trees.specs.declared.expression.Expr.TheVariants as expr
use Rattle.source_trees.specs.declared.statement.LoopNames.{LoopNames}
use Rattle.source_trees.specs.declared.statement.Arm.{Arm}
use Rattle.source_trees.specs.declared.statement.For.{For}
use Rattle.source_trees.specs.declared.item.Function.{Function}
use Rattle.source_trees.specs.Parts.{optional, of_loop_names, of_arm, of_optional_annotation}
use Rattle.source_trees.specs.Heights.{highest, over_parts, height_of_expr, height_of_stmt, height_of_arm, height_of_for, height_of_param, height_of_function}
use Rattle.source_trees.proofs.Equations.{expr_Comprehension, expr_Slice, for_is}
use Rattle.source_trees.proofs.Highest.{highest-append}

pub height_Comprehension : (n : Node) (item : Expr) (names : LoopNames) (iterable : Expr) (condition : Option Expr)
    → height_of_expr (expr.Comprehension n item names iterable condition)
    ≡ max (height_of_expr item) (max (highest (of_loop_names over_parts names)) (max (height_of_expr iterable) (highest (optional (option_map height_of_expr condition))))) + 1
height_Comprehension n item names iterable condition =
    let whole = expr_Comprehension over_parts n item names iterable condition in
    let parts = highest-append (of_loop_names over_parts names) (height_of_expr iterable ∷ optional (option_map height_of_expr condition)) in
    omega (arith, whole, parts)

pub height_Slice : (n : Node) (object : Expr) (from to : Option Expr)
    → height_of_expr (expr.Slice n object from to)
    ≡ max (height_of_expr object) (max (highest (optional (option_map height_of_expr from))) (highest (optional (option_map height_of_expr to)))) + 1
height_Slice n object from to =
    let whole = expr_Slice over_parts n object from to in
    let parts = highest-append (optional (option_map height_of_expr from)) (optional (option_map height_of_expr to)) in
    omega (arith, whole, parts)

pub highest_arms : (arms : List Arm) → highest (flat_map (λ arm. arm) (map (of_arm over_parts) arms)) ≡ highest (map height_of_arm arms)
highest_arms [] = refl
highest_arms (arm ∷ arms) =
    highest-append (of_arm over_parts arm) (flat_map (λ a. a) (map (of_arm over_parts) arms)) ∙ ap (λ n. max (height_of_arm arm) n) (highest_arms arms)

pub for_height : (loop : For)
    → height_of_for loop ≡ max (highest (of_loop_names over_parts loop.names)) (max (height_of_expr loop.iterable) (highest (map height_of_stmt loop.body))) + 1
for_height loop =
    let whole = for_is over_parts loop in
    let parts = highest-append (of_loop_names over_parts loop.names) (height_of_expr loop.iterable ∷ map height_of_stmt loop.body) in
    omega (arith, whole, parts)

pub function_height : (f : Function)
    → height_of_function f ≡ max 1 (max (highest (map height_of_param f.params)) (max (highest (of_optional_annotation over_parts f.result)) (highest (map height_of_stmt f.body)))) + 1
function_height f =
    let params = map height_of_param f.params in
    let inner = highest-append params (of_optional_annotation over_parts f.result) in
    let outer = highest-append (params ++ of_optional_annotation over_parts f.result) (map height_of_stmt f.body) in
    omega (arith, inner, outer)
