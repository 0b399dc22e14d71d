-- Items of a row with one more at the end: whether each is a target, and none the name `print`.
use Rattle.std.proofs.Common.{◌≡◌, Bool, true, false, not, ◌||◌, ◌&&◌, List, [], ◌∷◌, ◌++◌, refl, sym, ◌∙◌, ap, Option, Some, None}
use Rattle.std.specs.List.{list_any}
use Rattle.source_trees.specs.declared.expression.Expr.{Expr}
use Rattle.source_trees.specs.declared.statement.Target.{Target}
use Rattle.parse_laws.specs.Parser.{in_table}
use Rattle.parse_statements.specs.Heads.{all_pointed, no_print}
use Rattle.parse_statements.specs.Targets.{both, is_pointed, is_print, target_of, targets_of}

and_joined : (a b c : Bool) → a && (b && c) ≡ (a && b) && c
and_joined true b c = refl
and_joined false b c = refl

both_table : (o : Option Target) (s : Option (List Target)) → in_table (both o s) ≡ in_table o && in_table s
both_table None s = refl
both_table (Some x) None = refl
both_table (Some x) (Some xs) = refl

one_table : (o : Option Target) → in_table (both o (Some [])) ≡ in_table o
one_table None = refl
one_table (Some x) = refl

pub pointed_push : (s : List Expr) (y : Expr) → all_pointed (s ++ y ∷ []) ≡ all_pointed s && is_pointed y
pointed_push [] y = one_table (target_of y)
pointed_push (x ∷ s) y =
    both_table (target_of x) (targets_of (s ++ y ∷ []))
    ∙ (ap (λ z. is_pointed x && z) (pointed_push s y)
    ∙ (and_joined (is_pointed x) (all_pointed s) (is_pointed y) ∙ ap (λ z. z && is_pointed y) (sym (both_table (target_of x) (targets_of s)))))

neither : (a b : Bool) → not (a || b) ≡ not a && not b
neither true b = refl
neither false b = refl

alone : (b : Bool) → not (b || false) ≡ not b
alone true = refl
alone false = refl

pub print_push : (s : List Expr) (y : Expr) → no_print (s ++ y ∷ []) ≡ no_print s && not (is_print y)
print_push [] y = alone (is_print y)
print_push (x ∷ s) y =
    neither (is_print x) (list_any is_print (s ++ y ∷ []))
    ∙ (ap (λ z. not (is_print x) && z) (print_push s y)
    ∙ (and_joined (not (is_print x)) (no_print s) (not (is_print y)) ∙ ap (λ z. z && not (is_print y)) (sym (neither (is_print x) (list_any is_print s)))))
