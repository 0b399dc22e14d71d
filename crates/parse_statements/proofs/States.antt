-- What items stand before `=`: they are a tuple so far, or they are all targets, and the next item keeps one of these.
use Rattle.std.proofs.Common.{◌≡◌, ◌+◌, max, nat_le, Bool, true, false, not, ◌||◌, ◌&&◌, List, [], ◌∷◌, ◌++◌, length, map, refl, sym, ◌∙◌, ap, ◌⊎◌, inl, inr, Option, Some, None, arith}
use Rattle.std.specs.List.{list_any}
use Rattle.std.proofs.lemmas.List.{length-append}
use Rattle.std.proofs.lemmas.Bool.{ltb-true, le-leb}
use Rattle.source_trees.specs.declared.expression.Expr.{Expr}
use Rattle.source_trees.specs.declared.statement.Target.{Target}
use Rattle.source_trees.specs.Heights.{highest, height_of_expr, height_of_target}
use Rattle.parse_laws.specs.Parser.{in_table}
use Rattle.grammar_rules.specs.Words.{most_items}
use Rattle.parse_statements.specs.Targets.{both, target_of, targets_of, is_pointed, is_print}
use Rattle.parse_statements.specs.Readers.{has_room}
use Rattle.parse_statements.specs.Heads.{all_pointed, no_print, takes_value, is_value, may_follow}
use Rattle.parse_statements.proofs.Targets.{target_height}

-- ---- the test of the next item

may_value_in : (v p q r : Bool) → v ≡ true → q ≡ false → (v && not q) || (p && r) ≡ true
may_value_in true p false r h k = refl
may_value_in true p true r h k = absurd (cc)
may_value_in false p q r h k = absurd (cc)

may_target_in : (v p q r : Bool) → p ≡ true → r ≡ true → (v && not q) || (p && r) ≡ true
may_target_in true true true true h k = refl
may_target_in true true false true h k = refl
may_target_in false true q true h k = refl
may_target_in v true q false h k = absurd (cc)
may_target_in v false q r h k = absurd (cc)

may_either : (v p q r : Bool) → (v && not q) || (p && r) ≡ true → (P : Type 0) → (v ≡ true → q ≡ false → P) → (p ≡ true → r ≡ true → P) → P
may_either true p false r h P f g = f refl refl
may_either true true true true h P f g = g refl refl
may_either true true true false h P f g = absurd (cc)
may_either true false true r h P f g = absurd (cc)
may_either false true q true h P f g = g refl refl
may_either false true q false h P f g = absurd (cc)
may_either false false q r h P f g = absurd (cc)

pub may_value : (s : List Expr) (y : Expr) → takes_value s ≡ true → is_print y ≡ false → may_follow s y ≡ true
may_value s y h k = may_value_in (takes_value s) (all_pointed s) (is_print y) (is_pointed y) h k

pub may_target : (s : List Expr) (y : Expr) → all_pointed s ≡ true → is_pointed y ≡ true → may_follow s y ≡ true
may_target s y h k = may_target_in (takes_value s) (all_pointed s) (is_print y) (is_pointed y) h k

pub by_follow : (s : List Expr) (y : Expr) → may_follow s y ≡ true → (P : Type 0) → (takes_value s ≡ true → is_print y ≡ false → P) → (all_pointed s ≡ true → is_pointed y ≡ true → P) → P
by_follow s y h P f g = may_either (takes_value s) (all_pointed s) (is_print y) (is_pointed y) h P f g

-- ---- lists that grow

pub and_both : (x y : Bool) → x && y ≡ true → (x ≡ true) × (y ≡ true)
and_both true y h = (refl, h)
and_both false y h = absurd (cc)

pub both_true : (x y : Bool) → x ≡ true → y ≡ true → x && y ≡ true
both_true true y h k = k
both_true false y h k = absurd (cc)

both_in : (o : Option Target) (p : Option (List Target)) → in_table (both o p) ≡ in_table o && in_table p
both_in (Some x) (Some xs) = refl
both_in (Some x) None = refl
both_in None p = refl

pointed_cons : (x : Expr) (s : List Expr) → all_pointed (x ∷ s) ≡ is_pointed x && all_pointed s
pointed_cons x s = both_in (target_of x) (targets_of s)

pub pointed_snoc : (s : List Expr) (y : Expr) → all_pointed s ≡ true → is_pointed y ≡ true → all_pointed (s ++ y ∷ []) ≡ true
pointed_snoc [] y h k = pointed_cons y [] ∙ both_true (is_pointed y) true k refl
pointed_snoc (x ∷ s) y h k =
    let f = and_both (is_pointed x) (all_pointed s) (sym (pointed_cons x s) ∙ h) in
    pointed_cons x (s ++ y ∷ []) ∙ both_true (is_pointed x) (all_pointed (s ++ y ∷ [])) f.0 (pointed_snoc s y f.1 k)

or_cases : (x y : Bool) → not (x || y) ≡ true → (not x ≡ true) × (not y ≡ true)
or_cases true y h = absurd (cc)
or_cases false y h = (refl, h)

or_neither : (x y : Bool) → not x ≡ true → not y ≡ true → not (x || y) ≡ true
or_neither true y h k = absurd (cc)
or_neither false y h k = k

pub print_snoc : (s : List Expr) (y : Expr) → no_print s ≡ true → is_print y ≡ false → no_print (s ++ y ∷ []) ≡ true
print_snoc [] y h k = ap (λ z. not (z || false)) k
print_snoc (x ∷ s) y h k =
    let f = or_cases (is_print x) (list_any is_print s) h in
    or_neither (is_print x) (list_any is_print (s ++ y ∷ [])) f.0 (print_snoc s y f.1 k)

-- the items are a tuple, or all targets
abbrev pub Fine : List Expr → Type 0
Fine s = (is_value s ≡ true) ⊎ (all_pointed s ≡ true)

value_snoc : (s : List Expr) (y : Expr) → takes_value s ≡ true → is_print y ≡ false → is_value (s ++ y ∷ []) ≡ true
value_snoc s y h k =
    let f = and_both (has_room s) (no_print s) h in
    let l = ltb-true (length s) most_items f.0 in
    let m : length (s ++ y ∷ []) ≡ length s + 1 = length-append s (y ∷ []) in
    both_true (nat_le (length (s ++ y ∷ [])) most_items) (no_print (s ++ y ∷ [])) (le-leb (length (s ++ y ∷ [])) most_items (omega arith)) (print_snoc s y f.1 k)

pub fine_snoc : (s : List Expr) (y : Expr) → may_follow s y ≡ true → Fine (s ++ y ∷ [])
fine_snoc s y h = by_follow s y h (Fine (s ++ y ∷ [])) (λ k l. inl (value_snoc s y k l)) (λ k l. inr (pointed_snoc s y k l))

-- ---- heights

pub some_same : {A : Type 0} (x y : A) → Some x ≡ Some y → x ≡ y
some_same x y h = cc

pub targets_height : (s : List Expr) (ws : List Target) → targets_of s ≡ Some ws → highest (map height_of_target ws) ≡ highest (map height_of_expr s)
targets_height [] ws h = ap (λ z. highest (map height_of_target z)) (some_same ws [] (sym h))
targets_height (x ∷ s) ws h =
    let go : (o : Option Target) (p : Option (List Target)) → target_of x ≡ o → targets_of s ≡ p → both o p ≡ Some ws → highest (map height_of_target ws) ≡ highest (map height_of_expr (x ∷ s)) = elim [
      | Some w ↦ elim [
        | Some vs ↦ λ e f k.
            let same : ws ≡ w ∷ vs = some_same ws (w ∷ vs) (sym k) in
            let i = target_height x w e in
            let j = targets_height s vs f in
            ap (λ z. highest (map height_of_target z)) same ∙ ap (λ z. max z (highest (map height_of_target vs))) i ∙ ap (λ z. max (height_of_expr x) z) j
        | None ↦ λ e f k. absurd (cc)
      ]
      | None ↦ λ p e f k. absurd (cc)
    ] in
    go (target_of x) (targets_of s) refl refl h
