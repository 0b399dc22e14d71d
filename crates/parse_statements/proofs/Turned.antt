-- Targets that are read from the last to the first.
use Rattle.std.proofs.Common.{◌≡◌, List, [], ◌∷◌, ◌++◌, reverse, refl, sym, ◌∙◌, ap, Option, Some, None}
use Rattle.std.proofs.lemmas.List.{append_assoc, append-nil, reverse-append}
use Rattle.source_trees.specs.declared.expression.Expr.{Expr}
use Rattle.source_trees.specs.declared.statement.Target.{Target}
use Rattle.parse_statements.specs.Settings.{turned}
use Rattle.parse_statements.specs.Targets.{target_of, targets_of, both}

-- the targets behind those that stand
abbrev pub behind : List Target → Option (List Target) → Option (List Target)
behind ys None = None
behind ys (Some zs) = Some (ys ++ zs)

abbrev appended : Option (List Target) → Option Target → Option (List Target)
appended (Some xs) (Some x) = Some (xs ++ x ∷ [])
appended (Some xs) None = None
appended None o = None

pub last_first : {A : Type 0} (xs : List A) (x : A) → reverse (xs ++ x ∷ []) ≡ x ∷ reverse xs
last_first xs x = reverse-append xs (x ∷ [])

both_appended : (o : Option Target) (s : Option (List Target)) (p : Option Target) → both o (appended s p) ≡ appended (both o s) p
both_appended None s p = refl
both_appended (Some x) None p = refl
both_appended (Some x) (Some xs) None = refl
both_appended (Some x) (Some xs) (Some y) = refl

only_one : (o : Option Target) → both o (Some []) ≡ appended (Some []) o
only_one None = refl
only_one (Some x) = refl

targets_last : (xs : List Expr) (x : Expr) → targets_of (xs ++ x ∷ []) ≡ appended (targets_of xs) (target_of x)
targets_last [] x = only_one (target_of x)
targets_last (y ∷ xs) x = ap (both (target_of y)) (targets_last xs x) ∙ both_appended (target_of y) (targets_of xs) (target_of x)

one_behind : (s : Option (List Target)) (t : Target) (ys : List Target) → behind ys (turned (appended s (Some t))) ≡ behind (ys ++ t ∷ []) (turned s)
one_behind None t ys = refl
one_behind (Some zs) t ys = ap (λ r. Some (ys ++ r)) (last_first zs t) ∙ ap Some (sym (append_assoc ys (t ∷ []) (reverse zs)))

none_behind : (s : Option (List Target)) (ys : List Target) → behind ys (turned (appended s None)) ≡ None
none_behind None ys = refl
none_behind (Some zs) ys = refl

pub turn_some : (left new : List Expr) (x : Expr) (t : Target) (ys : List Target) → left ≡ new ++ x ∷ [] → target_of x ≡ Some t
    → behind ys (turned (targets_of left)) ≡ behind (ys ++ t ∷ []) (turned (targets_of new))
turn_some left new x t ys e h =
    ap (λ z. behind ys (turned (targets_of z))) e
    ∙ (ap (λ o. behind ys (turned o)) (targets_last new x) ∙ (ap (λ o. behind ys (turned (appended (targets_of new) o))) h ∙ one_behind (targets_of new) t ys))

pub turn_none : (left new : List Expr) (x : Expr) (ys : List Target) → left ≡ new ++ x ∷ [] → target_of x ≡ None → behind ys (turned (targets_of left)) ≡ None
turn_none left new x ys e h =
    ap (λ z. behind ys (turned (targets_of z))) e
    ∙ (ap (λ o. behind ys (turned o)) (targets_last new x) ∙ (ap (λ o. behind ys (turned (appended (targets_of new) o))) h ∙ none_behind (targets_of new) ys))

pub begun : (o : Option (List Target)) → behind [] o ≡ o
begun None = refl
begun (Some zs) = refl

pub ended : (ys : List Target) → behind ys (Some []) ≡ Some ys
ended ys = ap Some (append-nil ys)

pub turned_on : (left new : List Target) (x : Target) (ys : List Target) → left ≡ new ++ x ∷ [] → ys ++ reverse left ≡ (ys ++ x ∷ []) ++ reverse new
turned_on left new x ys e = ap (λ z. ys ++ reverse z) e ∙ (ap (λ r. ys ++ r) (last_first new x) ∙ sym (append_assoc ys (x ∷ []) (reverse new)))
