-- Arguments as two lists, with the piped value between them.
use Rattle.std.proofs.Common.{◌≡◌, ℕ, ◌+◌, Bool, true, false, List, [], ◌∷◌, ◌++◌, length, map, refl, sym, ◌∙◌, ap, Option, Some, None, arith}
use Rattle.std.proofs.lemmas.List.{append_assoc, append-nil, length-append}
use Rattle.source_trees.specs.declared.expression.Expr.{Expr}
use Rattle.parse_statements.specs.Settings.{placed, IsPlaced}
use Rattle.parse_statements.specs.Stages.{filled, has_piped, cut}

some_last : (xs : List Expr) (x : Expr) → map Some (xs ++ x ∷ []) ≡ map Some xs ++ Some x ∷ []
some_last [] x = refl
some_last (y ∷ xs) x = ap (λ z. Some y ∷ z) (some_last xs x)

filled_some : (xs : List Expr) → filled (map Some xs) ≡ xs
filled_some [] = refl
filled_some (x ∷ xs) = ap (λ z. x ∷ z) (filled_some xs)

filled_placed : (xs ys : List Expr) → filled (map Some xs ++ None ∷ map Some ys) ≡ xs ++ ys
filled_placed [] ys = filled_some ys
filled_placed (x ∷ xs) ys = ap (λ z. x ∷ z) (filled_placed xs ys)

no_piped : (xs : List Expr) → has_piped (map Some xs) ≡ false
no_piped [] = refl
no_piped (x ∷ xs) = no_piped xs

some_piped : (xs : List Expr) (zs : List (Option Expr)) → has_piped (map Some xs ++ None ∷ zs) ≡ true
some_piped [] zs = refl
some_piped (x ∷ xs) zs = some_piped xs zs

cut_some : (b xs : List Expr) → cut b (map Some xs) ≡ ([], b ++ xs)
cut_some b [] = ap (λ z. ([], z)) (sym (append-nil b))
cut_some b (x ∷ xs) = cut_some (b ++ x ∷ []) xs ∙ ap (λ z. ([], z)) (append_assoc b (x ∷ []) xs)

cut_at : (b xs ys : List Expr) → cut b (map Some xs ++ None ∷ map Some ys) ≡ (b ++ xs, ys)
cut_at b [] ys = ap (λ z. (b, z)) (filled_some ys) ∙ ap (λ z. (z, ys)) (sym (append-nil b))
cut_at b (x ∷ xs) ys = cut_at (b ++ x ∷ []) xs ys ∙ ap (λ z. (z, ys)) (append_assoc b (x ∷ []) xs)

pub written_is : (b : List Expr) (p : Bool) (a : List Expr) → IsPlaced p a → length (filled (placed b p a)) ≡ length b + length a
written_is b true a h = ap length (filled_placed b a) ∙ length-append b a
written_is b false [] h = ap length (filled_some b) ∙ omega arith
written_is b false (x ∷ a) h = absurd (cc)

pub piped_is : (b : List Expr) (p : Bool) (a : List Expr) → has_piped (placed b p a) ≡ p
piped_is b true a = some_piped b (map Some a)
piped_is b false a = no_piped b

pub push_before : (b : List Expr) (x : Expr) (a : List Expr) → placed (b ++ x ∷ []) false a ≡ placed b false a ++ Some x ∷ []
push_before b x a = some_last b x

pub push_after : (b : List Expr) (a : List Expr) (x : Expr) → placed b true (a ++ x ∷ []) ≡ placed b true a ++ Some x ∷ []
push_after b a x = ap (λ z. map Some b ++ None ∷ z) (some_last a x) ∙ sym (append_assoc (map Some b) (None ∷ map Some a) (Some x ∷ []))

pub push_piped : (b a : List Expr) → placed b true [] ≡ placed b false a ++ None ∷ []
push_piped b a = refl

pub cut_unplaced : (b a : List Expr) → cut [] (placed b false a) ≡ ([], b)
cut_unplaced b a = cut_some [] b

pub cut_placed : (b a : List Expr) → cut [] (placed b true a) ≡ (b, a)
cut_placed b a = cut_at [] b a
