-- Statements that are moved from the last to the first.
use Rattle.std.proofs.Common.{◌≡◌, List, [], ◌∷◌, ◌++◌, reverse, sym, ◌∙◌, ap}
use Rattle.std.proofs.lemmas.List.{append_assoc, reverse-append, reverse-reverse}
use Rattle.source_trees.specs.declared.item.Item.{Item}
use Rattle.source_trees.specs.declared.item.Item.TheVariants as item
use Rattle.source_trees.specs.declared.statement.Stmt.{Stmt}
use Rattle.parse_blocks.specs.Sources.{as_items}

last_first : {A : Type 0} (xs : List A) (x : A) → reverse (xs ++ x ∷ []) ≡ x ∷ reverse xs
last_first xs x = reverse-append xs (x ∷ [])

pub turned_on : (left new : List Stmt) (x : Stmt) (ys : List Stmt) → left ≡ new ++ x ∷ [] → ys ++ reverse left ≡ (ys ++ x ∷ []) ++ reverse new
turned_on left new x ys e = ap (λ z. ys ++ reverse z) e ∙ (ap (λ r. ys ++ r) (last_first new x) ∙ sym (append_assoc ys (x ∷ []) (reverse new)))

pub items_on : (left new : List Stmt) (x : Stmt) (ys : List Item) → left ≡ new ++ x ∷ [] → ys ++ as_items (reverse left) ≡ (ys ++ item.Stmt x ∷ []) ++ as_items (reverse new)
items_on left new x ys e =
    ap (λ z. ys ++ as_items (reverse z)) e
    ∙ (ap (λ r. ys ++ as_items r) (last_first new x) ∙ sym (append_assoc ys (item.Stmt x ∷ []) (as_items (reverse new))))

pub twice : (xs : List Stmt) → reverse (reverse xs) ≡ xs
twice xs = reverse-reverse xs
