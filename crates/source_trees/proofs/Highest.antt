-- The greatest of the heights of lists that are joined or go on, and of names.
use Rattle.std.proofs.Common.{◌≡◌, ℕ, ◌+◌, ◌<◌, max, List, [], ◌∷◌, ◌++◌, map, take, length, get_or, refl, ap, ◌∙◌, arith}
use Rattle.std.proofs.lemmas.List.{map_more}
use Rattle.std.specs.List.{flat_map}
use Rattle.source_trees.specs.declared.node.Name.{Name}
use Rattle.source_trees.specs.Parts.{of_name}
use Rattle.source_trees.specs.Heights.{capped, highest, over_parts}

pub highest-append : (xs ys : List ℕ) → highest (xs ++ ys) ≡ max (highest xs) (highest ys)
highest-append [] ys = omega arith
highest-append (x ∷ xs) ys = let more = highest-append xs ys in omega (arith, more)

pub highest-flat_map : (xss : List (List ℕ)) → highest (flat_map (λ xs. xs) xss) ≡ highest (map highest xss)
highest-flat_map [] = refl
highest-flat_map (xs ∷ xss) = highest-append xs (flat_map (λ xs. xs) xss) ∙ ap (λ n. max (highest xs) n) (highest-flat_map xss)

-- names are as high as one name
pub highest_names : (name : Name) (names : List Name) → highest (map (of_name over_parts) (name ∷ names)) ≡ 1
highest_names name [] = refl
highest_names name (next ∷ names) = let more = highest_names next names in omega (arith, more)

-- one tree more in a list
pub highest_next : {T : Type 0} (height : T → ℕ) (xs : List T) (i : ℕ) (x : T) → i < length xs → x ≡ get_or xs i x
    → capped (highest (map height (take (i + 1) xs))) ≡ max (capped (highest (map height (take i xs)))) (capped (height x))
highest_next height xs i x h e =
    let more = ap highest (map_more height xs i x h) ∙ highest-append (map height (take i xs)) (height (get_or xs i x) ∷ []) in
    let same : height x ≡ height (get_or xs i x) = ap height e in
    omega (arith, more, same)

pub ruleset highest_rules = (highest-append, highest-flat_map)
