use Rattle.std.proofs.Common.{◌≡◌, List, [], ◌∷◌, map, refl, ap, sym}
use Rattle.source_trees.specs.declared.node.Name.{Name}
use Rattle.source_trees.specs.Parts.{of_name}
use Rattle.source_trees.specs.Heights.{capped, highest, over_parts}
use Rattle.source_trees.proofs.Highest.{highest_names}
use Rattle.source_trees.proofs.height.target.highest_name.Goals as goal

any_names : (names : List Name) → (names ≡ [] → ⊥) → 1 ≡ capped (highest (map (of_name over_parts) names))
any_names [] none = absurd (none refl)
any_names (name ∷ names) none = ap capped (sym (highest_names name names))

pub returns-else-is_empty : goal.returns-else-is_empty
returns-else-is_empty c =
    let none : c.in-Several.names ≡ [] → ⊥ = λ empty. let yes = c.is_empty.ensures.1 empty in let no = c.if-is_empty.false in cc in
    rw c.in-Several.is (any_names c.in-Several.names none)
