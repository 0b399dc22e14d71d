-- How many fields stand among members with one more at the end.
use Rattle.std.proofs.Common.{◌≡◌, ℕ, ◌+◌, min, List, [], ◌∷◌, ◌++◌, arith}
use Rattle.source_trees.specs.declared.item.Member.{Member}
use Rattle.source_trees.specs.declared.item.Member.TheVariants as member
use Rattle.grammar_rules.specs.Modules.{fields_among}

fields_push : (ms : List Member) (m : Member) → fields_among (ms ++ m ∷ []) ≡ fields_among ms + fields_among (m ∷ [])
fields_push [] m = let e : fields_among (m ∷ []) ≡ 0 + fields_among (m ∷ []) = omega arith in e
fields_push (member.Field n name type ∷ ms) m =
    let i = fields_push ms m in
    let e : fields_among (ms ++ m ∷ []) + 1 ≡ (fields_among ms + 1) + fields_among (m ∷ []) = omega arith in e
fields_push (member.Text n text ∷ ms) m = fields_push ms m
fields_push (member.Pass n ∷ ms) m = fields_push ms m
fields_push (member.Method f ∷ ms) m = fields_push ms m

pub counted_push : (ms : List Member) (m : Member) (fields most : ℕ) → fields ≡ min (fields_among ms) most → min (fields + fields_among (m ∷ [])) most ≡ min (fields_among (ms ++ m ∷ [])) most
counted_push ms m fields most h = let i = fields_push ms m in omega arith
