-- The one character at a place of a text.
use Rattle.std.proofs.Common.{◌≡◌, ℕ, suc, ◌+◌, ◌-◌, ◌<◌, List, [], ◌∷◌, length, get_or, take, drop, Option, Some, slice_get, refl, sym, ap, ◌∙◌, arith, drop-cons}
use Rattle.std.specs.Prelude.{option_map, option_and_then}
use Rattle.std.proofs.lemmas.Option.{slice_get-get_or}
use Rattle.codon_base.specs.declared.value.Value.{Value}
use Rattle.codon_base.specs.declared.value.Value.TheVariants as value
use Rattle.codon_base.specs.Operators.{Made, made}
use Rattle.codon_base.specs.Parts.{item_made}
use Rattle.codon_base.specs.Sequences.{sliced}

sliced-one : (xs : List ℕ) (p : ℕ) → p < length xs → sliced xs p (p + 1) ≡ get_or xs p 0 ∷ []
sliced-one xs p h =
    let one : p + 1 - p ≡ 1 = omega arith in
    ap (λ n. take n (drop p xs)) one ∙ ap (take 1) (drop-cons xs p 0 h)

-- the text of the character at the place that an index named
pub character_at : (xs : List ℕ) (p size : ℕ) (o : ℕ → Option ℕ) (t : List ℕ) → size ≡ length xs → Some p ≡ o size → p < size → t ≡ sliced xs p (p + 1)
    → made (value.Text t) ≡ item_made (option_map (λ b. value.Text (b ∷ [])) (option_and_then (slice_get xs) (o (length xs))))
character_at xs p size o t same e below k =
    let h : p < length xs = omega arith in
    ap (λ u. made (value.Text u)) (k ∙ sliced-one xs p h)
    ∙ ap (λ q. item_made (option_map (λ b. value.Text (b ∷ [])) q)) (sym (slice_get-get_or xs p 0 h))
    ∙ ap (λ q. item_made (option_map (λ b. value.Text (b ∷ [])) (option_and_then (slice_get xs) q))) (e ∙ ap o same)
