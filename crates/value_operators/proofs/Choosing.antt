-- The least and the greatest of ints, from the left.
use Rattle.std.proofs.Common.{◌≡◌, List, [], ◌∷◌, Option, Some, None, refl, sym, ap, subst, ◌∙◌, arith, ℤ}
use Rattle.std.specs.Prelude.{option_map}
use Rattle.std.specs.Int.{int_min, int_max}
use Rattle.std.proofs.lemmas.Int.{ints, clamps}
use Rattle.codon_base.specs.declared.value.Value.{Value}
use Rattle.codon_base.specs.declared.value.Value.TheViews.{out-Value}
use Rattle.codon_base.specs.Operators.{chosen_from, chosen_with, ints_in, int_in, and_more}

-- the number chosen so far, and then those of the rest
abbrev pub chosen_after : (ℤ → ℤ → ℤ) → Option ℤ → List ℤ → Option ℤ
chosen_after choose None zs = chosen_from choose zs
chosen_after choose (Some z) zs = chosen_with choose z (chosen_from choose zs)

-- a choice in which order and grouping do not show
pub record IsChoice (choose : ℤ → ℤ → ℤ) : Type 0 where
  pub comm : (a b : ℤ) → choose a b ≡ choose b a
  pub assoc : (a b c : ℤ) → choose a (choose b c) ≡ choose (choose b a) c

pub least_is_choice : IsChoice int_min
least_is_choice = record { comm = λ a b. omega (arith, ints, clamps); assoc = λ a b c. omega (arith, ints, clamps) }

pub greatest_is_choice : IsChoice int_max
greatest_is_choice = record { comm = λ a b. omega (arith, ints, clamps); assoc = λ a b c. omega (arith, ints, clamps) }

chosen_with-twice : (choose : ℤ → ℤ → ℤ) → IsChoice choose → (b n : ℤ) (o : Option ℤ) → chosen_with choose b (chosen_with choose n o) ≡ chosen_with choose (choose n b) o
chosen_with-twice choose law b n None = ap Some (law.comm b n)
chosen_with-twice choose law b n (Some x) = ap Some (law.assoc b n x)

chosen_after-more : (choose : ℤ → ℤ → ℤ) → IsChoice choose → (best : Option ℤ) (n next : ℤ) (zs : List ℤ) → Some next ≡ chosen_with choose n best → chosen_after choose best (n ∷ zs) ≡ chosen_after choose (Some next) zs
chosen_after-more choose law None n next zs e = let same : next ≡ n = cc in ap (λ m. chosen_with choose m (chosen_from choose zs)) (sym same)
chosen_after-more choose law (Some b) n next zs e =
    let same : next ≡ choose n b = cc in
    chosen_with-twice choose law b n (chosen_from choose zs) ∙ ap (λ m. chosen_with choose m (chosen_from choose zs)) (sym same)

go : (choose : ℤ → ℤ → ℤ) → IsChoice choose → (best : Option ℤ) (n next : ℤ) (rest : Option (List ℤ)) → Some next ≡ chosen_with choose n best
    → option_map (chosen_after choose best) (and_more (Some n) rest) ≡ option_map (chosen_after choose (Some next)) rest
go choose law best n next None e = refl
go choose law best n next (Some zs) e = ap Some (chosen_after-more choose law best n next zs e)

-- one more int
pub chosen-step : (choose : ℤ → ℤ → ℤ) → IsChoice choose → (best : Option ℤ) (n next : ℤ) (v : Value) (vs : List Value) → Some next ≡ chosen_with choose n best → int_in (out-Value v) ≡ Some n
    → option_map (chosen_after choose best) (ints_in (v ∷ vs)) ≡ option_map (chosen_after choose (Some next)) (ints_in vs)
chosen-step choose law best n next v vs e h = ap (λ o. option_map (chosen_after choose best) (and_more o (ints_in vs))) h ∙ go choose law best n next (ints_in vs) e

-- a value that is no int
pub chosen-none : (choose : ℤ → ℤ → ℤ) (best : Option ℤ) (v : Value) (vs : List Value) → int_in (out-Value v) ≡ None → option_map (chosen_after choose best) (ints_in (v ∷ vs)) ≡ None
chosen-none choose best v vs h = ap (λ o. option_map (chosen_after choose best) (and_more o (ints_in vs))) h

-- no value is left
pub chosen-end : (choose : ℤ → ℤ → ℤ) (best : Option ℤ) → option_map (chosen_after choose best) (ints_in []) ≡ Some best
chosen-end choose None = refl
chosen-end choose (Some z) = refl
