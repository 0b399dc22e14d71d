-- The place of a name among others, as a search finds it.
use Rattle.std.proofs.Common.{◌≡◌, refl, ap, ◌∙◌, sym, ℕ, ◌+◌, Bool, true, false, List, [], ◌∷◌, Option, Some, None, arith}
use Rattle.std.specs.Prelude.{if◌then◌else◌, option_map}
use Rattle.std.specs.List.{position, position_from}
use Rattle.std.proofs.Common.{cond}
use Rattle.std.proofs.lemmas.Iterator.Adapters.{position_from-zero}
use Rattle.meaning_rules.specs.State.{Spelling, same}
use Rattle.meaning_rules.specs.Program.{place_named, place_after}

one_further : (b : Bool) (i : ℕ) (o rest : Option ℕ) → rest ≡ option_map (λ n. (i + 1) + n) o → cond b (Some i) rest ≡ option_map (λ n. i + n) (if b then Some 0 else place_after o)
one_further true i o rest e = ap Some (omega arith)
one_further false i None rest e = e
one_further false i (Some n) rest e = e ∙ ap Some (omega arith)

place_from : (name : Spelling) (names : List Spelling) (i : ℕ) → position_from (same name) i names ≡ option_map (λ n. i + n) (place_named name names)
place_from name [] i = refl
place_from name (other ∷ more) i = one_further (same name other) i (place_named name more) (position_from (same name) (i + 1) more) (place_from name more (i + 1))

from_zero : (o : Option ℕ) → option_map (λ n. 0 + n) o ≡ o
from_zero (Some n) = ap Some (omega arith)
from_zero None = refl

pub place_named_is : (name : Spelling) (names : List Spelling) → place_named name names ≡ position (same name) names
place_named_is name names = sym (position_from-zero (same name) names ∙ place_from name names 0 ∙ from_zero (place_named name names))
