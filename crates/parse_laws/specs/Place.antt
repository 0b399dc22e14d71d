-- What a parser of whole texts answers, and the first token that it refuses.
use Rattle.std.specs.Prelude.{◌≡◌, ℕ, ◌+◌, List, take}
use Rattle.parse_laws.specs.declared.cause.Cause.{Cause}
use Rattle.parse_laws.specs.declared.cause.Cause.TheVariants.{Unexpected, TooDeep}
use Rattle.parse_laws.specs.Language.{Language, Viable}

-- The token at this place is the first bad one: the tokens before it are a viable prefix within the limit, and with it
-- they are none of the language; or they are one of the language and none within the limit.
abbrev pub IsFirstBad : {K A : Type 0} → Language K A → Language K A → Cause → List K → ℕ → Type 0
IsFirstBad G R Unexpected ts at = Viable R (take at ts) × (Viable G (take (at + 1) ts) → ⊥)
IsFirstBad G R TooDeep ts at = Viable R (take at ts) × (Viable R (take (at + 1) ts) → ⊥) × Viable G (take (at + 1) ts)

-- the list spells this value within the limit, and no other value at all
abbrev pub IsOnly : {K A : Type 0} → Language K A → Language K A → List K → A → Type 0
IsOnly {K} {A} G R ts v = R ts v × ((w : A) → G ts w → w ≡ v)
