-- Languages of tokens, and when a parser answers exactly what a language says.
--
-- A parser reads from the front of a list and does not know what follows. So each law speaks of a language and of the
-- tokens that would carry it on: what was read is the only reading, however the list goes on after the next token; and
-- where a token is refused, no text of the language goes on with it.
use Rattle.std.specs.Prelude.{◌≡◌, Bool, false, List, [], ◌∷◌, ◌++◌}
use Rattle.parse_laws.specs.declared.cause.Cause.{Cause}
use Rattle.parse_laws.specs.declared.cause.Cause.TheVariants.{Unexpected, TooDeep}
use Rattle.parse_laws.specs.Parser.{Outcome, Parsed, Stopped, sees}

-- which lists of tokens spell a value
abbrev pub Language : Type 0 → Type 0 → Type 1
Language K A = List K → A → Type 0

-- no token that would carry on comes next
abbrev pub Free : {K : Type 0} → (K → Bool) → List K → Type 0
Free cont ts = sees cont ts ≡ false

-- the same next token, or none in both
abbrev pub Same : {K : Type 0} → List K → List K → Type 0
Same [] [] = Unit {0}
Same [] (u ∷ us) = ⊥
Same (t ∷ ts) [] = ⊥
Same (t ∷ ts) (u ∷ us) = t ≡ u

-- no text of the language, with what may follow it, goes on from `used` with the next token of `r`
abbrev pub NoneGoesOn : {K A : Type 0} → Language K A → (K → Bool) → List K → List K → Type 0
NoneGoesOn {K} {A} L cont used r = (b : List K) (w : A) (s c : List K) → L b w → Free cont s → Same r c → b ++ s ≡ used ++ c → ⊥

-- each text of the language, with what may follow it, that goes on from `used` with the next token of `r` is `used`, and spells this value
abbrev pub Unique : {K A : Type 0} → Language K A → (K → Bool) → List K → A → List K → Type 0
Unique {K} {A} L cont used v r = (b : List K) (w : A) (s c : List K) → L b w → Free cont s → Same r c → b ++ s ≡ used ++ c → (b ≡ used) × (w ≡ v)

-- a viable prefix: some text of the language begins with these tokens
abbrev pub Viable : {K A : Type 0} → Language K A → List K → Type 0
Viable {K} {A} L before = (more : List K) × (v : A) × L (before ++ more) v

-- these tokens, if there are any, are a viable prefix
abbrev pub ViableIfAny : {K A : Type 0} → Language K A → List K → Type 0
ViableIfAny L [] = Unit {0}
ViableIfAny L (u ∷ us) = Viable L (u ∷ us)

-- `used` and the next token of `r` are a viable prefix
pub record GoesOn {K A : Type 0} (L : Language K A) (used r : List K) : Type 0 where
  pub token : K
  pub rest : List K
  pub more : List K
  pub value : A
  pub next : r ≡ token ∷ rest
  pub spells : L (used ++ token ∷ more) value

-- why the next token of `r` is refused: nothing of the language `G` goes on with it; or some does, and nothing of the part `R` of it that is within the limit
abbrev pub Refused : {K A : Type 0} → Language K A → Language K A → (K → Bool) → Cause → List K → List K → Type 0
Refused G R cont Unexpected used r = NoneGoesOn G cont used r
Refused G R cont TooDeep used r = NoneGoesOn R cont used r × GoesOn G used r

-- a front of the list spells the value within the limit, and is the only reading
pub record IsRead {K A : Type 0} (G R : Language K A) (cont : K → Bool) (ts : List K) (v : A) (r : List K) : Type 0 where
  pub used : List K
  pub whole : ts ≡ used ++ r
  pub spells : R used v
  pub only : Unique G cont used v r

-- the tokens before the refused one are a viable prefix within the limit, and the refused one has its cause
pub record IsRefused {K A : Type 0} (G R : Language K A) (cont : K → Bool) (ts : List K) (k : Cause) (r : List K) : Type 0 where
  pub used : List K
  pub whole : ts ≡ used ++ r
  pub viable : ViableIfAny R used
  pub refused : Refused G R cont k used r

-- The one law of a parser: on this list its outcome is what the language `G`, with its part `R` within the limit, says.
abbrev pub Law : {K A : Type 0} → Language K A → Language K A → (K → Bool) → List K → Outcome K A → Type 0
Law G R cont ts (Parsed v r) = IsRead G R cont ts v r
Law G R cont ts (Stopped k r) = IsRefused G R cont ts k r
