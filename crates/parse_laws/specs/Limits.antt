-- Languages and the parts of them that are within a limit.
use Rattle.std.specs.Prelude.{Bool, List, [], ◌++◌}
use Rattle.parse_laws.specs.Parser.{Parser, ◌>>=◌, ◌>>◌, expect, pure}
use Rattle.parse_laws.specs.Language.{Language, Free, Viable}

-- the part of a language whose values are within a limit
abbrev pub Limited : {K A : Type 0} → Language K A → (A → Type 0) → Language K A
Limited G fit a v = G a v × fit v

-- no text
abbrev pub Nothing : {K A : Type 0} → Language K A
Nothing a v = ⊥

-- All that is asked of two languages that stand one after the other under limits: what begins the second carries
-- nothing on in the first; each reading of the first can be completed, within the limit where the reading is; and
-- the whole is within its limit only where the first is within its own.
pub record Joins {K A B : Type 0} (G : Language K A) (contp : K → Bool) (H : A → Language K B) (contq : K → Bool) (fit_first : A → Type 0) (fit : B → Type 0) : Type 0 where
  pub apart : (a : List K) (v : A) → G a v → (c : List K) (w : B) (s : List K) → H v c w → Free contq s → Free contp (c ++ s)
  pub ends : (a : List K) (v : A) → G a v → Viable (H v) []
  pub ends_within : (a : List K) (v : A) → G a v → fit_first v → Viable (Limited (H v) fit) []
  pub shrinks : (a : List K) (v : A) → G a v → (c : List K) (w : B) → H v c w → fit w → fit_first v

-- what is made of a value is within its limit exactly where the value is within its own
pub record Carries {A B : Type 0} (f : A → B) (fit_first : A → Type 0) (fit : B → Type 0) : Type 0 where
  pub grows : (x : A) → fit_first x → fit (f x)
  pub shrinks : (x : A) → fit (f x) → fit_first x

-- something between two tokens
abbrev pub bracket : {K A B : Type 0} → (K → Bool) → Parser K A → (K → Bool) → (K → A → B) → Parser K B
bracket is_open p is_close f = expect is_open >>= λ t. p >>= λ x. expect is_close >> pure (f t x)
