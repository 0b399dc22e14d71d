-- The forms that languages of tokens are made of, and what each asks of its parts.
use Rattle.std.specs.Prelude.{◌≡◌, Bool, true, false, List, [], ◌∷◌, ◌++◌, Option, Some, ◌⊎◌}
use Rattle.parse_laws.specs.Parser.{sees, class_of}
use Rattle.parse_laws.specs.Language.{Language, Free}

-- one after the other; the second may depend on the value of the first
pub record Then {K A B : Type 0} (G : Language K A) (H : A → Language K B) (a : List K) (w : B) : Type 0 where
  pub first : List K
  pub second : List K
  pub value : A
  pub joined : a ≡ first ++ second
  pub heads : G first value
  pub tails : H value second w

-- All that is asked of two languages that stand one after the other: their parts within the limit are parts; what
-- begins the second carries nothing on in the first; and each reading of the first can be completed.
pub record Link {K A B : Type 0} (G R : Language K A) (contp : K → Bool) (H S : A → Language K B) (contq : K → Bool) : Type 0 where
  pub part : (a : List K) (v : A) → R a v → G a v
  pub parts : (v : A) (c : List K) (w : B) → S v c w → H v c w
  pub apart : (a : List K) (v : A) → G a v → (c : List K) (w : B) (s : List K) → H v c w → Free contq s → Free contp (c ++ s)
  pub ends : (a : List K) (v : A) → G a v → (c : List K) × (w : B) × H v c w
  pub ends_within : (a : List K) (v : A) → R a v → (c : List K) × (w : B) × S v c w

-- Where the test of the next token has the answer `x`, the two languages are one, and so are their parts.
pub record Agrees {K A : Type 0} (G R G' R' : Language K A) (cont test : K → Bool) (x : Bool) : Type 0 where
  pub up : (a : List K) (v : A) → G a v → G' a v
  pub up_within : (a : List K) (v : A) → R a v → R' a v
  pub down : (a : List K) (v : A) (s : List K) → G' a v → Free cont s → sees test (a ++ s) ≡ x → G a v
  pub down_within : (a : List K) (v : A) (s : List K) → R' a v → Free cont s → sees test (a ++ s) ≡ x → R a v

-- The language of each class of first tokens is that part of the whole, and so are the parts within the limit.
pub record Sorted {K C A : Type 0} (class : K → C) (none : C) (G R : Language K A) (L S : C → Language K A) (cont : K → Bool) : Type 0 where
  pub up : (c : C) (a : List K) (v : A) → L c a v → G a v
  pub up_within : (c : C) (a : List K) (v : A) → S c a v → R a v
  pub down : (a : List K) (v : A) (s : List K) → G a v → Free cont s → L (class_of class none (a ++ s)) a v
  pub down_within : (a : List K) (v : A) (s : List K) → R a v → Free cont s → S (class_of class none (a ++ s)) a v

-- no token
abbrev pub never : {K : Type 0} → K → Bool
never t = false

-- any token
abbrev pub any : {K : Type 0} → K → Bool
any t = true

-- no tokens, and a value that stands already
abbrev pub Is : {K A : Type 0} → A → Language K A
Is v a w = (a ≡ []) × (w ≡ v)

-- a token that passes the test, which is the value
abbrev pub Just : {K : Type 0} → (K → Bool) → Language K K
Just test a t = (a ≡ t ∷ []) × (test t ≡ true)

-- a token of a table, and what the table has for it
abbrev pub Picks : {K O : Type 0} → (K → Option O) → Language K O
Picks {K} pick a o = (t : K) × (a ≡ t ∷ []) × (pick t ≡ Some o)

-- a token that passes the test, and a value that stands already
abbrev pub Ends : {K B : Type 0} → (K → Bool) → B → Language K B
Ends {K} test v c w = (t : K) × (c ≡ t ∷ []) × (test t ≡ true) × (w ≡ v)

-- a token that passes the test, and then a language, which may depend on the token
abbrev pub Opens : {K B : Type 0} → (K → Bool) → (K → Language K B) → Language K B
Opens {K} test L c w = (t : K) × (b : List K) × (c ≡ t ∷ b) × (test t ≡ true) × L t b w

-- a language, and then a token that passes the test
abbrev pub Closes : {K A B : Type 0} → Language K A → (K → Bool) → (A → B) → Language K B
Closes {K} {A} L test f c w = (b : List K) × (x : A) × (t : K) × (c ≡ b ++ t ∷ []) × L b x × (test t ≡ true) × (w ≡ f x)

-- a language between two tokens; the value may depend on the first
abbrev pub Brackets : {K A B : Type 0} → (K → Bool) → Language K A → (K → Bool) → (K → A → B) → Language K B
Brackets is_open L is_close f = Opens is_open (λ t. Closes L is_close (f t))

-- what is made of a language's values
abbrev pub Made : {K A B : Type 0} → Language K A → (A → B) → Language K B
Made {K} {A} L f c w = (x : A) × L c x × (w ≡ f x)

-- one language or another
abbrev pub Either : {K A : Type 0} → Language K A → Language K A → Language K A
Either G H a v = G a v ⊎ H a v
