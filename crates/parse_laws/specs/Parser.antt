-- Parsers as functions on lists of tokens of any type.
use Rattle.std.specs.Prelude.{ℕ, zero, suc, Bool, true, false, cond, List, [], ◌∷◌, Option, Some, None}
use Rattle.parse_laws.specs.declared.cause.Cause.{Cause}
use Rattle.parse_laws.specs.declared.cause.Cause.TheVariants.{Unexpected, TooDeep}

-- a value and the tokens after it, or why a token is refused and the tokens from it on
pub data Outcome (K A : Type 0) : Type 0 where
  Parsed : A → List K → Outcome K A
  Stopped : Cause → List K → Outcome K A

abbrev pub Parser : Type 0 → Type 0 → Type 0
Parser K A = List K → Outcome K A

-- goes on with what was parsed
abbrev pub and_then : {K A B : Type 0} → Outcome K A → (A → Parser K B) → Outcome K B
and_then (Parsed v r) q = q v r
and_then (Stopped k r) q = Stopped k r

infixl 10 ◌>>=◌
abbrev pub ◌>>=◌ : {K A B : Type 0} → Parser K A → (A → Parser K B) → Parser K B
p >>= q = λ ts. and_then (p ts) q

infixl 10 ◌>>◌
abbrev pub ◌>>◌ : {K A B : Type 0} → Parser K A → Parser K B → Parser K B
p >> q = p >>= (λ _. q)

-- a value that takes no token
abbrev pub pure : {K A : Type 0} → A → Parser K A
pure v = λ ts. Parsed v ts

-- the next token is refused
abbrev pub refuse : {K A : Type 0} → Parser K A
refuse = λ ts. Stopped Unexpected ts

-- the next token passes the test
abbrev pub sees : {K : Type 0} → (K → Bool) → List K → Bool
sees test [] = false
sees test (t ∷ ts) = test t

-- the class of the next token, and what stands for it where there is none
abbrev pub class_of : {K C : Type 0} → (K → C) → C → List K → C
class_of class none [] = none
class_of class none (t ∷ ts) = class t

-- one parser of several, by the class of the next token
abbrev pub sort : {K C A : Type 0} → (K → C) → C → (C → Parser K A) → Parser K A
sort class none p = λ ts. p (class_of class none ts) ts

-- one parser or the other, by the next token
abbrev pub choose : {K A : Type 0} → (K → Bool) → Parser K A → Parser K A → Parser K A
choose test p q = λ ts. cond (sees test ts) (p ts) (q ts)

-- the next token is refused as too deep if there is no room for what it begins
abbrev pub within : {K A : Type 0} → Bool → Parser K A → Parser K A
within has_room p = λ ts. cond has_room (p ts) (Stopped TooDeep ts)

-- a token that passes the test
abbrev pub expect : {K : Type 0} → (K → Bool) → Parser K K
expect test [] = Stopped Unexpected []
expect test (t ∷ ts) = cond (test t) (Parsed t ts) (Stopped Unexpected (t ∷ ts))

abbrev pub taken : {K O : Type 0} → Option O → K → Parser K O
taken (Some o) t = pure o
taken None t = λ ts. Stopped Unexpected (t ∷ ts)

-- a token that the table has, and what the table has for it
abbrev pub take_by : {K O : Type 0} → (K → Option O) → Parser K O
take_by pick [] = Stopped Unexpected []
take_by pick (t ∷ ts) = taken (pick t) t ts

abbrev pub in_table : {O : Type 0} → Option O → Bool
in_table (Some o) = true
in_table None = false

-- the table has this token
abbrev pub has : {K O : Type 0} → (K → Option O) → K → Bool
has pick t = in_table (pick t)

-- an operator and what stands on its right, if there is room
abbrev pub turn : {K A B O : Type 0} → (A → K → Option O) → (A → Bool) → (O → A → B → A) → (O → Parser K B) → A → Parser K A
turn pick fits node operand v = within (fits v) (take_by (pick v) >>= λ o. operand o >>= λ y. pure (node o v y))

-- turns as long as the next token begins one; the number bounds them
unfoldable pub repeat : {K A : Type 0} → (A → K → Bool) → (A → Parser K A) → ℕ → A → Parser K A
repeat test turn zero v = pure v
repeat test turn (suc n) v = choose (test v) (turn v >>= repeat test turn n) (pure v)

-- an item where one may follow, and else a separator
abbrev pub row_turn : {K S B : Type 0} → (K → Bool) → (S → Parser K B) → (S → B → S) → S × Bool → Parser K (S × Bool)
row_turn is_separator item add (s, true) = item s >>= λ y. pure (add s y, false)
row_turn is_separator item add (s, false) = expect is_separator >> pure (s, true)

-- the value, where no token is left
abbrev pub ended : {K A : Type 0} → A → Parser K A
ended v [] = Parsed v []
ended v (t ∷ ts) = Stopped Unexpected (t ∷ ts)

-- a parser that takes the whole list
abbrev pub all_of : {K A : Type 0} → Parser K A → Parser K A
all_of p = p >>= ended
