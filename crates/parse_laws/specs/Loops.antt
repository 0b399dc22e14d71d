-- Loops of languages: turns that begin with a token of their own, chains of operators, and rows with separators.
use Rattle.std.specs.Prelude.{◌≡◌, Bool, true, false, cond, ◌||◌, ◌&&◌, List, [], ◌∷◌, ◌++◌, length, Option, Some}
use Rattle.parse_laws.specs.Parser.{Parser, sees, pure, repeat, row_turn, ◌>>=◌}
use Rattle.parse_laws.specs.Language.{Language}
use Rattle.parse_laws.specs.Forms.{Made, Ends}

-- a value, and what turns make of it
pub data Turns {K A : Type 0} (Step : A → Language K A) : A → List K → A → Type 0 where
  done : (v : A) → Turns Step v [] v
  next : (v : A) (b : List K) (u : A) (c : List K) (w : A) → Step v b u → Turns Step u c w → Turns Step v (b ++ c) w

-- What is asked of turns: each begins with a token that passes the test, which carries on no turn before it; and what
-- a turn makes is within the limit only where what it began with is.
pub record Repeated {K A : Type 0} (test : A → K → Bool) (Step : A → Language K A) (contp : A → K → Bool) (cont : K → Bool) (fit : A → Type 0) : Type 0 where
  pub opens : (v : A) (b : List K) (u : A) (s : List K) → Step v b u → sees (test v) (b ++ s) ≡ true
  pub own : (v : A) (t : K) → test v t ≡ true → cont t ≡ true
  pub wider : (v : A) (t : K) → cont t ≡ false → contp v t ≡ false
  pub next : (v : A) (b : List K) (u : A) (t : K) → Step v b u → test u t ≡ true → contp v t ≡ false
  pub shrinks : (v : A) (b : List K) (u : A) → Step v b u → fit u → fit v

-- a value, and operators with their right operands, each of which makes a value of the one before
pub data Chain {K A B O : Type 0} (pick : A → K → Option O) (node : O → A → B → A) (P : O → Language K B) : A → List K → A → Type 0 where
  stop : (v : A) → Chain pick node P v [] v
  more : (t : K) (o : O) (v : A) (b : List K) (y : B) (c : List K) (w : A) → pick v t ≡ Some o → P o b y → Chain pick node P (node o v y) c w → Chain pick node P v (t ∷ b ++ c) w

-- What is asked of a chain. `fit` says that a value is within the limit, and `fits` that one more turn may be.
pub record Chained {K A B O : Type 0} (pick : A → K → Option O) (fits : A → Bool) (node : O → A → B → A) (P : O → Language K B) (contp cont : K → Bool) (fit : A → Type 0) (fit_part : B → Type 0) : Type 0 where
  pub grows : (o : O) (v : A) (y : B) → fit (node o v y) → (fits v ≡ true) × fit v × fit_part y
  pub room : (o : O) (v : A) (y : B) → fits v ≡ true → fit v → fit_part y → fit (node o v y)
  pub some : (o : O) (v : A) → fits v ≡ true → (b : List K) × (y : B) × P o b y × fit_part y
  pub least : (o : O) → (b : List K) × (y : B) × P o b y
  pub own : (v : A) (t : K) (o : O) → pick v t ≡ Some o → (cont t ≡ true) × (contp t ≡ false)
  pub wider : (t : K) → cont t ≡ false → contp t ≡ false

-- What stands of a row: what its items made so far, and whether an item may follow without a separator, as at the
-- beginning and after each separator.
abbrev pub RowState : Type 0 → Type 0
RowState S = S × Bool

-- A row's turn: an item where one may follow, which may depend on the items so far, and else a separator.
abbrev pub RowStep : {K S B : Type 0} → (K → Bool) → (S → Language K B) → (S → B → S) → RowState S → Language K (RowState S)
RowStep is_separator Item add (s, true) = Made (Item s) (λ y. (add s y, false))
RowStep is_separator Item add (s, false) = Ends is_separator (s, true)

-- A row: items with separators between and perhaps one after the last: [item (separator item)* [separator]].
-- After an item it goes on from `(s, false)`, and so a row of at least one item is an item and then a row.
abbrev pub Row : {K S B : Type 0} → (K → Bool) → (S → Language K B) → (S → B → S) → RowState S → Language K (RowState S)
Row is_separator Item add = Turns (RowStep is_separator Item add)

-- the next token begins an item where one may follow, or is the separator
abbrev pub row_test : {K S : Type 0} → (K → Bool) → (S → K → Bool) → RowState S → K → Bool
row_test is_separator starts r t = cond r.1 (starts r.0 t) (is_separator t)

-- What is asked of the items of a row: each begins with a token that starts one, which `cont` has; a separator carries
-- no item on; and an item makes a row that is within the limit only of one that is.
pub record RowItems {K S B : Type 0} (is_separator : K → Bool) (Item : S → Language K B) (add : S → B → S) (starts : S → K → Bool) (contp cont : K → Bool) (fit : S → Type 0) : Type 0 where
  pub opens : (s : S) (b : List K) (y : B) (rest : List K) → Item s b y → sees (starts s) (b ++ rest) ≡ true
  pub own : (s : S) (t : K) → starts s t ≡ true → cont t ≡ true
  pub own_separator : (t : K) → is_separator t ≡ true → cont t ≡ true
  pub wider : (t : K) → cont t ≡ false → contp t ≡ false
  pub ends_before : (t : K) → is_separator t ≡ true → contp t ≡ false
  pub shrinks : (s : S) (b : List K) (y : B) → Item s b y → fit (add s y) → fit s

-- Items with separators between and perhaps one after the last, as a grammar writes them: the items, and whether a
-- separator stands at all. At least one item stands.
pub data Listed {K B : Type 0} (is_separator : K → Bool) (Item : Language K B) : List K → List B × Bool → Type 0 where
  last : (a : List K) (y : B) → Item a y → Listed is_separator Item a (y ∷ [], false)
  trailing : (a : List K) (y : B) (t : K) → Item a y → is_separator t ≡ true → Listed is_separator Item (a ++ t ∷ []) (y ∷ [], true)
  another : (a : List K) (y : B) (t : K) (b : List K) (ys : List B) (more : Bool) → Item a y → is_separator t ≡ true → Listed is_separator Item b (ys, more)
      → Listed is_separator Item (a ++ t ∷ b) (y ∷ ys, true)

-- each of these items may follow those before it
abbrev pub Grows : {B : Type 0} → (List B → Bool) → List B → List B → Type 0
Grows room before [] = Unit {0}
Grows room before (y ∷ ys) = (room before ≡ true) × Grows room (before ++ y ∷ []) ys

-- a list of items each of which may follow those before it
abbrev pub ListedWithin : {K B : Type 0} → (K → Bool) → Language K B → (List B → Bool) → Language K (List B × Bool)
ListedWithin is_separator Item room a w = Listed is_separator Item a w × Grows room [] w.0

abbrev pub is_several : {B : Type 0} → List B → Bool
is_several [] = false
is_several (x ∷ []) = false
is_several (x ∷ y ∷ ys) = true

-- the items of a row, and whether a separator stands
abbrev pub finished : {B : Type 0} → RowState (List B) → List B × Bool
finished r = (r.0, r.1 || is_several r.0)

-- What is asked of the items of a list: each begins with a token that passes the test, which `cont` has; and a
-- separator, which `cont` has too, carries no item on.
pub record ListItems {K B : Type 0} (is_separator : K → Bool) (Item : Language K B) (starts contp cont : K → Bool) : Type 0 where
  pub opens : (b : List K) (y : B) (rest : List K) → Item b y → sees starts (b ++ rest) ≡ true
  pub own : (t : K) → starts t ≡ true → cont t ≡ true
  pub own_separator : (t : K) → is_separator t ≡ true → cont t ≡ true
  pub wider : (t : K) → cont t ≡ false → contp t ≡ false
  pub ends_before : (t : K) → is_separator t ≡ true → contp t ≡ false

-- the next token begins an item, and one more may follow these
abbrev pub starts_in : {K B : Type 0} → (List B → Bool) → (K → Bool) → List B → K → Bool
starts_in room starts s t = room s && starts t

-- the items after those that stand
unfoldable pub rest_of : {K B : Type 0} → (K → Bool) → (K → Bool) → (List B → Bool) → Parser K B → List B → Parser K (RowState (List B))
rest_of is_separator starts room item s = λ ts. repeat (row_test is_separator (starts_in room starts)) (row_turn is_separator (λ _. item) (λ v y. v ++ y ∷ [])) (length ts) (s, false) ts

-- a list of at least one item, and whether a separator stands at all
unfoldable pub listed : {K B : Type 0} → (K → Bool) → (K → Bool) → (List B → Bool) → Parser K B → Parser K (List B × Bool)
listed is_separator starts room item = item >>= (λ y. rest_of is_separator starts room item (y ∷ [])) >>= λ r. pure (finished r)
