-- Equality of values, by a walk over two values at once (Python reference, 6.10.1, without equality of unlike types).
use Rattle.std.specs.Prelude.{ℕ, suc, zero, Bool, true, false, ◌==◌, nat_eq, ◌&&◌, if◌then◌else◌, List, [], ◌∷◌, length, ℤ, int_le}
use Rattle.std.specs.Cmp.Lexicographic.{pointwise}
use Rattle.codon_base.specs.declared.value.Ref.{Ref}
use Rattle.codon_base.specs.declared.value.Value.{Value, Value-F, out-Value}
use Rattle.codon_base.specs.Walks.{Walk, ◌>>=◌, answer, end_by, wrong_kind, too_large, meet, nesting_limit, Seen, items, barred}

abbrev pub int_equal : ℤ → ℤ → Bool
int_equal a b = int_le a b && int_le b a

abbrev pub bool_equal : Bool → Bool → Bool
bool_equal true b = b
bool_equal false true = false
bool_equal false false = true

-- values in pairs, in order: the walk stops at the first pair that differs
abbrev pub all_equal : (Value → Value → Walk Bool) → List Value → List Value → Walk Bool
all_equal equal (v ∷ vs) (w ∷ ws) = equal v w >>= λ same. if same then all_equal equal vs ws else answer false
all_equal equal _ _ = answer true

-- two lists of different length differ at once, and are not entered
abbrev pub lists_equal : (List Value → List Value → Walk Bool) → List Value → List Value → Walk Bool
lists_equal enter vs ws = if length vs == length ws then enter vs ws else answer false

-- tuples of different length are not of one type
abbrev pub tuples_equal : (List Value → List Value → Walk Bool) → List Value → List Value → Walk Bool
tuples_equal enter vs ws = if length vs == length ws then enter vs ws else end_by wrong_kind

-- what was found at two addresses. One that holds no list comes first, then the left one that is lent
abbrev pub both_found : Seen → Seen → (List Value → List Value → Walk Bool) → Walk Bool
both_found (barred wrong_kind) right next = end_by wrong_kind
both_found left (barred wrong_kind) next = end_by wrong_kind
both_found (barred why) right next = end_by why
both_found left (barred why) next = end_by why
both_found (items vs) (items ws) next = next vs ws

-- a pair of values that was met, where `enter` compares the items of two lists or tuples
abbrev pub equal_met : (List Value → List Value → Walk Bool) → (Ref → Seen) → Value-F Value → Value-F Value → Walk Bool
equal_met enter look (Value-F.Int a) (Value-F.Int b) = answer (int_equal a b)
equal_met enter look (Value-F.Bool a) (Value-F.Bool b) = answer (bool_equal a b)
equal_met enter look (Value-F.Text t) (Value-F.Text u) = answer (pointwise nat_eq t u)
equal_met enter look Value-F.Unit Value-F.Unit = answer true
equal_met enter look (Value-F.Tuple vs) (Value-F.Tuple ws) = tuples_equal enter vs ws
equal_met enter look (Value-F.Ref a) (Value-F.Ref b) = both_found (look a) (look b) (lists_equal enter)
equal_met enter look _ _ = end_by wrong_kind

-- whether two values are equal, where `room` more lists and tuples may be entered one inside the other. A pair counts as one value
unfoldable pub equal : (Ref → Seen) → ℕ → Value → Value → Walk Bool
equal look zero v w = meet >>= λ _. equal_met (λ vs ws. end_by too_large) look (out-Value v) (out-Value w)
equal look (suc room) v w = meet >>= λ _. equal_met (all_equal (equal look room)) look (out-Value v) (out-Value w)

-- whether some item is equal to a value. The list of the items is neither counted nor entered
abbrev pub member : (Ref → Seen) → Value → List Value → Walk Bool
member look v [] = answer false
member look v (w ∷ ws) = equal look nesting_limit v w >>= λ same. if same then answer true else member look v ws
