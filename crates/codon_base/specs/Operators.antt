-- What the operators and builtins make of values. An operator is chosen by the kinds of the values that it meets.
use Rattle.std.specs.Prelude.{ℕ, zero, ◌+◌, ◌-◌, ◌*◌, Bool, true, false, not, ◌&&◌, if◌then◌else◌, nat_lt, nat_le, ◌==◌, List, [], ◌∷◌, ◌++◌, length, Option, Some, None, ℤ, pos, negsuc, neg_ℤ, int_lt, codes}
use Rattle.std.specs.Int.{int_min, int_max}
use Rattle.std.specs.Ordering.{nat_cmp, is_lt}
use Rattle.std.specs.Cmp.Lexicographic.{slice_cmp}
use Rattle.codon_base.specs.declared.fault.FaultKind.{FaultKind}
use Rattle.codon_base.specs.declared.fault.FaultKind.TheVariants as kind
use Rattle.codon_base.specs.declared.value.Ref.{Ref}
use Rattle.codon_base.specs.declared.value.Value.{Value, Value-F, out-Value}
use Rattle.codon_base.specs.declared.value.Value.TheVariants as value
use Rattle.codon_base.specs.declared.object.Object.{Object}
use Rattle.codon_base.specs.Number.{sum_of, difference_of, product_of, negation_of, power_of, quotient_of, remainder_of, left_shift_of, right_shift_of, complement_of, and_of, or_of, xor_of}
use Rattle.codon_base.specs.Walks.{Walked, going, ended, End, wrong_kind, lent_list, too_large, nesting_limit, Seen, items, barred, seen_in}
use Rattle.codon_base.specs.Printed.{text_of}
use Rattle.codon_base.specs.Compared.{equal, member}
use Rattle.codon_base.specs.Sequences.{repeated, count_of, occurs}

-- what an operator makes: a value, a new list of these items, or a fault
pub data Made : Type 0 where
  made : Value → Made
  new_list : List Value → Made
  fault : FaultKind → List ℕ → Made

-- the objects that are seen where an operator runs, and which lists are lent to parallel iterations there
pub record Sight : Type 0 where
  pub levels : List (List Object)
  pub lent : Ref → Bool

-- a list as a whole: not one that is lent
abbrev pub whole : Sight → Ref → Seen
whole sight at = if sight.lent at then barred lent_list else seen_in sight.levels at

-- ---- faults

abbrev pub wrong : Made
wrong = fault kind.Runtime (codes "wrong kind")

abbrev pub size_fault : Made
size_fault = fault kind.Size (codes "size limit reached")

abbrev pub fault_of : End → Made
fault_of wrong_kind = wrong
fault_of lent_list = fault kind.ParallelConflict (codes "place of another iteration")
fault_of too_large = size_fault

-- how many bytes a text and how many items a list may have
abbrev pub size_limit : ℕ
size_limit = 16777216

abbrev pub text_made : List ℕ → Made
text_made text = if nat_le (length text) size_limit then made (value.Text text) else size_fault

abbrev pub list_made : List Value → Made
list_made values = if nat_le (length values) size_limit then new_list values else size_fault

abbrev pub bool_made : Bool → Made
bool_made b = made (value.Bool b)

abbrev pub int_made : ℤ → Made
int_made z = made (value.Int z)

-- a number, or the fault that stands where there is none
abbrev pub int_or : Made → Option ℤ → Made
int_or other (Some z) = int_made z
int_or other None = other

abbrev pub after_walk : {A : Type 0} → Walked A → (A → Made) → Made
after_walk (going a met) next = next a
after_walk (ended why met) next = fault_of why

abbrev pub with_items : Seen → (List Value → Made) → Made
with_items (items values) next = next values
with_items (barred why) next = fault_of why

-- the items of a whole list
abbrev pub items_of : Sight → Ref → (List Value → Made) → Made
items_of sight at next = with_items (seen_in sight.levels at) (λ _. with_items (whole sight at) next)

-- ---- operators on two values

abbrev pub on_ints : (ℤ → ℤ → Made) → Value-F Value → Value-F Value → Made
on_ints make (Value-F.Int a) (Value-F.Int b) = make a b
on_ints make _ _ = wrong

abbrev pub plus : Sight → Value-F Value → Value-F Value → Made
plus sight (Value-F.Int a) (Value-F.Int b) = int_made (sum_of a b)
plus sight (Value-F.Text t) (Value-F.Text u) = text_made (t ++ u)
plus sight (Value-F.Ref a) (Value-F.Ref b) = with_items (seen_in sight.levels a) (λ _. with_items (seen_in sight.levels b) (λ _. with_items (whole sight a) (λ vs. with_items (whole sight b) (λ ws. list_made (vs ++ ws)))))
plus sight _ _ = wrong

abbrev pub minus : Value-F Value → Value-F Value → Made
minus = on_ints (λ a b. int_made (difference_of a b))

-- a text or a list that many times; its size is judged before it is made
abbrev pub times : Sight → Value-F Value → Value-F Value → Made
times sight (Value-F.Int a) (Value-F.Int b) = int_made (product_of a b)
times sight (Value-F.Text t) (Value-F.Int n) = text_made (repeated (count_of n) t)
times sight (Value-F.Ref a) (Value-F.Int n) = items_of sight a (λ vs. list_made (repeated (count_of n) vs))
times sight _ _ = wrong

abbrev pub to_the_power : Value-F Value → Value-F Value → Made
to_the_power = on_ints (λ a b. int_or (fault kind.Value (codes "negative exponent")) (power_of a b))

abbrev pub division_by_zero : Made
division_by_zero = fault kind.ZeroDivision (codes "division by zero")

abbrev pub floor_divided : Value-F Value → Value-F Value → Made
floor_divided = on_ints (λ a b. int_or division_by_zero (quotient_of a b))

abbrev pub modulo : Value-F Value → Value-F Value → Made
modulo = on_ints (λ a b. int_or division_by_zero (remainder_of a b))

abbrev pub negative_shift : Made
negative_shift = fault kind.Value (codes "negative shift")

abbrev pub shifted_left : Value-F Value → Value-F Value → Made
shifted_left = on_ints (λ a b. int_or negative_shift (left_shift_of a b))

abbrev pub shifted_right : Value-F Value → Value-F Value → Made
shifted_right = on_ints (λ a b. int_or negative_shift (right_shift_of a b))

abbrev pub bits_and : Value-F Value → Value-F Value → Made
bits_and = on_ints (λ a b. int_made (and_of a b))

abbrev pub bits_or : Value-F Value → Value-F Value → Made
bits_or = on_ints (λ a b. int_made (or_of a b))

abbrev pub bits_xor : Value-F Value → Value-F Value → Made
bits_xor = on_ints (λ a b. int_made (xor_of a b))

-- `v < w`: ints by number, texts by bytes
abbrev pub less_test : Value-F Value → Value-F Value → Option Bool
less_test (Value-F.Int a) (Value-F.Int b) = Some (int_lt a b)
less_test (Value-F.Text t) (Value-F.Text u) = Some (is_lt (slice_cmp nat_cmp t u))
less_test _ _ = None

abbrev pub bool_or_wrong : (Bool → Made) → Option Bool → Made
bool_or_wrong make (Some b) = make b
bool_or_wrong make None = wrong

abbrev pub less : Value-F Value → Value-F Value → Made
less v w = bool_or_wrong bool_made (less_test v w)

abbrev pub less_equal : Value-F Value → Value-F Value → Made
less_equal v w = bool_or_wrong (λ b. bool_made (not b)) (less_test w v)

abbrev pub greater : Value-F Value → Value-F Value → Made
greater v w = less w v

abbrev pub greater_equal : Value-F Value → Value-F Value → Made
greater_equal v w = less_equal w v

abbrev pub is_equal : Sight → Value → Value → Made
is_equal sight v w = after_walk (equal (whole sight) nesting_limit v w 0) bool_made

abbrev pub is_unequal : Sight → Value → Value → Made
is_unequal sight v w = after_walk (equal (whole sight) nesting_limit v w 0) (λ b. bool_made (not b))

-- whether a value is in a list, or a text in a text
abbrev pub contains : Sight → (Bool → Made) → Value → Value-F Value → Value-F Value → Made
contains sight make v (Value-F.Text t) (Value-F.Text u) = make (occurs t u)
contains sight make v _ (Value-F.Ref at) = items_of sight at (λ ws. after_walk (member (whole sight) v ws 0) make)
contains sight make v _ _ = wrong

abbrev pub is_in : Sight → Value → Value → Made
is_in sight v w = contains sight bool_made v (out-Value v) (out-Value w)

abbrev pub is_not_in : Sight → Value → Value → Made
is_not_in sight v w = contains sight (λ b. bool_made (not b)) v (out-Value v) (out-Value w)

-- `min(v, w)`: the second where it is less
abbrev pub least : Value → Value → Made
least v w = bool_or_wrong (λ b. made (if b then w else v)) (less_test (out-Value w) (out-Value v))

-- `max(v, w)`: the second where it is greater
abbrev pub greatest : Value → Value → Made
greatest v w = bool_or_wrong (λ b. made (if b then w else v)) (less_test (out-Value v) (out-Value w))

-- ---- operators on one value

abbrev pub on_int : (ℤ → Made) → Value-F Value → Made
on_int make (Value-F.Int z) = make z
on_int make _ = wrong

abbrev pub negated : Value-F Value → Made
negated = on_int (λ z. int_made (negation_of z))

-- unary `+`
abbrev pub unchanged : Value-F Value → Made
unchanged = on_int int_made

abbrev pub complemented : Value-F Value → Made
complemented = on_int (λ z. int_made (complement_of z))

abbrev pub is_filled : {A : Type 0} → List A → Bool
is_filled [] = false
is_filled (x ∷ xs) = true

abbrev pub is_nonzero : ℤ → Bool
is_nonzero (pos zero) = false
is_nonzero _ = true

abbrev pub filled_list : Seen → Option Bool
filled_list (items values) = Some (is_filled values)
filled_list (barred why) = None

-- the truth of a value, also of a list that is lent
abbrev pub truth_of : Sight → Value-F Value → Option Bool
truth_of sight (Value-F.Bool b) = Some b
truth_of sight (Value-F.Int z) = Some (is_nonzero z)
truth_of sight (Value-F.Text t) = Some (is_filled t)
truth_of sight (Value-F.Ref at) = filled_list (seen_in sight.levels at)
truth_of sight _ = None

-- `bool(v)`
abbrev pub truth : Sight → Value-F Value → Made
truth sight v = bool_or_wrong bool_made (truth_of sight v)

abbrev pub negation : Sight → Value-F Value → Made
negation sight v = bool_or_wrong (λ b. bool_made (not b)) (truth_of sight v)

-- `len(v)`, also of a list that is lent
abbrev pub length_of : Sight → Value-F Value → Made
length_of sight (Value-F.Text t) = int_made (pos (length t))
length_of sight (Value-F.Ref at) = with_items (seen_in sight.levels at) (λ values. int_made (pos (length values)))
length_of sight _ = wrong

-- `str(v)`
abbrev pub text_from : Sight → Value → Made
text_from sight v = after_walk (text_of (whole sight) nesting_limit false v 0) text_made

abbrev pub digit_of : ℕ → Option ℕ
digit_of b = if nat_le 48 b && nat_le b 57 then Some (b - 48) else None

abbrev pub with_digit : Option ℕ → (ℕ → Option ℕ) → Option ℕ
with_digit (Some d) next = next d
with_digit None next = None

-- the number that digits write after a number
abbrev pub digits_after : ℕ → List ℕ → Option ℕ
digits_after n [] = Some n
digits_after n (b ∷ bs) = with_digit (digit_of b) (λ d. digits_after (10 * n + d) bs)

-- the number that one digit or more write
abbrev pub digits_value : List ℕ → Option ℕ
digits_value [] = None
digits_value bs = digits_after 0 bs

abbrev pub in_range : (ℕ → ℤ) → ℕ → Option ℕ → Option ℤ
in_range sign limit (Some n) = if nat_le n limit then Some (sign n) else None
in_range sign limit None = None

-- the number that a text writes: a sign or none, then digits
abbrev pub number_in : List ℕ → Option ℤ
number_in [] = None
number_in (b ∷ bs) =
    if b == 45 then in_range (λ n. neg_ℤ (pos n)) 9223372036854775808 (digits_value bs) else
    (if b == 43 then in_range pos 9223372036854775807 (digits_value bs) else in_range pos 9223372036854775807 (digits_value (b ∷ bs)))

-- `int(v)`
abbrev pub int_from : Value-F Value → Made
int_from (Value-F.Int z) = int_made z
int_from (Value-F.Bool b) = int_made (if b then pos 1 else pos 0)
int_from (Value-F.Text t) = int_or (fault kind.Value (codes "not a number")) (number_in t)
int_from _ = wrong

abbrev pub only_code : List ℕ → Option ℤ
only_code (b ∷ []) = Some (pos b)
only_code _ = None

-- `ord(v)`
abbrev pub code_of : Value-F Value → Made
code_of (Value-F.Text t) = int_or (fault kind.Value (codes "ord needs one character")) (only_code t)
code_of _ = wrong

-- `chr(v)`
abbrev pub character_of : ℤ → Made
character_of (pos n) = if nat_lt n 128 then made (value.Text (n ∷ [])) else fault kind.Value (codes "character code out of range")
character_of (negsuc n) = fault kind.Value (codes "character code out of range")

abbrev pub character_from : Value-F Value → Made
character_from = on_int character_of

-- the numbers that values are, where each is one
abbrev pub and_more : Option ℤ → Option (List ℤ) → Option (List ℤ)
and_more (Some z) (Some zs) = Some (z ∷ zs)
and_more _ _ = None

abbrev pub int_in : Value-F Value → Option ℤ
int_in (Value-F.Int z) = Some z
int_in _ = None

abbrev pub ints_in : List Value → Option (List ℤ)
ints_in [] = Some []
ints_in (v ∷ vs) = and_more (int_in (out-Value v)) (ints_in vs)

abbrev pub chosen_with : (ℤ → ℤ → ℤ) → ℤ → Option ℤ → Option ℤ
chosen_with choose z (Some other) = Some (choose z other)
chosen_with choose z None = Some z

-- the least or the greatest of numbers
abbrev pub chosen_from : (ℤ → ℤ → ℤ) → List ℤ → Option ℤ
chosen_from choose [] = None
chosen_from choose (z ∷ zs) = chosen_with choose z (chosen_from choose zs)

abbrev pub extreme_of : (ℤ → ℤ → ℤ) → Option (List ℤ) → Made
extreme_of choose (Some zs) = int_or (fault kind.Value (codes "empty list")) (chosen_from choose zs)
extreme_of choose None = wrong

-- `min` and `max` of a list of ints
abbrev pub extreme : (ℤ → ℤ → ℤ) → Sight → Value-F Value → Made
extreme choose sight (Value-F.Ref at) = items_of sight at (λ values. extreme_of choose (ints_in values))
extreme choose sight _ = wrong

abbrev pub least_item : Sight → Value-F Value → Made
least_item = extreme int_min

abbrev pub greatest_item : Sight → Value-F Value → Made
greatest_item = extreme int_max
