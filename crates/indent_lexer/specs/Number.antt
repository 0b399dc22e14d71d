-- Whole numbers (Python reference, 2.4.5), none over 2^63 - 1.
use Rattle.std.specs.Prelude.{ℕ, ℤ, pos, ◌+◌, ◌*◌, ◌^◌, List, [], ◌∷◌, Option, Some, None, Bool, true, false, ◌&&◌, ◌||◌, not, if◌then◌else◌, nat_eq, nat_lt}
use Rattle.std.specs.List.{fold, list_all}
use Rattle.std.specs.Char.{digit_value}

-- a digit of the base, or an underscore
abbrev pub is_digit_in : ℕ → ℕ → Bool
is_digit_in base c = nat_eq c 95 || nat_lt (digit_value c) base

abbrev pub begins_with_digit : List ℕ → Bool
begins_with_digit [] = false
begins_with_digit (c ∷ cs) = not (nat_eq c 95)

-- each underscore stands alone before a digit
abbrev pub is_separated : List ℕ → Bool
is_separated [] = true
is_separated (c ∷ cs) = (not (nat_eq c 95) || begins_with_digit cs) && is_separated cs

-- what digits stand for, after those before them that stand for n
abbrev pub with_digit : ℕ → ℕ → ℕ → ℕ
with_digit base n c = if nat_eq c 95 then n else n * base + digit_value c

abbrev pub value_in : ℕ → List ℕ → ℕ
value_in base digits = fold (with_digit base) 0 digits

-- the number that the digits stand for, if they are of the base and stand for one of 63 bits
abbrev pub number_in : ℕ → List ℕ → Option ℤ
number_in base [] = None
number_in base (c ∷ cs) =
    if list_all (is_digit_in base) (c ∷ cs) && is_separated (c ∷ cs) && nat_lt (value_in base (c ∷ cs)) (2 ^ 63)
    then Some (pos (value_in base (c ∷ cs))) else None

-- the base that a letter after a zero stands for
abbrev pub base_of : ℕ → Option ℕ
base_of c =
    if nat_eq c 120 || nat_eq c 88 then Some 16 else
    (if nat_eq c 111 || nat_eq c 79 then Some 8 else
    (if nat_eq c 98 || nat_eq c 66 then Some 2 else None))

abbrev pub is_zero : ℕ → Bool
is_zero c = nat_eq c 48 || nat_eq c 95

-- no zero stands before other digits
abbrev pub is_plain : List ℕ → Bool
is_plain [] = true
is_plain (c ∷ cs) = not (nat_eq c 48) || list_all is_zero cs

abbrev pub decimal : List ℕ → Option ℤ
decimal digits = if is_plain digits then number_in 10 digits else None

abbrev pub in_base_or_decimal : Option ℕ → List ℕ → List ℕ → Option ℤ
in_base_or_decimal (Some base) after whole = number_in base after
in_base_or_decimal None after whole = decimal whole

-- the number that a spelling stands for, where it is one
abbrev pub numeral : List ℕ → Option ℤ
numeral (c ∷ d ∷ ds) = if nat_eq c 48 then in_base_or_decimal (base_of d) ds (c ∷ d ∷ ds) else decimal (c ∷ d ∷ ds)
numeral spelling = decimal spelling
