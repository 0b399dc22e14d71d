-- Texts in quotes (Python reference, 2.4.1).
use Rattle.std.specs.Prelude.{ℕ, zero, suc, ◌+◌, ◌-◌, ◌*◌, List, [], ◌∷◌, ◌++◌, Bool, true, false, ◌&&◌, ◌||◌, if◌then◌else◌, cond, nat_eq, nat_lt, nat_le, ◌<◌, ◌≤◌}
use Rattle.std.specs.Char.{digit_value}
use Rattle.indent_lexer.specs.declared.token.LexKind.TheVariants.{BadChar, NonAsciiText}
use Rattle.indent_lexer.specs.declared.text.Part.{Part}
use Rattle.indent_lexer.specs.declared.text.Part.TheVariants.{Holds, Joins, Closes, Open, Fault}
use Rattle.indent_lexer.specs.declared.text.Literal.{Literal}
use Rattle.indent_lexer.specs.declared.text.Literal.TheVariants as literal
use Rattle.indent_lexer.specs.Place.{line_end_len}

-- three of the quote in a row
abbrev pub begins_with_three : ℕ → List ℕ → Bool
begins_with_three quote (a ∷ b ∷ c ∷ cs) = nat_eq a quote && (nat_eq b quote && nat_eq c quote)
begins_with_three quote _ = false

-- `\xhh`: the character with this code, which is below 128
abbrev pub hex_escape : List ℕ → Part
hex_escape (h ∷ l ∷ cs) =
    if nat_lt (digit_value h) 16 && nat_lt (digit_value l) 16
    then (if nat_lt (digit_value h) 8 then Holds (digit_value h * 16 + digit_value l) 4 else Fault NonAsciiText)
    else Fault BadChar
hex_escape _ = Fault BadChar

-- what a backslash and the text after it stand for
abbrev pub escape : List ℕ → Part
escape [] = Fault BadChar
escape (c ∷ cs) =
    if nat_eq c 92 || nat_eq c 39 || nat_eq c 34 then Holds c 2 else
    (if nat_eq c 110 then Holds 10 2 else
    (if nat_eq c 114 then Holds 13 2 else
    (if nat_eq c 116 then Holds 9 2 else
    (if nat_eq c 120 then hex_escape cs else
    (if nat_eq c 10 || nat_eq c 13 then Joins (1 + line_end_len (c ∷ cs)) else Fault BadChar)))))

-- the closing quotes stand here
abbrev pub closes : ℕ → Bool → List ℕ → Bool
closes quote long [] = false
closes quote long (c ∷ cs) = cond long (begins_with_three quote (c ∷ cs)) (nat_eq c quote)

-- What stands at a place inside a text: a character of its value, or joined lines, or the closing quotes, or
-- what cannot stand there. `long` says that it is closed by three quotes, and so may hold line ends.
abbrev pub part : ℕ → Bool → List ℕ → Part
part quote long [] = Open
part quote long (c ∷ cs) =
    if closes quote long (c ∷ cs) then Closes (cond long 3 1) else
    (if nat_eq c 92 then escape cs else
    (if nat_eq c 10 || nat_eq c 13 then cond long (Holds 10 (line_end_len (c ∷ cs))) Open else
    (if nat_le 128 c then Fault NonAsciiText else
    (if nat_eq c 0 then Fault BadChar else Holds c 1))))

-- the same with bytes before it that stand for some characters
abbrev pub prefixed : List ℕ → ℕ → Literal → Literal
prefixed value len (literal.Closed more n) = literal.Closed (value ++ more) (len + n)
prefixed value len literal.Open = literal.Open
prefixed value len (literal.Fault kind n) = literal.Fault kind (len + n)

-- what a text is from a part on, given what it is after each number of bytes of this part that follow its first
abbrev pub from_part : Part → (ℕ → Literal) → Literal
from_part (Holds c n) rest = prefixed (c ∷ []) 1 (rest (n - 1))
from_part (Joins n) rest = prefixed [] 1 (rest (n - 1))
from_part (Closes n) rest = literal.Closed [] n
from_part Open rest = literal.Open
from_part (Fault kind) rest = literal.Fault kind 0

-- What follows the opening quotes of a text: its value and how many bytes there are to the end of the closing
-- quotes, or what cannot stand there and how many bytes there are before it. The bytes begin with n that belong
-- to the part before them.
abbrev pub inside : ℕ → Bool → ℕ → List ℕ → Literal
inside quote long n [] = literal.Open
inside quote long zero (c ∷ cs) = from_part (part quote long (c ∷ cs)) (λ n. inside quote long n cs)
inside quote long (suc n) (c ∷ cs) = prefixed [] 1 (inside quote long n cs)

-- the text that begins with this quote
abbrev pub literal_of : ℕ → List ℕ → Literal
literal_of quote text = if begins_with_three quote text then inside quote true 3 text else inside quote false 1 text

-- a part takes some bytes, and no more than there are
abbrev pub IsPart : Part → ℕ → Type 0
IsPart (Holds c n) left = (c < 128) × (0 < n) × (n ≤ left)
IsPart (Joins n) left = (0 < n) × (n ≤ left)
IsPart (Closes n) left = (0 < n) × (n ≤ left)
IsPart _ left = Unit {0}

abbrev pub IsLiteral : Literal → ℕ → Type 0
IsLiteral (literal.Closed value n) left = (0 < n) × (n ≤ left)
IsLiteral literal.Open left = Unit {0}
IsLiteral (literal.Fault kind n) left = n ≤ left
