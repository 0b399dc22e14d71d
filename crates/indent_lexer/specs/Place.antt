-- Places in a text, by the bytes before them.
use Rattle.std.specs.Prelude.{ℕ, ◌+◌, ◌≤◌, List, [], ◌∷◌, Bool, false, ◌&&◌, ◌||◌, not, if◌then◌else◌, nat_eq, nat_lt, nat_le}
use Rattle.codon_base.specs.declared.source.Span.{Span}

-- whether the text begins with the byte
abbrev pub begins_with : ℕ → List ℕ → Bool
begins_with b [] = false
begins_with b (c ∷ cs) = nat_eq c b

-- How many bytes the line end takes that the text begins with, 0 where it begins with none: a line ends with
-- LF, CR LF or CR (Python reference, 2.1.2).
abbrev pub line_end_len : List ℕ → ℕ
line_end_len [] = 0
line_end_len (c ∷ cs) = if nat_eq c 10 then 1 else (if nat_eq c 13 then (if begins_with 10 cs then 2 else 1) else 0)

-- the bytes that go on with a character of UTF-8 whose first byte stands before them
abbrev pub goes_on_char : ℕ → Bool
goes_on_char c = nat_le 128 c && nat_lt c 192

-- The place after the byte c, before the text cs. A CR before an LF is no line end of its own, and columns
-- count characters.
abbrev pub stepped : Span → ℕ → List ℕ → Span
stepped at c cs =
    if nat_eq c 10 || (nat_eq c 13 && not (begins_with 10 cs)) then record { start = at.start + 1; line = at.line + 1; column = 1 }
    else (if nat_eq c 13 || goes_on_char c then record { start = at.start + 1; line = at.line; column = at.column }
    else record { start = at.start + 1; line = at.line; column = at.column + 1 })

-- the place after a piece of text
abbrev pub moved : Span → List ℕ → Span
moved at [] = at
moved at (c ∷ cs) = moved (stepped at c cs) cs

-- the place is one of a text that has at least `left` bytes more, and at most 1,048,576 in all
pub record IsPlace (at : Span) (left : ℕ) : Type 0 where
  pub start : at.start + left ≤ 1_048_576
  pub line : at.line ≤ at.start + 1
  pub column : at.column ≤ at.start + 1
