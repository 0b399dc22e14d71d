-- The piece that a text begins with: a token, or what stands between tokens.
use Rattle.std.specs.Prelude.{ℕ, ℤ, zero, suc, ◌+◌, List, [], ◌∷◌, Option, Some, None, Bool, ◌&&◌, ◌||◌, if◌then◌else◌, nat_eq, nat_lt, nat_le, take, drop, ◌<◌, ◌≤◌}
use Rattle.std.specs.List.{position_or_len}
use Rattle.indent_lexer.specs.declared.token.LexKind.TheVariants.{BadChar, BadNumber, OpenString}
use Rattle.indent_lexer.specs.declared.token.TokenKind.{TokenKind}
use Rattle.indent_lexer.specs.declared.token.TokenKind.TheVariants as kind
use Rattle.indent_lexer.specs.declared.piece.Piece.{Piece}
use Rattle.indent_lexer.specs.declared.piece.Piece.TheVariants as piece
use Rattle.indent_lexer.specs.declared.text.Literal.{Literal}
use Rattle.indent_lexer.specs.declared.text.Literal.TheVariants as literal
use Rattle.indent_lexer.specs.Place.{line_end_len, begins_with}
use Rattle.indent_lexer.specs.Name.{starts_name, word_len}
use Rattle.indent_lexer.specs.Number.{numeral}
use Rattle.indent_lexer.specs.Literal.{literal_of}
use Rattle.indent_lexer.specs.Word.{is_keyword, operator_len}

-- a comment goes on to the line's end, and holds no NUL (2.1.3)
abbrev pub ends_comment : ℕ → Bool
ends_comment c = nat_eq c 10 || (nat_eq c 13 || nat_eq c 0)

abbrev pub comment_len : List ℕ → ℕ
comment_len text = position_or_len ends_comment text

-- a backslash right before a line end joins the lines (2.1.5); any other is refused
abbrev pub after_backslash : ℕ → Piece
after_backslash zero = piece.Bad BadChar 0
after_backslash (suc n) = piece.Skip (1 + suc n)

-- The name characters from a digit on are one number, and no dot follows it.
abbrev pub number_piece : Option ℤ → ℕ → Piece
number_piece (Some z) len = piece.Token (kind.Number z) len
number_piece None len = piece.Bad BadNumber 0

abbrev pub number_at : ℕ → List ℕ → Piece
number_at len text = if begins_with 46 (drop len text) then piece.Bad BadNumber 0 else number_piece (numeral (take len text)) len

-- A text that is not closed is refused at its quote.
abbrev pub text_piece : Literal → Piece
text_piece (literal.Closed value len) = piece.Token (kind.Text value) len
text_piece literal.Open = piece.Bad OpenString 0
text_piece (literal.Fault k len) = piece.Bad k len

-- the longest name that stands here
abbrev pub word : List ℕ → TokenKind
word spelling = if is_keyword spelling then kind.Keyword spelling else kind.Name spelling

abbrev pub name_at : ℕ → List ℕ → Piece
name_at len text = piece.Token (word (take len text)) len

-- the longest operator that stands here; where there is none, the character begins no token
abbrev pub operator_at : ℕ → List ℕ → Piece
operator_at zero text = piece.Bad BadChar 0
operator_at (suc n) text = piece.Token (kind.Op (take (suc n) text)) (suc n)

abbrev pub is_digit : ℕ → Bool
is_digit c = nat_le 48 c && nat_lt c 58

abbrev pub is_line_end : ℕ → Bool
is_line_end c = nat_eq c 10 || nat_eq c 13

abbrev pub is_quote : ℕ → Bool
is_quote c = nat_eq c 34 || nat_eq c 39

abbrev pub number_or_word : ℕ → List ℕ → Piece
number_or_word c text =
    if is_digit c then number_at (word_len text) text else
    (if starts_name text then name_at (word_len text) text else
    operator_at (operator_len text) text)

-- The piece that the text begins with (2.1, 2.2). Where none stands, `Bad` has the number of bytes before the
-- refused place.
abbrev pub piece_of : List ℕ → Piece
piece_of [] = piece.Skip 0
piece_of (c ∷ cs) =
    if nat_eq c 32 then piece.Space else
    (if nat_eq c 9 then piece.Tab else
    (if is_line_end c then piece.LineEnd (line_end_len (c ∷ cs)) else
    (if nat_eq c 35 then piece.Skip (comment_len (c ∷ cs)) else
    (if nat_eq c 92 then after_backslash (line_end_len cs) else
    (if is_quote c then text_piece (literal_of c (c ∷ cs)) else
    number_or_word c (c ∷ cs))))))

-- a piece takes some bytes, and no more than there are
abbrev pub IsPiece : Piece → ℕ → Type 0
IsPiece (piece.Skip n) left = (0 < n) × (n ≤ left)
IsPiece (piece.LineEnd n) left = (0 < n) × (n ≤ left)
IsPiece (piece.Token kind n) left = (0 < n) × (n ≤ left)
IsPiece (piece.Bad kind n) left = n ≤ left
IsPiece _ left = 0 < left
