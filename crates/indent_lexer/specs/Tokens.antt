-- The tokens of a text, and the first place at which it has none (Python reference, chapter 2).
use Rattle.std.specs.Prelude.{◌≡◌, ℕ, ◌+◌, ◌-◌, ◌<◌, ◌≤◌, List, [], ◌∷◌, ◌++◌, Option, Some, None, Bool, false, ◌&&◌, ◌||◌, if◌then◌else◌, nat_eq, length, take, drop, map, cond, replicate, ◌⊎◌}
use Rattle.std.specs.Str.{IsUtf8, IsValidUpTo}
use Rattle.codon_base.specs.declared.source.Span.{Span}
use Rattle.codon_base.specs.declared.memory.Or.{Or}
use Rattle.codon_base.specs.declared.memory.Or.TheVariants.{No, Memory}
use Rattle.indent_lexer.specs.declared.token.LexKind.{LexKind}
use Rattle.indent_lexer.specs.declared.token.LexKind.TheVariants.{NotUtf8, Tab, BadDedent, TooLong, OpenBracket}
use Rattle.indent_lexer.specs.declared.token.LexRefusal.{LexRefusal}
use Rattle.indent_lexer.specs.declared.token.Token.{Token}
use Rattle.indent_lexer.specs.declared.token.TokenKind.{TokenKind}
use Rattle.indent_lexer.specs.declared.token.TokenKind.TheVariants as kind
use Rattle.indent_lexer.specs.declared.piece.Piece.{Piece}
use Rattle.indent_lexer.specs.declared.piece.Piece.TheVariants as piece
use Rattle.indent_lexer.specs.declared.line.Line.{Line}
use Rattle.indent_lexer.specs.declared.line.Line.TheVariants.{Lead, Within}
use Rattle.indent_lexer.specs.declared.lexer.State.{State}
use Rattle.indent_lexer.specs.declared.fault.Fault.{Fault}
use Rattle.indent_lexer.specs.declared.fault.Fault.TheVariants as fault
use Rattle.indent_lexer.specs.Place.{moved, IsPlace}
use Rattle.indent_lexer.specs.Piece.{piece_of}
use Rattle.indent_lexer.specs.Indentation.{indentation}

-- tokens without a spelling, all at one place
abbrev pub marks : Span → List TokenKind → List Token
marks at kinds = map (λ k. record { kind = k; span = at; len = 0 }) kinds

-- ---- one piece after another

-- What the next piece of a text gives: tokens, what is known after it and how many bytes it takes; or the last
-- tokens; or a refusal.
pub data Next : Type 0 where
  Goes : List Token → State → ℕ → Next
  Ends : List Token → Next
  Stops : LexKind → Span → Next

-- brackets (2.1.6): those that open and close, how deep the place after one is, and the bracket that last raised
-- the depth from 0
abbrev pub is_opening : List ℕ → Bool
is_opening (c ∷ []) = nat_eq c 40 || nat_eq c 91 || nat_eq c 123
is_opening _ = false

abbrev pub is_closing : List ℕ → Bool
is_closing (c ∷ []) = nat_eq c 41 || nat_eq c 93 || nat_eq c 125
is_closing _ = false

abbrev pub opens : TokenKind → Bool
opens (kind.Op spelling) = is_opening spelling
opens _ = false

abbrev pub closes : TokenKind → Bool
closes (kind.Op spelling) = is_closing spelling
closes _ = false

abbrev pub depth_after : TokenKind → ℕ → ℕ
depth_after k depth = if opens k then depth + 1 else (if closes k then depth - 1 else depth)

abbrev pub raised_after : TokenKind → ℕ → Span → Span → Span
raised_after k depth at raised = if opens k && nat_eq depth 0 then at else raised

-- the line after a space, and after a tab: before a line's first token the spaces are counted, and the first tab
-- is kept
abbrev pub after_space : Line → Line
after_space (Lead spaces tab) = Lead (spaces + 1) tab
after_space Within = Within

abbrev pub first_tab : Option Span → Span → Option Span
first_tab (Some before) at = Some before
first_tab None at = Some at

abbrev pub after_tab : Line → Span → Line
after_tab (Lead spaces tab) at = Lead spaces (first_tab tab at)
after_tab Within at = Within

abbrev pub new_line : Line
new_line = Lead 0 None

-- A line end ends the logical line where it holds a token and stands in no bracket (2.1.1, 2.1.6, 2.1.7).
abbrev pub ends_line : Line → ℕ → Bool
ends_line (Lead spaces tab) depth = false
ends_line Within depth = nat_eq depth 0

abbrev pub after_line_end : Line → ℕ → Line
after_line_end (Lead spaces tab) depth = new_line
after_line_end Within depth = if nat_eq depth 0 then new_line else Within

-- blanks between tokens and all that gives no token
abbrev pub passed : State → List ℕ → ℕ → Line → State
passed s text len line = record { at = moved s.at (take len text); line = line; columns = s.columns; depth = s.depth; raised = s.raised }

-- Before the first token of a line: a tab is refused, and so is a column at which no block stands.
pub data Head : Type 0 where
  Stands : List TokenKind → List ℕ → Head
  Refused : LexKind → Span → Head

abbrev pub at_column : Option (List TokenKind × List ℕ) → Span → Head
at_column (Some found) at = Stands found.0 found.1
at_column None at = Refused BadDedent at

abbrev pub head : Line → List ℕ → Span → Head
head Within columns at = Stands [] columns
head (Lead spaces (Some tab)) columns at = Refused Tab tab
head (Lead spaces None) columns at = at_column (indentation spaces columns) at

abbrev pub with_token : Head → State → List ℕ → TokenKind → ℕ → Next
with_token (Refused k at) s text token len = Stops k at
with_token (Stands kinds columns) s text token len =
    Goes (marks s.at kinds ++ record { kind = token; span = s.at; len = len } ∷ [])
    (record { at = moved s.at (take len text); line = Within; columns = columns; depth = depth_after token s.depth; raised = raised_after token s.depth s.at s.raised })
    len

-- a bad indentation is met before a bad character
abbrev pub with_fault : Head → LexKind → Span → Next
with_fault (Refused k at) bad place = Stops k at
with_fault (Stands kinds columns) bad place = Stops bad place

abbrev pub by_piece : State → List ℕ → Piece → Next
by_piece s text piece.Space = Goes [] (passed s text 1 (after_space s.line)) 1
by_piece s text piece.Tab = Goes [] (passed s text 1 (after_tab s.line s.at)) 1
by_piece s text (piece.Skip len) = Goes [] (passed s text len s.line) len
by_piece s text (piece.LineEnd len) = Goes (cond (ends_line s.line s.depth) (marks s.at (kind.Newline ∷ [])) []) (passed s text len (after_line_end s.line s.depth)) len
by_piece s text (piece.Token token len) = with_token (head s.line s.columns s.at) s text token len
by_piece s text (piece.Bad bad len) = with_fault (head s.line s.columns s.at) bad (moved s.at (take len text))

-- At the end of the text each line that holds a token ends, and each block is left. A bracket that is still open
-- is refused.
abbrev pub last_newline : Line → List TokenKind
last_newline (Lead spaces tab) = []
last_newline Within = kind.Newline ∷ []

abbrev pub at_end : State → Next
at_end s =
    if nat_eq s.depth 0 then Ends (marks s.at (last_newline s.line ++ (replicate (length s.columns) kind.Dedent ++ kind.End ∷ [])))
    else Stops OpenBracket s.raised

abbrev pub next : State → List ℕ → Next
next s [] = at_end s
next s (c ∷ cs) = by_piece s (c ∷ cs) (piece_of (c ∷ cs))

-- ---- whole texts

-- the tokens of a text from a place on
pub data Lexes : State → List ℕ → List Token → Type 0 where
  ends : (s : State) (text : List ℕ) (out : List Token) → next s text ≡ Ends out → Lexes s text out
  goes : (s : State) (text : List ℕ) (out : List Token) (s' : State) (len : ℕ) (more : List Token) → next s text ≡ Goes out s' len → Lexes s' (drop len text) more → Lexes s text (out ++ more)

-- the first refusal of a text from a place on
pub data Fails : State → List ℕ → LexKind → Span → Type 0 where
  here : (s : State) (text : List ℕ) (k : LexKind) (at : Span) → next s text ≡ Stops k at → Fails s text k at
  later : (s : State) (text : List ℕ) (out : List Token) (s' : State) (len : ℕ) (k : LexKind) (at : Span) → next s text ≡ Goes out s' len → Fails s' (drop len text) k at → Fails s text k at

-- a leading U+FEFF is skipped, and takes no column (2.1.4)
abbrev pub mark_len : List ℕ → ℕ
mark_len (a ∷ b ∷ c ∷ cs) = if nat_eq a 239 && (nat_eq b 187 && nat_eq c 191) then 3 else 0
mark_len _ = 0

abbrev pub first_place : List ℕ → Span
first_place b = record { start = mark_len b; line = 1; column = 1 }

abbrev pub first_state : List ℕ → State
first_state b = record { at = first_place b; line = new_line; columns = []; depth = 0; raised = first_place b }

-- The bytes are a text of at most 1,048,576 bytes in UTF-8, and these are its tokens.
pub record Tokens (b : List ℕ) (t : List Token) : Type 0 where
  pub short : length b ≤ 1_048_576
  pub utf8 : IsUtf8 b
  pub tokens : Lexes (first_state b) (drop (mark_len b) b) t

-- the place of the n-th byte of a text
abbrev pub place_at : List ℕ → ℕ → Span
place_at b n = moved (first_place b) (take (n - mark_len b) (drop (mark_len b) b))

-- a text with a character that is not UTF-8 is refused at the first byte of the first
pub record IsNotUtf8At (b : List ℕ) (at : Span) : Type 0 where
  pub short : length b ≤ 1_048_576
  pub valid : ℕ
  pub not_utf8 : ¬ (IsUtf8 b)
  pub first_fault : IsValidUpTo b valid
  pub place : at ≡ place_at b valid

pub record IsRefusedAt (b : List ℕ) (k : LexKind) (at : Span) : Type 0 where
  pub short : length b ≤ 1_048_576
  pub utf8 : IsUtf8 b
  pub fault : Fails (first_state b) (drop (mark_len b) b) k at

-- The kind and the place of a text's refusal: its length is looked at first, then its bytes, then its pieces in
-- reading order.
abbrev pub LexPlace : List ℕ → LexRefusal → Type 0
LexPlace b refusal =
    (((1_048_576 < length b) × (refusal ≡ record { kind = TooLong; at = record { start = 0; line = 1; column = 1 } }))
    ⊎ ((refusal.kind ≡ NotUtf8) × IsNotUtf8At b refusal.at))
    ⊎ IsRefusedAt b refusal.kind refusal.at

abbrev pub IsRefusalOf : List ℕ → Or LexRefusal → Type 0
IsRefusalOf b (No refusal) = LexPlace b refusal
IsRefusalOf b Memory = Unit {0}

-- ---- the same, as the steps of the lexer see it

-- the tokens of a text whose bytes are UTF-8
abbrev pub AreTokens : List ℕ → List Token → Type 0
AreTokens b t = Lexes (first_state b) (drop (mark_len b) b) t

abbrev pub IsFaultOf : List ℕ → Fault → Type 0
IsFaultOf b (fault.Refused refusal) = Fails (first_state b) (drop (mark_len b) b) refusal.kind refusal.at
IsFaultOf b fault.Memory = Unit {0}

-- a step goes on, and its tokens are at the end of the list
abbrev pub GoesOn : Next → State → List Token → List Token → ℕ → Type 0
GoesOn x s' old new len = (out : List Token) × (x ≡ Goes out s' len) × (new ≡ old ++ out)

abbrev pub EndsWith : Next → List Token → List Token → Type 0
EndsWith x old new = (out : List Token) × (x ≡ Ends out) × (new ≡ old ++ out)

abbrev pub IsStopOf : Next → Fault → Type 0
IsStopOf x (fault.Refused refusal) = x ≡ Stops refusal.kind refusal.at
IsStopOf x fault.Memory = Unit {0}

abbrev pub HeadGives : Head → Span → List ℕ → List Token → List Token → Type 0
HeadGives h at columns old new = (kinds : List TokenKind) × (h ≡ Stands kinds columns) × (new ≡ old ++ marks at kinds)

abbrev pub IsHeadFaultOf : Head → Fault → Type 0
IsHeadFaultOf h (fault.Refused refusal) = h ≡ Refused refusal.kind refusal.at
IsHeadFaultOf h fault.Memory = Unit {0}

abbrev pub spaces_of : Line → ℕ
spaces_of (Lead spaces tab) = spaces
spaces_of Within = 0

-- at most as many spaces, brackets and columns were met as there are bytes before this place
pub record IsState (s : State) (left : ℕ) : Type 0 where
  pub place : IsPlace s.at left
  pub spaces : spaces_of s.line ≤ s.at.start
  pub depth : s.depth ≤ s.at.start
  pub columns : length s.columns ≤ s.at.start
