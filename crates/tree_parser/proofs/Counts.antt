-- A text has at most three tokens a byte, and two more. A piece that gives a token takes a byte of the text at least,
-- which pays for the token, for an Indent before it and for the Dedent of the column that stands from then on. A line
-- that leaves columns gives as many tokens as it leaves, and so does the end of the text, with two more.
use Rattle.std.proofs.Common.{◌≡◌, ℕ, ℤ, zero, suc, ◌+◌, ◌*◌, ◌^◌, ◌<◌, ◌≤◌, List, [], ◌∷◌, ◌++◌, Bool, true, false, ◌||◌, cond, nat_eq, nat_lt, Option, Some, None, take, drop, replicate, length, refl, subst, arith, length-append, length-drop}
use Rattle.std.proofs.lemmas.List.{length-map, length-replicate}
use Rattle.std.proofs.lemmas.List.Sums.{prefix_len-le-length}
use Rattle.codon_base.specs.declared.source.Span.{Span}
use Rattle.indent_lexer.specs.declared.token.LexKind.{LexKind}
use Rattle.indent_lexer.specs.declared.token.LexKind.TheVariants.{BadNumber, OpenBracket}
use Rattle.indent_lexer.specs.declared.token.Token.{Token}
use Rattle.indent_lexer.specs.declared.token.TokenKind.{TokenKind}
use Rattle.indent_lexer.specs.declared.token.TokenKind.TheVariants as kind
use Rattle.indent_lexer.specs.declared.piece.Piece.{Piece}
use Rattle.indent_lexer.specs.declared.piece.Piece.TheVariants as piece
use Rattle.indent_lexer.specs.declared.text.Literal.{Literal}
use Rattle.indent_lexer.specs.declared.text.Literal.TheVariants as literal
use Rattle.indent_lexer.specs.declared.line.Line.{Line}
use Rattle.indent_lexer.specs.declared.line.Line.TheVariants.{Lead, Within}
use Rattle.indent_lexer.specs.declared.lexer.State.{State}
use Rattle.indent_lexer.specs.Place.{begins_with, line_end_len}
use Rattle.indent_lexer.specs.Name.{starts_name, word_len}
use Rattle.indent_lexer.specs.Number.{numeral}
use Rattle.indent_lexer.specs.Literal.{begins_with_three, prefixed, inside, literal_of}
use Rattle.indent_lexer.specs.Word.{operator_len}
use Rattle.indent_lexer.specs.Piece.{piece_of, comment_len, after_backslash, number_piece, number_at, text_piece, name_at, operator_at, number_or_word, is_digit, is_line_end, is_quote}
use Rattle.indent_lexer.specs.Indentation.{innermost, left_by, indentation}
use Rattle.indent_lexer.specs.Tokens.{marks, Next, Goes, Ends, Stops, passed, after_space, after_tab, after_line_end, ends_line, Head, Stands, Refused, at_column, head, with_token, with_fault, by_piece, last_newline, next, Lexes, ends, goes, first_state, mark_len, Tokens}

-- ---- a piece that gives a token takes a byte

abbrev Takes : Piece → Type 0
Takes (piece.LineEnd n) = 1 ≤ n
Takes (piece.Token k n) = 1 ≤ n
Takes _ = Unit {0}

takes_either : (b : Bool) (p q : Piece) → (b ≡ true → Takes p) → Takes q → Takes (cond b p q)
takes_either true p q f g = f refl
takes_either false p q f g = g

line_end_takes : (lf cr crlf : Bool) → (lf || cr) ≡ true → 1 ≤ cond lf 1 (cond cr (cond crlf 2 1) 0)
line_end_takes true cr crlf e = omega arith
line_end_takes false true true e = omega arith
line_end_takes false true false e = omega arith
line_end_takes false false crlf e = absurd (cc)

backslash_takes : (n : ℕ) → Takes (after_backslash n)
backslash_takes zero = tt
backslash_takes (suc n) = tt

number_piece_takes : (z : Option ℤ) (n : ℕ) → 1 ≤ n → Takes (number_piece z n)
number_piece_takes (Some z) n h = h
number_piece_takes None n h = tt

number_takes : (n : ℕ) (text : List ℕ) → 1 ≤ n → Takes (number_at n text)
number_takes n text h = takes_either (begins_with 46 (drop n text)) (piece.Bad BadNumber 0) (number_piece (numeral (take n text)) n) (λ e. tt) (number_piece_takes (numeral (take n text)) n h)

operator_takes : (n : ℕ) (text : List ℕ) → Takes (operator_at n text)
operator_takes zero text = tt
operator_takes (suc n) text = omega arith

prefixed_takes : (value : List ℕ) (x : Literal) → Takes (text_piece (prefixed value 1 x))
prefixed_takes value (literal.Closed more n) = omega arith
prefixed_takes value literal.Open = tt
prefixed_takes value (literal.Fault k n) = tt

either_text_takes : (b : Bool) (x y : Literal) → Takes (text_piece x) → Takes (text_piece y) → Takes (text_piece (cond b x y))
either_text_takes true x y f g = f
either_text_takes false x y f g = g

text_takes : (quote c : ℕ) (cs : List ℕ) → Takes (text_piece (literal_of quote (c ∷ cs)))
text_takes quote c cs = either_text_takes (begins_with_three quote (c ∷ cs)) (inside quote true 3 (c ∷ cs)) (inside quote false 1 (c ∷ cs)) (prefixed_takes [] (inside quote true 2 cs)) (prefixed_takes [] (inside quote false 0 cs))

word_takes : (c : ℕ) (cs : List ℕ) → 1 ≤ word_len (c ∷ cs)
word_takes c cs = omega arith

number_or_word_takes : (d c : ℕ) (cs : List ℕ) → Takes (number_or_word d (c ∷ cs))
number_or_word_takes d c cs =
    takes_either (is_digit d) (number_at (word_len (c ∷ cs)) (c ∷ cs)) _ (λ e. number_takes (word_len (c ∷ cs)) (c ∷ cs) (word_takes c cs))
    (takes_either (starts_name (c ∷ cs)) (name_at (word_len (c ∷ cs)) (c ∷ cs)) (operator_at (operator_len (c ∷ cs)) (c ∷ cs)) (λ e. word_takes c cs)
    (operator_takes (operator_len (c ∷ cs)) (c ∷ cs)))

takes : (text : List ℕ) → Takes (piece_of text)
takes [] = tt
takes (c ∷ cs) =
    takes_either (nat_eq c 32) piece.Space _ (λ e. tt)
    (takes_either (nat_eq c 9) piece.Tab _ (λ e. tt)
    (takes_either (is_line_end c) (piece.LineEnd (line_end_len (c ∷ cs))) _ (λ e. line_end_takes (nat_eq c 10) (nat_eq c 13) (begins_with 10 cs) e)
    (takes_either (nat_eq c 35) (piece.Skip (comment_len (c ∷ cs))) _ (λ e. tt)
    (takes_either (nat_eq c 92) (after_backslash (line_end_len cs)) _ (λ e. backslash_takes (line_end_len cs))
    (takes_either (is_quote c) (text_piece (literal_of c (c ∷ cs))) (number_or_word c (c ∷ cs)) (λ e. text_takes c c cs)
    (number_or_word_takes c c cs))))))

-- ---- the tokens before a line and the columns then

abbrev Fits : List ℕ → Head → Type 0
Fits columns (Stands kinds left) = length kinds + length left ≤ length columns + 2
Fits columns (Refused k at) = Unit {0}

fits_either : (b : Bool) (columns : List ℕ) (at : Span) (x y : Option (List TokenKind × List ℕ)) → Fits columns (at_column x at) → Fits columns (at_column y at) → Fits columns (at_column (cond b x y) at)
fits_either true columns at x y f g = f
fits_either false columns at x y f g = g

column_fits : (spaces : ℕ) (columns : List ℕ) (at : Span) → Fits columns (at_column (indentation spaces columns) at)
column_fits spaces columns at =
    let most : left_by spaces columns ≤ length columns = prefix_len-le-length _ columns in
    let gone : length (replicate (left_by spaces columns) kind.Dedent) ≡ left_by spaces columns = length-replicate (left_by spaces columns) kind.Dedent in
    let kept = length-drop (left_by spaces columns) columns in
    fits_either (nat_lt (innermost columns) spaces) columns at (Some (kind.Indent ∷ [], spaces ∷ columns)) _ (omega arith)
    (fits_either (nat_eq (innermost (drop (left_by spaces columns) columns)) spaces) columns at (Some (replicate (left_by spaces columns) kind.Dedent, drop (left_by spaces columns) columns)) None (omega arith) tt)

head_fits : (line : Line) (columns : List ℕ) (at : Span) → Fits columns (head line columns at)
head_fits Within columns at = omega arith
head_fits (Lead spaces (Some tab)) columns at = tt
head_fits (Lead spaces None) columns at = column_fits spaces columns at

-- ---- one step

-- three a byte that is left and one a column that stands, less what they were before, pay for the tokens
abbrev Pays : State → List ℕ → Next → Type 0
Pays s text (Goes out s' len) = length out + (3 * length (drop len text) + length s'.columns) ≤ 3 * length text + length s.columns
Pays s text (Ends out) = length out ≤ 3 * length text + length s.columns + 2
Pays s text (Stops k at) = Unit {0}

length_marks : (at : Span) (kinds : List TokenKind) → length (marks at kinds) ≡ length kinds
length_marks at kinds = let f : TokenKind → Token = λ k. record { kind = k; span = at; len = 0 } in length-map kinds f

passed_pays : (s : State) (text : List ℕ) (n : ℕ) (line : Line) → Pays s text (Goes [] (passed s text n line) n)
passed_pays s text n line = let d = length-drop n text in omega arith

line_end_pays : (b : Bool) (s : State) (text : List ℕ) (n : ℕ) (line : Line) → 1 ≤ length text → 1 ≤ n → Pays s text (Goes (cond b (marks s.at (kind.Newline ∷ [])) []) (passed s text n line) n)
line_end_pays true s text n line t h = let d = length-drop n text in omega arith
line_end_pays false s text n line t h = passed_pays s text n line

token_pays : (h : Head) (s : State) (text : List ℕ) (k : TokenKind) (n : ℕ) → Fits s.columns h → 1 ≤ length text → 1 ≤ n → Pays s text (with_token h s text k n)
token_pays (Stands kinds columns) s text k n f t g =
    let token : Token = record { kind = k; span = s.at; len = n } in
    let d = length-drop n text in
    let m = length_marks s.at kinds in
    let a = length-append (marks s.at kinds) (token ∷ []) in
    omega arith
token_pays (Refused j at) s text k n f t g = tt

fault_pays : (h : Head) (s : State) (text : List ℕ) (k : LexKind) (at : Span) → Pays s text (with_fault h k at)
fault_pays (Stands kinds columns) s text k at = tt
fault_pays (Refused j to) s text k at = tt

piece_pays : (s : State) (text : List ℕ) (p : Piece) → 1 ≤ length text → Takes p → Pays s text (by_piece s text p)
piece_pays s text piece.Space t h = passed_pays s text 1 (after_space s.line)
piece_pays s text piece.Tab t h = passed_pays s text 1 (after_tab s.line s.at)
piece_pays s text (piece.Skip n) t h = passed_pays s text n s.line
piece_pays s text (piece.LineEnd n) t h = line_end_pays (ends_line s.line s.depth) s text n (after_line_end s.line s.depth) t h
piece_pays s text (piece.Token k n) t h = token_pays (head s.line s.columns s.at) s text k n (head_fits s.line s.columns s.at) t h
piece_pays s text (piece.Bad k n) t h = fault_pays (head s.line s.columns s.at) s text k _

newline_fits : (line : Line) → length (last_newline line) ≤ 1
newline_fits (Lead spaces tab) = omega arith
newline_fits Within = omega arith

end_pays : (b : Bool) (s : State) → Pays s [] (cond b (Ends (marks s.at (last_newline s.line ++ (replicate (length s.columns) kind.Dedent ++ kind.End ∷ [])))) (Stops OpenBracket s.raised))
end_pays true s =
    let m = length_marks s.at (last_newline s.line ++ (replicate (length s.columns) kind.Dedent ++ kind.End ∷ [])) in
    let a = length-append (last_newline s.line) (replicate (length s.columns) kind.Dedent ++ kind.End ∷ []) in
    let e = length-append (replicate (length s.columns) kind.Dedent) (kind.End ∷ []) in
    let r = length-replicate (length s.columns) kind.Dedent in
    let n = newline_fits s.line in
    omega arith
end_pays false s = tt

next_pays : (s : State) (text : List ℕ) → Pays s text (next s text)
next_pays s [] = end_pays (nat_eq s.depth 0) s
next_pays s (c ∷ cs) = piece_pays s (c ∷ cs) (piece_of (c ∷ cs)) (omega arith) (takes (c ∷ cs))

-- ---- whole texts

pub length_tokens : (s : State) (text : List ℕ) (out : List Token) → Lexes s text out → length out ≤ 3 * length text + length s.columns + 2
length_tokens _ _ _ (ends s text out e) =
    let P : Next → Type 0 = λ z. Pays s text z in
    subst P e (next_pays s text)
length_tokens _ _ _ (goes s text out s' len more e l) =
    let P : Next → Type 0 = λ z. Pays s text z in
    let p : length out + (3 * length (drop len text) + length s'.columns) ≤ 3 * length text + length s.columns = subst P e (next_pays s text) in
    let i = length_tokens s' (drop len text) more l in
    let a = length-append out more in
    omega arith

pub few_tokens : (b : List ℕ) (ts : List Token) → Tokens b ts → length ts < 2 ^ 30
few_tokens b ts h =
    let i = length_tokens (first_state b) (drop (mark_len b) b) ts h.tokens in
    let d = length-drop (mark_len b) b in
    let s = h.short in
    let n : length ts ≤ 3_145_730 = omega arith in
    omega arith
