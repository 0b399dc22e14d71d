-- The lines on err that tell of a refused source: its code, its place, its name and, for some, a detail.
use Rattle.std.specs.Prelude.{ℕ, List, [], ◌++◌, take, drop, Option, Some, None, slice_get, codes, decimal}
use Rattle.codon_base.specs.declared.source.Span.{Span}
use Rattle.indent_lexer.specs.declared.token.LexKind.{LexKind}
use Rattle.indent_lexer.specs.declared.token.LexKind.TheVariants as lexed
use Rattle.indent_lexer.specs.declared.token.LexRefusal.{LexRefusal}
use Rattle.indent_lexer.specs.declared.token.Token.{Token}
use Rattle.indent_lexer.specs.declared.token.TokenKind.{TokenKind}
use Rattle.indent_lexer.specs.declared.token.TokenKind.TheVariants as token
use Rattle.grammar_rules.specs.declared.refusal.ParseKind.{ParseKind}
use Rattle.grammar_rules.specs.declared.refusal.ParseKind.TheVariants as parsed
use Rattle.grammar_rules.specs.declared.refusal.ParseRefusal.{ParseRefusal}

-- `refused CODE LINE:COLUMN NAME`
abbrev pub refusal : List ℕ → Span → List ℕ → List ℕ
refusal code at name = codes "refused " ++ code ++ codes " " ++ decimal at.line ++ codes ":" ++ decimal at.column ++ codes " " ++ name

-- ---- texts without tokens

abbrev pub lex_code : LexKind → List ℕ
lex_code lexed.NotUtf8 = codes "L1"
lex_code lexed.BadChar = codes "L2"
lex_code lexed.Tab = codes "L3"
lex_code lexed.BadDedent = codes "L4"
lex_code lexed.BadNumber = codes "L5"
lex_code lexed.OpenString = codes "L6"
lex_code lexed.NonAsciiText = codes "L7"
lex_code lexed.TooLong = codes "L8"
lex_code lexed.OpenBracket = codes "L9"

abbrev pub lex_name : LexKind → List ℕ
lex_name lexed.NotUtf8 = codes "NotUtf8"
lex_name lexed.BadChar = codes "BadChar"
lex_name lexed.Tab = codes "Tab"
lex_name lexed.BadDedent = codes "BadDedent"
lex_name lexed.BadNumber = codes "BadNumber"
lex_name lexed.OpenString = codes "OpenString"
lex_name lexed.NonAsciiText = codes "NonAsciiText"
lex_name lexed.TooLong = codes "TooLong"
lex_name lexed.OpenBracket = codes "OpenBracket"

abbrev pub lex_line : LexRefusal → List ℕ
lex_line r = refusal (lex_code r.kind) r.at (lex_name r.kind) ++ codes "\n"

-- a file that is longer than a source may be has no text to look at
abbrev pub too_long_line : List ℕ
too_long_line = codes "refused L8 1:1 TooLong\n"

-- ---- tokens without a tree

abbrev pub parse_code : ParseKind → List ℕ
parse_code parsed.Unexpected = codes "P1"
parse_code parsed.TooDeep = codes "P2"
parse_code parsed.NotInProfile = codes "P3"

abbrev pub parse_name : ParseKind → List ℕ
parse_name parsed.Unexpected = codes "Unexpected"
parse_name parsed.TooDeep = codes "TooDeep"
parse_name parsed.NotInProfile = codes "NotInProfile"

-- how a token of a text is spelled there; one without a spelling has a name
abbrev pub spelling_in : List ℕ → Token → List ℕ
spelling_in text t = take t.len (drop t.span.start text)

abbrev pub shown_kind : TokenKind → List ℕ → List ℕ
shown_kind token.Newline spelling = codes "NEWLINE"
shown_kind token.Indent spelling = codes "INDENT"
shown_kind token.Dedent spelling = codes "DEDENT"
shown_kind token.End spelling = codes "END"
shown_kind _ spelling = spelling

abbrev pub shown_token : List ℕ → Token → List ℕ
shown_token text t = shown_kind t.kind (spelling_in text t)

abbrev pub shown_at : List ℕ → Option Token → List ℕ
shown_at text None = []
shown_at text (Some t) = shown_token text t

-- the token is the detail, but where only the height is at fault
abbrev pub detail : ParseKind → List ℕ → List ℕ
detail parsed.TooDeep shown = []
detail _ shown = codes ": " ++ shown

abbrev pub parse_line : List ℕ → List Token → ParseRefusal → List ℕ
parse_line text ts r = refusal (parse_code r.kind) r.at (parse_name r.kind) ++ detail r.kind (shown_at text (slice_get ts r.token)) ++ codes "\n"

-- ---- trees of a form that is not built yet

abbrev pub unbuilt_line : Span → List ℕ
unbuilt_line at = refusal (codes "U1") at (codes "NotYet") ++ codes "\n"
