-- What the tokens that begin, carry on and end statements say of each other.
use Rattle.std.proofs.Common.{◌≡◌, nat_le, Bool, true, false, not, ◌||◌, refl, ap, codes}
use Rattle.indent_lexer.specs.declared.token.Token.{Token}
use Rattle.indent_lexer.specs.declared.token.TokenKind.{TokenKind}
use Rattle.indent_lexer.specs.declared.token.TokenKind.TheVariants as kind
use Rattle.parse_laws.specs.Parser.{in_table}
use Rattle.grammar_rules.specs.Words.{is_newline, is_newline_kind, is_dedent, is_dedent_kind, is_spelled, op_in, keyword_in, name_in, named_by}
use Rattle.parse_expressions.specs.Forms.{carried_by, opened_by}
use Rattle.parse_expressions.specs.Reading.{is_if, is_else, is_for, is_in}
use Rattle.parse_expressions.proofs.Leaves.{names_carry}
use Rattle.parse_expressions.proofs.Tokens.{op_kind, keyword_kind, not_keyword, not_op, or_second}
use Rattle.parse_statements.specs.Items.{closes_in, items_on}
use Rattle.parse_statements.specs.Lines.{is_led, starts_simple}
use Rattle.parse_statements.specs.Readers.{expr_on}
use Rattle.parse_statements.specs.Simple.{is_colon, lead_in}
use Rattle.parse_statements.specs.Stages.{is_bracket}
use Rattle.parse_blocks.specs.Blocks.{is_elif, is_while, is_at, starts_stmt, stmt_on, stmts_on}

pub neither : (x y : Bool) → x ≡ false → y ≡ false → x || y ≡ false
neither true y h k = absurd (cc)
neither false y h k = k

pub not_both : (x y : Bool) → (x ≡ true → y ≡ false) → y ≡ true → x ≡ false
not_both true y h k = let m = h refl in absurd (cc)
not_both false y h k = refl

pub false_not : (x : Bool) → not x ≡ false → x ≡ true
false_not true h = refl
false_not false h = absurd (cc)

pub not_it : (x : Bool) → x ≡ false → not x ≡ true
not_it true h = absurd (cc)
not_it false h = refl

-- ---- the kinds of tokens that begin something

abbrev pub simple_kind : TokenKind → Bool
simple_kind k = is_led (lead_in k) || nat_le (opened_by k) 3

abbrev pub stmt_kind : TokenKind → Bool
stmt_kind k = is_spelled (keyword_in k) (codes "if") || (is_spelled (keyword_in k) (codes "while") || (is_spelled (keyword_in k) (codes "for") || (is_spelled (op_in k) (codes "@") || simple_kind k)))

abbrev on_kind : TokenKind → Bool
on_kind k = is_spelled (keyword_in k) (codes "elif") || is_spelled (keyword_in k) (codes "else")

pub simple_no_if : (t : Token) → starts_simple t ≡ true → is_if t ≡ false
simple_no_if t h = not_keyword simple_kind (codes "if") refl t h

pub simple_no_while : (t : Token) → starts_simple t ≡ true → is_while t ≡ false
simple_no_while t h = not_keyword simple_kind (codes "while") refl t h

pub simple_no_for : (t : Token) → starts_simple t ≡ true → is_for t ≡ false
simple_no_for t h = not_keyword simple_kind (codes "for") refl t h

pub simple_no_at : (t : Token) → starts_simple t ≡ true → is_at t ≡ false
simple_no_at t h = not_op simple_kind (codes "@") refl t h

newline_simple_in : (k : TokenKind) → is_newline_kind k ≡ true → simple_kind k ≡ false
newline_simple_in kind.Newline h = refl
newline_simple_in _ h = absurd (cc)

pub simple_no_newline : (t : Token) → starts_simple t ≡ true → is_newline t ≡ false
simple_no_newline t h = not_both (is_newline t) (starts_simple t) (newline_simple_in t.kind) h

pub simple_stmt : (t : Token) → starts_simple t ≡ true → starts_stmt t ≡ true
simple_stmt t h = or_second (is_if t) _ (or_second (is_while t) _ (or_second (is_for t) _ (or_second (is_at t) _ h)))

pub if_stmt : (t : Token) → is_if t ≡ true → starts_stmt t ≡ true
if_stmt t h = ap stmt_kind (keyword_kind (codes "if") t h)

pub while_stmt : (t : Token) → is_while t ≡ true → starts_stmt t ≡ true
while_stmt t h = ap stmt_kind (keyword_kind (codes "while") t h)

pub for_stmt : (t : Token) → is_for t ≡ true → starts_stmt t ≡ true
for_stmt t h = ap stmt_kind (keyword_kind (codes "for") t h)

pub at_stmt : (t : Token) → is_at t ≡ true → starts_stmt t ≡ true
at_stmt t h = ap stmt_kind (op_kind (codes "@") t h)

pub while_no_if : (t : Token) → is_while t ≡ true → is_if t ≡ false
while_no_if t h = ap (λ k. is_spelled (keyword_in k) (codes "if")) (keyword_kind (codes "while") t h)

pub for_no_if : (t : Token) → is_for t ≡ true → is_if t ≡ false
for_no_if t h = ap (λ k. is_spelled (keyword_in k) (codes "if")) (keyword_kind (codes "for") t h)

pub for_no_while : (t : Token) → is_for t ≡ true → is_while t ≡ false
for_no_while t h = ap (λ k. is_spelled (keyword_in k) (codes "while")) (keyword_kind (codes "for") t h)

pub at_no_if : (t : Token) → is_at t ≡ true → is_if t ≡ false
at_no_if t h = ap (λ k. is_spelled (keyword_in k) (codes "if")) (op_kind (codes "@") t h)

pub at_no_while : (t : Token) → is_at t ≡ true → is_while t ≡ false
at_no_while t h = ap (λ k. is_spelled (keyword_in k) (codes "while")) (op_kind (codes "@") t h)

pub at_no_for : (t : Token) → is_at t ≡ true → is_for t ≡ false
at_no_for t h = ap (λ k. is_spelled (keyword_in k) (codes "for")) (op_kind (codes "@") t h)

-- ---- statements one after the other

dedent_stmt_in : (k : TokenKind) → is_dedent_kind k ≡ true → stmt_kind k ≡ false
dedent_stmt_in kind.Dedent h = refl
dedent_stmt_in _ h = absurd (cc)

pub stmt_own : (t : Token) → starts_stmt t ≡ true → stmts_on t ≡ true
stmt_own t h = not_it (is_dedent t) (not_both (is_dedent t) (starts_stmt t) (dedent_stmt_in t.kind) h)

dedent_on_in : (k : TokenKind) → is_dedent_kind k ≡ true → on_kind k ≡ false
dedent_on_in kind.Dedent h = refl
dedent_on_in _ h = absurd (cc)

pub stmt_wider : (t : Token) → stmts_on t ≡ false → stmt_on t ≡ false
stmt_wider t h = dedent_on_in t.kind (false_not (is_dedent t) h)

pub stmt_next : (t : Token) → starts_stmt t ≡ true → stmt_on t ≡ false
stmt_next t h = neither (is_elif t) (is_else t) (not_keyword stmt_kind (codes "elif") refl t h) (not_keyword stmt_kind (codes "else") refl t h)

pub elif_on : (t : Token) → is_elif t ≡ true → stmt_on t ≡ true
elif_on t h = ap on_kind (keyword_kind (codes "elif") t h)

pub else_on : (t : Token) → is_else t ≡ true → stmt_on t ≡ true
else_on t h = ap on_kind (keyword_kind (codes "else") t h)

pub else_no_elif : (t : Token) → is_else t ≡ true → is_elif t ≡ false
else_no_elif t h = ap (λ k. is_spelled (keyword_in k) (codes "elif")) (keyword_kind (codes "else") t h)

or_left_false : (x y : Bool) → x || y ≡ false → x ≡ false
or_left_false true y h = absurd (cc)
or_left_false false y h = refl

pub on_elif : (t : Token) → stmt_on t ≡ false → is_elif t ≡ false
on_elif t h = or_left_false (is_elif t) (is_else t) h

-- ---- what ends the parts of a statement's head

pub colon_expr : (t : Token) → is_colon t ≡ true → expr_on t ≡ false
colon_expr t h = ap (λ k. nat_le (carried_by k) 12) (op_kind (codes ":") t h)

pub colon_items : (t : Token) → is_colon t ≡ true → items_on t ≡ false
colon_items t h = ap (λ k. not (closes_in k)) (op_kind (codes ":") t h)

pub in_names : (t : Token) → is_in t ≡ true → names_carry t ≡ false
in_names t h = ap (λ k. is_spelled (op_in k) (codes ",") || in_table (named_by t (name_in k))) (keyword_kind (codes "in") t h)

newline_bracket_in : (k : TokenKind) → is_newline_kind k ≡ true → is_spelled (op_in k) (codes "(") ≡ false
newline_bracket_in kind.Newline h = refl
newline_bracket_in _ h = absurd (cc)

pub newline_bracket : (t : Token) → is_newline t ≡ true → is_bracket t ≡ false
newline_bracket t h = newline_bracket_in t.kind h
