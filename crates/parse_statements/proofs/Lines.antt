-- The law of lines.
use Rattle.std.proofs.Common.{◌≡◌, ℕ, ◌≤◌, nat_le, Bool, true, false, not, ◌||◌, List, [], ◌∷◌, ◌++◌, refl, ◌∙◌, ap, append_assoc, codes}
use Rattle.indent_lexer.specs.declared.token.Token.{Token}
use Rattle.indent_lexer.specs.declared.token.TokenKind.{TokenKind}
use Rattle.indent_lexer.specs.declared.token.TokenKind.TheVariants as kind
use Rattle.source_trees.specs.declared.statement.Stmt.{Stmt}
use Rattle.parse_laws.specs.Parser.{sees, class_of}
use Rattle.parse_laws.specs.Language.{Law}
use Rattle.parse_laws.specs.Limits.{Limited}
use Rattle.parse_laws.specs.Loops.{Listed, ListedWithin, ListItems}
use Rattle.parse_laws.proofs.Forms.{rename_law}
use Rattle.parse_laws.proofs.Limits.{same_law, close_limited}
use Rattle.parse_laws.proofs.Lists.{FitEach, listed_law}
use Rattle.grammar_rules.specs.Simple.{IsSimple}
use Rattle.grammar_rules.specs.Statements.{IsLine}
use Rattle.grammar_rules.specs.Words.{is_newline, is_newline_kind}
use Rattle.parse_expressions.specs.Forms.{opened_by}
use Rattle.parse_expressions.specs.Reading.{any_number}
use Rattle.parse_expressions.proofs.Leaves.{grows_any}
use Rattle.parse_expressions.proofs.Opens.{sample}
use Rattle.parse_expressions.proofs.Tokens.{op_kind}
use Rattle.parse_statements.specs.Heads.{ends_simple_in, simple_on}
use Rattle.parse_statements.specs.Lines as reading
use Rattle.parse_statements.specs.Lines.{is_semicolon, is_led, starts_simple, line_on}
use Rattle.parse_statements.specs.Readers.{Readers, Exact, LowStmt, LowStmts, starts_expr}
use Rattle.parse_statements.specs.Simple.{Lead, Pass, Break, Continue, Return, Yield, Raise, Assert, Print, Value, lead_in, lead_of, LeadOf, simple}
use Rattle.parse_statements.proofs.Simples.{simple_lead, simple_law}

or_left : (x y : Bool) → x ≡ true → x || y ≡ true
or_left true y h = refl
or_left false y h = absurd (cc)

or_right : (x y : Bool) → y ≡ true → x || y ≡ true
or_right true y h = refl
or_right false y h = h

led_first : (ts : List Token) → is_led (class_of lead_of Value ts) ≡ true → sees starts_simple ts ≡ true
led_first [] h = absurd (cc)
led_first (t ∷ ts) h = or_left (is_led (lead_of t)) (starts_expr t) h

expr_first : (ts : List Token) → sees starts_expr ts ≡ true → sees starts_simple ts ≡ true
expr_first [] h = absurd (cc)
expr_first (t ∷ ts) h = or_right (is_led (lead_of t)) (starts_expr t) h

newline_plain_in : (k : TokenKind) → is_newline_kind k ≡ true → is_led (lead_in k) || nat_le (opened_by k) 3 ≡ false
newline_plain_in kind.Newline h = refl
newline_plain_in _ h = absurd (cc)

starts_line : (t : Token) → starts_simple t ≡ true → line_on t ≡ true
starts_line t h =
    let go : (x : Bool) → is_newline t ≡ x → not x ≡ true = elim [ true ↦ λ e. let k = newline_plain_in t.kind e in absurd (cc) | false ↦ λ e. refl ] in
    go (is_newline t) refl

semicolon_line : (t : Token) → is_semicolon t ≡ true → line_on t ≡ true
semicolon_line t h = ap (λ k. not (is_newline_kind k)) (op_kind (codes ";") t h)

semicolon_ends : (t : Token) → is_semicolon t ≡ true → simple_on t ≡ false
semicolon_ends t h = ap (λ k. not (ends_simple_in k)) (op_kind (codes ";") t h)

line_simple_in : (k : TokenKind) → not (is_newline_kind k) ≡ false → not (ends_simple_in k) ≡ false
line_simple_in kind.Newline h = refl
line_simple_in _ h = absurd (cc)

line_simple : (t : Token) → line_on t ≡ false → simple_on t ≡ false
line_simple t h = line_simple_in t.kind h

module _ (r : Readers) (exact : Exact r) where
  by_lead : (c : Lead) (a : List Token) (w : Stmt) (s : List Token) → class_of lead_of Value (a ++ s) ≡ c → LeadOf c a w → sees starts_simple (a ++ s) ≡ true
  by_lead Value a w s h k =
      expr_first (a ++ s) (ap (λ z. sees starts_expr (z ++ s)) k.joined ∙ ap (sees starts_expr) (append_assoc k.first k.second s) ∙ exact.expr_starts k.first k.value (k.second ++ s) k.heads)
  by_lead Pass a w s h k = led_first (a ++ s) (ap is_led h)
  by_lead Break a w s h k = led_first (a ++ s) (ap is_led h)
  by_lead Continue a w s h k = led_first (a ++ s) (ap is_led h)
  by_lead Return a w s h k = led_first (a ++ s) (ap is_led h)
  by_lead Yield a w s h k = led_first (a ++ s) (ap is_led h)
  by_lead Raise a w s h k = led_first (a ++ s) (ap is_led h)
  by_lead Assert a w s h k = led_first (a ++ s) (ap is_led h)
  by_lead Print a w s h k = led_first (a ++ s) (ap is_led h)

  pub simple_opens : (a : List Token) (w : Stmt) (s : List Token) → IsSimple a w → sees starts_simple (a ++ s) ≡ true
  simple_opens a w s p = by_lead (class_of lead_of Value (a ++ s)) a w s refl (simple_lead r exact a w s p)

  given : ListItems is_semicolon IsSimple starts_simple simple_on line_on
  given = record {
    opens = λ b y rest p. simple_opens b y rest p;
    own = starts_line;
    own_separator = semicolon_line;
    wider = line_simple;
    ends_before = semicolon_ends;
  }

  abbrev Within : List Token → List Stmt × Bool → Type 0
  Within = ListedWithin is_semicolon IsSimple any_number

  pub line_law : (n : ℕ) → 1 ≤ n → (cont : Token → Bool) (ts : List Token) → Law IsLine (Limited IsLine (FitEach (LowStmt n))) cont ts (reading.line r n ts)
  unfolding reading.line
  line_law n some cont ts =
      close_limited is_newline (sample kind.Newline) refl (Listed is_semicolon IsSimple) line_on cont (λ t h. ap not h) (λ row. row.0) (λ row. FitEach (LowStmt n) row.0) (FitEach (LowStmt n))
      (record { grows = λ row f. f; shrinks = λ row f. f }) ts _
      (same_law Within (Listed is_semicolon IsSimple) (λ row. FitEach (LowStmt n) row.0) line_on (λ a w p. p.0) (λ a w p. (p, grows_any [] w.0)) ts _
      (listed_law is_semicolon IsSimple any_number (LowStmt n) starts_simple simple_on line_on given (simple r n) (simple_law r exact n some) refl ts))

each_low : (n : ℕ) (ss : List Stmt) → FitEach (LowStmt n) ss → LowStmts n ss
each_low n [] f = tt
each_low n (s ∷ ss) f = (f.0, each_low n ss f.1)

low_each : (n : ℕ) (ss : List Stmt) → LowStmts n ss → FitEach (LowStmt n) ss
low_each n [] f = tt
low_each n (s ∷ ss) f = (f.0, low_each n ss f.1)

pub lines_law : (r : Readers) → Exact r → (n : ℕ) → 1 ≤ n → (cont : Token → Bool) (ts : List Token) → Law IsLine (Limited IsLine (LowStmts n)) cont ts (reading.line r n ts)
lines_law r exact n some cont ts =
    rename_law IsLine (Limited IsLine (FitEach (LowStmt n))) IsLine (Limited IsLine (LowStmts n)) cont (λ a w g. g) (λ a w g. (g.0, each_low n w g.1)) (λ a w g. g) (λ a w g. (g.0, low_each n w g.1)) ts
    (reading.line r n ts) (line_law r exact n some cont ts)
