-- What the tokens that end and separate say of each other.
use Rattle.std.proofs.Common.{◌≡◌, ℕ, nat_le, Bool, true, false, not, ◌||◌, List, refl, sym, ap, subst, codes}
use Rattle.std.proofs.lemmas.Bool.{leb-true, le-leb}
use Rattle.std.proofs.Common.{arith}
use Rattle.std.specs.Str.{bytes_eq}
use Rattle.std.proofs.lemmas.Slice.Eq.{bytes_eq-Decides}
use Rattle.indent_lexer.specs.declared.token.Token.{Token}
use Rattle.indent_lexer.specs.declared.token.TokenKind.{TokenKind}
use Rattle.indent_lexer.specs.declared.token.TokenKind.TheVariants as kind
use Rattle.grammar_rules.specs.Words.{is_comma, is_spelled, name_in, op_in}
use Rattle.parse_expressions.specs.Forms.{carried_by, opened_by}
use Rattle.parse_expressions.proofs.Tokens.{op_kind}
use Rattle.parse_statements.specs.Readers.{expr_on, postfix_on, starts_expr, starts_postfix}
use Rattle.parse_statements.specs.Items.{closes_in, items_on}
use Rattle.parse_statements.specs.Heads.{is_equals, is_print_word, ends_simple_in, simple_on, row_on}

-- of two spellings, one passes the test
pub either_word : (w u v : List ℕ) (P : List ℕ → Type 0) → bytes_eq w u || bytes_eq w v ≡ true → P u → P v → P w
either_word w u v P h p q =
    let go : (x : Bool) → bytes_eq w u ≡ x → x || bytes_eq w v ≡ true → P w = elim [
      | true ↦ λ e k. subst P (sym ((bytes_eq-Decides w u).0 e)) p
      | false ↦ λ e k. subst P (sym ((bytes_eq-Decides w v).0 k)) q
    ] in
    go (bytes_eq w u) refl h

pub not_false : (x : Bool) → not x ≡ false → x ≡ true
not_false true h = refl
not_false false h = absurd (cc)

closing_ends : (k : TokenKind) → closes_in k ≡ true → nat_le (carried_by k) 12 ≡ false
closing_ends (kind.Op w) h = either_word w (codes ":") (codes ";") (λ z. nat_le (carried_by (kind.Op z)) 12 ≡ false) h refl refl
closing_ends kind.Newline h = refl
closing_ends _ h = absurd (cc)

pub items_wider : (t : Token) → items_on t ≡ false → expr_on t ≡ false
items_wider t h = closing_ends t.kind (not_false (closes_in t.kind) h)

pub comma_ends : (t : Token) → is_comma t ≡ true → expr_on t ≡ false
comma_ends t h = ap (λ k. nat_le (carried_by k) 12) (op_kind (codes ",") t h)

pub comma_own : (t : Token) → is_comma t ≡ true → items_on t ≡ true
comma_own t h = ap (λ k. not (closes_in k)) (op_kind (codes ",") t h)

starts_open : (k : TokenKind) → nat_le (opened_by k) 3 ≡ true → not (closes_in k) ≡ true
starts_open (kind.Op w) h =
    let go : (x : Bool) → closes_in (kind.Op w) ≡ x → not x ≡ true = elim [
      | true ↦ λ e. let k : nat_le (opened_by (kind.Op w)) 3 ≡ false = either_word w (codes ":") (codes ";") (λ z. nat_le (opened_by (kind.Op z)) 3 ≡ false) e refl refl in absurd (cc)
      | false ↦ λ e. refl
    ] in
    go (closes_in (kind.Op w)) refl
starts_open kind.Newline h = absurd (cc)
starts_open _ h = refl

pub starts_own : (t : Token) → starts_expr t ≡ true → items_on t ≡ true
starts_own t h = starts_open t.kind h

-- ---- simple statements

pub one_word : (w u : List ℕ) (P : List ℕ → Type 0) → bytes_eq w u ≡ true → P u → P w
one_word w u P h p = subst P (sym ((bytes_eq-Decides w u).0 h)) p

pub not_true : (x : Bool) → not x ≡ true → x ≡ false
not_true true h = absurd (cc)
not_true false h = refl

simple_items_in : (k : TokenKind) → ends_simple_in k ≡ true → not (closes_in k) ≡ false
simple_items_in (kind.Op w) h = one_word w (codes ";") (λ z. not (closes_in (kind.Op z)) ≡ false) h refl
simple_items_in kind.Newline h = refl
simple_items_in _ h = absurd (cc)

pub simple_items : (t : Token) → simple_on t ≡ false → items_on t ≡ false
simple_items t h = simple_items_in t.kind (not_false (ends_simple_in t.kind) h)

simple_expr_in : (k : TokenKind) → ends_simple_in k ≡ true → nat_le (carried_by k) 12 ≡ false
simple_expr_in (kind.Op w) h = one_word w (codes ";") (λ z. nat_le (carried_by (kind.Op z)) 12 ≡ false) h refl
simple_expr_in kind.Newline h = refl
simple_expr_in _ h = absurd (cc)

pub simple_expr : (t : Token) → simple_on t ≡ false → expr_on t ≡ false
simple_expr t h = simple_expr_in t.kind (not_false (ends_simple_in t.kind) h)

or_not : (x y : Bool) → not y ≡ false → not (x || y) ≡ false
or_not true y h = refl
or_not false y h = h

pub simple_row : (t : Token) → simple_on t ≡ false → row_on t ≡ false
simple_row t h = or_not (is_equals t) (ends_simple_in t.kind) h

pub equals_row : (t : Token) → is_equals t ≡ true → row_on t ≡ false
equals_row t h = ap (λ z. not (z || ends_simple_in t.kind)) h

pub equals_expr : (t : Token) → is_equals t ≡ true → expr_on t ≡ false
equals_expr t h = ap (λ k. nat_le (carried_by k) 12) (op_kind (codes "=") t h)

or_false : (x y : Bool) → not (x || y) ≡ false → (P : Type 0) → (x ≡ true → P) → (y ≡ true → P) → P
or_false true y h P f g = f refl
or_false false y h P f g = g (not_false y h)

pub row_expr : (t : Token) → row_on t ≡ false → expr_on t ≡ false
row_expr t h = or_false (is_equals t) (ends_simple_in t.kind) h (expr_on t ≡ false) (equals_expr t) (simple_expr_in t.kind)

pub comma_row : (t : Token) → is_comma t ≡ true → row_on t ≡ true
comma_row t h = ap (λ k. not (is_spelled (op_in k) (codes "=") || ends_simple_in k)) (op_kind (codes ",") t h)

pub equals_simple : (t : Token) → is_equals t ≡ true → simple_on t ≡ true
equals_simple t h = ap (λ k. not (ends_simple_in k)) (op_kind (codes "=") t h)

pub comma_simple : (t : Token) → is_comma t ≡ true → simple_on t ≡ true
comma_simple t h = ap (λ k. not (ends_simple_in k)) (op_kind (codes ",") t h)

starts_row_in : (k : TokenKind) → nat_le (opened_by k) 3 ≡ true → not (is_spelled (op_in k) (codes "=") || ends_simple_in k) ≡ true
starts_row_in (kind.Op w) h =
    let go : (x : Bool) → bytes_eq w (codes "=") || bytes_eq w (codes ";") ≡ x → not x ≡ true = elim [
      | true ↦ λ e. let k : nat_le (opened_by (kind.Op w)) 3 ≡ false = either_word w (codes "=") (codes ";") (λ z. nat_le (opened_by (kind.Op z)) 3 ≡ false) e refl refl in absurd (cc)
      | false ↦ λ e. refl
    ] in
    go (bytes_eq w (codes "=") || bytes_eq w (codes ";")) refl
starts_row_in kind.Newline h = absurd (cc)
starts_row_in _ h = refl

pub starts_row : (t : Token) → starts_expr t ≡ true → row_on t ≡ true
starts_row t h = starts_row_in t.kind h

wider_number : (n : ℕ) → nat_le n 1 ≡ true → nat_le n 3 ≡ true
wider_number n h = le-leb n 3 (let k = leb-true n 1 h in omega arith)

pub postfix_starts_expr : (t : Token) → starts_postfix t ≡ true → starts_expr t ≡ true
postfix_starts_expr t h = wider_number (opened_by t.kind) h

narrower : (n : ℕ) → nat_le n 12 ≡ false → nat_le n 1 ≡ false
narrower n h =
    let go : (x : Bool) → nat_le n 1 ≡ x → x ≡ false = elim [ true ↦ λ e. let k : nat_le n 12 ≡ true = le-leb n 12 (let l = leb-true n 1 e in omega arith) in absurd (cc) | false ↦ λ e. refl ] in
    go (nat_le n 1) refl

pub expr_postfix_on : (t : Token) → expr_on t ≡ false → postfix_on t ≡ false
expr_postfix_on t h = narrower (carried_by t.kind) h

print_row_in : (k : TokenKind) → is_spelled (name_in k) (codes "print") ≡ true → not (is_spelled (op_in k) (codes "=") || ends_simple_in k) ≡ true
print_row_in (kind.Name w) h = refl
print_row_in _ h = absurd (cc)

pub print_row : (t : Token) → is_print_word t ≡ true → row_on t ≡ true
print_row t h = print_row_in t.kind h

starts_no_print_in : (k : TokenKind) → nat_le (opened_by k) 3 ≡ true → is_spelled (name_in k) (codes "print") ≡ false
starts_no_print_in (kind.Name w) h =
    let go : (x : Bool) → bytes_eq w (codes "print") ≡ x → x ≡ false = elim [
      | true ↦ λ e. let k : nat_le (opened_by (kind.Name w)) 3 ≡ false = one_word w (codes "print") (λ z. nat_le (opened_by (kind.Name z)) 3 ≡ false) e refl in absurd (cc)
      | false ↦ λ e. refl
    ] in
    go (bytes_eq w (codes "print")) refl
starts_no_print_in _ h = refl

pub starts_no_print : (t : Token) → starts_expr t ≡ true → is_print_word t ≡ false
starts_no_print t h = starts_no_print_in t.kind h
