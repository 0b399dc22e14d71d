-- A test that a token passes tells its kind, and the kind tells what every other test says.
use Rattle.std.proofs.Common.{◌≡◌, ℕ, ℤ, ◌≤◌, nat_le, arith, Bool, true, false, ◌&&◌, ◌||◌, cond, List, [], ◌∷◌, refl, sym, ◌∙◌, ap, Some, codes}
use Rattle.std.specs.Str.{bytes_eq}
use Rattle.std.proofs.lemmas.Slice.Eq.{bytes_eq-Decides}
use Rattle.std.proofs.lemmas.Bool.{le-leb, leb-true}
use Rattle.indent_lexer.specs.declared.token.Token.{Token}
use Rattle.indent_lexer.specs.declared.token.TokenKind.{TokenKind}
use Rattle.indent_lexer.specs.declared.token.TokenKind.TheVariants as kind
use Rattle.grammar_rules.specs.Words.{op_in, keyword_in, name_in, number_in, text_in, name_of, number_of, text_of, is_spelled, is_op, is_keyword, is_word, entry, entry_of, look_up}
use Rattle.parse_expressions.specs.Forms.{carried_by, opened_by, carries, begins}

pub bytes_equal : (m n : List ℕ) → bytes_eq m n ≡ true → m ≡ n
bytes_equal m n e = (bytes_eq-Decides m n).0 e

op_kind_in : (k : TokenKind) (word : List ℕ) → is_spelled (op_in k) word ≡ true → k ≡ kind.Op word
op_kind_in (kind.Op spelling) word h = ap (λ w. kind.Op w) (bytes_equal spelling word h)
op_kind_in _ word h = absurd (cc)

pub op_kind : (word : List ℕ) (t : Token) → is_op word t ≡ true → t.kind ≡ kind.Op word
op_kind word t h = op_kind_in t.kind word h

keyword_kind_in : (k : TokenKind) (word : List ℕ) → is_spelled (keyword_in k) word ≡ true → k ≡ kind.Keyword word
keyword_kind_in (kind.Keyword spelling) word h = ap (λ w. kind.Keyword w) (bytes_equal spelling word h)
keyword_kind_in _ word h = absurd (cc)

pub keyword_kind : (word : List ℕ) (t : Token) → is_keyword word t ≡ true → t.kind ≡ kind.Keyword word
keyword_kind word t h = keyword_kind_in t.kind word h

-- each spelling of the table passes the test
abbrev pub all_pass : {O : Type 0} → (List ℕ → Bool) → List (List ℕ × O) → Bool
all_pass test [] = true
all_pass test (row ∷ table) = test row.0 && all_pass test table

pub or_first : (x y : Bool) → x ≡ true → x || y ≡ true
or_first true y h = refl
or_first false y h = absurd (cc)

pub or_second : (x y : Bool) → y ≡ true → x || y ≡ true
or_second true y h = refl
or_second false y h = h

pub or_none : (x y : Bool) → x || y ≡ false → y ≡ false
or_none true y h = absurd (cc)
or_none false y h = h

pub and_first : (x y : Bool) → x && y ≡ true → x ≡ true
and_first true y h = refl
and_first false y h = absurd (cc)

pub and_second : (x y : Bool) → x && y ≡ true → y ≡ true
and_second true y h = h
and_second false y h = absurd (cc)

-- what a table has is at one of its spellings, and so passes each test that these pass
pub entry_passes : {O : Type 0} (test : List ℕ → Bool) (table : List (List ℕ × O)) → all_pass test table ≡ true → (spelling : List ℕ) (o : O) → entry spelling table ≡ Some o → test spelling ≡ true
entry_passes test [] all spelling o h = absurd (cc)
entry_passes {O} test (row ∷ table) all spelling o h =
    let go : (x : Bool) → bytes_eq spelling row.0 ≡ x → cond x (Some row.1) (entry spelling table) ≡ Some o → test spelling ≡ true = elim [
      | true ↦ λ e k. ap test (bytes_equal spelling row.0 e) ∙ and_first (test row.0) (all_pass test table) all
      | false ↦ λ e k. entry_passes test table (and_second (test row.0) (all_pass test table) all) spelling o k
    ] in
    go (bytes_eq spelling row.0) refl h

look_up_in : {O : Type 0} (k : TokenKind) (table : List (List ℕ × O)) (o : O) → entry_of (op_in k) table ≡ Some o → (w : List ℕ) × (k ≡ kind.Op w) × (entry w table ≡ Some o)
look_up_in (kind.Op spelling) table o h = (spelling, refl, h)
look_up_in _ table o h = absurd (cc)

-- a token that a table has passes each test of kinds that the table's operators pass
pub look_up_passes : {O : Type 0} (test : TokenKind → Bool) (table : List (List ℕ × O)) → all_pass (λ w. test (kind.Op w)) table ≡ true → (t : Token) (o : O) → look_up table t ≡ Some o → test t.kind ≡ true
look_up_passes test table all t o h =
    let k = look_up_in t.kind table o h in
    ap test k.1 ∙ entry_passes (λ w. test (kind.Op w)) table all k.0 o k.2

name_kind_in : (k : TokenKind) (spelling : List ℕ) → name_in k ≡ Some spelling → k ≡ kind.Name spelling
name_kind_in (kind.Name s) spelling h = let e : s ≡ spelling = cc in ap (λ w. kind.Name w) e
name_kind_in _ spelling h = absurd (cc)

pub name_kind : (t : Token) (spelling : List ℕ) → name_of t ≡ Some spelling → t.kind ≡ kind.Name spelling
name_kind t spelling h = name_kind_in t.kind spelling h

number_kind_in : (k : TokenKind) (value : ℤ) → number_in k ≡ Some value → k ≡ kind.Number value
number_kind_in (kind.Number v) value h = let e : v ≡ value = cc in ap (λ w. kind.Number w) e
number_kind_in _ value h = absurd (cc)

pub number_kind : (t : Token) (value : ℤ) → number_of t ≡ Some value → t.kind ≡ kind.Number value
number_kind t value h = number_kind_in t.kind value h

text_kind_in : (k : TokenKind) (value : List ℕ) → text_in k ≡ Some value → k ≡ kind.Text value
text_kind_in (kind.Text v) value h = let e : v ≡ value = cc in ap (λ w. kind.Text w) e
text_kind_in _ value h = absurd (cc)

pub text_kind : (t : Token) (value : List ℕ) → text_of t ≡ Some value → t.kind ≡ kind.Text value
text_kind t value h = text_kind_in t.kind value h

-- a name that is no `print` begins an expression
pub plain_name : (t : Token) (spelling : List ℕ) → name_of t ≡ Some spelling → is_word (codes "print") t ≡ false → bytes_eq spelling (codes "print") ≡ false
plain_name t spelling h p = sym (ap (λ k. is_spelled (name_in k) (codes "print")) (name_kind t spelling h)) ∙ p

-- ---- tests that no token passes together

-- a token that passes a test of kinds is not the operator that fails it
pub not_op : (test : TokenKind → Bool) (word : List ℕ) → test (kind.Op word) ≡ false → (t : Token) → test t.kind ≡ true → is_op word t ≡ false
not_op test word fails t h =
    let go : (x : Bool) → is_op word t ≡ x → x ≡ false = elim [
      | true ↦ λ e. let k : test t.kind ≡ false = ap test (op_kind word t e) ∙ fails in absurd (cc)
      | false ↦ λ e. refl
    ] in
    go (is_op word t) refl

pub not_keyword : (test : TokenKind → Bool) (word : List ℕ) → test (kind.Keyword word) ≡ false → (t : Token) → test t.kind ≡ true → is_keyword word t ≡ false
not_keyword test word fails t h =
    let go : (x : Bool) → is_keyword word t ≡ x → x ≡ false = elim [
      | true ↦ λ e. let k : test t.kind ≡ false = ap test (keyword_kind word t e) ∙ fails in absurd (cc)
      | false ↦ λ e. refl
    ] in
    go (is_keyword word t) refl

-- ---- looser and tighter forms

le_trans_true : (k l m : ℕ) → l ≤ m → nat_le k l ≡ true → nat_le k m ≡ true
le_trans_true k l m h e = let i = leb-true k l e in le-leb k m (omega arith)

pub begins_looser : (l m : ℕ) → l ≤ m → (t : Token) → begins l t ≡ true → begins m t ≡ true
begins_looser l m h t e = le_trans_true (opened_by t.kind) l m h e

pub carries_looser : (l m : ℕ) → l ≤ m → (t : Token) → carries m t ≡ false → carries l t ≡ false
carries_looser l m h t e =
    let go : (x : Bool) → carries l t ≡ x → x ≡ false = elim [
      | true ↦ λ k. let i : carries m t ≡ true = le_trans_true (carried_by t.kind) l m h k in absurd (cc)
      | false ↦ λ k. refl
    ] in
    go (carries l t) refl
