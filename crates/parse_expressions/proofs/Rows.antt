-- The laws of rows of expressions with commas, and of arguments in brackets.
use Rattle.std.proofs.Common.{◌≡◌, ℕ, ◌≤◌, nat_le, Bool, true, false, ◌||◌, List, [], ◌∷◌, ◌++◌, length, refl, sym, ◌∙◌, ap, subst, codes, inl, inr, arith, append_assoc}
use Rattle.indent_lexer.specs.declared.token.Token.{Token}
use Rattle.indent_lexer.specs.declared.token.TokenKind.TheVariants as kind
use Rattle.source_trees.specs.declared.expression.Expr.{Expr}
use Rattle.parse_laws.specs.Parser.{Parser, sees, pure, choose, expect, ◌>>=◌, ◌>>◌}
use Rattle.parse_laws.specs.Language.{Language, Law}
use Rattle.parse_laws.specs.Forms.{Ends, Opens, Closes, Either}
use Rattle.parse_laws.specs.Limits.{Limited}
use Rattle.parse_laws.specs.Loops.{Listed, last, trailing, another, ListedWithin, ListItems}
use Rattle.parse_laws.proofs.Lists.{FitEach, most_of, grows_of, listed_law}
use Rattle.parse_laws.proofs.Limits.{same_law, open_limited, close_limited, end_limited, either_law}
use Rattle.parse_laws.proofs.Repeats.{at_head}
use Rattle.grammar_rules.specs.Expressions as g
use Rattle.grammar_rules.specs.Expressions.{IsExpr, IsRow, IsArguments}
use Rattle.grammar_rules.specs.Words.{op_in, is_spelled, is_op, is_comma, most_items}
use Rattle.parse_expressions.specs.declared.form.Form.{Form}
use Rattle.parse_expressions.specs.declared.form.Form.TheVariants as form
use Rattle.parse_expressions.specs.Forms.{Spells, Low, carried_by, opened_by, looseness, begins, carries}
use Rattle.parse_expressions.specs.Reading as reading
use Rattle.parse_expressions.specs.Reading.{is_open, is_close, few}
use Rattle.parse_expressions.proofs.Tokens.{or_first, or_second, or_none, op_kind, not_op}
use Rattle.parse_expressions.proofs.Opens.{op_token, opens}

-- the parts of trees are read by their law
abbrev pub Reads : ℕ → (Form → Parser Token Expr) → Type 0
Reads room sub = (f : Form) (ts : List Token) → Law (Spells f) (Limited (Spells f) (Low room)) (carries (looseness f)) ts (sub f ts)

-- ---- the grammar's rows are lists

pub row_to : (a : List Token) (w : List Expr × Bool) → IsRow a w → Listed is_comma IsExpr a w
row_to _ _ (g.last a x p) = last a x p
row_to _ _ (g.trailing a x c p h) = trailing a x c p h
row_to _ _ (g.another a x c b xs more p h q) = another a x c b xs more p h (row_to b (xs, more) q)

pub row_from : (a : List Token) (w : List Expr × Bool) → Listed is_comma IsExpr a w → IsRow a w
row_from _ _ (last a x p) = g.last a x p
row_from _ _ (trailing a x c p h) = g.trailing a x c p h
row_from _ _ (another a x c b xs more p h q) = g.another a x c b xs more p h (row_from b (xs, more) q)

listed_opens : (a : List Token) (w : List Expr × Bool) → Listed is_comma IsExpr a w → (s : List Token) → sees (begins 3) (a ++ s) ≡ true
listed_opens _ _ (last a x p) s = opens form.Whole a x p s
listed_opens _ _ (trailing a x c p h) s = ap (sees (begins 3)) (append_assoc a (c ∷ []) s) ∙ opens form.Whole a x p (c ∷ s)
listed_opens _ _ (another a x c b xs more p h q) s = ap (sees (begins 3)) (append_assoc a (c ∷ b) s) ∙ opens form.Whole a x p (c ∷ (b ++ s))

-- ---- the law of rows

-- what carries a row on
abbrev pub row_carries : Token → Bool
row_carries t = is_comma t || (begins 3 t || carries 12 t)

pub row_given : ListItems is_comma IsExpr (begins 3) (carries 12) row_carries
row_given = record {
  opens = λ b y rest p. opens form.Whole b y p rest;
  own = λ t h. or_second (is_comma t) (begins 3 t || carries 12 t) (or_first (begins 3 t) (carries 12 t) h);
  own_separator = λ t h. or_first (is_comma t) (begins 3 t || carries 12 t) h;
  wider = λ t h. or_none (begins 3 t) (carries 12 t) (or_none (is_comma t) (begins 3 t || carries 12 t) h);
  ends_before = λ t h. ap (λ k. nat_le (carried_by k) 12) (op_kind (codes ",") t h);
}

-- an operator that neither begins an expression nor carries one on ends a row
pub ends_row : (word : List ℕ) → nat_le (opened_by (kind.Op word)) 3 ≡ false → nat_le (carried_by (kind.Op word)) 12 ≡ false → is_op (codes ",") (op_token word) ≡ false
    → (t : Token) → is_op word t ≡ true → row_carries t ≡ false
ends_row word h i j t e =
    ap (λ k. is_spelled (op_in k) (codes ",") || (nat_le (opened_by k) 3 || nat_le (carried_by k) 12)) (op_kind word t e)
    ∙ ap (λ x. x || (nat_le (opened_by (kind.Op word)) 3 || nat_le (carried_by (kind.Op word)) 12)) j
    ∙ ap (λ x. x || nat_le (carried_by (kind.Op word)) 12) h ∙ i

abbrev pub Row : (List Expr → Bool) → Language Token (List Expr × Bool)
Row limit = ListedWithin is_comma IsExpr limit

abbrev pub LowRow : ℕ → List Expr × Bool → Type 0
LowRow room w = FitEach (Low room) w.0

module _ (room : ℕ) (sub : Form → Parser Token Expr) (below : Reads room sub) where
  pub row_law : (limit : List Expr → Bool) → limit [] ≡ true → (ts : List Token) → Law (Row limit) (Limited (Row limit) (LowRow room)) row_carries ts (reading.row room sub limit ts)
  unfolding reading.row
  row_law limit some ts = listed_law is_comma IsExpr limit (Low room) (begins 3) (carries 12) row_carries row_given (sub form.Whole) (below form.Whole) some ts

  -- ---- arguments

  abbrev After : Language Token (List Expr)
  After = Either (Ends is_close []) (Closes (Row few) is_close (λ w. w.0))

  arguments_to : (a : List Token) (xs : List Expr) → IsArguments a xs → Opens is_open (λ _. After) a xs
  arguments_to _ _ (g.no_arguments o c h i) = (o, c ∷ [], refl, h, inl (c, refl, i, refl))
  arguments_to _ _ (g.arguments o a xs more c h p l i) =
      (o, a ++ c ∷ [], refl, h, inr (a, (xs, more), c, refl, (row_to a (xs, more) p, grows_of most_items [] xs (omega arith)), i, refl))

  arguments_from : (a : List Token) (xs : List Expr) → Opens is_open (λ _. After) a xs → IsArguments a xs
  arguments_from a xs w =
      let A : List Token → Type 0 = λ z. IsArguments z xs in
      elim w.4 as (λ _. IsArguments a xs) [
        | inl k ↦
            let X : List Expr → Type 0 = λ z. IsArguments (w.0 ∷ k.0 ∷ []) z in
            subst A (sym (w.2 ∙ ap (λ z. w.0 ∷ z) k.1)) (subst X (sym k.3) (g.no_arguments w.0 k.0 w.3 k.2))
        | inr k ↦
            let X : List Expr → Type 0 = λ z. IsArguments (w.0 ∷ (k.0 ++ k.2 ∷ [])) z in
            let l : length (k.1.0) ≤ most_items = let m = most_of most_items [] k.1.0 (omega arith) k.4.1 in omega arith in
            subst A (sym (w.2 ∙ ap (λ z. w.0 ∷ z) k.3)) (subst X (sym k.6) (g.arguments w.0 k.0 k.1.0 k.1.1 k.2 w.3 (row_from k.0 k.1 k.4.0) l k.5))
      ]

  close_ends_row : (t : Token) → is_close t ≡ true → row_carries t ≡ false
  close_ends_row = ends_row (codes ")") refl refl refl

  row_is_no_close : (b : List Token) (w : List Expr × Bool) (r : List Token) → Listed is_comma IsExpr b w → sees is_close (b ++ r) ≡ false
  row_is_no_close b w r p = at_head (begins 3) is_close false (λ t h. not_op (λ k. nat_le (opened_by k) 3) (codes ")") refl t h) (b ++ r) (listed_opens b w p r)

  after_law : (cont : Token → Bool) (ts : List Token)
      → Law After (Limited After (FitEach (Low room))) cont ts (choose is_close (expect is_close >>= λ _. pure []) (reading.row room sub few >>= λ xs. expect is_close >> pure xs.0) ts)
  after_law cont ts =
      either_law (Ends is_close []) (Closes (Row few) is_close (λ w. w.0)) (FitEach (Low room)) cont is_close
      (λ a v s k. ap (λ z. sees is_close (z ++ s)) k.1 ∙ k.2)
      (λ a v s k free. ap (λ z. sees is_close (z ++ s)) k.3 ∙ ap (sees is_close) (append_assoc k.0 (k.2 ∷ []) s) ∙ row_is_no_close k.0 k.1 (k.2 ∷ s) k.4.0)
      (expect is_close >>= λ _. pure []) (reading.row room sub few >>= λ xs. expect is_close >> pure xs.0) ts
      (λ h. end_limited is_close [] (FitEach (Low room)) tt cont ts)
      (λ h. close_limited is_close (op_token (codes ")")) refl (Row few) row_carries cont close_ends_row (λ w. w.0) (LowRow room) (FitEach (Low room))
      (record { grows = λ w f. f; shrinks = λ w f. f }) ts (reading.row room sub few ts) (row_law few refl ts))

  pub arguments_law : (cont : Token → Bool) (ts : List Token) → Law IsArguments (Limited IsArguments (FitEach (Low room))) cont ts (reading.arguments room sub ts)
  unfolding reading.arguments
  arguments_law cont ts =
      same_law (Opens is_open (λ _. After)) IsArguments (FitEach (Low room)) cont arguments_from arguments_to ts _
      (open_limited is_open (λ _. After) (FitEach (Low room)) cont
      (λ t h. (op_token (codes ")") ∷ [], [], (inl (op_token (codes ")"), refl, refl, refl), tt)))
      ts (λ _. choose is_close (expect is_close >>= λ _. pure []) (reading.row room sub few >>= λ xs. expect is_close >> pure xs.0))
      (λ t r h e. after_law cont r))
