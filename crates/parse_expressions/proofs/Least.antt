-- A least text of each form of expression, and a text that begins with each token that begins the form.
use Rattle.std.proofs.Common.{◌≡◌, ℕ, ◌≤◌, ◌<◌, nat_le, Bool, true, false, cond, List, [], ◌∷◌, ◌++◌, refl, ◌∙◌, ap, Some, codes, arith}
use Rattle.std.specs.Str.{bytes_eq}
use Rattle.std.proofs.lemmas.Bool.{leb-true}
use Rattle.indent_lexer.specs.declared.token.Token.{Token}
use Rattle.indent_lexer.specs.declared.token.TokenKind.{TokenKind}
use Rattle.indent_lexer.specs.declared.token.TokenKind.TheVariants as kind
use Rattle.source_trees.specs.declared.expression.Expr.{Expr}
use Rattle.source_trees.specs.declared.expression.Expr.TheVariants as expr
use Rattle.source_trees.specs.declared.operator.UnaryOp.{UnaryOp}
use Rattle.source_trees.specs.declared.operator.UnaryOp.TheVariants as unary
use Rattle.parse_laws.specs.Language.{Viable}
use Rattle.grammar_rules.specs.declared.level.Junction.{Junction}
use Rattle.grammar_rules.specs.declared.level.Junction.TheVariants as junction
use Rattle.grammar_rules.specs.declared.level.Rank.{Rank}
use Rattle.grammar_rules.specs.declared.level.Rank.TheVariants as rank
use Rattle.grammar_rules.specs.Expressions as g
use Rattle.grammar_rules.specs.Expressions.{IsExpr, IsJoined, IsJoint, IsNot, IsCompared, IsRanked, IsOperand, IsFactor, IsPostfix, IsAtom}
use Rattle.grammar_rules.specs.Levels.{tighter, signs}
use Rattle.grammar_rules.specs.Words.{op_in, keyword_in, name_in, number_in, text_in, is_spelled, is_op, is_keyword, entry_of, look_up, node_at}
use Rattle.parse_expressions.specs.declared.form.Form.{Form}
use Rattle.parse_expressions.specs.declared.form.Form.TheVariants as form
use Rattle.parse_expressions.specs.Forms.{Spells, row_of, opening_ops, opening_words, opened_by, opening, begins, nowhere}
use Rattle.parse_expressions.proofs.Tokens.{bytes_equal}
use Rattle.parse_expressions.proofs.Opens.{x_token, x_tree, op_token}

-- ---- from a factor to each looser form

term_of_factor : (a : List Token) (x : Expr) → IsFactor a x → IsRanked rank.Term a x
term_of_factor a x p = g.single rank.Term a x (g.factor a x p)

looser : (r next : Rank) → tighter r ≡ Some next → (a : List Token) (x : Expr) → IsRanked next a x → IsRanked r a x
looser r next h a x p = g.single r a x (g.ranked r next a x h p)

sum_of_factor : (a : List Token) (x : Expr) → IsFactor a x → IsRanked rank.Sum a x
sum_of_factor a x p = looser rank.Sum rank.Term refl a x (term_of_factor a x p)

shift_of_factor : (a : List Token) (x : Expr) → IsFactor a x → IsRanked rank.Shift a x
shift_of_factor a x p = looser rank.Shift rank.Sum refl a x (sum_of_factor a x p)

bit_and_of_factor : (a : List Token) (x : Expr) → IsFactor a x → IsRanked rank.BitAnd a x
bit_and_of_factor a x p = looser rank.BitAnd rank.Shift refl a x (shift_of_factor a x p)

bit_xor_of_factor : (a : List Token) (x : Expr) → IsFactor a x → IsRanked rank.BitXor a x
bit_xor_of_factor a x p = looser rank.BitXor rank.BitAnd refl a x (bit_and_of_factor a x p)

bit_or_of_factor : (a : List Token) (x : Expr) → IsFactor a x → IsRanked rank.BitOr a x
bit_or_of_factor a x p = looser rank.BitOr rank.BitXor refl a x (bit_xor_of_factor a x p)

ranked_of_factor : (r : Rank) (a : List Token) (x : Expr) → IsFactor a x → IsRanked r a x
ranked_of_factor rank.Term a x p = term_of_factor a x p
ranked_of_factor rank.Sum a x p = sum_of_factor a x p
ranked_of_factor rank.Shift a x p = shift_of_factor a x p
ranked_of_factor rank.BitAnd a x p = bit_and_of_factor a x p
ranked_of_factor rank.BitXor a x p = bit_xor_of_factor a x p
ranked_of_factor rank.BitOr a x p = bit_or_of_factor a x p

operand_of_factor : (r : Rank) (a : List Token) (x : Expr) → IsFactor a x → IsOperand r a x
operand_of_factor rank.Term a x p = g.factor a x p
operand_of_factor rank.Sum a x p = g.ranked rank.Sum rank.Term a x refl (term_of_factor a x p)
operand_of_factor rank.Shift a x p = g.ranked rank.Shift rank.Sum a x refl (sum_of_factor a x p)
operand_of_factor rank.BitAnd a x p = g.ranked rank.BitAnd rank.Shift a x refl (shift_of_factor a x p)
operand_of_factor rank.BitXor a x p = g.ranked rank.BitXor rank.BitAnd a x refl (bit_and_of_factor a x p)
operand_of_factor rank.BitOr a x p = g.ranked rank.BitOr rank.BitXor a x refl (bit_xor_of_factor a x p)

not_of_factor : (a : List Token) (x : Expr) → IsFactor a x → IsNot a x
not_of_factor a x p = g.comparison a x (g.uncompared a x (bit_or_of_factor a x p))

joint_of_not : (j : Junction) (a : List Token) (x : Expr) → IsNot a x → IsJoint j a x
joint_of_not junction.And a x p = g.negation a x p
joint_of_not junction.Or a x p = g.conjunction a x (g.alone junction.And a x (g.negation a x p))

expr_of_not : (a : List Token) (x : Expr) → IsNot a x → IsExpr a x
expr_of_not a x p = g.plain a x (g.alone junction.Or a x (joint_of_not junction.Or a x p))

-- ---- a least text

least_postfix : IsPostfix (x_token ∷ []) x_tree
least_postfix = g.atom (x_token ∷ []) x_tree (g.name x_token (codes "x") refl refl)

least_factor : IsFactor (x_token ∷ []) x_tree
least_factor = g.base (x_token ∷ []) x_tree least_postfix

least_not : IsNot (x_token ∷ []) x_tree
least_not = not_of_factor (x_token ∷ []) x_tree least_factor

pub least : (f : Form) → Spells f (x_token ∷ []) x_tree
least form.Whole = expr_of_not (x_token ∷ []) x_tree least_not
least (form.Joined j) = g.alone j (x_token ∷ []) x_tree (joint_of_not j (x_token ∷ []) x_tree least_not)
least (form.Joint j) = joint_of_not j (x_token ∷ []) x_tree least_not
least form.Negation = least_not
least form.Compared = g.uncompared (x_token ∷ []) x_tree (ranked_of_factor rank.BitOr (x_token ∷ []) x_tree least_factor)
least (form.Ranked r) = ranked_of_factor r (x_token ∷ []) x_tree least_factor
least (form.Operand r) = operand_of_factor r (x_token ∷ []) x_tree least_factor
least form.Factor = least_factor
least form.Postfix = least_postfix

-- ---- what each token that begins a form begins

-- Whatever follows from each row of a table that has at most this number follows from the number of a spelling.
abbrev Rows : Type 0 → ℕ → List ℕ → List (List ℕ × ℕ) → Type 0
Rows P k spelling [] = Unit {0}
Rows P k spelling (row ∷ table) = (spelling ≡ row.0 → nat_le row.1 k ≡ true → P) × Rows P k spelling table

by_row : {P : Type 0} (k : ℕ) → k < nowhere → (spelling : List ℕ) (table : List (List ℕ × ℕ)) → Rows P k spelling table → nat_le (row_of table spelling) k ≡ true → P
by_row k small spelling [] rows h = absurd (let l = leb-true nowhere k h in omega arith)
by_row {P} k small spelling (row ∷ table) rows h =
    let go : (x : Bool) → bytes_eq spelling row.0 ≡ x → nat_le (cond x row.1 (row_of table spelling)) k ≡ true → P = elim [
      | true ↦ λ e l. rows.0 (bytes_equal spelling row.0 e) l
      | false ↦ λ e l. by_row k small spelling table rows.1 l
    ] in
    go (bytes_eq spelling row.0) refl h

-- what the token begins: an atom, a factor with a sign, or a negation
data Lead (t : Token) : ℕ → Type 0 where
  an_atom : Viable IsAtom (t ∷ []) → Lead t 1
  a_sign : (o : UnaryOp) → look_up signs t ≡ Some o → Lead t 2
  a_not : is_keyword (codes "not") t ≡ true → Lead t 3

abbrev Leads : Token → ℕ → Type 0
Leads t k = (l : ℕ) × (l ≤ k) × Lead t l

op_is : (t : Token) (k : TokenKind) (word : List ℕ) → t.kind ≡ k → k ≡ kind.Op word → bytes_eq word word ≡ true → is_op word t ≡ true
op_is t k word e f h = ap (λ z. is_spelled (op_in z) word) (e ∙ f) ∙ h

keyword_is : (t : Token) (k : TokenKind) (word : List ℕ) → t.kind ≡ k → k ≡ kind.Keyword word → bytes_eq word word ≡ true → is_keyword word t ≡ true
keyword_is t k word e f h = ap (λ z. is_spelled (keyword_in z) word) (e ∙ f) ∙ h

begins_bracket : (t : Token) → is_op (codes "(") t ≡ true → Viable IsAtom (t ∷ [])
begins_bracket t h =
    (x_token ∷ op_token (codes ")") ∷ [], expr.Bracketed (node_at t) x_tree, g.bracketed t (x_token ∷ []) x_tree (op_token (codes ")")) h (least form.Whole) refl)

begins_square : (t : Token) → is_op (codes "[") t ≡ true → Viable IsAtom (t ∷ [])
begins_square t h = (op_token (codes "]") ∷ [], expr.List (node_at t) [], g.empty_list t (op_token (codes "]")) h refl)

sign_is : (t : Token) (k : TokenKind) (word : List ℕ) (o : UnaryOp) → t.kind ≡ k → k ≡ kind.Op word → entry_of (Some word) signs ≡ Some o → look_up signs t ≡ Some o
sign_is t k word o e f h = ap (λ z. entry_of (op_in z) signs) (e ∙ f) ∙ h

lead_op : (t : Token) (k : ℕ) → k < nowhere → (spelling : List ℕ) → t.kind ≡ kind.Op spelling → nat_le (row_of opening_ops spelling) k ≡ true → Leads t k
lead_op t k small spelling e h =
    by_row k small spelling opening_ops (
      (λ f l. (1, leb-true 1 k l, an_atom (begins_bracket t (op_is t (kind.Op spelling) (codes "(") e (ap (λ z. kind.Op z) f) refl)))),
      (
        (λ f l. (1, leb-true 1 k l, an_atom (begins_square t (op_is t (kind.Op spelling) (codes "[") e (ap (λ z. kind.Op z) f) refl)))),
        (
          (λ f l. (2, leb-true 2 k l, a_sign unary.Plus (sign_is t (kind.Op spelling) (codes "+") unary.Plus e (ap (λ z. kind.Op z) f) refl))),
          (
            (λ f l. (2, leb-true 2 k l, a_sign unary.Minus (sign_is t (kind.Op spelling) (codes "-") unary.Minus e (ap (λ z. kind.Op z) f) refl))),
            ((λ f l. (2, leb-true 2 k l, a_sign unary.Invert (sign_is t (kind.Op spelling) (codes "~") unary.Invert e (ap (λ z. kind.Op z) f) refl))), tt),
          ),
        ),
      ),
    )
    h

lead_word : (t : Token) (k : ℕ) → k < nowhere → (spelling : List ℕ) → t.kind ≡ kind.Keyword spelling → nat_le (row_of opening_words spelling) k ≡ true → Leads t k
lead_word t k small spelling e h =
    let is : (word : List ℕ) → spelling ≡ word → bytes_eq word word ≡ true → is_keyword word t ≡ true =
    λ word f i. keyword_is t (kind.Keyword spelling) word e (ap (λ z. kind.Keyword z) f) i in
    by_row k small spelling opening_words (
      (λ f l. (1, leb-true 1 k l, an_atom ([], expr.True (node_at t), g.yes t (is (codes "True") f refl)))),
      (
        (λ f l. (1, leb-true 1 k l, an_atom ([], expr.False (node_at t), g.no t (is (codes "False") f refl)))),
        (
          (λ f l. (1, leb-true 1 k l, an_atom ([], expr.None (node_at t), g.nothing t (is (codes "None") f refl)))),
          ((λ f l. (3, leb-true 3 k l, a_not (is (codes "not") f refl))), tt),
        ),
      ),
    )
    h

lead_name : (t : Token) (k : ℕ) → k < nowhere → (spelling : List ℕ) → t.kind ≡ kind.Name spelling → (x : Bool) → bytes_eq spelling (codes "print") ≡ x → nat_le (cond x nowhere 1) k ≡ true → Leads t k
lead_name t k small spelling e true f h = absurd (let l = leb-true nowhere k h in omega arith)
lead_name t k small spelling e false f h =
    (1, leb-true 1 k h, an_atom ([], expr.Name (node_at t) spelling, g.name t spelling (ap name_in e) (ap (λ z. is_spelled (name_in z) (codes "print")) e ∙ f)))

lead_of : (t : Token) (k : ℕ) → k < nowhere → (q : TokenKind) → t.kind ≡ q → nat_le (opened_by q) k ≡ true → Leads t k
lead_of t k small (kind.Name spelling) e h = lead_name t k small spelling e (bytes_eq spelling (codes "print")) refl h
lead_of t k small (kind.Number value) e h = (1, leb-true 1 k h, an_atom ([], expr.Number (node_at t) value, g.number t value (ap number_in e)))
lead_of t k small (kind.Text value) e h =
    (1, leb-true 1 k h, an_atom ([], expr.Text (node_at t) (value ++ []), g.texts t value [] [] (ap text_in e) g.no_more))
lead_of t k small (kind.Op spelling) e h = lead_op t k small spelling e h
lead_of t k small (kind.Keyword spelling) e h = lead_word t k small spelling e h
lead_of t k small _ e h = absurd (let l = leb-true nowhere k h in omega arith)

viable_made : (G H : List Token → Expr → Type 0) → ((a : List Token) (v : Expr) → G a v → H a v) → (before : List Token) → Viable G before → Viable H before
viable_made G H up before g = (g.0, g.1, up (before ++ g.0) g.1 g.2)

factor_of_atom : (a : List Token) (v : Expr) → IsAtom a v → IsFactor a v
factor_of_atom a v p = g.base a v (g.atom a v p)

by_lead : (t : Token) (l : ℕ) → Lead t l → l ≤ 2 → Viable IsFactor (t ∷ [])
by_lead t _ (an_atom v) small = viable_made IsAtom IsFactor factor_of_atom (t ∷ []) v
by_lead t _ (a_sign o h) small = (x_token ∷ [], expr.Unary (node_at t) o x_tree, g.signed t o (x_token ∷ []) x_tree h least_factor)
by_lead t _ (a_not h) small = absurd (omega arith)

lead_factor : (t : Token) → Leads t 2 → Viable IsFactor (t ∷ [])
lead_factor t l = by_lead t l.0 l.2 l.1

lead_not : (t : Token) (l : ℕ) → Lead t l → Viable IsNot (t ∷ [])
lead_not t _ (an_atom v) = viable_made IsAtom IsNot (λ a x p. not_of_factor a x (factor_of_atom a x p)) (t ∷ []) v
lead_not t _ (a_sign o h) = viable_made IsFactor IsNot not_of_factor (t ∷ []) (x_token ∷ [], expr.Unary (node_at t) o x_tree, g.signed t o (x_token ∷ []) x_tree h least_factor)
lead_not t _ (a_not h) = (x_token ∷ [], expr.Not (node_at t) x_tree, g.inverse t (x_token ∷ []) x_tree h least_not)

lead_atom : (t : Token) (l : ℕ) → Lead t l → l ≤ 1 → Viable IsPostfix (t ∷ [])
lead_atom t _ (an_atom v) small = viable_made IsAtom IsPostfix (λ a x p. g.atom a x p) (t ∷ []) v
lead_atom t _ (a_sign o h) small = absurd (omega arith)
lead_atom t _ (a_not h) small = absurd (omega arith)

lead_only : (t : Token) (l : ℕ) → Lead t l → l ≤ 1 → Viable IsAtom (t ∷ [])
lead_only t _ (an_atom v) small = v
lead_only t _ (a_sign o h) small = absurd (omega arith)
lead_only t _ (a_not h) small = absurd (omega arith)

pub atom_at : (t : Token) → begins 1 t ≡ true → Viable IsAtom (t ∷ [])
atom_at t h = let l = lead_of t 1 (omega arith) t.kind refl h in lead_only t l.0 l.2 l.1

factor_at : (t : Token) → begins 2 t ≡ true → Viable IsFactor (t ∷ [])
factor_at t h = lead_factor t (lead_of t 2 (omega arith) t.kind refl h)

not_at : (t : Token) → begins 3 t ≡ true → Viable IsNot (t ∷ [])
not_at t h = let l = lead_of t 3 (omega arith) t.kind refl h in lead_not t l.0 l.2

-- each token that begins a form begins a text of it
pub viable_at : (f : Form) (t : Token) → begins (opening f) t ≡ true → Viable (Spells f) (t ∷ [])
viable_at form.Whole t h = viable_made IsNot IsExpr expr_of_not (t ∷ []) (not_at t h)
viable_at (form.Joined j) t h = viable_made IsNot (IsJoined j) (λ a x p. g.alone j a x (joint_of_not j a x p)) (t ∷ []) (not_at t h)
viable_at (form.Joint j) t h = viable_made IsNot (IsJoint j) (joint_of_not j) (t ∷ []) (not_at t h)
viable_at form.Negation t h = not_at t h
viable_at form.Compared t h = viable_made IsFactor IsCompared (λ a x p. g.uncompared a x (bit_or_of_factor a x p)) (t ∷ []) (factor_at t h)
viable_at (form.Ranked r) t h = viable_made IsFactor (IsRanked r) (ranked_of_factor r) (t ∷ []) (factor_at t h)
viable_at (form.Operand r) t h = viable_made IsFactor (IsOperand r) (operand_of_factor r) (t ∷ []) (factor_at t h)
viable_at form.Factor t h = factor_at t h
viable_at form.Postfix t h = let l = lead_of t 1 (omega arith) t.kind refl h in lead_atom t l.0 l.2 l.1
