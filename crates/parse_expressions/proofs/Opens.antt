-- The token that each form of expression begins with, and a least text of each form.
use Rattle.std.proofs.Common.{◌≡◌, ℕ, ◌≤◌, nat_le, true, cond, List, [], ◌∷◌, ◌++◌, refl, sym, ◌∙◌, ap, Option, Some, None, codes, append_assoc, arith}
use Rattle.indent_lexer.specs.declared.token.Token.{Token}
use Rattle.indent_lexer.specs.declared.token.TokenKind.{TokenKind}
use Rattle.indent_lexer.specs.declared.token.TokenKind.TheVariants as kind
use Rattle.source_trees.specs.declared.expression.Expr.{Expr}
use Rattle.source_trees.specs.declared.expression.Expr.TheVariants as e
use Rattle.source_trees.specs.declared.node.Name.{Name}
use Rattle.parse_laws.specs.Parser.{sees}
use Rattle.parse_laws.proofs.Repeats.{at_head}
use Rattle.grammar_rules.specs.declared.level.Junction.{Junction}
use Rattle.grammar_rules.specs.declared.level.Junction.TheVariants as junction
use Rattle.grammar_rules.specs.declared.level.Rank.{Rank}
use Rattle.grammar_rules.specs.declared.level.Rank.TheVariants as rank
use Rattle.grammar_rules.specs.Expressions as g
use Rattle.grammar_rules.specs.Expressions.{IsExpr, IsJoined, IsJoint, IsNot, IsCompared, IsRanked, IsOperand, IsFactor, IsPostfix, IsAtom}
use Rattle.grammar_rules.specs.Levels.{signs}
use Rattle.grammar_rules.specs.Words.{is_op, is_keyword, name_of, named_by, node_at}
use Rattle.parse_expressions.specs.declared.form.Form.{Form}
use Rattle.parse_expressions.specs.declared.form.Form.TheVariants as form
use Rattle.parse_expressions.specs.Forms.{Spells, opened_by, opening, begins, nowhere}
use Rattle.parse_expressions.proofs.Tokens.{op_kind, keyword_kind, name_kind, number_kind, text_kind, plain_name, look_up_passes, begins_looser}

-- ---- samples

abbrev pub sample : TokenKind → Token
sample k = record { kind = k; span = record { start = 0; line = 1; column = 1 }; len = 0 }

-- a name, and the tree that it is
abbrev pub x_token : Token
x_token = sample (kind.Name (codes "x"))

abbrev pub x_tree : Expr
x_tree = e.Name (node_at x_token) (codes "x")

abbrev pub op_token : List ℕ → Token
op_token word = sample (kind.Op word)

abbrev pub keyword_token : List ℕ → Token
keyword_token word = sample (kind.Keyword word)

pub name_spelling : (t : Token) (name : Name) → (o : Option (List ℕ)) → o ≡ name_of t → named_by t o ≡ Some name → (spelling : List ℕ) × (name_of t ≡ Some spelling) × (name ≡ record { node = node_at t; spelling = spelling })
name_spelling t name None e h = absurd (cc)
name_spelling t name (Some s) e h = (s, sym e, let k : Some (record { node = node_at t; spelling = s }) ≡ Some name = h in cc)

-- ---- what stands first

abbrev Opens : ℕ → List Token → Type 0
Opens k a = (s : List Token) → sees (begins k) (a ++ s) ≡ true

looser : (k l : ℕ) → k ≤ l → (a : List Token) → Opens k a → Opens l a
looser k l h a o s = at_head (begins k) (begins l) true (begins_looser k l h) (a ++ s) (o s)

further : (k : ℕ) (a b : List Token) → Opens k a → Opens k (a ++ b)
further k a b o s = ap (sees (begins k)) (append_assoc a b s) ∙ o (b ++ s)

op_opens : (k : ℕ) (word : List ℕ) → nat_le (opened_by (kind.Op word)) k ≡ true → (t : Token) → is_op word t ≡ true → begins k t ≡ true
op_opens k word h t e = ap (λ z. nat_le (opened_by z) k) (op_kind word t e) ∙ h

word_opens : (k : ℕ) (word : List ℕ) → nat_le (opened_by (kind.Keyword word)) k ≡ true → (t : Token) → is_keyword word t ≡ true → begins k t ≡ true
word_opens k word h t e = ap (λ z. nat_le (opened_by z) k) (keyword_kind word t e) ∙ h

opens_atom : (a : List Token) (v : Expr) → IsAtom a v → Opens 1 a
opens_atom _ _ (g.name t spelling h p) s =
    ap (λ k. nat_le (opened_by k) 1) (name_kind t spelling h) ∙ ap (λ b. nat_le (cond b nowhere 1) 1) (plain_name t spelling h p)
opens_atom _ _ (g.call t callee a xs h p q) s =
    let n = name_spelling t callee (name_of t) refl h in
    ap (λ k. nat_le (opened_by k) 1) (name_kind t n.0 n.1) ∙ ap (λ b. nat_le (cond b nowhere 1) 1) (plain_name t n.0 n.1 p)
opens_atom _ _ (g.number t value h) s = ap (λ k. nat_le (opened_by k) 1) (number_kind t value h)
opens_atom _ _ (g.texts t value a more h p) s = ap (λ k. nat_le (opened_by k) 1) (text_kind t value h)
opens_atom _ _ (g.yes t h) s = word_opens 1 (codes "True") refl t h
opens_atom _ _ (g.no t h) s = word_opens 1 (codes "False") refl t h
opens_atom _ _ (g.nothing t h) s = word_opens 1 (codes "None") refl t h
opens_atom _ _ (g.bracketed t a x u h p i) s = op_opens 1 (codes "(") refl t h
opens_atom _ _ (g.tuple t a xs u h p l i) s = op_opens 1 (codes "(") refl t h
opens_atom _ _ (g.empty_list t u h i) s = op_opens 1 (codes "[") refl t h
opens_atom _ _ (g.list t a xs more u h p i) s = op_opens 1 (codes "[") refl t h
opens_atom _ _ (g.comprehension t a x f b ns i c y d z u h p q r j k l m) s = op_opens 1 (codes "[") refl t h

opens_postfix : (a : List Token) (v : Expr) → IsPostfix a v → Opens 1 a
opens_postfix _ _ (g.atom a x p) = opens_atom a x p
opens_postfix _ _ (g.index a x o b y c p h q i) = further 1 a (o ∷ (b ++ c ∷ [])) (opens_postfix a x p)
opens_postfix _ _ (g.slice a x o b y d c z u p h q i r j) = further 1 a (o ∷ (b ++ d ∷ (c ++ u ∷ []))) (opens_postfix a x p)
opens_postfix _ _ (g.field a x d t s p h i) = further 1 a (d ∷ t ∷ []) (opens_postfix a x p)
opens_postfix _ _ (g.method a x d t s b xs p h i q) = further 1 a (d ∷ t ∷ b) (opens_postfix a x p)

opens_factor : (a : List Token) (v : Expr) → IsFactor a v → Opens 2 a
opens_factor _ _ (g.base a x p) = looser 1 2 (omega arith) a (opens_postfix a x p)
opens_factor _ _ (g.power a x t b y p h q) = looser 1 2 (omega arith) (a ++ t ∷ b) (further 1 a (t ∷ b) (opens_postfix a x p))
opens_factor _ _ (g.signed t o a x h p) = λ s. look_up_passes (λ k. nat_le (opened_by k) 2) signs refl t o h

mutual
  opens_ranked : (r : Rank) (a : List Token) (v : Expr) → IsRanked r a v → Opens 2 a
  opens_ranked _ _ _ (g.single r a x p) = opens_operand r a x p
  opens_ranked _ _ _ (g.operation r a x t o b y p h q) = further 2 a (t ∷ b) (opens_ranked r a x p)

  opens_operand : (r : Rank) (a : List Token) (v : Expr) → IsOperand r a v → Opens 2 a
  opens_operand _ _ _ (g.factor a x p) = opens_factor a x p
  opens_operand _ _ _ (g.ranked r n a x h p) = opens_ranked n a x p

opens_compared : (a : List Token) (v : Expr) → IsCompared a v → Opens 2 a
opens_compared _ _ (g.uncompared a x p) = opens_ranked rank.BitOr a x p
opens_compared _ _ (g.compared a x b cs p q) = further 2 a b (opens_ranked rank.BitOr a x p)

opens_not : (a : List Token) (v : Expr) → IsNot a v → Opens 3 a
opens_not _ _ (g.comparison a x p) = looser 2 3 (omega arith) a (opens_compared a x p)
opens_not _ _ (g.inverse t a x h p) = λ s. word_opens 3 (codes "not") refl t h

mutual
  opens_joined : (j : Junction) (a : List Token) (v : Expr) → IsJoined j a v → Opens 3 a
  opens_joined _ _ _ (g.alone j a x p) = opens_joint j a x p
  opens_joined _ _ _ (g.several j a x b xs p q) = further 3 a b (opens_joint j a x p)

  opens_joint : (j : Junction) (a : List Token) (v : Expr) → IsJoint j a v → Opens 3 a
  opens_joint _ _ _ (g.conjunction a x p) = opens_joined junction.And a x p
  opens_joint _ _ _ (g.negation a x p) = opens_not a x p

opens_expr : (a : List Token) (v : Expr) → IsExpr a v → Opens 3 a
opens_expr _ _ (g.plain a x p) = opens_joined junction.Or a x p
opens_expr _ _ (g.conditional a x t b c u d y p h q i r) = further 3 a (t ∷ (b ++ u ∷ d)) (opens_joined junction.Or a x p)

-- each text of a form begins with a token that begins the form
pub opens : (f : Form) (a : List Token) (v : Expr) → Spells f a v → (s : List Token) → sees (begins (opening f)) (a ++ s) ≡ true
opens form.Whole a v p = opens_expr a v p
opens (form.Joined j) a v p = opens_joined j a v p
opens (form.Joint j) a v p = opens_joint j a v p
opens form.Negation a v p = opens_not a v p
opens form.Compared a v p = opens_compared a v p
opens (form.Ranked r) a v p = opens_ranked r a v p
opens (form.Operand r) a v p = opens_operand r a v p
opens form.Factor a v p = opens_factor a v p
opens form.Postfix a v p = opens_postfix a v p
