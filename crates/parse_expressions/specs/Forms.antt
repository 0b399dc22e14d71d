-- The forms of expressions, the tokens that begin them, and the tokens that carry them on.
use Rattle.std.specs.Prelude.{ℕ, ◌≤◌, Bool, nat_le, cond, List, [], ◌∷◌, codes}
use Rattle.std.specs.Str.{bytes_eq}
use Rattle.indent_lexer.specs.declared.token.Token.{Token}
use Rattle.indent_lexer.specs.declared.token.TokenKind.{TokenKind}
use Rattle.indent_lexer.specs.declared.token.TokenKind.TheVariants as kind
use Rattle.source_trees.specs.declared.expression.Expr.{Expr}
use Rattle.source_trees.specs.Heights.{height_of_expr}
use Rattle.parse_laws.specs.Language.{Language}
use Rattle.grammar_rules.specs.declared.level.Junction.TheVariants as junction
use Rattle.grammar_rules.specs.declared.level.Rank.TheVariants as rank
use Rattle.grammar_rules.specs.declared.level.Rank.{Rank}
use Rattle.grammar_rules.specs.Expressions.{IsExpr, IsJoined, IsJoint, IsNot, IsCompared, IsRanked, IsOperand, IsFactor, IsPostfix}
use Rattle.parse_expressions.specs.declared.form.Form.{Form}
use Rattle.parse_expressions.specs.declared.form.Form.TheVariants as form

-- which tokens spell which trees of a form
abbrev pub Spells : Form → Language Token Expr
Spells form.Whole = IsExpr
Spells (form.Joined j) = IsJoined j
Spells (form.Joint j) = IsJoint j
Spells form.Negation = IsNot
Spells form.Compared = IsCompared
Spells (form.Ranked r) = IsRanked r
Spells (form.Operand r) = IsOperand r
Spells form.Factor = IsFactor
Spells form.Postfix = IsPostfix

-- the tree has at most this height
abbrev pub Low : ℕ → Expr → Type 0
Low room x = height_of_expr x ≤ room

-- ---- how loose a form is, by the tokens that carry it on

-- The looseness of the forms that an operator or keyword carries on: a form that is as loose or looser may go on with it.
-- What carries no form on is looser than all.
abbrev pub nowhere : ℕ
nowhere = 100

abbrev pub row_of : List (List ℕ × ℕ) → List ℕ → ℕ
row_of [] spelling = nowhere
row_of (row ∷ table) spelling = cond (bytes_eq spelling row.0) row.1 (row_of table spelling)

abbrev pub carrying_ops : List (List ℕ × ℕ)
carrying_ops =
    (codes "(", 1) ∷ (codes "[", 1) ∷ (codes ".", 1) ∷ (codes "**", 2) ∷ (codes "*", 3) ∷ (codes "//", 3) ∷ (codes "%", 3) ∷
    (codes "+", 4) ∷ (codes "-", 4) ∷ (codes "<<", 5) ∷ (codes ">>", 5) ∷ (codes "&", 6) ∷ (codes "^", 7) ∷ (codes "|", 8) ∷
    (codes "==", 9) ∷ (codes "!=", 9) ∷ (codes "<", 9) ∷ (codes "<=", 9) ∷ (codes ">", 9) ∷ (codes ">=", 9) ∷ []

abbrev pub carrying_words : List (List ℕ × ℕ)
carrying_words = (codes "in", 9) ∷ (codes "not", 9) ∷ (codes "and", 10) ∷ (codes "or", 11) ∷ (codes "if", 12) ∷ []

abbrev pub carried_by : TokenKind → ℕ
carried_by (kind.Op spelling) = row_of carrying_ops spelling
carried_by (kind.Keyword spelling) = row_of carrying_words spelling
carried_by (kind.Text value) = 1
carried_by _ = nowhere

abbrev pub looseness_of_rank : Rank → ℕ
looseness_of_rank rank.Term = 3
looseness_of_rank rank.Sum = 4
looseness_of_rank rank.Shift = 5
looseness_of_rank rank.BitAnd = 6
looseness_of_rank rank.BitXor = 7
looseness_of_rank rank.BitOr = 8

abbrev pub looseness_of_operand : Rank → ℕ
looseness_of_operand rank.Term = 2
looseness_of_operand rank.Sum = 3
looseness_of_operand rank.Shift = 4
looseness_of_operand rank.BitAnd = 5
looseness_of_operand rank.BitXor = 6
looseness_of_operand rank.BitOr = 7

abbrev pub looseness : Form → ℕ
looseness form.Whole = 12
looseness (form.Joined junction.Or) = 11
looseness (form.Joined junction.And) = 10
looseness (form.Joint junction.Or) = 10
looseness (form.Joint junction.And) = 9
looseness form.Negation = 9
looseness form.Compared = 9
looseness (form.Ranked r) = looseness_of_rank r
looseness (form.Operand r) = looseness_of_operand r
looseness form.Factor = 2
looseness form.Postfix = 1

-- the token carries on forms of this looseness
abbrev pub carries : ℕ → Token → Bool
carries loose t = nat_le (carried_by t.kind) loose

-- ---- the tokens that begin a form

abbrev pub opening_ops : List (List ℕ × ℕ)
opening_ops = (codes "(", 1) ∷ (codes "[", 1) ∷ (codes "+", 2) ∷ (codes "-", 2) ∷ (codes "~", 2) ∷ []

abbrev pub opening_words : List (List ℕ × ℕ)
opening_words = (codes "True", 1) ∷ (codes "False", 1) ∷ (codes "None", 1) ∷ (codes "not", 3) ∷ []

abbrev pub opened_by : TokenKind → ℕ
opened_by (kind.Name spelling) = cond (bytes_eq spelling (codes "print")) nowhere 1
opened_by (kind.Number value) = 1
opened_by (kind.Text value) = 1
opened_by (kind.Op spelling) = row_of opening_ops spelling
opened_by (kind.Keyword spelling) = row_of opening_words spelling
opened_by _ = nowhere

-- `not` begins a looser form than a sign, and a sign a looser one than an atom
abbrev pub opening : Form → ℕ
opening form.Whole = 3
opening (form.Joined j) = 3
opening (form.Joint j) = 3
opening form.Negation = 3
opening form.Compared = 2
opening (form.Ranked r) = 2
opening (form.Operand r) = 2
opening form.Factor = 2
opening form.Postfix = 1

-- the token begins a form of this kind
abbrev pub begins : ℕ → Token → Bool
begins opening t = nat_le (opened_by t.kind) opening
