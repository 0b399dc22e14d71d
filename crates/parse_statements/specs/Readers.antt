-- The parsers of expressions and types that the parser of statements is made of, and what it asks of them: at each limit of
-- height each of them answers exactly what the grammar says.
use Rattle.std.specs.Prelude.{◌≡◌, ℕ, ◌≤◌, Bool, true, List, [], ◌∷◌, ◌++◌, nat_lt, length, codes}
use Rattle.indent_lexer.specs.declared.token.Token.{Token}
use Rattle.source_trees.specs.declared.expression.Expr.{Expr}
use Rattle.source_trees.specs.declared.item.Annotation.{Annotation}
use Rattle.source_trees.specs.declared.statement.Stmt.{Stmt}
use Rattle.source_trees.specs.Heights.{height_of_annotation, height_of_stmt}
use Rattle.parse_laws.specs.Parser.{Parser, sees}
use Rattle.parse_laws.specs.Language.{Law}
use Rattle.parse_laws.specs.Limits.{Limited}
use Rattle.grammar_rules.specs.Expressions.{IsExpr}
use Rattle.grammar_rules.specs.Types.{IsType}
use Rattle.grammar_rules.specs.Words.{is_op, most_items}
use Rattle.parse_expressions.specs.Forms.{Low, carries, begins, looseness, opening}
use Rattle.parse_expressions.specs.declared.form.Form.TheVariants as form
use Rattle.parse_statements.specs.Targets.{IsPointed}

-- the token carries an expression on
abbrev pub expr_on : Token → Bool
expr_on = carries (looseness form.Whole)

-- the token carries a postfix form on: an atom with indices, fields and calls
abbrev pub postfix_on : Token → Bool
postfix_on = carries (looseness form.Postfix)

-- the token carries a type on
abbrev pub type_on : Token → Bool
type_on = is_op (codes "[")

-- the token begins an expression
abbrev pub starts_expr : Token → Bool
starts_expr = begins (opening form.Whole)

-- the token begins a postfix form
abbrev pub starts_postfix : Token → Bool
starts_postfix = begins (opening form.Postfix)

-- the type has at most this height
abbrev pub LowType : ℕ → Annotation → Type 0
LowType room x = height_of_annotation x ≤ room

-- the statement has at most this height
abbrev pub LowStmt : ℕ → Stmt → Type 0
LowStmt room s = height_of_stmt s ≤ room

-- each of these statements has at most this height
abbrev pub LowStmts : ℕ → List Stmt → Type 0
LowStmts room [] = Unit {0}
LowStmts room (s ∷ more) = LowStmt room s × LowStmts room more

-- parsers at each limit of height
pub record Readers : Type 0 where
  pub expr : ℕ → Parser Token Expr
  -- a postfix form that an assignment may write to
  pub target : ℕ → Parser Token Expr
  pub annotation : ℕ → Parser Token Annotation

pub record Exact (r : Readers) : Type 0 where
  pub expr_law : (n : ℕ) (ts : List Token) → Law IsExpr (Limited IsExpr (Low n)) expr_on ts (r.expr n ts)
  pub target_law : (n : ℕ) (ts : List Token) → Law IsPointed (Limited IsPointed (Low n)) postfix_on ts (r.target n ts)
  pub annotation_law : (n : ℕ) (ts : List Token) → Law IsType (Limited IsType (LowType n)) type_on ts (r.annotation n ts)
  pub expr_starts : (a : List Token) (x : Expr) (s : List Token) → IsExpr a x → sees starts_expr (a ++ s) ≡ true
  pub target_starts : (a : List Token) (x : Expr) (s : List Token) → IsPointed a x → sees starts_postfix (a ++ s) ≡ true

-- one more item may follow these
abbrev pub has_room : {B : Type 0} → List B → Bool
has_room items = nat_lt (length items) most_items
