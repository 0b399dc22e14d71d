-- How expressions with commas are read: the first one, and where a comma follows, the others, which make a tuple.
use Rattle.std.specs.Prelude.{ℕ, ◌-◌, Bool, true, false, not, ◌||◌, nat_lt, [], ◌∷◌, ◌++◌, length, codes}
use Rattle.std.specs.Str.{bytes_eq}
use Rattle.indent_lexer.specs.declared.token.Token.{Token}
use Rattle.indent_lexer.specs.declared.token.TokenKind.{TokenKind}
use Rattle.indent_lexer.specs.declared.token.TokenKind.TheVariants as kind
use Rattle.source_trees.specs.declared.expression.Commas.TheVariants.{Bare}
use Rattle.source_trees.specs.declared.expression.Expr.{Expr}
use Rattle.source_trees.specs.declared.expression.Expr.TheVariants as e
use Rattle.source_trees.specs.Heights.{height_of_expr}
use Rattle.parse_laws.specs.Parser.{Parser, ◌>>=◌, ◌>>◌, pure, choose, within, expect, repeat, row_turn}
use Rattle.parse_laws.specs.Loops.{row_test, starts_in}
use Rattle.grammar_rules.specs.Expressions.{node_of}
use Rattle.grammar_rules.specs.Words.{is_comma}
use Rattle.parse_statements.specs.Readers.{Readers, starts_expr, has_room}

-- the kinds of the tokens that end expressions with commas
abbrev pub closes_in : TokenKind → Bool
closes_in (kind.Op spelling) = bytes_eq spelling (codes ":") || bytes_eq spelling (codes ";")
closes_in kind.Newline = true
closes_in _ = false

-- the token carries expressions with commas on: it does not end them
abbrev pub items_on : Token → Bool
items_on t = not (closes_in t.kind)

module _ (r : Readers) where
  -- the items after the first one
  unfoldable pub tuple_after : ℕ → Expr → Parser Token Expr
  tuple_after n x = do
    expect is_comma
    s ← λ ts. repeat (row_test is_comma (starts_in has_room starts_expr)) (row_turn is_comma (λ _. r.expr n) (λ v y. v ++ y ∷ [])) (length ts) (x ∷ [], true) ts
    pure (e.Tuple (node_of x) Bare s.0)

  unfoldable pub items : ℕ → Parser Token Expr
  items n = r.expr n >>= λ x. choose is_comma (within (nat_lt (height_of_expr x) n) (tuple_after (n - 1) x)) (pure x)
