-- How a line of simple statements is read: statements with semicolons between, and perhaps one after the last, and the end
-- of the line.
use Rattle.std.specs.Prelude.{ℕ, Bool, true, false, not, ◌||◌, List, codes}
use Rattle.indent_lexer.specs.declared.token.Token.{Token}
use Rattle.source_trees.specs.declared.statement.Stmt.{Stmt}
use Rattle.parse_laws.specs.Parser.{Parser, ◌>>=◌, ◌>>◌, pure, expect}
use Rattle.parse_laws.specs.Loops.{listed}
use Rattle.grammar_rules.specs.Words.{is_op, is_newline}
use Rattle.parse_expressions.specs.Reading.{any_number}
use Rattle.parse_statements.specs.Readers.{Readers, starts_expr}
use Rattle.parse_statements.specs.Simple.{Lead, Value, lead_of, simple}

abbrev pub is_semicolon : Token → Bool
is_semicolon = is_op (codes ";")

abbrev pub is_led : Lead → Bool
is_led Value = false
is_led _ = true

-- the token begins a simple statement
abbrev pub starts_simple : Token → Bool
starts_simple t = is_led (lead_of t) || starts_expr t

-- the token carries a line's statements on: it does not end the line
abbrev pub line_on : Token → Bool
line_on t = not (is_newline t)

-- a line, at the height that each of its statements may have
unfoldable pub line : Readers → ℕ → Parser Token (List Stmt)
line r n = listed is_semicolon starts_simple any_number (simple r n) >>= λ row. expect is_newline >> pure row.0
