-- What follows the names of a comprehension, what follows its iterable, and what follows the condition of a conditional
-- expression.
use Rattle.std.specs.Prelude.{ℕ}
use Rattle.indent_lexer.specs.declared.token.Token.{Token}
use Rattle.source_trees.specs.declared.expression.Expr.{Expr}
use Rattle.source_trees.specs.declared.expression.Expr.TheVariants as e
use Rattle.source_trees.specs.declared.statement.LoopNames.{LoopNames}
use Rattle.parse_laws.specs.Parser.{Parser, pure, expect, ◌>>=◌, ◌>>◌}
use Rattle.grammar_rules.specs.declared.level.Junction.TheVariants as junction
use Rattle.grammar_rules.specs.Expressions.{node_of}
use Rattle.grammar_rules.specs.Words.{node_at}
use Rattle.parse_expressions.specs.declared.form.Form.{Form}
use Rattle.parse_expressions.specs.declared.form.Form.TheVariants as form
use Rattle.parse_expressions.specs.Reading.{is_in, is_else, is_square_close, filter}

module _ (room : ℕ) (sub : Form → Parser Token Expr) where
  unfoldable pub filtered : Token → Expr → LoopNames → Expr → Parser Token Expr
  filtered t x ns y = filter room sub >>= λ z. expect is_square_close >> pure (e.Comprehension (node_at t) x ns y z)

  unfoldable pub iterated : Token → Expr → LoopNames → Parser Token Expr
  iterated t x ns = expect is_in >>= λ _. sub (form.Joined junction.Or) >>= λ y. filtered t x ns y

  unfoldable pub otherwise : Expr → Expr → Parser Token Expr
  otherwise x c = expect is_else >>= λ _. sub form.Whole >>= λ y. pure (e.Conditional (node_of x) x c y)
