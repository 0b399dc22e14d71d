-- The parsers of expressions and types are exact, so that all are where that of what may be assigned to is.
use Rattle.std.proofs.Common.{ℕ}
use Rattle.indent_lexer.specs.declared.token.Token.{Token}
use Rattle.source_trees.specs.declared.expression.Expr.{Expr}
use Rattle.parse_laws.specs.Parser.{Parser}
use Rattle.parse_expressions.specs.declared.form.Form.TheVariants as form
use Rattle.parse_expressions.proofs.Opens.{opens}
use Rattle.parse_expressions.proofs.TypeLaw.{type_law}
use Rattle.parse_expressions.proofs.Wholes.{read_law}
use Rattle.parse_statements.specs.Readers.{Exact}
use Rattle.parse_blocks.specs.Whole.{readers_with, ReadsTargets}

pub exact_with : (target : ℕ → Parser Token Expr) → ReadsTargets target → Exact (readers_with target)
exact_with target law = record {
  expr_law = λ n ts. read_law n form.Whole ts;
  target_law = law;
  annotation_law = λ n ts. type_law n ts;
  expr_starts = λ a x s p. opens form.Whole a x p s;
  target_starts = λ a x s p. opens form.Postfix a x p.0 s;
}
