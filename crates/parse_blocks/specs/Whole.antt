-- The parsers that the parser of statements is made of: those of expressions and types, and one of what may be assigned to.
use Rattle.std.specs.Prelude.{ℕ, List}
use Rattle.indent_lexer.specs.declared.token.Token.{Token}
use Rattle.source_trees.specs.declared.expression.Expr.{Expr}
use Rattle.parse_laws.specs.Language.{Law}
use Rattle.parse_laws.specs.Limits.{Limited}
use Rattle.parse_laws.specs.Parser.{Parser}
use Rattle.parse_expressions.specs.Forms.{Low}
use Rattle.parse_expressions.specs.Reading.{read}
use Rattle.parse_expressions.specs.TypeReading.{read_type}
use Rattle.parse_expressions.specs.declared.form.Form.TheVariants as form
use Rattle.parse_statements.specs.Readers.{Readers, postfix_on}
use Rattle.parse_statements.specs.Targets.{IsPointed}

abbrev pub readers_with : (ℕ → Parser Token Expr) → Readers
readers_with target = record { expr = λ n. read n form.Whole; target = target; annotation = read_type }

-- the parser of what may be assigned to is exact at every limit of height
abbrev pub ReadsTargets : (ℕ → Parser Token Expr) → Type 0
ReadsTargets target = (n : ℕ) (ts : List Token) → Law IsPointed (Limited IsPointed (Low n)) postfix_on ts (target n ts)
