-- What the code of the parser of statements calls, and what its functions ensure beside `Reads`.
use Rattle.std.specs.Prelude.{◌≡◌, List, Result, Ok, Err}
use Rattle.indent_lexer.specs.declared.token.Token.{Token}
use Rattle.parse_laws.specs.Parser.{Outcome, Parsed}
use Rattle.parse_expressions.specs.declared.cursor.ParseError.{ParseError}
use Rattle.parse_expressions.specs.declared.form.Form.TheVariants as form
use Rattle.parse_expressions.specs.Code.{IsStop}
use Rattle.parse_expressions.specs.Reading.{read}
use Rattle.parse_expressions.specs.TypeReading.{read_type}
use Rattle.parse_expressions.specs.TargetReading.{read_target}
use Rattle.parse_statements.specs.Readers.{Readers}

-- the readers of expressions, targets and types
abbrev pub readers : Readers
readers = record { expr = λ n. read n form.Whole; target = read_target; annotation = read_type }

-- as `Reads`, where the code answers with something that stands for the value
abbrev pub ReadsFor : {A B : Type 0} → (B → A) → Outcome Token A → Result B ParseError → List Token → Type 0
ReadsFor meant out (Ok v) rest = out ≡ Parsed (meant v) rest
ReadsFor meant out (Err e) rest = IsStop out e rest
