-- What the code of blocks is made of beside the parser's definitions, and what is asked of a function value that reads the
-- statements of blocks.
use Rattle.std.specs.Prelude.{ℕ, ◌-◌, ◌≤◌, List, [], ◌∷◌, Result, codes}
use Rattle.std.specs.declared.alloc.Global.{Global}
use Rattle.indent_lexer.specs.declared.token.Token.{Token}
use Rattle.source_trees.specs.declared.item.Class.{Class}
use Rattle.source_trees.specs.declared.item.Function.{Function}
use Rattle.source_trees.specs.declared.item.Member.{Member}
use Rattle.source_trees.specs.declared.item.Member.TheVariants as member
use Rattle.source_trees.specs.declared.node.Name.{Name}
use Rattle.source_trees.specs.declared.statement.For.{For}
use Rattle.source_trees.specs.declared.statement.LoopNames.{LoopNames}
use Rattle.source_trees.specs.declared.statement.Stmt.{Stmt}
use Rattle.parse_laws.specs.Parser.{Parser, ◌>>=◌, ◌>>◌, pure, expect, take_by}
use Rattle.parse_laws.specs.declared.cause.Cause.{Cause}
use Rattle.grammar_rules.specs.declared.refusal.ParseRefusal.{ParseRefusal}
use Rattle.grammar_rules.specs.Refusals.{kind_of}
use Rattle.grammar_rules.specs.Words.{is_newline, is_indent, is_dedent, node_at}
use Rattle.parse_expressions.specs.declared.cursor.ParseError.{ParseError}
use Rattle.parse_expressions.specs.Code.{Reads}
use Rattle.parse_expressions.specs.Reading.{is_in, text_at}
use Rattle.parse_statements.specs.Code.{readers}
use Rattle.parse_statements.specs.Items.{items}
use Rattle.parse_statements.specs.Prints.{is_bracket_end}
use Rattle.parse_statements.specs.Simple.{is_colon}
use Rattle.parse_statements.specs.Stages.{is_bracket}
use Rattle.parse_blocks.specs.Blocks.{Level, statement, block, for_loop}
use Rattle.parse_blocks.specs.Functions.{params, function_rest, members, class_of_members}
use denote.Ref.{MutBor}

-- the function value reads the statements that are lower than `room`
pub record Subs (room : ℕ) (pre : Global → MutBor (List Token) → ℕ → Type 0)
    (post : Global → MutBor (List Token) → ℕ → Result (List Stmt) ParseError → MutBor (List Token) → Type 0) : Type 0 where
  pub callable : (alloc : Global) (old : MutBor (List Token)) (low : ℕ) → low ≤ room - 1 → pre alloc old low
  pub reads : (alloc : Global) (old new : MutBor (List Token)) (low : ℕ) (r : Result (List Stmt) ParseError) → low ≤ room - 1 → post alloc old low r new
      → Reads (statement readers low old.now) r new.now

-- the parsers of what stands one level lower than `room`
abbrev pub below : ℕ → Level
below room = record { stmt = statement readers (room - 1); loop = for_loop readers (room - 1) (statement readers (room - 1 - 1)) }

-- what follows the names of a loop, at the height that the loop may have
unfoldable pub loop_rest : ℕ → Token → LoopNames → Parser Token For
loop_rest n t ns = expect is_in >>= λ _. items readers (n - 1) >>= λ x. block readers (n - 1) >>= λ body. pure (record { node = node_at t; names = ns; iterable = x; body = body })

-- what follows the name of a function
unfoldable pub function_after : ℕ → Token → Name → Parser Token Function
function_after n t name = expect is_bracket >>= λ _. params readers (n - 1) >>= λ ps. expect is_bracket_end >>= λ _. function_rest readers n t name ps

-- the members of a class, to the end of its block
unfoldable pub class_rest : ℕ → Token → Name → Parser Token Class
class_rest n t name = members readers (n - 1) >>= λ ms. expect is_dedent >> pure (class_of_members t name ms)

-- what follows the name of a class
unfoldable pub class_after : ℕ → Token → Name → Parser Token Class
class_after n t name = expect is_colon >>= λ _. expect is_newline >>= λ _. expect is_indent >>= λ _. class_rest n t name

-- a text on a line of its own
unfoldable pub text_member : Parser Token Member
text_member = take_by text_at >>= λ p. expect is_newline >>= λ _. pure (member.Text p.0 p.1)

-- the keywords that are left out, in two parts
abbrev pub early : List (List ℕ)
early = codes "as" ∷ codes "async" ∷ codes "await" ∷ codes "class" ∷ codes "def" ∷ codes "del" ∷ codes "except" ∷ []

abbrev pub late : List (List ℕ)
late =
    codes "finally" ∷ codes "from" ∷ codes "global" ∷ codes "import" ∷ codes "is" ∷ codes "lambda" ∷ codes "nonlocal" ∷ codes "try" ∷
    codes "with" ∷ []

-- the refusal of this token at this place
abbrev pub refusal_at : ℕ → Cause → Token → ParseRefusal
refusal_at place cause t = record { kind = kind_of cause t; token = place; at = t.span }
