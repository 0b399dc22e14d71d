-- How statements with blocks are read. A statement at a height reads the statements of its blocks one level lower; `@par`
-- reads its loop one level lower, and so the statements under it two levels lower.
use Rattle.std.specs.Prelude.{ℕ, zero, suc, ◌-◌, Bool, not, ◌||◌, nat_le, List, [], ◌∷◌, codes}
use Rattle.indent_lexer.specs.declared.token.Token.{Token}
use Rattle.source_trees.specs.declared.expression.Expr.{Expr}
use Rattle.source_trees.specs.declared.statement.Arm.{Arm}
use Rattle.source_trees.specs.declared.statement.For.{For}
use Rattle.source_trees.specs.declared.statement.Stmt.{Stmt}
use Rattle.source_trees.specs.declared.statement.Stmt.TheVariants as stmt
use Rattle.parse_laws.specs.Parser.{Parser, ◌>>=◌, ◌>>◌, pure, refuse, choose, within, expect}
use Rattle.grammar_rules.specs.Words.{is_op, is_keyword, is_word, is_newline, is_indent, is_dedent, node_at}
use Rattle.parse_expressions.specs.Reading.{is_if, is_else, is_for, is_in, names}
use Rattle.parse_statements.specs.Items.{items}
use Rattle.parse_statements.specs.Lines.{starts_simple, line}
use Rattle.parse_statements.specs.Many.{many}
use Rattle.parse_statements.specs.Options.{par_options}
use Rattle.parse_statements.specs.Readers.{Readers}
use Rattle.parse_statements.specs.Simple.{is_colon}
use Rattle.parse_blocks.specs.Gather.{gather}

abbrev pub is_elif : Token → Bool
is_elif = is_keyword (codes "elif")

abbrev pub is_while : Token → Bool
is_while = is_keyword (codes "while")

abbrev pub is_at : Token → Bool
is_at = is_op (codes "@")

abbrev pub is_par : Token → Bool
is_par = is_word (codes "par")

-- the token begins a statement
abbrev pub starts_stmt : Token → Bool
starts_stmt t = is_if t || (is_while t || (is_for t || (is_at t || starts_simple t)))

-- the token carries a statement on
abbrev pub stmt_on : Token → Bool
stmt_on t = is_elif t || is_else t

-- the token carries the statements of a block on: it does not end the block
abbrev pub stmts_on : Token → Bool
stmts_on t = not (is_dedent t)

abbrev pub arm_of : Expr → List Stmt → Arm
arm_of condition body = record { condition = condition; body = body }

-- the parsers of what stands one level lower
pub record Level : Type 0 where
  pub stmt : Parser Token (List Stmt)
  pub loop : Parser Token For

-- ---- blocks, whose statements `sub` reads

unfoldable pub stmts_by : Parser Token (List Stmt) → Parser Token (List Stmt)
stmts_by sub = sub >>= λ body. gather starts_stmt sub body

unfoldable pub indented : Parser Token (List Stmt) → Parser Token (List Stmt)
indented sub = expect is_newline >>= λ _. expect is_indent >>= λ _. stmts_by sub >>= λ body. expect is_dedent >> pure body

-- `@par` and its loop
unfoldable pub parallel : Parser Token For → Parser Token (List Stmt)
parallel loop =
    expect is_at >>= λ t. expect is_par >>= λ _. par_options >>= λ o. expect is_newline >>= λ _. loop >>= λ f. pure (stmt.Par (node_at t) o f ∷ [])

module _ (r : Readers) where
  -- a block, at the height that each of its statements may have
  unfoldable pub block_by : ℕ → Parser Token (List Stmt) → Parser Token (List Stmt)
  block_by n sub = expect is_colon >>= λ _. choose is_newline (indented sub) (line r n)

  -- ---- statements, at the height that the statement may have

  unfoldable pub elif_arm : ℕ → Parser Token (List Stmt) → Parser Token Arm
  elif_arm n sub = expect is_elif >>= λ _. r.expr (n - 1) >>= λ x. block_by (n - 1) sub >>= λ body. pure (arm_of x body)

  unfoldable pub otherwise : ℕ → Parser Token (List Stmt) → Parser Token (List Stmt)
  otherwise n sub = choose is_else (expect is_else >>= λ _. block_by (n - 1) sub) (pure [])

  -- what follows the first block of `if`
  unfoldable pub branch_rest : ℕ → Parser Token (List Stmt) → Token → Expr → List Stmt → Parser Token (List Stmt)
  branch_rest n sub t x body = many is_elif (elif_arm n sub) >>= λ arms. otherwise n sub >>= λ other. pure (stmt.If (node_at t) (arm_of x body ∷ arms) other ∷ [])

  unfoldable pub branch : ℕ → Parser Token (List Stmt) → Parser Token (List Stmt)
  branch n sub = expect is_if >>= λ t. r.expr (n - 1) >>= λ x. block_by (n - 1) sub >>= branch_rest n sub t x

  unfoldable pub repetition : ℕ → Parser Token (List Stmt) → Parser Token (List Stmt)
  repetition n sub = expect is_while >>= λ t. r.expr (n - 1) >>= λ x. block_by (n - 1) sub >>= λ body. pure (stmt.While (node_at t) x body ∷ [])

  unfoldable pub for_loop : ℕ → Parser Token (List Stmt) → Parser Token For
  for_loop n sub =
      expect is_for >>= λ t. names >>= λ ns. expect is_in >>= λ _. items r (n - 1) >>= λ x. block_by (n - 1) sub >>= λ body. pure (record { node = node_at t; names = ns; iterable = x; body = body })

  unfoldable pub statement_by : ℕ → Level → Parser Token (List Stmt)
  statement_by n below =
      choose is_if (within (nat_le 2 n) (branch n below.stmt))
      (choose is_while (within (nat_le 2 n) (repetition n below.stmt))
      (choose is_for (within (nat_le 2 n) (for_loop n below.stmt >>= λ f. pure (stmt.For f ∷ [])))
      (choose is_at (within (nat_le 3 n) (parallel below.loop))
      (line r n))))

  -- the parsers of statements and of loops at each height; at 0 there are none
  unfoldable pub level : ℕ → Level
  level zero = record { stmt = refuse; loop = refuse }
  level (suc n) = record { stmt = statement_by (suc n) (level n); loop = for_loop (suc n) (level n).stmt }

  unfoldable pub statement : ℕ → Parser Token (List Stmt)
  statement n = (level n).stmt

  -- one statement or more, each of this height at most
  unfoldable pub stmts : ℕ → Parser Token (List Stmt)
  stmts n = stmts_by (statement n)

  -- a block whose statements have this height at most
  unfoldable pub block : ℕ → Parser Token (List Stmt)
  block n = block_by n (statement n)
