-- Statements (the Python reference, chapters 7 and 8), with the parallel loops of Codon.
--
--   stmt    : line | if | while | for | par
--   line    : simple (';' simple)* [';'] NEWLINE
--   block   : ':' line | ':' NEWLINE INDENT stmt+ DEDENT
--   if      : 'if' expr block ('elif' expr block)* ['else' block]
--   while   : 'while' expr block
--   for     : 'for' names 'in' items block
--   par     : '@' 'par' ['(' popt (',' popt)* ')'] NEWLINE for
--   popt    : num_threads=NUMBER | chunk_size=NUMBER | schedule=STRING
--
-- Each option of `@par` stands at most once: `num_threads` is at least 1, `chunk_size` is 1 to 65,536, and `schedule` is
-- 'static', 'dynamic' or 'guided'.
use Rattle.std.specs.Prelude.{◌≡◌, ℕ, ◌≤◌, pos, true, List, [], ◌∷◌, ◌++◌, Some, None, codes}
use Rattle.indent_lexer.specs.declared.token.Token.{Token}
use Rattle.source_trees.specs.declared.expression.Expr.{Expr}
use Rattle.source_trees.specs.declared.statement.Arm.{Arm}
use Rattle.source_trees.specs.declared.statement.For.{For}
use Rattle.source_trees.specs.declared.statement.LoopNames.{LoopNames}
use Rattle.source_trees.specs.declared.statement.ParOptions.{ParOptions}
use Rattle.source_trees.specs.declared.statement.Schedule.{Schedule}
use Rattle.source_trees.specs.declared.statement.Schedule.TheVariants.{Static, Dynamic, Guided}
use Rattle.source_trees.specs.declared.statement.Stmt.{Stmt}
use Rattle.source_trees.specs.declared.statement.Stmt.TheVariants as stmt
use Rattle.parse_laws.specs.Forms.{Closes}
use Rattle.parse_laws.specs.Loops.{Listed}
use Rattle.grammar_rules.specs.Expressions.{IsExpr, IsNames}
use Rattle.grammar_rules.specs.Simple.{IsItems, IsSimple}
use Rattle.grammar_rules.specs.Words.{is_op, is_keyword, is_word, is_comma, is_newline, is_indent, is_dedent, number_of, text_of, entry_of, node_at}

-- ---- the options of `@par`

-- the words of `schedule`
abbrev pub schedules : List (List ℕ × Schedule)
schedules = (codes "static", Static) ∷ (codes "dynamic", Dynamic) ∷ (codes "guided", Guided) ∷ []

abbrev pub no_options : ParOptions
no_options = record { num_threads = None; chunk_size = None; schedule = None }

-- one more option, which was not yet set
pub data IsParOption (o : ParOptions) : List Token → ParOptions → Type 0 where
  num_threads : (t equals u : Token) (n : ℕ) → is_word (codes "num_threads") t ≡ true → o.num_threads ≡ None → is_op (codes "=") equals ≡ true
      → number_of u ≡ Some (pos n) → 1 ≤ n
      → IsParOption o (t ∷ equals ∷ u ∷ []) (record o { num_threads = Some n })
  chunk_size : (t equals u : Token) (n : ℕ) → is_word (codes "chunk_size") t ≡ true → o.chunk_size ≡ None → is_op (codes "=") equals ≡ true
      → number_of u ≡ Some (pos n) → 1 ≤ n → n ≤ 65536
      → IsParOption o (t ∷ equals ∷ u ∷ []) (record o { chunk_size = Some n })
  schedule : (t equals u : Token) (s : Schedule) → is_word (codes "schedule") t ≡ true → o.schedule ≡ None → is_op (codes "=") equals ≡ true
      → entry_of (text_of u) schedules ≡ Some s
      → IsParOption o (t ∷ equals ∷ u ∷ []) (record o { schedule = Some s })

-- what options with commas between make of those before
pub data IsParRow : ParOptions → List Token → ParOptions → Type 0 where
  last : (o : ParOptions) (a : List Token) (p : ParOptions) → IsParOption o a p → IsParRow o a p
  another : (o : ParOptions) (a : List Token) (p : ParOptions) (comma : Token) (b : List Token) (q : ParOptions)
      → IsParOption o a p → is_comma comma ≡ true → IsParRow p b q → IsParRow o (a ++ comma ∷ b) q

pub data IsParOptions : List Token → ParOptions → Type 0 where
  absent : IsParOptions [] no_options
  written : (open_token : Token) (a : List Token) (o : ParOptions) (close_token : Token)
      → is_op (codes "(") open_token ≡ true → IsParRow no_options a o → is_op (codes ")") close_token ≡ true
      → IsParOptions (open_token ∷ (a ++ close_token ∷ [])) o

-- ---- statements

abbrev pub IsLine : List Token → List Stmt → Type 0
IsLine = Closes (Listed (is_op (codes ";")) IsSimple) is_newline (λ row. row.0)

mutual
  -- the statements of a line, or a statement that has blocks
  pub data IsStmt : List Token → List Stmt → Type 0 where
    line : (a : List Token) (body : List Stmt) → IsLine a body → IsStmt a body
    branch : (t : Token) (a : List Token) (condition : Expr) (b : List Token) (body : List Stmt) (c : List Token) (arms : List Arm) (d : List Token) (otherwise : List Stmt)
        → is_keyword (codes "if") t ≡ true → IsExpr a condition → IsBlock b body → IsArms c arms → IsElse d otherwise
        → IsStmt (t ∷ (a ++ (b ++ (c ++ d)))) (stmt.If (node_at t) (record { condition = condition; body = body } ∷ arms) otherwise ∷ [])
    while : (t : Token) (a : List Token) (condition : Expr) (b : List Token) (body : List Stmt)
        → is_keyword (codes "while") t ≡ true → IsExpr a condition → IsBlock b body
        → IsStmt (t ∷ (a ++ b)) (stmt.While (node_at t) condition body ∷ [])
    for : (a : List Token) (loop : For) → IsFor a loop → IsStmt a (stmt.For loop ∷ [])
    par : (at_token t : Token) (a : List Token) (o : ParOptions) (newline : Token) (b : List Token) (loop : For)
        → is_op (codes "@") at_token ≡ true → is_word (codes "par") t ≡ true → IsParOptions a o → is_newline newline ≡ true → IsFor b loop
        → IsStmt (at_token ∷ t ∷ (a ++ newline ∷ b)) (stmt.Par (node_at at_token) o loop ∷ [])

  -- the arms of `elif`
  pub data IsArms : List Token → List Arm → Type 0 where
    no_arm : IsArms [] []
    arm : (t : Token) (a : List Token) (condition : Expr) (b : List Token) (body : List Stmt) (c : List Token) (arms : List Arm)
        → is_keyword (codes "elif") t ≡ true → IsExpr a condition → IsBlock b body → IsArms c arms
        → IsArms (t ∷ (a ++ (b ++ c))) (record { condition = condition; body = body } ∷ arms)

  -- the statements of `else`, none where it is not written
  pub data IsElse : List Token → List Stmt → Type 0 where
    no_else : IsElse [] []
    otherwise : (t : Token) (a : List Token) (body : List Stmt) → is_keyword (codes "else") t ≡ true → IsBlock a body → IsElse (t ∷ a) body

  pub data IsFor : List Token → For → Type 0 where
    for_each : (t : Token) (a : List Token) (names : LoopNames) (u : Token) (b : List Token) (iterable : Expr) (c : List Token) (body : List Stmt)
        → is_keyword (codes "for") t ≡ true → IsNames a names → is_keyword (codes "in") u ≡ true → IsItems b iterable → IsBlock c body
        → IsFor (t ∷ (a ++ u ∷ (b ++ c))) (record { node = node_at t; names = names; iterable = iterable; body = body })

  pub data IsBlock : List Token → List Stmt → Type 0 where
    same_line : (colon : Token) (a : List Token) (body : List Stmt) → is_op (codes ":") colon ≡ true → IsLine a body → IsBlock (colon ∷ a) body
    indented : (colon newline indent : Token) (a : List Token) (body : List Stmt) (dedent : Token)
        → is_op (codes ":") colon ≡ true → is_newline newline ≡ true → is_indent indent ≡ true → IsStmts a body → is_dedent dedent ≡ true
        → IsBlock (colon ∷ newline ∷ indent ∷ (a ++ dedent ∷ [])) body

  -- one statement or more
  pub data IsStmts : List Token → List Stmt → Type 0 where
    last_stmt : (a : List Token) (body : List Stmt) → IsStmt a body → IsStmts a body
    another_stmt : (a : List Token) (body : List Stmt) (b : List Token) (more : List Stmt) → IsStmt a body → IsStmts b more → IsStmts (a ++ b) (body ++ more)
