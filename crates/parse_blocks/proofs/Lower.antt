-- What reads the statements that are lower than a limit reads those that are lower than the next one.
use Rattle.std.proofs.Common.{ℕ, ◌-◌, List, Result, arith}
use Rattle.std.specs.declared.alloc.Global.{Global}
use Rattle.indent_lexer.specs.declared.token.Token.{Token}
use Rattle.source_trees.specs.declared.statement.Stmt.{Stmt}
use Rattle.parse_expressions.specs.declared.cursor.ParseError.{ParseError}
use Rattle.parse_blocks.specs.Code.{Subs}
use denote.Ref.{MutBor}

pub lower : (room : ℕ) {pre : Global → MutBor (List Token) → ℕ → Type 0} {post : Global → MutBor (List Token) → ℕ → Result (List Stmt) ParseError → MutBor (List Token) → Type 0}
    → Subs room pre post → Subs (room - 1) pre post
lower room s = record {
  callable = λ alloc old low h. s.callable alloc old low (omega arith);
  reads = λ alloc old new low r h p. s.reads alloc old new low r (omega arith) p;
}
