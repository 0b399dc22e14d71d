use Rattle.std.proofs.Common.{◌++◌, List, length, drop}
use Rattle.codon_base.specs.declared.source.Span.{Span}
use Rattle.indent_lexer.specs.declared.token.Token.{Token}
use Rattle.indent_lexer.specs.declared.token.LexKind.{LexKind}
use Rattle.indent_lexer.specs.Tokens.{Lexes, Fails, IsState, first_state, mark_len}
use Rattle.indent_lexer.proofs.lexer.tokens_of.Given as goal

-- what follows completes the whole text's tokens, or its refusal
abbrev pub invariant-pieces : goal.invariant-pieces
invariant-pieces l = record {
  reads : (more : List Token) → Lexes l.state l.rest more → Lexes (first_state l.bytes) (drop (mark_len l.bytes) l.bytes) (l.tokens ++ more);
  fails : (k : LexKind) (at : Span) → Fails l.state l.rest k at → Fails (first_state l.bytes) (drop (mark_len l.bytes) l.bytes) k at;
  state : IsState l.state (length l.rest);
}

abbrev pub decreases-pieces : goal.decreases-pieces
decreases-pieces l = length l.rest
