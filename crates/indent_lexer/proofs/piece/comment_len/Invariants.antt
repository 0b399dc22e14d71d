use Rattle.std.proofs.Common.{◌≡◌, ◌+◌, length}
use Rattle.indent_lexer.specs.Piece.{comment_len}
use Rattle.indent_lexer.proofs.piece.comment_len.Given as goal

abbrev pub invariant-bytes : goal.invariant-bytes
invariant-bytes l = record {
  counted : comment_len l.text ≡ l.len + comment_len l.rest;
  passed : l.len + length l.rest ≡ length l.text;
}

abbrev pub decreases-bytes : goal.decreases-bytes
decreases-bytes l = length l.rest
