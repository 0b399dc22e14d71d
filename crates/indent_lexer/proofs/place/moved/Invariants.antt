use Rattle.std.proofs.Common.{◌≡◌, ◌+◌, length}
use Rattle.indent_lexer.specs.Place.{moved, IsPlace}
use Rattle.indent_lexer.proofs.place.moved.Given as goal

abbrev pub invariant-bytes : goal.invariant-bytes
invariant-bytes l = record {
  place : moved l.fn.at l.piece ≡ moved l.place l.rest;
  inside : IsPlace l.place (length l.rest);
  start : l.place.start + length l.rest ≡ l.fn.at.start + length l.piece;
}

abbrev pub decreases-bytes : goal.decreases-bytes
decreases-bytes l = length l.rest
