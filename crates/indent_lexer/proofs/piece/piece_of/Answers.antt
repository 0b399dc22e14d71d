use Rattle.std.proofs.Common.{◌≡◌, sym, ◌∙◌, false, slice_index, arith}
use Rattle.indent_lexer.specs.Piece.{is_line_end, is_quote}
use Rattle.indent_lexer.proofs.First.{number_or_word_is}
use Rattle.indent_lexer.proofs.piece.piece_of.Goals as goal

pub returns-else-is_quote-clause-value : goal.returns-else-is_quote-clause-value
returns-else-is_quote-clause-value c =
    let line : is_line_end (slice_index c.args.text.now 0) ≡ false = sym c.is_line_end.ensures ∙ c.if-is_line_end.false in
    let quote : is_quote (slice_index c.args.text.now 0) ≡ false = sym c.is_quote.ensures ∙ c.if-is_quote.false in
    let e = number_or_word_is c.args.text.now (omega arith) c.if-first-eq32.false c.if-first-eq9.false line c.if-first-eq35.false c.if-first-eq92.false quote in
    rw (← e) c.number_or_word.ensures.value
