-- A text that begins with none of the other pieces begins with a number, a word or an operator.
use Rattle.std.proofs.Common.{◌≡◌, ◌≢◌, ℕ, ◌<◌, List, [], ◌∷◌, Bool, true, false, nat_eq, length, slice_index, refl, arith}
use Rattle.std.proofs.lemmas.Bool.{eqb-true}
use Rattle.indent_lexer.specs.Piece.{piece_of, number_or_word, is_line_end, is_quote}

unequal : (a b : ℕ) (t : Bool) → nat_eq a b ≡ t → a ≢ b → nat_eq a b ≡ false
unequal a b false e n = e
unequal a b true e n = absurd (n (eqb-true a b e))

pub number_or_word_is : (text : List ℕ) → 0 < length text → slice_index text 0 ≢ 32 → slice_index text 0 ≢ 9 → is_line_end (slice_index text 0) ≡ false → slice_index text 0 ≢ 35 → slice_index text 0 ≢ 92 → is_quote (slice_index text 0) ≡ false → number_or_word (slice_index text 0) text ≡ piece_of text
number_or_word_is [] h a b l d e q = absurd (omega arith)
number_or_word_is (c ∷ cs) h a b l d e q =
    let f = unequal c 32 (nat_eq c 32) refl a in
    let g = unequal c 9 (nat_eq c 9) refl b in
    let i = unequal c 35 (nat_eq c 35) refl d in
    let j = unequal c 92 (nat_eq c 92) refl e in
    rw (f, g, l, i, j, q) refl
