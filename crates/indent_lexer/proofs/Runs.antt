-- The name characters of a text, passed in two parts.
use Rattle.std.proofs.Common.{◌≡◌, ℕ, zero, suc, ◌+◌, ◌<◌, min, List, [], ◌∷◌, drop, length, slice_index, refl, ◌∙◌, ap, arith}
use Rattle.std.specs.Str.{continuation_len}
use Rattle.indent_lexer.specs.Name.{name_len, word_len}

name_len_split : (k : ℕ) (cs : List ℕ) (n : ℕ) → n ≡ min k (length cs) → name_len k cs ≡ n + name_len 0 (drop n cs)
name_len_split zero cs zero e = omega arith
name_len_split zero cs (suc n) e = absurd (omega arith)
name_len_split (suc k) [] zero e = refl
name_len_split (suc k) [] (suc n) e = absurd (omega arith)
name_len_split (suc k) (c ∷ cs) zero e = absurd (omega arith)
name_len_split (suc k) (c ∷ cs) (suc n) e = let i = name_len_split k cs n (omega arith) in omega arith

pub word_len_is : (text : List ℕ) (k n more : ℕ) → 0 < length text → k ≡ continuation_len (slice_index text 0) → n ≡ min (length text) (k + 1) → more ≡ name_len 0 (drop n text) → n + more ≡ word_len text
word_len_is [] k n more h j e m = absurd (omega arith)
word_len_is (c ∷ cs) k zero more h j e m = absurd (omega arith)
word_len_is (c ∷ cs) k (suc n) more h j e m =
    let i = name_len_split k cs n (omega arith) in
    let f : name_len k cs ≡ name_len (continuation_len c) cs = ap (λ z. name_len z cs) j in
    let a : more ≡ name_len 0 (drop n cs) = m in
    let b : suc n + more ≡ suc (name_len k cs) = omega arith in
    b ∙ ap suc f
