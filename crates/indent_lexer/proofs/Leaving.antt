-- A line that leaves the innermost column leaves one more than it leaves of the others.
use Rattle.std.proofs.Common.{◌≡◌, ℕ, suc, ◌<◌, List, [], ◌∷◌, true, nat_lt, drop, length, refl, ap, arith}
use Rattle.std.proofs.lemmas.Bool.{lt-ltb}
use Rattle.indent_lexer.specs.Indentation.{innermost, left_by}

pub left_by_next : (column : ℕ) (cs : List ℕ) → column < innermost cs → left_by column cs ≡ suc (left_by column (drop 1 cs))
left_by_next column [] h = absurd (omega arith)
left_by_next column (c ∷ cs) h = let e : nat_lt column c ≡ true = lt-ltb column c h in rw e (omega arith)

pub length_next : (column : ℕ) (cs : List ℕ) → column < innermost cs → length cs ≡ suc (length (drop 1 cs))
length_next column [] h = absurd (omega arith)
length_next column (c ∷ cs) h = refl

drop_suc : (n : ℕ) (c : ℕ) (cs : List ℕ) → drop (suc n) (c ∷ cs) ≡ drop n cs
drop_suc n c cs = refl

pub drop_next : (column : ℕ) (cs : List ℕ) → column < innermost cs → drop (left_by column cs) cs ≡ drop (left_by column (drop 1 cs)) (drop 1 cs)
drop_next column [] h = absurd (omega arith)
drop_next column (c ∷ cs) h = ap (λ n. drop n (c ∷ cs)) (left_by_next column (c ∷ cs) h)
