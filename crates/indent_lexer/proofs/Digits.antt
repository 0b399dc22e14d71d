-- More digits do not make a number smaller.
use Rattle.std.proofs.Common.{ℕ, ◌+◌, ◌*◌, ◌≤◌, List, [], ◌∷◌, Bool, true, false, cond, nat_eq, arith}
use Rattle.std.specs.List.{fold}
use Rattle.std.specs.Char.{digit_value}
use Rattle.std.proofs.Math.Nat.{le-mul_of_pos_right}
use Rattle.indent_lexer.specs.Number.{with_digit}

step_grows : (base n d : ℕ) (b : Bool) → 1 ≤ base → n ≤ cond b n (n * base + d)
step_grows base n d true h = omega arith
step_grows base n d false h = let p : n ≤ n * base = le-mul_of_pos_right n (omega arith) in omega arith

pub fold_grows : (base : ℕ) → 1 ≤ base → (n : ℕ) (digits : List ℕ) → n ≤ fold (with_digit base) n digits
fold_grows base h n [] = omega arith
fold_grows base h n (c ∷ cs) =
    let i = fold_grows base h (with_digit base n c) cs in
    let s : n ≤ with_digit base n c = step_grows base n (digit_value c) (nat_eq c 95) h in
    omega arith
