use Rattle.std.proofs.Common.{◌≡◌, ◌≤◌, ◌^◌, List, [], ◌∷◌, ℕ, length, slice_index, arith}
use Rattle.std.specs.List.{fold}
use Rattle.indent_lexer.specs.Number.{with_digit, value_in}
use Rattle.indent_lexer.proofs.Digits.{fold_grows}
use Rattle.indent_lexer.proofs.number.value_in.Goals as goal

large : (base n : ℕ) (digits : List ℕ) (v : ℕ) → 1 ≤ base → 1 ≤ length digits → 2 ^ 63 ≤ with_digit base n (slice_index digits 0) → v ≡ fold (with_digit base) n digits → 2 ^ 63 ≤ v
large base n [] v b l h e = absurd (omega arith)
large base n (c ∷ cs) v b l h e = let g = fold_grows base b (with_digit base n c) cs in omega arith

pub returns-in_default-with_digit : goal.returns-in_default-with_digit
returns-in_default-with_digit c =
    large c.args.base c.digits.value c.digits.rest.now (value_in c.args.base c.args.digits.now) c.requires.low c.in-len1-up.len_at_least c.in_default-with_digit.ensures c.digits.invariant
