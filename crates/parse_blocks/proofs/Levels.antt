-- The parser of statements at a height, by those of what stands one level lower.
use Rattle.std.proofs.Common.{◌≡◌, ℕ, zero, suc, ◌-◌, ◌<◌, List, refl, ap, ◌∙◌, arith}
use Rattle.indent_lexer.specs.declared.token.Token.{Token}
use Rattle.parse_laws.specs.Parser.{refuse}
use Rattle.parse_statements.specs.Code.{readers}
use Rattle.parse_blocks.specs.Blocks.{statement, statement_by, for_loop, level}
use Rattle.parse_blocks.specs.Code.{below}

one_less : (n : ℕ) → n ≡ suc n - 1
one_less n = omega arith

pub statement_none : (room : ℕ) (ts : List Token) → room ≡ 0 → statement readers room ts ≡ refuse ts
unfolding statement level
statement_none zero ts h = refl
statement_none (suc n) ts h = absurd (omega arith)

pub statement_some : (room : ℕ) (ts : List Token) → 0 < room → statement readers room ts ≡ statement_by readers room (below room) ts
unfolding statement level statement_by
statement_some zero ts h = absurd (omega arith)
statement_some (suc zero) ts h = refl
statement_some (suc (suc n)) ts h =
    ap (λ k. statement_by readers (suc (suc n)) (record { stmt = statement readers (suc n); loop = for_loop readers (suc n) (statement readers k) }) ts) (one_less n)
    ∙ ap (λ k. statement_by readers (suc (suc n)) (record { stmt = statement readers k; loop = for_loop readers k (statement readers (k - 1)) }) ts) (one_less (suc n))
