-- Indentation: the columns at which blocks stand, the innermost first (Python reference, 2.1.8). The column 0
-- of the module stands below all of them and is not kept.
use Rattle.std.specs.Prelude.{ℕ, List, [], ◌∷◌, Option, Some, None, if◌then◌else◌, nat_eq, nat_lt, not, drop, replicate}
use Rattle.std.specs.List.{position_or_len}
use Rattle.indent_lexer.specs.declared.token.TokenKind.{TokenKind}
use Rattle.indent_lexer.specs.declared.token.TokenKind.TheVariants.{Indent, Dedent}

-- the innermost column
abbrev pub innermost : List ℕ → ℕ
innermost [] = 0
innermost (c ∷ cs) = c

-- how many columns a line leaves that stands at this one: those that are greater
abbrev pub left_by : ℕ → List ℕ → ℕ
left_by column columns = position_or_len (λ c. not (nat_lt column c)) columns

-- The tokens before a line that stands at this column, and the columns then: it opens a block, or it leaves
-- some and then stands at the innermost of the others. A line that does neither has none.
abbrev pub indentation : ℕ → List ℕ → Option (List TokenKind × List ℕ)
indentation column columns =
    if nat_lt (innermost columns) column then Some (Indent ∷ [], column ∷ columns) else
    (if nat_eq (innermost (drop (left_by column columns) columns)) column
    then Some (replicate (left_by column columns) Dedent, drop (left_by column columns) columns) else None)
