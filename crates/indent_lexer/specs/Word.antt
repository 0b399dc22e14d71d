-- Keywords, operators and delimiters (Python reference, 2.3.1, 2.5 and 2.6).
use Rattle.std.specs.Prelude.{ℕ, List, [], ◌∷◌, Bool, cond, max, length, codes}
use Rattle.std.specs.List.{list_any, starts_with}
use Rattle.std.specs.Str.{bytes_eq}
use Rattle.std.specs.Prelude.{nat_eq}

abbrev pub keywords : List (List ℕ)
keywords =
    codes "False" ∷ codes "None" ∷ codes "True" ∷ codes "and" ∷ codes "as" ∷ codes "assert" ∷ codes "async" ∷ codes "await" ∷
    codes "break" ∷ codes "class" ∷ codes "continue" ∷ codes "def" ∷ codes "del" ∷ codes "elif" ∷ codes "else" ∷ codes "except" ∷
    codes "finally" ∷ codes "for" ∷ codes "from" ∷ codes "global" ∷ codes "if" ∷ codes "import" ∷ codes "in" ∷ codes "is" ∷
    codes "lambda" ∷ codes "nonlocal" ∷ codes "not" ∷ codes "or" ∷ codes "pass" ∷ codes "raise" ∷ codes "return" ∷ codes "try" ∷
    codes "while" ∷ codes "with" ∷ codes "yield" ∷ []

abbrev pub is_keyword : List ℕ → Bool
is_keyword spelling = list_any (bytes_eq spelling) keywords

-- with those of pipelines, `|>` and `||>`
abbrev pub operators : List (List ℕ)
operators =
    codes "||>" ∷ codes "..." ∷ codes "**=" ∷ codes "//=" ∷ codes "<<=" ∷ codes ">>=" ∷ codes "|>" ∷ codes "**" ∷
    codes "//" ∷ codes "<<" ∷ codes ">>" ∷ codes "==" ∷ codes "!=" ∷ codes "<=" ∷ codes ">=" ∷ codes "+=" ∷
    codes "-=" ∷ codes "*=" ∷ codes "%=" ∷ codes "&=" ∷ codes "|=" ∷ codes "^=" ∷ codes "->" ∷ codes "+" ∷
    codes "-" ∷ codes "*" ∷ codes "%" ∷ codes "&" ∷ codes "|" ∷ codes "^" ∷ codes "~" ∷ codes "<" ∷
    codes ">" ∷ codes "=" ∷ codes "(" ∷ codes ")" ∷ codes "[" ∷ codes "]" ∷ codes "{" ∷ codes "}" ∷
    codes "," ∷ codes ":" ∷ codes "." ∷ codes ";" ∷ codes "@" ∷ []

abbrev pub fitting_len : List ℕ → List ℕ → ℕ
fitting_len spelling text = cond (starts_with nat_eq text spelling) (length spelling) 0

-- the length of the longest spelling of a table that the text begins with, 0 where it begins with none
abbrev pub longest_in : List (List ℕ) → List ℕ → ℕ
longest_in [] text = 0
longest_in (spelling ∷ table) text = max (fitting_len spelling text) (longest_in table text)

abbrev pub operator_len : List ℕ → ℕ
operator_len text = longest_in operators text
