-- How the stages of a pipeline are read: a name, and its arguments in brackets, where `...` stands once at most for the
-- piped value.
use Rattle.std.specs.Prelude.{ℕ, Bool, true, false, not, ◌||◌, ◌&&◌, nat_lt, if◌then◌else◌, List, [], ◌∷◌, ◌++◌, length, Option, Some, None, codes}
use Rattle.std.specs.Str.{bytes_eq}
use Rattle.indent_lexer.specs.declared.token.Token.{Token}
use Rattle.source_trees.specs.declared.expression.Expr.{Expr}
use Rattle.source_trees.specs.declared.pipeline.Stage.{Stage}
use Rattle.source_trees.specs.declared.pipeline.StageForm.{StageForm}
use Rattle.source_trees.specs.declared.pipeline.StageForm.TheVariants as form
use Rattle.parse_laws.specs.Parser.{Parser, ◌>>=◌, ◌>>◌, pure, choose, expect, take_by, repeat, row_turn, has}
use Rattle.parse_laws.specs.Loops.{row_test}
use Rattle.grammar_rules.specs.Simple.{joints}
use Rattle.grammar_rules.specs.Words.{is_op, is_comma, look_up, name_at, most_items}
use Rattle.parse_statements.specs.Readers.{Readers, starts_expr}
use Rattle.parse_statements.specs.Many.{one_or_more}
use Rattle.parse_statements.specs.Prints as print
use Rattle.parse_statements.specs.Prints.{is_bracket_end, printed_on}

abbrev pub is_bracket : Token → Bool
is_bracket = is_op (codes "(")

abbrev pub is_dots : Token → Bool
is_dots = is_op (codes "...")

-- the arguments that are written, without the piped value
abbrev pub filled : List (Option Expr) → List Expr
filled [] = []
filled (Some x ∷ ys) = x ∷ filled ys
filled (None ∷ ys) = filled ys

abbrev pub has_piped : List (Option Expr) → Bool
has_piped [] = false
has_piped (Some x ∷ ys) = has_piped ys
has_piped (None ∷ ys) = true

-- the arguments before the piped value, and those after it; it comes first where it is not written
abbrev pub cut : List Expr → List (Option Expr) → List Expr × List Expr
cut before [] = ([], before)
cut before (Some x ∷ ys) = cut (before ++ x ∷ []) ys
cut before (None ∷ ys) = (before, filled ys)

-- the argument may follow these
abbrev pub may_pass : List (Option Expr) → Option Expr → Bool
may_pass s (Some x) = nat_lt (length (filled s)) most_items
may_pass s None = not (has_piped s)

abbrev pub starts_argument : List (Option Expr) → Token → Bool
starts_argument s t = (nat_lt (length (filled s)) most_items && starts_expr t) || (not (has_piped s) && is_dots t)

-- the token begins an argument
abbrev pub begins_argument : Token → Bool
begins_argument t = starts_expr t || is_dots t

abbrev pub called : List ℕ → List (Option Expr) → StageForm
called spelling ys = form.Call spelling (cut [] ys).0 (cut [] ys).1

-- ---- the parsers

module _ (r : Readers) where
  unfoldable pub argument : ℕ → Parser Token (Option Expr)
  argument n = choose is_dots (expect is_dots >>= λ _. pure None) (r.expr n >>= λ x. pure (Some x))

  unfoldable pub more_arguments : ℕ → Option Expr → Parser Token (List (Option Expr))
  more_arguments n y =
      choose is_comma
      (expect is_comma >>= λ _. (λ ts. repeat (row_test is_comma starts_argument) (row_turn is_comma (λ _. argument n) (λ v z. v ++ z ∷ [])) (length ts) (y ∷ [], true) ts) >>= λ s. pure s.0)
      (pure (y ∷ []))

  -- the arguments of a stage in its brackets
  unfoldable pub stage_arguments : ℕ → Parser Token (List (Option Expr))
  stage_arguments n = choose begins_argument (argument n >>= more_arguments n) (pure [])

  unfoldable pub call_stage : ℕ → List ℕ → Parser Token StageForm
  call_stage n spelling = expect is_bracket >>= λ _. stage_arguments n >>= λ ys. expect is_bracket_end >> pure (called spelling ys)

  unfoldable pub print_stage : ℕ → Parser Token StageForm
  print_stage n = expect is_bracket >>= λ _. print.printed r n >>= λ p. expect is_bracket_end >> pure (form.Print p)

  -- what follows the name of a stage
  unfoldable pub stage_after : ℕ → List ℕ → Parser Token StageForm
  stage_after n spelling =
      if bytes_eq spelling (codes "print") then choose is_bracket (print_stage n) (pure (form.Print print.nothing))
      else choose is_bracket (call_stage n spelling) (pure (if bytes_eq spelling (codes "iter") then form.Iter else form.Call spelling [] []))

  -- a stage with its operator
  unfoldable pub stage : ℕ → Parser Token Stage
  stage n = do
    j ← take_by (look_up joints)
    name ← take_by name_at
    f ← stage_after n name.spelling
    pure (record { node = name.node; joint = j; form = f })

  unfoldable pub stages : ℕ → Parser Token (List Stage)
  stages n = one_or_more (has (look_up joints)) (stage n)
