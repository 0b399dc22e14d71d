-- How the brackets of `print(..)` are read: values and options with commas between. An option begins as an expression does,
-- and the `=` behind it tells it from one.
use Rattle.std.specs.Prelude.{◌≡◌, ℕ, Bool, true, false, not, cond, ◌||◌, ◌&&◌, if◌then◌else◌, List, [], ◌∷◌, ◌++◌, length, Option, Some, None, codes, ◌⊎◌}
use Rattle.std.specs.Str.{bytes_eq}
use Rattle.indent_lexer.specs.declared.token.Token.{Token}
use Rattle.source_trees.specs.declared.expression.Expr.{Expr}
use Rattle.source_trees.specs.declared.pipeline.PrintOptions.{PrintOptions}
use Rattle.source_trees.specs.declared.pipeline.PrintOptions.TheVariants.{Neither, Sep, End, SepEnd, EndSep}
use Rattle.source_trees.specs.declared.pipeline.Printed.{Printed}
use Rattle.source_trees.specs.declared.statement.Target.{Target}
use Rattle.source_trees.specs.declared.statement.Target.TheVariants as target
use Rattle.parse_laws.specs.Parser.{Parser, ◌>>=◌, pure, refuse, choose, expect, take_by, repeat}
use Rattle.parse_laws.specs.Language.{Language}
use Rattle.parse_laws.specs.Forms.{Opens, Made}
use Rattle.parse_laws.specs.Limits.{Nothing}
use Rattle.grammar_rules.specs.Expressions.{IsExpr}
use Rattle.grammar_rules.specs.Words.{is_op, is_comma, name_of}
use Rattle.parse_statements.specs.Targets.{target_of}
use Rattle.parse_statements.specs.Readers.{Readers, starts_expr, has_room}
use Rattle.parse_statements.specs.Heads.{is_equals}

abbrev pub nothing : Printed
nothing = record { values = []; options = Neither }

-- what the option of this name makes of those before it
abbrev pub option_after : PrintOptions → List ℕ → Option (Expr → PrintOptions)
option_after Neither word = if bytes_eq word (codes "sep") then Some (λ x. Sep x) else if bytes_eq word (codes "end") then Some (λ x. End x) else None
option_after (Sep x) word = if bytes_eq word (codes "end") then Some (λ y. SepEnd x y) else None
option_after (End x) word = if bytes_eq word (codes "sep") then Some (λ y. EndSep x y) else None
option_after _ word = None

abbrev pub option_of_name : PrintOptions → Option (List ℕ) → Option (Expr → PrintOptions)
option_of_name o (Some word) = option_after o word
option_of_name o None = None

-- what the option that this token names makes of those before it
abbrev pub option_at : PrintOptions → Token → Option (Expr → PrintOptions)
option_at o t = option_of_name o (name_of t)

abbrev pub option_of_target : PrintOptions → Option Target → Option (Expr → PrintOptions)
option_of_target o (Some (target.Name n word)) = option_after o word
option_of_target o _ = None

-- what the option makes of those before it whose name was read as an expression
abbrev pub option_by : PrintOptions → Expr → Option (Expr → PrintOptions)
option_by o x = option_of_target o (target_of x)

abbrev pub is_neither : PrintOptions → Bool
is_neither Neither = true
is_neither _ = false

abbrev pub is_whole : PrintOptions → Bool
is_whole (SepEnd x y) = true
is_whole (EndSep x y) = true
is_whole _ = false

-- one more value may follow
abbrev pub takes_one : Printed → Bool
takes_one p = is_neither p.options && has_room p.values

abbrev pub with_value : Printed → Expr → Printed
with_value p x = record { values = p.values ++ x ∷ []; options = p.options }

abbrev pub with_options : Printed → PrintOptions → Printed
with_options p o = record { values = p.values; options = o }

-- ---- the language of one more value or option

abbrev pub SetTo : Printed → Option (Expr → PrintOptions) → Language Token Printed
SetTo p None = Nothing
SetTo p (Some set) = Opens is_equals (λ _. Made IsExpr (λ y. with_options p (set y)))

abbrev pub PrintItem : Printed → Language Token Printed
PrintItem p a q =
    ((takes_one p ≡ true) × Made IsExpr (with_value p) a q)
    ⊎ ((t : Token) × (b : List Token) × (a ≡ t ∷ b) × SetTo p (option_at p.options t) b q)

-- ---- the parsers

abbrev pub is_bracket_end : Token → Bool
is_bracket_end = is_op (codes ")")

-- the token carries what stands in the brackets on
abbrev pub printed_on : Token → Bool
printed_on t = not (is_bracket_end t)

-- the token carries one value or option on
abbrev pub print_item_on : Token → Bool
print_item_on t = not (is_comma t || is_bracket_end t)

module _ (r : Readers) where
  unfoldable pub set_to : ℕ → Printed → Option (Expr → PrintOptions) → Parser Token Printed
  set_to n p None = refuse
  set_to n p (Some set) = expect is_equals >>= λ _. r.expr n >>= λ y. pure (with_options p (set y))

  unfoldable pub print_item : ℕ → Printed → Parser Token Printed
  print_item n p =
      cond (takes_one p)
      (r.expr n >>= λ x. choose is_equals (set_to n p (option_by p.options x)) (pure (with_value p x)))
      (take_by (option_at p.options) >>= λ set. set_to n p (Some set))

  unfoldable pub more_printed : ℕ → Printed → Parser Token Printed
  more_printed n p = λ ts. repeat (λ q t. not (is_whole q.options) && is_comma t) (λ q. expect is_comma >>= λ _. print_item n q) (length ts) p ts

  unfoldable pub printed : ℕ → Parser Token Printed
  printed n = choose starts_expr (print_item n nothing >>= more_printed n) (pure nothing)
