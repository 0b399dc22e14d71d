-- What `print` writes (the library reference, 'Built-in Functions'): the texts of its values with `sep` between them, a space where none is given, and then `end`, a line end where none is given, as one piece.
use Rattle.std.specs.Prelude.{ℕ, false, List, [], ◌∷◌, ◌++◌, codes}
use Rattle.codon_base.specs.declared.value.Value.{Value, out-Value}
use Rattle.codon_base.specs.declared.value.Value.TheVariants as value
use Rattle.codon_base.specs.Walks.{nesting_limit}
use Rattle.codon_base.specs.Printed.{text_of}
use Rattle.codon_base.specs.Operators.{Made, made, Sight, whole, after_walk}
use Rattle.source_trees.specs.declared.pipeline.PrintOptions.{PrintOptions}
use Rattle.source_trees.specs.declared.pipeline.PrintOptions.TheVariants as options
use Rattle.source_trees.specs.declared.pipeline.Printed.{Printed}
use Rattle.meaning_rules.specs.Outcome.{Run, ◌>>=◌, pure, write}
use Rattle.meaning_rules.specs.Objects.{operate, text_in}
use Rattle.meaning_rules.specs.Program.{Scope}
use Rattle.meaning_rules.specs.Task.{Rules, Setting}
use Rattle.meaning_rules.specs.Expressions.{expr, exprs}

-- the text of one value, by a walk of its own
abbrev pub text_made : Value → Sight → Made
text_made v sight = after_walk (text_of (whole sight) nesting_limit false v 0) (λ text. made (value.Text text))

abbrev pub text_of_value : Rules → Value → Run (List ℕ)
text_of_value rules v = operate rules (text_made v) >>= λ text. text_in (out-Value text)

abbrev pub texts_of : Rules → List Value → Run (List (List ℕ))
texts_of rules [] = pure []
texts_of rules (v ∷ vs) = text_of_value rules v >>= λ text. texts_of rules vs >>= λ more. pure (text ∷ more)

abbrev pub separated : List ℕ → List (List ℕ) → List ℕ
separated sep [] = []
separated sep (text ∷ []) = text
separated sep (text ∷ more) = text ++ sep ++ separated sep more

-- what stands between the values, and after them
pub record Ends : Type 0 where
  pub between : Value
  pub last : Value

abbrev pub print : Rules → List Value → Ends → Run (Unit {0})
print rules vs ends =
    text_in (out-Value ends.between) >>= λ between. text_in (out-Value ends.last) >>= λ last. texts_of rules vs >>= λ texts. write (separated between texts ++ last)

abbrev pub space : Value
space = value.Text (codes " ")

abbrev pub line_end : Value
line_end = value.Text (10 ∷ [])

module _ (here : Setting) (scope : Scope) where
  -- the options are evaluated in the order in which they are written
  abbrev pub ends : PrintOptions → Run Ends
  ends options.Neither = pure (record { between = space; last = line_end })
  ends (options.Sep sep) = expr here scope sep >>= λ v. pure (record { between = v; last = line_end })
  ends (options.End last) = expr here scope last >>= λ v. pure (record { between = space; last = v })
  ends (options.SepEnd sep last) = expr here scope sep >>= λ v. expr here scope last >>= λ w. pure (record { between = v; last = w })
  ends (options.EndSep last sep) = expr here scope last >>= λ w. expr here scope sep >>= λ v. pure (record { between = v; last = w })

  -- `print(..)` after the values that were piped into it
  abbrev pub print_after : List Value → Printed → Run (Unit {0})
  print_after piped printed = exprs here scope printed.values >>= λ vs. ends printed.options >>= print here.rules (piped ++ vs)
