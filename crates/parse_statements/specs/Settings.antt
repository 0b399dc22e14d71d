-- What stands in the code for functions and lists of the parser: the name of an option for what it makes, and two lists for
-- arguments with a piped value between.
use Rattle.std.specs.Prelude.{◌≡◌, ℕ, Bool, true, false, List, [], ◌∷◌, ◌++◌, map, reverse, Option, Some, None}
use Rattle.indent_lexer.specs.declared.token.Token.{Token}
use Rattle.source_trees.specs.declared.expression.Expr.{Expr}
use Rattle.source_trees.specs.declared.pipeline.PrintOptions.{PrintOptions}
use Rattle.source_trees.specs.declared.pipeline.PrintOptions.TheVariants.{Neither, Sep, End, SepEnd, EndSep}
use Rattle.source_trees.specs.declared.pipeline.Printed.{Printed}
use Rattle.source_trees.specs.declared.statement.ParOptions.{ParOptions}
use Rattle.grammar_rules.specs.Statements.{schedules}
use Rattle.grammar_rules.specs.Words.{number_of, text_of, entry_of}
use Rattle.parse_statements.specs.declared.print.PrintOption.{PrintOption}
use Rattle.parse_statements.specs.declared.print.PrintOption.TheVariants as printed
use Rattle.parse_statements.specs.declared.option.Setting.{Setting}
use Rattle.parse_statements.specs.declared.option.Setting.TheVariants as setting
use Rattle.parse_statements.specs.Options.{counted, with_threads, with_chunk, with_schedule}

-- these options of `print` and one more; those that may not be joined stay as they are
abbrev pub setter : PrintOptions → PrintOption → Expr → PrintOptions
setter Neither printed.Sep x = Sep x
setter Neither printed.End x = End x
setter (Sep y) printed.Sep x = Sep y
setter (Sep y) printed.End x = SepEnd y x
setter (End y) printed.Sep x = EndSep y x
setter (End y) printed.End x = End y
setter (SepEnd y z) o x = SepEnd y z
setter (EndSep y z) o x = EndSep y z

abbrev pub printed_of : List Expr → PrintOptions → Printed
printed_of values options = record { values = values; options = options }

-- the option stands for what is made of those before it
abbrev pub Sets : PrintOptions → Option (Expr → PrintOptions) → Option PrintOption → Type 0
Sets o made None = made ≡ None
Sets o made (Some p) = made ≡ Some (setter o p)

-- these options of `@par` and one more, by the token after `=`
abbrev pub set_by : ParOptions → Setting → Token → Option ParOptions
set_by o setting.Threads u = with_threads o (counted None (number_of u))
set_by o setting.Chunk u = with_chunk o (counted (Some 65536) (number_of u))
set_by o setting.Schedule u = with_schedule o (entry_of (text_of u) schedules)

abbrev pub Picked : ParOptions → Option (Token → Option ParOptions) → Option Setting → Type 0
Picked o made None = made ≡ None
Picked o made (Some s) = made ≡ Some (set_by o s)

-- the arguments before and after the piped value, where it stands
abbrev pub placed : List Expr → Bool → List Expr → List (Option Expr)
placed before true after = map Some before ++ None ∷ map Some after
placed before false after = map Some before

-- none stands after the piped value where that stands nowhere
abbrev pub IsPlaced : Bool → List Expr → Type 0
IsPlaced true after = Unit {0}
IsPlaced false after = after ≡ []

-- these, from the last to the first, if there are any
abbrev pub turned : {A : Type 0} → Option (List A) → Option (List A)
turned None = None
turned (Some xs) = Some (reverse xs)
