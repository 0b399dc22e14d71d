-- How the options of `@par` are read: each is a name, `=` and a number or a text, and stands once at most.
use Rattle.std.specs.Prelude.{◌≡◌, ℕ, ℤ, pos, negsuc, Bool, true, false, not, cond, ◌&&◌, nat_le, if◌then◌else◌, List, [], ◌∷◌, length, Option, Some, None, codes}
use Rattle.std.specs.Str.{bytes_eq}
use Rattle.indent_lexer.specs.declared.token.Token.{Token}
use Rattle.source_trees.specs.declared.statement.ParOptions.{ParOptions}
use Rattle.source_trees.specs.declared.statement.Schedule.{Schedule}
use Rattle.parse_laws.specs.Parser.{Parser, ◌>>=◌, ◌>>◌, pure, choose, expect, take_by, repeat}
use Rattle.parse_laws.specs.Language.{Language}
use Rattle.parse_laws.specs.Forms.{Then, Opens, Picks}
use Rattle.grammar_rules.specs.Statements.{no_options, schedules}
use Rattle.grammar_rules.specs.Words.{is_comma, name_of, number_of, text_of, entry_of}
use Rattle.parse_statements.specs.Heads.{is_equals}
use Rattle.parse_statements.specs.Prints.{is_bracket_end}
use Rattle.parse_statements.specs.Stages.{is_bracket}

-- the number, where it is from 1 to this one
abbrev pub counted : Option ℕ → Option ℤ → Option ℕ
counted (Some most) (Some (pos n)) = if nat_le 1 n && nat_le n most then Some n else None
counted None (Some (pos n)) = if nat_le 1 n then Some n else None
counted most _ = None

abbrev pub with_threads : ParOptions → Option ℕ → Option ParOptions
with_threads o (Some n) = Some (record o { num_threads = Some n })
with_threads o None = None

abbrev pub with_chunk : ParOptions → Option ℕ → Option ParOptions
with_chunk o (Some n) = Some (record o { chunk_size = Some n })
with_chunk o None = None

abbrev pub with_schedule : ParOptions → Option Schedule → Option ParOptions
with_schedule o (Some s) = Some (record o { schedule = Some s })
with_schedule o None = None

abbrev pub unset : {A : Type 0} → Option A → Bool
unset None = true
unset (Some x) = false

-- what the option of this name makes of those before it, by the token after `=`
abbrev pub setting : ParOptions → List ℕ → Option (Token → Option ParOptions)
setting o word =
    if bytes_eq word (codes "num_threads") && unset o.num_threads then Some (λ u. with_threads o (counted None (number_of u)))
    else if bytes_eq word (codes "chunk_size") && unset o.chunk_size then Some (λ u. with_chunk o (counted (Some 65536) (number_of u)))
    else if bytes_eq word (codes "schedule") && unset o.schedule then Some (λ u. with_schedule o (entry_of (text_of u) schedules))
    else None

abbrev pub setting_by : ParOptions → Option (List ℕ) → Option (Token → Option ParOptions)
setting_by o (Some word) = setting o word
setting_by o None = None

abbrev pub setting_at : ParOptions → Token → Option (Token → Option ParOptions)
setting_at o t = setting_by o (name_of t)

-- one more option
abbrev pub ParItem : ParOptions → Language Token ParOptions
ParItem o = Then (Picks (setting_at o)) (λ f. Opens is_equals (λ _. Picks f))

-- an option is still unset
abbrev pub takes_option : ParOptions → Bool
takes_option o = not (not (unset o.num_threads) && not (unset o.chunk_size) && not (unset o.schedule))

unfoldable pub par_item : ParOptions → Parser Token ParOptions
par_item o = take_by (setting_at o) >>= λ f. expect is_equals >>= λ _. take_by f

unfoldable pub more_options : ParOptions → Parser Token ParOptions
more_options o = λ ts. repeat (λ p t. takes_option p && is_comma t) (λ p. expect is_comma >>= λ _. par_item p) (length ts) o ts

unfoldable pub par_options : Parser Token ParOptions
par_options = choose is_bracket (expect is_bracket >>= λ _. par_item no_options >>= more_options >>= λ o. expect is_bracket_end >> pure o) (pure no_options)
