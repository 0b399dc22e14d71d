-- What the interpreter's reach and captured values stand for among the definitions.
use Rattle.std.specs.Prelude.{ℕ, zero, suc, Bool, true, false, List, [], ◌∷◌, ◌++◌, map, slice_get, Option, Some, None}
use Rattle.std.specs.List.{list_any}
use Rattle.meaning_rules.specs.Mentions as mentions
use Rattle.meaning_rules.specs.Program as program
use Rattle.meaning_rules.specs.Captures as captures
use Rattle.meaning_rules.specs.Captures.{is_called_by, notes_of_reached}
use Rattle.plain_interpreter.specs.declared.captures.Captured.{Captured}

-- those that are flagged
abbrev pub picked : {A : Type 0} → List A → List Bool → List A
picked [] flags = []
picked (x ∷ xs) [] = []
picked (x ∷ xs) (true ∷ flags) = x ∷ picked xs flags
picked (x ∷ xs) (false ∷ flags) = picked xs flags

-- whether the one at a place is flagged
abbrev pub flag_of : Option Bool → Bool
flag_of (Some flag) = flag
flag_of None = false

abbrev pub flagged : List Bool → ℕ → Bool
flagged flags place = flag_of (slice_get flags place)

abbrev pub one_if : {A : Type 0} → Bool → A → List A
one_if true x = x ∷ []
one_if false x = []

-- which of them notes call
abbrev pub flags_of : List mentions.Note → List program.Callable → List Bool
flags_of notes = map (λ callable. list_any (is_called_by callable) notes)

-- which of them notes call, directly or through at most n others
unfoldable pub flags_within : List program.Callable → List mentions.Note → ℕ → List Bool
flags_within all notes zero = flags_of notes all
flags_within all notes (suc n) = flags_of (notes ++ notes_of_reached (picked all (flags_within all notes n))) all

abbrev pub captured_of : Captured → captures.Captured
captured_of c = record { name = c.name.now; value = c.value }
