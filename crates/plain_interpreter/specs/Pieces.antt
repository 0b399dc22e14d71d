-- The piece that a `print` writes, as the interpreter makes it.
use Rattle.std.specs.Prelude.{ℕ, List, ◌++◌}
use Rattle.std.specs.List.{flat_map}
use Rattle.codon_base.specs.declared.value.Value.{Value}
use Rattle.meaning_rules.specs.Outcome.{Run, ◌>>=◌, pure}
use Rattle.meaning_rules.specs.Task.{Rules}
use Rattle.meaning_rules.specs.Printing as printing
use Rattle.meaning_rules.specs.Printing.{texts_of, separated}
use Rattle.plain_interpreter.specs.declared.printing.Ends.{Ends}

abbrev pub ends_of : Ends → printing.Ends
ends_of e = record { between = e.between; last = e.last }

-- texts, each with one before it
abbrev pub led : List ℕ → List (List ℕ) → List ℕ
led sep = flat_map (λ text. sep ++ text)

-- a text with the texts of values after it
abbrev pub followed : Rules → List Value → List ℕ → List ℕ → Run (List ℕ)
followed rules vs between text = texts_of rules vs >>= λ texts. pure (text ++ led between texts)

-- the texts of values with one between them
abbrev pub separated_texts : Rules → List Value → List ℕ → Run (List ℕ)
separated_texts rules vs between = texts_of rules vs >>= λ texts. pure (separated between texts)

-- the piece that a `print` writes
abbrev pub joined : Rules → List Value → List ℕ → List ℕ → Run (List ℕ)
joined rules vs between last = texts_of rules vs >>= λ texts. pure (separated between texts ++ last)
