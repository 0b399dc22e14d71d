-- What contracts see of a command, and of the words that it is read from.
use Rattle.std.specs.Prelude.{ℕ, List}
use Rattle.std.specs.String.{string_bytes}
use Rattle.std.specs.Borrow.{Bor}
use Rattle.std.specs.declared.string.String.{String}
use Rattle.codon_front.specs.Command.{Command}
use Rattle.codon_front.specs.declared.command.Command as code

abbrev pub seen_command : code.Command → Command
seen_command c = record { action = c.action; file = string_bytes c.file.now }

abbrev pub seen_pair : {Z : Type 0} → ℕ × Bor (String Z) → ℕ × List ℕ
seen_pair p = (p.0, string_bytes p.1.now)
