-- What a command is to write and how it is to end, by what the words are and what their file holds, where nothing fails.
use Rattle.std.specs.Prelude.{◌≡◌, ◌⊎◌, ℕ, ◌≤◌, List, [], ◌∷◌, ◌++◌, length, Option, Some, None, codes}
use Rattle.codon_base.specs.declared.source.Span.{Span}
use Rattle.codon_base.specs.declared.fault.Fault.{Fault}
use Rattle.codon_base.specs.declared.fault.FaultKind.{FaultKind}
use Rattle.codon_base.specs.declared.fault.FaultKind.TheVariants as kind
use Rattle.codon_base.specs.declared.fault.Ending.{Ending}
use Rattle.codon_base.specs.declared.fault.Ending.TheVariants as ending
use Rattle.outer_world.specs.Files.{Told, MayHold, IsLonger}
use Rattle.outer_world.specs.declared.status.Status.{Status}
use Rattle.outer_world.specs.declared.status.Status.TheVariants as status
use Rattle.indent_lexer.specs.declared.token.LexRefusal.{LexRefusal}
use Rattle.indent_lexer.specs.declared.token.Token.{Token}
use Rattle.indent_lexer.specs.Tokens.{Tokens, LexPlace}
use Rattle.source_trees.specs.declared.item.Module.{Module}
use Rattle.grammar_rules.specs.declared.refusal.ParseRefusal.{ParseRefusal}
use Rattle.grammar_rules.specs.Modules.{Source}
use Rattle.grammar_rules.specs.Refusals.{IsParsePlace}
use Rattle.meaning_rules.specs.State.{State, TooDeep}
use Rattle.meaning_rules.specs.Outcome.{Stops}
use Rattle.meaning_rules.specs.Meaning.{Meaning, meaning, outcome}
use Rattle.straight_lines.specs.Built.{first_unbuilt}
use Rattle.codon_front.specs.Command.{Command}
use Rattle.codon_front.specs.declared.command.Action.{Action}
use Rattle.codon_front.specs.declared.command.Action.TheVariants.{Run, Plain, Check}
use Rattle.codon_front.specs.Refusals.{lex_line, parse_line, unbuilt_line, too_long_line}

-- what is written to out and to err, and the status
pub record Due : Type 0 where
  pub out : List ℕ
  pub err : List ℕ
  pub status : Status

-- ---- a run

-- how a fault's kind is spelled: by the name of its exception
abbrev pub kind_name : FaultKind → List ℕ
kind_name kind.Value = codes "ValueError"
kind_name kind.Index = codes "IndexError"
kind_name kind.ZeroDivision = codes "ZeroDivisionError"
kind_name kind.Assertion = codes "AssertionError"
kind_name kind.Runtime = codes "RuntimeError"
kind_name kind.ParallelConflict = codes "ParallelConflictError"
kind_name kind.Size = codes "SizeError"

-- what stands after the name of a fault's kind: its text, if it has one
abbrev pub after_kind : List ℕ → List ℕ
after_kind [] = []
after_kind (c ∷ cs) = codes ": " ++ c ∷ cs

abbrev pub fault_line : Fault → List ℕ
fault_line f = kind_name f.kind ++ after_kind f.text ++ codes "\n"

abbrev pub fuel_line : List ℕ
fuel_line = codes "out of fuel\n"

abbrev pub deep_line : List ℕ
deep_line = codes "too deep\n"

-- a run that printed these bytes and ended so
abbrev pub ended : List ℕ → Ending → Due
ended out ending.Done = record { out = out; err = []; status = status.Done }
ended out (ending.Fault f) = record { out = out; err = fault_line f; status = status.Fault }
ended out ending.OutOfFuel = record { out = out; err = fuel_line; status = status.OutOfFuel }

-- what a source means is due
abbrev pub due_of : Meaning → Due
due_of m = ended m.bytes m.ending

-- how many bodies `plain` may enter and not leave
abbrev pub most_depth : ℕ
most_depth = 100

-- a run by `plain` would enter more bodies, and printed these bytes before
abbrev pub EntersMore : Module → ℕ → List ℕ → Type 0
EntersMore m fuel bytes = (s : State) × (outcome m fuel most_depth TooDeep ≡ Stops TooDeep s) × (bytes ≡ s.shared.out)

-- `plain` gives what the source means, unless more bodies would be entered: then it is too deep, and what it prints is a front of the meaning's bytes
abbrev pub IsPlainDue : Module → ℕ → Due → Type 0
IsPlainDue m fuel d =
    (((bytes : List ℕ) → EntersMore m fuel bytes → ⊥) × (d ≡ due_of (meaning m fuel)))
    ⊎ ((bytes rest : List ℕ) × EntersMore m fuel bytes × ((meaning m fuel).bytes ≡ bytes ++ rest) × (d ≡ record { out = bytes; err = deep_line; status = status.Deep }))

-- ---- a source

abbrev pub refused : List ℕ → Due
refused line = record { out = []; err = line; status = status.Refused }

abbrev pub accepted : Due
accepted = record { out = codes "accepted\n"; err = []; status = status.Done }

-- what is due for a source with this tree. `run` takes straight lines so far, and refuses another tree at its first node that is not built
abbrev pub IsDueOfTree : Module → Action → Due → Type 0
IsDueOfTree m (Plain fuel) d = IsPlainDue m fuel d
IsDueOfTree m Check d = d ≡ accepted
IsDueOfTree m (Run fuel) d =
    ((first_unbuilt m ≡ None) × (d ≡ due_of (meaning m fuel)))
    ⊎ ((at : Span) × (first_unbuilt m ≡ Some at) × (d ≡ refused (unbuilt_line at)))

-- a text without tokens, or whose tokens have no tree, is refused with this line
abbrev pub IsRefusedWith : List ℕ → List ℕ → Type 0
IsRefusedWith text line =
    ((r : LexRefusal) × LexPlace text r × (line ≡ lex_line r))
    ⊎ ((ts : List Token) × (r : ParseRefusal) × Tokens text ts × IsParsePlace ts r × (line ≡ parse_line text ts r))

-- what is due for a text: it is refused, or it is a source
abbrev pub IsDueOfText : Action → List ℕ → Due → Type 0
IsDueOfText action text d =
    ((line : List ℕ) × IsRefusedWith text line × (d ≡ refused line))
    ⊎ ((m : Module) × Source text m × IsDueOfTree m action d)

-- ---- words and files

abbrev pub usage_line : List ℕ
usage_line = codes "usage: codon run|build|exec|check|ir|plain|sample|sample-run\n"

-- how many bytes a source may have
abbrev pub source_limit : ℕ
source_limit = 1048576

-- the file of a command has this text, as far as the store tells, and it is short enough for a source
pub record IsSourceText (told : List ℕ → Told) (c : Command) (text : List ℕ) : Type 0 where
  pub held : MayHold (told c.file) text
  pub short : length text ≤ source_limit

-- what is due for the words, where the store tells this of their file
abbrev pub IsDue : (List ℕ → Told) → Option Command → Due → Type 0
IsDue told None d = d ≡ record { out = []; err = usage_line; status = status.Usage }
IsDue told (Some c) d =
    (IsLonger (told c.file) source_limit × (d ≡ refused too_long_line))
    ⊎ ((text : List ℕ) × IsSourceText told c text × IsDueOfText c.action text d)
