-- What is due for a run by the interpreter of trees that printed these bytes and ended so.
use Rattle.std.specs.Prelude.{◌≡◌, ℕ, List, []}
use Rattle.outer_world.specs.declared.status.Status.TheVariants as status
use Rattle.plain_interpreter.specs.declared.plain.PlainEnd.{PlainEnd}
use Rattle.plain_interpreter.specs.declared.plain.PlainEnd.TheVariants as «end»
use Rattle.codon_front.specs.Due.{Due, ended, deep_line}
use Rattle.codon_front.specs.declared.report.Stop.{Stop}
use Rattle.codon_front.specs.declared.report.Stop.TheVariants as stop
use Rattle.codon_front.specs.Stop.{line_of, status_of}

abbrev pub due_of_end : List ℕ → PlainEnd → Due
due_of_end out («end».Ended how) = ended out how
due_of_end out «end».TooDeep = record { out = out; err = deep_line; status = status.Deep }

-- nothing is told of an end
abbrev pub IsQuietEnd : PlainEnd → Type 0
IsQuietEnd how = ((due_of_end [] how).status ≡ status.Done) × ((due_of_end [] how).err ≡ [])

-- this is told of an end
abbrev pub IsEndStopOf : PlainEnd → Stop → Type 0
IsEndStopOf how stop.Memory = Unit {0}
IsEndStopOf how stop.File = ⊥
IsEndStopOf how stop.Sink = ⊥
IsEndStopOf how s = ((due_of_end [] how).status ≡ status_of s) × ((due_of_end [] how).err ≡ line_of s)
