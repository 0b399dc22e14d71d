-- Where nothing fails and the store tells of the file, the status is the one that is due, or want of memory.
use Rattle.std.proofs.Common.{◌≡◌, ◌⊎◌, ℕ, List, Option, None, Some, sym, refl, ap, ◌∙◌, inl, inr}
use Rattle.outer_world.specs.Count.{Rose}
use Rattle.outer_world.specs.Files.{Told, Untold, Absent, Held}
use Rattle.outer_world.specs.declared.status.Status.{Status}
use Rattle.outer_world.specs.declared.status.Status.TheVariants as status
use Rattle.codon_front.specs.Command.{Command}
use Rattle.codon_front.specs.Due.{Due, IsDue}
use Rattle.codon_front.specs.Answer.{Outside, IsAnswer, IsDone, NothingFailed, IsDueFor, IsDueStatus, IsSinkAnswer, IsFileFault}
use Rattle.codon_front.proofs.OneDue.{one_of_file, not_absent}

-- ---- the status that is due is that of what is due

due_for : (holds : List ℕ → Told) (c : Command) (told : Told) (s : Status) (d : Due) → holds c.file ≡ told → IsDueFor holds c told s → IsDue holds (Some c) d → d.status ≡ s
due_for holds c Untold s d same h g = absurd h
due_for holds c Absent s d same h g = absurd (not_absent holds c d same g)
due_for holds c (Held text) s d same h g = ap (λ x. x.status) (one_of_file holds c text d h.0 same g h.1) ∙ sym h.2

due_status : (command : Option Command) (holds : List ℕ → Told) (s : Status) (d : Due) → IsDueStatus command holds s → IsDue holds command d → d.status ≡ s
due_status None holds s d h g = ap (λ x. x.status) g ∙ sym h
due_status (Some c) holds s d h g = due_for holds c (holds c.file) s d refl h g

-- ---- a fault of a file is due where nothing failed

file_for : (holds : List ℕ → Told) (c : Command) (told : Told) (s : Status) → told ≡ Absent → IsDueFor holds c told s → s ≡ status.File
file_for holds c Untold s same h = absurd h
file_for holds c Absent s same h = h
file_for holds c (Held text) s same h = absurd (cc)

named : (c other : Command) → Some c ≡ Some other → other ≡ c
named c other e = cc

file_due : (command : Option Command) (holds : List ℕ → Told) (before now : ℕ) (s : Status) → IsFileFault command holds before now → (Rose before now → ⊥) → IsDueStatus command holds s → s ≡ status.File
file_due command holds before now s (inl rose) nothing h = absurd (nothing rose)
file_due None holds before now s (inr absent) nothing h = let e = absent.1 in absurd (cc)
file_due (Some c) holds before now s (inr absent) nothing h =
    let same : absent.0 ≡ c = named c absent.0 absent.1 in
    file_for holds c (holds c.file) s (ap (λ x. holds x.file) (sym same) ∙ absent.2) h

-- ---- answers

abbrev Answers : Status → Status → Type 0
Answers result due = (result ≡ due) ⊎ (result ≡ status.Memory)

no_fault : (command : Option Command) (before now : Outside) → IsSinkAnswer command before now → NothingFailed before now → ⊥
no_fault command before now (inl out) nothing = nothing.out out.0
no_fault command before now (inr err) nothing = nothing.err err.0

done : (command : Option Command) (before now : Outside) (result due : Status) → IsDone (IsDue before.holds command) before now result → IsDueStatus command before.holds due → Answers result due
done command before now result due d h = inl (d.status ∙ due_status command before.holds due d.due h d.is_due)

pub complete : (command : Option Command) (before now : Outside) (result due : Status) → IsAnswer command before now result → NothingFailed before now → IsDueStatus command before.holds due → Answers result due
complete command before now status.File due a nothing h =
    inl (sym (file_due command before.holds before.file_faults now.file_faults due a.0 nothing.files h))
complete command before now status.Memory due a nothing h = inr refl
complete command before now status.Sink due a nothing h = absurd (no_fault command before now a.1 nothing)
complete command before now status.Done due a nothing h = done command before now status.Done due a h
complete command before now status.Fault due a nothing h = done command before now status.Fault due a h
complete command before now status.Usage due a nothing h = done command before now status.Usage due a h
complete command before now status.Refused due a nothing h = done command before now status.Refused due a h
complete command before now status.OutOfFuel due a nothing h = done command before now status.OutOfFuel due a h
complete command before now status.Code due a nothing h = done command before now status.Code due a h
complete command before now status.Deep due a nothing h = done command before now status.Deep due a h
