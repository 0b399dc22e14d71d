-- What `show_value` and `show_whole` answer about the walk over their value.
use Rattle.std.specs.Prelude.{◌≡◌, ◌++◌, ℕ, List, Result, Ok, Err}
use Rattle.codon_base.specs.declared.memory.Or.{Or}
use Rattle.codon_base.specs.declared.memory.Or.TheVariants as or
use Rattle.codon_base.specs.declared.show.ShowRefusal.{ShowRefusal}
use Rattle.codon_base.specs.declared.show.ShowRefusal.TheVariants.{NotShown, TooLarge, Memory}
use Rattle.codon_base.specs.declared.show.Printer.{Printer}
use Rattle.codon_base.specs.declared.walk.WalkEnd.{WalkEnd}
use Rattle.codon_base.specs.declared.walk.WalkEnd.TheVariants as reason
use Rattle.codon_base.specs.Walks.{Walked, Walk, going, ended, wrong_kind, lent_list, too_large}

-- the text where the walk comes to its end; a refusal where it ends for that reason; want of memory says nothing
abbrev pub AnswersShown : Result (List ℕ) ShowRefusal → Walked (List ℕ) → Type 0
AnswersShown (Ok bytes) (going text met) = bytes ≡ text
AnswersShown (Err NotShown) (ended wrong_kind met) = Unit {0}
AnswersShown (Err TooLarge) (ended too_large met) = Unit {0}
AnswersShown (Err Memory) walked = Unit {0}
AnswersShown _ _ = ⊥

-- why a value has no text where no list is lent
abbrev pub refusal_of : WalkEnd → ShowRefusal
refusal_of reason.WrongKind = NotShown
refusal_of reason.LentList = NotShown
refusal_of reason.TooLarge = TooLarge

-- the same where lists may be lent
abbrev pub AnswersWhole : Result (List ℕ) (Or WalkEnd) → Walked (List ℕ) → Type 0
AnswersWhole (Ok bytes) (going text met) = bytes ≡ text
AnswersWhole (Err (or.No reason.WrongKind)) (ended wrong_kind met) = Unit {0}
AnswersWhole (Err (or.No reason.LentList)) (ended lent_list met) = Unit {0}
AnswersWhole (Err (or.No reason.TooLarge)) (ended too_large met) = Unit {0}
AnswersWhole (Err or.Memory) walked = Unit {0}
AnswersWhole _ _ = ⊥

-- the walk's text was appended and its values were counted, or it ended for the reason of the refusal
abbrev pub Writes : {A : Type 0} → Result A (Or WalkEnd) → Walked (List ℕ) → List ℕ → List ℕ → ℕ → Type 0
Writes (Err or.Memory) walked old new met = Unit {0}
Writes (Ok a) (going text n) old new met = (new ≡ old ++ text) × (met ≡ n)
Writes (Err (or.No reason.WrongKind)) (ended wrong_kind n) old new met = Unit {0}
Writes (Err (or.No reason.LentList)) (ended lent_list n) old new met = Unit {0}
Writes (Err (or.No reason.TooLarge)) (ended too_large n) old new met = Unit {0}
Writes _ _ old new met = ⊥

-- the same of a printer before and after
abbrev pub Prints : {A : Type 0} → Result A (Or WalkEnd) → Walk (List ℕ) → Printer → Printer → Type 0
Prints result walk old new = Writes result (walk old.met) old.text new.text new.met
