-- What the functions of this crate answer, beside what the operators make.
use Rattle.std.specs.Prelude.{◌≡◌, ℕ, Bool, Result, Ok, Err}
use Rattle.codon_base.specs.declared.memory.Memory.{Memory}
use Rattle.codon_base.specs.Operators.{Made, made, new_list, fault, fault_of}
use Rattle.codon_base.specs.Walks.{wrong_kind, lent_list, too_large, Walked, going, ended}
use Rattle.value_operators.specs.declared.made.Made.{Made as Answer}
use Rattle.value_operators.specs.declared.made.Made.TheVariants as answer
use Rattle.codon_base.specs.declared.walk.WalkEnd.{WalkEnd}
use Rattle.codon_base.specs.declared.walk.WalkEnd.TheVariants as reason
use Rattle.codon_base.specs.Ends.{end_of}

-- what an answer says that the operator makes
abbrev pub made_of : Answer → Made
made_of (answer.Value v) = made v
made_of (answer.List vs) = new_list vs
made_of (answer.Fault f) = fault f.kind f.text

-- the answer is what the operator makes; want of memory says nothing
abbrev pub Makes : Result Answer Memory → Made → Type 0
Makes (Ok m) wanted = made_of m ≡ wanted
Makes (Err e) wanted = Unit {0}

-- the walk came to its answer after that many values, or it ended for the reason of the refusal
abbrev pub Judges : {A : Type 0} → Result A WalkEnd → Walked A → ℕ → Type 0
Judges (Ok a) (going b n) met = (a ≡ b) × (met ≡ n)
Judges (Err reason.WrongKind) (ended wrong_kind n) met = Unit {0}
Judges (Err reason.LentList) (ended lent_list n) met = Unit {0}
Judges (Err reason.TooLarge) (ended too_large n) met = Unit {0}
Judges _ _ met = ⊥

-- what a test makes, or the fault of its walk
abbrev pub tested : Result Bool WalkEnd → (Bool → Made) → Made
tested (Ok b) make = make b
tested (Err e) make = fault_of (end_of e)

-- the answer is that of the test, whatever is made of it
abbrev pub IsTested : Result Bool WalkEnd → ((Bool → Made) → Made) → Type 0
IsTested result test = (make : Bool → Made) → test make ≡ tested result make
