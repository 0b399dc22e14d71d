-- What a run of a source holds at a moment (the Python reference, 3.1 and 4.2), and how a run and a statement may end.
use Rattle.std.specs.Prelude.{ℕ, nat_eq, Bool, if◌then◌else◌, List}
use Rattle.std.specs.List.{list_any}
use Rattle.std.specs.Cmp.Lexicographic.{pointwise}
use Rattle.codon_base.specs.declared.fault.Fault.{Fault}
use Rattle.codon_base.specs.declared.value.Ref.{Ref}
use Rattle.codon_base.specs.declared.value.Value.{Value}
use Rattle.codon_base.specs.declared.value.Value.TheVariants.{Unset}
use Rattle.codon_base.specs.declared.object.Object.{Object}

-- the bytes of a name as it is spelled
abbrev pub Spelling : Type 0
Spelling = List ℕ

abbrev pub same : Spelling → Spelling → Bool
same = pointwise nat_eq

abbrev pub is_among : Spelling → List Spelling → Bool
is_among name names = list_any (same name) names

-- what each name holds; one without a value holds `Unset`
abbrev pub Names : Type 0
Names = Spelling → Value

abbrev pub unset_names : Names
unset_names name = Unset

-- the names after an assignment to one of them
abbrev pub assigned_to : Spelling → Value → Names → Names
assigned_to name v names other = if same name other then v else names other

-- the names where some of them are as in other names
abbrev pub with_names_of : Names → List Spelling → Names → Names
with_names_of from some names name = if is_among name some then from name else names name

-- a parallel iteration that runs: its item, the lists that its region lends, and the instances that the captured names of its region held when the region began
pub record Iteration : Type 0 where
  pub item : Value
  pub lent : List Ref
  pub targets : List Ref

-- what all bodies of a run share: the ticks taken, what was printed, the heap by levels, the module's variables, the parallel iterations that run, the outermost first, and the counts of regions and items
pub record Shared : Type 0 where
  pub used : ℕ
  pub out : List ℕ
  pub levels : List (List Object)
  pub globals : Names
  pub iterations : List Iteration
  pub reached : ℕ
  pub regions : ℕ
  pub items : ℕ

-- the names of the body that runs; those of the bodies with a loop over a generator that runs, the innermost first, which wait while the generator's body runs; and what all bodies share
pub record State : Type 0 where
  pub names : Names
  pub waiting : List Names
  pub shared : Shared

-- why a run stops before its end. `TooDeep` is the answer of a run that may enter only so many bodies one inside the other
pub data Stop : Type 0 where
  Faulted : Fault → Stop
  OutOfFuel : Stop
  TooDeep : Stop

-- how a statement ends. `Left flow` is told to the body of a generator whose item was taken by a turn of a loop that ended by that flow and not by going on to the next turn: it ends that body, and the loop then ends by that flow
pub data Flow : Type 0 where
  Next : Flow
  Break : Flow
  Continue : Flow
  Return : Value → Flow
  Left : Flow → Flow
