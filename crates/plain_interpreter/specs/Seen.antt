-- What the interpreter's state stands for among the definitions, and what a part of the interpreter promises.
use Rattle.std.specs.Prelude.{◌≡◌, ◌≢◌, ℕ, zero, suc, if◌then◌else◌, List, [], ◌∷◌, map, reverse, Result, Ok, Err}
use Rattle.codon_base.specs.declared.fault.FaultKind.{FaultKind}
use Rattle.codon_base.specs.declared.value.Value.{Value}
use Rattle.codon_base.specs.declared.value.Value.TheVariants.{Unset}
use Rattle.meaning_rules.specs.State as meaning
use Rattle.meaning_rules.specs.State.{Spelling, same}
use Rattle.meaning_rules.specs.Outcome.{Outcome, Gives, Stops}
use Rattle.plain_interpreter.specs.declared.state.Entry.{Entry}
use Rattle.plain_interpreter.specs.declared.state.Names.{Names}
use Rattle.plain_interpreter.specs.declared.state.Iteration.{Iteration}
use Rattle.plain_interpreter.specs.declared.state.State.{State}
use Rattle.plain_interpreter.specs.declared.state.Stop.{Stop}
use Rattle.plain_interpreter.specs.declared.state.Stop.TheVariants as stop
use Rattle.plain_interpreter.specs.declared.flow.End.{End}
use Rattle.plain_interpreter.specs.declared.flow.End.TheVariants as «end»
use Rattle.plain_interpreter.specs.declared.flow.Flow.{Flow}

-- what a name holds by a list of names with values
abbrev pub held_in : List Entry → Spelling → Value
held_in [] name = Unset
held_in (entry ∷ more) name = if same entry.name name then entry.value else held_in more name

unfoldable pub names_of : Names → meaning.Names
names_of names = held_in names.entries.items

abbrev pub iteration_of : Iteration → meaning.Iteration
iteration_of i = record { item = i.item; lent = i.lent; targets = i.targets }

unfoldable pub seen : State → meaning.State
seen s = record {
  names = names_of s.names;
  waiting = map names_of (reverse s.waiting);
  shared = record {
    used = s.used;
    out = s.out;
    levels = s.store.heap;
    globals = names_of s.globals;
    iterations = map iteration_of s.store.iterations;
    reached = s.reached;
    regions = s.regions;
    items = s.items;
  };
}

abbrev pub ended_by : End → meaning.Flow
ended_by «end».Next = meaning.Next
ended_by «end».Break = meaning.Break
ended_by «end».Continue = meaning.Continue
ended_by («end».Return v) = meaning.Return v

abbrev pub left_by : ℕ → meaning.Flow → meaning.Flow
left_by zero flow = flow
left_by (suc n) flow = meaning.Left (left_by n flow)

unfoldable pub flow_of : Flow → meaning.Flow
flow_of flow = left_by flow.left (ended_by flow.end)

-- the definitions know no want of memory; nothing is promised where a part answers it
abbrev pub why_of : Stop → meaning.Stop
why_of (stop.Faulted fault) = meaning.Faulted fault
why_of stop.OutOfFuel = meaning.OutOfFuel
why_of stop.TooDeep = meaning.TooDeep
why_of stop.Memory = meaning.OutOfFuel

-- a part gives or stops as the definitions do, and leaves the state that they leave, unless memory fails
abbrev pub Tells : {A : Type 0} → Outcome A → Result A Stop → State → Type 0
Tells outcome (Ok a) new = outcome ≡ Gives a (seen new)
Tells outcome (Err e) new = e ≢ stop.Memory → outcome ≡ Stops (why_of e) (seen new)

-- the same, where what the part gives stands for what the definitions give
abbrev pub TellsBy : {A B : Type 0} → (B → A) → Outcome A → Result B Stop → State → Type 0
TellsBy meant outcome (Ok b) new = outcome ≡ Gives (meant b) (seen new)
TellsBy meant outcome (Err e) new = e ≢ stop.Memory → outcome ≡ Stops (why_of e) (seen new)

abbrev pub TellsFlow : Outcome meaning.Flow → Result Flow Stop → State → Type 0
TellsFlow outcome result new = TellsBy flow_of outcome result new

abbrev pub TellsNames : Outcome meaning.Names → Result Names Stop → State → Type 0
TellsNames outcome result new = TellsBy names_of outcome result new

-- a part that neither reads nor changes the state gives or stops as the definitions do
abbrev pub TellsAt : {A : Type 0} → Outcome A → Result A Stop → meaning.State → Type 0
TellsAt outcome (Ok a) s = outcome ≡ Gives a s
TellsAt outcome (Err e) s = e ≢ stop.Memory → outcome ≡ Stops (why_of e) s

-- the stop is by that fault, unless memory fails
abbrev pub IsFault : Stop → FaultKind → List ℕ → Type 0
IsFault e kind text = e ≢ stop.Memory → why_of e ≡ meaning.Faulted (record { kind = kind; text = text })

abbrev pub TellsAtBy : {A B : Type 0} → (B → A) → Outcome A → Result B Stop → meaning.State → Type 0
TellsAtBy meant outcome (Ok b) s = outcome ≡ Gives (meant b) s
TellsAtBy meant outcome (Err e) s = e ≢ stop.Memory → outcome ≡ Stops (why_of e) s
