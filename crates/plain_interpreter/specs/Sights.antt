-- What operators see of the interpreter's objects, and what its parts answer about them.
use Rattle.std.specs.Prelude.{◌≡◌, ◌≢◌, ℕ, ℤ, List, map, Option, Some, None, Result, Ok, Err}
use Rattle.std.specs.Borrow.{Bor}
use Rattle.codon_base.specs.declared.value.Ref.{Ref}
use Rattle.codon_base.specs.declared.value.Value.{Value}
use Rattle.codon_base.specs.Operators.{Sight, Made, made, fault_of}
use Rattle.value_operators.specs.declared.change.ChangeRefusal.{ChangeRefusal}
use Rattle.value_operators.specs.declared.change.ChangeRefusal.TheVariants.{NotThere, Memory}
use Rattle.codon_base.specs.declared.value.Value.TheVariants as value
use Rattle.codon_base.specs.declared.memory.Or.{Or}
use Rattle.codon_base.specs.declared.memory.Or.TheVariants as or
use Rattle.codon_base.specs.declared.walk.WalkEnd.{WalkEnd}
use Rattle.codon_base.specs.Ends.{end_of}
use Rattle.meaning_rules.specs.State.{State}
use Rattle.meaning_rules.specs.Outcome.{Outcome, Run, ◌>>=◌, look, Gives, Stops}
use Rattle.meaning_rules.specs.Objects.{is_some, place_in, in_sequence, index_fault, settled, Instanced}
use Rattle.meaning_rules.specs.Iterations.{judged, is_lent}
use Rattle.meaning_rules.specs.Task.{Whole}
use Rattle.plain_interpreter.specs.Seen.{seen, iteration_of, why_of}
use Rattle.plain_interpreter.specs.declared.state.Store.{Store}
use Rattle.plain_interpreter.specs.declared.state.State as running
use Rattle.plain_interpreter.specs.declared.state.Stop.{Stop}
use Rattle.plain_interpreter.specs.declared.state.Stop.TheVariants as stop
use Rattle.plain_interpreter.specs.declared.fields.Instanced.{Instanced as Found}

-- the heap, and which lists no iteration may use as a whole
abbrev pub sight_of : Store → Sight
sight_of store = record { levels = store.heap; lent = λ at. is_some (judged (map iteration_of store.iterations) (Whole at)) }

abbrev pub list_in : Bor (List Value) → List Value
list_in items = items.now

abbrev pub instanced_of : Found → Instanced
instanced_of instance = record { class = instance.class; fields = instance.fields.now }

-- the place that an index names in a list of that size
abbrev pub named_place : Ref → ℕ → ℤ → Run ℕ
named_place at size index = look (λ s. place_in (is_lent s.shared.iterations at) size index) >>= in_sequence

-- a change that has a meaning was made, or there was no memory for it
abbrev pub IsMade : {S : Type 0} → Result (Unit {0}) ChangeRefusal → S → S → Type 0
IsMade (Ok done) wanted new = new ≡ wanted
IsMade (Err NotThere) wanted new = ⊥
IsMade (Err Memory) wanted new = Unit {0}

-- what a run says to a change: no meaning means a stop, and want of memory the stop for it
abbrev pub Came : Result (Unit {0}) ChangeRefusal → Result (Unit {0}) Stop → Type 0
Came (Ok done) result = result ≡ Ok tt
Came (Err NotThere) result = Unit {0}
Came (Err Memory) result = result ≡ Err stop.Memory

-- the stop is by the fault of that end of a walk, unless memory fails
abbrev pub IsEnd : WalkEnd → Stop → Type 0
IsEnd why e = e ≢ stop.Memory → (s : State) → settled (fault_of (end_of why)) s ≡ Stops (why_of e) s

-- what the walk for a text makes
abbrev pub IsText : Result (List ℕ) (Or WalkEnd) → Made → Type 0
IsText (Ok bytes) m = m ≡ made (value.Text bytes)
IsText (Err (or.No why)) m = m ≡ fault_of (end_of why)
IsText (Err or.Memory) m = Unit {0}

-- the item that was taken out is given, or none was there
abbrev pub HasPopped : Option Value → Outcome Value → running.State → Type 0
HasPopped (Some v) outcome new = outcome ≡ Gives v (seen new)
HasPopped None outcome new = outcome ≡ index_fault (seen new)
