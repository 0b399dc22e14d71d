-- What the interpreter answers: the bytes and the ending of a run in which only so many bodies may be entered.
use Rattle.std.specs.Prelude.{◌≡◌, ℕ, List, [], ◌++◌, Result, Ok, Err}
use Rattle.codon_base.specs.declared.fault.Ending.TheVariants as ending
use Rattle.source_trees.specs.declared.item.Item.{Item}
use Rattle.source_trees.specs.declared.item.Item.TheVariants as item
use Rattle.meaning_rules.specs.State.{Faulted, OutOfFuel, TooDeep, Flow, Next}
use Rattle.meaning_rules.specs.Outcome.{Outcome, Gives, Stops, Run, pure}
use Rattle.meaning_rules.specs.Program.{Scope}
use Rattle.meaning_rules.specs.Statements.{stmt}
use Rattle.meaning_rules.specs.Task.{Setting}
use Rattle.meaning_rules.specs.Meaning.{Meaning}
use Rattle.plain_interpreter.specs.declared.flow.Flow as code
use Rattle.plain_interpreter.specs.declared.state.Stop as code_stop
use Rattle.plain_interpreter.specs.declared.state.Stop.TheVariants as stop
use Rattle.plain_interpreter.specs.declared.plain.PlainEnd.{PlainEnd}
use Rattle.plain_interpreter.specs.declared.plain.PlainEnd.TheVariants as «end»

-- what an item of a module does when the module runs
abbrev pub item_of : Setting → Scope → Item → Run Flow
item_of here scope (item.Stmt s) = stmt here [] s scope
item_of here scope (item.Function f) = pure Next
item_of here scope (item.Class c) = pure Next

abbrev pub IsRun : Outcome Flow → List ℕ → PlainEnd → Type 0
IsRun (Gives flow s) out how = (out ≡ s.shared.out) × (how ≡ «end».Ended ending.Done)
IsRun (Stops (Faulted fault) s) out how = (out ≡ s.shared.out) × (how ≡ «end».Ended (ending.Fault fault))
IsRun (Stops OutOfFuel s) out how = (out ≡ s.shared.out) × (how ≡ «end».Ended ending.OutOfFuel)
IsRun (Stops TooDeep s) out how = (out ≡ s.shared.out) × (how ≡ «end».TooDeep)

-- how a run ends that the code left so, where memory did not fail
abbrev pub IsEnd : Result code.Flow code_stop.Stop → PlainEnd → Type 0
IsEnd (Ok flow) how = how ≡ «end».Ended ending.Done
IsEnd (Err (stop.Faulted fault)) how = how ≡ «end».Ended (ending.Fault fault)
IsEnd (Err stop.OutOfFuel) how = how ≡ «end».Ended ending.OutOfFuel
IsEnd (Err stop.TooDeep) how = how ≡ «end».TooDeep
IsEnd (Err stop.Memory) how = ⊥

-- the bytes and the ending of the meaning, or the beginning of its bytes
abbrev pub IsMeant : Meaning → List ℕ → PlainEnd → Type 0
IsMeant m out («end».Ended how) = (m.bytes ≡ out) × (m.ending ≡ how)
IsMeant m out «end».TooDeep = (rest : List ℕ) × (m.bytes ≡ out ++ rest)
