-- How a comprehension begins, and what is left of it then.
use Rattle.std.specs.Prelude.{◌≡◌, ◌≢◌, if◌then◌else◌, ◌++◌, List, [], Option, Result, Ok, Err}
use Rattle.std.specs.List.{flat_map}
use Rattle.codon_base.specs.declared.value.Value.{Value}
use Rattle.source_trees.specs.declared.expression.Expr.{Expr}
use Rattle.source_trees.specs.declared.statement.LoopNames.{LoopNames}
use Rattle.source_trees.specs.Names.{loop_names}
use Rattle.meaning_rules.specs.State as meaning
use Rattle.meaning_rules.specs.State.{Flow, Next}
use Rattle.meaning_rules.specs.Outcome.{Outcome, Gives, Stops, Run, and_then}
use Rattle.plain_interpreter.specs.Frames.{with_names, put_back}
use Rattle.meaning_rules.specs.Program.{Scope, with_locals}
use Rattle.meaning_rules.specs.Task.{Comprehension, Setting}
use Rattle.meaning_rules.specs.Meaning.{turn_of}
use Rattle.plain_interpreter.specs.Scopes.{scope_of}
use Rattle.plain_interpreter.specs.Seen.{seen, why_of}
use Rattle.plain_interpreter.specs.Steps.{turns_from}
use Rattle.plain_interpreter.specs.declared.comprehensions.Gathering.{Gathering}
use Rattle.plain_interpreter.specs.declared.iterable.Cursor.{Cursor}
use Rattle.plain_interpreter.specs.declared.scope.Inner.{Inner}
use Rattle.plain_interpreter.specs.declared.scope.Scope.{Scope as Place}
use Rattle.plain_interpreter.specs.declared.state.State.{State}
use Rattle.plain_interpreter.specs.declared.state.Stop.{Stop}
use Rattle.plain_interpreter.specs.declared.state.Stop.TheVariants as stop

-- the turns of a comprehension that stands in a text, by its list and a place
abbrev pub turns_of : Setting → Scope → LoopNames → Option Expr → Expr → Value → Cursor → Run Flow
turns_of here scope names kept item list = turns_from here (turn_of here [] (Comprehension (with_locals (loop_names names) scope) names kept item list))

-- what is left of the loop of a comprehension that has begun
abbrev pub filling : (Value → Cursor → Run Flow) → Gathering → Run Flow
filling turns begun s = if begun.is_whole then Gives Next s else turns begun.list begun.cursor s

-- a comprehension whose loop was left: its names get back what they held before it
abbrev pub ends : Value → List meaning.Spelling → List Value → Flow → Run Value
ends list own before flow t = Gives list (with_names (put_back own before t.names) t)

abbrev pub ended : LoopNames → Gathering → Outcome Flow → Outcome Value
ended names begun o = and_then o (ends begun.list (loop_names names) begun.before.items)

-- a comprehension has begun, which a part's answer holds
abbrev pub TellsGathering : {B : Type 0} → LoopNames → (B → Gathering) → Outcome Value → (Value → Cursor → Run Flow) → Result B Stop → State → Type 0
TellsGathering names held outcome turns (Ok b) new = outcome ≡ ended names (held b) (filling turns (held b) (seen new))
TellsGathering names held outcome turns (Err e) new = e ≢ stop.Memory → outcome ≡ Stops (why_of e) (seen new)

-- the names of comprehensions are those round a text, with the names of one more inside
abbrev pub HasNames : List Inner → LoopNames → Place → Type 0
HasNames all names scope = flat_map (λ each. loop_names each.names.now) all ++ scope.locals.now ≡ loop_names names ++ (scope_of scope).locals

-- a comprehension whose loop has gone on
abbrev pub IsSame : Gathering → Gathering → Type 0
IsSame old new = new ≡ record old { cursor = new.cursor }
