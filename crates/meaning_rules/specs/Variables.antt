-- Reading and setting variables (the Python reference, 4.2.2 and 7.2). A name that is not the body's own is the module's; one that has no value, or that nothing assigns, is not set.
use Rattle.std.specs.Prelude.{ℕ, ◌==◌, if◌then◌else◌, List, ◌∷◌, length, map, codes}
use Rattle.codon_base.specs.declared.value.Value.{Value, out-Value}
use Rattle.source_trees.specs.declared.statement.LoopNames.{LoopNames}
use Rattle.source_trees.specs.declared.statement.LoopNames.TheVariants as names
use Rattle.meaning_rules.specs.State.{Spelling, is_among, assigned_to}
use Rattle.meaning_rules.specs.Outcome.{Run, ◌>>=◌, pure, wrong, look, change_names, change_globals}
use Rattle.meaning_rules.specs.Objects.{if_set, items_in_tuple}
use Rattle.meaning_rules.specs.Program.{Program, Scope}

abbrev pub held_by : Scope → Spelling → Run Value
held_by scope name = if is_among name scope.locals then look (λ s. s.names name) else look (λ s. s.shared.globals name)

abbrev pub read_name : Program → Scope → Spelling → Run Value
read_name program scope name = held_by scope name >>= if_set (codes "name is not set")

abbrev pub set_name : Scope → Spelling → Value → Run (Unit {0})
set_name scope name v = if is_among name scope.locals then change_names (assigned_to name v) else change_globals (assigned_to name v)

-- names take the items of a tuple, in order
abbrev pub set_each : Scope → List Spelling → List Value → Run (Unit {0})
set_each scope (name ∷ names) (v ∷ vs) = set_name scope name v >>= λ _. set_each scope names vs
set_each scope _ _ = pure tt

-- the items of a tuple of that many
abbrev pub unpacked : ℕ → Value → Run (List Value)
unpacked count v = items_in_tuple (out-Value v) >>= λ items. if length items == count then pure items else wrong

-- the names of a loop or a comprehension take an item
abbrev pub set_loop_names : Scope → LoopNames → Value → Run (Unit {0})
set_loop_names scope (names.One name) v = set_name scope name.spelling v
set_loop_names scope (names.Several all) v = unpacked (length all) v >>= set_each scope (map (λ name. name.spelling) all)
