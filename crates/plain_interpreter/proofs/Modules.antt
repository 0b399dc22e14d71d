-- The run of a module is that of its statements.
use Rattle.std.proofs.Common.{◌≡◌, ℕ, false, List, [], ap, ◌∙◌}
use Rattle.std.specs.List.{flat_map}
use Rattle.source_trees.specs.declared.item.Item.{Item}
use Rattle.source_trees.specs.declared.item.Module.{Module}
use Rattle.meaning_rules.specs.State.{Spelling, State, TooDeep}
use Rattle.meaning_rules.specs.Program.{Program, Scope, program_of, module_scope, statement_in}
use Rattle.meaning_rules.specs.Task.{Setting}
use Rattle.meaning_rules.specs.Iterations.{in_place}
use Rattle.meaning_rules.specs.Statements.{statements}
use Rattle.meaning_rules.specs.Meaning.{run, outcome, start}

abbrev pub setting : Program → ℕ → ℕ → Setting
setting p fuel depth = record { program = p; limit = fuel; rules = in_place; low = run p in_place fuel TooDeep depth }

abbrev pub at_top : List Spelling → Scope
at_top fixed = record { locals = []; fixed = fixed; in_prelude = false }

pub run_is : (m : Module) (fuel depth : ℕ) (p : Program) (fixed : List Spelling) (items : List Item) (s : State) → p ≡ program_of m → fixed ≡ (module_scope m).fixed → items ≡ m.items → s ≡ start
    → statements (setting p fuel depth) [] (at_top fixed) (flat_map statement_in items) s ≡ outcome m fuel depth TooDeep
unfolding outcome run
run_is m fuel depth p fixed items s e f i g =
    ap (λ (q : Program). statements (setting q fuel depth) [] (at_top fixed) (flat_map statement_in items) s) e
    ∙ ap (λ (names : List Spelling). statements (setting (program_of m) fuel depth) [] (at_top names) (flat_map statement_in items) s) f
    ∙ ap (λ (l : List Item). statements (setting (program_of m) fuel depth) [] (at_top (module_scope m).fixed) (flat_map statement_in l) s) i
    ∙ ap (λ (t : State). statements (setting (program_of m) fuel depth) [] (at_top (module_scope m).fixed) (flat_map statement_in m.items) t) g
