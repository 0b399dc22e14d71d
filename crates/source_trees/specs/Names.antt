-- The names that a target writes, and those that a loop gives its values to (the Python reference, 7.2 and 8.3).
use Rattle.std.specs.Prelude.{ℕ, List, [], ◌∷◌, map}
use Rattle.std.specs.List.{flat_map}
use Rattle.source_trees.specs.declared.statement.LoopNames.{LoopNames}
use Rattle.source_trees.specs.declared.statement.LoopNames.TheVariants as names
use Rattle.source_trees.specs.declared.statement.Target.{Target}
use Rattle.source_trees.specs.declared.statement.Target.TheVariants as target
use Rattle.source_trees.specs.declared.statement.Targets.{Targets}
use Rattle.source_trees.specs.declared.statement.Targets.TheVariants as targets

abbrev pub loop_names : LoopNames → List (List ℕ)
loop_names (names.One name) = name.spelling ∷ []
loop_names (names.Several all) = map (λ name. name.spelling) all

-- the name that a target assigns; one that writes a place or a field assigns no name
abbrev pub target_names : Target → List (List ℕ)
target_names (target.Name n name) = name ∷ []
target_names _ = []

abbrev pub targets_names : Targets → List (List ℕ)
targets_names (targets.One only) = target_names only
targets_names (targets.Several n all) = flat_map target_names all
