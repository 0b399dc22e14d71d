use Rattle.std.proofs.Common.{◌≡◌, ◌++◌, drop}
use Rattle.std.specs.List.{flat_map}
use Rattle.source_trees.specs.Names.{target_names}
use Rattle.plain_interpreter.proofs.bodies.push_each.Given as goal

abbrev pub invariant-all : goal.invariant-all
invariant-all l = l.fn.names ++ flat_map target_names l.all ≡ l.names ++ flat_map target_names (drop l.target-index l.all)
