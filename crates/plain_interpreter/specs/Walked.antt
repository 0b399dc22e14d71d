-- What the walks over bodies tell of arms and loops, by their statements.
use Rattle.std.specs.Prelude.{Bool, true, false, List, [], ◌++◌}
use Rattle.std.specs.List.{flat_map, list_any}
use Rattle.source_trees.specs.declared.statement.Stmt.{Stmt-F}
use Rattle.source_trees.specs.declared.statement.Arm.{Arm, out-Arm}
use Rattle.source_trees.specs.declared.statement.For.{For, out-For}
use Rattle.meaning_rules.specs.State.{Spelling}
use Rattle.meaning_rules.specs.Bodies.{assigned_by, has_some, is_yield, is_return_of_value}
use Rattle.source_trees.specs.Names.{loop_names}
use Rattle.plain_interpreter.specs.declared.bodies.Sought.{Sought}
use Rattle.plain_interpreter.specs.declared.bodies.Sought.TheVariants as sought

-- the names that parallel loops assign, where they are asked for
abbrev pub kept_if : Bool → List Spelling → List Spelling
kept_if true names = names
kept_if false names = []

abbrev pub assigned_arm : (List Spelling → List Spelling) → Arm → List Spelling
assigned_arm parallel arm = flat_map (assigned_by parallel) (out-Arm arm).body

abbrev pub assigned_for : (List Spelling → List Spelling) → For → List Spelling
assigned_for parallel l = loop_names (out-For l).names ++ flat_map (assigned_by parallel) (out-For l).body

-- the test of the statements that are sought
abbrev pub test_of : Sought → Stmt-F Bool Bool Bool → Bool
test_of sought.Yield = is_yield
test_of sought.ReturnOfValue = is_return_of_value

abbrev pub some_arm : (Stmt-F Bool Bool Bool → Bool) → Arm → Bool
some_arm is arm = list_any (has_some is) (out-Arm arm).body

abbrev pub some_for : (Stmt-F Bool Bool Bool → Bool) → For → Bool
some_for is l = list_any (has_some is) (out-For l).body
