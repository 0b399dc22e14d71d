use Rattle.std.proofs.Common.{◌≡◌, ◌++◌, drop, map}
use Rattle.std.specs.List.{flat_map}
use Rattle.meaning_rules.specs.Program as spec
use Rattle.plain_interpreter.proofs.prepare.known_functions.Given as goal

abbrev pub invariant-items : goal.invariant-items
invariant-items l = flat_map spec.function_in l.items ≡ map (λ k. k.function.now) l.functions.items ++ flat_map spec.function_in (drop l.item-index l.items)
