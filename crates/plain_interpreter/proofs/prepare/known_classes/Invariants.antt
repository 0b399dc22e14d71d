use Rattle.std.proofs.Common.{◌≡◌, ◌++◌, drop, map}
use Rattle.std.specs.List.{flat_map}
use Rattle.meaning_rules.specs.Program as spec
use Rattle.plain_interpreter.proofs.prepare.known_classes.Given as goal

abbrev pub invariant-items : goal.invariant-items
invariant-items l = flat_map spec.class_in l.items ≡ map (λ c. c.class.now) l.classes.items ++ flat_map spec.class_in (drop l.item-index l.items)
