use Rattle.std.proofs.Common.{◌≡◌, ◌++◌, drop, map}
use Rattle.std.specs.List.{flat_map}
use Rattle.meaning_rules.specs.Program as spec
use Rattle.plain_interpreter.specs.Tasks.{callable_of}
use Rattle.plain_interpreter.proofs.prepare.callables_in.Given as goal

abbrev pub invariant-items : goal.invariant-items
invariant-items l = flat_map spec.callables_in l.items ≡ map callable_of l.callables.items ++ flat_map spec.callables_in (drop l.item-index l.items)
