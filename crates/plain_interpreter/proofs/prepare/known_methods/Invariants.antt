use Rattle.std.proofs.Common.{◌≡◌, ◌++◌, drop, map}
use Rattle.std.specs.List.{flat_map}
use Rattle.meaning_rules.specs.Program as spec
use Rattle.plain_interpreter.proofs.prepare.known_methods.Given as goal

abbrev pub invariant-members : goal.invariant-members
invariant-members l = flat_map spec.method_in l.members ≡ map (λ k. k.function.now) l.methods.items ++ flat_map spec.method_in (drop l.member-index l.members)
