use Rattle.std.proofs.Common.{◌≡◌, ◌++◌, drop, map, Some}
use Rattle.std.specs.List.{flat_map}
use Rattle.meaning_rules.specs.Program as spec
use Rattle.plain_interpreter.specs.Tasks.{callable_of}
use Rattle.plain_interpreter.proofs.prepare.push_methods.Given as goal

abbrev pub invariant-members : goal.invariant-members
invariant-members l =
    map callable_of l.fn.callables.items ++ map (λ f. record { function = f; class_name = Some l.class_name }) (flat_map spec.method_in l.members)
    ≡ map callable_of l.callables.items ++ map (λ f. record { function = f; class_name = Some l.class_name }) (flat_map spec.method_in (drop l.member-index l.members))
