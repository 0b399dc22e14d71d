use Rattle.std.proofs.Common.{◌≡◌, ◌++◌, drop}
use Rattle.std.specs.List.{flat_map}
use Rattle.meaning_rules.specs.Program as spec
use Rattle.plain_interpreter.proofs.prepare.field_names.Given as goal

abbrev pub invariant-members : goal.invariant-members
invariant-members l = flat_map spec.field_in l.members ≡ l.names ++ flat_map spec.field_in (drop l.member-index l.members)
