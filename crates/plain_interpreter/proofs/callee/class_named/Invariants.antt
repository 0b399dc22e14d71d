use Rattle.std.proofs.Common.{◌≡◌, drop}
use Rattle.meaning_rules.specs.Program as spec
use Rattle.plain_interpreter.specs.Callees.{classes_in}
use Rattle.plain_interpreter.proofs.callee.class_named.Given as goal

abbrev pub invariant-classes : goal.invariant-classes
invariant-classes l =
    ((other : spec.Callee) → spec.class_named l.name 0 (classes_in l.program.classes.items) other ≡ spec.class_named l.name l.number (classes_in (drop l.class-index l.program.classes.items)) other)
    × (l.number ≡ l.class-index)
