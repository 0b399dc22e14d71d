use Rattle.std.proofs.Common.{◌≡◌, ◌++◌, drop}
use Rattle.std.specs.List.{flat_map}
use Rattle.meaning_rules.specs.Bodies.{assigned_by}
use Rattle.plain_interpreter.specs.Walked.{assigned_arm, kept_if}
use Rattle.plain_interpreter.proofs.bodies.+assigned.Given as goal

abbrev pub invariant-assigned_arms-arms : goal.invariant-assigned_arms-arms
invariant-assigned_arms-arms l = l.fn.names ++ flat_map (assigned_arm (kept_if l.all)) l.arms ≡ l.names ++ flat_map (assigned_arm (kept_if l.all)) (drop l.arm-index l.arms)

abbrev pub invariant-assigned_body-body : goal.invariant-assigned_body-body
invariant-assigned_body-body l = l.fn.names ++ flat_map (assigned_by (kept_if l.all)) l.body ≡ l.names ++ flat_map (assigned_by (kept_if l.all)) (drop l.s-index l.body)
