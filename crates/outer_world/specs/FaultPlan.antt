-- Which calls of a store or a sink in memory fail, by their numbers.
use Rattle.std.specs.Prelude.{◌≡◌, ℕ, List, [], Bool, nat_eq, if◌then◌else◌}
use Rattle.std.specs.List.{list_any}
use Rattle.outer_world.specs.declared.fault_plan.FaultPlan.{FaultPlan}
use Rattle.outer_world.specs.Count.{raised}

-- the call that comes next is among those that are to fail
abbrev pub is_planned : FaultPlan → Bool
is_planned plan = list_any (λ call. nat_eq call plan.calls) plan.failing.items

-- before the first call, with these numbers of calls that are to fail
abbrev pub IsFresh : List ℕ → FaultPlan → Type 0
IsFresh failing plan = (plan.failing.items ≡ failing) × (plan.calls ≡ 0) × (plan.faults ≡ 0)

-- after a call its number is behind, and the faults have risen exactly where it was to fail
abbrev pub after_call : FaultPlan → FaultPlan
after_call plan = record plan { calls = raised plan.calls; faults = (if is_planned plan then raised plan.faults else plan.faults) }

-- no call is to fail
abbrev pub NeverFails : FaultPlan → Type 0
NeverFails plan = plan.failing.items ≡ []
