use Rattle.std.proofs.Common.{◌≡◌, ◌-◌, drop, length}
use Rattle.meaning_rules.specs.Pipelines.{parallel_part}
use Rattle.plain_interpreter.proofs.stages.parallel_place.Given as goal

abbrev pub invariant-stages : goal.invariant-stages
invariant-stages l = parallel_part (drop l.initial.place l.stages) ≡ parallel_part (drop l.place l.stages)

abbrev pub decreases-stages : goal.decreases-stages
decreases-stages l = length l.stages - l.place
