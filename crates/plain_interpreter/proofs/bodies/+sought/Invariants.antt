use Rattle.std.proofs.Common.{◌≡◌, drop}
use Rattle.std.specs.List.{list_any}
use Rattle.meaning_rules.specs.Bodies.{has_some}
use Rattle.plain_interpreter.specs.Walked.{some_arm, test_of}
use Rattle.plain_interpreter.proofs.bodies.+sought.Given as goal

abbrev pub invariant-some_in_arms-arms : goal.invariant-some_in_arms-arms
invariant-some_in_arms-arms l = list_any (some_arm (test_of l.sought)) l.arms ≡ list_any (some_arm (test_of l.sought)) (drop l.arm-index l.arms)

abbrev pub invariant-some_in_body-body : goal.invariant-some_in_body-body
invariant-some_in_body-body l = list_any (has_some (test_of l.sought)) l.body ≡ list_any (has_some (test_of l.sought)) (drop l.s-index l.body)
