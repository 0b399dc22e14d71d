use Rattle.std.proofs.Common.{◌≡◌, drop, map}
use Rattle.std.specs.List.{list_all}
use Rattle.meaning_rules.specs.Iterations.{is_in}
use Rattle.plain_interpreter.specs.Seen.{iteration_of}
use Rattle.plain_interpreter.proofs.sight.is_target.Given as goal

abbrev pub invariant-above : goal.invariant-above
invariant-above l =
    list_all (λ i. is_in l.at i.targets) (drop l.at.level (map iteration_of l.iterations)) ≡ list_all (λ i. is_in l.at i.targets) (map iteration_of (drop l.iteration-index l.rest))
