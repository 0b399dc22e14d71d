use Rattle.std.proofs.Common.{◌≡◌, drop, map}
use Rattle.meaning_rules.specs.Iterations.{is_lent}
use Rattle.plain_interpreter.specs.Seen.{iteration_of}
use Rattle.plain_interpreter.proofs.sight.is_lent.Given as goal

abbrev pub invariant-lent : goal.invariant-lent
invariant-lent l = is_lent (map iteration_of l.iterations) l.at ≡ is_lent (map iteration_of (drop l.iteration-index l.iterations)) l.at
