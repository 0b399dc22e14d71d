use Rattle.std.proofs.Common.{◌≡◌, ◌++◌, drop, map}
use Rattle.meaning_rules.specs.Captures as spec
use Rattle.plain_interpreter.specs.Reaching.{captured_of}
use Rattle.plain_interpreter.proofs.captures.push_instances.Given as goal

abbrev pub invariant-captured : goal.invariant-captured
invariant-captured l =
    l.fn.refs ++ spec.held spec.is_instance l.heap (map captured_of l.captured) ≡ l.refs ++ spec.held spec.is_instance l.heap (map captured_of (drop l.each-index l.captured))
