use Rattle.std.proofs.Common.{◌≡◌, ◌++◌, drop, map}
use Rattle.std.specs.List.{filter}
use Rattle.meaning_rules.specs.State.{is_among}
use Rattle.meaning_rules.specs.Captures as spec
use Rattle.plain_interpreter.specs.Reaching.{captured_of}
use Rattle.plain_interpreter.proofs.captures.push_lists.Given as goal

abbrev pub invariant-captured : goal.invariant-captured
invariant-captured l =
    l.fn.refs ++ spec.held spec.is_list l.heap (filter (λ each. is_among each.name l.lent) (map captured_of l.captured))
    ≡ l.refs ++ spec.held spec.is_list l.heap (filter (λ each. is_among each.name l.lent) (map captured_of (drop l.each-index l.captured)))
