use Rattle.std.proofs.Common.{◌≡◌, ◌++◌, drop}
use Rattle.plain_interpreter.proofs.captures.push_names.Given as goal

abbrev pub invariant-more : goal.invariant-more
invariant-more l =
    l.fn.names ++ l.more ≡ l.names ++ drop l.name-index l.more
