use Rattle.std.proofs.Common.{◌≡◌, ◌++◌, reverse, length}
use Rattle.number_nodes.proofs.turned.turned.Given as goal

abbrev pub invariant-items : goal.invariant-items
invariant-items g l = l.turned ++ reverse l.items ≡ reverse l.fn.items

abbrev pub decreases-items : goal.decreases-items
decreases-items g l = length l.items
