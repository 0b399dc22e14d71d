use Rattle.std.proofs.Common.{◌≤◌, ◌+◌, length}
use Rattle.outer_world.proofs.transfer.read_all.Given as goal

abbrev pub invariant-reading : goal.invariant-reading
invariant-reading g l = length l.bytes.items + l.left ≤ l.limit

abbrev pub decreases-reading : goal.decreases-reading
decreases-reading g l = l.left
