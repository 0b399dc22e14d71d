use Rattle.std.proofs.Common.{◌≤◌, length}
use Rattle.outer_world.proofs.transfer.write_all.Given as goal

abbrev pub invariant-pieces : goal.invariant-pieces
invariant-pieces g l = length l.rest ≤ length l.initial.rest

abbrev pub decreases-pieces : goal.decreases-pieces
decreases-pieces g l = length l.rest
