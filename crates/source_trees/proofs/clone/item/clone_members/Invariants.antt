use Rattle.std.proofs.Common.{◌≡◌, take}
use Rattle.source_trees.proofs.clone.item.clone_members.Given as goal

abbrev pub invariant-members : goal.invariant-members
invariant-members l = l.copy ≡ take l.member-index l.member-items
