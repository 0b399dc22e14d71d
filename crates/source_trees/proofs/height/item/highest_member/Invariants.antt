use Rattle.std.proofs.Common.{◌≡◌, map, take}
use Rattle.source_trees.specs.Heights.{capped, highest}
use Rattle.source_trees.specs.Heights.{height_of_member}
use Rattle.source_trees.proofs.height.item.highest_member.Given as goal

abbrev pub invariant-members : goal.invariant-members
invariant-members l = l.highest ≡ capped (highest (map height_of_member (take l.member-index l.member-items)))
