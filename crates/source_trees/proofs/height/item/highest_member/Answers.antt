use Rattle.std.proofs.Common.{arith}
use Rattle.source_trees.specs.Heights.{height_of_member}
use Rattle.source_trees.proofs.Highest.{highest_next}
use Rattle.source_trees.proofs.height.item.highest_member.Goals as goal

pub members-preserved : goal.members-preserved
members-preserved c =
    let next = highest_next height_of_member c.as_slice-member-items.result.now c.members.member-index c.member-item.result c.members-test.true c.member-item.is in
    grind (arith, next)
