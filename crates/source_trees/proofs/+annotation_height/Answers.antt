use Rattle.std.proofs.Common.{arith}
use Rattle.source_trees.specs.Heights.{height_of_annotation}
use Rattle.source_trees.proofs.Highest.{highest_next}
use Rattle.source_trees.proofs.+annotation_height.Goals as goal

pub height::annotation::highest_annotation-annotations-preserved : goal.height::annotation::highest_annotation-annotations-preserved
height::annotation::highest_annotation-annotations-preserved t c =
    let next = highest_next height_of_annotation c.as_slice-annotation-items.result.now c.annotations.annotation-index c.annotation-item.result c.annotations-test.true c.annotation-item.is in
    grind (arith, next)
