use Rattle.std.proofs.Common.{◌≡◌, map, take}
use Rattle.source_trees.specs.Heights.{capped, highest}
use Rattle.source_trees.specs.Heights.{height_of_annotation}
use Rattle.source_trees.proofs.+annotation_height.Given as goal

abbrev pub invariant-height::annotation::highest_annotation-annotations : goal.invariant-height::annotation::highest_annotation-annotations
invariant-height::annotation::highest_annotation-annotations l = l.highest ≡ capped (highest (map height_of_annotation (take l.annotation-index l.annotation-items)))
