use Rattle.std.proofs.Common.{◌≡◌, take}
use Rattle.source_trees.proofs.+clone_annotation.Given as goal

abbrev pub invariant-clone::annotation::clone_annotations-annotations : goal.invariant-clone::annotation::clone_annotations-annotations
invariant-clone::annotation::clone_annotations-annotations l = l.copy ≡ take l.annotation-index l.annotation-items
