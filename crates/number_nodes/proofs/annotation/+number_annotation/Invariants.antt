use Rattle.std.proofs.Common.{length}
use Rattle.source_trees.specs.Bare.{bare_annotation}
use Rattle.source_trees.specs.Nodes.{nodes_of_annotation}
use Rattle.number_nodes.proofs.Reaching.{Reaches}
use Rattle.number_nodes.proofs.annotation.+number_annotation.Given as goal

abbrev pub invariant-number_annotations-annotations : goal.invariant-number_annotations-annotations
invariant-number_annotations-annotations l = Reaches bare_annotation nodes_of_annotation l.fn.next l.fn.annotations l.rest l.numbered l.next

abbrev pub decreases-number_annotations-annotations : goal.decreases-number_annotations-annotations
decreases-number_annotations-annotations l = length l.rest
