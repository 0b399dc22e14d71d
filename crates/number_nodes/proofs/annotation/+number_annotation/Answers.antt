use Rattle.source_trees.specs.Bare.{bare_annotation}
use Rattle.source_trees.specs.Nodes.{nodes_of_annotation}
use Rattle.number_nodes.proofs.AnnotationForms as form
use Rattle.number_nodes.proofs.Taking.{numbers_at}
use Rattle.number_nodes.proofs.Reaching.{reaches_more}
use Rattle.number_nodes.proofs.annotation.+number_annotation.Goals as goal

pub number_annotation-returns-in_ok-number_node-in-Int : goal.number_annotation-returns-in_ok-number_node-in-Int
number_annotation-returns-in_ok-number_node-in-Int t c = form.annotation_Int c.in-Int.is c.in_ok-number_node-in-Int.ensures

pub number_annotation-returns-in_ok-number_node-in-Bool : goal.number_annotation-returns-in_ok-number_node-in-Bool
number_annotation-returns-in_ok-number_node-in-Bool t c = form.annotation_Bool c.in-Bool.is c.in_ok-number_node-in-Bool.ensures

pub number_annotation-returns-in_ok-number_node-in-Str : goal.number_annotation-returns-in_ok-number_node-in-Str
number_annotation-returns-in_ok-number_node-in-Str t c = form.annotation_Str c.in-Str.is c.in_ok-number_node-in-Str.ensures

pub number_annotation-returns-in_ok-number_node-in-None : goal.number_annotation-returns-in_ok-number_node-in-None
number_annotation-returns-in_ok-number_node-in-None t c = form.annotation_None c.in-None.is c.in_ok-number_node-in-None.ensures

pub number_annotation-returns-in_ok-number_node-in-Class : goal.number_annotation-returns-in_ok-number_node-in-Class
number_annotation-returns-in_ok-number_node-in-Class t c = form.annotation_Class c.in-Class.is c.in_ok-number_node-in-Class.ensures

pub number_annotation-returns-in_ok-new-in-List : goal.number_annotation-returns-in_ok-new-in-List
number_annotation-returns-in_ok-new-in-List t c = form.annotation_List c.in-List.is c.in_ok-node-in-List.ensures (numbers_at c.in_ok-item-in-List.ensures c.into_inner.ensures c.in_ok-new-in-List.ensures)

pub number_annotation-returns-in_ok-number_annotations-in-Tuple : goal.number_annotation-returns-in_ok-number_annotations-in-Tuple
number_annotation-returns-in_ok-number_annotations-in-Tuple t c = form.annotation_Tuple c.in-Tuple.is c.in_ok-node-in-Tuple.ensures c.in_ok-number_annotations-in-Tuple.ensures

pub number_annotations-annotations-preserved : goal.number_annotations-annotations-preserved
number_annotations-annotations-preserved t c = reaches_more bare_annotation nodes_of_annotation c.annotations.invariant c.in-Some.ensures c.in_ok-number_annotation.ensures c.in_ok-push.ensures.ok
