-- The forms of types have their numbers where their parts have.
use Rattle.std.proofs.Common.{◌≡◌, ℕ, List, ap, ◌∙◌}
use Rattle.source_trees.specs.declared.node.Node.{Node}
use Rattle.source_trees.specs.declared.item.Annotation.{Annotation}
use Rattle.source_trees.specs.declared.item.Annotation.TheVariants as annotation
use Rattle.source_trees.specs.Nodes.{before_parts}
use Rattle.source_trees.specs.Bare.{bare_annotation}
use Rattle.source_trees.proofs.Equations as parts
use Rattle.number_nodes.specs.Numbers.{NumbersNode, NumbersAnnotation, NumbersAnnotations}
use Rattle.source_trees.proofs.BareForms as bare
use Rattle.number_nodes.proofs.Taking.{takes, numbers_by, takes_none, takes_node, takes_same, takes_last}

pub annotation_Int : {whole : Annotation} {n m : Node} {first next : ℕ}
    → whole ≡ annotation.Int n → NumbersNode first n m next → NumbersAnnotation first whole (annotation.Int m) next
annotation_Int {whole} {n} {m} {first} {next} is own =
    let old = ap bare_annotation is ∙ bare.annotation_Int n in
    let new = bare.annotation_Int m in
    numbers_by (cc) (takes_same (takes_node own (takes_none next)) (parts.annotation_Int before_parts m))

pub annotation_Bool : {whole : Annotation} {n m : Node} {first next : ℕ}
    → whole ≡ annotation.Bool n → NumbersNode first n m next → NumbersAnnotation first whole (annotation.Bool m) next
annotation_Bool {whole} {n} {m} {first} {next} is own =
    let old = ap bare_annotation is ∙ bare.annotation_Bool n in
    let new = bare.annotation_Bool m in
    numbers_by (cc) (takes_same (takes_node own (takes_none next)) (parts.annotation_Bool before_parts m))

pub annotation_Str : {whole : Annotation} {n m : Node} {first next : ℕ}
    → whole ≡ annotation.Str n → NumbersNode first n m next → NumbersAnnotation first whole (annotation.Str m) next
annotation_Str {whole} {n} {m} {first} {next} is own =
    let old = ap bare_annotation is ∙ bare.annotation_Str n in
    let new = bare.annotation_Str m in
    numbers_by (cc) (takes_same (takes_node own (takes_none next)) (parts.annotation_Str before_parts m))

pub annotation_None : {whole : Annotation} {n m : Node} {first next : ℕ}
    → whole ≡ annotation.None n → NumbersNode first n m next → NumbersAnnotation first whole (annotation.None m) next
annotation_None {whole} {n} {m} {first} {next} is own =
    let old = ap bare_annotation is ∙ bare.annotation_None n in
    let new = bare.annotation_None m in
    numbers_by (cc) (takes_same (takes_node own (takes_none next)) (parts.annotation_None before_parts m))

pub annotation_Class : {whole : Annotation} {n m : Node} {name : List ℕ} {first next : ℕ}
    → whole ≡ annotation.Class n name → NumbersNode first n m next → NumbersAnnotation first whole (annotation.Class m name) next
annotation_Class {whole} {n} {m} {name} {first} {next} is own =
    let old = ap bare_annotation is ∙ bare.annotation_Class n name in
    let new = bare.annotation_Class m name in
    numbers_by (cc) (takes_same (takes_node own (takes_none next)) (parts.annotation_Class before_parts m name))

pub annotation_List : {whole : Annotation} {n m : Node} {item item' : Annotation} {first a next : ℕ}
    → whole ≡ annotation.List n item → NumbersNode first n m a → NumbersAnnotation a item item' next → NumbersAnnotation first whole (annotation.List m item') next
annotation_List {whole} {n} {m} {item} {item'} {first} {a} {next} is own its_item =
    let old = ap bare_annotation is ∙ bare.annotation_List n item in
    let new = bare.annotation_List m item' in
    numbers_by (cc) (takes_same (takes_node own (takes_last (takes its_item))) (parts.annotation_List before_parts m item'))

pub annotation_Tuple : {whole : Annotation} {n m : Node} {items items' : List Annotation} {first a next : ℕ}
    → whole ≡ annotation.Tuple n items → NumbersNode first n m a → NumbersAnnotations a items items' next → NumbersAnnotation first whole (annotation.Tuple m items') next
annotation_Tuple {whole} {n} {m} {items} {items'} {first} {a} {next} is own its_items =
    let old = ap bare_annotation is ∙ bare.annotation_Tuple n items in
    let new = bare.annotation_Tuple m items' in
    numbers_by (cc) (takes_same (takes_node own (takes its_items)) (parts.annotation_Tuple before_parts m items'))
