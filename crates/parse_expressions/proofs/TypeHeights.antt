-- The height of each type by those of its parts.
use Rattle.std.proofs.Common.{◌≡◌, ℕ, ◌+◌, ◌≤◌, max, List, [], ◌∷◌, map, sym, ◌∙◌, ap, subst, arith}
use Rattle.source_trees.specs.declared.item.Annotation.{Annotation, Annotation-F, fold-roll-Annotation, fold_out-Annotation}
use Rattle.source_trees.specs.declared.item.Annotation.TheVariants as annotation
use Rattle.source_trees.specs.declared.node.Node.{Node}
use Rattle.source_trees.specs.Heights.{highest, over_parts, height_of_annotation}
use Rattle.source_trees.specs.Parts.{of_annotation, annotation_step}
use Rattle.parse_laws.proofs.Lists.{FitEach}
use Rattle.parse_expressions.specs.TypeReading.{LowType}

-- ---- heights

pub height-Int : (n : Node) → height_of_annotation (annotation.Int n) ≡ 1
unfolding of_annotation
height-Int n = ap height_of_annotation (sym (annotation.rolls-Int n)) ∙ fold-roll-Annotation ℕ (annotation_step over_parts) (Annotation-F.Int n)

pub height-Bool : (n : Node) → height_of_annotation (annotation.Bool n) ≡ 1
unfolding of_annotation
height-Bool n = ap height_of_annotation (sym (annotation.rolls-Bool n)) ∙ fold-roll-Annotation ℕ (annotation_step over_parts) (Annotation-F.Bool n)

pub height-Str : (n : Node) → height_of_annotation (annotation.Str n) ≡ 1
unfolding of_annotation
height-Str n = ap height_of_annotation (sym (annotation.rolls-Str n)) ∙ fold-roll-Annotation ℕ (annotation_step over_parts) (Annotation-F.Str n)

pub height-None : (n : Node) → height_of_annotation (annotation.None n) ≡ 1
unfolding of_annotation
height-None n = ap height_of_annotation (sym (annotation.rolls-None n)) ∙ fold-roll-Annotation ℕ (annotation_step over_parts) (Annotation-F.None n)

pub height-Class : (n : Node) (s : List ℕ) → height_of_annotation (annotation.Class n s) ≡ 1
unfolding of_annotation
height-Class n s = ap height_of_annotation (sym (annotation.rolls-Class n s)) ∙ fold-roll-Annotation ℕ (annotation_step over_parts) (Annotation-F.Class n s)

pub height-List : (n : Node) (x : Annotation) → height_of_annotation (annotation.List n x) ≡ max (height_of_annotation x) 0 + 1
unfolding of_annotation
height-List n x = ap height_of_annotation (sym (annotation.rolls-List n x)) ∙ fold-roll-Annotation ℕ (annotation_step over_parts) (Annotation-F.List n x)

pub height-Tuple : (n : Node) (xs : List Annotation) → height_of_annotation (annotation.Tuple n xs) ≡ highest (map height_of_annotation xs) + 1
unfolding of_annotation
height-Tuple n xs = ap height_of_annotation (sym (annotation.rolls-Tuple n xs)) ∙ fold-roll-Annotation ℕ (annotation_step over_parts) (Annotation-F.Tuple n xs)

step_positive : (q : Annotation-F ℕ) → 1 ≤ annotation_step over_parts q
step_positive (Annotation-F.Int n) = omega arith
step_positive (Annotation-F.Bool n) = omega arith
step_positive (Annotation-F.Str n) = omega arith
step_positive (Annotation-F.None n) = omega arith
step_positive (Annotation-F.Class n s) = omega arith
step_positive (Annotation-F.List n x) = omega arith
step_positive (Annotation-F.Tuple n xs) = omega arith

pub type_positive : (x : Annotation) → 1 ≤ height_of_annotation x
unfolding of_annotation
type_positive x = let P : ℕ → Type 0 = λ z. 1 ≤ z in subst P (sym (fold_out-Annotation ℕ (annotation_step over_parts) x)) (step_positive _)

pub types_up : (n : ℕ) (xs : List Annotation) → FitEach (LowType n) xs → highest (map height_of_annotation xs) ≤ n
types_up n [] f = omega arith
types_up n (x ∷ xs) f = let i = f.0 in let k = types_up n xs f.1 in omega arith

pub types_down : (n : ℕ) (xs : List Annotation) → highest (map height_of_annotation xs) ≤ n → FitEach (LowType n) xs
types_down n [] h = tt
types_down n (x ∷ xs) h = (omega arith, types_down n xs (omega arith))
