-- Three parts that are noted one after another.
use Rattle.std.proofs.Common.{◌≡◌, List, ◌++◌, Option, sym, ap, ◌∙◌}
use Rattle.std.proofs.lemmas.List.{append_assoc}
use Rattle.source_trees.specs.declared.node.Node.{Node}
use Rattle.source_trees.specs.declared.expression.Expr.{Expr}
use Rattle.source_trees.specs.declared.expression.Expr.TheVariants as e
use Rattle.source_trees.specs.declared.statement.LoopNames.{LoopNames}
use Rattle.source_trees.specs.Names.{loop_names}
use Rattle.meaning_rules.specs.Mentions.{Note, but_of, notes_of_expr, notes_of_optional}
use Rattle.plain_interpreter.proofs.NoteEquations.{notes_Comprehension, notes_Slice}

three_parts : (before first second third a b c whole : List Note) → first ≡ before ++ a → second ≡ first ++ b → third ≡ second ++ c → whole ≡ a ++ b ++ c → third ≡ before ++ whole
three_parts before first second third a b c whole p q r w =
    r ∙ ap (λ l. l ++ c) (q ∙ ap (λ l. l ++ b) p) ∙ append_assoc (before ++ a) b c ∙ append_assoc before a (b ++ c) ∙ ap (λ l. before ++ l) (sym (append_assoc a b c)) ∙ ap (λ l. before ++ l) (sym w)

pub comprehension_noted : (n : Node) (item iterable got got_too : Expr) (names : LoopNames) (condition : Option Expr) (whole : Expr) (before first second third : List Note)
    → whole ≡ e.Comprehension n item names iterable condition → got ≡ item → got_too ≡ iterable
    → first ≡ before ++ but_of (loop_names names) (notes_of_expr got) → second ≡ first ++ notes_of_expr got_too → third ≡ second ++ but_of (loop_names names) (notes_of_optional condition)
    → third ≡ before ++ notes_of_expr whole
comprehension_noted n item iterable got got_too names condition whole before first second third is g h p q r =
    three_parts before first second third _ _ _ _ (p ∙ ap (λ x. before ++ but_of (loop_names names) (notes_of_expr x)) g) (q ∙ ap (λ x. first ++ notes_of_expr x) h) r (ap notes_of_expr is ∙ notes_Comprehension n item names iterable condition)

pub slice_noted : (n : Node) (object got : Expr) (from to : Option Expr) (whole : Expr) (before first second third : List Note)
    → whole ≡ e.Slice n object from to → got ≡ object
    → first ≡ before ++ notes_of_expr got → second ≡ first ++ notes_of_optional from → third ≡ second ++ notes_of_optional to
    → third ≡ before ++ notes_of_expr whole
slice_noted n object got from to whole before first second third is g p q r =
    three_parts before first second third _ _ _ _ (p ∙ ap (λ x. before ++ notes_of_expr x) g) q r (ap notes_of_expr is ∙ notes_Slice n object from to)
