-- Which postfix forms are targets.
use Rattle.std.proofs.Common.{◌≡◌, ℕ, ℤ, true, false, List, [], ◌∷◌, refl, sym, ◌∙◌, ap, ◌⊎◌, inl, inr, Option, Some, codes}
use Rattle.indent_lexer.specs.declared.token.Token.{Token}
use Rattle.source_trees.specs.declared.node.Node.{Node}
use Rattle.source_trees.specs.declared.node.Name.{Name}
use Rattle.source_trees.specs.declared.expression.Commas.{Commas}
use Rattle.source_trees.specs.declared.expression.Comparison.{Comparison}
use Rattle.source_trees.specs.declared.expression.Expr.{Expr, Expr-F, out-Expr}
use Rattle.source_trees.specs.declared.expression.Expr.TheViews.{out-roll-Expr}
use Rattle.source_trees.specs.declared.expression.Expr.TheVariants as e
use Rattle.source_trees.specs.declared.statement.LoopNames.{LoopNames}
use Rattle.parse_laws.specs.Parser.{in_table}
use Rattle.parse_laws.specs.Language.{Language}
use Rattle.grammar_rules.specs.Expressions as g
use Rattle.grammar_rules.specs.Expressions.{IsAtom}
use Rattle.grammar_rules.specs.Words.{name_of, is_word, node_at}
use Rattle.parse_expressions.specs.Targets.{target_in, target_of, is_pointed}

by_form : (x : Expr) (f : Expr-F Expr Comparison) → out-Expr x ≡ f → is_pointed x ≡ in_table (target_in f)
unfolding target_of
by_form x f h = ap (λ z. in_table (target_in z)) h

pub pointed_Name : (n : Node) (s : List ℕ) → is_pointed (e.Name n s) ≡ true
pointed_Name n s = by_form (e.Name n s) (Expr-F.Name n s) (ap out-Expr (sym (e.rolls-Name n s)) ∙ out-roll-Expr (Expr-F.Name n s))

pub pointed_Number : (n : Node) (z : ℤ) → is_pointed (e.Number n z) ≡ false
pointed_Number n z = by_form (e.Number n z) (Expr-F.Number n z) (ap out-Expr (sym (e.rolls-Number n z)) ∙ out-roll-Expr (Expr-F.Number n z))

pub pointed_Text : (n : Node) (s : List ℕ) → is_pointed (e.Text n s) ≡ false
pointed_Text n s = by_form (e.Text n s) (Expr-F.Text n s) (ap out-Expr (sym (e.rolls-Text n s)) ∙ out-roll-Expr (Expr-F.Text n s))

pub pointed_True : (n : Node) → is_pointed (e.True n) ≡ false
pointed_True n = by_form (e.True n) (Expr-F.True n) (ap out-Expr (sym (e.rolls-True n)) ∙ out-roll-Expr (Expr-F.True n))

pub pointed_False : (n : Node) → is_pointed (e.False n) ≡ false
pointed_False n = by_form (e.False n) (Expr-F.False n) (ap out-Expr (sym (e.rolls-False n)) ∙ out-roll-Expr (Expr-F.False n))

pub pointed_None : (n : Node) → is_pointed (e.None n) ≡ false
pointed_None n = by_form (e.None n) (Expr-F.None n) (ap out-Expr (sym (e.rolls-None n)) ∙ out-roll-Expr (Expr-F.None n))

pub pointed_Bracketed : (n : Node) (x : Expr) → is_pointed (e.Bracketed n x) ≡ false
pointed_Bracketed n x = by_form (e.Bracketed n x) (Expr-F.Bracketed n x) (ap out-Expr (sym (e.rolls-Bracketed n x)) ∙ out-roll-Expr (Expr-F.Bracketed n x))

pub pointed_Tuple : (n : Node) (c : Commas) (xs : List Expr) → is_pointed (e.Tuple n c xs) ≡ false
pointed_Tuple n c xs = by_form (e.Tuple n c xs) (Expr-F.Tuple n c xs) (ap out-Expr (sym (e.rolls-Tuple n c xs)) ∙ out-roll-Expr (Expr-F.Tuple n c xs))

pub pointed_List : (n : Node) (xs : List Expr) → is_pointed (e.List n xs) ≡ false
pointed_List n xs = by_form (e.List n xs) (Expr-F.List n xs) (ap out-Expr (sym (e.rolls-List n xs)) ∙ out-roll-Expr (Expr-F.List n xs))

pub pointed_Comprehension : (n : Node) (x : Expr) (ns : LoopNames) (y : Expr) (z : Option Expr) → is_pointed (e.Comprehension n x ns y z) ≡ false
pointed_Comprehension n x ns y z =
    by_form (e.Comprehension n x ns y z) (Expr-F.Comprehension n x ns y z) (ap out-Expr (sym (e.rolls-Comprehension n x ns y z)) ∙ out-roll-Expr (Expr-F.Comprehension n x ns y z))

pub pointed_Call : (n : Node) (f : Name) (xs : List Expr) → is_pointed (e.Call n f xs) ≡ false
pointed_Call n f xs = by_form (e.Call n f xs) (Expr-F.Call n f xs) (ap out-Expr (sym (e.rolls-Call n f xs)) ∙ out-roll-Expr (Expr-F.Call n f xs))

pub pointed_MethodCall : (n m : Node) (x : Expr) (s : List ℕ) (xs : List Expr) → is_pointed (e.MethodCall n m x s xs) ≡ false
pointed_MethodCall n m x s xs =
    by_form (e.MethodCall n m x s xs) (Expr-F.MethodCall n m x s xs) (ap out-Expr (sym (e.rolls-MethodCall n m x s xs)) ∙ out-roll-Expr (Expr-F.MethodCall n m x s xs))

pub pointed_Index : (n : Node) (x y : Expr) → is_pointed (e.Index n x y) ≡ true
pointed_Index n x y = by_form (e.Index n x y) (Expr-F.Index n x y) (ap out-Expr (sym (e.rolls-Index n x y)) ∙ out-roll-Expr (Expr-F.Index n x y))

pub pointed_Slice : (n : Node) (x : Expr) (y z : Option Expr) → is_pointed (e.Slice n x y z) ≡ false
pointed_Slice n x y z = by_form (e.Slice n x y z) (Expr-F.Slice n x y z) (ap out-Expr (sym (e.rolls-Slice n x y z)) ∙ out-roll-Expr (Expr-F.Slice n x y z))

pub pointed_Field : (n : Node) (x : Expr) (s : List ℕ) → is_pointed (e.Field n x s) ≡ true
pointed_Field n x s = by_form (e.Field n x s) (Expr-F.Field n x s) (ap out-Expr (sym (e.rolls-Field n x s)) ∙ out-roll-Expr (Expr-F.Field n x s))

-- a name by itself
abbrev pub Bare : Language Token Expr
Bare a v = (t : Token) × (s : List ℕ) × (a ≡ t ∷ []) × (name_of t ≡ Some s) × (is_word (codes "print") t ≡ false) × (v ≡ e.Name (node_at t) s)

-- of the atoms only a name is a target
pub bare_or : (a : List Token) (v : Expr) → IsAtom a v → Bare a v ⊎ (is_pointed v ≡ false)
bare_or _ _ (g.name t s h p) = inl (t, s, refl, h, p, refl)
bare_or _ _ (g.call t f a xs h p q) = inr (pointed_Call _ _ _)
bare_or _ _ (g.number t z h) = inr (pointed_Number _ _)
bare_or _ _ (g.texts t s a more h p) = inr (pointed_Text _ _)
bare_or _ _ (g.yes t h) = inr (pointed_True _)
bare_or _ _ (g.no t h) = inr (pointed_False _)
bare_or _ _ (g.nothing t h) = inr (pointed_None _)
bare_or _ _ (g.bracketed t a x u h p i) = inr (pointed_Bracketed _ _)
bare_or _ _ (g.tuple t a xs u h p l i) = inr (pointed_Tuple _ _ _)
bare_or _ _ (g.empty_list t u h i) = inr (pointed_List _ _)
bare_or _ _ (g.list t a xs more u h p i) = inr (pointed_List _ _)
bare_or _ _ (g.comprehension t a x f b ns i c y d z u h p q r j k l m) = inr (pointed_Comprehension _ _ _ _ _)
