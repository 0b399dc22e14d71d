-- What an expression that is a target is spelled with: it comes from the tightest form, since every looser one makes a
-- node of another kind.
use Rattle.std.proofs.Common.{◌≡◌, ℕ, ℤ, Bool, true, false, List, [], ◌∷◌, ◌++◌, refl, sym, ◌∙◌, ap, subst, ◌⊎◌, inl, inr, Option, Some, codes}
use Rattle.std.specs.Str.{bytes_eq}
use Rattle.std.proofs.lemmas.Slice.Eq.{bytes_eq-Decides}
use Rattle.indent_lexer.specs.declared.token.Token.{Token}
use Rattle.indent_lexer.specs.declared.token.TokenKind.{TokenKind}
use Rattle.indent_lexer.specs.declared.token.TokenKind.TheVariants as kind
use Rattle.source_trees.specs.declared.node.Node.{Node}
use Rattle.source_trees.specs.declared.node.Name.{Name}
use Rattle.source_trees.specs.declared.expression.Commas.{Commas}
use Rattle.source_trees.specs.declared.expression.Comparison.{Comparison}
use Rattle.source_trees.specs.declared.expression.Expr.{Expr, Expr-F, out-Expr}
use Rattle.source_trees.specs.declared.expression.Expr.TheViews.{out-roll-Expr}
use Rattle.source_trees.specs.declared.expression.Expr.TheVariants as e
use Rattle.source_trees.specs.declared.operator.BinaryOp.{BinaryOp}
use Rattle.source_trees.specs.declared.operator.UnaryOp.{UnaryOp}
use Rattle.source_trees.specs.declared.statement.LoopNames.{LoopNames}
use Rattle.source_trees.specs.declared.statement.Target.{Target}
use Rattle.source_trees.specs.declared.statement.Target.TheVariants as target
use Rattle.source_trees.specs.Heights.{height_of_expr, height_of_target, over_parts}
use Rattle.source_trees.specs.declared.expression.Expr.TheFolds.{map-Expr, fold_out-Expr}
use Rattle.source_trees.specs.Parts.{of_expr, of_comparison, expr_step, comparison_step}
use Rattle.parse_laws.specs.Parser.{in_table}
use Rattle.grammar_rules.specs.declared.level.Junction.{Junction}
use Rattle.grammar_rules.specs.declared.level.Junction.TheVariants as junction
use Rattle.grammar_rules.specs.declared.level.Rank.{Rank}
use Rattle.grammar_rules.specs.declared.level.Rank.TheVariants as rank
use Rattle.grammar_rules.specs.Levels.{joined}
use Rattle.grammar_rules.specs.Expressions as g
use Rattle.grammar_rules.specs.Expressions.{node_of, IsExpr, IsJoined, IsJoint, IsNot, IsCompared, IsRanked, IsOperand, IsFactor, IsPostfix, IsAtom}
use Rattle.grammar_rules.specs.Simple.{IsTarget, name, index, field}
use Rattle.grammar_rules.specs.Words.{name_in, name_of, is_word, is_spelled, node_at}
use Rattle.parse_statements.specs.Targets.{target_in, target_of, is_pointed, print_in, is_print, IsPointed, IsPrintName}

pub out_Name : (n : Node) (s : List ℕ) → out-Expr (e.Name n s) ≡ Expr-F.Name n s
out_Name n s = ap out-Expr (sym (e.rolls-Name n s)) ∙ out-roll-Expr (Expr-F.Name n s)

pub out_Number : (n : Node) (z : ℤ) → out-Expr (e.Number n z) ≡ Expr-F.Number n z
out_Number n z = ap out-Expr (sym (e.rolls-Number n z)) ∙ out-roll-Expr (Expr-F.Number n z)

pub out_Text : (n : Node) (s : List ℕ) → out-Expr (e.Text n s) ≡ Expr-F.Text n s
out_Text n s = ap out-Expr (sym (e.rolls-Text n s)) ∙ out-roll-Expr (Expr-F.Text n s)

pub out_True : (n : Node) → out-Expr (e.True n) ≡ Expr-F.True n
out_True n = ap out-Expr (sym (e.rolls-True n)) ∙ out-roll-Expr (Expr-F.True n)

pub out_False : (n : Node) → out-Expr (e.False n) ≡ Expr-F.False n
out_False n = ap out-Expr (sym (e.rolls-False n)) ∙ out-roll-Expr (Expr-F.False n)

pub out_None : (n : Node) → out-Expr (e.None n) ≡ Expr-F.None n
out_None n = ap out-Expr (sym (e.rolls-None n)) ∙ out-roll-Expr (Expr-F.None n)

pub out_Bracketed : (n : Node) (x : Expr) → out-Expr (e.Bracketed n x) ≡ Expr-F.Bracketed n x
out_Bracketed n x = ap out-Expr (sym (e.rolls-Bracketed n x)) ∙ out-roll-Expr (Expr-F.Bracketed n x)

pub out_Tuple : (n : Node) (c : Commas) (xs : List Expr) → out-Expr (e.Tuple n c xs) ≡ Expr-F.Tuple n c xs
out_Tuple n c xs = ap out-Expr (sym (e.rolls-Tuple n c xs)) ∙ out-roll-Expr (Expr-F.Tuple n c xs)

pub out_List : (n : Node) (xs : List Expr) → out-Expr (e.List n xs) ≡ Expr-F.List n xs
out_List n xs = ap out-Expr (sym (e.rolls-List n xs)) ∙ out-roll-Expr (Expr-F.List n xs)

pub out_Comprehension : (n : Node) (x : Expr) (ns : LoopNames) (y : Expr) (z : Option Expr) → out-Expr (e.Comprehension n x ns y z) ≡ Expr-F.Comprehension n x ns y z
out_Comprehension n x ns y z = ap out-Expr (sym (e.rolls-Comprehension n x ns y z)) ∙ out-roll-Expr (Expr-F.Comprehension n x ns y z)

pub out_Conditional : (n : Node) (x y z : Expr) → out-Expr (e.Conditional n x y z) ≡ Expr-F.Conditional n x y z
out_Conditional n x y z = ap out-Expr (sym (e.rolls-Conditional n x y z)) ∙ out-roll-Expr (Expr-F.Conditional n x y z)

pub out_Or : (n : Node) (xs : List Expr) → out-Expr (e.Or n xs) ≡ Expr-F.Or n xs
out_Or n xs = ap out-Expr (sym (e.rolls-Or n xs)) ∙ out-roll-Expr (Expr-F.Or n xs)

pub out_And : (n : Node) (xs : List Expr) → out-Expr (e.And n xs) ≡ Expr-F.And n xs
out_And n xs = ap out-Expr (sym (e.rolls-And n xs)) ∙ out-roll-Expr (Expr-F.And n xs)

pub out_Not : (n : Node) (x : Expr) → out-Expr (e.Not n x) ≡ Expr-F.Not n x
out_Not n x = ap out-Expr (sym (e.rolls-Not n x)) ∙ out-roll-Expr (Expr-F.Not n x)

pub out_Compare : (n : Node) (x : Expr) (cs : List Comparison) → out-Expr (e.Compare n x cs) ≡ Expr-F.Compare n x cs
out_Compare n x cs = ap out-Expr (sym (e.rolls-Compare n x cs)) ∙ out-roll-Expr (Expr-F.Compare n x cs)

pub out_Unary : (n : Node) (o : UnaryOp) (x : Expr) → out-Expr (e.Unary n o x) ≡ Expr-F.Unary n o x
out_Unary n o x = ap out-Expr (sym (e.rolls-Unary n o x)) ∙ out-roll-Expr (Expr-F.Unary n o x)

pub out_Binary : (n : Node) (o : BinaryOp) (x y : Expr) → out-Expr (e.Binary n o x y) ≡ Expr-F.Binary n o x y
out_Binary n o x y = ap out-Expr (sym (e.rolls-Binary n o x y)) ∙ out-roll-Expr (Expr-F.Binary n o x y)

pub out_Call : (n : Node) (f : Name) (xs : List Expr) → out-Expr (e.Call n f xs) ≡ Expr-F.Call n f xs
out_Call n f xs = ap out-Expr (sym (e.rolls-Call n f xs)) ∙ out-roll-Expr (Expr-F.Call n f xs)

pub out_MethodCall : (n m : Node) (x : Expr) (s : List ℕ) (xs : List Expr) → out-Expr (e.MethodCall n m x s xs) ≡ Expr-F.MethodCall n m x s xs
out_MethodCall n m x s xs = ap out-Expr (sym (e.rolls-MethodCall n m x s xs)) ∙ out-roll-Expr (Expr-F.MethodCall n m x s xs)

pub out_Index : (n : Node) (x y : Expr) → out-Expr (e.Index n x y) ≡ Expr-F.Index n x y
out_Index n x y = ap out-Expr (sym (e.rolls-Index n x y)) ∙ out-roll-Expr (Expr-F.Index n x y)

pub out_Slice : (n : Node) (x : Expr) (y z : Option Expr) → out-Expr (e.Slice n x y z) ≡ Expr-F.Slice n x y z
out_Slice n x y z = ap out-Expr (sym (e.rolls-Slice n x y z)) ∙ out-roll-Expr (Expr-F.Slice n x y z)

pub out_Field : (n : Node) (x : Expr) (s : List ℕ) → out-Expr (e.Field n x s) ≡ Expr-F.Field n x s
out_Field n x s = ap out-Expr (sym (e.rolls-Field n x s)) ∙ out-roll-Expr (Expr-F.Field n x s)

-- what the form of a tree tells
pub pointed_by : (x : Expr) (f : Expr-F Expr Comparison) → out-Expr x ≡ f → is_pointed x ≡ in_table (target_in f)
unfolding target_of
pointed_by x f h = ap (λ z. in_table (target_in z)) h

pub target_by : (x : Expr) (f : Expr-F Expr Comparison) → out-Expr x ≡ f → target_of x ≡ target_in f
unfolding target_of
target_by x f h = ap target_in h

pub print_by : (x : Expr) (f : Expr-F Expr Comparison) → out-Expr x ≡ f → is_print x ≡ print_in f
unfolding is_print
print_by x f h = ap print_in h

-- a tree of another form is no target
other : (x : Expr) (f : Expr-F Expr Comparison) → out-Expr x ≡ f → in_table (target_in f) ≡ false → is_pointed x ≡ true → ⊥
other x f h k p = let m : is_pointed x ≡ false = pointed_by x f h ∙ k in cc

joined_other : (j : Junction) (n : Node) (xs : List Expr) → is_pointed (joined j n xs) ≡ true → ⊥
joined_other junction.Or n xs h = other (e.Or n xs) (Expr-F.Or n xs) (out_Or n xs) refl h
joined_other junction.And n xs h = other (e.And n xs) (Expr-F.And n xs) (out_And n xs) refl h

-- ---- a target comes from the tightest form

factor_postfix : (a : List Token) (x : Expr) → IsFactor a x → is_pointed x ≡ true → IsPostfix a x
factor_postfix _ _ (g.base a x p) h = p
factor_postfix _ _ (g.power a x t b y p k q) h = absurd (other _ _ (out_Binary _ _ _ _) refl h)
factor_postfix _ _ (g.signed t o a x k p) h = absurd (other _ _ (out_Unary _ _ _) refl h)

mutual
  ranked_postfix : (r : Rank) (a : List Token) (x : Expr) → IsRanked r a x → is_pointed x ≡ true → IsPostfix a x
  ranked_postfix _ _ _ (g.single r a x p) h = operand_postfix r a x p h
  ranked_postfix _ _ _ (g.operation r a x t o b y p k q) h = absurd (other _ _ (out_Binary _ _ _ _) refl h)

  operand_postfix : (r : Rank) (a : List Token) (x : Expr) → IsOperand r a x → is_pointed x ≡ true → IsPostfix a x
  operand_postfix _ _ _ (g.factor a x p) h = factor_postfix a x p h
  operand_postfix _ _ _ (g.ranked r s a x k p) h = ranked_postfix s a x p h

compared_postfix : (a : List Token) (x : Expr) → IsCompared a x → is_pointed x ≡ true → IsPostfix a x
compared_postfix _ _ (g.uncompared a x p) h = ranked_postfix rank.BitOr a x p h
compared_postfix _ _ (g.compared a x b more p q) h = absurd (other _ _ (out_Compare _ _ _) refl h)

not_postfix : (a : List Token) (x : Expr) → IsNot a x → is_pointed x ≡ true → IsPostfix a x
not_postfix _ _ (g.comparison a x p) h = compared_postfix a x p h
not_postfix _ _ (g.inverse t a x k p) h = absurd (other _ _ (out_Not _ _) refl h)

mutual
  joined_postfix : (j : Junction) (a : List Token) (x : Expr) → IsJoined j a x → is_pointed x ≡ true → IsPostfix a x
  joined_postfix _ _ _ (g.alone j a x p) h = joint_postfix j a x p h
  joined_postfix _ _ _ (g.several j a x b more p q) h = absurd (joined_other j (node_of x) (x ∷ more) h)

  joint_postfix : (j : Junction) (a : List Token) (x : Expr) → IsJoint j a x → is_pointed x ≡ true → IsPostfix a x
  joint_postfix _ _ _ (g.conjunction a x p) h = joined_postfix junction.And a x p h
  joint_postfix _ _ _ (g.negation a x p) h = not_postfix a x p h

pub expr_postfix : (a : List Token) (x : Expr) → IsExpr a x → is_pointed x ≡ true → IsPostfix a x
expr_postfix _ _ (g.plain a x p) h = joined_postfix junction.Or a x p h
expr_postfix _ _ (g.conditional a x t b y u c z p k q l s) h = absurd (other _ _ (out_Conditional _ _ _ _) refl h)

-- each postfix form is an expression
pub postfix_expr : (a : List Token) (x : Expr) → IsPostfix a x → IsExpr a x
postfix_expr a x p =
    let f = g.base a x p in
    let term = g.single rank.Term a x (g.factor a x f) in
    let sum = g.single rank.Sum a x (g.ranked rank.Sum rank.Term a x refl term) in
    let shift = g.single rank.Shift a x (g.ranked rank.Shift rank.Sum a x refl sum) in
    let band = g.single rank.BitAnd a x (g.ranked rank.BitAnd rank.Shift a x refl shift) in
    let bxor = g.single rank.BitXor a x (g.ranked rank.BitXor rank.BitAnd a x refl band) in
    let bor = g.single rank.BitOr a x (g.ranked rank.BitOr rank.BitXor a x refl bxor) in
    g.plain a x (g.alone junction.Or a x (g.conjunction a x (g.alone junction.And a x (g.negation a x (g.comparison a x (g.uncompared a x bor))))))

-- ---- a postfix form that is a target

some_inj : {A : Type 0} (x y : A) → Some x ≡ Some y → x ≡ y
some_inj x y h = cc

pub atom_target : (a : List Token) (x : Expr) (w : Target) → IsAtom a x → target_of x ≡ Some w
    → (t : Token) × (s : List ℕ) × (a ≡ t ∷ []) × (name_of t ≡ Some s) × (is_word (codes "print") t ≡ false) × (x ≡ e.Name (node_at t) s) × (w ≡ target.Name (node_at t) s)
atom_target _ _ w (g.name t s k l) h = (t, s, refl, k, l, refl, some_inj _ _ (sym h ∙ target_by _ _ (out_Name (node_at t) s)))
atom_target _ _ w (g.call t f a xs k l p) h = absurd (other _ _ (out_Call _ _ _) refl (ap in_table h))
atom_target _ _ w (g.number t z k) h = absurd (other _ _ (out_Number _ _) refl (ap in_table h))
atom_target _ _ w (g.texts t s a more k p) h = absurd (other _ _ (out_Text _ _) refl (ap in_table h))
atom_target _ _ w (g.yes t k) h = absurd (other _ _ (out_True _) refl (ap in_table h))
atom_target _ _ w (g.no t k) h = absurd (other _ _ (out_False _) refl (ap in_table h))
atom_target _ _ w (g.nothing t k) h = absurd (other _ _ (out_None _) refl (ap in_table h))
atom_target _ _ w (g.bracketed t a x u k p l) h = absurd (other _ _ (out_Bracketed _ _) refl (ap in_table h))
atom_target _ _ w (g.tuple t a xs u k p s l) h = absurd (other _ _ (out_Tuple _ _ _) refl (ap in_table h))
atom_target _ _ w (g.empty_list t u k l) h = absurd (other _ _ (out_List _ _) refl (ap in_table h))
atom_target _ _ w (g.list t a xs more u k p l) h = absurd (other _ _ (out_List _ _) refl (ap in_table h))
atom_target _ _ w (g.comprehension t a x f b ns i c y d z u k p l q m r s v) h = absurd (other _ _ (out_Comprehension _ _ _ _ _) refl (ap in_table h))

pub postfix_target : (a : List Token) (x : Expr) (w : Target) → IsPostfix a x → target_of x ≡ Some w → IsTarget a w
postfix_target _ _ w (g.atom a x p) h =
    let k = atom_target a x w p h in
    let P : List Token → Type 0 = λ z. IsTarget z w in
    let Q : Target → Type 0 = λ z. IsTarget (k.0 ∷ []) z in
    subst P (sym k.2) (subst Q (sym k.6) (name k.0 k.1 k.3))
postfix_target _ _ w (g.index a x t b y u p k q l) h =
    let Q : Target → Type 0 = λ z. IsTarget (a ++ t ∷ (b ++ u ∷ [])) z in
    subst Q (some_inj _ _ (sym (target_by _ _ (out_Index (node_of x) x y)) ∙ h)) (index a x t b y u p k q l)
postfix_target _ _ w (g.slice a x t b y c d z u p k q l r m) h = absurd (other _ _ (out_Slice _ _ _ _) refl (ap in_table h))
postfix_target _ _ w (g.field a x dot t s p k l) h =
    let Q : Target → Type 0 = λ z. IsTarget (a ++ dot ∷ t ∷ []) z in
    subst Q (some_inj _ _ (sym (target_by _ _ (out_Field (node_of x) x s)) ∙ h)) (field a x dot t s p k l)
postfix_target _ _ w (g.method a x dot t s b xs p k l q) h = absurd (other _ _ (out_MethodCall _ _ _ _ _) refl (ap in_table h))

-- ---- the name `print`

print_pointed_in : (f : Expr-F Expr Comparison) → print_in f ≡ true → in_table (target_in f) ≡ true
print_pointed_in (Expr-F.Name n s) h = refl
print_pointed_in _ h = absurd (cc)

print_pointed : (x : Expr) → is_print x ≡ true → is_pointed x ≡ true
unfolding is_print target_of
print_pointed x h = print_pointed_in (out-Expr x) h

word_of_name : (word : List ℕ) (t : Token) (s : List ℕ) → name_of t ≡ Some s → is_word word t ≡ bytes_eq s word
word_of_name word t s h = ap (λ z. is_spelled z word) h

atom_not_print : (a : List Token) (x : Expr) → IsAtom a x → is_print x ≡ false
atom_not_print _ _ (g.name t s k l) = print_by _ _ (out_Name (node_at t) s) ∙ sym (word_of_name (codes "print") t s k) ∙ l
atom_not_print _ _ (g.call t f a xs k l p) = print_by _ _ (out_Call _ _ _)
atom_not_print _ _ (g.number t z k) = print_by _ _ (out_Number _ _)
atom_not_print _ _ (g.texts t s a more k p) = print_by _ _ (out_Text _ _)
atom_not_print _ _ (g.yes t k) = print_by _ _ (out_True _)
atom_not_print _ _ (g.no t k) = print_by _ _ (out_False _)
atom_not_print _ _ (g.nothing t k) = print_by _ _ (out_None _)
atom_not_print _ _ (g.bracketed t a x u k p l) = print_by _ _ (out_Bracketed _ _)
atom_not_print _ _ (g.tuple t a xs u k p s l) = print_by _ _ (out_Tuple _ _ _)
atom_not_print _ _ (g.empty_list t u k l) = print_by _ _ (out_List _ _)
atom_not_print _ _ (g.list t a xs more u k p l) = print_by _ _ (out_List _ _)
atom_not_print _ _ (g.comprehension t a x f b ns i c y d z u k p l q m r s v) = print_by _ _ (out_Comprehension _ _ _ _ _)

postfix_not_print : (a : List Token) (x : Expr) → IsPostfix a x → is_print x ≡ false
postfix_not_print _ _ (g.atom a x p) = atom_not_print a x p
postfix_not_print _ _ (g.index a x t b y u p k q l) = print_by _ _ (out_Index _ _ _)
postfix_not_print _ _ (g.slice a x t b y c d z u p k q l r m) = print_by _ _ (out_Slice _ _ _ _)
postfix_not_print _ _ (g.field a x dot t s p k l) = print_by _ _ (out_Field _ _ _)
postfix_not_print _ _ (g.method a x dot t s b xs p k l q) = print_by _ _ (out_MethodCall _ _ _ _ _)

pub expr_not_print : (a : List Token) (x : Expr) → IsExpr a x → is_print x ≡ false
expr_not_print a x p =
    let go : (y : Bool) → is_print x ≡ y → y ≡ false = elim [
      | true ↦ λ h. let k = postfix_not_print a x (expr_postfix a x p (print_pointed x h)) in absurd (cc)
      | false ↦ λ h. refl
    ] in
    go (is_print x) refl

pub name_print : (n : Node) → is_print (e.Name n (codes "print")) ≡ true
name_print n = print_by _ _ (out_Name n (codes "print"))

pub print_name_print : (a : List Token) (x : Expr) → IsPrintName a x → is_print x ≡ true
print_name_print a x g = ap is_print g.3 ∙ print_by _ _ (out_Name _ _)

pub print_name_target : (a : List Token) (x : Expr) (g : IsPrintName a x) → target_of x ≡ Some (target.Name (node_at g.0) (codes "print"))
print_name_target a x g = ap target_of g.3 ∙ target_by _ _ (out_Name _ _)

pub print_name_pointed : (a : List Token) (x : Expr) → IsPrintName a x → is_pointed x ≡ true
print_name_pointed a x g = print_pointed x (print_name_print a x g)

named_print : (t : Token) (s : List ℕ) → name_of t ≡ Some s → is_word (codes "print") t ≡ true → s ≡ codes "print"
named_print t s h k = (bytes_eq-Decides s (codes "print")).0 (sym (word_of_name (codes "print") t s h) ∙ k)

print_named_in : (k : TokenKind) → is_spelled (name_in k) (codes "print") ≡ true → name_in k ≡ Some (codes "print")
print_named_in (kind.Name s) h = ap (λ z. Some z) ((bytes_eq-Decides s (codes "print")).0 h)
print_named_in _ h = absurd (cc)

print_named : (t : Token) → is_word (codes "print") t ≡ true → name_of t ≡ Some (codes "print")
print_named t h = print_named_in t.kind h

named_postfix : (a : List Token) (x : Expr) (n : Node) (s : List ℕ) → IsPostfix a x → target_of x ≡ Some (target.Name n s) → (t : Token) × (a ≡ t ∷ []) × (name_of t ≡ Some s) × (n ≡ node_at t)
named_postfix _ _ n s (g.atom a x p) h =
    let k = atom_target a x (target.Name n s) p h in
    let same : k.1 ≡ s = let q : target.Name n s ≡ target.Name (node_at k.0) k.1 = k.6 in cc in
    let here : n ≡ node_at k.0 = let q : target.Name n s ≡ target.Name (node_at k.0) k.1 = k.6 in cc in
    (k.0, k.2, k.3 ∙ ap (λ z. Some z) same, here)
named_postfix _ _ n s (g.index a x t b y u p k q l) h =
    let bad : target.Index (node_of x) x y ≡ target.Name n s = some_inj _ _ (sym (target_by _ _ (out_Index (node_of x) x y)) ∙ h) in absurd (cc)
named_postfix _ _ n s (g.slice a x t b y c d z u p k q l r m) h = absurd (other _ _ (out_Slice _ _ _ _) refl (ap in_table h))
named_postfix _ _ n s (g.field a x dot t s2 p k l) h =
    let bad : target.Field (node_of x) x s2 ≡ target.Name n s = some_inj _ _ (sym (target_by _ _ (out_Field (node_of x) x s2)) ∙ h) in absurd (cc)
named_postfix _ _ n s (g.method a x dot t s2 b xs p k l q) h = absurd (other _ _ (out_MethodCall _ _ _ _ _) refl (ap in_table h))

-- ---- a target as an expression

pub target_expr : (a : List Token) (w : Target) → IsTarget a w → (x : Expr) × (target_of x ≡ Some w) × (IsPointed a x ⊎ IsPrintName a x)
target_expr _ _ (name t s k) =
    let go : (y : Bool) → is_word (codes "print") t ≡ y → (x : Expr) × (target_of x ≡ Some (target.Name (node_at t) s)) × (IsPointed (t ∷ []) x ⊎ IsPrintName (t ∷ []) x) = elim [
      | true ↦ λ h. (e.Name (node_at t) (codes "print"), target_by _ _ (out_Name _ _) ∙ ap (λ z. Some (target.Name (node_at t) z)) (sym (named_print t s k h)), inr (t, refl, h, refl))
      | false ↦ λ h. (e.Name (node_at t) s, target_by _ _ (out_Name _ _), inl (g.atom _ _ (g.name t s k h), pointed_by _ _ (out_Name _ _)))
    ] in
    go (is_word (codes "print") t) refl
target_expr _ _ (index a x t b y u p k q l) = (e.Index (node_of x) x y, target_by _ _ (out_Index _ _ _), inl (g.index a x t b y u p k q l, pointed_by _ _ (out_Index _ _ _)))
target_expr _ _ (field a x dot t s p k l) = (e.Field (node_of x) x s, target_by _ _ (out_Field _ _ _), inl (g.field a x dot t s p k l, pointed_by _ _ (out_Field _ _ _)))

-- the name `print` is a target
pub print_target : (a : List Token) (x : Expr) (w : Target) → IsPrintName a x → target_of x ≡ Some w → IsTarget a w
print_target a x w g h =
    let P : List Token → Type 0 = λ z. IsTarget z w in
    let Q : Target → Type 0 = λ z. IsTarget (g.0 ∷ []) z in
    subst P (sym g.1) (subst Q (some_inj _ _ (sym (print_name_target a x g) ∙ h)) (name g.0 (codes "print") (print_named g.0 g.2)))

-- an expression that is a name is one token
pub named_expr : (a : List Token) (x : Expr) (n : Node) (s : List ℕ) → IsExpr a x → target_of x ≡ Some (target.Name n s) → (t : Token) × (a ≡ t ∷ []) × (name_of t ≡ Some s) × (n ≡ node_at t)
named_expr a x n s p h = named_postfix a x n s (expr_postfix a x p (ap in_table h)) h

-- a name other than `print` is an expression
pub name_expr : (t : Token) (s : List ℕ) → name_of t ≡ Some s → bytes_eq s (codes "print") ≡ false → IsExpr (t ∷ []) (e.Name (node_at t) s)
name_expr t s h k = postfix_expr _ _ (g.atom _ _ (g.name t s h (word_of_name (codes "print") t s h ∙ k)))

pub name_target : (n : Node) (s : List ℕ) → target_of (e.Name n s) ≡ Some (target.Name n s)
name_target n s = target_by _ _ (out_Name n s)

-- ---- heights

step_out : (x : Expr) → height_of_expr x ≡ expr_step over_parts (map-Expr _ _ _ _ (of_expr over_parts) (of_comparison over_parts) (out-Expr x))
unfolding of_expr of_comparison
step_out x = fold_out-Expr ℕ ℕ (expr_step over_parts) (comparison_step over_parts) x

height_in : (f : Expr-F Expr Comparison) (w : Target) → target_in f ≡ Some w → height_of_target w ≡ expr_step over_parts (map-Expr _ _ _ _ (of_expr over_parts) (of_comparison over_parts) f)
height_in (Expr-F.Name n s) w h = ap height_of_target (some_inj _ _ (sym h))
height_in (Expr-F.Index n x y) w h = ap height_of_target (some_inj _ _ (sym h))
height_in (Expr-F.Field n x s) w h = ap height_of_target (some_inj _ _ (sym h))
height_in _ w h = absurd (cc)

pub target_height : (x : Expr) (w : Target) → target_of x ≡ Some w → height_of_target w ≡ height_of_expr x
unfolding target_of
target_height x w h = height_in (out-Expr x) w h ∙ sym (step_out x)
