-- What the grammar derives is bare: each node stands at a token, with the number 0.
use Rattle.std.proofs.Common.{◌≡◌, ℕ, Bool, true, false, List, [], ◌∷◌, ◌++◌, map, Option, Some, None, refl, sym, ◌∙◌, ap, subst}
use Rattle.indent_lexer.specs.declared.token.Token.{Token}
use Rattle.source_trees.specs.declared.expression.Commas.TheVariants.{Bare, Bracketed}
use Rattle.source_trees.specs.declared.expression.Comparison.{Comparison}
use Rattle.source_trees.specs.declared.expression.Expr.{Expr}
use Rattle.source_trees.specs.declared.expression.Expr.TheVariants as x
use Rattle.source_trees.specs.declared.item.Annotation.{Annotation}
use Rattle.source_trees.specs.declared.item.Annotation.TheVariants as annotation
use Rattle.source_trees.specs.declared.item.Class.{Class}
use Rattle.source_trees.specs.declared.item.Function.{Function}
use Rattle.source_trees.specs.declared.item.Item.{Item}
use Rattle.source_trees.specs.declared.item.Item.TheVariants as item
use Rattle.source_trees.specs.declared.item.Member.{Member}
use Rattle.source_trees.specs.declared.item.Member.TheVariants as member
use Rattle.source_trees.specs.declared.item.Module.{Module}
use Rattle.source_trees.specs.declared.item.Param.{Param}
use Rattle.source_trees.specs.declared.node.Name.{Name}
use Rattle.source_trees.specs.declared.node.Node.{Node}
use Rattle.source_trees.specs.declared.operator.BinaryOp.{BinaryOp}
use Rattle.source_trees.specs.declared.pipeline.PrintOptions.{PrintOptions}
use Rattle.source_trees.specs.declared.pipeline.PrintOptions.TheVariants as options
use Rattle.source_trees.specs.declared.pipeline.Printed.{Printed}
use Rattle.source_trees.specs.declared.pipeline.Stage.{Stage}
use Rattle.source_trees.specs.declared.pipeline.StageForm.{StageForm}
use Rattle.source_trees.specs.declared.pipeline.StageForm.TheVariants as form
use Rattle.source_trees.specs.declared.statement.Arm.{Arm}
use Rattle.source_trees.specs.declared.statement.For.{For}
use Rattle.source_trees.specs.declared.statement.LoopNames.{LoopNames}
use Rattle.source_trees.specs.declared.statement.LoopNames.TheVariants.{One, Several}
use Rattle.source_trees.specs.declared.statement.Stmt.{Stmt}
use Rattle.source_trees.specs.declared.statement.Stmt.TheVariants as stmt
use Rattle.source_trees.specs.declared.statement.Target.{Target}
use Rattle.source_trees.specs.declared.statement.Target.TheVariants as target
use Rattle.source_trees.specs.declared.statement.Targets.{Targets}
use Rattle.source_trees.specs.declared.statement.Targets.TheVariants as targets
use Rattle.source_trees.specs.Bare.{bare, bare_name, bare_loop_names, bare_expr, bare_comparison, bare_optional, bare_annotation, bare_target, bare_targets, bare_print_options, bare_printed, bare_stage_form, bare_stage, bare_stmt, bare_arm, bare_for, bare_param, bare_function, bare_member, bare_class, bare_item, bare_module}
use Rattle.parse_laws.specs.Language.{Language}
use Rattle.parse_laws.specs.Loops.{Listed, last, trailing, another}
use Rattle.grammar_rules.specs.declared.level.Junction.{Junction}
use Rattle.grammar_rules.specs.declared.level.Junction.TheVariants as junction
use Rattle.grammar_rules.specs.declared.level.Rank.{Rank}
use Rattle.grammar_rules.specs.declared.level.Rank.TheVariants as rank
use Rattle.grammar_rules.specs.Expressions as e
use Rattle.grammar_rules.specs.Expressions.{node_of, loop_names, IsNames, IsExpr, IsJoined, IsMore, IsJoint, IsNot, IsCompared, IsComparisons, IsRanked, IsOperand, IsFactor, IsPostfix, IsOptional, IsArguments, IsRow, IsAtom, IsFilter}
use Rattle.grammar_rules.specs.Levels.{joined}
use Rattle.grammar_rules.specs.Modules as m
use Rattle.grammar_rules.specs.Modules.{IsMarked, IsDefault, IsParam, IsParams, IsFunction, IsMember, IsMembers, IsClass, IsTop, IsTops, Derives}
use Rattle.grammar_rules.specs.Simple as s
use Rattle.grammar_rules.specs.Simple.{node_of_target, node_of_targets, IsItems, IsTarget, IsTargets, IsValues, IsOption, IsOptions, IsPrinted, IsPrint, IsStageArgument, IsStageArguments, IsStageForm, IsStages, IsSimple}
use Rattle.grammar_rules.specs.Statements as b
use Rattle.grammar_rules.specs.Statements.{IsLine, IsStmt, IsArms, IsElse, IsFor, IsBlock, IsStmts}
use Rattle.grammar_rules.specs.Types as t
use Rattle.grammar_rules.specs.Types.{IsType, IsTypes}
use Rattle.grammar_rules.specs.Words.{name_of, name_at, named_by, node_at}
use Rattle.source_trees.proofs.BareForms as f
use Rattle.bare_trees.proofs.BareNodes.{node_bare}

-- ---- equalities of parts

both : {A B C : Type 0} (g : A → B → C) {a a' : A} {c c' : B} → a ≡ a' → c ≡ c' → g a c ≡ g a' c'
both g {a' = a'} {c = c} p q = ap (λ z. g z c) p ∙ ap (g a') q

three : {A B C D : Type 0} (g : A → B → C → D) {a a' : A} {c c' : B} {d d' : C} → a ≡ a' → c ≡ c' → d ≡ d' → g a c d ≡ g a' c' d'
three g {a' = a'} {c = c} {d = d} p q r = ap (λ z. g z c d) p ∙ both (g a') q r

four : {A B C D E : Type 0} (g : A → B → C → D → E) {a a' : A} {c c' : B} {d d' : C} {h h' : D} → a ≡ a' → c ≡ c' → d ≡ d' → h ≡ h' → g a c d h ≡ g a' c' d' h'
four g {a' = a'} {c = c} {d = d} {h = h} p q r k = ap (λ z. g z c d h) p ∙ three (g a') q r k

pair : {A : Type 0} {a a' : A} {as1 as2 : List A} → a ≡ a' → as1 ≡ as2 → a ∷ as1 ≡ a' ∷ as2
pair p q = both (λ y ys. y ∷ ys) p q

-- the node of an expression that is bare
node_here : (y : Expr) → bare_expr y ≡ y → bare (node_of y) ≡ node_of y
node_here y p = sym (node_bare y) ∙ ap node_of p

map_append : {A B : Type 0} (g : A → B) (ys zs : List A) → map g (ys ++ zs) ≡ map g ys ++ map g zs
map_append g [] zs = refl
map_append g (y ∷ ys) zs = ap (λ z. g y ∷ z) (map_append g ys zs)

joined_bare : {A : Type 0} (g : A → A) (ys zs : List A) → map g ys ≡ ys → map g zs ≡ zs → map g (ys ++ zs) ≡ ys ++ zs
joined_bare g ys zs p q = map_append g ys zs ∙ both (λ v w. v ++ w) p q

listed_bare : {B : Type 0} (g : B → B) (is_separator : Token → Bool) (Part : Language Token B) → ((a : List Token) (y : B) → Part a y → g y ≡ y) → (a : List Token) (w : List B × Bool) → Listed is_separator Part a w → map g w.0 ≡ w.0
listed_bare g sep Part each _ _ (last a y p) = pair (each a y p) refl
listed_bare g sep Part each _ _ (trailing a y u p h) = pair (each a y p) refl
listed_bare g sep Part each _ _ (another a y u c ys more p h rest) = pair (each a y p) (listed_bare g sep Part each c (ys, more) rest)

-- ---- names

name_bare : (u : Token) (n : Name) → name_at u ≡ Some n → bare_name n ≡ n
name_bare u n h =
    let go : (o : Option (List ℕ)) → named_by u o ≡ Some n → bare_name n ≡ n = elim [
      | Some w ↦ λ k. let i : record { node = node_at u; spelling = w } ≡ n = cc in let P : Name → Type 0 = λ z. bare_name z ≡ z in subst P i refl
      | None ↦ λ k. absurd (cc)
    ] in
    go (name_of u) h

loop_bare : (ns : List Name) (more : Bool) → map bare_name ns ≡ ns → bare_loop_names (loop_names (ns, more)) ≡ loop_names (ns, more)
loop_bare [] more p = refl
loop_bare (n ∷ []) false p = ap One (let q : bare_name n ≡ n = cc in q)
loop_bare (n ∷ []) true p = ap Several p
loop_bare (n ∷ k ∷ ns) more p = ap Several p

names_bare : (a : List Token) (w : LoopNames) → IsNames a w → bare_loop_names w ≡ w
names_bare a w k =
    let P : LoopNames → Type 0 = λ z. bare_loop_names z ≡ z in
    subst P (sym k.2) (loop_bare k.0.0 k.0.1 (listed_bare bare_name _ _ (λ c y p. name_bare p.0 y p.2) a k.0 k.1))

-- ---- expressions

joined_form : (j : Junction) (n : Node) (ys : List Expr) → bare n ≡ n → map bare_expr ys ≡ ys → bare_expr (joined j n ys) ≡ joined j n ys
joined_form junction.Or n ys p q = f.expr_Or n ys ∙ both x.Or p q
joined_form junction.And n ys p q = f.expr_And n ys ∙ both x.And p q

comparison_here : (c : Comparison) → bare_expr c.right ≡ c.right → bare_comparison c ≡ c
comparison_here c p = f.comparison_is c ∙ ap (λ z. record { comparator = c.comparator; right = z }) p

binary_form : (y : Expr) (o : BinaryOp) (z : Expr) → bare_expr y ≡ y → bare_expr z ≡ z → bare_expr (x.Binary (node_of y) o y z) ≡ x.Binary (node_of y) o y z
binary_form y o z p q = f.expr_Binary (node_of y) o y z ∙ three (λ n v w. x.Binary n o v w) (node_here y p) p q

mutual
  pub expr_bare : (a : List Token) (y : Expr) → IsExpr a y → bare_expr y ≡ y
  expr_bare _ _ (e.plain a y p) = joined_by junction.Or a y p
  expr_bare _ _ (e.conditional a y u c z v d w p h q i r) =
      let k = joined_by junction.Or a y p in
      f.expr_Conditional (node_of y) y z w ∙ four x.Conditional (node_here y k) k (joined_by junction.Or c z q) (expr_bare d w r)

  joined_by : (j : Junction) (a : List Token) (y : Expr) → IsJoined j a y → bare_expr y ≡ y
  joined_by _ _ _ (e.alone j a y p) = joint_bare j a y p
  joined_by _ _ _ (e.several j a y c more p q) = let k = joint_bare j a y p in joined_form j (node_of y) (y ∷ more) (node_here y k) (pair k (more_bare j c more q))

  more_bare : (j : Junction) (a : List Token) (ys : List Expr) → IsMore j a ys → map bare_expr ys ≡ ys
  more_bare _ _ _ (e.last_joint j u a y h p) = pair (joint_bare j a y p) refl
  more_bare _ _ _ (e.another_joint j u a y c more h p q) = pair (joint_bare j a y p) (more_bare j c more q)

  joint_bare : (j : Junction) (a : List Token) (y : Expr) → IsJoint j a y → bare_expr y ≡ y
  joint_bare _ _ _ (e.conjunction a y p) = joined_by junction.And a y p
  joint_bare _ _ _ (e.negation a y p) = not_bare a y p

  not_bare : (a : List Token) (y : Expr) → IsNot a y → bare_expr y ≡ y
  not_bare _ _ (e.comparison a y p) = compared_bare a y p
  not_bare _ _ (e.inverse u a y h p) = f.expr_Not (node_at u) y ∙ ap (x.Not (node_at u)) (not_bare a y p)

  compared_bare : (a : List Token) (y : Expr) → IsCompared a y → bare_expr y ≡ y
  compared_bare _ _ (e.uncompared a y p) = ranked_bare rank.BitOr a y p
  compared_bare _ _ (e.compared a y c more p q) =
      let k = ranked_bare rank.BitOr a y p in
      f.expr_Compare (node_of y) y more ∙ three x.Compare (node_here y k) k (comparisons_bare c more q)

  comparisons_bare : (a : List Token) (cs : List Comparison) → IsComparisons a cs → map bare_comparison cs ≡ cs
  comparisons_bare _ _ (e.last_comparison a o c y p q) = pair (comparison_here (record { comparator = o; right = y }) (ranked_bare rank.BitOr c y q)) refl
  comparisons_bare _ _ (e.another_comparison a o c y d more p q r) = pair (comparison_here (record { comparator = o; right = y }) (ranked_bare rank.BitOr c y q)) (comparisons_bare d more r)

  ranked_bare : (r : Rank) (a : List Token) (y : Expr) → IsRanked r a y → bare_expr y ≡ y
  ranked_bare _ _ _ (e.single r a y p) = operand_bare r a y p
  ranked_bare _ _ _ (e.operation r a y u o c z p h q) = binary_form y o z (ranked_bare r a y p) (operand_bare r c z q)

  operand_bare : (r : Rank) (a : List Token) (y : Expr) → IsOperand r a y → bare_expr y ≡ y
  operand_bare _ _ _ (e.factor a y p) = factor_bare a y p
  operand_bare _ _ _ (e.ranked r n a y h p) = ranked_bare n a y p

  factor_bare : (a : List Token) (y : Expr) → IsFactor a y → bare_expr y ≡ y
  factor_bare _ _ (e.base a y p) = postfix_bare a y p
  factor_bare _ _ (e.power a y u c z p h q) = binary_form y _ z (postfix_bare a y p) (factor_bare c z q)
  factor_bare _ _ (e.signed u o a y h p) = f.expr_Unary (node_at u) o y ∙ ap (x.Unary (node_at u) o) (factor_bare a y p)

  postfix_bare : (a : List Token) (y : Expr) → IsPostfix a y → bare_expr y ≡ y
  postfix_bare _ _ (e.atom a y p) = atom_bare a y p
  postfix_bare _ _ (e.index a y u c z v p h q i) = let k = postfix_bare a y p in f.expr_Index (node_of y) y z ∙ three x.Index (node_here y k) k (expr_bare c z q)
  postfix_bare _ _ (e.slice a y u c z v d w t p h q i r j) =
      let k = postfix_bare a y p in
      f.expr_Slice (node_of y) y z w ∙ four x.Slice (node_here y k) k (optional_bare c z q) (optional_bare d w r)
  postfix_bare _ _ (e.field a y u v n p h i) = let k = postfix_bare a y p in f.expr_Field (node_of y) y n ∙ both (λ q z. x.Field q z n) (node_here y k) k
  postfix_bare _ _ (e.method a y u v n c ys p h i q) =
      let k = postfix_bare a y p in
      f.expr_MethodCall (node_of y) (node_of y) y n ys ∙ four (λ q r z zs. x.MethodCall q r z n zs) (node_here y k) (node_here y k) k (arguments_bare c ys q)

  optional_bare : (a : List Token) (o : Option Expr) → IsOptional a o → bare_optional bare_expr o ≡ o
  optional_bare _ _ e.absent = refl
  optional_bare _ _ (e.present a y p) = ap Some (expr_bare a y p)

  arguments_bare : (a : List Token) (ys : List Expr) → IsArguments a ys → map bare_expr ys ≡ ys
  arguments_bare _ _ (e.no_arguments u v h i) = refl
  arguments_bare _ _ (e.arguments u a ys more v h p l i) = row_bare a (ys, more) p

  row_bare : (a : List Token) (w : List Expr × Bool) → IsRow a w → map bare_expr w.0 ≡ w.0
  row_bare _ _ (e.last a y p) = pair (expr_bare a y p) refl
  row_bare _ _ (e.trailing a y u p h) = pair (expr_bare a y p) refl
  row_bare _ _ (e.another a y u c ys more p h q) = pair (expr_bare a y p) (row_bare c (ys, more) q)

  atom_bare : (a : List Token) (y : Expr) → IsAtom a y → bare_expr y ≡ y
  atom_bare _ _ (e.name u n h p) = f.expr_Name (node_at u) n
  atom_bare _ _ (e.call u n a ys h p q) = f.expr_Call (node_at u) n ys ∙ both (x.Call (node_at u)) (name_bare u n h) (arguments_bare a ys q)
  atom_bare _ _ (e.number u v h) = f.expr_Number (node_at u) v
  atom_bare _ _ (e.texts u v a more h p) = f.expr_Text (node_at u) (v ++ more)
  atom_bare _ _ (e.yes u h) = f.expr_True (node_at u)
  atom_bare _ _ (e.no u h) = f.expr_False (node_at u)
  atom_bare _ _ (e.nothing u h) = f.expr_None (node_at u)
  atom_bare _ _ (e.bracketed u a y v h p i) = f.expr_Bracketed (node_at u) y ∙ ap (x.Bracketed (node_at u)) (expr_bare a y p)
  atom_bare _ _ (e.tuple u a ys v h p l i) = f.expr_Tuple (node_at u) Bracketed ys ∙ ap (x.Tuple (node_at u) Bracketed) (row_bare a (ys, true) p)
  atom_bare _ _ (e.empty_list u v h i) = f.expr_List (node_at u) []
  atom_bare _ _ (e.list u a ys more v h p i) = f.expr_List (node_at u) ys ∙ ap (x.List (node_at u)) (row_bare a (ys, more) p)
  atom_bare _ _ (e.comprehension u a y g c ns v d z k o w h p i q j r l n) =
      f.expr_Comprehension (node_at u) y ns z o ∙ four (x.Comprehension (node_at u)) (expr_bare a y p) (names_bare c ns q) (joined_by junction.Or d z r) (filter_bare k o l)

  filter_bare : (a : List Token) (o : Option Expr) → IsFilter a o → bare_optional bare_expr o ≡ o
  filter_bare _ _ e.unfiltered = refl
  filter_bare _ _ (e.filtered u a y h p) = ap Some (joined_by junction.Or a y p)

-- ---- types

mutual
  type_bare : (a : List Token) (y : Annotation) → IsType a y → bare_annotation y ≡ y
  type_bare _ _ (t.int u h) = f.annotation_Int (node_at u)
  type_bare _ _ (t.bool u h) = f.annotation_Bool (node_at u)
  type_bare _ _ (t.str u h) = f.annotation_Str (node_at u)
  type_bare _ _ (t.none u h) = f.annotation_None (node_at u)
  type_bare _ _ (t.class u n h p) = f.annotation_Class (node_at u) n
  type_bare _ _ (t.list u v a y w h i p j) = f.annotation_List (node_at u) y ∙ ap (annotation.List (node_at u)) (type_bare a y p)
  type_bare _ _ (t.tuple u v a ys w h i p l j) = f.annotation_Tuple (node_at u) ys ∙ ap (annotation.Tuple (node_at u)) (types_bare a ys p)

  types_bare : (a : List Token) (ys : List Annotation) → IsTypes a ys → map bare_annotation ys ≡ ys
  types_bare _ _ (t.last a y p) = pair (type_bare a y p) refl
  types_bare _ _ (t.another a y u c ys p h q) = pair (type_bare a y p) (types_bare c ys q)

-- ---- simple statements

items_bare : (a : List Token) (y : Expr) → IsItems a y → bare_expr y ≡ y
items_bare _ _ (s.item a y p) = let k = row_bare a (y ∷ [], false) p in cc
items_bare _ _ (s.tuple a y ys p l) =
    let k = row_bare a (y ∷ ys, true) p in
    let first : bare_expr y ≡ y = cc in
    f.expr_Tuple (node_of y) Bare (y ∷ ys) ∙ both (λ n zs. x.Tuple n Bare zs) (node_here y first) k

target_bare : (a : List Token) (y : Target) → IsTarget a y → bare_target y ≡ y
target_bare _ _ (s.name u n h) = refl
target_bare _ _ (s.index a y u c z v p h q i) = let k = postfix_bare a y p in three target.Index (node_here y k) k (expr_bare c z q)
target_bare _ _ (s.field a y u v n p h i) = let k = postfix_bare a y p in both (λ q z. target.Field q z n) (node_here y k) k

target_node : (y : Target) → bare_target y ≡ y → bare (node_of_target y) ≡ node_of_target y
target_node (target.Name n w) p = ap node_of_target p
target_node (target.Index n y z) p = ap node_of_target p
target_node (target.Field n y w) p = ap node_of_target p

targets_bare : (a : List Token) (y : Targets) → IsTargets a y → bare_targets y ≡ y
targets_bare _ _ (s.one a y p) = ap targets.One (target_bare a y p)
targets_bare _ _ (s.several a y ys p) =
    let k = listed_bare bare_target _ IsTarget target_bare a (y ∷ ys, true) p in
    let first : bare_target y ≡ y = cc in
    both targets.Several (target_node y first) k

targets_node : (y : Targets) → bare_targets y ≡ y → bare (node_of_targets y) ≡ node_of_targets y
targets_node (targets.One y) p = target_node y (let q : bare_target y ≡ y = cc in q)
targets_node (targets.Several n ys) p = ap node_of_targets p

values_bare : (a : List Token) (ys : List Expr) → IsValues a ys → map bare_expr ys ≡ ys
values_bare _ _ (s.last a y p) = pair (expr_bare a y p) refl
values_bare _ _ (s.another a y u c ys p h q) = pair (expr_bare a y p) (values_bare c ys q)

option_bare : (word : List ℕ) (a : List Token) (y : Expr) → IsOption word a y → bare_expr y ≡ y
option_bare word _ _ (s.option u v a y h i p) = expr_bare a y p

options_bare : (a : List Token) (o : PrintOptions) → IsOptions a o → bare_print_options o ≡ o
options_bare _ _ (s.sep a y p) = ap options.Sep (option_bare _ a y p)
options_bare _ _ (s.end_text a y p) = ap options.End (option_bare _ a y p)
options_bare _ _ (s.sep_end a y u c z p h q) = both options.SepEnd (option_bare _ a y p) (option_bare _ c z q)
options_bare _ _ (s.end_sep a y u c z p h q) = both options.EndSep (option_bare _ a y p) (option_bare _ c z q)

abbrev printed_of : List Expr → PrintOptions → Printed
printed_of ys o = record { values = ys; options = o }

printed_bare : (a : List Token) (p : Printed) → IsPrinted a p → bare_printed p ≡ p
printed_bare _ _ s.nothing = refl
printed_bare _ _ (s.values_alone a ys p l) = ap (λ z. printed_of z options.Neither) (values_bare a ys p)
printed_bare _ _ (s.options_alone a o p) = ap (printed_of []) (options_bare a o p)
printed_bare _ _ (s.both a ys u c o p l h q) = both printed_of (values_bare a ys p) (options_bare c o q)

print_bare : (a : List Token) (p : Printed) → IsPrint a p → bare_printed p ≡ p
print_bare _ _ (s.printed u v a p w h i q j) = printed_bare a p q

argument_bare : (a : List Token) (o : Option Expr) → IsStageArgument a o → bare_optional bare_expr o ≡ o
argument_bare _ _ (s.value a y p) = ap Some (expr_bare a y p)
argument_bare _ _ (s.piped u h) = refl

some_bare : (ys : List Expr) → map (bare_optional bare_expr) (map Some ys) ≡ map Some ys → map bare_expr ys ≡ ys
some_bare [] p = refl
some_bare (y ∷ ys) p =
    let head : Some (bare_expr y) ≡ Some y = cc in
    let rest : map (bare_optional bare_expr) (map Some ys) ≡ map Some ys = cc in
    pair (let q : bare_expr y ≡ y = cc in q) (some_bare ys rest)

placed_bare : (ys zs : List Expr) → map (bare_optional bare_expr) (map Some ys ++ None ∷ map Some zs) ≡ map Some ys ++ None ∷ map Some zs → (map bare_expr ys ≡ ys) × (map bare_expr zs ≡ zs)
placed_bare [] zs p = (refl, some_bare zs (let q : map (bare_optional bare_expr) (map Some zs) ≡ map Some zs = cc in q))
placed_bare (y ∷ ys) zs p =
    let head : Some (bare_expr y) ≡ Some y = cc in
    let rest : map (bare_optional bare_expr) (map Some ys ++ None ∷ map Some zs) ≡ map Some ys ++ None ∷ map Some zs = cc in
    let k = placed_bare ys zs rest in
    (pair (let q : bare_expr y ≡ y = cc in q) k.0, k.1)

stage_arguments_bare : (a : List Token) (ys zs : List Expr) → IsStageArguments a ys zs → (map bare_expr ys ≡ ys) × (map bare_expr zs ≡ zs)
stage_arguments_bare _ _ _ s.no_arguments = (refl, refl)
stage_arguments_bare _ _ _ (s.unplaced a ys more p l) = (refl, some_bare ys (listed_bare (bare_optional bare_expr) _ IsStageArgument argument_bare a (map Some ys, more) p))
stage_arguments_bare _ _ _ (s.placed a ys zs more p l) = placed_bare ys zs (listed_bare (bare_optional bare_expr) _ IsStageArgument argument_bare a (map Some ys ++ None ∷ map Some zs, more) p)

form_bare : (a : List Token) (g : StageForm) → IsStageForm a g → bare_stage_form g ≡ g
form_bare _ _ (s.iter u h) = refl
form_bare _ _ (s.name u n h p q) = refl
form_bare _ _ (s.call u n v a ys zs w h p i q j) = let k = stage_arguments_bare a ys zs q in both (form.Call n) k.0 k.1
form_bare _ _ (s.print_alone u h) = refl
form_bare _ _ (s.print_of a p q) = ap form.Print (print_bare a p q)

stages_bare : (a : List Token) (ss : List Stage) → IsStages a ss → map bare_stage ss ≡ ss
stages_bare _ _ (s.last u j v a g h p) = pair (ap (λ z. record { node = node_at v; joint = j; form = z }) (form_bare (v ∷ a) g p)) refl
stages_bare _ _ (s.another u j v a g c more h p q) = pair (ap (λ z. record { node = node_at v; joint = j; form = z }) (form_bare (v ∷ a) g p)) (stages_bare c more q)

simple_bare : (a : List Token) (w : Stmt) → IsSimple a w → bare_stmt w ≡ w
simple_bare _ _ (s.pass u h) = f.stmt_Pass (node_at u)
simple_bare _ _ (s.break u h) = f.stmt_Break (node_at u)
simple_bare _ _ (s.continue u h) = f.stmt_Continue (node_at u)
simple_bare _ _ (s.return u h) = f.stmt_Return (node_at u) None
simple_bare _ _ (s.return_value u a y h p) = f.stmt_Return (node_at u) (Some y) ∙ ap (λ z. stmt.Return (node_at u) (Some z)) (items_bare a y p)
simple_bare _ _ (s.yield u a y h p) = f.stmt_Yield (node_at u) y ∙ ap (stmt.Yield (node_at u)) (items_bare a y p)
simple_bare _ _ (s.raise u v n h i) = f.stmt_Raise (node_at u) n None ∙ ap (λ z. stmt.Raise (node_at u) z None) (name_bare v n i)
simple_bare _ _ (s.raise_called u v n w z h i j k) = f.stmt_Raise (node_at u) n None ∙ ap (λ z. stmt.Raise (node_at u) z None) (name_bare v n i)
simple_bare _ _ (s.raise_text u v n w a y z h i j p k) = f.stmt_Raise (node_at u) n (Some y) ∙ both (λ c d. stmt.Raise (node_at u) c (Some d)) (name_bare v n i) (expr_bare a y p)
simple_bare _ _ (s.assert u a y h p) = f.stmt_Assert (node_at u) y None ∙ ap (λ z. stmt.Assert (node_at u) z None) (expr_bare a y p)
simple_bare _ _ (s.assert_text u a y v c z h p i q) = f.stmt_Assert (node_at u) y (Some z) ∙ both (λ d g. stmt.Assert (node_at u) d (Some g)) (expr_bare a y p) (expr_bare c z q)
simple_bare _ _ (s.annotated u n v a y h i p) = f.stmt_Annotated (node_at u) n y None ∙ both (λ c d. stmt.Annotated (node_at u) c d None) (name_bare u n h) (type_bare a y p)
simple_bare _ _ (s.annotated_value u n v a y w c z h i p j q) =
    f.stmt_Annotated (node_at u) n y (Some z) ∙ three (λ c d g. stmt.Annotated (node_at u) c d (Some g)) (name_bare u n h) (type_bare a y p) (items_bare c z q)
simple_bare _ _ (s.assign a y u c z p h q) = let k = targets_bare a y p in f.stmt_Assign (node_of_targets y) y z ∙ three stmt.Assign (targets_node y k) k (items_bare c z q)
simple_bare _ _ (s.update a y u o c z p h q) =
    let k = target_bare a y p in
    f.stmt_Update (node_of_target y) y o z ∙ three (λ n v w. stmt.Update n v o w) (target_node y k) k (items_bare c z q)
simple_bare _ _ (s.pipeline a y c ss p q) = let k = expr_bare a y p in f.stmt_Pipeline (node_of y) y ss ∙ three stmt.Pipeline (node_here y k) k (stages_bare c ss q)
simple_bare _ _ (s.print u a p q) = f.stmt_Print (node_at u) p ∙ ap (stmt.Print (node_at u)) (print_bare (u ∷ a) p q)
simple_bare _ _ (s.evaluate a y p) = let k = items_bare a y p in f.stmt_Evaluate (node_of y) y ∙ both stmt.Evaluate (node_here y k) k

-- ---- statements

line_bare : (a : List Token) (w : List Stmt) → IsLine a w → map bare_stmt w ≡ w
line_bare a w k = let P : List Stmt → Type 0 = λ z. map bare_stmt z ≡ z in subst P (sym k.6) (listed_bare bare_stmt _ IsSimple simple_bare k.0 k.1 k.4)

arm_here : (y : Expr) (body : List Stmt) → bare_expr y ≡ y → map bare_stmt body ≡ body → let a : Arm = record { condition = y; body = body } in bare_arm a ≡ a
arm_here y body p q = f.arm_is (record { condition = y; body = body }) ∙ both (λ v w. record { condition = v; body = w }) p q

mutual
  stmt_bare : (a : List Token) (w : List Stmt) → IsStmt a w → map bare_stmt w ≡ w
  stmt_bare _ _ (b.line a w p) = line_bare a w p
  stmt_bare _ _ (b.branch u a y c body d arms g other h p q k l) =
      pair (f.stmt_If (node_at u) (record { condition = y; body = body } ∷ arms) other ∙ both (stmt.If (node_at u)) (pair (arm_here y body (expr_bare a y p) (block_bare c body q)) (arms_bare d arms k)) (else_bare g other l)) refl
  stmt_bare _ _ (b.while u a y c body h p q) = pair (f.stmt_While (node_at u) y body ∙ both (stmt.While (node_at u)) (expr_bare a y p) (block_bare c body q)) refl
  stmt_bare _ _ (b.for a loop p) = pair (f.stmt_For loop ∙ ap stmt.For (for_bare a loop p)) refl
  stmt_bare _ _ (b.par u v a o w c loop h i p j q) = pair (f.stmt_Par (node_at u) o loop ∙ ap (stmt.Par (node_at u) o) (for_bare c loop q)) refl

  arms_bare : (a : List Token) (w : List Arm) → IsArms a w → map bare_arm w ≡ w
  arms_bare _ _ b.no_arm = refl
  arms_bare _ _ (b.arm u a y c body d arms h p q k) = pair (arm_here y body (expr_bare a y p) (block_bare c body q)) (arms_bare d arms k)

  else_bare : (a : List Token) (w : List Stmt) → IsElse a w → map bare_stmt w ≡ w
  else_bare _ _ b.no_else = refl
  else_bare _ _ (b.otherwise u a body h p) = block_bare a body p

  for_bare : (a : List Token) (w : For) → IsFor a w → bare_for w ≡ w
  for_bare _ _ (b.for_each u a ns v c y d body h p i q k) =
      f.for_is (record { node = node_at u; names = ns; iterable = y; body = body })
      ∙ three (λ z v w. record { node = node_at u; names = z; iterable = v; body = w }) (names_bare a ns p) (items_bare c y q) (block_bare d body k)

  block_bare : (a : List Token) (w : List Stmt) → IsBlock a w → map bare_stmt w ≡ w
  block_bare _ _ (b.same_line u a body h p) = line_bare a body p
  block_bare _ _ (b.indented u v w a body z h i j p k) = stmts_bare a body p

  stmts_bare : (a : List Token) (w : List Stmt) → IsStmts a w → map bare_stmt w ≡ w
  stmts_bare _ _ (b.last_stmt a body p) = stmt_bare a body p
  stmts_bare _ _ (b.another_stmt a body c more p q) = joined_bare bare_stmt body more (stmt_bare a body p) (stmts_bare c more q)

-- ---- functions, classes and sources

marked_bare : (mark : List ℕ) (a : List Token) (w : Option Annotation) → IsMarked mark a w → bare_optional bare_annotation w ≡ w
marked_bare mark _ _ m.unmarked = refl
marked_bare mark _ _ (m.marked u a y h p) = ap Some (type_bare a y p)

default_bare : (a : List Token) (w : Option Expr) → IsDefault a w → bare_optional bare_expr w ≡ w
default_bare _ _ m.no_default = refl
default_bare _ _ (m.default u a y h p) = ap Some (expr_bare a y p)

param_bare : (a : List Token) (w : Param) → IsParam a w → bare_param w ≡ w
param_bare _ _ (m.param u n a y c z h p q) = both (λ v w. record { node = node_at u; name = n; annotation = v; default = w }) (marked_bare _ a y p) (default_bare c z q)

params_bare : (a : List Token) (w : List Param) → IsParams a w → map bare_param w ≡ w
params_bare _ _ m.no_params = refl
params_bare _ _ (m.params a ps more p l) = listed_bare bare_param _ IsParam param_bare a (ps, more) p

function_bare : (a : List Token) (w : Function) → IsFunction a w → bare_function w ≡ w
function_bare _ _ (m.function u v n w a ps z c y d body h i j p k q l) =
    four (λ n ps y body. record { node = node_at u; name = n; params = ps; result = y; body = body }) (name_bare v n i) (params_bare a ps p) (marked_bare _ c y q) (block_bare d body l)

member_bare : (a : List Token) (w : Member) → IsMember a w → bare_member w ≡ w
member_bare _ _ (m.field u n v a y w h i p j) = both (member.Field (node_at u)) (name_bare u n h) (type_bare a y p)
member_bare _ _ (m.text u v w h i) = refl
member_bare _ _ (m.pass u w h i) = refl
member_bare _ _ (m.method a g p) = ap member.Method (function_bare a g p)

members_bare : (a : List Token) (w : List Member) → IsMembers a w → map bare_member w ≡ w
members_bare _ _ (m.last a y p) = pair (member_bare a y p) refl
members_bare _ _ (m.another a y c ys p q) = pair (member_bare a y p) (members_bare c ys q)

class_bare : (a : List Token) (w : Class) → IsClass a w → bare_class w ≡ w
class_bare _ _ (m.class u v n w y z a ms g h i j k l p small q) =
    both (λ n ms. record { node = node_at u; name = n; members = ms }) (name_bare v n i) (members_bare a ms p)

stmts_items : (ss : List Stmt) → map bare_stmt ss ≡ ss → map bare_item (map item.Stmt ss) ≡ map item.Stmt ss
stmts_items [] p = refl
stmts_items (y ∷ ss) p =
    let head : bare_stmt y ≡ y = cc in
    let rest : map bare_stmt ss ≡ ss = cc in
    pair (ap item.Stmt head) (stmts_items ss rest)

top_bare : (a : List Token) (w : List Item) → IsTop a w → map bare_item w ≡ w
top_bare _ _ (m.statements a body p) = stmts_items body (stmt_bare a body p)
top_bare _ _ (m.function a g p) = pair (ap item.Function (function_bare a g p)) refl
top_bare _ _ (m.class a c p) = pair (ap item.Class (class_bare a c p)) refl

tops_bare : (a : List Token) (w : List Item) → IsTops a w → map bare_item w ≡ w
tops_bare _ _ m.no_more = refl
tops_bare _ _ (m.another a ys c more p q) = joined_bare bare_item ys more (top_bare a ys p) (tops_bare c more q)

pub derived_bare : (a : List Token) (w : Module) → Derives a w → bare_module w ≡ w
derived_bare _ _ (m.module_of a all u p h) = ap (λ z. record { items = z }) (tops_bare a all p)
