-- The token at the end of a text stands in no expression, type, statement, function and class.
use Rattle.std.proofs.Common.{◌≡◌, ℕ, ℤ, Bool, true, false, ◌||◌, List, [], ◌∷◌, ◌++◌, sym, subst, refl, Option, Some, codes}
use Rattle.indent_lexer.specs.declared.token.Token.{Token}
use Rattle.indent_lexer.specs.declared.token.TokenKind.{TokenKind}
use Rattle.indent_lexer.specs.declared.token.TokenKind.TheVariants as kind
use Rattle.source_trees.specs.declared.expression.Comparison.{Comparison}
use Rattle.source_trees.specs.declared.expression.Expr.{Expr}
use Rattle.source_trees.specs.declared.item.Annotation.{Annotation}
use Rattle.source_trees.specs.declared.item.Class.{Class}
use Rattle.source_trees.specs.declared.item.Function.{Function}
use Rattle.source_trees.specs.declared.item.Item.{Item}
use Rattle.source_trees.specs.declared.item.Member.{Member}
use Rattle.source_trees.specs.declared.item.Param.{Param}
use Rattle.source_trees.specs.declared.node.Name.{Name}
use Rattle.source_trees.specs.declared.operator.Comparator.{Comparator}
use Rattle.source_trees.specs.declared.pipeline.PrintOptions.{PrintOptions}
use Rattle.source_trees.specs.declared.pipeline.Printed.{Printed}
use Rattle.source_trees.specs.declared.pipeline.Stage.{Stage}
use Rattle.source_trees.specs.declared.pipeline.StageForm.{StageForm}
use Rattle.source_trees.specs.declared.statement.Arm.{Arm}
use Rattle.source_trees.specs.declared.statement.For.{For}
use Rattle.source_trees.specs.declared.statement.LoopNames.{LoopNames}
use Rattle.source_trees.specs.declared.statement.ParOptions.{ParOptions}
use Rattle.source_trees.specs.declared.statement.Stmt.{Stmt}
use Rattle.source_trees.specs.declared.statement.Target.{Target}
use Rattle.source_trees.specs.declared.statement.Targets.{Targets}
use Rattle.parse_laws.specs.Language.{Language}
use Rattle.parse_laws.specs.Loops.{Listed, last, trailing, another}
use Rattle.grammar_rules.specs.declared.level.Junction.{Junction}
use Rattle.grammar_rules.specs.declared.level.Junction.TheVariants as junction
use Rattle.grammar_rules.specs.declared.level.Rank.{Rank}
use Rattle.grammar_rules.specs.declared.level.Rank.TheVariants as rank
use Rattle.grammar_rules.specs.Expressions as e
use Rattle.grammar_rules.specs.Expressions.{IsNames, IsTexts, IsComparator, IsExpr, IsJoined, IsMore, IsJoint, IsNot, IsCompared, IsComparisons, IsRanked, IsOperand, IsFactor, IsPostfix, IsOptional, IsArguments, IsRow, IsAtom, IsFilter}
use Rattle.grammar_rules.specs.Modules as m
use Rattle.grammar_rules.specs.Modules.{IsMarked, IsDefault, IsParam, IsParams, IsFunction, IsMember, IsMembers, IsClass, IsTop, IsTops}
use Rattle.grammar_rules.specs.Simple as s
use Rattle.grammar_rules.specs.Simple.{IsItems, IsTarget, IsTargets, IsValues, IsOption, IsOptions, IsPrinted, IsPrint, IsStageArgument, IsStageArguments, IsStageForm, IsStages, IsSimple}
use Rattle.grammar_rules.specs.Statements as b
use Rattle.grammar_rules.specs.Statements.{IsParOption, IsParRow, IsParOptions, IsLine, IsStmt, IsArms, IsElse, IsFor, IsBlock, IsStmts}
use Rattle.grammar_rules.specs.Types as t
use Rattle.grammar_rules.specs.Types.{IsType, IsTypes, is_list_word, is_tuple_word}
use Rattle.grammar_rules.specs.Words.{is_op, is_keyword, is_word, is_comma, is_newline, is_newline_kind, is_indent, is_indent_kind, is_dedent, is_dedent_kind, is_end, is_end_kind, is_spelled, op_in, keyword_in, name_in, number_in, text_in, name_of, number_of, text_of, name_at, named_by, entry_of, look_up}

-- ---- lists without the end

abbrev pub NoEnd : List Token → Type 0
NoEnd [] = Unit {0}
NoEnd (u ∷ us) = (is_end u ≡ false) × NoEnd us

pub no_append : (a c : List Token) → NoEnd a → NoEnd c → NoEnd (a ++ c)
no_append [] c p q = q
no_append (u ∷ a) c p q = (p.0, no_append a c p.1 q)

pub listed_no : {B : Type 0} (is_separator : Token → Bool) → ((u : Token) → is_separator u ≡ true → is_end u ≡ false) → (Part : Language Token B) → ((a : List Token) (y : B) → Part a y → NoEnd a)
    → (a : List Token) (w : List B × Bool) → Listed is_separator Part a w → NoEnd a
listed_no sep apart Part each _ _ (last a y p) = each a y p
listed_no sep apart Part each _ _ (trailing a y u p h) = no_append a (u ∷ []) (each a y p) (apart u h, tt)
listed_no sep apart Part each _ _ (another a y u c ys more p h rest) = no_append a (u ∷ c) (each a y p) (apart u h, listed_no sep apart Part each c (ys, more) rest)

-- ---- tokens

op_in_no : (word : List ℕ) (k : TokenKind) → is_spelled (op_in k) word ≡ true → is_end_kind k ≡ false
op_in_no word kind.End h = absurd (cc)
op_in_no word _ h = refl

op_no : (word : List ℕ) (u : Token) → is_op word u ≡ true → is_end u ≡ false
op_no word u h = op_in_no word u.kind h

keyword_in_no : (word : List ℕ) (k : TokenKind) → is_spelled (keyword_in k) word ≡ true → is_end_kind k ≡ false
keyword_in_no word kind.End h = absurd (cc)
keyword_in_no word _ h = refl

key_no : (word : List ℕ) (u : Token) → is_keyword word u ≡ true → is_end u ≡ false
key_no word u h = keyword_in_no word u.kind h

word_in_no : (word : List ℕ) (k : TokenKind) → is_spelled (name_in k) word ≡ true → is_end_kind k ≡ false
word_in_no word kind.End h = absurd (cc)
word_in_no word _ h = refl

word_no : (word : List ℕ) (u : Token) → is_word word u ≡ true → is_end u ≡ false
word_no word u h = word_in_no word u.kind h

name_in_no : (k : TokenKind) (n : List ℕ) → name_in k ≡ Some n → is_end_kind k ≡ false
name_in_no kind.End n h = absurd (cc)
name_in_no _ n h = refl

name_no : (u : Token) (n : List ℕ) → name_of u ≡ Some n → is_end u ≡ false
name_no u n h = name_in_no u.kind n h

named_in_no : (u : Token) (k : TokenKind) (n : Name) → named_by u (name_in k) ≡ Some n → is_end_kind k ≡ false
named_in_no u kind.End n h = absurd (cc)
named_in_no u _ n h = refl

named_no : (u : Token) (n : Name) → name_at u ≡ Some n → is_end u ≡ false
named_no u n h = named_in_no u u.kind n h

number_in_no : (k : TokenKind) (n : ℤ) → number_in k ≡ Some n → is_end_kind k ≡ false
number_in_no kind.End n h = absurd (cc)
number_in_no _ n h = refl

number_no : (u : Token) (n : ℤ) → number_of u ≡ Some n → is_end u ≡ false
number_no u n h = number_in_no u.kind n h

text_in_no : (k : TokenKind) (n : List ℕ) → text_in k ≡ Some n → is_end_kind k ≡ false
text_in_no kind.End n h = absurd (cc)
text_in_no _ n h = refl

text_no : (u : Token) (n : List ℕ) → text_of u ≡ Some n → is_end u ≡ false
text_no u n h = text_in_no u.kind n h

entry_in_no : {O : Type 0} (k : TokenKind) (table : List (List ℕ × O)) (o : O) → entry_of (op_in k) table ≡ Some o → is_end_kind k ≡ false
entry_in_no kind.End table o h = absurd (cc)
entry_in_no _ table o h = refl

table_no : {O : Type 0} (table : List (List ℕ × O)) (u : Token) (o : O) → look_up table u ≡ Some o → is_end u ≡ false
table_no table u o h = entry_in_no u.kind table o h

word_entry_in_no : {O : Type 0} (k : TokenKind) (table : List (List ℕ × O)) (o : O) → entry_of (text_in k) table ≡ Some o → is_end_kind k ≡ false
word_entry_in_no kind.End table o h = absurd (cc)
word_entry_in_no _ table o h = refl

newline_in_no : (k : TokenKind) → is_newline_kind k ≡ true → is_end_kind k ≡ false
newline_in_no kind.End h = absurd (cc)
newline_in_no _ h = refl

newline_no : (u : Token) → is_newline u ≡ true → is_end u ≡ false
newline_no u h = newline_in_no u.kind h

indent_in_no : (k : TokenKind) → is_indent_kind k ≡ true → is_end_kind k ≡ false
indent_in_no kind.End h = absurd (cc)
indent_in_no _ h = refl

indent_no : (u : Token) → is_indent u ≡ true → is_end u ≡ false
indent_no u h = indent_in_no u.kind h

dedent_in_no : (k : TokenKind) → is_dedent_kind k ≡ true → is_end_kind k ≡ false
dedent_in_no kind.End h = absurd (cc)
dedent_in_no _ h = refl

dedent_no : (u : Token) → is_dedent u ≡ true → is_end u ≡ false
dedent_no u h = dedent_in_no u.kind h

comma_no : (u : Token) → is_comma u ≡ true → is_end u ≡ false
comma_no u h = op_no (codes ",") u h

-- ---- expressions

names_no : (a : List Token) (w : LoopNames) → IsNames a w → NoEnd a
names_no a w k = listed_no is_comma comma_no _ (λ c y p. let P : List Token → Type 0 = λ z. NoEnd z in subst P (sym p.1) (named_no p.0 y p.2, tt)) a k.0 k.1

texts_no : (a : List Token) (w : List ℕ) → IsTexts a w → NoEnd a
texts_no _ _ e.no_more = tt
texts_no _ _ (e.another u v a more h p) = (text_no u v h, texts_no a more p)

comparator_no : (a : List Token) (o : Comparator) → IsComparator a o → NoEnd a
comparator_no _ _ (e.symbol u o h) = (table_no _ u o h, tt)
comparator_no _ _ (e.is_in u h) = (key_no (codes "in") u h, tt)
comparator_no _ _ (e.is_not_in u v h i) = (key_no (codes "not") u h, (key_no (codes "in") v i, tt))

mutual
  pub expr_no : (a : List Token) (x : Expr) → IsExpr a x → NoEnd a
  expr_no _ _ (e.plain a x p) = joined_no junction.Or a x p
  expr_no _ _ (e.conditional a x u c y v d z p h q i r) =
      no_append a (u ∷ (c ++ v ∷ d)) (joined_no junction.Or a x p) (key_no (codes "if") u h, no_append c (v ∷ d) (joined_no junction.Or c y q) (key_no (codes "else") v i, expr_no d z r))

  joined_no : (j : Junction) (a : List Token) (x : Expr) → IsJoined j a x → NoEnd a
  joined_no _ _ _ (e.alone j a x p) = joint_no j a x p
  joined_no _ _ _ (e.several j a x c more p q) = no_append a c (joint_no j a x p) (more_no j c more q)

  more_no : (j : Junction) (a : List Token) (xs : List Expr) → IsMore j a xs → NoEnd a
  more_no _ _ _ (e.last_joint j u a x h p) = (key_no _ u h, joint_no j a x p)
  more_no _ _ _ (e.another_joint j u a x c more h p q) = (key_no _ u h, no_append a c (joint_no j a x p) (more_no j c more q))

  joint_no : (j : Junction) (a : List Token) (x : Expr) → IsJoint j a x → NoEnd a
  joint_no _ _ _ (e.conjunction a x p) = joined_no junction.And a x p
  joint_no _ _ _ (e.negation a x p) = not_no a x p

  not_no : (a : List Token) (x : Expr) → IsNot a x → NoEnd a
  not_no _ _ (e.comparison a x p) = compared_no a x p
  not_no _ _ (e.inverse u a x h p) = (key_no (codes "not") u h, not_no a x p)

  compared_no : (a : List Token) (x : Expr) → IsCompared a x → NoEnd a
  compared_no _ _ (e.uncompared a x p) = ranked_no rank.BitOr a x p
  compared_no _ _ (e.compared a x c more p q) = no_append a c (ranked_no rank.BitOr a x p) (comparisons_no c more q)

  comparisons_no : (a : List Token) (cs : List Comparison) → IsComparisons a cs → NoEnd a
  comparisons_no _ _ (e.last_comparison a o c x p q) = no_append a c (comparator_no a o p) (ranked_no rank.BitOr c x q)
  comparisons_no _ _ (e.another_comparison a o c x d more p q r) = no_append a (c ++ d) (comparator_no a o p) (no_append c d (ranked_no rank.BitOr c x q) (comparisons_no d more r))

  ranked_no : (r : Rank) (a : List Token) (x : Expr) → IsRanked r a x → NoEnd a
  ranked_no _ _ _ (e.single r a x p) = operand_no r a x p
  ranked_no _ _ _ (e.operation r a x u o c y p h q) = no_append a (u ∷ c) (ranked_no r a x p) (table_no _ u o h, operand_no r c y q)

  operand_no : (r : Rank) (a : List Token) (x : Expr) → IsOperand r a x → NoEnd a
  operand_no _ _ _ (e.factor a x p) = factor_no a x p
  operand_no _ _ _ (e.ranked r n a x h p) = ranked_no n a x p

  factor_no : (a : List Token) (x : Expr) → IsFactor a x → NoEnd a
  factor_no _ _ (e.base a x p) = postfix_no a x p
  factor_no _ _ (e.power a x u c y p h q) = no_append a (u ∷ c) (postfix_no a x p) (op_no (codes "**") u h, factor_no c y q)
  factor_no _ _ (e.signed u o a x h p) = (table_no _ u o h, factor_no a x p)

  postfix_no : (a : List Token) (x : Expr) → IsPostfix a x → NoEnd a
  postfix_no _ _ (e.atom a x p) = atom_no a x p
  postfix_no _ _ (e.index a x u c y v p h q i) = no_append a (u ∷ (c ++ v ∷ [])) (postfix_no a x p) (op_no (codes "[") u h, no_append c (v ∷ []) (expr_no c y q) (op_no (codes "]") v i, tt))
  postfix_no _ _ (e.slice a x u c y v d z w p h q i r j) =
      no_append a (u ∷ (c ++ v ∷ (d ++ w ∷ []))) (postfix_no a x p)
      (op_no (codes "[") u h, no_append c (v ∷ (d ++ w ∷ [])) (optional_no c y q) (op_no (codes ":") v i, no_append d (w ∷ []) (optional_no d z r) (op_no (codes "]") w j, tt)))
  postfix_no _ _ (e.field a x u v n p h i) = no_append a (u ∷ v ∷ []) (postfix_no a x p) (op_no (codes ".") u h, (name_no v n i, tt))
  postfix_no _ _ (e.method a x u v n c xs p h i q) = no_append a (u ∷ v ∷ c) (postfix_no a x p) (op_no (codes ".") u h, (name_no v n i, arguments_no c xs q))

  optional_no : (a : List Token) (o : Option Expr) → IsOptional a o → NoEnd a
  optional_no _ _ e.absent = tt
  optional_no _ _ (e.present a x p) = expr_no a x p

  arguments_no : (a : List Token) (xs : List Expr) → IsArguments a xs → NoEnd a
  arguments_no _ _ (e.no_arguments u v h i) = (op_no (codes "(") u h, (op_no (codes ")") v i, tt))
  arguments_no _ _ (e.arguments u a xs more v h p l i) = (op_no (codes "(") u h, no_append a (v ∷ []) (row_no a (xs, more) p) (op_no (codes ")") v i, tt))

  row_no : (a : List Token) (w : List Expr × Bool) → IsRow a w → NoEnd a
  row_no _ _ (e.last a x p) = expr_no a x p
  row_no _ _ (e.trailing a x u p h) = no_append a (u ∷ []) (expr_no a x p) (comma_no u h, tt)
  row_no _ _ (e.another a x u c xs more p h q) = no_append a (u ∷ c) (expr_no a x p) (comma_no u h, row_no c (xs, more) q)

  atom_no : (a : List Token) (x : Expr) → IsAtom a x → NoEnd a
  atom_no _ _ (e.name u n h p) = (name_no u n h, tt)
  atom_no _ _ (e.call u n a xs h p q) = (named_no u n h, arguments_no a xs q)
  atom_no _ _ (e.number u v h) = (number_no u v h, tt)
  atom_no _ _ (e.texts u v a more h p) = (text_no u v h, texts_no a more p)
  atom_no _ _ (e.yes u h) = (key_no (codes "True") u h, tt)
  atom_no _ _ (e.no u h) = (key_no (codes "False") u h, tt)
  atom_no _ _ (e.nothing u h) = (key_no (codes "None") u h, tt)
  atom_no _ _ (e.bracketed u a x v h p i) = (op_no (codes "(") u h, no_append a (v ∷ []) (expr_no a x p) (op_no (codes ")") v i, tt))
  atom_no _ _ (e.tuple u a xs v h p l i) = (op_no (codes "(") u h, no_append a (v ∷ []) (row_no a (xs, true) p) (op_no (codes ")") v i, tt))
  atom_no _ _ (e.empty_list u v h i) = (op_no (codes "[") u h, (op_no (codes "]") v i, tt))
  atom_no _ _ (e.list u a xs more v h p i) = (op_no (codes "[") u h, no_append a (v ∷ []) (row_no a (xs, more) p) (op_no (codes "]") v i, tt))
  atom_no _ _ (e.comprehension u a x f c ns v d y g z w h p i q j r k l) = (
    op_no (codes "[") u h,
    no_append a (f ∷ (c ++ v ∷ (d ++ (g ++ w ∷ [])))) (expr_no a x p) (
      key_no (codes "for") f i,
      no_append c (v ∷ (d ++ (g ++ w ∷ []))) (names_no c ns q)
          (key_no (codes "in") v j, no_append d (g ++ w ∷ []) (joined_no junction.Or d y r) (no_append g (w ∷ []) (filter_no g z k) (op_no (codes "]") w l, tt))),
    ),
  )

  filter_no : (a : List Token) (o : Option Expr) → IsFilter a o → NoEnd a
  filter_no _ _ e.unfiltered = tt
  filter_no _ _ (e.filtered u a x h p) = (key_no (codes "if") u h, joined_no junction.Or a x p)

-- ---- types

or_word_no : (v w : List ℕ) (u : Token) → is_word v u || is_word w u ≡ true → is_end u ≡ false
or_word_no v w u h =
    let go : (x : Bool) → is_word v u ≡ x → x || is_word w u ≡ true → is_end u ≡ false = elim [ true ↦ λ i k. word_no v u i | false ↦ λ i k. word_no w u k ] in
    go (is_word v u) refl h

mutual
  pub type_no : (a : List Token) (x : Annotation) → IsType a x → NoEnd a
  type_no _ _ (t.int u h) = (word_no (codes "int") u h, tt)
  type_no _ _ (t.bool u h) = (word_no (codes "bool") u h, tt)
  type_no _ _ (t.str u h) = (word_no (codes "str") u h, tt)
  type_no _ _ (t.none u h) = (key_no (codes "None") u h, tt)
  type_no _ _ (t.class u n h p) = (name_no u n h, tt)
  type_no _ _ (t.list u v a x w h i p j) = (or_word_no (codes "list") (codes "List") u h, (op_no (codes "[") v i, no_append a (w ∷ []) (type_no a x p) (op_no (codes "]") w j, tt)))
  type_no _ _ (t.tuple u v a xs w h i p l j) = (or_word_no (codes "tuple") (codes "Tuple") u h, (op_no (codes "[") v i, no_append a (w ∷ []) (types_no a xs p) (op_no (codes "]") w j, tt)))

  types_no : (a : List Token) (xs : List Annotation) → IsTypes a xs → NoEnd a
  types_no _ _ (t.last a x p) = type_no a x p
  types_no _ _ (t.another a x u c xs p h q) = no_append a (u ∷ c) (type_no a x p) (comma_no u h, types_no c xs q)

-- ---- simple statements

items_no : (a : List Token) (x : Expr) → IsItems a x → NoEnd a
items_no _ _ (s.item a x p) = row_no a (x ∷ [], false) p
items_no _ _ (s.tuple a x xs p l) = row_no a (x ∷ xs, true) p

target_no : (a : List Token) (x : Target) → IsTarget a x → NoEnd a
target_no _ _ (s.name u n h) = (name_no u n h, tt)
target_no _ _ (s.index a x u c y v p h q i) = no_append a (u ∷ (c ++ v ∷ [])) (postfix_no a x p) (op_no (codes "[") u h, no_append c (v ∷ []) (expr_no c y q) (op_no (codes "]") v i, tt))
target_no _ _ (s.field a x u v n p h i) = no_append a (u ∷ v ∷ []) (postfix_no a x p) (op_no (codes ".") u h, (name_no v n i, tt))

targets_no : (a : List Token) (x : Targets) → IsTargets a x → NoEnd a
targets_no _ _ (s.one a x p) = target_no a x p
targets_no _ _ (s.several a x xs p) = listed_no is_comma comma_no IsTarget target_no a (x ∷ xs, true) p

values_no : (a : List Token) (xs : List Expr) → IsValues a xs → NoEnd a
values_no _ _ (s.last a x p) = expr_no a x p
values_no _ _ (s.another a x u c xs p h q) = no_append a (u ∷ c) (expr_no a x p) (comma_no u h, values_no c xs q)

option_no : (word : List ℕ) (a : List Token) (x : Expr) → IsOption word a x → NoEnd a
option_no word _ _ (s.option u v a x h i p) = (word_no word u h, (op_no (codes "=") v i, expr_no a x p))

options_no : (a : List Token) (o : PrintOptions) → IsOptions a o → NoEnd a
options_no _ _ (s.sep a x p) = option_no _ a x p
options_no _ _ (s.end_text a x p) = option_no _ a x p
options_no _ _ (s.sep_end a x u c y p h q) = no_append a (u ∷ c) (option_no _ a x p) (comma_no u h, option_no _ c y q)
options_no _ _ (s.end_sep a x u c y p h q) = no_append a (u ∷ c) (option_no _ a x p) (comma_no u h, option_no _ c y q)

printed_no : (a : List Token) (p : Printed) → IsPrinted a p → NoEnd a
printed_no _ _ s.nothing = tt
printed_no _ _ (s.values_alone a xs p l) = values_no a xs p
printed_no _ _ (s.options_alone a o p) = options_no a o p
printed_no _ _ (s.both a xs u c o p l h q) = no_append a (u ∷ c) (values_no a xs p) (comma_no u h, options_no c o q)

print_no : (a : List Token) (p : Printed) → IsPrint a p → NoEnd a
print_no _ _ (s.printed u v a p w h i q j) = (word_no (codes "print") u h, (op_no (codes "(") v i, no_append a (w ∷ []) (printed_no a p q) (op_no (codes ")") w j, tt)))

argument_no : (a : List Token) (x : Option Expr) → IsStageArgument a x → NoEnd a
argument_no _ _ (s.value a x p) = expr_no a x p
argument_no _ _ (s.piped u h) = (op_no (codes "...") u h, tt)

stage_arguments_no : (a : List Token) (xs ys : List Expr) → IsStageArguments a xs ys → NoEnd a
stage_arguments_no _ _ _ s.no_arguments = tt
stage_arguments_no _ _ _ (s.unplaced a xs more p l) = listed_no is_comma comma_no IsStageArgument argument_no a _ p
stage_arguments_no _ _ _ (s.placed a xs ys more p l) = listed_no is_comma comma_no IsStageArgument argument_no a _ p

form_no : (a : List Token) (f : StageForm) → IsStageForm a f → NoEnd a
form_no _ _ (s.iter u h) = (word_no (codes "iter") u h, tt)
form_no _ _ (s.name u n h p q) = (name_no u n h, tt)
form_no _ _ (s.call u n v a xs ys w h p i q j) = (name_no u n h, (op_no (codes "(") v i, no_append a (w ∷ []) (stage_arguments_no a xs ys q) (op_no (codes ")") w j, tt)))
form_no _ _ (s.print_alone u h) = (word_no (codes "print") u h, tt)
form_no _ _ (s.print_of a p q) = print_no a p q

stages_no : (a : List Token) (ss : List Stage) → IsStages a ss → NoEnd a
stages_no _ _ (s.last u j v a f h p) = (table_no _ u j h, form_no (v ∷ a) f p)
stages_no _ _ (s.another u j v a f c more h p q) = let k = form_no (v ∷ a) f p in (table_no _ u j h, (k.0, no_append a c k.1 (stages_no c more q)))

simple_no : (a : List Token) (w : Stmt) → IsSimple a w → NoEnd a
simple_no _ _ (s.pass u h) = (key_no (codes "pass") u h, tt)
simple_no _ _ (s.break u h) = (key_no (codes "break") u h, tt)
simple_no _ _ (s.continue u h) = (key_no (codes "continue") u h, tt)
simple_no _ _ (s.return u h) = (key_no (codes "return") u h, tt)
simple_no _ _ (s.return_value u a x h p) = (key_no (codes "return") u h, items_no a x p)
simple_no _ _ (s.yield u a x h p) = (key_no (codes "yield") u h, items_no a x p)
simple_no _ _ (s.raise u v n h i) = (key_no (codes "raise") u h, (named_no v n i, tt))
simple_no _ _ (s.raise_called u v n w x h i j k) = (key_no (codes "raise") u h, (named_no v n i, (op_no (codes "(") w j, (op_no (codes ")") x k, tt))))
simple_no _ _ (s.raise_text u v n w a x y h i j p k) = (key_no (codes "raise") u h, (named_no v n i, (op_no (codes "(") w j, no_append a (y ∷ []) (expr_no a x p) (op_no (codes ")") y k, tt))))
simple_no _ _ (s.assert u a x h p) = (key_no (codes "assert") u h, expr_no a x p)
simple_no _ _ (s.assert_text u a x v c y h p i q) = (key_no (codes "assert") u h, no_append a (v ∷ c) (expr_no a x p) (comma_no v i, expr_no c y q))
simple_no _ _ (s.annotated u n v a x h i p) = (named_no u n h, (op_no (codes ":") v i, type_no a x p))
simple_no _ _ (s.annotated_value u n v a x w c y h i p j q) = (named_no u n h, (op_no (codes ":") v i, no_append a (w ∷ c) (type_no a x p) (op_no (codes "=") w j, items_no c y q)))
simple_no _ _ (s.assign a x u c y p h q) = no_append a (u ∷ c) (targets_no a x p) (op_no (codes "=") u h, items_no c y q)
simple_no _ _ (s.update a x u o c y p h q) = no_append a (u ∷ c) (target_no a x p) (table_no _ u o h, items_no c y q)
simple_no _ _ (s.pipeline a x c ss p q) = no_append a c (expr_no a x p) (stages_no c ss q)
simple_no _ _ (s.print u a p q) = print_no (u ∷ a) p q
simple_no _ _ (s.evaluate a x p) = items_no a x p

-- ---- statements

par_option_no : (o : ParOptions) (a : List Token) (p : ParOptions) → IsParOption o a p → NoEnd a
par_option_no o _ _ (b.num_threads u v w n h i j k l) = (word_no (codes "num_threads") u h, (op_no (codes "=") v j, (number_no w _ k, tt)))
par_option_no o _ _ (b.chunk_size u v w n h i j k l m) = (word_no (codes "chunk_size") u h, (op_no (codes "=") v j, (number_no w _ k, tt)))
par_option_no o _ _ (b.schedule u v w d h i j k) = (word_no (codes "schedule") u h, (op_no (codes "=") v j, (word_entry_in_no w.kind _ d k, tt)))

par_row_no : (o : ParOptions) (a : List Token) (p : ParOptions) → IsParRow o a p → NoEnd a
par_row_no _ _ _ (b.last o a p k) = par_option_no o a p k
par_row_no _ _ _ (b.another o a p u c q k h rest) = no_append a (u ∷ c) (par_option_no o a p k) (comma_no u h, par_row_no p c q rest)

par_options_no : (a : List Token) (o : ParOptions) → IsParOptions a o → NoEnd a
par_options_no _ _ b.absent = tt
par_options_no _ _ (b.written u a o v h p i) = (op_no (codes "(") u h, no_append a (v ∷ []) (par_row_no _ a o p) (op_no (codes ")") v i, tt))

line_no : (a : List Token) (w : List Stmt) → IsLine a w → NoEnd a
line_no a w k =
    let P : List Token → Type 0 = λ z. NoEnd z in
    subst P (sym k.3) (no_append k.0 (k.2 ∷ []) (listed_no (is_op (codes ";")) (op_no (codes ";")) IsSimple simple_no k.0 k.1 k.4) (newline_no k.2 k.5, tt))

mutual
  stmt_no : (a : List Token) (w : List Stmt) → IsStmt a w → NoEnd a
  stmt_no _ _ (b.line a w p) = line_no a w p
  stmt_no _ _ (b.branch u a x c body d arms f other h p q k l) =
      (key_no (codes "if") u h, no_append a (c ++ (d ++ f)) (expr_no a x p) (no_append c (d ++ f) (block_no c body q) (no_append d f (arms_no d arms k) (else_no f other l))))
  stmt_no _ _ (b.while u a x c body h p q) = (key_no (codes "while") u h, no_append a c (expr_no a x p) (block_no c body q))
  stmt_no _ _ (b.for a loop p) = for_no a loop p
  stmt_no _ _ (b.par u v a o w c loop h i p j q) =
      (op_no (codes "@") u h, (word_no (codes "par") v i, no_append a (w ∷ c) (par_options_no a o p) (newline_no w j, for_no c loop q)))

  arms_no : (a : List Token) (w : List Arm) → IsArms a w → NoEnd a
  arms_no _ _ b.no_arm = tt
  arms_no _ _ (b.arm u a x c body d arms h p q k) = (key_no (codes "elif") u h, no_append a (c ++ d) (expr_no a x p) (no_append c d (block_no c body q) (arms_no d arms k)))

  else_no : (a : List Token) (w : List Stmt) → IsElse a w → NoEnd a
  else_no _ _ b.no_else = tt
  else_no _ _ (b.otherwise u a body h p) = (key_no (codes "else") u h, block_no a body p)

  for_no : (a : List Token) (w : For) → IsFor a w → NoEnd a
  for_no _ _ (b.for_each u a ns v c x d body h p i q k) =
      (key_no (codes "for") u h, no_append a (v ∷ (c ++ d)) (names_no a ns p) (key_no (codes "in") v i, no_append c d (items_no c x q) (block_no d body k)))

  pub block_no : (a : List Token) (w : List Stmt) → IsBlock a w → NoEnd a
  block_no _ _ (b.same_line u a body h p) = (op_no (codes ":") u h, line_no a body p)
  block_no _ _ (b.indented u v w a body x h i j p k) =
      (op_no (codes ":") u h, (newline_no v i, (indent_no w j, no_append a (x ∷ []) (stmts_no a body p) (dedent_no x k, tt))))

  stmts_no : (a : List Token) (w : List Stmt) → IsStmts a w → NoEnd a
  stmts_no _ _ (b.last_stmt a body p) = stmt_no a body p
  stmts_no _ _ (b.another_stmt a body c more p q) = no_append a c (stmt_no a body p) (stmts_no c more q)

-- ---- functions, classes and what stands at the top

marked_no : (mark : List ℕ) (a : List Token) (w : Option Annotation) → IsMarked mark a w → NoEnd a
marked_no mark _ _ m.unmarked = tt
marked_no mark _ _ (m.marked u a x h p) = (op_no mark u h, type_no a x p)

default_no : (a : List Token) (w : Option Expr) → IsDefault a w → NoEnd a
default_no _ _ m.no_default = tt
default_no _ _ (m.default u a x h p) = (op_no (codes "=") u h, expr_no a x p)

param_no : (a : List Token) (w : Param) → IsParam a w → NoEnd a
param_no _ _ (m.param u n a x c y h p q) = (name_no u n h, no_append a c (marked_no _ a x p) (default_no c y q))

params_no : (a : List Token) (w : List Param) → IsParams a w → NoEnd a
params_no _ _ m.no_params = tt
params_no _ _ (m.params a ps more p l) = listed_no is_comma comma_no IsParam param_no a (ps, more) p

function_no : (a : List Token) (w : Function) → IsFunction a w → NoEnd a
function_no _ _ (m.function u v n w a ps x c r d body h i j p k q l) = (
  key_no (codes "def") u h,
  (named_no v n i, (op_no (codes "(") w j, no_append a (x ∷ (c ++ d)) (params_no a ps p) (op_no (codes ")") x k, no_append c d (marked_no _ c r q) (block_no d body l)))),
)

member_no : (a : List Token) (w : Member) → IsMember a w → NoEnd a
member_no _ _ (m.field u n v a x w h i p j) = (named_no u n h, (op_no (codes ":") v i, no_append a (w ∷ []) (type_no a x p) (newline_no w j, tt)))
member_no _ _ (m.text u v w h i) = (text_no u v h, (newline_no w i, tt))
member_no _ _ (m.pass u w h i) = (key_no (codes "pass") u h, (newline_no w i, tt))
member_no _ _ (m.method a f p) = function_no a f p

members_no : (a : List Token) (w : List Member) → IsMembers a w → NoEnd a
members_no _ _ (m.last a x p) = member_no a x p
members_no _ _ (m.another a x c xs p q) = no_append a c (member_no a x p) (members_no c xs q)

class_no : (a : List Token) (w : Class) → IsClass a w → NoEnd a
class_no _ _ (m.class u v n w x y a ms z h i j k l p small q) =
    (key_no (codes "class") u h, (named_no v n i, (op_no (codes ":") w j, (newline_no x k, (indent_no y l, no_append a (z ∷ []) (members_no a ms p) (dedent_no z q, tt))))))

top_no : (a : List Token) (w : List Item) → IsTop a w → NoEnd a
top_no _ _ (m.statements a body p) = stmt_no a body p
top_no _ _ (m.function a f p) = function_no a f p
top_no _ _ (m.class a c p) = class_no a c p

pub tops_no : (a : List Token) (w : List Item) → IsTops a w → NoEnd a
tops_no _ _ m.no_more = tt
tops_no _ _ (m.another a xs c more p q) = no_append a c (top_no a xs p) (tops_no c more q)
