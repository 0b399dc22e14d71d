-- The laws of what follows an expression or a target at the beginning of a statement.
use Rattle.std.proofs.Common.{◌≡◌, ℕ, ◌+◌, ◌-◌, ◌<◌, ◌≤◌, max, Bool, true, false, not, cond, List, [], ◌∷◌, ◌++◌, map, refl, sym, ◌∙◌, ap, subst, inl, inr, Option, Some, None, codes, arith}
use Rattle.std.specs.Str.{bytes_eq}
use Rattle.indent_lexer.specs.declared.token.Token.{Token}
use Rattle.indent_lexer.specs.declared.token.TokenKind.{TokenKind}
use Rattle.indent_lexer.specs.declared.token.TokenKind.TheVariants as kind
use Rattle.source_trees.specs.declared.expression.Expr.{Expr}
use Rattle.source_trees.specs.declared.item.Annotation.{Annotation}
use Rattle.source_trees.specs.declared.item.Annotation.TheVariants as annotation
use Rattle.source_trees.specs.declared.node.Node.{Node}
use Rattle.source_trees.specs.declared.operator.BinaryOp.{BinaryOp}
use Rattle.source_trees.specs.declared.pipeline.Joint.{Joint}
use Rattle.source_trees.specs.declared.pipeline.PrintOptions.{PrintOptions}
use Rattle.source_trees.specs.declared.pipeline.PrintOptions.TheVariants.{Neither, Sep, End, SepEnd, EndSep}
use Rattle.source_trees.specs.declared.pipeline.Printed.{Printed}
use Rattle.source_trees.specs.declared.pipeline.Stage.{Stage}
use Rattle.source_trees.specs.declared.pipeline.StageForm.{StageForm}
use Rattle.source_trees.specs.declared.pipeline.StageForm.TheVariants as form
use Rattle.source_trees.specs.declared.statement.Stmt.{Stmt}
use Rattle.source_trees.specs.declared.statement.Stmt.TheVariants as stmt
use Rattle.source_trees.specs.declared.statement.Target.{Target}
use Rattle.source_trees.specs.declared.statement.Target.TheVariants as target
use Rattle.source_trees.specs.declared.statement.Targets.{Targets}
use Rattle.source_trees.specs.Heights.{highest, height_of_expr, height_of_annotation, height_of_target, height_of_stage, height_of_printed, height_of_stmt, over_parts}
use Rattle.source_trees.specs.declared.item.Annotation.{Annotation-F, fold-roll-Annotation, fold_out-Annotation}
use Rattle.source_trees.specs.Parts.{of_print_options, of_stage_form, of_annotation, annotation_step, of_optional_expr}
use Rattle.parse_laws.specs.Parser.{Stopped, and_then, sees, pure, in_table, expect, take_by, class_of, ◌>>=◌}
use Rattle.parse_laws.specs.declared.cause.Cause.TheVariants.{Unexpected}
use Rattle.parse_laws.specs.Language.{Language, Free, Law}
use Rattle.parse_laws.specs.Forms.{Then, Made, Opens, Picks, never}
use Rattle.parse_laws.specs.Limits.{Limited, Nothing}
use Rattle.parse_laws.proofs.Forms.{wider_at, free_never}
use Rattle.parse_laws.proofs.Limits.{same_law, join_law, made_limited, open_limited, optional_law, nothing_law, take_limited}
use Rattle.parse_laws.proofs.Lists.{FitEach}
use Rattle.parse_laws.proofs.Sorts.{sort_limited}
use Rattle.grammar_rules.specs.Expressions.{node_of}
use Rattle.grammar_rules.specs.Levels.{updates}
use Rattle.grammar_rules.specs.Simple.{node_of_target, IsItems, IsStages, last, another, joints}
use Rattle.grammar_rules.specs.Types.{IsType}
use Rattle.grammar_rules.specs.Types as types
use Rattle.grammar_rules.specs.Words.{is_comma, look_up, entry, op_in, is_spelled, node_at}
use Rattle.parse_expressions.specs.Forms.{Low}
use Rattle.parse_expressions.proofs.Heights.{height-Name}
use Rattle.parse_expressions.proofs.Lows.{highest_up, highest_down, highest-append}
use Rattle.parse_expressions.proofs.Opens.{sample, x_token, x_tree}
use Rattle.parse_expressions.proofs.Tokens.{op_kind, look_up_passes}
use Rattle.parse_statements.specs.Targets.{target_of, is_print}
use Rattle.parse_statements.specs.Readers.{Readers, Exact, LowStmt, LowType, type_on}
use Rattle.parse_statements.specs.Items.{items}
use Rattle.parse_statements.specs.Heads as heads
use Rattle.parse_statements.specs.Heads.{is_equals, ends_simple_in, simple_on, one_target, evaluated}
use Rattle.parse_statements.specs.Forms.{AssignTo, UpdateTo}
use Rattle.parse_statements.specs.Stages.{stages}
use Rattle.parse_statements.specs.Simple as reading
use Rattle.parse_statements.specs.Simple.{Follow, Comma, Equals, Augmented, Piped, Colon, Over, follow_op, follow_in, follow_of, annotation_of, ValueOf, AnnotateAs, piped_to, PipeTo, TailOf, HeadTail, is_colon}
use Rattle.parse_statements.proofs.Heads.{LowTargets, least_items, value_law, assign_law, evaluate_law}
use Rattle.parse_statements.proofs.Heights.{stmt_Update, stmt_Annotated, stmt_Pipeline}
use Rattle.parse_statements.proofs.Marks.{one_word, not_false, equals_simple}
use Rattle.parse_statements.proofs.Prints.{LowPrinted, LowOptions}
use Rattle.parse_statements.proofs.Rows.{comma_law}
use Rattle.parse_statements.proofs.Stages.{LowForm, LowStage, stages_law}
use Rattle.parse_statements.proofs.States.{Fine}
use Rattle.parse_statements.proofs.Targets.{target_height}

-- ---- heights of what is printed and of stages

options_low : (n : ℕ) (o : PrintOptions) → LowOptions n o → highest (of_print_options over_parts o) ≤ n
options_low n Neither f = omega arith
options_low n (Sep x) f = omega arith
options_low n (End x) f = omega arith
options_low n (SepEnd x y) f = let k = f.0 in let l = f.1 in omega arith
options_low n (EndSep x y) f = let k = f.0 in let l = f.1 in omega arith

low_options : (n : ℕ) (o : PrintOptions) → highest (of_print_options over_parts o) ≤ n → LowOptions n o
low_options n Neither h = tt
low_options n (Sep x) h = omega arith
low_options n (End x) h = omega arith
low_options n (SepEnd x y) h = (omega arith, omega arith)
low_options n (EndSep x y) h = (omega arith, omega arith)

pub printed_low : (n : ℕ) (p : Printed) → LowPrinted n p → height_of_printed p ≤ n
printed_low n p f =
    let k = highest-append (map height_of_expr p.values) (of_print_options over_parts p.options) in
    let l = highest_up n p.values f.0 in
    let m = options_low n p.options f.1 in
    omega arith

pub low_printed : (n : ℕ) (p : Printed) → height_of_printed p ≤ n → LowPrinted n p
low_printed n p h =
    let k = highest-append (map height_of_expr p.values) (of_print_options over_parts p.options) in
    (highest_down n p.values (omega arith), low_options n p.options (omega arith))

form_low : (n : ℕ) (f : StageForm) → LowForm n f → highest (of_stage_form over_parts f) ≤ n
form_low n form.Iter l = omega arith
form_low n (form.Call s before after) l =
    let k = highest-append (map height_of_expr before) (map height_of_expr after) in
    let i = highest_up n before l.0 in
    let j = highest_up n after l.1 in
    omega arith
form_low n (form.Print p) l = printed_low n p l

low_form : (n : ℕ) (f : StageForm) → highest (of_stage_form over_parts f) ≤ n → LowForm n f
low_form n form.Iter h = tt
low_form n (form.Call s before after) h =
    let k = highest-append (map height_of_expr before) (map height_of_expr after) in
    (highest_down n before (omega arith), highest_down n after (omega arith))
low_form n (form.Print p) h = low_printed n p h

stages_low : (n : ℕ) (ss : List Stage) → FitEach (LowStage n) ss → highest (map height_of_stage ss) ≤ n + 1
stages_low n [] f = omega arith
stages_low n (s ∷ ss) f = let k = form_low n s.form f.0 in let l = stages_low n ss f.1 in omega arith

low_stages : (n : ℕ) (ss : List Stage) → highest (map height_of_stage ss) ≤ n + 1 → FitEach (LowStage n) ss
low_stages n [] h = tt
low_stages n (s ∷ ss) h = (low_form n s.form (omega arith), low_stages n ss (omega arith))

-- ---- each way to go on

abbrev pub type_token : Token
type_token = sample (kind.Name (codes "int"))

abbrev pub type_tree : Annotation
type_tree = annotation.Int (node_at type_token)

pub least_type : IsType (type_token ∷ []) type_tree
least_type = types.int type_token refl

int_height : (n : Node) → height_of_annotation (annotation.Int n) ≡ 1
unfolding of_annotation
int_height n = ap height_of_annotation (sym (annotation.rolls-Int n)) ∙ fold-roll-Annotation ℕ (annotation_step over_parts) (Annotation-F.Int n)

pub type_low : (n : ℕ) → 1 ≤ n → LowType n type_tree
type_low n h = let k = int_height (node_at type_token) in omega arith

annotation_positive_in : (f : Annotation-F ℕ) → 1 ≤ annotation_step over_parts f
annotation_positive_in (Annotation-F.Int n) = omega arith
annotation_positive_in (Annotation-F.Bool n) = omega arith
annotation_positive_in (Annotation-F.Str n) = omega arith
annotation_positive_in (Annotation-F.None n) = omega arith
annotation_positive_in (Annotation-F.Class n s) = omega arith
annotation_positive_in (Annotation-F.List n x) = omega arith
annotation_positive_in (Annotation-F.Tuple n xs) = omega arith

pub annotation_positive : (x : Annotation) → 1 ≤ height_of_annotation x
unfolding of_annotation
annotation_positive x =
    let P : ℕ → Type 0 = λ z. 1 ≤ z in
    subst P (sym (fold_out-Annotation ℕ (annotation_step over_parts) x)) (annotation_positive_in _)

-- ---- tokens

equals_type : (t : Token) → is_equals t ≡ true → type_on t ≡ false
equals_type t h = ap (λ k. is_spelled (op_in k) (codes "[")) (op_kind (codes "=") t h)

simple_type_in : (k : TokenKind) → ends_simple_in k ≡ true → is_spelled (op_in k) (codes "[") ≡ false
simple_type_in (kind.Op w) h = one_word w (codes ";") (λ z. bytes_eq z (codes "[") ≡ false) h refl
simple_type_in kind.Newline h = refl
simple_type_in _ h = absurd (cc)

simple_type : (t : Token) → simple_on t ≡ false → type_on t ≡ false
simple_type t h = simple_type_in t.kind (not_false (ends_simple_in t.kind) h)

simple_over_in : (k : TokenKind) → ends_simple_in k ≡ true → follow_in k ≡ Over
simple_over_in (kind.Op w) h = one_word w (codes ";") (λ z. follow_op z ≡ Over) h refl
simple_over_in kind.Newline h = refl
simple_over_in _ h = absurd (cc)

over_here : (s : List Token) → Free simple_on s → class_of follow_of Over s ≡ Over
over_here [] free = refl
over_here (t ∷ s) free = simple_over_in t.kind (not_false (ends_simple_in t.kind) free)

is_augmented : Follow → Bool
is_augmented Augmented = true
is_augmented _ = false

is_piped : Follow → Bool
is_piped Piped = true
is_piped _ = false

augmented_is : (c : Follow) → is_augmented c ≡ true → c ≡ Augmented
unfolding is_augmented
augmented_is Augmented h = refl
augmented_is _ h = absurd (cc)

piped_is : (c : Follow) → is_piped c ≡ true → c ≡ Piped
unfolding is_piped
piped_is Piped h = refl
piped_is _ h = absurd (cc)

update_augmented : (t : Token) (o : BinaryOp) → look_up updates t ≡ Some o → follow_of t ≡ Augmented
unfolding is_augmented
update_augmented t o h =
    augmented_is (follow_of t) (look_up_passes (λ k. is_augmented (follow_in k)) updates refl t o h)

joint_piped : (t : Token) (j : Joint) → look_up joints t ≡ Some j → follow_of t ≡ Piped
unfolding is_piped
joint_piped t j h = piped_is (follow_of t) (look_up_passes (λ k. is_piped (follow_in k)) joints refl t j h)

stages_first : (a : List Token) (ss : List Stage) → IsStages a ss → (s : List Token) → class_of follow_of Over (a ++ s) ≡ Piped
stages_first _ _ (last t j u a f h p) s = joint_piped t j h
stages_first _ _ (another t j u a f b ss h p rest) s = joint_piped t j h

colon_first : (o : Option Target) (a : List Token) (w : Stmt) (s : List Token) → AnnotateAs o a w → class_of follow_of Over (a ++ s) ≡ Colon
colon_first (Some (target.Name m n)) a w s g = ap (λ z. class_of follow_of Over (z ++ s)) g.2 ∙ ap follow_in (op_kind (codes ":") g.0 g.3)
colon_first (Some (target.Index m x y)) a w s g = absurd g
colon_first (Some (target.Field m x n)) a w s g = absurd g
colon_first None a w s g = absurd g

-- what follows is told by its first token
pub way_first : (x : Expr) (c : Follow) (a : List Token) (w : Stmt) (s : List Token) → TailOf x c a w → Free simple_on s → class_of follow_of Over (a ++ s) ≡ c
way_first x Comma a w s g free = ap (λ z. class_of follow_of Over (z ++ s)) g.2 ∙ ap follow_in (op_kind (codes ",") g.0 g.3)
way_first x Equals a w s g free =
    let go : (o : Option Targets) → AssignTo o a w → class_of follow_of Over (a ++ s) ≡ Equals = elim [
      | Some t ↦ λ k. ap (λ z. class_of follow_of Over (z ++ s)) k.2 ∙ ap follow_in (op_kind (codes "=") k.0 k.3)
      | None ↦ λ k. absurd k
    ] in
    go (one_target (target_of x)) g
way_first x Augmented a w s g free =
    let go : (o : Option Target) → UpdateTo o a w → class_of follow_of Over (a ++ s) ≡ Augmented = elim [
      | Some t ↦ λ k. ap (λ z. class_of follow_of Over (z ++ s)) (k.joined ∙ ap (λ z. z ++ k.second) k.heads.1) ∙ update_augmented k.heads.0 k.value k.heads.2
      | None ↦ λ k. absurd k
    ] in
    go (target_of x) g
way_first x Piped a w s g free = stages_first a g.1.0 g.1.1 s
way_first x Colon a w s g free = colon_first (target_of x) a w s g
way_first x Over a w s g free = ap (λ z. class_of follow_of Over (z ++ s)) g.1 ∙ over_here s free

tail_sorted : (x : Expr) (a : List Token) (w : Stmt) (s : List Token) → HeadTail x a w → Free simple_on s → TailOf x (class_of follow_of Over (a ++ s)) a w
tail_sorted x a w s g free = let P : Follow → Type 0 = λ z. TailOf x z a w in subst P (sym (way_first x g.0 a w s g.1 free)) g.1

is_comma_class : Follow → Bool
is_comma_class Comma = true
is_comma_class _ = false

comma_word : (a b c d e : Bool) → is_comma_class (cond a Comma (cond b Equals (cond c Colon (cond d Augmented (cond e Piped Over))))) ≡ true → a ≡ true
unfolding is_comma_class
comma_word true b c d e h = refl
comma_word false true c d e h = absurd (cc)
comma_word false false true d e h = absurd (cc)
comma_word false false false true e h = absurd (cc)
comma_word false false false false true h = absurd (cc)
comma_word false false false false false h = absurd (cc)

class_comma_in : (k : TokenKind) → is_comma_class (follow_in k) ≡ true → is_spelled (op_in k) (codes ",") ≡ true
unfolding is_comma_class
class_comma_in (kind.Op w) h = comma_word (bytes_eq w (codes ",")) (bytes_eq w (codes "=")) (bytes_eq w (codes ":")) (in_table (entry w updates)) (in_table (entry w joints)) h
class_comma_in _ h = absurd (cc)

pub class_comma : (ts : List Token) → class_of follow_of Over ts ≡ Comma → sees is_comma ts ≡ true
unfolding is_comma_class
class_comma [] h = let k : is_comma_class Over ≡ is_comma_class Comma = ap is_comma_class h in absurd (cc)
class_comma (t ∷ ts) h = class_comma_in t.kind (ap is_comma_class h)

module _ (r : Readers) (exact : Exact r) where
  target_low : (n : ℕ) (x : Expr) → height_of_expr x < n → (o : Option Target) → target_of x ≡ o → LowTargets n (one_target o)
  target_low n x l (Some w) h = let k = target_height x w h in omega arith
  target_low n x l None h = tt

  equals_law : (n : ℕ) → 2 ≤ n → (x : Expr) → height_of_expr x < n → (ts : List Token)
      → Law (TailOf x Equals) (Limited (TailOf x Equals) (LowStmt n)) simple_on ts (heads.assign r n (one_target (target_of x)) ts)
  equals_law n two x l ts = assign_law r exact n two (one_target (target_of x)) (target_low n x l (target_of x) refl) ts

  abbrev Any : {A : Type 0} → A → Type 0
  Any x = Unit {0}

  update_height : (w : Target) (o : BinaryOp) (y : Expr) → height_of_stmt (stmt.Update (node_of_target w) w o y) ≡ max (height_of_target w) (max (height_of_expr y) 0) + 1
  update_height w o y = stmt_Update over_parts (node_of_target w) w o y

  update_law : (n : ℕ) → 2 ≤ n → (o : Option Target) → LowTargets n (one_target o) → (ts : List Token) → Law (UpdateTo o) (Limited (UpdateTo o) (LowStmt n)) simple_on ts (heads.update r n o ts)
  unfolding heads.update
  update_law n two None l ts = nothing_law (LowStmt n) simple_on ts
  update_law n two (Some w) l ts =
      join_law (Picks (look_up updates)) never (λ o. Made IsItems (λ y. stmt.Update (node_of_target w) w o y)) simple_on Any (LowStmt n)
      (record {
        apart = λ a o g c v s h free. free_never (c ++ s);
        ends = λ a o g. (x_token ∷ [], stmt.Update (node_of_target w) w o x_tree, (x_tree, least_items, refl));
        ends_within = λ a o g f. (
          x_token ∷ [],
          stmt.Update (node_of_target w) w o x_tree,
          ((x_tree, least_items, refl), let k = update_height w o x_tree in let m = height-Name (node_at x_token) (codes "x") in omega arith),
        );
        shrinks = λ a o g c v h f. tt;
      }) ts (take_by (look_up updates) ts) (take_limited (look_up updates) Any (λ o. tt) never ts) (λ o. items r (n - 1) >>= λ y. pure (stmt.Update (node_of_target w) w o y))
      (λ used o us g f e. made_limited IsItems simple_on (λ y. stmt.Update (node_of_target w) w o y) (Low (n - 1)) (LowStmt n)
      (record { grows = λ y k. let i = update_height w o y in omega arith; shrinks = λ y k. let i = update_height w o y in omega arith })
      us (items r (n - 1) us) (value_law r exact (n - 1) us))

  pipe_height : (x : Expr) (ss : List Stage) → height_of_stmt (piped_to x ss) ≡ max (height_of_expr x) (highest (map height_of_stage ss)) + 1
  pipe_height x ss = stmt_Pipeline over_parts (node_of x) x ss

  pipe_law : (n : ℕ) → 2 ≤ n → (x : Expr) → height_of_expr x < n → (ts : List Token) → Law (PipeTo x) (Limited (PipeTo x) (LowStmt n)) simple_on ts (reading.pipe r n x ts)
  unfolding reading.pipe
  pipe_law n two x l ts =
      let go : (b : Bool) → is_print x ≡ b → Law (PipeTo x) (Limited (PipeTo x) (LowStmt n)) simple_on ts (cond b (Stopped Unexpected) (stages r (n - 2) >>= λ ss. pure (piped_to x ss)) ts) = elim [
        | true ↦ λ h. let L : Language Token Stmt = Nothing in
            same_law L (PipeTo x) (LowStmt n) simple_on (λ a w g. absurd g) (λ a w g. let k : not (is_print x) ≡ false = ap not h in let i = g.0 in absurd (cc)) ts (Stopped Unexpected ts) (nothing_law (LowStmt n) simple_on ts)
        | false ↦ λ h.
            same_law (Made IsStages (piped_to x)) (PipeTo x) (LowStmt n) simple_on (λ a w g. (ap not h, g)) (λ a w g. g.1) ts _
            (made_limited IsStages simple_on (piped_to x) (FitEach (LowStage (n - 2))) (LowStmt n)
            (record {
              grows = λ ss f. let k = pipe_height x ss in let i = stages_low (n - 2) ss f in omega arith;
              shrinks = λ ss f. let k = pipe_height x ss in low_stages (n - 2) ss (omega arith);
            }) ts (stages r (n - 2) ts) (stages_law r exact (n - 2) ts))
      ] in
      go (is_print x) refl

  -- ---- annotations

  note_height : (m : Node) (s : List ℕ) (t : Annotation) (v : Option Expr) → height_of_stmt (annotation_of m s t v) ≡ max 1 (max (height_of_annotation t) (highest (of_optional_expr over_parts v))) + 1
  note_height m s t v = stmt_Annotated over_parts m (record { node = m; spelling = s }) t v

  note_value_law : (n : ℕ) → 2 ≤ n → (m : Node) (s : List ℕ) (t : Annotation) → height_of_annotation t < n → (ts : List Token)
      → Law (ValueOf m s t) (Limited (ValueOf m s t) (LowStmt n)) simple_on ts (reading.annotated_value r n m s t ts)
  unfolding reading.annotated_value
  note_value_law n two m s t l ts =
      optional_law (Opens is_equals (λ _. Made IsItems (λ y. annotation_of m s t (Some y)))) (annotation_of m s t None) (LowStmt n) (let k = note_height m s t None in omega arith) simple_on is_equals
      (λ a w us g. ap (λ z. sees is_equals (z ++ us)) g.2 ∙ g.3) equals_simple (λ us. and_then (expect is_equals us) (λ _. items r (n - 1) >>= λ y. pure (annotation_of m s t (Some y)))) ts
      (λ h. open_limited is_equals (λ _. Made IsItems (λ y. annotation_of m s t (Some y))) (LowStmt n) simple_on
      (λ u i. (x_token ∷ [], annotation_of m s t (Some x_tree), ((x_tree, least_items, refl), let k = note_height m s t (Some x_tree) in let j = height-Name (node_at x_token) (codes "x") in omega arith)))
      ts (λ _. items r (n - 1) >>= λ y. pure (annotation_of m s t (Some y)))
      (λ u us i k. made_limited IsItems simple_on (λ y. annotation_of m s t (Some y)) (Low (n - 1)) (LowStmt n)
      (record { grows = λ y f. let j = note_height m s t (Some y) in omega arith; shrinks = λ y f. let j = note_height m s t (Some y) in omega arith })
      us (items r (n - 1) us) (value_law r exact (n - 1) us)))

  value_apart : (m : Node) (s : List ℕ) (t : Annotation) (c : List Token) (w : Stmt) (us : List Token) → ValueOf m s t c w → Free simple_on us → Free type_on (c ++ us)
  value_apart m s t c w us (inl g) free = ap (λ z. sees type_on (z ++ us)) g.2 ∙ equals_type g.0 g.3
  value_apart m s t c w us (inr g) free = ap (λ z. sees type_on (z ++ us)) g.0 ∙ wider_at type_on simple_on simple_type us free

  value_shrinks : (n : ℕ) (m : Node) (s : List ℕ) (t : Annotation) (c : List Token) (w : Stmt) → ValueOf m s t c w → LowStmt n w → LowType (n - 1) t
  value_shrinks n m s t c w (inl g) f =
      let P : Stmt → Type 0 = λ z. LowStmt n z in
      let k : LowStmt n (annotation_of m s t (Some g.4.0)) = subst P g.4.2 f in
      let l = note_height m s t (Some g.4.0) in
      omega arith
  value_shrinks n m s t c w (inr g) f =
      let P : Stmt → Type 0 = λ z. LowStmt n z in
      let k : LowStmt n (annotation_of m s t None) = subst P g.1 f in
      let l = note_height m s t None in
      omega arith

  note_law : (n : ℕ) → 2 ≤ n → (m : Node) (s : List ℕ) (ts : List Token)
      → let L : Language Token Stmt = Opens is_colon (λ _. Then IsType (ValueOf m s)) in Law L (Limited L (LowStmt n)) simple_on ts (and_then (expect is_colon ts) (λ _. r.annotation (n - 1) >>= reading.annotated_value r n m s))
  note_law n two m s ts =
      open_limited is_colon (λ _. Then IsType (ValueOf m s)) (LowStmt n) simple_on
      (λ u h. (
        type_token ∷ [],
        annotation_of m s type_tree None,
        (
          record { first = type_token ∷ []; second = []; value = type_tree; joined = refl; heads = least_type; tails = inr (refl, refl) },
          let k = note_height m s type_tree None in let j = int_height (node_at type_token) in omega arith,
        ),
      ))
      ts (λ _. r.annotation (n - 1) >>= reading.annotated_value r n m s)
      (λ u us h k. join_law IsType type_on (ValueOf m s) simple_on (LowType (n - 1)) (LowStmt n)
      (record {
        apart = λ a t g c w vs i free. value_apart m s t c w vs i free;
        ends = λ a t g. ([], annotation_of m s t None, inr (refl, refl));
        ends_within = λ a t g f. ([], annotation_of m s t None, (inr (refl, refl), let j = note_height m s t None in omega arith));
        shrinks = λ a t g c w i f. value_shrinks n m s t c w i f;
      }) us (r.annotation (n - 1) us) (exact.annotation_law (n - 1) us) (reading.annotated_value r n m s)
      (λ used t vs g f e. note_value_law n two m s t (omega arith) vs))

  annotate_law : (n : ℕ) → 2 ≤ n → (o : Option Target) (ts : List Token) → Law (AnnotateAs o) (Limited (AnnotateAs o) (LowStmt n)) simple_on ts (reading.annotate r n o ts)
  unfolding reading.annotate
  annotate_law n two (Some (target.Name m s)) ts = note_law n two m s ts
  annotate_law n two (Some (target.Index m x y)) ts = nothing_law (LowStmt n) simple_on ts
  annotate_law n two (Some (target.Field m x s)) ts = nothing_law (LowStmt n) simple_on ts
  annotate_law n two None ts = nothing_law (LowStmt n) simple_on ts

  -- ---- all of them

  way_law : (n : ℕ) → 2 ≤ n → (x : Expr) → Fine (x ∷ []) → height_of_expr x < n → (c : Follow) (ts : List Token) → (c ≡ Comma → sees is_comma ts ≡ true)
      → Law (TailOf x c) (Limited (TailOf x c) (LowStmt n)) simple_on ts (reading.tail_of r n x c ts)
  unfolding reading.tail_of
  way_law n two x fine l Comma ts h = comma_law r exact n x fine ts (h refl)
  way_law n two x fine l Equals ts h = equals_law n two x l ts
  way_law n two x fine l Augmented ts h = update_law n two (target_of x) (target_low n x l (target_of x) refl) ts
  way_law n two x fine l Piped ts h = pipe_law n two x l ts
  way_law n two x fine l Colon ts h = annotate_law n two (target_of x) ts
  way_law n two x fine l Over ts h = evaluate_law r exact n (not (is_print x)) x l ts

  pub tail_law : (n : ℕ) → 2 ≤ n → (x : Expr) → Fine (x ∷ []) → height_of_expr x < n → (ts : List Token) → Law (HeadTail x) (Limited (HeadTail x) (LowStmt n)) simple_on ts (reading.tail r n x ts)
  unfolding reading.tail
  tail_law n two x fine l ts =
      sort_limited follow_of Over (HeadTail x) (TailOf x) (LowStmt n) simple_on (λ c a w g. (c, g)) (tail_sorted x) ts _
      (way_law n two x fine l (class_of follow_of Over ts) ts (class_comma ts))
