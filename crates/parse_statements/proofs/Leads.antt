-- The laws of simple statements, by their first token.
use Rattle.std.proofs.Common.{◌≡◌, ℕ, ◌+◌, ◌-◌, ◌<◌, ◌≤◌, max, nat_le, Bool, true, false, not, cond, ◌||◌, List, [], ◌∷◌, ◌++◌, refl, sym, ◌∙◌, ap, subst, append_assoc, inl, inr, Option, Some, None, codes, arith}
use Rattle.std.specs.Str.{bytes_eq}
use Rattle.std.proofs.lemmas.Bool.{leb-true, le-leb}
use Rattle.indent_lexer.specs.declared.token.Token.{Token}
use Rattle.indent_lexer.specs.declared.token.TokenKind.{TokenKind}
use Rattle.indent_lexer.specs.declared.token.TokenKind.TheVariants as kind
use Rattle.source_trees.specs.declared.expression.Expr.{Expr}
use Rattle.source_trees.specs.declared.node.Name.{Name}
use Rattle.source_trees.specs.declared.operator.BinaryOp.{BinaryOp}
use Rattle.source_trees.specs.declared.pipeline.Joint.{Joint}
use Rattle.source_trees.specs.declared.pipeline.Printed.{Printed}
use Rattle.source_trees.specs.declared.pipeline.Stage.{Stage}
use Rattle.source_trees.specs.declared.statement.Stmt.{Stmt}
use Rattle.source_trees.specs.declared.statement.Stmt.TheVariants as stmt
use Rattle.source_trees.specs.declared.statement.Target.{Target}
use Rattle.source_trees.specs.declared.statement.Target.TheVariants as target
use Rattle.source_trees.specs.declared.statement.Targets.{Targets}
use Rattle.source_trees.specs.declared.statement.Targets.TheVariants as targets
use Rattle.source_trees.specs.Heights.{highest, height_of_expr, height_of_printed, height_of_stmt, over_parts}
use Rattle.source_trees.specs.Parts.{of_optional_expr}
use Rattle.parse_laws.specs.Parser.{and_then, sees, pure, refuse, choose, within, in_table, expect, take_by, class_of, ◌>>=◌, ◌>>◌}
use Rattle.parse_laws.specs.Language.{Language, Free, Viable, Law}
use Rattle.parse_laws.specs.Forms.{Then, Made, Is, Opens, Closes, Picks, Either, never}
use Rattle.parse_laws.specs.Limits.{Limited}
use Rattle.parse_laws.specs.Loops.{done}
use Rattle.parse_laws.proofs.Choices.{choose_law}
use Rattle.parse_laws.proofs.Forms.{wider_at, free_never}
use Rattle.parse_laws.proofs.Limits.{join_law, made_limited, open_limited, close_limited, optional_law, pure_limited, take_limited, either_law, limit_law}
use Rattle.parse_laws.proofs.Steps.{wider_law, refuse_law}
use Rattle.grammar_rules.specs.Expressions as e2
use Rattle.grammar_rules.specs.Expressions.{node_of, IsExpr, IsRow}
use Rattle.grammar_rules.specs.Levels.{updates}
use Rattle.grammar_rules.specs.Simple as g
use Rattle.grammar_rules.specs.Simple.{IsItems, IsPrint, IsPrinted, IsStages, IsSimple, node_of_target, node_of_targets, joints}
use Rattle.grammar_rules.specs.Words.{is_keyword, is_comma, is_spelled, keyword_in, op_in, name_at, look_up, entry, entry_of, node_at}
use Rattle.parse_expressions.specs.Forms.{Low, carried_by, opened_by}
use Rattle.parse_expressions.specs.declared.form.Form.TheVariants as form
use Rattle.parse_expressions.proofs.Heights.{height-Name}
use Rattle.parse_expressions.proofs.Least.{least}
use Rattle.parse_expressions.proofs.Lows.{positive}
use Rattle.parse_expressions.proofs.Opens.{x_token, x_tree, op_token}
use Rattle.parse_expressions.proofs.Tokens.{op_kind, look_up_passes}
use Rattle.parse_statements.specs.Targets.{both, target_of, is_print}
use Rattle.parse_statements.specs.Readers.{Readers, Exact, LowStmt, starts_expr, expr_on}
use Rattle.parse_statements.specs.Items.{items}
use Rattle.parse_statements.specs.Heads.{is_print_word, ends_simple_in, simple_on, one_target, evaluated}
use Rattle.parse_statements.specs.Forms.{AssignTo, UpdateTo}
use Rattle.parse_statements.specs.Prints as print
use Rattle.parse_statements.specs.Prints.{is_bracket_end, printed_on}
use Rattle.parse_statements.specs.Stages.{is_bracket}
use Rattle.parse_statements.specs.Simple as reading
use Rattle.parse_statements.specs.Simple.{Follow, Comma, Equals, Augmented, Piped, Colon, Over, follow_op, follow_in, follow_of, is_goer, print_goes, is_colon, annotation_of, AnnotateAs, TailOf, HeadTail, piped_to, Lead, Pass, Break, Continue, Return, Yield, Raise, Assert, Print, Value, lead_word, lead_in, lead_of, print_tree, PrintCall, FaultText, Message, LeadOf}
use Rattle.parse_statements.proofs.Heads.{least_items, value_law, assign_height, evaluated_height}
use Rattle.parse_statements.proofs.Heights.{stmt_Pass, stmt_Break, stmt_Continue, stmt_Return, stmt_Yield, stmt_Raise, stmt_Assert, stmt_Update, stmt_Annotated, stmt_Pipeline, stmt_Print}
use Rattle.parse_statements.proofs.Marks.{one_word, equals_expr, simple_expr, comma_ends, comma_simple}
use Rattle.parse_statements.proofs.Prints.{LowPrinted, starts_printed, printed_item, item_expr}
use Rattle.parse_statements.proofs.Printed.{printed_law}
use Rattle.parse_statements.proofs.Rows.{row_tail_low, row_end_any}
use Rattle.parse_statements.proofs.States.{Fine}
use Rattle.parse_statements.proofs.Tails.{type_token, type_tree, least_type, printed_low, low_printed, way_first, class_comma, tail_law}
use Rattle.parse_statements.proofs.Targets.{target_height, expr_not_print, name_target, name_print}

-- ---- what a class of first tokens tells

abbrev chain : Bool → Bool → Bool → Bool → Bool → Bool → Bool → Lead
chain a b c d f g h = cond a Pass (cond b Break (cond c Continue (cond d Return (cond f Yield (cond g Raise (cond h Assert Value))))))

is_yield : Lead → Bool
is_yield Yield = true
is_yield _ = false

yield_word : (a b c d f g h : Bool) → is_yield (chain a b c d f g h) ≡ true → f ≡ true
unfolding is_yield
yield_word true b c d f g h q = absurd (cc)
yield_word false true c d f g h q = absurd (cc)
yield_word false false true d f g h q = absurd (cc)
yield_word false false false true f g h q = absurd (cc)
yield_word false false false false true g h q = refl
yield_word false false false false false true h q = absurd (cc)
yield_word false false false false false false true q = absurd (cc)
yield_word false false false false false false false q = absurd (cc)

yield_in : (k : TokenKind) → is_yield (lead_in k) ≡ true → is_spelled (keyword_in k) (codes "yield") ≡ true
unfolding is_yield
yield_in (kind.Keyword w) q = yield_word (bytes_eq w (codes "pass")) (bytes_eq w (codes "break")) (bytes_eq w (codes "continue")) (bytes_eq w (codes "return")) (bytes_eq w (codes "yield")) (bytes_eq w (codes "raise")) (bytes_eq w (codes "assert")) q
yield_in (kind.Name w) q = absurd (let go : (x : Bool) → is_yield (cond x Print Value) ≡ true → ⊥ = elim [ true ↦ λ i. cc | false ↦ λ i. cc ] in go (bytes_eq w (codes "print")) q)
yield_in _ q = absurd (cc)

yield_here : (ts : List Token) → class_of lead_of Value ts ≡ Yield → sees (is_keyword (codes "yield")) ts ≡ true
unfolding is_yield
yield_here [] q = let i : is_yield Value ≡ is_yield Yield = ap is_yield q in absurd (cc)
yield_here (t ∷ ts) q = yield_in t.kind (ap is_yield q)

is_raise : Lead → Bool
is_raise Raise = true
is_raise _ = false

raise_word : (a b c d f g h : Bool) → is_raise (chain a b c d f g h) ≡ true → g ≡ true
unfolding is_raise
raise_word true b c d f g h q = absurd (cc)
raise_word false true c d f g h q = absurd (cc)
raise_word false false true d f g h q = absurd (cc)
raise_word false false false true f g h q = absurd (cc)
raise_word false false false false true g h q = absurd (cc)
raise_word false false false false false true h q = refl
raise_word false false false false false false true q = absurd (cc)
raise_word false false false false false false false q = absurd (cc)

raise_in : (k : TokenKind) → is_raise (lead_in k) ≡ true → is_spelled (keyword_in k) (codes "raise") ≡ true
unfolding is_raise
raise_in (kind.Keyword w) q = raise_word (bytes_eq w (codes "pass")) (bytes_eq w (codes "break")) (bytes_eq w (codes "continue")) (bytes_eq w (codes "return")) (bytes_eq w (codes "yield")) (bytes_eq w (codes "raise")) (bytes_eq w (codes "assert")) q
raise_in (kind.Name w) q = absurd (let go : (x : Bool) → is_raise (cond x Print Value) ≡ true → ⊥ = elim [ true ↦ λ i. cc | false ↦ λ i. cc ] in go (bytes_eq w (codes "print")) q)
raise_in _ q = absurd (cc)

raise_here : (ts : List Token) → class_of lead_of Value ts ≡ Raise → sees (is_keyword (codes "raise")) ts ≡ true
unfolding is_raise
raise_here [] q = let i : is_raise Value ≡ is_raise Raise = ap is_raise q in absurd (cc)
raise_here (t ∷ ts) q = raise_in t.kind (ap is_raise q)

is_assert : Lead → Bool
is_assert Assert = true
is_assert _ = false

assert_word : (a b c d f g h : Bool) → is_assert (chain a b c d f g h) ≡ true → h ≡ true
unfolding is_assert
assert_word true b c d f g h q = absurd (cc)
assert_word false true c d f g h q = absurd (cc)
assert_word false false true d f g h q = absurd (cc)
assert_word false false false true f g h q = absurd (cc)
assert_word false false false false true g h q = absurd (cc)
assert_word false false false false false true h q = absurd (cc)
assert_word false false false false false false true q = refl
assert_word false false false false false false false q = absurd (cc)

assert_in : (k : TokenKind) → is_assert (lead_in k) ≡ true → is_spelled (keyword_in k) (codes "assert") ≡ true
unfolding is_assert
assert_in (kind.Keyword w) q = assert_word (bytes_eq w (codes "pass")) (bytes_eq w (codes "break")) (bytes_eq w (codes "continue")) (bytes_eq w (codes "return")) (bytes_eq w (codes "yield")) (bytes_eq w (codes "raise")) (bytes_eq w (codes "assert")) q
assert_in (kind.Name w) q = absurd (let go : (x : Bool) → is_assert (cond x Print Value) ≡ true → ⊥ = elim [ true ↦ λ i. cc | false ↦ λ i. cc ] in go (bytes_eq w (codes "print")) q)
assert_in _ q = absurd (cc)

assert_here : (ts : List Token) → class_of lead_of Value ts ≡ Assert → sees (is_keyword (codes "assert")) ts ≡ true
unfolding is_assert
assert_here [] q = let i : is_assert Value ≡ is_assert Assert = ap is_assert q in absurd (cc)
assert_here (t ∷ ts) q = assert_in t.kind (ap is_assert q)

-- ---- heights

equals_high : (n : ℕ) (x : Expr) (o : Option Target) → target_of x ≡ o → (a : List Token) (w : Stmt) → AssignTo (one_target o) a w → LowStmt n w → height_of_expr x < n
equals_high n x (Some v) h a w g f =
    let P : Stmt → Type 0 = λ z. LowStmt n z in
    let k : LowStmt n (stmt.Assign (node_of_target v) (targets.One v) g.4.0) = subst P g.4.2 f in
    let l = assign_height (targets.One v) g.4.0 in
    let m = target_height x v h in
    omega arith
equals_high n x None h a w g f = absurd g

update_high : (n : ℕ) (x : Expr) (o : Option Target) → target_of x ≡ o → (a : List Token) (w : Stmt) → UpdateTo o a w → LowStmt n w → height_of_expr x < n
update_high n x (Some v) h a w g f =
    let P : Stmt → Type 0 = λ z. LowStmt n z in
    let k : LowStmt n (stmt.Update (node_of_target v) v g.value g.tails.0) = subst P g.tails.2 f in
    let l = stmt_Update over_parts (node_of_target v) v g.value g.tails.0 in
    let m = target_height x v h in
    omega arith
update_high n x None h a w g f = absurd g

note_high : (n : ℕ) (x : Expr) (o : Option Target) → target_of x ≡ o → (a : List Token) (w : Stmt) → AnnotateAs o a w → LowStmt n w → height_of_expr x < n
note_high n x (Some (target.Name m s)) h a w g f =
    let i = g.4 in
    let P : Stmt → Type 0 = λ z. LowStmt n z in
    let one = target_height x (target.Name m s) h in
    elim i.tails as (λ _. height_of_expr x < n) [
      | inl j ↦ let k : LowStmt n (annotation_of m s i.value (Some j.4.0)) = subst P j.4.2 f in let l = stmt_Annotated over_parts m (record { node = m; spelling = s }) i.value (Some j.4.0) in omega arith
      | inr j ↦ let k : LowStmt n (annotation_of m s i.value None) = subst P j.1 f in let l = stmt_Annotated over_parts m (record { node = m; spelling = s }) i.value None in omega arith
    ]
note_high n x (Some (target.Index m y z)) h a w g f = absurd g
note_high n x (Some (target.Field m y s)) h a w g f = absurd g
note_high n x None h a w g f = absurd g

-- what begins a statement is lower than it
pub way_high : (n : ℕ) (x : Expr) (c : Follow) (a : List Token) (w : Stmt) → TailOf x c a w → LowStmt n w → height_of_expr x < n
way_high n x Comma a w g f = let k = row_tail_low n x a w g f in omega arith
way_high n x Equals a w g f = equals_high n x (target_of x) refl a w g f
way_high n x Augmented a w g f = update_high n x (target_of x) refl a w g f
way_high n x Piped a w g f =
    let P : Stmt → Type 0 = λ z. LowStmt n z in
    let k : LowStmt n (piped_to x g.1.0) = subst P g.1.2 f in
    let l = stmt_Pipeline over_parts (node_of x) x g.1.0 in
    omega arith
way_high n x Colon a w g f = note_high n x (target_of x) refl a w g f
way_high n x Over a w g f =
    let P : Stmt → Type 0 = λ z. LowStmt n z in
    let k : LowStmt n (evaluated x) = subst P g.2 f in
    let l = evaluated_height x in
    omega arith

-- ---- what may follow the name `print`

abbrev chain5 : Bool → Bool → Bool → Bool → Bool → Follow
chain5 a b c d f = cond a Comma (cond b Equals (cond c Colon (cond d Augmented (cond f Piped Over))))

follows_equals : Follow → Bool
follows_equals Equals = true
follows_equals _ = false

follows_equals_word : (a b c d f : Bool) → follows_equals (chain5 a b c d f) ≡ true → b ≡ true
unfolding follows_equals
follows_equals_word true b c d f q = absurd (cc)
follows_equals_word false true c d f q = refl
follows_equals_word false false true d f q = absurd (cc)
follows_equals_word false false false true f q = absurd (cc)
follows_equals_word false false false false true q = absurd (cc)
follows_equals_word false false false false false q = absurd (cc)

follows_equals_in : (k : TokenKind) → follows_equals (follow_in k) ≡ true → is_spelled (op_in k) (codes "=") ≡ true
unfolding follows_equals
follows_equals_in (kind.Op w) q = follows_equals_word (bytes_eq w (codes ",")) (bytes_eq w (codes "=")) (bytes_eq w (codes ":")) (in_table (entry w updates)) (in_table (entry w joints)) q
follows_equals_in _ q = absurd (cc)

follows_equals_here : (t : Token) → follow_of t ≡ Equals → is_spelled (op_in t.kind) (codes "=") ≡ true
unfolding follows_equals
follows_equals_here t q = follows_equals_in t.kind (ap follows_equals q)

follows_colon : Follow → Bool
follows_colon Colon = true
follows_colon _ = false

follows_colon_word : (a b c d f : Bool) → follows_colon (chain5 a b c d f) ≡ true → c ≡ true
unfolding follows_colon
follows_colon_word true b c d f q = absurd (cc)
follows_colon_word false true c d f q = absurd (cc)
follows_colon_word false false true d f q = refl
follows_colon_word false false false true f q = absurd (cc)
follows_colon_word false false false false true q = absurd (cc)
follows_colon_word false false false false false q = absurd (cc)

follows_colon_in : (k : TokenKind) → follows_colon (follow_in k) ≡ true → is_spelled (op_in k) (codes ":") ≡ true
unfolding follows_colon
follows_colon_in (kind.Op w) q = follows_colon_word (bytes_eq w (codes ",")) (bytes_eq w (codes "=")) (bytes_eq w (codes ":")) (in_table (entry w updates)) (in_table (entry w joints)) q
follows_colon_in _ q = absurd (cc)

follows_colon_here : (t : Token) → follow_of t ≡ Colon → is_spelled (op_in t.kind) (codes ":") ≡ true
unfolding follows_colon
follows_colon_here t q = follows_colon_in t.kind (ap follows_colon q)

follows_augmented : Follow → Bool
follows_augmented Augmented = true
follows_augmented _ = false

follows_augmented_word : (a b c d f : Bool) → follows_augmented (chain5 a b c d f) ≡ true → d ≡ true
unfolding follows_augmented
follows_augmented_word true b c d f q = absurd (cc)
follows_augmented_word false true c d f q = absurd (cc)
follows_augmented_word false false true d f q = absurd (cc)
follows_augmented_word false false false true f q = refl
follows_augmented_word false false false false true q = absurd (cc)
follows_augmented_word false false false false false q = absurd (cc)

follows_augmented_in : (k : TokenKind) → follows_augmented (follow_in k) ≡ true → in_table (entry_of (op_in k) updates) ≡ true
unfolding follows_augmented
follows_augmented_in (kind.Op w) q = follows_augmented_word (bytes_eq w (codes ",")) (bytes_eq w (codes "=")) (bytes_eq w (codes ":")) (in_table (entry w updates)) (in_table (entry w joints)) q
follows_augmented_in _ q = absurd (cc)

follows_augmented_here : (t : Token) → follow_of t ≡ Augmented → in_table (entry_of (op_in t.kind) updates) ≡ true
unfolding follows_augmented
follows_augmented_here t q = follows_augmented_in t.kind (ap follows_augmented q)

print_target_is : (u : Token) → target_of (print_tree u) ≡ Some (target.Name (node_at u) (codes "print"))
print_target_is u = name_target (node_at u) (codes "print")

print_fine : (u : Token) → Fine (print_tree u ∷ [])
print_fine u = inr (ap in_table (ap (λ z. both z (Some [])) (print_target_is u)))

in_some : {O : Type 0} (o : Option O) → in_table o ≡ true → (x : O) × (o ≡ Some x)
in_some (Some x) h = (x, refl)
in_some None h = absurd (cc)

goes_viable : (u t : Token) (c : Follow) → follow_of t ≡ c → is_goer c ≡ true → Viable (HeadTail (print_tree u)) (t ∷ [])
goes_viable u t Comma h k =
    let i : is_comma t ≡ true = class_comma (t ∷ []) h in
    let l = row_end_any (print_tree u) (print_tree u ∷ []) (print_fine u) [] (print_tree u) refl in
    (l.0, l.1, (Comma, (t, l.0, refl, i, record { first = []; second = l.0; value = (print_tree u ∷ [], true); joined = refl; heads = done (print_tree u ∷ [], true); tails = l.2 })))
goes_viable u t Equals h k =
    let v = stmt.Assign (node_at u) (targets.One (target.Name (node_at u) (codes "print"))) x_tree in
    let P : Option Target → Type 0 = λ z. AssignTo (one_target z) (t ∷ x_token ∷ []) v in
    (x_token ∷ [], v, (Equals, subst P (sym (print_target_is u)) (t, x_token ∷ [], refl, follows_equals_here t h, (x_tree, least_items, refl))))
goes_viable u t Augmented h k =
    let o = in_some (look_up updates t) (follows_augmented_here t h) in
    let v = stmt.Update (node_at u) (target.Name (node_at u) (codes "print")) o.0 x_tree in
    let P : Option Target → Type 0 = λ z. UpdateTo z (t ∷ x_token ∷ []) v in (
      x_token ∷ [],
      v,
      (Augmented, subst P (sym (print_target_is u)) (record { first = t ∷ []; second = x_token ∷ []; value = o.0; joined = refl; heads = (t, refl, o.1); tails = (x_tree, least_items, refl) })),
    )
goes_viable u t Colon h k =
    let v = annotation_of (node_at u) (codes "print") type_tree None in
    let P : Option Target → Type 0 = λ z. AnnotateAs z (t ∷ type_token ∷ []) v in (
      type_token ∷ [],
      v,
      (
        Colon,
        subst P (sym (print_target_is u))
            (t, type_token ∷ [], refl, follows_colon_here t h, record { first = type_token ∷ []; second = []; value = type_tree; joined = refl; heads = least_type; tails = inr (refl, refl) }),
      ),
    )
goes_viable u t Piped h k = absurd (cc)
goes_viable u t Over h k = absurd (cc)

print_is : (u : Token) → is_print (print_tree u) ≡ true
print_is u = name_print (node_at u)

-- only what a target may be followed by follows `print`
way_goes : (u : Token) (c : Follow) (a : List Token) (w : Stmt) → TailOf (print_tree u) c a w → is_goer c ≡ true
way_goes u Comma a w g = refl
way_goes u Equals a w g = refl
way_goes u Augmented a w g = refl
way_goes u Piped a w g = let k : not (is_print (print_tree u)) ≡ false = ap not (print_is u) in let i = g.0 in absurd (cc)
way_goes u Colon a w g = refl
way_goes u Over a w g = let k : not (is_print (print_tree u)) ≡ false = ap not (print_is u) in let i = g.0 in absurd (cc)

class_goes : (ts : List Token) → is_goer (class_of follow_of Over ts) ≡ true → sees print_goes ts ≡ true
class_goes [] h = absurd (cc)
class_goes (t ∷ ts) h = h

tail_goes : (u : Token) (a : List Token) (w : Stmt) (s : List Token) → HeadTail (print_tree u) a w → Free simple_on s → sees print_goes (a ++ s) ≡ true
tail_goes u a w s g free = class_goes (a ++ s) (ap is_goer (way_first (print_tree u) g.0 a w s g.1 free) ∙ way_goes u g.0 a w g.1)

bracket_stops_in : (k : TokenKind) → is_spelled (op_in k) (codes "(") ≡ true → is_goer (follow_in k) ≡ false
bracket_stops_in (kind.Op w) h = one_word w (codes "(") (λ z. is_goer (follow_op z) ≡ false) h refl
bracket_stops_in _ h = absurd (cc)

goes_no_bracket : (ts : List Token) → sees print_goes ts ≡ true → sees is_bracket ts ≡ false
goes_no_bracket [] h = refl
goes_no_bracket (t ∷ ts) h =
    let go : (x : Bool) → is_bracket t ≡ x → x ≡ false = elim [ true ↦ λ e. let k = bracket_stops_in t.kind e in absurd (cc) | false ↦ λ e. refl ] in
    go (is_bracket t) refl

-- ---- what ends an expression

not_true_is : (x : Bool) → not x ≡ true → x ≡ false
not_true_is true h = absurd (cc)
not_true_is false h = refl

joint_expr : (t : Token) (j : Joint) → look_up joints t ≡ Some j → expr_on t ≡ false
joint_expr t j h = not_true_is (expr_on t) (look_up_passes (λ k. not (nat_le (carried_by k) 12)) joints refl t j h)

update_expr : (t : Token) (o : BinaryOp) → look_up updates t ≡ Some o → expr_on t ≡ false
update_expr t o h = not_true_is (expr_on t) (look_up_passes (λ k. not (nat_le (carried_by k) 12)) updates refl t o h)

stages_apart : (a : List Token) (ss : List Stage) → IsStages a ss → (s : List Token) → Free expr_on (a ++ s)
stages_apart _ _ (g.last t j u a f h p) s = joint_expr t j h
stages_apart _ _ (g.another t j u a f b ss h p rest) s = joint_expr t j h

assign_apart : (o : Option Targets) (a : List Token) (w : Stmt) (s : List Token) → AssignTo o a w → Free expr_on (a ++ s)
assign_apart (Some t) a w s k = ap (λ z. sees expr_on (z ++ s)) k.2 ∙ equals_expr k.0 k.3
assign_apart None a w s k = absurd k

update_apart : (o : Option Target) (a : List Token) (w : Stmt) (s : List Token) → UpdateTo o a w → Free expr_on (a ++ s)
update_apart (Some t) a w s k = ap (λ z. sees expr_on (z ++ s)) (k.joined ∙ ap (λ z. z ++ k.second) k.heads.1) ∙ update_expr k.heads.0 k.value k.heads.2
update_apart None a w s k = absurd k

note_apart : (o : Option Target) (a : List Token) (w : Stmt) (s : List Token) → AnnotateAs o a w → Free expr_on (a ++ s)
note_apart (Some (target.Name m n)) a w s g = ap (λ z. sees expr_on (z ++ s)) g.2 ∙ ap (λ k. nat_le (carried_by k) 12) (op_kind (codes ":") g.0 g.3)
note_apart (Some (target.Index m x y)) a w s g = absurd g
note_apart (Some (target.Field m x n)) a w s g = absurd g
note_apart None a w s g = absurd g

way_apart : (x : Expr) (c : Follow) (a : List Token) (w : Stmt) (s : List Token) → TailOf x c a w → Free simple_on s → Free expr_on (a ++ s)
way_apart x Comma a w s g free = ap (λ z. sees expr_on (z ++ s)) g.2 ∙ comma_ends g.0 g.3
way_apart x Equals a w s g free = assign_apart (one_target (target_of x)) a w s g
way_apart x Augmented a w s g free = update_apart (target_of x) a w s g
way_apart x Piped a w s g free = stages_apart a g.1.0 g.1.1 s
way_apart x Colon a w s g free = note_apart (target_of x) a w s g
way_apart x Over a w s g free = ap (λ z. sees expr_on (z ++ s)) g.1 ∙ wider_at expr_on simple_on simple_expr s free

-- ---- the laws

printed_expr : (t : Token) → printed_on t ≡ false → expr_on t ≡ false
printed_expr t h = item_expr t (printed_item t h)

starts_simple_in : (k : TokenKind) → nat_le (opened_by k) 3 ≡ true → not (ends_simple_in k) ≡ true
starts_simple_in (kind.Op w) h =
    let go : (x : Bool) → bytes_eq w (codes ";") ≡ x → not x ≡ true = elim [
      | true ↦ λ e. let k : nat_le (opened_by (kind.Op w)) 3 ≡ false = one_word w (codes ";") (λ z. nat_le (opened_by (kind.Op z)) 3 ≡ false) e refl in absurd (cc)
      | false ↦ λ e. refl
    ] in
    go (bytes_eq w (codes ";")) refl
starts_simple_in kind.Newline h = absurd (cc)
starts_simple_in _ h = refl

starts_simple : (t : Token) → starts_expr t ≡ true → simple_on t ≡ true
starts_simple t h = starts_simple_in t.kind h

module _ (r : Readers) (exact : Exact r) where
  rows_start : (a : List Token) (w : List Expr × Bool) → IsRow a w → (s : List Token) → sees starts_expr (a ++ s) ≡ true
  rows_start _ _ (e2.last a x p) s = exact.expr_starts a x s p
  rows_start _ _ (e2.trailing a x t p h) s = ap (sees starts_expr) (append_assoc a (t ∷ []) s) ∙ exact.expr_starts a x (t ∷ s) p
  rows_start _ _ (e2.another a x t b xs more p h rest) s = ap (sees starts_expr) (append_assoc a (t ∷ b) s) ∙ exact.expr_starts a x (t ∷ (b ++ s)) p

  items_start : (a : List Token) (x : Expr) (s : List Token) → IsItems a x → sees starts_expr (a ++ s) ≡ true
  items_start _ _ s (g.item a x p) = rows_start a (x ∷ [], false) p s
  items_start _ _ s (g.tuple a x xs p l) = rows_start a (x ∷ xs, true) p s

  word_law : (n : ℕ) (word : List ℕ) (f : Token → Stmt) → ((t : Token) → LowStmt n (f t)) → (ts : List Token)
      → let L : Language Token Stmt = Opens (is_keyword word) (λ t. Is (f t)) in Law L (Limited L (LowStmt n)) simple_on ts (and_then (expect (is_keyword word) ts) (λ t. pure (f t)))
  word_law n word f low ts =
      open_limited (is_keyword word) (λ t. Is (f t)) (LowStmt n) simple_on (λ t h. ([], f t, ((refl, refl), low t))) ts (λ t. pure (f t)) (λ t us h k. pure_limited (f t) (LowStmt n) (low t) simple_on us)

  return_law : (n : ℕ) → 1 ≤ n → (ts : List Token)
      → Law (LeadOf Return) (Limited (LeadOf Return) (LowStmt n)) simple_on ts
      (and_then (expect (is_keyword (codes "return")) ts) (λ t. choose starts_expr (items r (n - 1) >>= λ x. pure (stmt.Return (node_at t) (Some x))) (pure (stmt.Return (node_at t) None))))
  return_law n some ts =
      open_limited (is_keyword (codes "return")) (λ t. Either (Made IsItems (λ x. stmt.Return (node_at t) (Some x))) (Is (stmt.Return (node_at t) None))) (LowStmt n) simple_on
      (λ t h. ([], stmt.Return (node_at t) None, (inr (refl, refl), let k = stmt_Return over_parts (node_at t) None in omega arith))) ts _
      (λ t us h k. optional_law (Made IsItems (λ x. stmt.Return (node_at t) (Some x))) (stmt.Return (node_at t) None) (LowStmt n) (let i = stmt_Return over_parts (node_at t) None in omega arith) simple_on starts_expr
      (λ a w s i. items_start a i.0 s i.1) starts_simple
      (items r (n - 1) >>= λ x. pure (stmt.Return (node_at t) (Some x))) us
      (λ i. made_limited IsItems simple_on (λ x. stmt.Return (node_at t) (Some x)) (Low (n - 1)) (LowStmt n)
      (record { grows = λ x f. let j = stmt_Return over_parts (node_at t) (Some x) in omega arith; shrinks = λ x f. let j = stmt_Return over_parts (node_at t) (Some x) in omega arith })
      us (items r (n - 1) us) (value_law r exact (n - 1) us)))

  yield_law : (n : ℕ) (ts : List Token) → sees (is_keyword (codes "yield")) ts ≡ true
      → Law (LeadOf Yield) (Limited (LeadOf Yield) (LowStmt n)) simple_on ts
      (within (nat_le 2 n) (λ us. and_then (expect (is_keyword (codes "yield")) us) (λ t. items r (n - 1) >>= λ x. pure (stmt.Yield (node_at t) x))) ts)
  yield_law n ts h =
      limit_law (LeadOf Yield) (LowStmt n) simple_on (is_keyword (codes "yield")) (nat_le 2 n)
      (λ t i. (x_token ∷ [], stmt.Yield (node_at t) x_tree, (t, x_token ∷ [], refl, i, (x_tree, least_items, refl))))
      (λ none a v s k f free i.
      let P : Stmt → Type 0 = λ z. LowStmt n z in
      let q : LowStmt n (stmt.Yield (node_at k.0) k.4.0) = subst P k.4.2 f in
      let l = stmt_Yield over_parts (node_at k.0) k.4.0 in
      let m = positive k.4.0 in
      let j = le-leb 2 n (omega arith) in absurd (cc))
      (λ us. and_then (expect (is_keyword (codes "yield")) us) (λ t. items r (n - 1) >>= λ x. pure (stmt.Yield (node_at t) x))) ts h
      (λ two. open_limited (is_keyword (codes "yield")) (λ t. Made IsItems (λ x. stmt.Yield (node_at t) x)) (LowStmt n) simple_on
      (λ t i. (x_token ∷ [], stmt.Yield (node_at t) x_tree, ((x_tree, least_items, refl), let k = stmt_Yield over_parts (node_at t) x_tree in let l = height-Name (node_at x_token) (codes "x") in let m = leb-true 2 n two in omega arith)))
      ts _
      (λ t us i k. made_limited IsItems simple_on (λ x. stmt.Yield (node_at t) x) (Low (n - 1)) (LowStmt n)
      (record { grows = λ x f. let j = stmt_Yield over_parts (node_at t) x in let m = leb-true 2 n two in omega arith; shrinks = λ x f. let j = stmt_Yield over_parts (node_at t) x in omega arith })
      us (items r (n - 1) us) (value_law r exact (n - 1) us)))

  -- ---- `raise`

  raise_height : (t : Token) (m : Name) (x : Option Expr) → height_of_stmt (stmt.Raise (node_at t) m x) ≡ max 1 (highest (of_optional_expr over_parts x)) + 1
  raise_height t m x = stmt_Raise over_parts (node_at t) m x

  abbrev LowText : ℕ → Option Expr → Type 0
  LowText n (Some x) = Low n x
  LowText n None = Unit {0}

  text_up : (n : ℕ) → 2 ≤ n → (t : Token) (m : Name) (x : Option Expr) → LowText (n - 1) x → LowStmt n (stmt.Raise (node_at t) m x)
  text_up n two t m (Some x) f = let k = raise_height t m (Some x) in omega arith
  text_up n two t m None f = let k = raise_height t m None in omega arith

  text_down : (n : ℕ) (t : Token) (m : Name) (x : Option Expr) → LowStmt n (stmt.Raise (node_at t) m x) → LowText (n - 1) x
  text_down n t m (Some x) f = let k = raise_height t m (Some x) in omega arith
  text_down n t m None f = tt

  starts_printed_here : (t : Token) → starts_expr t ≡ true → printed_on t ≡ true
  starts_printed_here t h = starts_printed t h

  text_law : (n : ℕ) → 2 ≤ n → (t : Token) (m : Name) (ts : List Token) → Law (FaultText t m) (Limited (FaultText t m) (LowStmt n)) simple_on ts (reading.fault_text r n t m ts)
  unfolding reading.fault_text
  text_law n two t m ts =
      open_limited is_bracket (λ _. Closes (Either (Made IsExpr Some) (Is None)) is_bracket_end (λ x. stmt.Raise (node_at t) m x)) (LowStmt n) simple_on
      (λ u h. (op_token (codes ")") ∷ [], stmt.Raise (node_at t) m None, (([], None, op_token (codes ")"), refl, inr (refl, refl), refl, refl), text_up n two t m None tt)))
      ts (λ _. choose starts_expr (r.expr (n - 1) >>= λ x. pure (Some x)) (pure None) >>= λ x. expect is_bracket_end >> pure (stmt.Raise (node_at t) m x))
      (λ u us h k. close_limited is_bracket_end (op_token (codes ")")) refl (Either (Made IsExpr Some) (Is None)) printed_on simple_on (λ v i. ap not i)
      (λ x. stmt.Raise (node_at t) m x) (LowText (n - 1)) (LowStmt n) (record { grows = λ x f. text_up n two t m x f; shrinks = λ x f. text_down n t m x f }) us _
      (optional_law (Made IsExpr Some) None (LowText (n - 1)) tt printed_on starts_expr (λ a w s i. exact.expr_starts a i.0 s i.1) starts_printed_here (r.expr (n - 1) >>= λ x. pure (Some x)) us
      (λ i. made_limited IsExpr printed_on Some (Low (n - 1)) (LowText (n - 1)) (record { grows = λ x f. f; shrinks = λ x f. f }) us (r.expr (n - 1) us)
      (wider_law IsExpr (Limited IsExpr (Low (n - 1))) expr_on printed_on printed_expr us (r.expr (n - 1) us) (exact.expr_law (n - 1) us)))))

  bracket_simple : (t : Token) → is_bracket t ≡ true → simple_on t ≡ true
  bracket_simple t h = ap (λ k. not (ends_simple_in k)) (op_kind (codes "(") t h)

  abbrev Fault : Token → Name → Language Token Stmt
  Fault t m = Either (FaultText t m) (Is (stmt.Raise (node_at t) m None))

  fault_law : (n : ℕ) → 2 ≤ n → (t : Token) (m : Name) (ts : List Token)
      → Law (Fault t m) (Limited (Fault t m) (LowStmt n)) simple_on ts (choose is_bracket (reading.fault_text r n t m) (pure (stmt.Raise (node_at t) m None)) ts)
  fault_law n two t m ts =
      optional_law (FaultText t m) (stmt.Raise (node_at t) m None) (LowStmt n) (text_up n two t m None tt) simple_on is_bracket
      (λ a w s i. ap (λ z. sees is_bracket (z ++ s)) i.2 ∙ i.3) bracket_simple (reading.fault_text r n t m) ts (λ h. text_law n two t m ts)

  abbrev Free1 : {A : Type 0} → A → Type 0
  Free1 x = Unit {0}

  named_law : (n : ℕ) → 2 ≤ n → (t : Token) (ts : List Token) → let L : Language Token Stmt = Then (Picks name_at) (Fault t) in Law L (Limited L (LowStmt n)) simple_on ts
      (and_then (take_by name_at ts) (λ m. choose is_bracket (reading.fault_text r n t m) (pure (stmt.Raise (node_at t) m None))))
  named_law n two t ts =
      join_law (Picks name_at) never (Fault t) simple_on Free1 (LowStmt n)
      (record {
        apart = λ a m i c w s h free. free_never (c ++ s);
        ends = λ a m i. ([], stmt.Raise (node_at t) m None, inr (refl, refl));
        ends_within = λ a m i f. ([], stmt.Raise (node_at t) m None, (inr (refl, refl), text_up n two t m None tt));
        shrinks = λ a m i c w h f. tt;
      }) ts (take_by name_at ts) (take_limited name_at Free1 (λ o. tt) never ts) (λ m. choose is_bracket (reading.fault_text r n t m) (pure (stmt.Raise (node_at t) m None)))
      (λ used m us i f e. fault_law n two t m us)

  fault_high : (n : ℕ) (t : Token) (m : Name) (a : List Token) (w : Stmt) → Fault t m a w → LowStmt n w → 2 ≤ n
  fault_high n t m a w (inl i) f =
      let P : Stmt → Type 0 = λ z. LowStmt n z in
      let k : LowStmt n (stmt.Raise (node_at t) m i.4.1) = subst P i.4.6 f in
      let l = raise_height t m i.4.1 in
      omega arith
  fault_high n t m a w (inr i) f =
      let P : Stmt → Type 0 = λ z. LowStmt n z in
      let k : LowStmt n (stmt.Raise (node_at t) m None) = subst P i.1 f in
      let l = raise_height t m None in
      omega arith

  abbrev x_name : Name
  x_name = record { node = node_at x_token; spelling = codes "x" }

  raise_law : (n : ℕ) (ts : List Token) → sees (is_keyword (codes "raise")) ts ≡ true
      → Law (LeadOf Raise) (Limited (LeadOf Raise) (LowStmt n)) simple_on ts
      (within (nat_le 2 n) (λ us. and_then (expect (is_keyword (codes "raise")) us)
      (λ t. take_by name_at >>= λ m. choose is_bracket (reading.fault_text r n t m) (pure (stmt.Raise (node_at t) m None)))) ts)
  raise_law n ts h =
      let some : (t : Token) → Then (Picks name_at) (Fault t) (x_token ∷ []) (stmt.Raise (node_at t) x_name None) =
      λ t. record { first = x_token ∷ []; second = []; value = x_name; joined = refl; heads = (x_token, refl, refl); tails = inr (refl, refl) } in
      limit_law (LeadOf Raise) (LowStmt n) simple_on (is_keyword (codes "raise")) (nat_le 2 n)
      (λ t i. (x_token ∷ [], stmt.Raise (node_at t) x_name None, (t, x_token ∷ [], refl, i, some t)))
      (λ none a v s k f free i. let j = le-leb 2 n (fault_high n k.0 k.4.value k.4.second v k.4.tails f) in absurd (cc))
      (λ us. and_then (expect (is_keyword (codes "raise")) us) (λ t. take_by name_at >>= λ m. choose is_bracket (reading.fault_text r n t m) (pure (stmt.Raise (node_at t) m None)))) ts h
      (λ two. open_limited (is_keyword (codes "raise")) (λ t. Then (Picks name_at) (Fault t)) (LowStmt n) simple_on
      (λ t i. (x_token ∷ [], stmt.Raise (node_at t) x_name None, (some t, text_up n (leb-true 2 n two) t x_name None tt)))
      ts _ (λ t us i k. named_law n (leb-true 2 n two) t us))

  -- ---- `assert`

  assert_height : (t : Token) (x : Expr) (y : Option Expr) → height_of_stmt (stmt.Assert (node_at t) x y) ≡ max (height_of_expr x) (highest (of_optional_expr over_parts y)) + 1
  assert_height t x y = stmt_Assert over_parts (node_at t) x y

  message_law : (n : ℕ) → 2 ≤ n → (t : Token) (x : Expr) → height_of_expr x < n → (ts : List Token) → Law (Message t x) (Limited (Message t x) (LowStmt n)) simple_on ts (reading.message r n t x ts)
  unfolding reading.message
  message_law n two t x l ts =
      optional_law (Opens is_comma (λ _. Made IsExpr (λ y. stmt.Assert (node_at t) x (Some y)))) (stmt.Assert (node_at t) x None) (LowStmt n) (let k = assert_height t x None in omega arith) simple_on is_comma
      (λ a w s i. ap (λ z. sees is_comma (z ++ s)) i.2 ∙ i.3) comma_simple
      (λ us. and_then (expect is_comma us) (λ _. r.expr (n - 1) >>= λ y. pure (stmt.Assert (node_at t) x (Some y)))) ts
      (λ h. open_limited is_comma (λ _. Made IsExpr (λ y. stmt.Assert (node_at t) x (Some y))) (LowStmt n) simple_on
      (λ u i. (x_token ∷ [], stmt.Assert (node_at t) x (Some x_tree), ((x_tree, least form.Whole, refl), let k = assert_height t x (Some x_tree) in let j = height-Name (node_at x_token) (codes "x") in omega arith)))
      ts (λ _. r.expr (n - 1) >>= λ y. pure (stmt.Assert (node_at t) x (Some y)))
      (λ u us i k. made_limited IsExpr simple_on (λ y. stmt.Assert (node_at t) x (Some y)) (Low (n - 1)) (LowStmt n)
      (record { grows = λ y f. let j = assert_height t x (Some y) in omega arith; shrinks = λ y f. let j = assert_height t x (Some y) in omega arith })
      us (r.expr (n - 1) us) (wider_law IsExpr (Limited IsExpr (Low (n - 1))) expr_on simple_on simple_expr us (r.expr (n - 1) us) (exact.expr_law (n - 1) us))))

  message_apart : (t : Token) (x : Expr) (c : List Token) (w : Stmt) (s : List Token) → Message t x c w → Free simple_on s → Free expr_on (c ++ s)
  message_apart t x c w s (inl i) free = ap (λ z. sees expr_on (z ++ s)) i.2 ∙ comma_ends i.0 i.3
  message_apart t x c w s (inr i) free = ap (λ z. sees expr_on (z ++ s)) i.0 ∙ wider_at expr_on simple_on simple_expr s free

  message_high : (n : ℕ) (t : Token) (x : Expr) (c : List Token) (w : Stmt) → Message t x c w → LowStmt n w → height_of_expr x < n
  message_high n t x c w (inl i) f =
      let P : Stmt → Type 0 = λ z. LowStmt n z in
      let k : LowStmt n (stmt.Assert (node_at t) x (Some i.4.0)) = subst P i.4.2 f in
      let l = assert_height t x (Some i.4.0) in
      omega arith
  message_high n t x c w (inr i) f =
      let P : Stmt → Type 0 = λ z. LowStmt n z in
      let k : LowStmt n (stmt.Assert (node_at t) x None) = subst P i.1 f in
      let l = assert_height t x None in
      omega arith

  assert_law : (n : ℕ) (ts : List Token) → sees (is_keyword (codes "assert")) ts ≡ true
      → Law (LeadOf Assert) (Limited (LeadOf Assert) (LowStmt n)) simple_on ts
      (within (nat_le 2 n) (λ us. and_then (expect (is_keyword (codes "assert")) us) (λ t. r.expr (n - 1) >>= reading.message r n t)) ts)
  assert_law n ts h =
      let some : (t : Token) → Then IsExpr (Message t) (x_token ∷ []) (stmt.Assert (node_at t) x_tree None) =
      λ t. record { first = x_token ∷ []; second = []; value = x_tree; joined = refl; heads = least form.Whole; tails = inr (refl, refl) } in
      limit_law (LeadOf Assert) (LowStmt n) simple_on (is_keyword (codes "assert")) (nat_le 2 n)
      (λ t i. (x_token ∷ [], stmt.Assert (node_at t) x_tree None, (t, x_token ∷ [], refl, i, some t)))
      (λ none a v s k f free i. let q = message_high n k.0 k.4.value k.4.second v k.4.tails f in let m = positive k.4.value in let j = le-leb 2 n (omega arith) in absurd (cc))
      (λ us. and_then (expect (is_keyword (codes "assert")) us) (λ t. r.expr (n - 1) >>= reading.message r n t)) ts h
      (λ two. open_limited (is_keyword (codes "assert")) (λ t. Then IsExpr (Message t)) (LowStmt n) simple_on
      (λ t i. (x_token ∷ [], stmt.Assert (node_at t) x_tree None, (some t, let k = assert_height t x_tree None in let j = height-Name (node_at x_token) (codes "x") in let q = leb-true 2 n two in omega arith)))
      ts _
      (λ t us i k. join_law IsExpr expr_on (Message t) simple_on (Low (n - 1)) (LowStmt n)
      (record {
        apart = λ a x p c w s q free. message_apart t x c w s q free;
        ends = λ a x p. ([], stmt.Assert (node_at t) x None, inr (refl, refl));
        ends_within = λ a x p f. ([], stmt.Assert (node_at t) x None, (inr (refl, refl), let j = assert_height t x None in let q = leb-true 2 n two in omega arith));
        shrinks = λ a x p c w q f. let j = message_high n t x c w q f in omega arith;
      }) us (r.expr (n - 1) us) (exact.expr_law (n - 1) us) (reading.message r n t)
      (λ used x vs p f e. message_law n (leb-true 2 n two) t x (let q = leb-true 2 n two in omega arith) vs)))

  -- ---- `print`

  print_height : (t : Token) (p : Printed) → height_of_stmt (stmt.Print (node_at t) p) ≡ height_of_printed p + 1
  print_height t p = stmt_Print over_parts (node_at t) p

  call_law : (n : ℕ) → 1 ≤ n → (t : Token) (ts : List Token) → Law (PrintCall t) (Limited (PrintCall t) (LowStmt n)) simple_on ts (reading.print_call r n t ts)
  unfolding reading.print_call
  call_law n some t ts =
      open_limited is_bracket (λ _. Closes IsPrinted is_bracket_end (λ p. stmt.Print (node_at t) p)) (LowStmt n) simple_on
      (λ u h. (op_token (codes ")") ∷ [], stmt.Print (node_at t) print.nothing, (([], print.nothing, op_token (codes ")"), refl, g.nothing, refl, refl), let k = print_height t print.nothing in omega arith)))
      ts (λ _. print.printed r (n - 1) >>= λ p. expect is_bracket_end >> pure (stmt.Print (node_at t) p))
      (λ u us h k. close_limited is_bracket_end (op_token (codes ")")) refl IsPrinted printed_on simple_on (λ v i. ap not i) (λ p. stmt.Print (node_at t) p) (LowPrinted (n - 1)) (LowStmt n)
      (record {
        grows = λ p f. let i = print_height t p in let j = printed_low (n - 1) p f in omega arith;
        shrinks = λ p f. let i = print_height t p in low_printed (n - 1) p (omega arith);
      }) us (print.printed r (n - 1) us) (printed_law r exact (n - 1) us))

  after_print_law : (n : ℕ) → 1 ≤ n → (t : Token) (ts : List Token)
      → Law (Either (PrintCall t) (HeadTail (print_tree t))) (Limited (Either (PrintCall t) (HeadTail (print_tree t))) (LowStmt n)) simple_on ts (reading.after_print r n t ts)
  unfolding reading.after_print
  after_print_law n some t ts =
      let x = print_tree t in
      let low = height-Name (node_at t) (codes "print") in
      either_law (PrintCall t) (HeadTail x) (LowStmt n) simple_on is_bracket (λ a w s i. ap (λ z. sees is_bracket (z ++ s)) i.2 ∙ i.3)
      (λ a w s i free. goes_no_bracket (a ++ s) (tail_goes t a w s i free)) (reading.print_call r n t) (choose print_goes (within (nat_le 2 n) (reading.tail r n x)) refuse) ts
      (λ h. call_law n some t ts)
      (λ h. choose_law (HeadTail x) (Limited (HeadTail x) (LowStmt n)) simple_on print_goes ts _ _
      (λ i. limit_law (HeadTail x) (LowStmt n) simple_on print_goes (nat_le 2 n) (λ u j. goes_viable t u (follow_of u) refl j)
      (λ none a v s k f free j. let q = way_high n x k.0 a v k.1 f in let m = le-leb 2 n (omega arith) in absurd (cc))
      (reading.tail r n x) ts i (λ two. tail_law r exact n (leb-true 2 n two) x (print_fine t) (let q = leb-true 2 n two in omega arith) ts))
      (λ i. refuse_law (HeadTail x) (Limited (HeadTail x) (LowStmt n)) simple_on print_goes false (λ a v s k free j. let q = tail_goes t a v s k free in absurd (cc)) ts i))

  print_lead_law : (n : ℕ) → 1 ≤ n → (ts : List Token) → Law (LeadOf Print) (Limited (LeadOf Print) (LowStmt n)) simple_on ts (and_then (expect is_print_word ts) (reading.after_print r n))
  print_lead_law n some ts =
      open_limited is_print_word (λ t. Either (PrintCall t) (HeadTail (print_tree t))) (LowStmt n) simple_on
      (λ t h. (
        op_token (codes "(") ∷ op_token (codes ")") ∷ [],
        stmt.Print (node_at t) print.nothing,
        (
          inl (op_token (codes "("), op_token (codes ")") ∷ [], refl, refl, ([], print.nothing, op_token (codes ")"), refl, g.nothing, refl, refl)),
          let k = print_height t print.nothing in omega arith,
        ),
      ))
      ts (reading.after_print r n) (λ t us h k. after_print_law n some t us)

  -- ---- an expression

  value_fine : (a : List Token) (x : Expr) → IsExpr a x → Fine (x ∷ [])
  value_fine a x p = inl (ap (λ z. not (z || false)) (expr_not_print a x p))

  value_lead_law : (n : ℕ) → 1 ≤ n → (ts : List Token) → Law (LeadOf Value) (Limited (LeadOf Value) (LowStmt n)) simple_on ts (and_then (r.expr (n - 1) ts) (reading.tail r n))
  value_lead_law n some ts =
      join_law IsExpr expr_on HeadTail simple_on (Low (n - 1)) (LowStmt n)
      (record {
        apart = λ a x p c w s i free. way_apart x i.0 c w s i.1 free;
        ends = λ a x p. ([], evaluated x, (Over, (ap not (expr_not_print a x p), refl, refl)));
        ends_within = λ a x p f. ([], evaluated x, ((Over, (ap not (expr_not_print a x p), refl, refl)), let k = evaluated_height x in omega arith));
        shrinks = λ a x p c w i f. let k = way_high n x i.0 c w i.1 f in omega arith;
      }) ts (r.expr (n - 1) ts) (exact.expr_law (n - 1) ts) (reading.tail r n)
      (λ used x us p f e. let k = positive x in tail_law r exact n (omega arith) x (value_fine used x p) (omega arith) us)

  pub lead_law : (n : ℕ) → 1 ≤ n → (c : Lead) (ts : List Token) → class_of lead_of Value ts ≡ c → Law (LeadOf c) (Limited (LeadOf c) (LowStmt n)) simple_on ts (reading.lead r n c ts)
  unfolding reading.lead
  lead_law n some Pass ts h = word_law n (codes "pass") (λ t. stmt.Pass (node_at t)) (λ t. let k = stmt_Pass over_parts (node_at t) in omega arith) ts
  lead_law n some Break ts h = word_law n (codes "break") (λ t. stmt.Break (node_at t)) (λ t. let k = stmt_Break over_parts (node_at t) in omega arith) ts
  lead_law n some Continue ts h = word_law n (codes "continue") (λ t. stmt.Continue (node_at t)) (λ t. let k = stmt_Continue over_parts (node_at t) in omega arith) ts
  lead_law n some Return ts h = return_law n some ts
  lead_law n some Yield ts h = yield_law n ts (yield_here ts h)
  lead_law n some Raise ts h = raise_law n ts (raise_here ts h)
  lead_law n some Assert ts h = assert_law n ts (assert_here ts h)
  lead_law n some Print ts h = print_lead_law n some ts
  lead_law n some Value ts h = value_lead_law n some ts
