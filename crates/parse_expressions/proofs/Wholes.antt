-- The law of whole expressions, and with it that of every form at every height.
use Rattle.std.proofs.Common.{◌≡◌, ℕ, zero, suc, ◌≤◌, nat_le, true, false, List, [], ◌∷◌, ◌++◌, refl, sym, ◌∙◌, ap, subst, codes, inl, inr, arith}
use Rattle.std.proofs.lemmas.List.{append-nil}
use Rattle.std.proofs.lemmas.Bool.{leb-true}
use Rattle.indent_lexer.specs.declared.token.Token.{Token}
use Rattle.source_trees.specs.declared.expression.Expr.{Expr}
use Rattle.source_trees.specs.declared.expression.Expr.TheVariants as e
use Rattle.source_trees.specs.Heights.{height_of_expr}
use Rattle.parse_laws.specs.Parser.{Parser, Stopped, refuse, sees, pure, choose, within, expect, ◌>>=◌}
use Rattle.parse_laws.specs.Language.{Language, Free, Law}
use Rattle.parse_laws.specs.Forms.{Then, Is, Opens, Made, Either}
use Rattle.parse_laws.specs.Limits.{Limited}
use Rattle.parse_laws.proofs.Forms.{begins_at, wider_at}
use Rattle.parse_laws.proofs.Steps.{refuse_law, deep_law}
use Rattle.parse_laws.proofs.Choices.{choose_law}
use Rattle.parse_laws.specs.declared.cause.Cause.TheVariants.{Unexpected, TooDeep}
use Rattle.parse_laws.proofs.Limits.{same_law, optional_law, limit_law, join_law, made_limited, open_limited}
use Rattle.grammar_rules.specs.declared.level.Junction.TheVariants as junction
use Rattle.grammar_rules.specs.Expressions as g
use Rattle.grammar_rules.specs.Expressions.{node_of, IsComparator, IsExpr, IsJoined, IsJoint, IsMore, IsNot, IsCompared, IsComparisons, IsRanked}
use Rattle.parse_expressions.specs.declared.form.Form.{Form}
use Rattle.parse_expressions.specs.declared.form.Form.TheVariants as form
use Rattle.parse_expressions.specs.Forms.{Spells, Low, carried_by, looseness, opening, begins, carries}
use Rattle.parse_expressions.specs.Reading as reading
use Rattle.parse_expressions.specs.Reading.{is_if, is_else, is_in, is_not, in_or_symbol, compares, compare_all, join_all}
use Rattle.parse_expressions.proofs.Tokens.{keyword_kind, carries_looser}
use Rattle.parse_expressions.proofs.Opens.{x_token, x_tree, keyword_token, opens}
use Rattle.parse_expressions.proofs.Least.{least, viable_at}
use Rattle.parse_expressions.proofs.Heights.{height-Conditional}
use Rattle.parse_expressions.proofs.Lows.{positive, x_low, no_room}
use Rattle.parse_expressions.proofs.Rows.{Reads}
use Rattle.parse_expressions.proofs.Operators.{factor_law, rank_law, rank_operand_law}
use Rattle.parse_expressions.proofs.Postfixes.{postfix_law}
use Rattle.parse_expressions.proofs.Conditions.{compared_law}
use Rattle.parse_expressions.proofs.Junctions.{negation_law, and_operand_law, or_operand_law, conjunction_law, disjunction_law}

-- ---- conditional expressions

abbrev conditional_tree : Expr → Expr → Expr → Expr
conditional_tree x c y = e.Conditional (node_of x) x c y

abbrev Other : Expr → Expr → Language Token Expr
Other x c = Opens is_else (λ _. Made IsExpr (conditional_tree x c))

abbrev Condition : Expr → Language Token Expr
Condition x = Opens is_if (λ _. Then (IsJoined junction.Or) (Other x))

abbrev AfterValue : Expr → Language Token Expr
AfterValue x = Either (Condition x) (Is x)

expr_to : (a : List Token) (v : Expr) → IsExpr a v → Then (IsJoined junction.Or) AfterValue a v
expr_to _ _ (g.plain a x p) = record { first = a; second = []; value = x; joined = sym (append-nil a); heads = p; tails = inr (refl, refl) }
expr_to _ _ (g.conditional a x t b c u d y p h q i r) = record {
  first = a;
  second = t ∷ (b ++ u ∷ d);
  value = x;
  joined = refl;
  heads = p;
  tails = inl (t, b ++ u ∷ d, refl, h, record { first = b; second = u ∷ d; value = c; joined = refl; heads = q; tails = (u, d, refl, i, (y, r, refl)) });
}

after_from : (a : List Token) (x : Expr) → IsJoined junction.Or a x → (c : List Token) (v : Expr) → AfterValue x c v → IsExpr (a ++ c) v
after_from a x p c v (inl k) =
    let n = k.4 in
    let o = n.tails in
    let A : List Token → Type 0 = λ z. IsExpr (a ++ z) v in
    let V : Expr → Type 0 = λ z. IsExpr (a ++ k.0 ∷ (n.first ++ o.0 ∷ o.1)) z in
    subst A (sym (k.2 ∙ ap (λ z. k.0 ∷ z) (n.joined ∙ ap (λ z. n.first ++ z) o.2)))
    (subst V (sym o.4.2) (g.conditional a x k.0 n.first n.value o.0 o.1 o.4.0 p k.3 n.heads o.3 o.4.1))
after_from a x p c v (inr k) =
    let A : List Token → Type 0 = λ z. IsExpr z v in
    let V : Expr → Type 0 = λ z. IsExpr a z in
    subst A (sym (ap (λ z. a ++ z) k.0 ∙ append-nil a)) (subst V (sym k.1) (g.plain a x p))

expr_from : (a : List Token) (v : Expr) → Then (IsJoined junction.Or) AfterValue a v → IsExpr a v
expr_from a v k = let A : List Token → Type 0 = λ z. IsExpr z v in subst A (sym k.joined) (after_from k.first k.value k.heads k.second v k.tails)

else_carries : (t : Token) → is_else t ≡ true → carries 11 t ≡ false
else_carries t h = ap (λ z. nat_le (carried_by z) 11) (keyword_kind (codes "else") t h)

if_carries : (t : Token) → is_if t ≡ true → carries 12 t ≡ true
if_carries t h = ap (λ z. nat_le (carried_by z) 12) (keyword_kind (codes "if") t h)

if_no_junction : (t : Token) → is_if t ≡ true → carries 11 t ≡ false
if_no_junction t h = ap (λ z. nat_le (carried_by z) 11) (keyword_kind (codes "if") t h)

module _ (room : ℕ) (sub : Form → Parser Token Expr) (below : Reads room sub) where
  abbrev Within : Expr → Type 0
  Within = Low (suc room)

  conditional_low : (x c y : Expr) → Low room x → Low room c → Low room y → Within (conditional_tree x c y)
  conditional_low x c y f i j = let h = height-Conditional (node_of x) x c y in omega arith

  conditional_parts : (x c y : Expr) → Within (conditional_tree x c y) → Low room x × Low room c × Low room y
  conditional_parts x c y f = let h = height-Conditional (node_of x) x c y in (omega arith, omega arith, omega arith)

  other_least : (x c : Expr) → Other x c (keyword_token (codes "else") ∷ x_token ∷ []) (conditional_tree x c x_tree)
  other_least x c = (keyword_token (codes "else"), x_token ∷ [], refl, refl, (x_tree, least form.Whole, refl))

  condition_least : (x : Expr) → Then (IsJoined junction.Or) (Other x) (x_token ∷ keyword_token (codes "else") ∷ x_token ∷ []) (conditional_tree x x_tree x_tree)
  condition_least x = record {
    first = x_token ∷ [];
    second = keyword_token (codes "else") ∷ x_token ∷ [];
    value = x_tree;
    joined = refl;
    heads = least (form.Joined junction.Or);
    tails = other_least x x_tree;
  }

  other_law : (x c : Expr) → Low room x → Low room c → (ts : List Token) → Law (Other x c) (Limited (Other x c) Within) (carries 12) ts
      ((expect is_else >>= λ _. sub form.Whole >>= λ y. pure (conditional_tree x c y)) ts)
  other_law x c f i ts =
      open_limited is_else (λ _. Made IsExpr (conditional_tree x c)) Within (carries 12)
      (λ t h. (x_token ∷ [], conditional_tree x c x_tree, ((x_tree, least form.Whole, refl), conditional_low x c x_tree f i (x_low room (let p = positive x in omega arith)))))
      ts (λ _. sub form.Whole >>= λ y. pure (conditional_tree x c y))
      (λ t r h j. made_limited IsExpr (carries 12) (conditional_tree x c) (Low room) Within
      (record { grows = λ y k. conditional_low x c y f i k; shrinks = λ y k. (conditional_parts x c y k).2 }) r (sub form.Whole r) (below form.Whole r))

  condition_law : (x : Expr) → Low room x → (ts : List Token) → Law (Condition x) (Limited (Condition x) Within) (carries 12) ts (reading.conditional room sub x ts)
  unfolding reading.conditional
  condition_law x f ts =
      let some : 1 ≤ room = let p = positive x in omega arith in
      open_limited is_if (λ _. Then (IsJoined junction.Or) (Other x)) Within (carries 12)
      (λ t h. (x_token ∷ keyword_token (codes "else") ∷ x_token ∷ [], conditional_tree x x_tree x_tree, (condition_least x, conditional_low x x_tree x_tree f (x_low room some) (x_low room some))))
      ts (λ _. sub (form.Joined junction.Or) >>= λ c. expect is_else >>= λ _. sub form.Whole >>= λ y. pure (conditional_tree x c y))
      (λ t r h j. join_law (IsJoined junction.Or) (carries 11) (Other x) (carries 12) (Low room) Within
      (record {
        apart = λ a c p d w s q free. ap (λ z. sees (carries 11) (z ++ s)) q.2 ∙ else_carries q.0 q.3;
        ends = λ a c p. (keyword_token (codes "else") ∷ x_token ∷ [], conditional_tree x c x_tree, other_least x c);
        ends_within = λ a c p i. (keyword_token (codes "else") ∷ x_token ∷ [], conditional_tree x c x_tree, (other_least x c, conditional_low x c x_tree f i (x_low room some)));
        shrinks = λ a c p d w q i. (conditional_parts x c q.4.0 (subst Within q.4.2 i)).1;
      }) r (sub (form.Joined junction.Or) r) (below (form.Joined junction.Or) r) (λ c. expect is_else >>= λ _. sub form.Whole >>= λ y. pure (conditional_tree x c y))
      (λ used c q p i k. other_law x c f i q))

  condition_parts : (x : Expr) (a : List Token) (v : Expr) → Condition x a v → Within v → Low room x
  condition_parts x a v k f = let o = k.4.tails in (conditional_parts x k.4.value o.4.0 (subst Within o.4.2 f)).0

  after_law : (x : Expr) → Within x → (ts : List Token) → Law (AfterValue x) (Limited (AfterValue x) Within) (carries 12) ts
      (choose is_if (within (nat_le (height_of_expr x) room) (reading.conditional room sub x)) (pure x) ts)
  after_law x f ts =
      optional_law (Condition x) x Within f (carries 12) is_if (λ a w s k. ap (λ z. sees is_if (z ++ s)) k.2 ∙ k.3) if_carries
      (within (nat_le (height_of_expr x) room) (reading.conditional room sub x)) ts
      (λ h. limit_law (Condition x) Within (carries 12) is_if (nat_le (height_of_expr x) room)
      (λ t i. (x_token ∷ keyword_token (codes "else") ∷ x_token ∷ [], conditional_tree x x_tree x_tree, (t, x_token ∷ keyword_token (codes "else") ∷ x_token ∷ [], refl, i, condition_least x)))
      (λ none a v s k j free i. no_room (height_of_expr x) room none (condition_parts x a v k j))
      (reading.conditional room sub x) ts h (λ some. condition_law x (leb-true (height_of_expr x) room some) ts))

  after_apart : (x : Expr) (c : List Token) (w : Expr) (s : List Token) → AfterValue x c w → Free (carries 12) s → Free (carries 11) (c ++ s)
  after_apart x c w s (inl k) free = ap (λ z. sees (carries 11) (z ++ s)) k.2 ∙ if_no_junction k.0 k.3
  after_apart x c w s (inr k) free = ap (λ z. sees (carries 11) (z ++ s)) k.0 ∙ wider_at (carries 11) (carries 12) (carries_looser 11 12 (omega arith)) s free

  after_shrinks : (x : Expr) (c : List Token) (w : Expr) → AfterValue x c w → Within w → Within x
  after_shrinks x c w (inl k) f = let p = condition_parts x c w k f in omega arith
  after_shrinks x c w (inr k) f = subst Within k.1 f

  whole_law : (ts : List Token) → Law IsExpr (Limited IsExpr Within) (carries 12) ts (reading.whole room sub ts)
  unfolding reading.whole
  whole_law ts =
      same_law (Then (IsJoined junction.Or) AfterValue) IsExpr Within (carries 12) expr_from expr_to ts _
      (join_law (IsJoined junction.Or) (carries 11) AfterValue (carries 12) Within Within
      (record {
        apart = λ a x p c w s q free. after_apart x c w s q free;
        ends = λ a x p. ([], x, inr (refl, refl));
        ends_within = λ a x p f. ([], x, (inr (refl, refl), f));
        shrinks = λ a x p c w q f. after_shrinks x c w q f;
      }) ts (reading.disjunction room sub ts) (disjunction_law room sub below ts)
      (λ x. choose is_if (within (nat_le (height_of_expr x) room) (reading.conditional room sub x)) (pure x))
      (λ used x r p f e. after_law x f r))

  form_law : (f : Form) (ts : List Token) → Law (Spells f) (Limited (Spells f) Within) (carries (looseness f)) ts (reading.at_form room sub f ts)
  form_law form.Whole ts = whole_law ts
  form_law (form.Joined junction.Or) ts = disjunction_law room sub below ts
  form_law (form.Joined junction.And) ts = conjunction_law room sub below ts
  form_law (form.Joint junction.Or) ts = or_operand_law room sub below ts
  form_law (form.Joint junction.And) ts = and_operand_law room sub below ts
  form_law form.Negation ts = negation_law room sub below ts
  form_law form.Compared ts = compared_law room sub below ts
  form_law (form.Ranked r) ts = rank_law room sub below r ts
  form_law (form.Operand r) ts = rank_operand_law room sub below r ts
  form_law form.Factor ts = factor_law room sub below ts
  form_law form.Postfix ts = postfix_law room sub below ts

-- ---- every form at every height

no_room_law : (f : Form) (ts : List Token) → Law (Spells f) (Limited (Spells f) (Low 0)) (carries (looseness f)) ts (choose (begins (opening f)) (λ us. Stopped TooDeep us) refuse ts)
no_room_law f ts =
    choose_law (Spells f) (Limited (Spells f) (Low 0)) (carries (looseness f)) (begins (opening f)) ts (Stopped TooDeep ts) (Stopped Unexpected ts)
    (λ h. deep_law (Spells f) (Limited (Spells f) (Low 0)) (carries (looseness f)) (begins (opening f)) true
    (λ a v s k free i. let p = positive v in let q = k.1 in absurd (omega arith)) ts h (begins_at (begins (opening f)) (Spells f) (viable_at f) ts h))
    (λ h. refuse_law (Spells f) (Limited (Spells f) (Low 0)) (carries (looseness f)) (begins (opening f)) false
    (λ a v s k free i. let p = opens f a v k s in absurd (cc)) ts h)

-- The parser of a form is exact within every limit of height.
pub read_law : (room : ℕ) → Reads room (reading.read room)
unfolding reading.read
read_law zero f ts = no_room_law f ts
read_law (suc room) f ts = form_law room (reading.read room) (read_law room) f ts
