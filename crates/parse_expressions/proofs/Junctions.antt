-- The laws of `not`, `and` and `or`.
use Rattle.std.proofs.Common.{◌≡◌, ℕ, suc, ◌≤◌, nat_le, true, false, List, [], ◌∷◌, ◌++◌, refl, sym, ◌∙◌, ap, subst, codes, inl, inr, arith}
use Rattle.std.proofs.lemmas.List.{append-nil}
use Rattle.indent_lexer.specs.declared.token.Token.{Token}
use Rattle.source_trees.specs.declared.expression.Expr.{Expr}
use Rattle.source_trees.specs.declared.expression.Expr.TheVariants as e
use Rattle.parse_laws.specs.Parser.{Parser, sees, pure, within, expect, ◌>>=◌}
use Rattle.parse_laws.specs.Language.{Language, Law}
use Rattle.parse_laws.specs.Forms.{Then, Opens, Made, Either}
use Rattle.parse_laws.specs.Limits.{Limited}
use Rattle.parse_laws.specs.Loops.{Turns, done}
use Rattle.parse_laws.proofs.Limits.{same_law, either_law, limit_law, made_limited, open_limited}
use Rattle.parse_laws.proofs.Repeats.{at_head}
use Rattle.grammar_rules.specs.declared.level.Junction.{Junction}
use Rattle.grammar_rules.specs.declared.level.Junction.TheVariants as junction
use Rattle.grammar_rules.specs.Expressions as g
use Rattle.grammar_rules.specs.Expressions.{node_of, IsComparator, IsExpr, IsJoined, IsJoint, IsMore, IsNot, IsCompared, IsComparisons, IsRanked}
use Rattle.grammar_rules.specs.Levels.{word_of, joined}
use Rattle.grammar_rules.specs.Words.{is_keyword, node_at}
use Rattle.parse_expressions.specs.declared.form.Form.{Form}
use Rattle.parse_expressions.specs.declared.form.Form.TheVariants as form
use Rattle.parse_expressions.specs.Forms.{Low, carried_by, opened_by, looseness, begins, carries}
use Rattle.parse_expressions.specs.Reading as reading
use Rattle.parse_expressions.specs.Reading.{is_if, is_else, is_in, is_not, in_or_symbol, compares, compare_all, join_all}
use Rattle.parse_expressions.proofs.Tokens.{keyword_kind, not_keyword, carries_looser}
use Rattle.parse_expressions.proofs.Opens.{x_token, x_tree, opens}
use Rattle.parse_expressions.proofs.Least.{least}
use Rattle.parse_expressions.proofs.Heights.{height-Or, height-And, height-Not}
use Rattle.parse_expressions.proofs.Lows.{positive, x_low, room_true, no_room, highest_up, highest_down}
use Rattle.parse_expressions.proofs.Rows.{Reads}
use Rattle.parse_expressions.proofs.Conditions.{compared_law}
use Rattle.parse_expressions.proofs.Flat.{More, last, another, Beside, Step, FitBeside, turns_of_more, more_of_turns, flat_law}

-- ---- negations

Negations : Language Token Expr
Negations = Either (Opens is_not (λ t. Made IsNot (λ x. e.Not (node_at t) x))) IsCompared

not_to : (a : List Token) (v : Expr) → IsNot a v → Negations a v
unfolding Negations
not_to _ _ (g.comparison a x p) = inr p
not_to _ _ (g.inverse t a x h p) = inl (t, a, refl, h, (x, p, refl))

not_from : (a : List Token) (v : Expr) → Negations a v → IsNot a v
unfolding Negations
not_from a v (inl k) =
    let A : List Token → Type 0 = λ z. IsNot z v in
    let V : Expr → Type 0 = λ z. IsNot (k.0 ∷ k.1) z in
    subst A (sym k.2) (subst V (sym k.4.2) (g.inverse k.0 k.1 k.4.0 k.3 k.4.1))
not_from a v (inr k) = g.comparison a v k

not_begins_no_factor : (t : Token) → begins 2 t ≡ true → is_not t ≡ false
not_begins_no_factor t h = not_keyword (λ k. nat_le (opened_by k) 2) (codes "not") refl t h

-- ---- chains of a junction

abbrev JointItem : Junction → Language Token Expr
JointItem j = Opens (is_keyword (word_of j)) (λ _. IsJoint j)

more_to : (j : Junction) (a : List Token) (xs : List Expr) → IsMore j a xs → More (JointItem j) a xs
more_to _ _ _ (g.last_joint j t a x h p) = last (t ∷ a) x (t, a, refl, h, p)
more_to _ _ _ (g.another_joint j t a x b xs h p q) = another (t ∷ a) x b xs (t, a, refl, h, p) (more_to j b xs q)

more_from : (j : Junction) (a : List Token) (xs : List Expr) → More (JointItem j) a xs → IsMore j a xs
more_from j _ _ (last a x k) = let A : List Token → Type 0 = λ z. IsMore j z (x ∷ []) in subst A (sym k.2) (g.last_joint j k.0 k.1 x k.3 k.4)
more_from j _ _ (another a x b xs k q) =
    let A : List Token → Type 0 = λ z. IsMore j (z ++ b) (x ∷ xs) in
    subst A (sym k.2) (g.another_joint j k.0 k.1 x b xs k.3 k.4 (more_from j b xs q))

Joined : Junction → Language Token Expr
Joined j = Made (Then (IsJoint j) (λ x. Turns (Step (JointItem j)) (x, []))) (join_all j)

join_more : (j : Junction) (x : Expr) (b : List Token) (xs : List Expr) → IsMore j b xs → joined j (node_of x) (x ∷ xs) ≡ join_all j (x, xs)
join_more _ x _ _ (g.last_joint j t a y h p) = refl
join_more _ x _ _ (g.another_joint j t a y b ys h p q) = refl

joined_to : (j : Junction) (a : List Token) (v : Expr) → IsJoined j a v → Joined j a v
unfolding Joined
joined_to _ _ _ (g.alone j a x p) = ((x, []), record { first = a; second = []; value = x; joined = sym (append-nil a); heads = p; tails = done (x, []) }, refl)
joined_to _ _ _ (g.several j a x b xs p q) =
    ((x, xs), record { first = a; second = b; value = x; joined = refl; heads = p; tails = turns_of_more (JointItem j) x [] b xs (more_to j b xs q) }, join_more j x b xs q)

joined_at : (j : Junction) (a : List Token) (x : Expr) → IsJoint j a x → (c : List Token) (ys : List Expr) → More (JointItem j) c ys → IsJoined j (a ++ c) (join_all j (x, ys))
joined_at j a x p c ys q =
    let r = more_from j c ys q in
    let V : Expr → Type 0 = λ z. IsJoined j (a ++ c) z in
    subst V (join_more j x c ys r) (g.several j a x c ys p r)

joined_from : (j : Junction) (a : List Token) (v : Expr) → Joined j a v → IsJoined j a v
unfolding Joined
joined_from j a v k =
    let n = k.1 in
    let A : List Token → Type 0 = λ z. IsJoined j z v in
    let V : Expr → Type 0 = λ z. IsJoined j (n.first ++ n.second) z in
    subst A (sym n.joined) (subst V (sym k.2) (elim (more_of_turns (JointItem j) (n.value, []) n.second k.0 n.tails) as (λ _. IsJoined j (n.first ++ n.second) (join_all j k.0)) [
      | inl q ↦
          let B : List Token → Type 0 = λ z. IsJoined j z (join_all j k.0) in
          let W : Expr → Type 0 = λ z. IsJoined j n.first z in
          subst B (sym (ap (λ z. n.first ++ z) q.0 ∙ append-nil n.first)) (subst W (sym (ap (join_all j) q.1)) (g.alone j n.first n.value n.heads))
      | inr q ↦ let W : Expr → Type 0 = λ z. IsJoined j (n.first ++ n.second) z in subst W (sym (ap (join_all j) q.2)) (joined_at j n.first n.value n.heads n.second q.0 q.1)
    ]))

-- ---- facts of tokens

joint_loose : Junction → ℕ
joint_loose j = looseness (form.Joint j)

word_own : (j : Junction) (t : Token) → is_keyword (word_of j) t ≡ true → carries (looseness (form.Joined j)) t ≡ true
word_own junction.Or t h = ap (λ z. nat_le (carried_by z) 11) (keyword_kind (codes "or") t h)
word_own junction.And t h = ap (λ z. nat_le (carried_by z) 10) (keyword_kind (codes "and") t h)

word_apart : (j : Junction) (t : Token) → is_keyword (word_of j) t ≡ true → carries (looseness (form.Joint j)) t ≡ false
word_apart junction.Or t h = ap (λ z. nat_le (carried_by z) 10) (keyword_kind (codes "or") t h)
word_apart junction.And t h = ap (λ z. nat_le (carried_by z) 9) (keyword_kind (codes "and") t h)

word_wider : (j : Junction) (t : Token) → carries (looseness (form.Joined j)) t ≡ false → carries (looseness (form.Joint j)) t ≡ false
word_wider junction.Or t h = carries_looser 10 11 (omega arith) t h
word_wider junction.And t h = carries_looser 9 10 (omega arith) t h

module _ (room : ℕ) (sub : Form → Parser Token Expr) (below : Reads room sub) where
  abbrev Within : Expr → Type 0
  Within = Low (suc room)

  inverse_law : (ts : List Token) → sees is_not ts ≡ true
      → Law (Opens is_not (λ t. Made IsNot (λ x. e.Not (node_at t) x))) (Limited (Opens is_not (λ t. Made IsNot (λ x. e.Not (node_at t) x))) Within) (carries 9) ts
      (within (nat_le 1 room) (expect is_not >>= λ t. sub form.Negation >>= λ y. pure (e.Not (node_at t) y)) ts)
  inverse_law ts h =
      limit_law (Opens is_not (λ t. Made IsNot (λ x. e.Not (node_at t) x))) Within (carries 9) is_not (nat_le 1 room)
      (λ t i. (x_token ∷ [], e.Not (node_at t) x_tree, (t, x_token ∷ [], refl, i, (x_tree, least form.Negation, refl))))
      (λ none a v s k f free i. no_room 1 room none (let l = subst Within k.4.2 f in let m = height-Not (node_at k.0) k.4.0 in let p = positive k.4.0 in omega arith))
      (expect is_not >>= λ t. sub form.Negation >>= λ y. pure (e.Not (node_at t) y)) ts h
      (λ some. open_limited is_not (λ t. Made IsNot (λ x. e.Not (node_at t) x)) Within (carries 9)
      (λ t i. (x_token ∷ [], e.Not (node_at t) x_tree, ((x_tree, least form.Negation, refl), let l = x_low room (room_true room some) in let m = height-Not (node_at t) x_tree in omega arith)))
      ts (λ t. sub form.Negation >>= λ y. pure (e.Not (node_at t) y))
      (λ t r i j. made_limited IsNot (carries 9) (λ x. e.Not (node_at t) x) (Low room) Within
      (record { grows = λ x f. let m = height-Not (node_at t) x in omega arith; shrinks = λ x f. let m = height-Not (node_at t) x in omega arith }) r (sub form.Negation r) (below form.Negation r)))

  pub negation_law : (ts : List Token) → Law IsNot (Limited IsNot Within) (carries 9) ts (reading.negation room sub ts)
  unfolding reading.negation Negations
  negation_law ts =
      same_law Negations IsNot Within (carries 9) not_from not_to ts _
      (either_law (Opens is_not (λ t. Made IsNot (λ x. e.Not (node_at t) x))) IsCompared Within (carries 9) is_not
      (λ a v s k. ap (λ z. sees is_not (z ++ s)) k.2 ∙ k.3)
      (λ a v s k free. at_head (begins 2) is_not false not_begins_no_factor (a ++ s) (opens form.Compared a v k s))
      (within (nat_le 1 room) (expect is_not >>= λ t. sub form.Negation >>= λ y. pure (e.Not (node_at t) y))) (reading.compared room sub) ts
      (λ h. inverse_law ts h) (λ h. compared_law room sub below ts))

  -- ---- the law of a junction

  item_law : (j : Junction) → 1 ≤ room → (ts : List Token) → Law (JointItem j) (Limited (JointItem j) (Low room)) (carries (looseness (form.Joint j))) ts (reading.joint_after room sub j ts)
  unfolding reading.joint_after
  item_law j some ts =
      open_limited (is_keyword (word_of j)) (λ _. IsJoint j) (Low room) (carries (looseness (form.Joint j)))
      (λ t i. (x_token ∷ [], x_tree, (least (form.Joint j), x_low room some)))
      ts (λ _. sub (form.Joint j)) (λ t r i k. below (form.Joint j) r)

  joined_low : (j : Junction) (v : Beside (JointItem j)) → FitBeside (JointItem j) room sub (Low room) v → Within (join_all j v)
  joined_low j (x, []) f = f
  joined_low junction.Or (x, y ∷ ys) f = let h = height-Or (node_of x) (x ∷ y ∷ ys) in let k = highest_up room (x ∷ y ∷ ys) f in omega arith
  joined_low junction.And (x, y ∷ ys) f = let h = height-And (node_of x) (x ∷ y ∷ ys) in let k = highest_up room (x ∷ y ∷ ys) f in omega arith

  joined_parts : (j : Junction) (v : Beside (JointItem j)) → Within (join_all j v) → FitBeside (JointItem j) room sub (Low room) v
  joined_parts j (x, []) f = f
  joined_parts junction.Or (x, y ∷ ys) f = let h = height-Or (node_of x) (x ∷ y ∷ ys) in highest_down room (x ∷ y ∷ ys) (omega arith)
  joined_parts junction.And (x, y ∷ ys) f = let h = height-And (node_of x) (x ∷ y ∷ ys) in highest_down room (x ∷ y ∷ ys) (omega arith)

  junction_law : (j : Junction) (p : Parser Token Expr) → ((ts : List Token) → Law (IsJoint j) (Limited (IsJoint j) Within) (carries (looseness (form.Joint j))) ts (p ts))
      → (ts : List Token) → Law (IsJoined j) (Limited (IsJoined j) Within) (carries (looseness (form.Joined j))) ts
      ((p >>= reading.several room sub (is_keyword (word_of j)) (reading.joint_after room sub j) >>= λ v. pure (join_all j v)) ts)
  unfolding Joined
  junction_law j p law ts =
      same_law (Joined j) (IsJoined j) Within (carries (looseness (form.Joined j))) (joined_from j) (joined_to j) ts _
      (flat_law (JointItem j) room sub (Low room) (is_keyword (word_of j)) (carries (looseness (form.Joint j))) (carries (looseness (form.Joined j))) (reading.joint_after room sub j)
      (λ a y s k. ap (λ z. sees (is_keyword (word_of j)) (z ++ s)) k.2 ∙ k.3)
      (λ t i. (x_token ∷ [], x_tree, (t, x_token ∷ [], refl, i, least (form.Joint j))))
      (word_own j) (word_wider j) (word_apart j) (λ some us h. item_law j some us)
      (IsJoint j) p law (join_all j) (record { grows = joined_low j; shrinks = joined_parts j }) ts)

  and_operand : (a : List Token) (x : Expr) → IsJoint junction.And a x → IsNot a x
  and_operand _ _ (g.negation a x p) = p

  or_operand : (a : List Token) (x : Expr) → IsJoint junction.Or a x → IsJoined junction.And a x
  or_operand _ _ (g.conjunction a x p) = p

  pub and_operand_law : (ts : List Token) → Law (IsJoint junction.And) (Limited (IsJoint junction.And) Within) (carries 9) ts (reading.negation room sub ts)
  and_operand_law ts = same_law IsNot (IsJoint junction.And) Within (carries 9) (λ a x p. g.negation a x p) and_operand ts _ (negation_law ts)

  pub conjunction_law : (ts : List Token) → Law (IsJoined junction.And) (Limited (IsJoined junction.And) Within) (carries 10) ts (reading.conjunction room sub ts)
  unfolding reading.conjunction
  conjunction_law ts = junction_law junction.And (reading.negation room sub) and_operand_law ts

  pub or_operand_law : (ts : List Token) → Law (IsJoint junction.Or) (Limited (IsJoint junction.Or) Within) (carries 10) ts (reading.conjunction room sub ts)
  or_operand_law ts = same_law (IsJoined junction.And) (IsJoint junction.Or) Within (carries 10) (λ a x p. g.conjunction a x p) or_operand ts _ (conjunction_law ts)

  pub disjunction_law : (ts : List Token) → Law (IsJoined junction.Or) (Limited (IsJoined junction.Or) Within) (carries 11) ts (reading.disjunction room sub ts)
  unfolding reading.disjunction
  disjunction_law ts = junction_law junction.Or (reading.conjunction room sub) or_operand_law ts
