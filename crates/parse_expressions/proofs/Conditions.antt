-- The laws of comparisons, `not`, `and`, `or` and conditional expressions, and with them that of whole expressions.
use Rattle.std.proofs.Common.{◌≡◌, ℕ, suc, ◌≤◌, nat_le, Bool, true, false, not, if◌then◌else◌, ◌||◌, List, [], ◌∷◌, ◌++◌, refl, sym, ◌∙◌, ap, subst, Option, Some, None, codes, inl, inr, append_assoc, arith}
use Rattle.std.proofs.lemmas.List.{append-nil}
use Rattle.indent_lexer.specs.declared.token.Token.{Token}
use Rattle.source_trees.specs.declared.expression.Comparison.{Comparison}
use Rattle.source_trees.specs.declared.expression.Expr.{Expr}
use Rattle.source_trees.specs.declared.expression.Expr.TheVariants as e
use Rattle.source_trees.specs.declared.operator.Comparator.{Comparator}
use Rattle.source_trees.specs.declared.operator.Comparator.TheVariants.{In, NotIn}
use Rattle.parse_laws.specs.Parser.{Parser, sees, pure, expect, take_by, has, in_table, ◌>>=◌}
use Rattle.parse_laws.specs.Language.{Language, Viable, Law}
use Rattle.parse_laws.specs.Forms.{Then, Picks, Ends, Opens, Made, Either, never}
use Rattle.parse_laws.specs.Limits.{Limited}
use Rattle.parse_laws.specs.Loops.{Turns, done}
use Rattle.parse_laws.proofs.Forms.{free_never}
use Rattle.parse_laws.proofs.Limits.{same_law, take_limited, either_law, join_law, made_limited, open_limited, end_limited}
use Rattle.grammar_rules.specs.declared.level.Rank.TheVariants as rank
use Rattle.grammar_rules.specs.Expressions as g
use Rattle.grammar_rules.specs.Expressions.{node_of, IsComparator, IsExpr, IsJoined, IsJoint, IsMore, IsNot, IsCompared, IsComparisons, IsRanked}
use Rattle.grammar_rules.specs.Levels.{comparators}
use Rattle.grammar_rules.specs.Words.{keyword_in, is_spelled, is_keyword, look_up}
use Rattle.parse_expressions.specs.declared.form.Form.{Form}
use Rattle.parse_expressions.specs.declared.form.Form.TheVariants as form
use Rattle.parse_expressions.specs.Forms.{Low, carried_by, carries}
use Rattle.parse_expressions.specs.Reading as reading
use Rattle.parse_expressions.specs.Reading.{is_if, is_else, is_in, is_not, in_or_symbol, compares, compare_all, join_all}
use Rattle.parse_expressions.proofs.Tokens.{keyword_kind, carries_looser, look_up_passes, or_first, or_second}
use Rattle.parse_expressions.proofs.Opens.{x_token, x_tree, keyword_token}
use Rattle.parse_expressions.proofs.Least.{least}
use Rattle.parse_expressions.proofs.Heights.{height-Compare}
use Rattle.parse_expressions.proofs.Lows.{x_low, LowComparison, comparisons_up, comparisons_down}
use Rattle.parse_expressions.proofs.Leaves.{Free_of_limit}
use Rattle.parse_expressions.proofs.Rows.{Reads}
use Rattle.parse_expressions.proofs.Operators.{bit_or_law}
use Rattle.parse_expressions.proofs.Flat.{More, last, another, Beside, Step, FitBeside, turns_of_more, more_of_turns, flat_law}

-- ---- comparators

Comparators : Language Token Comparator
Comparators = Either (Opens is_not (λ _. Ends is_in NotIn)) (Picks in_or_symbol)

keyword_is_no : (word other : List ℕ) → is_keyword other (keyword_token word) ≡ false → (t : Token) → is_keyword word t ≡ true → is_keyword other t ≡ false
keyword_is_no word other h t i = ap (λ z. is_spelled (keyword_in z) other) (keyword_kind word t i) ∙ h

symbol_no_in : (t : Token) (o : Comparator) → look_up comparators t ≡ Some o → is_in t ≡ false
symbol_no_in t o h =
    let k : not (is_in t) ≡ true = look_up_passes (λ z. not (is_spelled (keyword_in z) (codes "in"))) comparators refl t o h in
    let go : (x : Bool) → not x ≡ true → x ≡ false = elim [ true ↦ λ l. absurd (cc) | false ↦ λ l. refl ] in
    go (is_in t) k

symbol_no_not : (t : Token) (o : Comparator) → look_up comparators t ≡ Some o → is_not t ≡ false
symbol_no_not t o h =
    let k : not (is_not t) ≡ true = look_up_passes (λ z. not (is_spelled (keyword_in z) (codes "not"))) comparators refl t o h in
    let go : (x : Bool) → not x ≡ true → x ≡ false = elim [ true ↦ λ l. absurd (cc) | false ↦ λ l. refl ] in
    go (is_not t) k

-- a comparator of one token is `in` or a symbol
by_one : (P : Type 0) (t : Token) (o : Comparator) → in_or_symbol t ≡ Some o → (is_in t ≡ true → In ≡ o → P) → (look_up comparators t ≡ Some o → P) → P
by_one P t o h first second =
    let go : (x : Bool) → is_in t ≡ x → (if x then Some In else look_up comparators t) ≡ Some o → P = elim [
      | true ↦ λ i k. let l : In ≡ o = cc in first i l
      | false ↦ λ i k. second k
    ] in
    go (is_in t) refl h

one_no_not : (t : Token) (o : Comparator) → in_or_symbol t ≡ Some o → is_not t ≡ false
one_no_not t o h = by_one (is_not t ≡ false) t o h (λ i l. keyword_is_no (codes "in") (codes "not") refl t i) (λ k. symbol_no_not t o k)

in_is_one : (t : Token) → is_in t ≡ true → in_or_symbol t ≡ Some In
in_is_one t h = ap (λ x. if x then Some In else look_up comparators t) h

symbol_is_one : (t : Token) (o : Comparator) → look_up comparators t ≡ Some o → in_or_symbol t ≡ Some o
symbol_is_one t o h = ap (λ x. if x then Some In else look_up comparators t) (symbol_no_in t o h) ∙ h

comparator_to : (a : List Token) (o : Comparator) → IsComparator a o → Comparators a o
unfolding Comparators
comparator_to _ _ (g.symbol t o h) = inr (t, refl, symbol_is_one t o h)
comparator_to _ _ (g.is_in t h) = inr (t, refl, in_is_one t h)
comparator_to _ _ (g.is_not_in t u h i) = inl (t, u ∷ [], refl, h, (u, refl, i, refl))

comparator_from : (a : List Token) (o : Comparator) → Comparators a o → IsComparator a o
unfolding Comparators
comparator_from a o (inl k) =
    let A : List Token → Type 0 = λ z. IsComparator z o in
    let O : Comparator → Type 0 = λ z. IsComparator (k.0 ∷ k.4.0 ∷ []) z in
    subst A (sym (k.2 ∙ ap (λ z. k.0 ∷ z) k.4.1)) (subst O (sym k.4.3) (g.is_not_in k.0 k.4.0 k.3 k.4.2))
comparator_from a o (inr k) =
    let A : List Token → Type 0 = λ z. IsComparator z o in
    let O : Comparator → Type 0 = λ z. IsComparator (k.0 ∷ []) z in
    subst A (sym k.1) (by_one (IsComparator (k.0 ∷ []) o) k.0 o k.2 (λ i l. subst O l (g.is_in k.0 i)) (λ i. g.symbol k.0 o i))

comparator_law : (ts : List Token) → Law IsComparator (Limited IsComparator Free_of_limit) never ts (reading.comparator ts)
unfolding Comparators reading.comparator
comparator_law ts =
    same_law Comparators IsComparator Free_of_limit never comparator_from comparator_to ts _
    (either_law (Opens is_not (λ _. Ends is_in NotIn)) (Picks in_or_symbol) Free_of_limit never is_not
    (λ a v s k. ap (λ z. sees is_not (z ++ s)) k.2 ∙ k.3)
    (λ a v s k free. ap (λ z. sees is_not (z ++ s)) k.1 ∙ one_no_not k.0 v k.2)
    (expect is_not >>= λ _. expect is_in >>= λ _. pure NotIn) (take_by in_or_symbol) ts
    (λ h. open_limited is_not (λ _. Ends is_in NotIn) Free_of_limit never (λ t i. (keyword_token (codes "in") ∷ [], NotIn, ((keyword_token (codes "in"), refl, refl, refl), tt)))
    ts (λ _. expect is_in >>= λ _. pure NotIn) (λ t r i j. end_limited is_in NotIn Free_of_limit tt never r))
    (λ h. take_limited in_or_symbol Free_of_limit (λ o. tt) never ts))

one_look : (t : Token) (o : Option Comparator) → in_or_symbol t ≡ o → in_table o ≡ true → (c : Comparator) × (in_or_symbol t ≡ Some c)
one_look t None e h = absurd (cc)
one_look t (Some c) e h = (c, e)

-- what begins a comparison is `not`, `in` or a symbol
by_compares : (P : Type 0) (t : Token) → compares t ≡ true → (is_not t ≡ true → P) → (is_in t ≡ true → P) → ((o : Comparator) → look_up comparators t ≡ Some o → P) → P
by_compares P t h first second third =
    let go : (x : Bool) → is_not t ≡ x → x || has in_or_symbol t ≡ true → P = elim [
      | true ↦ λ i k. first i
      | false ↦ λ i k. let c = one_look t (in_or_symbol t) refl k in by_one P t c.0 c.1 (λ j l. second j) (third c.0)
    ] in
    go (is_not t) refl h

compares_own : (t : Token) → compares t ≡ true → carries 9 t ≡ true
compares_own t h =
    by_compares (carries 9 t ≡ true) t h
    (λ i. ap (λ z. nat_le (carried_by z) 9) (keyword_kind (codes "not") t i)) (λ i. ap (λ z. nat_le (carried_by z) 9) (keyword_kind (codes "in") t i))
    (λ o i. look_up_passes (λ z. nat_le (carried_by z) 9) comparators refl t o i)

compares_apart : (t : Token) → compares t ≡ true → carries 8 t ≡ false
compares_apart t h =
    by_compares (carries 8 t ≡ false) t h
    (λ i. ap (λ z. nat_le (carried_by z) 8) (keyword_kind (codes "not") t i)) (λ i. ap (λ z. nat_le (carried_by z) 8) (keyword_kind (codes "in") t i))
    (λ o i.
    let k : not (carries 8 t) ≡ true = look_up_passes (λ z. not (nat_le (carried_by z) 8)) comparators refl t o i in
    let go : (x : Bool) → not x ≡ true → x ≡ false = elim [ true ↦ λ l. absurd (cc) | false ↦ λ l. refl ] in
    go (carries 8 t) k)

-- ---- chains of comparisons

abbrev comparison_of : Comparator → Expr → Comparison
comparison_of o y = record { comparator = o; right = y }

abbrev CompareItem : Language Token Comparison
CompareItem = Then IsComparator (λ o. Made (IsRanked rank.BitOr) (comparison_of o))

abbrev item_at : (a : List Token) (o : Comparator) (b : List Token) (x : Expr) → IsComparator a o → IsRanked rank.BitOr b x → CompareItem (a ++ b) (comparison_of o x)
item_at a o b x p q = record { first = a; second = b; value = o; joined = refl; heads = p; tails = (x, q, refl) }

comparisons_to : (a : List Token) (cs : List Comparison) → IsComparisons a cs → More CompareItem a cs
comparisons_to _ _ (g.last_comparison a o b x p q) = last (a ++ b) (comparison_of o x) (item_at a o b x p q)
comparisons_to _ _ (g.another_comparison a o b x c cs p q r) =
    let A : List Token → Type 0 = λ z. More CompareItem z (comparison_of o x ∷ cs) in
    subst A (append_assoc a b c) (another (a ++ b) (comparison_of o x) c cs (item_at a o b x p q) (comparisons_to c cs r))

comparisons_from : (a : List Token) (cs : List Comparison) → More CompareItem a cs → IsComparisons a cs
comparisons_from _ _ (last a c k) =
    let A : List Token → Type 0 = λ z. IsComparisons z (c ∷ []) in
    let C : Comparison → Type 0 = λ z. IsComparisons (k.first ++ k.second) (z ∷ []) in
    subst A (sym k.joined) (subst C (sym k.tails.2) (g.last_comparison k.first k.value k.second k.tails.0 k.heads k.tails.1))
comparisons_from _ _ (another a c b cs k rest) =
    let A : List Token → Type 0 = λ z. IsComparisons z (c ∷ cs) in
    let C : Comparison → Type 0 = λ z. IsComparisons (k.first ++ (k.second ++ b)) (z ∷ cs) in
    subst A (sym (ap (λ z. z ++ b) k.joined ∙ append_assoc k.first k.second b))
    (subst C (sym k.tails.2) (g.another_comparison k.first k.value k.second k.tails.0 b cs k.heads k.tails.1 (comparisons_from b cs rest)))

comparator_opens : (a : List Token) (o : Comparator) (s : List Token) → IsComparator a o → sees compares (a ++ s) ≡ true
comparator_opens _ _ s (g.symbol t o h) = or_second (is_not t) (has in_or_symbol t) (ap in_table (symbol_is_one t o h))
comparator_opens _ _ s (g.is_in t h) = or_second (is_not t) (has in_or_symbol t) (ap in_table (in_is_one t h))
comparator_opens _ _ s (g.is_not_in t u h i) = or_first (is_not t) (has in_or_symbol t) h

comparison_opens : (a : List Token) (c : Comparison) (s : List Token) → CompareItem a c → sees compares (a ++ s) ≡ true
comparison_opens a c s k =
    ap (λ z. sees compares (z ++ s)) k.joined ∙ ap (sees compares) (append_assoc k.first k.second s) ∙ comparator_opens k.first k.value (k.second ++ s) k.heads

least_operand : IsRanked rank.BitOr (x_token ∷ []) x_tree
least_operand = least (form.Ranked rank.BitOr)

comparison_viable : (t : Token) → compares t ≡ true → Viable CompareItem (t ∷ [])
comparison_viable t h =
    by_compares (Viable CompareItem (t ∷ [])) t h
    (λ i. (
      keyword_token (codes "in") ∷ x_token ∷ [],
      comparison_of NotIn x_tree,
      item_at (t ∷ keyword_token (codes "in") ∷ []) NotIn (x_token ∷ []) x_tree (g.is_not_in t (keyword_token (codes "in")) i refl) least_operand,
    ))
    (λ i. (x_token ∷ [], comparison_of In x_tree, item_at (t ∷ []) In (x_token ∷ []) x_tree (g.is_in t i) least_operand))
    (λ o i. (x_token ∷ [], comparison_of o x_tree, item_at (t ∷ []) o (x_token ∷ []) x_tree (g.symbol t o i) least_operand))

Compared : Language Token Expr
Compared = Made (Then (IsRanked rank.BitOr) (λ x. Turns (Step CompareItem) (x, []))) compare_all

compare_more : (x : Expr) (b : List Token) (cs : List Comparison) → IsComparisons b cs → e.Compare (node_of x) x cs ≡ compare_all (x, cs)
compare_more x _ _ (g.last_comparison a o b y p q) = refl
compare_more x _ _ (g.another_comparison a o b y c cs p q r) = refl

compared_to : (a : List Token) (v : Expr) → IsCompared a v → Compared a v
unfolding Compared
compared_to _ _ (g.uncompared a x p) = ((x, []), record { first = a; second = []; value = x; joined = sym (append-nil a); heads = p; tails = done (x, []) }, refl)
compared_to _ _ (g.compared a x b cs p q) =
    ((x, cs), record { first = a; second = b; value = x; joined = refl; heads = p; tails = turns_of_more CompareItem x [] b cs (comparisons_to b cs q) }, compare_more x b cs q)

compared_at : (a : List Token) (x : Expr) → IsRanked rank.BitOr a x → (c : List Token) (ys : List Comparison) → More CompareItem c ys → IsCompared (a ++ c) (compare_all (x, ys))
compared_at a x p c ys q =
    let r = comparisons_from c ys q in
    let V : Expr → Type 0 = λ z. IsCompared (a ++ c) z in
    subst V (compare_more x c ys r) (g.compared a x c ys p r)

compared_from : (a : List Token) (v : Expr) → Compared a v → IsCompared a v
unfolding Compared
compared_from a v k =
    let n = k.1 in
    let A : List Token → Type 0 = λ z. IsCompared z v in
    let V : Expr → Type 0 = λ z. IsCompared (n.first ++ n.second) z in
    subst A (sym n.joined) (subst V (sym k.2) (elim (more_of_turns CompareItem (n.value, []) n.second k.0 n.tails) as (λ _. IsCompared (n.first ++ n.second) (compare_all k.0)) [
      | inl q ↦
          let B : List Token → Type 0 = λ z. IsCompared z (compare_all k.0) in
          let W : Expr → Type 0 = λ z. IsCompared n.first z in
          subst B (sym (ap (λ z. n.first ++ z) q.0 ∙ append-nil n.first)) (subst W (sym (ap compare_all q.1)) (g.uncompared n.first n.value n.heads))
      | inr q ↦ let W : Expr → Type 0 = λ z. IsCompared (n.first ++ n.second) z in subst W (sym (ap compare_all q.2)) (compared_at n.first n.value n.heads n.second q.0 q.1)
    ]))

module _ (room : ℕ) (sub : Form → Parser Token Expr) (below : Reads room sub) where
  abbrev Within : Expr → Type 0
  Within = Low (suc room)

  comparison_law : 1 ≤ room → (ts : List Token) → Law CompareItem (Limited CompareItem (LowComparison room)) (carries 8) ts (reading.comparison room sub ts)
  unfolding reading.comparison
  comparison_law some ts =
      join_law IsComparator never (λ o. Made (IsRanked rank.BitOr) (comparison_of o)) (carries 8) Free_of_limit (LowComparison room)
      (record {
        apart = λ a o p c w s q free. free_never (c ++ s);
        ends = λ a o p. (x_token ∷ [], comparison_of o x_tree, (x_tree, least_operand, refl));
        ends_within = λ a o p f. (x_token ∷ [], comparison_of o x_tree, ((x_tree, least_operand, refl), x_low room some));
        shrinks = λ a o p c w q f. tt;
      }) ts (reading.comparator ts) (comparator_law ts) (λ o. sub (form.Ranked rank.BitOr) >>= λ y. pure (comparison_of o y))
      (λ used o r p f e. made_limited (IsRanked rank.BitOr) (carries 8) (comparison_of o) (Low room) (LowComparison room)
      (record { grows = λ y k. k; shrinks = λ y k. k }) r (sub (form.Ranked rank.BitOr) r) (below (form.Ranked rank.BitOr) r))

  compare_low : (v : Beside CompareItem) → FitBeside CompareItem room sub (LowComparison room) v → Within (compare_all v)
  compare_low (x, []) f = f
  compare_low (x, c ∷ cs) f =
      let h = height-Compare (node_of x) x (c ∷ cs) in let k = comparisons_up room (c ∷ cs) f.1 in let l = f.0 in omega arith

  compare_parts : (v : Beside CompareItem) → Within (compare_all v) → FitBeside CompareItem room sub (LowComparison room) v
  compare_parts (x, []) f = f
  compare_parts (x, c ∷ cs) f = let h = height-Compare (node_of x) x (c ∷ cs) in (omega arith, comparisons_down room (c ∷ cs) (omega arith))

  pub compared_law : (ts : List Token) → Law IsCompared (Limited IsCompared Within) (carries 9) ts (reading.compared room sub ts)
  unfolding reading.compared Compared
  compared_law ts =
      same_law Compared IsCompared Within (carries 9) compared_from compared_to ts _
      (flat_law CompareItem room sub (LowComparison room) compares (carries 8) (carries 9) (reading.comparison room sub) comparison_opens comparison_viable compares_own
      (carries_looser 8 9 (omega arith)) compares_apart (λ some us h. comparison_law some us)
      (IsRanked rank.BitOr) (reading.bit_or room sub) (bit_or_law room sub below) compare_all (record { grows = compare_low; shrinks = compare_parts }) ts)
