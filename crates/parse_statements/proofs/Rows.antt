-- The law of items with commas before `=`, and of the end of the statement that they begin.
use Rattle.std.proofs.Common.{◌≡◌, ℕ, ◌+◌, ◌-◌, ◌≤◌, max, nat_le, Bool, true, false, List, [], ◌∷◌, ◌++◌, map, refl, sym, ◌∙◌, ap, subst, inl, inr, Option, Some, None, codes, arith}
use Rattle.std.proofs.lemmas.Bool.{leb-true, le-leb}
use Rattle.indent_lexer.specs.declared.token.Token.{Token}
use Rattle.source_trees.specs.declared.expression.Commas.TheVariants.{Bare}
use Rattle.source_trees.specs.declared.expression.Expr.{Expr}
use Rattle.source_trees.specs.declared.expression.Expr.TheVariants as e
use Rattle.source_trees.specs.declared.statement.Stmt.{Stmt}
use Rattle.source_trees.specs.declared.statement.Stmt.TheVariants as stmt
use Rattle.source_trees.specs.declared.statement.Target.{Target}
use Rattle.source_trees.specs.declared.statement.Targets.{Targets}
use Rattle.source_trees.specs.declared.statement.Targets.TheVariants as targets
use Rattle.source_trees.specs.Heights.{highest, height_of_expr, height_of_stmt}
use Rattle.parse_laws.specs.Parser.{sees, within, in_table}
use Rattle.parse_laws.specs.Language.{Language, Free, Viable, Law}
use Rattle.parse_laws.specs.Forms.{Then}
use Rattle.parse_laws.specs.Limits.{Limited, Joins}
use Rattle.parse_laws.specs.Loops.{Row, RowState, RowStep, Turns, done, next}
use Rattle.parse_laws.proofs.Forms.{wider_at}
use Rattle.parse_laws.proofs.Limits.{join_law, open_limited, limit_law}
use Rattle.parse_laws.proofs.Lists.{FitEach}
use Rattle.grammar_rules.specs.Expressions.{node_of}
use Rattle.grammar_rules.specs.Simple.{node_of_target, node_of_targets}
use Rattle.grammar_rules.specs.Words.{is_comma, node_at}
use Rattle.parse_expressions.specs.Forms.{Low}
use Rattle.parse_expressions.proofs.Heights.{height-Name, height-Tuple}
use Rattle.parse_expressions.proofs.Lows.{highest_up, highest_down, positive}
use Rattle.parse_expressions.proofs.Opens.{x_token, x_tree, op_token}
use Rattle.parse_statements.specs.Targets.{both, target_of, targets_of}
use Rattle.parse_statements.specs.Readers.{Readers, Exact, LowStmt, expr_on}
use Rattle.parse_statements.specs.Heads as reading
use Rattle.parse_statements.specs.Heads.{is_equals, all_pointed, is_value, may_follow, starts_head, simple_on, row_on, several_targets, evaluated}
use Rattle.parse_statements.specs.Forms.{IsHead, AssignTo, RowEnd, RowTail}
use Rattle.parse_statements.proofs.Commas.{add, rows_law, row_first}
use Rattle.parse_statements.proofs.Heads.{HeadAfter, head_given, head_item_law, assign_height, evaluated_height, least_items, row_end_law}
use Rattle.parse_statements.proofs.Marks.{simple_row, equals_row}
use Rattle.parse_statements.proofs.States.{Fine, fine_snoc, targets_height, some_same}

abbrev Items : Expr → Language Token (RowState (List Expr))
Items x = Row is_comma HeadAfter (add is_comma IsHead may_follow) (x ∷ [], true)

-- what a row has made is a tuple or targets
turns_fine : (u : RowState (List Expr)) (c : List Token) (w : RowState (List Expr)) → Turns (RowStep is_comma HeadAfter (add is_comma IsHead may_follow)) u c w → Fine u.0 → Fine w.0
turns_fine _ _ _ (done u) f = f
turns_fine _ _ _ (next u b x c w p rest) f =
    let go : (o : Bool) → RowStep is_comma HeadAfter (add is_comma IsHead may_follow) (u.0, o) b x → Fine x.0 = elim [
      | true ↦ λ q. let P : RowState (List Expr) → Type 0 = λ z. Fine z.0 in subst P (sym q.2) (fine_snoc u.0 q.0 q.1.1)
      | false ↦ λ q. let P : RowState (List Expr) → Type 0 = λ z. Fine z.0 in subst P (sym q.3) f
    ] in
    turns_fine x c w rest (go u.1 p)

abbrev equals_token : Token
equals_token = op_token (codes "=")

abbrev Ended : ℕ → Expr → List Expr → Type 0
Ended n x s = Viable (Limited (RowEnd x s) (LowStmt n)) []

no_targets : (y : Expr) (ys : List Expr) → targets_of (y ∷ ys) ≡ Some [] → ⊥
no_targets y ys h =
    let go : (o : Option Target) (p : Option (List Target)) → both o p ≡ Some [] → ⊥ = elim [
      | Some w ↦ elim [ Some ws ↦ λ k. let bad : w ∷ ws ≡ [] = some_same (w ∷ ws) [] k in cc | None ↦ λ k. cc ]
      | None ↦ λ p k. cc
    ] in
    go (target_of y) (targets_of ys) h

pointed_end : (n : ℕ) → 3 ≤ n → (x : Expr) (s : List Expr) → FitEach (Low (n - 2)) s → (ws : List Target) → targets_of s ≡ Some ws → (ys : List Expr) (y : Expr) → s ≡ y ∷ ys → Ended n x s
pointed_end n three x s f [] h ys y e =
    let k : targets_of (y ∷ ys) ≡ Some [] = ap targets_of (sym e) ∙ h in absurd (no_targets y ys k)
pointed_end n three x s f (w ∷ ws) h ys y e =
    let t = targets.Several (node_of_target w) (w ∷ ws) in
    let P : Option Targets → Type 0 = λ z. AssignTo z (equals_token ∷ x_token ∷ []) (stmt.Assign (node_of_targets t) t x_tree) in
    let k = assign_height t x_tree in
    let l = height-Name (node_at x_token) (codes "x") in
    let m = targets_height s (w ∷ ws) h in
    let i = highest_up (n - 2) s f in (
      equals_token ∷ x_token ∷ [],
      stmt.Assign (node_of_targets t) t x_tree,
      (inl (subst P (sym (ap several_targets h)) (equals_token, x_token ∷ [], refl, refl, (x_tree, least_items, refl))), omega arith),
    )

row_end_some : (n : ℕ) → 3 ≤ n → (x : Expr) (s : List Expr) → FitEach (Low (n - 2)) s → Fine s → (ys : List Expr) (y : Expr) → s ≡ y ∷ ys → Ended n x s
row_end_some n three x s f (inl h) ys y q =
    let w = evaluated (e.Tuple (node_of x) Bare s) in
    let k : height_of_stmt w ≡ max (height_of_expr (e.Tuple (node_of x) Bare s)) 0 + 1 = evaluated_height (e.Tuple (node_of x) Bare s) in
    let l = height-Tuple (node_of x) Bare s in
    let m = highest_up (n - 2) s f in
    ([], w, (inr (h, refl, refl), omega arith))
row_end_some n three x s f (inr h) ys y q =
    let go : (o : Option (List Target)) → targets_of s ≡ o → in_table o ≡ true → Ended n x s = elim [
      | Some ws ↦ λ i k. pointed_end n three x s f ws i ys y q
      | None ↦ λ i k. absurd (cc)
    ] in
    go (targets_of s) refl h

-- without a limit: any statement that is high enough
pub row_end_any : (x : Expr) (s : List Expr) → Fine s → (ys : List Expr) (y : Expr) → s ≡ y ∷ ys → Viable (RowEnd x s) []
row_end_any x s f ys y q =
    let n = highest (map height_of_expr s) + 3 in
    let k = row_end_some n (omega arith) x s (highest_down (n - 2) s (omega arith)) f ys y q in
    (k.0, k.1, k.2.0)

row_end_shrinks : (n : ℕ) (x : Expr) (s : List Expr) (c : List Token) (w : Stmt) → RowEnd x s c w → LowStmt n w → (highest (map height_of_expr s) + 2 ≤ n)
row_end_shrinks n x s c w (inl g) f =
    let go : (o : Option (List Target)) → targets_of s ≡ o → AssignTo (several_targets o) c w → highest (map height_of_expr s) + 2 ≤ n = elim [
      | Some ws ↦ elim ws as (λ ws. targets_of s ≡ Some ws → AssignTo (several_targets (Some ws)) c w → highest (map height_of_expr s) + 2 ≤ n) [
        | [] ↦ λ i k. absurd k
        | v ∷ vs ↦ λ i k.
            let t = targets.Several (node_of_target v) (v ∷ vs) in
            let P : Stmt → Type 0 = λ z. LowStmt n z in
            let a : height_of_stmt (stmt.Assign (node_of_targets t) t k.4.0) ≤ n = subst P k.4.2 f in
            let b = assign_height t k.4.0 in
            let d = targets_height s (v ∷ vs) i in
            omega arith
      ]
      | None ↦ λ i k. absurd k
    ] in
    go (targets_of s) refl g
row_end_shrinks n x s c w (inr g) f =
    let P : Stmt → Type 0 = λ z. LowStmt n z in
    let a : height_of_stmt (evaluated (e.Tuple (node_of x) Bare s)) ≤ n = subst P g.2 f in
    let k = evaluated_height (e.Tuple (node_of x) Bare s) in
    let l = height-Tuple (node_of x) Bare s in
    omega arith

row_end_apart : (x : Expr) (s : List Expr) (c : List Token) (w : Stmt) (us : List Token) → RowEnd x s c w → Free simple_on us → Free row_on (c ++ us)
row_end_apart x s c w us (inl g) free =
    let go : (o : Option Targets) → AssignTo o c w → Free row_on (c ++ us) = elim [
      | Some t ↦ λ k. ap (λ z. sees row_on (z ++ us)) k.2 ∙ equals_row k.0 k.3
      | None ↦ λ k. absurd k
    ] in
    go (several_targets (targets_of s)) g
row_end_apart x s c w us (inr g) free = ap (λ z. sees row_on (z ++ us)) g.1 ∙ wider_at row_on simple_on simple_row us free

-- the first item is lower than the statement by two
pub row_tail_low : (n : ℕ) (x : Expr) (a : List Token) (w : Stmt) → RowTail x a w → LowStmt n w → height_of_expr x + 2 ≤ n
row_tail_low n x a w g f =
    let k = g.4 in
    let d = row_first is_comma IsHead may_follow x k.first k.value k.heads in
    let i = row_end_shrinks n x k.value.0 k.second w k.tails f in
    let j : highest (map height_of_expr k.value.0) ≡ max (height_of_expr x) (highest (map height_of_expr d.0)) = ap (λ z. highest (map height_of_expr z)) d.1 in
    omega arith

module _ (r : Readers) (exact : Exact r) where
  row_joins : (n : ℕ) → 3 ≤ n → (x : Expr) → Fine (x ∷ []) → Joins (Items x) row_on (λ s. RowEnd x s.0) simple_on (λ s. FitEach (Low (n - 2)) s.0) (LowStmt n)
  row_joins n three x fine = record {
    apart = λ a v g c w s h free. row_end_apart x v.0 c w s h free;
    ends = λ a v g. let d = row_first is_comma IsHead may_follow x a v g in row_end_any x v.0 (turns_fine (x ∷ [], true) a v g fine) d.0 x d.1;
    ends_within = λ a v g f. let d = row_first is_comma IsHead may_follow x a v g in row_end_some n three x v.0 f (turns_fine (x ∷ [], true) a v g fine) d.0 x d.1;
    shrinks = λ a v g c w h f. let k = row_end_shrinks n x v.0 c w h f in highest_down (n - 2) v.0 (omega arith);
  }

  pub row_after_law : (n : ℕ) (x : Expr) → Fine (x ∷ []) → height_of_expr x + 2 ≤ n → (ts : List Token) → Law (RowTail x) (Limited (RowTail x) (LowStmt n)) simple_on ts (reading.row_after r n x ts)
  unfolding reading.row_after
  row_after_law n x fine low ts =
      let p = positive x in
      let l : Low (n - 2) x = omega arith in
      let three : 3 ≤ n = omega arith in
      open_limited is_comma (λ _. Then (Items x) (λ s. RowEnd x s.0)) (LowStmt n) simple_on
      (λ t h. let k = row_end_some n three x (x ∷ []) (l, tt) fine [] x refl in
      (k.0, k.1, (record { first = []; second = k.0; value = (x ∷ [], true); joined = refl; heads = done (x ∷ [], true); tails = k.2.0 }, k.2.1)))
      ts _
      (λ t us h k. join_law (Items x) row_on (λ s. RowEnd x s.0) simple_on (λ s. FitEach (Low (n - 2)) s.0) (LowStmt n) (row_joins n three x fine) us _
      (rows_law is_comma IsHead may_follow (Low (n - 2)) starts_head expr_on row_on (head_given r exact) (reading.head_item r (n - 2)) (head_item_law r exact (n - 2) (omega arith)) x l us)
      (λ s. reading.row_end r n x s.0)
      (λ used s us2 g f q. row_end_law r exact n three x s.0 f us2))

  -- a comma after the first item
  pub comma_law : (n : ℕ) (x : Expr) → Fine (x ∷ []) → (ts : List Token) → sees is_comma ts ≡ true
      → Law (RowTail x) (Limited (RowTail x) (LowStmt n)) simple_on ts (within (nat_le (height_of_expr x + 2) n) (reading.row_after r n x) ts)
  comma_law n x fine ts h =
      limit_law (RowTail x) (LowStmt n) simple_on is_comma (nat_le (height_of_expr x + 2) n)
      (λ t i. let k = row_end_any x (x ∷ []) fine [] x refl in
      (k.0, k.1, (t, k.0, refl, i, record { first = []; second = k.0; value = (x ∷ [], true); joined = refl; heads = done (x ∷ [], true); tails = k.2 })))
      (λ none a v s g f free i. let k = le-leb (height_of_expr x + 2) n (row_tail_low n x a v g f) in absurd (cc))
      (reading.row_after r n x) ts h (λ some. row_after_law n x fine (leb-true (height_of_expr x + 2) n some) ts)
