-- The laws of items before `=`, and of what ends them.
use Rattle.std.proofs.Common.{◌≡◌, ℕ, ◌+◌, ◌-◌, ◌<◌, ◌≤◌, max, Bool, true, false, cond, ◌||◌, ◌&&◌, List, [], ◌∷◌, ◌++◌, refl, sym, ◌∙◌, ap, subst, inl, inr, Option, Some, None, codes, arith}
use Rattle.indent_lexer.specs.declared.token.Token.{Token}
use Rattle.source_trees.specs.declared.expression.Commas.TheVariants.{Bare}
use Rattle.source_trees.specs.declared.expression.Expr.{Expr}
use Rattle.source_trees.specs.declared.expression.Expr.TheVariants as e
use Rattle.source_trees.specs.declared.statement.Stmt.{Stmt}
use Rattle.source_trees.specs.declared.statement.Stmt.TheVariants as stmt
use Rattle.source_trees.specs.declared.statement.Target.{Target}
use Rattle.source_trees.specs.declared.statement.Targets.{Targets}
use Rattle.source_trees.specs.Heights.{height_of_expr, height_of_targets, height_of_stmt, over_parts}
use Rattle.parse_laws.specs.declared.cause.Cause.TheVariants.{Unexpected}
use Rattle.parse_laws.specs.Parser.{Outcome, Parsed, Stopped, Parser, sees, pure, choose, ◌>>=◌}
use Rattle.parse_laws.specs.Language.{Language, Free, Law}
use Rattle.parse_laws.specs.Forms.{Made, Is, Opens, Either}
use Rattle.parse_laws.specs.Limits.{Limited, Nothing}
use Rattle.parse_laws.proofs.Limits.{same_law, pure_limited, nothing_law, made_limited, open_limited, either_law}
use Rattle.parse_laws.proofs.Lists.{FitEach}
use Rattle.parse_laws.proofs.Steps.{wider_law}
use Rattle.grammar_rules.specs.Expressions.{node_of, IsExpr, last as row_last}
use Rattle.grammar_rules.specs.Simple.{node_of_targets, IsItems, item}
use Rattle.grammar_rules.specs.Words.{is_comma, node_at}
use Rattle.parse_expressions.specs.Forms.{Low}
use Rattle.parse_expressions.specs.declared.form.Form.TheVariants as form
use Rattle.parse_expressions.proofs.Heights.{height-Name, height-Tuple}
use Rattle.parse_expressions.proofs.Least.{least}
use Rattle.parse_expressions.proofs.Lows.{highest_up}
use Rattle.parse_expressions.proofs.Opens.{x_token, x_tree}
use Rattle.parse_statements.specs.Targets.{targets_of, is_print, IsPointed, IsPrintName}
use Rattle.parse_statements.specs.Readers.{Readers, Exact, LowStmt, starts_expr, starts_postfix, expr_on, postfix_on}
use Rattle.parse_statements.specs.Items.{items, items_on}
use Rattle.parse_statements.specs.Heads as reading
use Rattle.parse_statements.specs.Heads.{is_equals, is_print_word, all_pointed, takes_value, is_value, may_follow, starts_head, simple_on, row_on, several_targets, evaluated}
use Rattle.parse_statements.specs.Forms.{IsHead, Sure, AssignTo, RowEnd}
use Rattle.parse_statements.proofs.Commas.{Allowed, ItemAfter}
use Rattle.parse_statements.proofs.Heights.{stmt_Assign, stmt_Evaluate}
use Rattle.parse_statements.proofs.Items.{items_law}
use Rattle.parse_statements.proofs.Marks.{simple_items, row_expr, comma_row, comma_ends, equals_simple, starts_row, postfix_starts_expr, expr_postfix_on, print_row, starts_no_print}
use Rattle.parse_statements.proofs.States.{may_value, may_target, by_follow, targets_height}
use Rattle.parse_statements.proofs.Targets.{expr_postfix, postfix_expr, expr_not_print, print_name_print, print_name_pointed}

-- ---- items

abbrev pub HeadAfter : List Expr → Language Token Expr
HeadAfter s = ItemAfter is_comma IsHead may_follow s

-- what is `print` is no expression
pub head_print : (a : List Token) (x : Expr) → IsHead a x → is_print x ≡ true → IsPrintName a x
head_print a x (inl p) h = let k = expr_not_print a x p in absurd (cc)
head_print a x (inr p) h = p

pub head_expr : (a : List Token) (x : Expr) → IsHead a x → is_print x ≡ false → IsExpr a x
head_expr a x (inl p) h = p
head_expr a x (inr p) h = let k = print_name_print a x p in absurd (cc)

print_opens : (a : List Token) (x : Expr) (s : List Token) → IsPrintName a x → sees is_print_word (a ++ s) ≡ true
print_opens a x s p = ap (λ z. sees is_print_word (z ++ s)) p.1 ∙ p.2

at_first : (f g : Token → Bool) (y : Bool) → ((t : Token) → f t ≡ true → g t ≡ y) → (ts : List Token) → sees f ts ≡ true → sees g ts ≡ y
at_first f g y h [] k = absurd (cc)
at_first f g y h (t ∷ ts) k = h t k

print_up : (a : List Token) (x : Expr) → Opens is_print_word (λ t. Is (e.Name (node_at t) (codes "print"))) a x → IsPrintName a x
print_up a x g = (g.0, g.2 ∙ ap (λ z. g.0 ∷ z) g.4.0, g.3, g.4.1)

print_down : (a : List Token) (x : Expr) → IsPrintName a x → Opens is_print_word (λ t. Is (e.Name (node_at t) (codes "print"))) a x
print_down a x g = (g.0, [], g.1, g.2, (refl, g.3))

-- ---- heights, and nothing more

pub assign_height : (t : Targets) (y : Expr) → height_of_stmt (stmt.Assign (node_of_targets t) t y) ≡ max (height_of_targets t) (max (height_of_expr y) 0) + 1
assign_height t y = stmt_Assign over_parts (node_of_targets t) t y

pub evaluated_height : (x : Expr) → height_of_stmt (evaluated x) ≡ max (height_of_expr x) 0 + 1
evaluated_height x = stmt_Evaluate over_parts (node_of x) x

pub least_items : IsItems (x_token ∷ []) x_tree
least_items = item (x_token ∷ []) x_tree (row_last (x_token ∷ []) x_tree (least form.Whole))

pub sure_law : {A : Type 0} (fit : A → Type 0) (cont : Token → Bool) (b : Bool) (v : A) → fit v → (p : Parser Token A) (ts : List Token)
    → (b ≡ true → p ts ≡ pure v ts) → (b ≡ false → p ts ≡ Stopped Unexpected ts) → Law (Sure b v) (Limited (Sure b v) fit) cont ts (p ts)
sure_law {A} fit cont true v f p ts yes_is no_is =
    let P : Outcome Token A → Type 0 = λ z. Law (Sure true v) (Limited (Sure true v) fit) cont ts z in
    subst P (sym (yes_is refl)) (same_law (Is v) (Sure true v) fit cont (λ a w g. (refl, g.0, g.1)) (λ a w g. (g.1, g.2)) ts (Parsed v ts) (pure_limited v fit f cont ts))
sure_law {A} fit cont false v f p ts yes_is no_is =
    let P : Outcome Token A → Type 0 = λ z. Law (Sure false v) (Limited (Sure false v) fit) cont ts z in
    let L : Language Token A = Nothing in
    subst P (sym (no_is refl)) (same_law L (Sure false v) fit cont (λ a w g. absurd g) (λ a w g. let k : false ≡ true = g.0 in absurd (cc)) ts (Stopped Unexpected ts) (nothing_law fit cont ts))

abbrev pub LowTargets : ℕ → Option Targets → Type 0
LowTargets n None = Unit {0}
LowTargets n (Some t) = height_of_targets t < n

module _ (r : Readers) (exact : Exact r) where
  pub print_law : (n : ℕ) → 1 ≤ n → (cont : Token → Bool) (ts : List Token) → Law IsPrintName (Limited IsPrintName (Low n)) cont ts (reading.print_name r ts)
  unfolding reading.print_name
  print_law n some cont ts =
      let low : (t : Token) → Low n (e.Name (node_at t) (codes "print")) = λ t. let k = height-Name (node_at t) (codes "print") in omega arith in
      same_law (Opens is_print_word (λ t. Is (e.Name (node_at t) (codes "print")))) IsPrintName (Low n) cont print_up print_down ts _
      (open_limited is_print_word (λ t. Is (e.Name (node_at t) (codes "print"))) (Low n) cont
      (λ t h. ([], e.Name (node_at t) (codes "print"), ((refl, refl), low t)))
      ts (λ t. pure (e.Name (node_at t) (codes "print")))
      (λ t us h k. pure_limited (e.Name (node_at t) (codes "print")) (Low n) (low t) cont us))

  expr_no_print : (a : List Token) (x : Expr) (s : List Token) → IsExpr a x → Free expr_on s → sees is_print_word (a ++ s) ≡ false
  expr_no_print a x s p free = at_first starts_expr is_print_word false starts_no_print (a ++ s) (exact.expr_starts a x s p)

  target_no_print : (a : List Token) (x : Expr) (s : List Token) → IsPointed a x → Free expr_on s → sees is_print_word (a ++ s) ≡ false
  target_no_print a x s p free = at_first starts_postfix is_print_word false (λ t h. starts_no_print t (postfix_starts_expr t h)) (a ++ s) (exact.target_starts a x s p)

  any_law : (n : ℕ) → 1 ≤ n → (ts : List Token)
      → Law (Either IsPrintName IsExpr) (Limited (Either IsPrintName IsExpr) (Low n)) expr_on ts (choose is_print_word (reading.print_name r) (r.expr n) ts)
  any_law n some ts =
      either_law IsPrintName IsExpr (Low n) expr_on is_print_word print_opens expr_no_print (reading.print_name r) (r.expr n) ts
      (λ h. print_law n some expr_on ts) (λ h. exact.expr_law n ts)

  target_law : (n : ℕ) → 1 ≤ n → (ts : List Token)
      → Law (Either IsPrintName IsPointed) (Limited (Either IsPrintName IsPointed) (Low n)) expr_on ts (choose is_print_word (reading.print_name r) (r.target n) ts)
  target_law n some ts =
      either_law IsPrintName IsPointed (Low n) expr_on is_print_word print_opens target_no_print (reading.print_name r) (r.target n) ts
      (λ h. print_law n some expr_on ts)
      (λ h. wider_law IsPointed (Limited IsPointed (Low n)) postfix_on expr_on expr_postfix_on ts (r.target n ts) (exact.target_law n ts))

  as_both : (s : List Expr) → takes_value s ≡ true → all_pointed s ≡ true → (a : List Token) (x : Expr) → Either IsPrintName IsExpr a x → HeadAfter s a x
  as_both s v p a x (inl g) = (inr g, may_target s x p (print_name_pointed a x g))
  as_both s v p a x (inr g) = (inl g, may_value s x v (expr_not_print a x g))

  from_both : (s : List Expr) (a : List Token) (x : Expr) → HeadAfter s a x → Either IsPrintName IsExpr a x
  from_both s a x g = elim g.0 as (λ _. Either IsPrintName IsExpr a x) [ inl k ↦ inr k | inr k ↦ inl k ]

  from_value : (s : List Expr) → all_pointed s ≡ false → (a : List Token) (x : Expr) → HeadAfter s a x → IsExpr a x
  from_value s p a x g = by_follow s x g.1 (IsExpr a x) (λ v q. head_expr a x g.0 q) (λ h k. absurd (cc))

  as_target : (s : List Expr) → all_pointed s ≡ true → (a : List Token) (x : Expr) → Either IsPrintName IsPointed a x → HeadAfter s a x
  as_target s p a x (inl g) = (inr g, may_target s x p (print_name_pointed a x g))
  as_target s p a x (inr g) = (inl (postfix_expr a x g.0), may_target s x p g.1)

  from_target : (s : List Expr) → takes_value s ≡ false → (a : List Token) (x : Expr) → HeadAfter s a x → Either IsPrintName IsPointed a x
  from_target s v a x g =
      by_follow s x g.1 (Either IsPrintName IsPointed a x) (λ h k. absurd (cc))
      (λ h k. elim g.0 as (λ _. Either IsPrintName IsPointed a x) [ inl i ↦ inr (expr_postfix a x i k, k) | inr i ↦ inl i ])

  no_start : (v p : Bool) → v ≡ false → p ≡ false → (f g : Token → Bool) (ts : List Token) → sees (λ t. (v && f t) || (p && g t)) ts ≡ true → ⊥
  no_start true p e h f g ts k = absurd (cc)
  no_start false true e h f g ts k = absurd (cc)
  no_start false false e h f g [] k = absurd (cc)
  no_start false false e h f g (t ∷ ts) k = absurd (cc)

  pub head_item_law : (n : ℕ) → 1 ≤ n → (s : List Expr) → FitEach (Low n) s → (ts : List Token) → sees (starts_head s) ts ≡ true
      → Law (HeadAfter s) (Limited (HeadAfter s) (Low n)) expr_on ts (reading.head_item r n s ts)
  unfolding reading.head_item
  head_item_law n some s f ts h =
      let go : (v p : Bool) → takes_value s ≡ v → all_pointed s ≡ p
      → Law (HeadAfter s) (Limited (HeadAfter s) (Low n)) expr_on ts
      (cond v (cond p (choose is_print_word (reading.print_name r) (r.expr n)) (r.expr n)) (choose is_print_word (reading.print_name r) (r.target n)) ts) = elim [
        | true ↦ elim [
          | true ↦ λ v p. same_law (Either IsPrintName IsExpr) (HeadAfter s) (Low n) expr_on (as_both s v p) (from_both s) ts _ (any_law n some ts)
          | false ↦ λ v p. same_law IsExpr (HeadAfter s) (Low n) expr_on (λ a x g. (inl g, may_value s x v (expr_not_print a x g))) (from_value s p) ts (r.expr n ts) (exact.expr_law n ts)
        ]
        | false ↦ elim [
          | true ↦ λ v p. same_law (Either IsPrintName IsPointed) (HeadAfter s) (Low n) expr_on (as_target s p) (from_target s v) ts _ (target_law n some ts)
          | false ↦ λ v p. absurd (no_start (takes_value s) (all_pointed s) v p starts_expr (λ t. starts_postfix t || is_print_word t) ts h)
        ]
      ] in
      go (takes_value s) (all_pointed s) refl refl

  -- ---- rows

  or_left : (x y : Bool) → x ≡ true → x || y ≡ true
  or_left true y h = refl
  or_left false y h = absurd (cc)

  or_right : (x y : Bool) → y ≡ true → x || y ≡ true
  or_right true y h = refl
  or_right false y h = h

  starts_value : (v p : Bool) → v ≡ true → (f g : Token → Bool) (ts : List Token) → sees f ts ≡ true → sees (λ t. (v && f t) || (p && g t)) ts ≡ true
  starts_value true p e f g [] h = absurd (cc)
  starts_value true p e f g (t ∷ ts) h = or_left (f t) (p && g t) h
  starts_value false p e f g ts h = absurd (cc)

  starts_pointed : (v p : Bool) → p ≡ true → (f g : Token → Bool) (ts : List Token) → sees g ts ≡ true → sees (λ t. (v && f t) || (p && g t)) ts ≡ true
  starts_pointed v true e f g [] h = absurd (cc)
  starts_pointed v true e f g (t ∷ ts) h = or_right (v && f t) (g t) h
  starts_pointed v false e f g ts h = absurd (cc)

  sees_either : (f g : Token → Bool) (x : Bool) → ((t : Token) → f t ≡ true → g t ≡ true) → (ts : List Token) → sees f ts ≡ true → sees g ts ≡ true
  sees_either f g x h [] k = absurd (cc)
  sees_either f g x h (t ∷ ts) k = h t k

  head_opens : (s : List Expr) (b : List Token) (y : Expr) (rest : List Token) → IsHead b y → may_follow s y ≡ true → sees (starts_head s) (b ++ rest) ≡ true
  head_opens s b y rest (inl p) h =
      by_follow s y h (sees (starts_head s) (b ++ rest) ≡ true)
      (λ v q. starts_value (takes_value s) (all_pointed s) v starts_expr (λ t. starts_postfix t || is_print_word t) (b ++ rest) (exact.expr_starts b y rest p))
      (λ k i. starts_pointed (takes_value s) (all_pointed s) k starts_expr (λ t. starts_postfix t || is_print_word t) (b ++ rest)
      (sees_either starts_postfix (λ t. starts_postfix t || is_print_word t) true (λ t j. or_left (starts_postfix t) (is_print_word t) j) (b ++ rest)
      (exact.target_starts b y rest (expr_postfix b y p i, i))))
  head_opens s b y rest (inr p) h =
      by_follow s y h (sees (starts_head s) (b ++ rest) ≡ true)
      (λ v q. let k = print_name_print b y p in absurd (cc))
      (λ k i. starts_pointed (takes_value s) (all_pointed s) k starts_expr (λ t. starts_postfix t || is_print_word t) (b ++ rest)
      (sees_either is_print_word (λ t. starts_postfix t || is_print_word t) true (λ t j. or_right (starts_postfix t) (is_print_word t) j) (b ++ rest) (print_opens b y rest p)))

  or_elim : (x y : Bool) → x || y ≡ true → (P : Type 0) → (x ≡ true → P) → (y ≡ true → P) → P
  or_elim true y h P f g = f refl
  or_elim false y h P f g = g h

  and_right : (x y : Bool) → x && y ≡ true → y ≡ true
  and_right true y h = h
  and_right false y h = absurd (cc)

  head_own : (s : List Expr) (t : Token) → starts_head s t ≡ true → row_on t ≡ true
  head_own s t h =
      or_elim (takes_value s && starts_expr t) (all_pointed s && (starts_postfix t || is_print_word t)) h (row_on t ≡ true)
      (λ k. starts_row t (and_right (takes_value s) (starts_expr t) k))
      (λ k. or_elim (starts_postfix t) (is_print_word t) (and_right (all_pointed s) (starts_postfix t || is_print_word t) k) (row_on t ≡ true)
      (λ i. starts_row t (postfix_starts_expr t i)) (print_row t))

  pub head_given : Allowed is_comma IsHead may_follow starts_head expr_on row_on
  head_given = record { opens = head_opens; own = head_own; own_separator = comma_row; wider = row_expr; ends_before = comma_ends }

  -- ---- what ends a row

  -- the items within a statement
  pub value_law : (n : ℕ) (ts : List Token) → Law IsItems (Limited IsItems (Low n)) simple_on ts (items r n ts)
  value_law n ts = wider_law IsItems (Limited IsItems (Low n)) items_on simple_on simple_items ts (items r n ts) (items_law r exact n ts)

  pub assign_law : (n : ℕ) → 2 ≤ n → (o : Option Targets) → LowTargets n o → (ts : List Token) → Law (AssignTo o) (Limited (AssignTo o) (LowStmt n)) simple_on ts (reading.assign r n o ts)
  unfolding reading.assign
  assign_law n some None low ts = nothing_law (LowStmt n) simple_on ts
  assign_law n some (Some t) low ts =
      open_limited is_equals (λ _. Made IsItems (λ y. stmt.Assign (node_of_targets t) t y)) (LowStmt n) simple_on
      (λ u h. (x_token ∷ [], stmt.Assign (node_of_targets t) t x_tree, ((x_tree, least_items, refl), let k = assign_height t x_tree in let l = height-Name (node_at x_token) (codes "x") in omega arith)))
      ts (λ _. items r (n - 1) >>= λ y. pure (stmt.Assign (node_of_targets t) t y))
      (λ u us h k. made_limited IsItems simple_on (λ y. stmt.Assign (node_of_targets t) t y) (Low (n - 1)) (LowStmt n)
      (record { grows = λ y f. let i = assign_height t y in omega arith; shrinks = λ y f. let i = assign_height t y in omega arith })
      us (items r (n - 1) us) (value_law (n - 1) us))

  evaluate_is : (b : Bool) (x : Expr) (ts : List Token) → (b ≡ true → reading.evaluate r b x ts ≡ pure (evaluated x) ts) × (b ≡ false → reading.evaluate r b x ts ≡ Stopped Unexpected ts)
  unfolding reading.evaluate
  evaluate_is true x ts = ((λ h. refl), (λ h. absurd (cc)))
  evaluate_is false x ts = ((λ h. absurd (cc)), (λ h. refl))

  pub evaluate_law : (n : ℕ) (b : Bool) (x : Expr) → height_of_expr x < n → (ts : List Token) → Law (Sure b (evaluated x)) (Limited (Sure b (evaluated x)) (LowStmt n)) simple_on ts (reading.evaluate r b x ts)
  evaluate_law n b x low ts =
      sure_law (LowStmt n) simple_on b (evaluated x) (let k = evaluated_height x in omega arith) (reading.evaluate r b x) ts (evaluate_is b x ts).0 (evaluate_is b x ts).1

  assign_opens : (o : Option Targets) (a : List Token) (v : Stmt) (s : List Token) → AssignTo o a v → sees is_equals (a ++ s) ≡ true
  assign_opens None a v s g = absurd g
  assign_opens (Some t) a v s g = ap (λ z. sees is_equals (z ++ s)) g.2 ∙ g.3

  equals_misses : (s : List Token) → Free simple_on s → sees is_equals s ≡ false
  equals_misses [] free = refl
  equals_misses (t ∷ s) free =
      let go : (x : Bool) → is_equals t ≡ x → x ≡ false = elim [ true ↦ λ e. let k = equals_simple t e in absurd (cc) | false ↦ λ e. refl ] in
      go (is_equals t) refl

  sure_misses : {A : Type 0} (test : Token → Bool) (b : Bool) (w : A) (a : List Token) (v : A) (s : List Token) → ((us : List Token) → Free simple_on us → sees test us ≡ false) → Sure b w a v → Free simple_on s → sees test (a ++ s) ≡ false
  sure_misses test b w a v s h g free = ap (λ z. sees test (z ++ s)) g.1 ∙ h s free

  several_low : (n : ℕ) (s : List Expr) → 1 ≤ n → FitEach (Low (n - 2)) s → 2 ≤ n → (o : Option (List Target)) → targets_of s ≡ o → 3 ≤ n → LowTargets n (several_targets o)
  several_low n s some f two None h three = tt
  several_low n s some f two (Some []) h three = tt
  several_low n s some f two (Some (w ∷ ws)) h three =
      let k = targets_height s (w ∷ ws) h in
      let l = highest_up (n - 2) s f in
      omega arith

  pub row_end_law : (n : ℕ) → 3 ≤ n → (x : Expr) (s : List Expr) → FitEach (Low (n - 2)) s → (ts : List Token) → Law (RowEnd x s) (Limited (RowEnd x s) (LowStmt n)) simple_on ts (reading.row_end r n x s ts)
  unfolding reading.row_end
  row_end_law n three x s f ts =
      either_law (AssignTo (several_targets (targets_of s))) (Sure (is_value s) (evaluated (e.Tuple (node_of x) Bare s))) (LowStmt n) simple_on is_equals
      (λ a v us g. assign_opens (several_targets (targets_of s)) a v us g)
      (λ a v us g free. sure_misses is_equals (is_value s) (evaluated (e.Tuple (node_of x) Bare s)) a v us equals_misses g free)
      (reading.assign r n (several_targets (targets_of s))) (reading.evaluate r (is_value s) (e.Tuple (node_of x) Bare s)) ts
      (λ h. assign_law n (omega arith) (several_targets (targets_of s)) (several_low n s (omega arith) f (omega arith) (targets_of s) refl three) ts)
      (λ h. evaluate_law n (is_value s) (e.Tuple (node_of x) Bare s) (let k = height-Tuple (node_of x) Bare s in let l = highest_up (n - 2) s f in omega arith) ts)
