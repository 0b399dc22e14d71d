-- The law of expressions with commas.
use Rattle.std.proofs.Common.{◌≡◌, ℕ, ◌-◌, ◌<◌, ◌≤◌, nat_lt, Bool, true, false, List, [], ◌∷◌, ◌++◌, refl, sym, ◌∙◌, ap, subst, inl, inr, arith}
use Rattle.std.proofs.lemmas.List.{append-nil}
use Rattle.std.proofs.lemmas.Bool.{ltb-true, lt-ltb}
use Rattle.indent_lexer.specs.declared.token.Token.{Token}
use Rattle.source_trees.specs.declared.expression.Commas.TheVariants.{Bare}
use Rattle.source_trees.specs.declared.expression.Expr.{Expr}
use Rattle.source_trees.specs.declared.expression.Expr.TheVariants as e
use Rattle.source_trees.specs.Heights.{height_of_expr}
use Rattle.parse_expressions.proofs.Heights.{height-Tuple}
use Rattle.parse_expressions.proofs.Lows.{highest_up, highest_down}
use Rattle.parse_laws.specs.Parser.{sees, pure, choose, within}
use Rattle.parse_laws.specs.Language.{Language, Free, Law}
use Rattle.parse_laws.specs.Forms.{Then, Is, Either}
use Rattle.parse_laws.specs.Limits.{Limited, Joins}
use Rattle.parse_laws.specs.Loops.{Listed, last, trailing, another, done, starts_in}
use Rattle.parse_laws.proofs.Limits.{same_law, join_law, optional_law, limit_law}
use Rattle.parse_laws.proofs.Lists.{FitEach}
use Rattle.grammar_rules.specs.Expressions.{node_of, IsExpr, IsRow, last as row_last, trailing as row_trailing, another as row_another}
use Rattle.grammar_rules.specs.Simple.{IsItems, item, tuple}
use Rattle.grammar_rules.specs.Words.{is_comma, most_items}
use Rattle.parse_expressions.specs.Forms.{Low}
use Rattle.parse_statements.specs.Readers.{Readers, Exact, starts_expr, expr_on, has_room}
use Rattle.parse_statements.specs.Items.{items_on, tuple_after, items}
use Rattle.parse_statements.proofs.Commas.{Allowed, ItemAfter, ListedBy, Following, Tail, first_kept, list_parts, parts_list, following_law, up_to, most_of, grows_of, and_second, sees_both, sees_first}
use Rattle.parse_laws.proofs.Forms.{wider_at, rename_law}
use Rattle.parse_statements.proofs.Marks.{items_wider, comma_ends, comma_own, starts_own}

-- ---- rows as lists

pub row_list : (a : List Token) (w : List Expr × Bool) → IsRow a w → Listed is_comma IsExpr a w
row_list _ _ (row_last a x p) = last a x p
row_list _ _ (row_trailing a x t p h) = trailing a x t p h
row_list _ _ (row_another a x t b xs more p h rest) = another a x t b xs more p h (row_list b (xs, more) rest)

pub list_row : (a : List Token) (w : List Expr × Bool) → Listed is_comma IsExpr a w → IsRow a w
list_row _ _ (last a x p) = row_last a x p
list_row _ _ (trailing a x t p h) = row_trailing a x t p h
list_row _ _ (another a x t b xs more p h rest) = row_another a x t b xs more p h (list_row b (xs, more) rest)

-- ---- the language

abbrev pub paired : Expr → List Expr → Expr
paired x xs = e.Tuple (node_of x) Bare xs

abbrev pub Others : Expr → Language Token Expr
Others x = Following is_comma IsExpr (up_to most_items) (paired x) x

abbrev pub ItemsTail : Expr → Language Token Expr
ItemsTail x = Either (Others x) (Is x)

abbrev ListedItems : Language Token (List Expr × Bool)
ListedItems = ListedBy is_comma IsExpr (up_to most_items)

items_up : (a : List Token) (w : Expr) → Then IsExpr ItemsTail a w → IsItems a w
items_up a w g =
    let go : ItemsTail g.value g.second w → IsItems a w = elim [
      | inl k ↦
          let d = first_kept is_comma IsExpr (up_to most_items) (λ s. s) g.value g.second k.4.0.0 (k.0, k.1, k.2, k.3, (k.4.0, k.4.1, refl)) in
          let l : ListedItems a (k.4.0.0, true) =
          parts_list is_comma IsExpr (up_to most_items) a (k.4.0.0, true)
          (record { first = g.first; second = g.second; value = g.value; joined = g.joined; heads = (g.heads, refl); tails = inl (k.0, k.1, k.2, k.3, (k.4.0, k.4.1, refl)) }) in
          let P : List Expr → Type 0 = λ z. ListedItems a (z, true) in
          let l2 = subst P d.1 l in
          let Q : Expr → Type 0 = λ z. IsItems a z in
          subst Q (sym (k.4.2 ∙ ap (paired g.value) d.1))
          (tuple a g.value d.0 (list_row a (g.value ∷ d.0, true) l2.0) (let small = most_of most_items [] (g.value ∷ d.0) (omega arith) l2.1 in omega arith))
      | inr k ↦
          let P : List Token → Type 0 = λ z. IsExpr z g.value in
          let Q : Expr → Type 0 = λ z. IsItems a z in
          subst Q (sym k.1) (item a g.value (row_last a g.value (subst P (sym (g.joined ∙ ap (λ z. g.first ++ z) k.0 ∙ append-nil g.first)) g.heads)))
    ] in
    go g.tails

single_tail : (x y : Expr) (c : List Token) → Tail is_comma IsExpr (up_to most_items) y c (x ∷ [], false) → (c ≡ []) × (x ≡ y)
single_tail x y c (inl k) = let bad : false ≡ true = ap (λ z. z.1) k.4.2 in absurd (cc)
single_tail x y c (inr k) = let same : x ∷ [] ≡ y ∷ [] = ap (λ z. z.0) k.1 in (k.0, cc)

several_tail : (y : Expr) (xs : List Expr) (c : List Token) → Tail is_comma IsExpr (up_to most_items) y c (xs, true) → ItemsTail y c (paired y xs) × (ys : List Expr) × (xs ≡ y ∷ ys)
several_tail y xs c (inl k) =
    let d = first_kept is_comma IsExpr (up_to most_items) (λ s. (s, true)) y c (xs, true) k in
    let same : xs ≡ k.4.0.0 = ap (λ z. z.0) k.4.2 in
    (inl (k.0, k.1, k.2, k.3, (k.4.0, k.4.1, ap (paired y) same)), d.0, ap (λ z. z.0) d.1)
several_tail y xs c (inr k) = let bad : true ≡ false = ap (λ z. z.1) k.1 in absurd (cc)

items_down : (a : List Token) (w : Expr) → IsItems a w → Then IsExpr ItemsTail a w
items_down _ _ (item a x p) =
    let g = list_parts is_comma IsExpr (up_to most_items) a (x ∷ [], false) (row_list a (x ∷ [], false) p, (refl, tt)) in
    let k = single_tail x g.value g.second g.tails in
    record { first = g.first; second = g.second; value = g.value; joined = g.joined; heads = g.heads.0; tails = inr (k.0, k.1) }
items_down _ _ (tuple a x xs p small) =
    let g = list_parts is_comma IsExpr (up_to most_items) a (x ∷ xs, true) (row_list a (x ∷ xs, true) p, grows_of most_items [] (x ∷ xs) (omega arith)) in
    let k = several_tail g.value (x ∷ xs) g.second g.tails in
    let same : g.value ≡ x = let h : x ∷ xs ≡ g.value ∷ k.1 = k.2 in cc in
    let P : Expr → Type 0 = λ z. ItemsTail g.value g.second (e.Tuple (node_of z) Bare (x ∷ xs)) in
    record { first = g.first; second = g.second; value = g.value; joined = g.joined; heads = g.heads.0; tails = subst P same k.0 }

-- ---- the law

-- the first item is lower than the tuple
others_high : (n : ℕ) (x : Expr) (a : List Token) (w : Expr) → Others x a w → Low n w → height_of_expr x < n
others_high n x a w g f =
    let d = first_kept is_comma IsExpr (up_to most_items) (paired x) x a w g in
    let P : Expr → Type 0 = λ z. Low n z in
    let l = height-Tuple (node_of x) Bare (x ∷ d.0) in
    let k : height_of_expr (paired x (x ∷ d.0)) ≤ n = subst P d.1 f in
    omega arith

too_high : (n : ℕ) (x : Expr) → nat_lt (height_of_expr x) n ≡ false → (a : List Token) (w : Expr) → Others x a w → Low n w → ⊥
too_high n x full a w g f = let k = lt-ltb (height_of_expr x) n (others_high n x a w g f) in cc

tail_apart : (x : Expr) (c : List Token) (w : Expr) (s : List Token) → ItemsTail x c w → Free items_on s → Free expr_on (c ++ s)
tail_apart x c w s (inl g) free = ap (λ z. sees expr_on (z ++ s)) g.2 ∙ comma_ends g.0 g.3
tail_apart x c w s (inr g) free = ap (λ z. sees expr_on (z ++ s)) g.0 ∙ wider_at expr_on items_on items_wider s free

tail_shrinks : (n : ℕ) (x : Expr) (c : List Token) (w : Expr) → ItemsTail x c w → Low n w → Low n x
tail_shrinks n x c w (inl g) f = let k = others_high n x c w g f in omega arith
tail_shrinks n x c w (inr g) f = let P : Expr → Type 0 = λ z. Low n z in subst P g.1 f

module _ (r : Readers) (exact : Exact r) where
  given : Allowed is_comma IsExpr (up_to most_items) (starts_in has_room starts_expr) expr_on items_on
  given = record {
    opens = λ s b y rest p h. sees_both (has_room s) starts_expr (b ++ rest) h (exact.expr_starts b y rest p);
    own = λ s t h. starts_own t (and_second (has_room s) (starts_expr t) h);
    own_separator = comma_own;
    wider = items_wider;
    ends_before = comma_ends;
  }

  item_law : (n : ℕ) (s : List Expr) → FitEach (Low n) s → (ts : List Token) → sees (starts_in has_room starts_expr s) ts ≡ true
      → Law (ItemAfter is_comma IsExpr (up_to most_items) s) (Limited (ItemAfter is_comma IsExpr (up_to most_items) s) (Low n)) expr_on ts (r.expr n ts)
  item_law n s f ts h =
      let some : has_room s ≡ true = sees_first (has_room s) starts_expr ts h in
      rename_law IsExpr (Limited IsExpr (Low n)) (ItemAfter is_comma IsExpr (up_to most_items) s) (Limited (ItemAfter is_comma IsExpr (up_to most_items) s) (Low n)) expr_on
      (λ b y g. (g, some)) (λ b y g. ((g.0, some), g.1)) (λ b y g. g.0) (λ b y g. (g.0.0, g.1)) ts (r.expr n ts) (exact.expr_law n ts)

  others_law : (n : ℕ) (x : Expr) → height_of_expr x < n → (ts : List Token) → Law (Others x) (Limited (Others x) (Low n)) items_on ts (tuple_after r (n - 1) x ts)
  unfolding tuple_after
  others_law n x h ts =
      following_law is_comma IsExpr (up_to most_items) (Low (n - 1)) (starts_in has_room starts_expr) expr_on items_on given (λ _. r.expr (n - 1)) (item_law (n - 1)) (paired x) (Low n)
      (record {
        grows = λ xs f. let k = highest_up (n - 1) xs f in let l = height-Tuple (node_of x) Bare xs in omega arith;
        shrinks = λ xs f. let l = height-Tuple (node_of x) Bare xs in highest_down (n - 1) xs (omega arith);
      }) x (omega arith) ts

  tail_law : (n : ℕ) (x : Expr) → Low n x → (ts : List Token)
      → Law (ItemsTail x) (Limited (ItemsTail x) (Low n)) items_on ts (choose is_comma (within (nat_lt (height_of_expr x) n) (tuple_after r (n - 1) x)) (pure x) ts)
  tail_law n x low ts =
      optional_law (Others x) x (Low n) low items_on is_comma (λ a w s g. ap (λ z. sees is_comma (z ++ s)) g.2 ∙ g.3) comma_own
      (within (nat_lt (height_of_expr x) n) (tuple_after r (n - 1) x)) ts
      (λ h. limit_law (Others x) (Low n) items_on is_comma (nat_lt (height_of_expr x) n)
      (λ t i. ([], paired x (x ∷ []), (t, [], refl, i, ((x ∷ [], true), done (x ∷ [], true), refl))))
      (λ full a w s g f free i. too_high n x full a w g f)
      (tuple_after r (n - 1) x) ts h (λ some. others_law n x (ltb-true (height_of_expr x) n some) ts))

  joins : (n : ℕ) → Joins IsExpr expr_on ItemsTail items_on (Low n) (Low n)
  joins n = record {
    apart = λ a x g c w s h free. tail_apart x c w s h free;
    ends = λ a x g. ([], x, inr (refl, refl));
    ends_within = λ a x g f. ([], x, (inr (refl, refl), f));
    shrinks = λ a x g c w h f. tail_shrinks n x c w h f;
  }

  pub items_law : (n : ℕ) (ts : List Token) → Law IsItems (Limited IsItems (Low n)) items_on ts (items r n ts)
  unfolding items
  items_law n ts =
      same_law (Then IsExpr ItemsTail) IsItems (Low n) items_on items_up items_down ts _
      (join_law IsExpr expr_on ItemsTail items_on (Low n) (Low n) (joins n) ts (r.expr n ts) (exact.expr_law n ts)
      (λ x. choose is_comma (within (nat_lt (height_of_expr x) n) (tuple_after r (n - 1) x)) (pure x))
      (λ used x rest g f e. tail_law n x f rest))
