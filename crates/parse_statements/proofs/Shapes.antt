-- Simple statements that begin with an expression or a target, as the grammar writes them and as they are read.
use Rattle.std.proofs.Common.{◌≡◌, ℕ, ◌+◌, ◌≤◌, nat_le, Bool, true, false, not, ◌||◌, List, [], ◌∷◌, ◌++◌, length, refl, sym, ◌∙◌, ap, subst, append_assoc, ◌⊎◌, inl, inr, Option, Some, None, arith}
use Rattle.std.specs.List.{list_any}
use Rattle.std.proofs.lemmas.List.{append-nil, length-append}
use Rattle.std.proofs.lemmas.Bool.{leb-true, le-leb, lt-ltb}
use Rattle.indent_lexer.specs.declared.token.Token.{Token}
use Rattle.source_trees.specs.declared.expression.Commas.TheVariants.{Bare}
use Rattle.source_trees.specs.declared.expression.Expr.{Expr}
use Rattle.source_trees.specs.declared.expression.Expr.TheVariants as e
use Rattle.source_trees.specs.declared.item.Annotation.{Annotation}
use Rattle.source_trees.specs.declared.node.Name.{Name}
use Rattle.source_trees.specs.declared.node.Node.{Node}
use Rattle.source_trees.specs.declared.statement.Stmt.{Stmt}
use Rattle.source_trees.specs.declared.statement.Stmt.TheVariants as stmt
use Rattle.source_trees.specs.declared.statement.Target.{Target}
use Rattle.source_trees.specs.declared.statement.Target.TheVariants as target
use Rattle.source_trees.specs.declared.statement.Targets.{Targets}
use Rattle.source_trees.specs.declared.statement.Targets.TheVariants as targets
use Rattle.parse_laws.specs.Parser.{in_table}
use Rattle.parse_laws.specs.Language.{Language}
use Rattle.parse_laws.specs.Forms.{Then}
use Rattle.parse_laws.specs.Loops.{Listed, last, trailing, another}
use Rattle.grammar_rules.specs.Expressions.{node_of, IsExpr, IsRow}
use Rattle.grammar_rules.specs.Expressions as e2
use Rattle.grammar_rules.specs.Simple as g2
use Rattle.grammar_rules.specs.Simple.{IsItems, item, tuple, IsTarget, name, IsTargets, one, several, node_of_target, node_of_targets, IsSimple, IsStages}
use Rattle.grammar_rules.specs.Types.{IsType}
use Rattle.grammar_rules.specs.Words.{is_comma, name_of, name_at, named_by, node_at, most_items}
use Rattle.parse_expressions.proofs.Opens.{name_spelling}
use Rattle.parse_statements.specs.Targets.{both, target_of, targets_of, is_pointed, is_print, IsPointed, IsPrintName}
use Rattle.parse_statements.specs.Readers.{has_room}
use Rattle.parse_statements.specs.Heads.{is_equals, all_pointed, no_print, may_follow, one_target, several_targets, evaluated}
use Rattle.parse_statements.specs.Forms.{IsHead, AssignTo, UpdateTo, RowEnd, RowTail}
use Rattle.parse_statements.specs.Simple.{Follow, Comma, Equals, Augmented, Piped, Colon, Over, annotation_of, ValueOf, AnnotateAs, TailOf, HeadTail, is_colon}
use Rattle.parse_statements.proofs.Commas.{GrowsBy, Tail, row_first, followed, list_parts}
use Rattle.parse_statements.proofs.Heads.{head_expr}
use Rattle.parse_statements.proofs.Items.{row_list, list_row}
use Rattle.parse_statements.proofs.States.{may_value, may_target, and_both, both_true, pointed_snoc, print_snoc, some_same}
use Rattle.parse_statements.proofs.Targets.{target_expr, postfix_target, expr_postfix, postfix_expr, print_target, expr_not_print}

abbrev pub Headed : Language Token Stmt
Headed = Then IsHead HeadTail

-- ---- one target

pub head_target : (a : List Token) (x : Expr) (w : Target) → IsHead a x → target_of x ≡ Some w → IsTarget a w
head_target a x w (inl p) h = postfix_target a x w (expr_postfix a x p (ap in_table h)) h
head_target a x w (inr p) h = print_target a x w p h

-- the target as it is read
pub target_head : (a : List Token) (w : Target) → IsTarget a w → (x : Expr) × IsHead a x × (target_of x ≡ Some w)
target_head a w p =
    let k = target_expr a w p in
    let go : (IsPointed a k.0 ⊎ IsPrintName a k.0) → IsHead a k.0 = elim [ inl i ↦ inl (postfix_expr a k.0 i.0) | inr i ↦ inr i ] in
    (k.0, go k.2, k.1)

-- ---- targets with commas

abbrev Heads : Language Token (List Expr × Bool)
Heads = Listed is_comma IsHead

targets_cons : (x : Expr) (w : Target) (s : List Expr) (ws : List Target) → target_of x ≡ Some w → targets_of s ≡ Some ws → targets_of (x ∷ s) ≡ Some (w ∷ ws)
targets_cons x w s ws h k = ap (λ z. both z (targets_of s)) h ∙ ap (both (Some w)) k

pub listed_heads : (a : List Token) (p : List Target × Bool) → Listed is_comma IsTarget a p → (s : List Expr) × Heads a (s, p.1) × (targets_of s ≡ Some p.0)
listed_heads _ _ (last a w p) = let k = target_head a w p in (k.0 ∷ [], last a k.0 k.1, targets_cons k.0 w [] [] k.2 refl)
listed_heads _ _ (trailing a w t p h) = let k = target_head a w p in (k.0 ∷ [], trailing a k.0 t k.1 h, targets_cons k.0 w [] [] k.2 refl)
listed_heads _ _ (another a w t b ws more p h rest) =
    let k = target_head a w p in
    let l = listed_heads b (ws, more) rest in
    (k.0 ∷ l.0, another a k.0 t b l.0 more k.1 h l.1, targets_cons k.0 w l.0 ws k.2 l.2)

both_parts : (o : Option Target) (p : Option (List Target)) (ws : List Target) → both o p ≡ Some ws → (w : Target) × (vs : List Target) × (o ≡ Some w) × (p ≡ Some vs) × (ws ≡ w ∷ vs)
both_parts (Some w) (Some vs) ws h = (w, vs, refl, refl, some_same ws (w ∷ vs) (sym h))
both_parts (Some w) None ws h = absurd (cc)
both_parts None p ws h = absurd (cc)

pub heads_listed : (a : List Token) (p : List Expr × Bool) → Heads a p → (ws : List Target) → targets_of p.0 ≡ Some ws → Listed is_comma IsTarget a (ws, p.1)
heads_listed _ _ (last a x p) ws h =
    let k = both_parts (target_of x) (targets_of []) ws h in
    let none : k.1 ≡ [] = some_same _ _ (sym k.3) in
    let P : List Target → Type 0 = λ z. Listed is_comma IsTarget a (z, false) in
    subst P (sym (k.4 ∙ ap (λ z. k.0 ∷ z) none)) (last a k.0 (head_target a x k.0 p k.2))
heads_listed _ _ (trailing a x t p i) ws h =
    let k = both_parts (target_of x) (targets_of []) ws h in
    let none : k.1 ≡ [] = some_same _ _ (sym k.3) in
    let P : List Target → Type 0 = λ z. Listed is_comma IsTarget (a ++ t ∷ []) (z, true) in
    subst P (sym (k.4 ∙ ap (λ z. k.0 ∷ z) none)) (trailing a k.0 t (head_target a x k.0 p k.2) i)
heads_listed _ _ (another a x t b xs more p i rest) ws h =
    let k = both_parts (target_of x) (targets_of xs) ws h in
    let P : List Target → Type 0 = λ z. Listed is_comma IsTarget (a ++ t ∷ b) (z, true) in
    subst P (sym k.4) (another a k.0 t b k.1 more (head_target a x k.0 p k.2) i (heads_listed b (xs, more) rest k.1 k.3))

pointed_parts : (x : Expr) (s : List Expr) → all_pointed (x ∷ s) ≡ true → (is_pointed x ≡ true) × (all_pointed s ≡ true)
pointed_parts x s h =
    let go : (o : Option Target) (p : Option (List Target)) → in_table (both o p) ≡ true → (in_table o ≡ true) × (in_table p ≡ true) = elim [
      | Some w ↦ elim [ Some ws ↦ λ k. (refl, refl) | None ↦ λ k. absurd (cc) ]
      | None ↦ λ p k. absurd (cc)
    ] in
    go (target_of x) (targets_of s) h

grows_pointed : (v ys : List Expr) → all_pointed v ≡ true → all_pointed ys ≡ true → GrowsBy may_follow v ys
grows_pointed v [] h k = tt
grows_pointed v (y ∷ ys) h k =
    let l = pointed_parts y ys k in
    (may_target v y h l.0, grows_pointed (v ++ y ∷ []) ys (pointed_snoc v y h l.0) l.1)

-- ---- values with commas

row_heads : (a : List Token) (p : List Expr × Bool) → Listed is_comma IsExpr a p → Heads a p × (no_print p.0 ≡ true)
row_heads _ _ (last a x p) = (last a x (inl p), ap (λ z. not (z || false)) (expr_not_print a x p))
row_heads _ _ (trailing a x t p h) = (trailing a x t (inl p) h, ap (λ z. not (z || false)) (expr_not_print a x p))
row_heads _ _ (another a x t b xs more p h rest) =
    let k = row_heads b (xs, more) rest in
    (another a x t b xs more (inl p) h k.0, ap (λ z. not (z || list_any is_print xs)) (expr_not_print a x p) ∙ k.1)

print_parts : (x y : Bool) → not (x || y) ≡ true → (x ≡ false) × (not y ≡ true)
print_parts true y h = absurd (cc)
print_parts false y h = (refl, h)

heads_row : (a : List Token) (p : List Expr × Bool) → Heads a p → no_print p.0 ≡ true → Listed is_comma IsExpr a p
heads_row _ _ (last a x p) h = last a x (head_expr a x p (print_parts (is_print x) false h).0)
heads_row _ _ (trailing a x t p i) h = trailing a x t (head_expr a x p (print_parts (is_print x) false h).0) i
heads_row _ _ (another a x t b xs more p i rest) h =
    let k = print_parts (is_print x) (list_any is_print xs) h in
    another a x t b xs more (head_expr a x p k.0) i (heads_row b (xs, more) rest k.1)

grows_values : (v ys : List Expr) → no_print v ≡ true → no_print ys ≡ true → length v + length ys ≤ most_items → GrowsBy may_follow v ys
grows_values v [] h k l = tt
grows_values v (y ∷ ys) h k l =
    let i = print_parts (is_print y) (list_any is_print ys) k in
    let m : length (v ++ y ∷ []) ≡ length v + 1 = length-append v (y ∷ []) in
    let j : length (y ∷ ys) ≡ length ys + 1 = omega arith in (
      may_value v y (both_true (has_room v) (no_print v) (lt-ltb (length v) most_items (omega arith)) h) i.0,
      grows_values (v ++ y ∷ []) ys (print_snoc v y h i.0) i.1 (omega arith),
    )

-- ---- as they are read

-- items with a comma, and their end
pub row_headed : (a : List Token) (x : Expr) (xs : List Expr) → Heads a (x ∷ xs, true) → GrowsBy may_follow [] (x ∷ xs) → (b : List Token) (w : Stmt) → RowEnd x (x ∷ xs) b w → Headed (a ++ b) w
row_headed a x xs g grows b w q =
    let k = list_parts is_comma IsHead may_follow a (x ∷ xs, true) (g, grows) in
    let go : Tail is_comma IsHead may_follow k.value k.second (x ∷ xs, true) → Headed (a ++ b) w = elim [
      | inl m ↦
          let i = m.4 in
          let whole : i.0.0 ≡ x ∷ xs = sym (ap (λ z. z.0) i.2) in
          let first = row_first is_comma IsHead may_follow k.value m.1 i.0 i.1 in
          let same : x ≡ k.value = let h : x ∷ xs ≡ k.value ∷ first.0 = sym whole ∙ first.1 in cc in
          let P : Expr → Type 0 = λ z. RowEnd z (x ∷ xs) b w in
          let Q : List Expr → Type 0 = λ z. RowEnd k.value z b w in
          record {
            first = k.first;
            second = k.second ++ b;
            value = k.value;
            joined = ap (λ z. z ++ b) k.joined ∙ append_assoc k.first k.second b;
            heads = k.heads.0;
            tails = (
              Comma,
              (
                m.0,
                m.1 ++ b,
                ap (λ z. z ++ b) m.2,
                m.3,
                record { first = m.1; second = b; value = i.0; joined = refl; heads = i.1; tails = subst Q (sym whole) (subst P same q) },
              ),
            );
          }
      | inr m ↦ let bad : true ≡ false = ap (λ z. z.1) m.1 in absurd (cc)
    ] in
    go k.tails

assign_several : (a : List Token) (vs : List Target) (w : Target) (ws : List Target) → vs ≡ w ∷ ws → (s : List Expr) → Heads a (s, true) → targets_of s ≡ Some vs
    → (t : Token) (b : List Token) (y : Expr) → is_equals t ≡ true → IsItems b y → Headed (a ++ t ∷ b) (stmt.Assign (node_of_target w) (targets.Several (node_of_target w) (w ∷ ws)) y)
assign_several a vs w ws e [] g k t b y h q =
    let bad : [] ≡ w ∷ ws = some_same _ _ k ∙ e in absurd (cc)
assign_several a vs w ws e (x ∷ xs) g k t b y h q =
    let v = stmt.Assign (node_of_target w) (targets.Several (node_of_target w) (w ∷ ws)) y in
    let P : Option Targets → Type 0 = λ z. AssignTo z (t ∷ b) v in
    let m : several_targets (targets_of (x ∷ xs)) ≡ Some (targets.Several (node_of_target w) (w ∷ ws)) = ap several_targets (k ∙ ap (λ z. Some z) e) in
    row_headed a x xs g (grows_pointed [] (x ∷ xs) refl (ap in_table k)) (t ∷ b) v (inl (subst P (sym m) (t, b, refl, h, (y, q, refl))))

pub assign_headed : (a : List Token) (x : Targets) (t : Token) (b : List Token) (y : Expr) → IsTargets a x → is_equals t ≡ true → IsItems b y → Headed (a ++ t ∷ b) (stmt.Assign (node_of_targets x) x y)
assign_headed _ _ t b y (one a w p) h q =
    let k = target_head a w p in
    let P : Option Targets → Type 0 = λ z. AssignTo z (t ∷ b) (stmt.Assign (node_of_target w) (targets.One w) y) in
    record { first = a; second = t ∷ b; value = k.0; joined = refl; heads = k.1; tails = (Equals, subst P (sym (ap one_target k.2)) (t, b, refl, h, (y, q, refl))) }
assign_headed _ _ t b y (several a w ws p) h q =
    let k = listed_heads a (w ∷ ws, true) p in
    assign_several a (w ∷ ws) w ws refl k.0 k.1 k.2 t b y h q

row_one : (a : List Token) (w : List Expr × Bool) → IsRow a w → (x : Expr) → w ≡ (x ∷ [], false) → IsExpr a x
row_one _ _ (e2.last a y p) x h = let k : y ∷ [] ≡ x ∷ [] = ap (λ z. z.0) h in let same : y ≡ x = cc in let P : Expr → Type 0 = λ z. IsExpr a z in subst P same p
row_one _ _ (e2.trailing a y t p i) x h = let k : true ≡ false = ap (λ z. z.1) h in absurd (cc)
row_one _ _ (e2.another a y t b ys more p i rest) x h = let k : true ≡ false = ap (λ z. z.1) h in absurd (cc)

row_expr_one : (a : List Token) (x : Expr) → IsRow a (x ∷ [], false) → IsExpr a x
row_expr_one a x p = row_one a (x ∷ [], false) p x refl

pub items_headed : (a : List Token) (x : Expr) → IsItems a x → Headed a (evaluated x)
items_headed _ _ (item a x p) =
    let q = row_expr_one a x p in
    record { first = a; second = []; value = x; joined = sym (append-nil a); heads = inl q; tails = (Over, (ap not (expr_not_print a x q), refl, refl)) }
items_headed _ _ (tuple a x xs p small) =
    let k = row_heads a (x ∷ xs, true) (row_list a (x ∷ xs, true) p) in
    let P : List Token → Type 0 = λ z. Headed z (evaluated (e.Tuple (node_of x) Bare (x ∷ xs))) in
    subst P (append-nil a)
    (row_headed a x xs k.0 (grows_values [] (x ∷ xs) refl k.1 (omega arith)) [] (evaluated (e.Tuple (node_of x) Bare (x ∷ xs)))
    (inr (both_true (nat_le (length (x ∷ xs)) most_items) (no_print (x ∷ xs)) (le-leb (length (x ∷ xs)) most_items small) k.1, refl, refl)))

pub named_head : (t : Token) (name : Name) → name_at t ≡ Some name → (x : Expr) × IsHead (t ∷ []) x × (target_of x ≡ Some (target.Name name.node name.spelling))
named_head t m h =
    let k = name_spelling t m (name_of t) refl h in
    let l = target_head (t ∷ []) (target.Name (node_at t) k.0) (name t k.0 k.1) in
    (l.0, l.1, l.2 ∙ ap (λ z. Some (target.Name z.node z.spelling)) (sym k.2))

-- what is annotated
pub note_headed : (t : Token) (m : Name) → name_at t ≡ Some m → (colon : Token) → is_colon colon ≡ true → (a : List Token) (type : Annotation) → IsType a type → (b : List Token) (v : Option Expr)
    → ValueOf m.node m.spelling type b (annotation_of m.node m.spelling type v) → Headed (t ∷ colon ∷ (a ++ b)) (stmt.Annotated (node_at t) m type v)
note_headed t m h colon i a type p b v q =
    let k = named_head t m h in
    let n = name_spelling t m (name_of t) refl h in
    let here : m.node ≡ node_at t = ap (λ z. z.node) n.2 in
    let P : Option Target → Type 0 = λ z. AnnotateAs z (colon ∷ (a ++ b)) (annotation_of m.node m.spelling type v) in
    let Q : Node → Type 0 = λ z. Headed (t ∷ colon ∷ (a ++ b)) (stmt.Annotated z m type v) in
    subst Q here (record {
      first = t ∷ [];
      second = colon ∷ (a ++ b);
      value = k.0;
      joined = refl;
      heads = k.1;
      tails = (Colon, subst P (sym k.2) (colon, a ++ b, refl, i, record { first = a; second = b; value = type; joined = refl; heads = p; tails = q }));
    })

-- ---- as the grammar writes them

simple_here : (a b : List Token) (w v : Stmt) → b ≡ a → w ≡ v → IsSimple b w → IsSimple a v
simple_here a b w v e f p =
    let P : List Token → Type 0 = λ z. IsSimple z v in
    let Q : Stmt → Type 0 = λ z. IsSimple b z in
    subst P e (subst Q f p)

row_simple : (a : List Token) (x : Expr) → IsHead a x → (b : List Token) (w : Stmt) → RowTail x b w → IsSimple (a ++ b) w
row_simple a x p b w g =
    let k = g.4 in
    let l = followed is_comma IsHead may_follow a x k.first k.value g.0 p g.3 k.heads in
    let row = a ++ g.0 ∷ k.first in
    let tokens : row ++ k.second ≡ a ++ b = append_assoc a (g.0 ∷ k.first) k.second ∙ ap (λ z. a ++ z) (ap (λ z. g.0 ∷ z) (sym k.joined) ∙ sym g.2) in
    let assigned : (o : Option (List Target)) → targets_of k.value.0 ≡ o → AssignTo (several_targets o) k.second w → IsSimple (a ++ b) w = elim [
      | Some ws ↦ elim ws as (λ ws. targets_of k.value.0 ≡ Some ws → AssignTo (several_targets (Some ws)) k.second w → IsSimple (a ++ b) w) [
        | [] ↦ λ i j. absurd j
        | v ∷ vs ↦ λ i j.
            let t = heads_listed row (x ∷ l.0, true) l.2 (v ∷ vs) (ap targets_of (sym l.1) ∙ i) in
            simple_here (a ++ b) (row ++ j.0 ∷ j.1) _ w (ap (λ z. row ++ z) (sym j.2) ∙ tokens) (sym j.4.2)
            (g2.assign row (targets.Several (node_of_target v) (v ∷ vs)) j.0 j.1 j.4.0 (several row v vs t) j.3 j.4.1)
      ]
      | None ↦ λ i j. absurd j
    ] in
    let go : RowEnd x k.value.0 k.second w → IsSimple (a ++ b) w = elim [
      | inl i ↦ assigned (targets_of k.value.0) refl i
      | inr i ↦
          let m = and_both (nat_le (length k.value.0) most_items) (no_print k.value.0) i.0 in
          let few : length k.value.0 ≤ most_items = leb-true (length k.value.0) most_items m.0 in
          let small : length (x ∷ l.0) ≤ most_items = let q : length k.value.0 ≡ length (x ∷ l.0) = ap length l.1 in omega arith in
          let r = list_row row (x ∷ l.0, true) (heads_row row (x ∷ l.0, true) l.2 (ap no_print (sym l.1) ∙ m.1)) in
          simple_here (a ++ b) row (evaluated (e.Tuple (node_of x) Bare (x ∷ l.0))) w (sym (append-nil row) ∙ ap (λ z. row ++ z) (sym i.1) ∙ tokens)
          (ap (λ z. evaluated (e.Tuple (node_of x) Bare z)) (sym l.1) ∙ sym i.2)
          (g2.evaluate row (e.Tuple (node_of x) Bare (x ∷ l.0)) (tuple row x l.0 r small))
    ] in
    go k.tails

-- a target that is a name is one token
name_token : (a : List Token) (w : Target) → IsTarget a w → (n : Node) (s : List ℕ) → w ≡ target.Name n s → (t : Token) × (a ≡ t ∷ []) × (name_at t ≡ Some (record { node = n; spelling = s })) × (n ≡ node_at t)
name_token _ _ (name t s k) n u h =
    let same : s ≡ u = cc in
    let here : node_at t ≡ n = cc in
    (t, refl, ap (named_by t) k ∙ ap (λ z. Some (record { node = node_at t; spelling = z })) same ∙ ap (λ z. Some (record { node = z; spelling = u })) here, sym here)
name_token _ _ (g2.index a x t b y c p k q l) n u h = absurd (cc)
name_token _ _ (g2.field a x d t s p k l) n u h = absurd (cc)

note_simple : (a : List Token) (x : Expr) → IsHead a x → (o : Option Target) → target_of x ≡ o → (b : List Token) (w : Stmt) → AnnotateAs o b w → IsSimple (a ++ b) w
note_simple a x p (Some (target.Name n s)) h b w g =
    let k = name_token a (target.Name n s) (head_target a x (target.Name n s) p h) n s refl in
    let t = k.0 in
    let m : Name = record { node = n; spelling = s } in
    let i = g.4 in
    let front : a ++ b ≡ t ∷ g.0 ∷ (i.first ++ i.second) = ap (λ z. z ++ b) k.1 ∙ ap (λ z. t ∷ z) (g.2 ∙ ap (λ z. g.0 ∷ z) i.joined) in
    let go : ValueOf n s i.value i.second w → IsSimple (a ++ b) w = elim [
      | inl j ↦
          simple_here (a ++ b) (t ∷ g.0 ∷ (i.first ++ j.0 ∷ j.1)) (stmt.Annotated (node_at t) m i.value (Some j.4.0)) w
          (ap (λ z. t ∷ g.0 ∷ (i.first ++ z)) (sym j.2) ∙ sym front) (ap (λ z. stmt.Annotated z m i.value (Some j.4.0)) (sym k.3) ∙ sym j.4.2)
          (g2.annotated_value t m g.0 i.first i.value j.0 j.1 j.4.0 k.2 g.3 i.heads j.3 j.4.1)
      | inr j ↦
          simple_here (a ++ b) (t ∷ g.0 ∷ i.first) (stmt.Annotated (node_at t) m i.value None) w
          (ap (λ z. t ∷ g.0 ∷ z) (sym (append-nil i.first) ∙ ap (λ z. i.first ++ z) (sym j.0)) ∙ sym front) (ap (λ z. stmt.Annotated z m i.value None) (sym k.3) ∙ sym j.1)
          (g2.annotated t m g.0 i.first i.value k.2 g.3 i.heads)
    ] in
    go i.tails
note_simple a x p (Some (target.Index n y z)) h b w g = absurd g
note_simple a x p (Some (target.Field n y s)) h b w g = absurd g
note_simple a x p None h b w g = absurd g

assign_simple : (a : List Token) (x : Expr) → IsHead a x → (o : Option Target) → target_of x ≡ o → (b : List Token) (w : Stmt) → AssignTo (one_target o) b w → IsSimple (a ++ b) w
assign_simple a x p (Some v) h b w g =
    simple_here (a ++ b) (a ++ g.0 ∷ g.1) _ w (ap (λ z. a ++ z) (sym g.2)) (sym g.4.2) (g2.assign a (targets.One v) g.0 g.1 g.4.0 (one a v (head_target a x v p h)) g.3 g.4.1)
assign_simple a x p None h b w g = absurd g

update_simple : (a : List Token) (x : Expr) → IsHead a x → (o : Option Target) → target_of x ≡ o → (b : List Token) (w : Stmt) → UpdateTo o b w → IsSimple (a ++ b) w
update_simple a x p (Some v) h b w g =
    let t = g.heads.0 in
    simple_here (a ++ b) (a ++ t ∷ g.second) _ w (ap (λ z. a ++ z) (sym (g.joined ∙ ap (λ z. z ++ g.second) g.heads.1))) (sym g.tails.2)
    (g2.update a v t g.value g.second g.tails.0 (head_target a x v p h) g.heads.2 g.tails.1)
update_simple a x p None h b w g = absurd g

not_false_is : (x : Bool) → not x ≡ true → x ≡ false
not_false_is true h = absurd (cc)
not_false_is false h = refl

way_simple : (a : List Token) (x : Expr) → IsHead a x → (c : Follow) (b : List Token) (w : Stmt) → TailOf x c b w → IsSimple (a ++ b) w
way_simple a x p Comma b w g = row_simple a x p b w g
way_simple a x p Equals b w g = assign_simple a x p (target_of x) refl b w g
way_simple a x p Augmented b w g = update_simple a x p (target_of x) refl b w g
way_simple a x p Piped b w g = simple_here (a ++ b) (a ++ b) _ w refl (sym g.1.2) (g2.pipeline a x b g.1.0 (head_expr a x p (not_false_is (is_print x) g.0)) g.1.1)
way_simple a x p Colon b w g = note_simple a x p (target_of x) refl b w g
way_simple a x p Over b w g =
    simple_here (a ++ b) a (evaluated x) w (sym (append-nil a) ∙ ap (λ z. a ++ z) (sym g.1)) (sym g.2) (g2.evaluate a x (item a x (e2.last a x (head_expr a x p (not_false_is (is_print x) g.0)))))

pub headed_simple : (a : List Token) (w : Stmt) → Headed a w → IsSimple a w
headed_simple a w k = let P : List Token → Type 0 = λ z. IsSimple z w in subst P (sym k.joined) (way_simple k.first k.value k.heads k.tails.0 k.second w k.tails.1)
