-- The law of what stands in square brackets: a list, or a comprehension.
use Rattle.std.proofs.Common.{◌≡◌, ℕ, suc, ◌≤◌, nat_le, Bool, true, false, ◌||◌, List, [], ◌∷◌, ◌++◌, refl, sym, ◌∙◌, ap, subst, Option, Some, None, codes, inl, inr, append_assoc, arith}
use Rattle.indent_lexer.specs.declared.token.Token.{Token}
use Rattle.indent_lexer.specs.declared.token.TokenKind.TheVariants as kind
use Rattle.source_trees.specs.declared.expression.Expr.{Expr}
use Rattle.source_trees.specs.declared.expression.Expr.TheVariants as e
use Rattle.source_trees.specs.declared.node.Node.{Node}
use Rattle.source_trees.specs.declared.node.Name.{Name}
use Rattle.source_trees.specs.declared.statement.LoopNames.{LoopNames}
use Rattle.source_trees.specs.Heights.{over_parts, height_of_expr}
use Rattle.source_trees.specs.Parts.{of_loop_names}
use Rattle.parse_laws.specs.Parser.{Parser, and_then, in_table, sees, pure, choose, expect, ◌>>=◌, ◌>>◌}
use Rattle.parse_laws.specs.Language.{Language, Free, Law}
use Rattle.parse_laws.specs.Forms.{Then, Is, Ends, Opens, Closes, Made, Either}
use Rattle.parse_laws.specs.Limits.{Limited, Joins}
use Rattle.parse_laws.specs.Loops.{done, last, RowState, ListItems}
use Rattle.parse_laws.proofs.Steps.{wider_law}
use Rattle.parse_laws.proofs.Lists.{FitEach, Rest, rest_shrinks, rest_law, rest_apart}
use Rattle.parse_laws.proofs.Limits.{same_law, open_limited, close_limited, end_limited, either_law, optional_law, join_law, made_limited}
use Rattle.parse_laws.proofs.Repeats.{at_head}
use Rattle.grammar_rules.specs.declared.level.Junction.TheVariants as junction
use Rattle.grammar_rules.specs.Expressions as g
use Rattle.grammar_rules.specs.Expressions.{IsExpr, IsJoined, IsRow, IsNames, IsFilter, loop_names}
use Rattle.grammar_rules.specs.Words.{op_in, keyword_in, name_in, named_by, is_spelled, is_comma, node_at}
use Rattle.parse_expressions.specs.declared.form.Form.{Form}
use Rattle.parse_expressions.specs.declared.form.Form.TheVariants as form
use Rattle.parse_expressions.specs.Forms.{Low, carried_by, opened_by, begins, carries}
use Rattle.parse_expressions.specs.Reading as reading
use Rattle.parse_expressions.specs.Reading.{is_square, is_square_close, is_for, is_in, is_if, any_number}
use Rattle.parse_expressions.proofs.Tokens.{or_first, or_none, carries_looser, op_kind, keyword_kind, not_op}
use Rattle.parse_expressions.proofs.Opens.{x_token, x_tree, op_token, keyword_token, opens}
use Rattle.parse_expressions.proofs.Least.{least}
use Rattle.parse_expressions.specs.Reading.{heights}
use Rattle.parse_expressions.proofs.Heights.{height-List, height-Comprehension}
use Rattle.parse_expressions.proofs.Lows.{positive, highest_up, highest_down, highest-append, loop_names_high, LowOption, x_low, optional_up, optional_down}
use Rattle.parse_expressions.proofs.Leaves.{Free_of_limit, names_carry, names_law}
use Rattle.parse_expressions.proofs.Rows.{Reads, row_carries, row_given, ends_row}

-- ---- what the grammar says, by its parts

abbrev pub Filtered : Language Token (Option Expr)
Filtered = Either (Opens is_if (λ _. Made (IsJoined junction.Or) (λ x. Some x))) (Is None)

filter_to : (a : List Token) (o : Option Expr) → IsFilter a o → Filtered a o
filter_to _ _ g.unfiltered = inr (refl, refl)
filter_to _ _ (g.filtered t a x h p) = inl (t, a, refl, h, (x, p, refl))

filter_from : (a : List Token) (o : Option Expr) → Filtered a o → IsFilter a o
filter_from a o w =
    elim w as (λ _. IsFilter a o) [
      | inl k ↦
          let A : List Token → Type 0 = λ z. IsFilter z o in
          let X : Option Expr → Type 0 = λ z. IsFilter (k.0 ∷ k.1) z in
          subst A (sym k.2) (subst X (sym k.4.2) (g.filtered k.0 k.1 k.4.0 k.3 k.4.1))
      | inr k ↦
          let A : List Token → Type 0 = λ z. IsFilter z o in
          let X : Option Expr → Type 0 = λ z. IsFilter [] z in
          subst A (sym k.0) (subst X (sym k.1) g.unfiltered)
    ]

abbrev pub Condition : Token → Expr → LoopNames → Expr → Language Token Expr
Condition t x ns y = Closes IsFilter is_square_close (λ z. e.Comprehension (node_at t) x ns y z)

abbrev pub Iterable : Token → Expr → LoopNames → Language Token Expr
Iterable t x ns = Opens is_in (λ _. Then (IsJoined junction.Or) (Condition t x ns))

-- what follows the item of a comprehension
abbrev pub Comprehended : Token → Expr → Language Token Expr
Comprehended t x = Opens is_for (λ _. Then IsNames (Iterable t x))

abbrev pub Others : Expr → Language Token (RowState (List Expr))
Others x = Rest is_comma IsExpr any_number (x ∷ [], false)

-- what follows the first item of a list
abbrev pub Listing : Token → Expr → Language Token Expr
Listing t x = Closes (Others x) is_square_close (λ r. e.List (node_at t) r.0)

abbrev pub AfterItem : Token → Expr → Language Token Expr
AfterItem t x = Either (Comprehended t x) (Listing t x)

abbrev pub Inside : Token → Language Token Expr
Inside t = Either (Ends is_square_close (e.List (node_at t) [])) (Then IsExpr (AfterItem t))

abbrev x_name : Name
x_name = record { node = node_at x_token; spelling = codes "x" }

-- ---- token facts

square_close_ends_row : (t : Token) → is_square_close t ≡ true → row_carries t ≡ false
square_close_ends_row = ends_row (codes "]") refl refl refl

close_carries : (k : ℕ) → nat_le (carried_by (kind.Op (codes "]"))) k ≡ false → (t : Token) → is_square_close t ≡ true → carries k t ≡ false
close_carries k h t i = ap (λ z. nat_le (carried_by z) k) (op_kind (codes "]") t i) ∙ h

for_carries : (t : Token) → is_for t ≡ true → carries 12 t ≡ false
for_carries t h = ap (λ z. nat_le (carried_by z) 12) (keyword_kind (codes "for") t h)

in_ends_names : (t : Token) → is_in t ≡ true → names_carry t ≡ false
in_ends_names t h = ap (λ z. is_spelled (op_in z) (codes ",") || in_table (named_by t (name_in z))) (keyword_kind (codes "in") t h)

if_carries : (t : Token) → is_if t ≡ true → carries 12 t ≡ true
if_carries t h = ap (λ z. nat_le (carried_by z) 12) (keyword_kind (codes "if") t h)

filter_apart : (b : List Token) (o : Option Expr) → IsFilter b o → (t : Token) → is_square_close t ≡ true → (s : List Token) → Free (carries 11) ((b ++ t ∷ []) ++ s)
filter_apart _ _ g.unfiltered t h s = close_carries 11 refl t h
filter_apart _ _ (g.filtered u a x i p) t h s = ap (λ z. nat_le (carried_by z) 11) (keyword_kind (codes "if") u i)

-- ---- heights

module _ (room : ℕ) where
  compr_low : (t : Token) (x : Expr) (ns : LoopNames) (y : Expr) (z : Option Expr) → Low room x → Low room y → LowOption room z → Low (suc room) (e.Comprehension (node_at t) x ns y z)
  compr_low t x ns y z f i j =
      let h = height-Comprehension (node_at t) x ns y z in
      let k = highest-append (of_loop_names over_parts ns) (height_of_expr y ∷ heights z) in
      let l = loop_names_high ns in
      let m = positive x in
      let n = optional_up room z j in
      omega arith

  compr_parts : (t : Token) (x : Expr) (ns : LoopNames) (y : Expr) (z : Option Expr) → Low (suc room) (e.Comprehension (node_at t) x ns y z) → (Low room x × Low room y × LowOption room z)
  compr_parts t x ns y z f =
      let h = height-Comprehension (node_at t) x ns y z in
      let k = highest-append (of_loop_names over_parts ns) (height_of_expr y ∷ heights z) in
      (omega arith, omega arith, optional_down room z (omega arith))

  list_low : (n : Node) (xs : List Expr) → FitEach (Low room) xs → Low (suc room) (e.List n xs)
  list_low n xs f = let h = height-List n xs in let k = highest_up room xs f in omega arith

  list_parts : (n : Node) (xs : List Expr) → Low (suc room) (e.List n xs) → FitEach (Low room) xs
  list_parts n xs f = let h = height-List n xs in highest_down room xs (omega arith)

  module _ (sub : Form → Parser Token Expr) (below : Reads room sub) where
    wide : (ts : List Token) → Law (IsJoined junction.Or) (Limited (IsJoined junction.Or) (Low room)) (carries 12) ts (sub (form.Joined junction.Or) ts)
    wide ts =
        wider_law (IsJoined junction.Or) (Limited (IsJoined junction.Or) (Low room)) (carries 11) (carries 12) (carries_looser 11 12 (omega arith)) ts (sub (form.Joined junction.Or) ts)
        (below (form.Joined junction.Or) ts)

    filter_law : 1 ≤ room → (ts : List Token) → Law IsFilter (Limited IsFilter (LowOption room)) (carries 12) ts (reading.filter room sub ts)
    unfolding reading.filter
    filter_law some ts =
        same_law Filtered IsFilter (LowOption room) (carries 12) filter_from filter_to ts _
        (optional_law (Opens is_if (λ _. Made (IsJoined junction.Or) (λ x. Some x))) None (LowOption room) tt (carries 12) is_if
        (λ a w s k. ap (λ z. sees is_if (z ++ s)) k.2 ∙ k.3) if_carries
        (expect is_if >>= λ _. sub (form.Joined junction.Or) >>= λ x. pure (Some x)) ts
        (λ h. open_limited is_if (λ _. Made (IsJoined junction.Or) (λ x. Some x)) (LowOption room) (carries 12)
        (λ t i. (x_token ∷ [], Some x_tree, ((x_tree, least (form.Joined junction.Or), refl), x_low room some)))
        ts (λ _. sub (form.Joined junction.Or) >>= λ x. pure (Some x))
        (λ t r i e. made_limited (IsJoined junction.Or) (carries 12) (λ x. Some x) (Low room) (LowOption room)
        (record { grows = λ x f. f; shrinks = λ x f. f }) r (sub (form.Joined junction.Or) r) (wide r))))

    condition_law : (t : Token) (x : Expr) (ns : LoopNames) (y : Expr) → Low room x → Low room y → (cont : Token → Bool) (ts : List Token)
        → Law (Condition t x ns y) (Limited (Condition t x ns y) (Low (suc room))) cont ts (and_then (reading.filter room sub ts) (λ z. expect is_square_close >> pure (e.Comprehension (node_at t) x ns y z)))
    condition_law t x ns y f i cont ts =
        close_limited is_square_close (op_token (codes "]")) refl IsFilter (carries 12) cont (close_carries 12 refl) (λ z. e.Comprehension (node_at t) x ns y z) (LowOption room) (Low (suc room))
        (record { grows = λ z j. compr_low t x ns y z f i j; shrinks = λ z j. (compr_parts t x ns y z j).2 }) ts _ (filter_law (let p = positive x in omega arith) ts)

    condition_least : (t : Token) (x : Expr) (ns : LoopNames) (y : Expr) → Condition t x ns y (op_token (codes "]") ∷ []) (e.Comprehension (node_at t) x ns y None)
    condition_least t x ns y = ([], None, op_token (codes "]"), refl, g.unfiltered, refl, refl)

    iterable_joins : (t : Token) (x : Expr) (ns : LoopNames) → Low room x → (cont : Token → Bool) → Joins (IsJoined junction.Or) (carries 11) (Condition t x ns) cont (Low room) (Low (suc room))
    iterable_joins t x ns f cont = record {
      apart = λ a y p c w s q free. ap (λ z. sees (carries 11) (z ++ s)) q.3 ∙ filter_apart q.0 q.1 q.4 q.2 q.5 s;
      ends = λ a y p. (op_token (codes "]") ∷ [], e.Comprehension (node_at t) x ns y None, condition_least t x ns y);
      ends_within = λ a y p i. (op_token (codes "]") ∷ [], e.Comprehension (node_at t) x ns y None, (condition_least t x ns y, compr_low t x ns y None f i tt));
      shrinks = λ a y p c w q i. (compr_parts t x ns y q.1 (subst (Low (suc room)) q.6 i)).1;
    }

    iterable_law : (t : Token) (x : Expr) (ns : LoopNames) → Low room x → (cont : Token → Bool) (ts : List Token)
        → Law (Iterable t x ns) (Limited (Iterable t x ns) (Low (suc room))) cont ts
        ((expect is_in >>= λ _. sub (form.Joined junction.Or) >>= λ y. reading.filter room sub >>= λ z. expect is_square_close >> pure (e.Comprehension (node_at t) x ns y z)) ts)
    iterable_law t x ns f cont ts =
        open_limited is_in (λ _. Then (IsJoined junction.Or) (Condition t x ns)) (Low (suc room)) cont
        (λ u i. (
          x_token ∷ op_token (codes "]") ∷ [],
          e.Comprehension (node_at t) x ns x_tree None,
          (
            record {
              first = x_token ∷ [];
              second = op_token (codes "]") ∷ [];
              value = x_tree;
              joined = refl;
              heads = least (form.Joined junction.Or);
              tails = condition_least t x ns x_tree;
            },
            compr_low t x ns x_tree None f (x_low room (let p = positive x in omega arith)) tt,
          ),
        ))
        ts (λ _. sub (form.Joined junction.Or) >>= λ y. reading.filter room sub >>= λ z. expect is_square_close >> pure (e.Comprehension (node_at t) x ns y z))
        (λ u r i k. join_law (IsJoined junction.Or) (carries 11) (Condition t x ns) cont (Low room) (Low (suc room)) (iterable_joins t x ns f cont)
        r (sub (form.Joined junction.Or) r) (below (form.Joined junction.Or) r)
        (λ y. reading.filter room sub >>= λ z. expect is_square_close >> pure (e.Comprehension (node_at t) x ns y z))
        (λ used y q p j m. condition_law t x ns y f j cont q))

    iterable_least : (t : Token) (x : Expr) (ns : LoopNames)
        → Iterable t x ns (keyword_token (codes "in") ∷ x_token ∷ op_token (codes "]") ∷ []) (e.Comprehension (node_at t) x ns x_tree None)
    iterable_least t x ns = (
      keyword_token (codes "in"),
      x_token ∷ op_token (codes "]") ∷ [],
      refl,
      refl,
      record {
        first = x_token ∷ [];
        second = op_token (codes "]") ∷ [];
        value = x_tree;
        joined = refl;
        heads = least (form.Joined junction.Or);
        tails = condition_least t x ns x_tree;
      },
    )

    names_least : IsNames (x_token ∷ []) (loop_names (x_name ∷ [], false))
    names_least = ((x_name ∷ [], false), last (x_token ∷ []) x_name (x_token, refl, refl), refl)

    iterable_value : (t : Token) (x : Expr) (ns : LoopNames) (c : List Token) (w : Expr) → Iterable t x ns c w → (y : Expr) × (z : Option Expr) × (w ≡ e.Comprehension (node_at t) x ns y z)
    iterable_value t x ns c w p = let q = p.4.tails in (p.4.value, q.1, q.6)

    names_joins : (t : Token) (x : Expr) → Low room x → (cont : Token → Bool) → Joins IsNames names_carry (Iterable t x) cont Free_of_limit (Low (suc room))
    names_joins t x f cont = record {
      apart = λ a ns p c w s q free. ap (λ z. sees names_carry (z ++ s)) q.2 ∙ in_ends_names q.0 q.3;
      ends = λ a ns p. (keyword_token (codes "in") ∷ x_token ∷ op_token (codes "]") ∷ [], e.Comprehension (node_at t) x ns x_tree None, iterable_least t x ns);
      ends_within = λ a ns p i. (
        keyword_token (codes "in") ∷ x_token ∷ op_token (codes "]") ∷ [],
        e.Comprehension (node_at t) x ns x_tree None,
        (iterable_least t x ns, compr_low t x ns x_tree None f (x_low room (let p = positive x in omega arith)) tt),
      );
      shrinks = λ a ns p c w q i. tt;
    }

    compr_least : (t : Token) (x : Expr) → Then IsNames (Iterable t x) (x_token ∷ keyword_token (codes "in") ∷ x_token ∷ op_token (codes "]") ∷ [])
        (e.Comprehension (node_at t) x (loop_names (x_name ∷ [], false)) x_tree None)
    compr_least t x = record {
      first = x_token ∷ [];
      second = keyword_token (codes "in") ∷ x_token ∷ op_token (codes "]") ∷ [];
      value = loop_names (x_name ∷ [], false);
      joined = refl;
      heads = names_least;
      tails = iterable_least t x (loop_names (x_name ∷ [], false));
    }

    comprehension_law : (t : Token) (x : Expr) → Low room x → (cont : Token → Bool) (ts : List Token)
        → Law (Comprehended t x) (Limited (Comprehended t x) (Low (suc room))) cont ts (reading.comprehension room sub t x ts)
    unfolding reading.comprehension
    comprehension_law t x f cont ts =
        open_limited is_for (λ _. Then IsNames (Iterable t x)) (Low (suc room)) cont
        (λ u i. (
          x_token ∷ keyword_token (codes "in") ∷ x_token ∷ op_token (codes "]") ∷ [],
          e.Comprehension (node_at t) x (loop_names (x_name ∷ [], false)) x_tree None,
          (compr_least t x, compr_low t x (loop_names (x_name ∷ [], false)) x_tree None f (x_low room (let p = positive x in omega arith)) tt),
        ))
        ts (λ _. reading.names >>= λ ns. expect is_in >>= λ _. sub (form.Joined junction.Or) >>= λ y. reading.filter room sub >>= λ z. expect is_square_close >> pure (e.Comprehension (node_at t) x ns y z))
        (λ u r i k. join_law IsNames names_carry (Iterable t x) cont Free_of_limit (Low (suc room)) (names_joins t x f cont) r (reading.names r) (names_law r)
        (λ ns. expect is_in >>= λ _. sub (form.Joined junction.Or) >>= λ y. reading.filter room sub >>= λ z. expect is_square_close >> pure (e.Comprehension (node_at t) x ns y z))
        (λ used ns q p j m. iterable_law t x ns f cont q))

    items_law : (t : Token) (x : Expr) → Low room x → (cont : Token → Bool) (ts : List Token) → Law (Listing t x) (Limited (Listing t x) (Low (suc room))) cont ts (reading.items room sub t x ts)
    unfolding reading.items
    items_law t x f cont ts =
        close_limited is_square_close (op_token (codes "]")) refl (Others x) row_carries cont square_close_ends_row (λ r. e.List (node_at t) r.0) (λ r. FitEach (Low room) r.0) (Low (suc room))
        (record { grows = λ r g. list_low (node_at t) r.0 g; shrinks = λ r g. list_parts (node_at t) r.0 g }) ts _
        (rest_law is_comma IsExpr any_number (Low room) (begins 3) (carries 12) row_carries row_given (sub form.Whole) (below form.Whole) (x ∷ []) (f, tt) ts)

    -- what closes a row is no `for`
    for_given : ListItems is_comma IsExpr (begins 3) is_for (λ t. row_carries t || is_for t)
    for_given = record {
      opens = λ b y rest p. opens form.Whole b y p rest;
      own = λ t h. or_first (row_carries t) (is_for t) (row_given.own t h);
      own_separator = λ t h. or_first (row_carries t) (is_for t) (row_given.own_separator t h);
      wider = λ t h. or_none (row_carries t) (is_for t) h;
      ends_before = λ t h. ap (λ z. is_spelled (keyword_in z) (codes "for")) (op_kind (codes ",") t h);
    }

    close_is_no_for : (t : Token) → is_square_close t ≡ true → row_carries t || is_for t ≡ false
    close_is_no_for t h =
        ap (λ z. z || is_for t) (square_close_ends_row t h) ∙ ap (λ z. is_spelled (keyword_in z) (codes "for")) (op_kind (codes "]") t h)

    listing_misses : (t : Token) (x : Expr) (a : List Token) (v : Expr) (s : List Token) → Listing t x a v → sees is_for (a ++ s) ≡ false
    listing_misses t x a v s k =
        ap (λ z. sees is_for (z ++ s)) k.3 ∙ ap (sees is_for) (append_assoc k.0 (k.2 ∷ []) s)
        ∙ rest_apart is_comma IsExpr any_number (Low room) (begins 3) is_for (λ u. row_carries u || is_for u) for_given (x ∷ [], false) k.0 k.1 (k.2 ∷ s) k.4 (x ∷ []) refl (close_is_no_for k.2 k.5)

    after_law : (t : Token) (x : Expr) → Low room x → (cont : Token → Bool) (ts : List Token)
        → Law (AfterItem t x) (Limited (AfterItem t x) (Low (suc room))) cont ts (choose is_for (reading.comprehension room sub t x) (reading.items room sub t x) ts)
    after_law t x f cont ts =
        either_law (Comprehended t x) (Listing t x) (Low (suc room)) cont is_for
        (λ a v s k. ap (λ z. sees is_for (z ++ s)) k.2 ∙ k.3)
        (λ a v s k free. listing_misses t x a v s k)
        (reading.comprehension room sub t x) (reading.items room sub t x) ts
        (λ h. comprehension_law t x f cont ts) (λ h. items_law t x f cont ts)

    after_apart : (t : Token) (x : Expr) (c : List Token) (w : Expr) (s : List Token) → AfterItem t x c w → Free (carries 12) (c ++ s)
    after_apart t x c w s (inl k) = ap (λ z. sees (carries 12) (z ++ s)) k.2 ∙ for_carries k.0 k.3
    after_apart t x c w s (inr k) =
        ap (λ z. sees (carries 12) (z ++ s)) k.3 ∙ ap (sees (carries 12)) (append_assoc k.0 (k.2 ∷ []) s)
        ∙ rest_apart is_comma IsExpr any_number (Low room) (begins 3) (carries 12) row_carries row_given (x ∷ [], false) k.0 k.1 (k.2 ∷ s) k.4 (x ∷ []) refl (square_close_ends_row k.2 k.5)

    after_shrinks : (t : Token) (x : Expr) (c : List Token) (w : Expr) → AfterItem t x c w → Low (suc room) w → Low room x
    after_shrinks t x c w (inl k) f =
        let q = k.4 in
        let v = iterable_value t x q.value q.second w q.tails in
        (compr_parts t x q.value v.0 v.1 (subst (Low (suc room)) v.2 f)).0
    after_shrinks t x c w (inr k) f =
        (rest_shrinks is_comma IsExpr any_number (Low room) (x ∷ [], false) k.0 k.1 k.4 (list_parts (node_at t) k.1.0 (subst (Low (suc room)) k.6 f))).0

    listing_least : (t : Token) (x : Expr) → Listing t x (op_token (codes "]") ∷ []) (e.List (node_at t) (x ∷ []))
    listing_least t x = ([], (x ∷ [], false), op_token (codes "]"), refl, done (x ∷ [], false), refl, refl)

    inside_law : (t : Token) (cont : Token → Bool) (ts : List Token)
        → Law (Inside t) (Limited (Inside t) (Low (suc room))) cont ts
        (choose is_square_close (expect is_square_close >>= λ _. pure (e.List (node_at t) [])) (sub form.Whole >>= λ x. choose is_for (reading.comprehension room sub t x) (reading.items room sub t x)) ts)
    inside_law t cont ts =
        either_law (Ends is_square_close (e.List (node_at t) [])) (Then IsExpr (AfterItem t)) (Low (suc room)) cont is_square_close
        (λ a v s k. ap (λ z. sees is_square_close (z ++ s)) k.1 ∙ k.2)
        (λ a v s k free. ap (λ z. sees is_square_close (z ++ s)) k.joined ∙ ap (sees is_square_close) (append_assoc k.first k.second s)
        ∙ at_head (begins 3) is_square_close false (λ u h. not_op (λ z. nat_le (opened_by z) 3) (codes "]") refl u h) (k.first ++ (k.second ++ s)) (opens form.Whole k.first k.value k.heads (k.second ++ s)))
        (expect is_square_close >>= λ _. pure (e.List (node_at t) [])) (sub form.Whole >>= λ x. choose is_for (reading.comprehension room sub t x) (reading.items room sub t x)) ts
        (λ h. end_limited is_square_close (e.List (node_at t) []) (Low (suc room)) (list_low (node_at t) [] tt) cont ts)
        (λ h. join_law IsExpr (carries 12) (AfterItem t) cont (Low room) (Low (suc room))
        (record {
          apart = λ a x p c w s q free. after_apart t x c w s q;
          ends = λ a x p. (op_token (codes "]") ∷ [], e.List (node_at t) (x ∷ []), inr (listing_least t x));
          ends_within = λ a x p f. (op_token (codes "]") ∷ [], e.List (node_at t) (x ∷ []), (inr (listing_least t x), list_low (node_at t) (x ∷ []) (f, tt)));
          shrinks = λ a x p c w q f. after_shrinks t x c w q f;
        }) ts (sub form.Whole ts) (below form.Whole ts) (λ x. choose is_for (reading.comprehension room sub t x) (reading.items room sub t x))
        (λ used x r p f q. after_law t x f cont r))

    pub square_law : (cont : Token → Bool) (ts : List Token) → Law (Opens is_square Inside) (Limited (Opens is_square Inside) (Low (suc room))) cont ts (reading.square room sub ts)
    unfolding reading.square
    square_law cont ts =
        open_limited is_square Inside (Low (suc room)) cont
        (λ t h. (op_token (codes "]") ∷ [], e.List (node_at t) [], (inl (op_token (codes "]"), refl, refl, refl), list_low (node_at t) [] tt)))
        ts (λ t. choose is_square_close (expect is_square_close >>= λ _. pure (e.List (node_at t) [])) (sub form.Whole >>= λ x. choose is_for (reading.comprehension room sub t x) (reading.items room sub t x)))
        (λ t r h i. inside_law t cont r)
