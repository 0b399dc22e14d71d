-- The law of targets. What a target begins with is a target that is at most one higher than its parts, or it has a trailer
-- behind it and is a part itself: `Fit` says so. The loop over the trailers then keeps `Fit`, and where it stops the tree
-- is a target or the next token is refused.
use Rattle.std.proofs.Common.{◌≡◌, ℕ, zero, suc, ◌+◌, ◌<◌, ◌≤◌, nat_le, Bool, true, false, cond, ◌&&◌, List, [], ◌∷◌, ◌++◌, length, refl, sym, ◌∙◌, ap, subst, Option, Some, None, codes, inl, inr, append_assoc, arith}
use Rattle.std.proofs.lemmas.List.{length-append}
use Rattle.std.proofs.lemmas.Bool.{le-leb, leb-true}
use Rattle.indent_lexer.specs.declared.token.Token.{Token}
use Rattle.source_trees.specs.declared.node.Name.{Name}
use Rattle.source_trees.specs.declared.expression.Expr.{Expr}
use Rattle.source_trees.specs.Heights.{highest, height_of_expr}
use Rattle.parse_laws.specs.declared.cause.Cause.TheVariants.{Unexpected, TooDeep}
use Rattle.parse_laws.specs.Parser.{Parser, Outcome, Parsed, Stopped, and_then, class_of, sees, has, in_table, pure, choose, within, take_by, repeat, ◌>>=◌}
use Rattle.parse_laws.specs.Language.{Language, Free, Viable, Law}
use Rattle.parse_laws.specs.Forms.{Then, Is, Picks, Made, Either, never}
use Rattle.parse_laws.specs.Limits.{Limited, Joins, Carries}
use Rattle.parse_laws.specs.Loops.{Turns, done, next}
use Rattle.parse_laws.proofs.Forms.{rename_law, free_never, begins_at, wider_at}
use Rattle.parse_laws.proofs.Lists.{FitEach}
use Rattle.parse_laws.proofs.Repeats.{at_head}
use Rattle.parse_laws.proofs.Steps.{widen, pure_law, refuse_law, deep_law}
use Rattle.parse_laws.proofs.Choices.{choose_law}
use Rattle.parse_laws.proofs.Limits.{same_law, nothing_law, take_limited, optional_law, either_law, limit_law, join_law, made_limited, open_limited, end_limited}
use Rattle.grammar_rules.specs.Expressions as g
use Rattle.grammar_rules.specs.Expressions.{node_of, IsExpr, IsAtom, IsPostfix, IsOptional, IsArguments}
use Rattle.grammar_rules.specs.Words.{name_of, node_at}
use Rattle.parse_expressions.specs.declared.form.Form.TheVariants as form
use Rattle.parse_expressions.specs.declared.start.Start.{Start}
use Rattle.parse_expressions.specs.declared.start.Start.TheVariants.{Named, Nowhere}
use Rattle.parse_expressions.specs.Forms.{Low, opened_by, begins, carries}
use Rattle.parse_expressions.specs.Reading as reading
use Rattle.parse_expressions.specs.Reading.{heights, start_of, is_open, is_square, is_square_close, is_dot, is_colon, is_trailer, plain_at, name_tree, call_tree}
use Rattle.parse_expressions.specs.Targets.{is_pointed, IsPointed}
use Rattle.parse_expressions.specs.TargetReading.{too_deep, target_atom, slice_fits, target_bound, target_indexed, target_after, target_trailer, target_trailers, pointed, read_target}
use Rattle.parse_expressions.proofs.Tokens.{op_kind}
use Rattle.parse_expressions.proofs.Opens.{x_token, x_tree, op_token, name_spelling, opens}
use Rattle.parse_expressions.proofs.Least.{least, viable_at, atom_at}
use Rattle.parse_expressions.proofs.Heights.{height-Name, height-Call, height-Index, height-Field, height-MethodCall}
use Rattle.parse_expressions.proofs.Lows.{positive, no_room, LowOption, optional_up}
use Rattle.parse_expressions.proofs.Leaves.{Free_of_limit}
use Rattle.parse_expressions.proofs.Rows.{arguments_law}
use Rattle.parse_expressions.proofs.Atoms.{AtomFrom, atom_carries, arguments_open, arguments_least, atom_law, named_law, plain_of, plain_is, atom_up, atom_down, start_of_name, name_at_of}
use Rattle.parse_expressions.proofs.Postfixes.{method_tree, field_tree, slice_tree, index_tree, FieldRest, Dotted, Sliced, IndexAt, AfterIndex, Indexed, Trailer, postfix_from, postfix_to, op_carries, op_is_no, by_trailer, trailer_own, trailer_no_open, open_wider, trailer_opens, slice_parts, trailer_parts, method_carries, slice_law, index_misses, dot_viable, square_viable, trailers_apart, trailers_shrink}
use Rattle.parse_expressions.proofs.Wholes.{read_law}
use Rattle.parse_expressions.proofs.Pointed.{pointed_Name, pointed_Index, pointed_Slice, pointed_Field, pointed_MethodCall, Bare, bare_or}

-- ---- what fits

-- a target that is one higher than its parts at most, or a part
abbrev pub Fit : ℕ → Expr → Type 0
Fit room x = height_of_expr x ≤ cond (is_pointed x) (suc room) room

fit_of : (room : ℕ) (x : Expr) (b : Bool) → is_pointed x ≡ b → height_of_expr x ≤ cond b (suc room) room → Fit room x
fit_of room x b h f = let P : Bool → Type 0 = λ z. height_of_expr x ≤ cond z (suc room) room in subst P (sym h) f

of_fit : (room : ℕ) (x : Expr) (b : Bool) → is_pointed x ≡ b → Fit room x → height_of_expr x ≤ cond b (suc room) room
of_fit room x b h f = let P : Bool → Type 0 = λ z. height_of_expr x ≤ cond z (suc room) room in subst P h f

fit_low : (room : ℕ) (x : Expr) → Fit room x → Low (suc room) x
fit_low room x f =
    let go : (b : Bool) → is_pointed x ≡ b → Low (suc room) x = elim [
      | true ↦ λ h. of_fit room x true h f
      | false ↦ λ h. let k : height_of_expr x ≤ room = of_fit room x false h f in omega arith
    ] in
    go (is_pointed x) refl

low_fit : (room : ℕ) (x : Expr) → Low room x → Fit room x
low_fit room x f =
    let go : (b : Bool) → is_pointed x ≡ b → Fit room x = elim [
      | true ↦ λ h. fit_of room x true h (omega arith)
      | false ↦ λ h. fit_of room x false h f
    ] in
    go (is_pointed x) refl

-- ---- what a target is, by its parts

-- trailers that end in a target
abbrev To : Expr → Language Token Expr
To x c w = Turns Trailer x c w × (is_pointed w ≡ true)

pointed_from : (a : List Token) (w : Expr) → Then IsAtom To a w → IsPointed a w
pointed_from a w k = (postfix_from a w (record { first = k.first; second = k.second; value = k.value; joined = k.joined; heads = k.heads; tails = k.tails.0 }), k.tails.1)

pointed_to : (a : List Token) (w : Expr) → IsPointed a w → Then IsAtom To a w
pointed_to a w p =
    let k = postfix_to a w p.0 in
    record { first = k.first; second = k.second; value = k.value; joined = k.joined; heads = k.heads; tails = (k.tails, p.1) }

abbrev dot_x : List Token
dot_x = op_token (codes ".") ∷ x_token ∷ []

abbrev with_field : Expr → Expr
with_field x = field_tree x (codes "x")

one_field : (x : Expr) → Trailer x dot_x (with_field x)
one_field x =
    inl (op_token (codes "."), x_token ∷ [], refl, refl, record { first = x_token ∷ []; second = []; value = codes "x"; joined = refl; heads = (x_token, refl, refl); tails = inr (refl, refl) })

-- whatever stands goes on to a target
to_field : (x : Expr) → To x dot_x (with_field x)
to_field x = (next x dot_x (with_field x) [] (with_field x) (one_field x) (done (with_field x)), pointed_Field _ _ _)

to_some : (x : Expr) → Viable (To x) []
to_some x = (dot_x, with_field x, to_field x)

pointed_viable : (t : Token) → begins 1 t ≡ true → Viable IsPointed (t ∷ [])
pointed_viable t h =
    let k = viable_at form.Postfix t h in
    (k.0 ++ dot_x, with_field k.1, (g.field (t ∷ k.0) k.1 (op_token (codes ".")) x_token (codes "x") k.2 refl refl, pointed_Field _ _ _))

-- ---- names by themselves

named_of : (t : Token) (o : Option Name) → plain_at t ≡ o → in_table o ≡ true → start_of t ≡ Named
named_of t None e h = absurd (cc)
named_of t (Some name) e h =
    let p = plain_is t name e in
    let n = name_spelling t name (name_of t) refl p.1 in
    start_of_name t n.0 n.1 p.0

plain_class : (ts : List Token) → sees (has plain_at) ts ≡ true → class_of start_of Nowhere ts ≡ Named
plain_class [] h = absurd (cc)
plain_class (t ∷ ts) h = named_of t (plain_at t) refl h

named_down : (a : List Token) (v : Expr) (s : List Token) → IsAtom a v → sees (has plain_at) (a ++ s) ≡ true → AtomFrom Named a v
named_down a v s k h = let C : Start → Type 0 = λ z. AtomFrom z a v in subst C (plain_class (a ++ s) h) (atom_down a v s k)

named_fit : (a : List Token) (v : Expr) → AtomFrom Named a v → Low 1 v → Fit 0 v
named_fit a v k f =
    elim k.tails as (λ _. Fit 0 v) [
      | inl q ↦ let m = height-Call (k.value).node k.value q.0 in let n : height_of_expr (call_tree k.value q.0) ≤ 1 = subst (Low 1) q.2 f in absurd (omega arith)
      | inr q ↦ fit_of 0 v true (ap is_pointed q.1 ∙ pointed_Name _ _) f
    ]

bare_seen : (a : List Token) (v : Expr) (s : List Token) → Bare a v → sees (has plain_at) (a ++ s) ≡ true
bare_seen a v s k =
    let t = k.0 in
    let n : Name = record { node = node_at t; spelling = k.1 } in
    ap (λ z. sees (has plain_at) (z ++ s)) k.2 ∙ ap in_table (plain_of t n k.4 (name_at_of t k.1 k.3))

no_bare : (a : List Token) (v : Expr) (s : List Token) → IsAtom a v → Fit 0 v → sees (has plain_at) (a ++ s) ≡ false → ⊥
no_bare a v s k f h =
    elim (bare_or a v k) as (λ _. ⊥) [
      | inl q ↦ let m = bare_seen a v s q in cc
      | inr q ↦ let m : height_of_expr v ≤ 0 = of_fit 0 v false q f in let n = positive v in absurd (omega arith)
    ]

-- ---- what a target begins with

atom_low : (low : ℕ) (a : List Token) (v : Expr) → IsAtom a v → Fit (suc low) v → Low (suc low) v
atom_low low a v k f =
    elim (bare_or a v k) as (λ _. Low (suc low) v) [
      | inl q ↦ let m = height-Name (node_at q.0) q.1 in let n = ap height_of_expr q.5 in omega arith
      | inr q ↦ of_fit (suc low) v false q f
    ]

atom_fits : (room : ℕ) (ts : List Token) → Law IsAtom (Limited IsAtom (Fit room)) atom_carries ts (target_atom room ts)
unfolding target_atom
atom_fits zero ts =
    choose_law IsAtom (Limited IsAtom (Fit 0)) atom_carries (has plain_at) ts _ _
    (λ h. widen (AtomFrom Named) (Limited (AtomFrom Named) (Low 1)) IsAtom (Limited IsAtom (Fit 0)) atom_carries (has plain_at) true
    (record {
      up = λ a v k. atom_up Named a v k;
      up_within = λ a v k. (atom_up Named a v k.0, named_fit a v k.0 k.1);
      down = λ a v s k free i. named_down a v s k i;
      down_within = λ a v s k free i. (named_down a v s k.0 i, fit_low 0 v k.1);
    }) ts h _ (named_law 0 (reading.read 0) (read_law 0) ts))
    (λ h. choose_law IsAtom (Limited IsAtom (Fit 0)) atom_carries (begins 1) ts (Stopped TooDeep ts) (Stopped Unexpected ts)
    (λ i. deep_law IsAtom (Limited IsAtom (Fit 0)) atom_carries (has plain_at) false (λ a v s k free j. no_bare a v s k.0 k.1 j) ts h (begins_at (begins 1) IsAtom atom_at ts i))
    (λ i. refuse_law IsAtom (Limited IsAtom (Fit 0)) atom_carries (begins 1) false (λ a v s k free j. let p : sees (begins 1) (a ++ s) ≡ true = opens form.Postfix a v (g.atom a v k) s in cc) ts i))
atom_fits (suc low) ts =
    rename_law IsAtom (Limited IsAtom (Low (suc low))) IsAtom (Limited IsAtom (Fit (suc low))) atom_carries
    (λ a v k. k) (λ a v k. (k.0, low_fit (suc low) v k.1)) (λ a v k. k) (λ a v k. (k.0, atom_low low a v k.0 k.1)) ts _
    (atom_law low (reading.read low) (read_law low) ts)

-- ---- trailers

both : (a b : Bool) → a && b ≡ true → (a ≡ true) × (b ≡ true)
both true true h = (refl, refl)
both true false h = absurd (cc)
both false b h = absurd (cc)

highest_option : (n : ℕ) (o : Option Expr) → highest (heights o) ≤ n → LowOption n o
highest_option n None h = tt
highest_option n (Some x) h = omega arith

module _ (low : ℕ) where
  abbrev Fits : Expr → Type 0
  Fits = Fit (suc low)

  field_fit : (x : Expr) (s : List ℕ) → Low (suc low) x → Fits (field_tree x s)
  field_fit x s f = let h = height-Field (node_of x) x s in fit_of (suc low) (field_tree x s) true (pointed_Field _ _ _) (omega arith)

  index_fit : (x y : Expr) → Low (suc low) x → Low (suc low) y → Fits (index_tree x y)
  index_fit x y f i = let h = height-Index (node_of x) x y in fit_of (suc low) (index_tree x y) true (pointed_Index _ _ _) (omega arith)

  method_low : (x : Expr) (s : List ℕ) (xs : List Expr) → Fits (method_tree x s xs) → Low (suc low) (method_tree x s xs)
  method_low x s xs f = of_fit (suc low) (method_tree x s xs) false (pointed_MethodCall _ _ _ _ _) f

  slice_low : (x : Expr) (o p : Option Expr) → Fits (slice_tree x o p) → Low (suc low) (slice_tree x o p)
  slice_low x o p f = of_fit (suc low) (slice_tree x o p) false (pointed_Slice _ _ _ _) f

  method_fits : (x : Expr) (s : List ℕ) → nat_le (height_of_expr x + 1) low ≡ true → Carries (method_tree x s) (FitEach (Low low)) Fits
  method_fits x s some =
      let k = method_carries low (reading.read low) (read_law low) x s some in
      record {
        grows = λ xs f. low_fit (suc low) (method_tree x s xs) (k.grows xs f);
        shrinks = λ xs f. k.shrinks xs (method_low x s xs f);
      }

  field_rest_fits : (x : Expr) → Low (suc low) x → (s : List ℕ) (ts : List Token) → Law (FieldRest x s) (Limited (FieldRest x s) Fits) is_open ts (reading.field_rest low (reading.read low) x s ts)
  unfolding reading.field_rest
  field_rest_fits x f s ts =
      optional_law (Made IsArguments (method_tree x s)) (field_tree x s) Fits (field_fit x s f) is_open is_open
      (λ a w r k. arguments_open a k.0 r k.1) (λ t h. h)
      (within (nat_le (height_of_expr x + 1) low) (reading.arguments low (reading.read low) >>= λ xs. pure (method_tree x s xs))) ts
      (λ h. limit_law (Made IsArguments (method_tree x s)) Fits is_open is_open (nat_le (height_of_expr x + 1) low)
      (λ t i. (op_token (codes ")") ∷ [], method_tree x s [], ([], arguments_least t i, refl)))
      (λ none a v r k j free i. no_room (height_of_expr x + 1) low none
      (let m : height_of_expr (method_tree x s k.0) ≤ suc low = method_low x s k.0 (subst Fits k.2 j) in let n = height-MethodCall (node_of x) (node_of x) x s k.0 in omega arith))
      (reading.arguments low (reading.read low) >>= λ xs. pure (method_tree x s xs)) ts h
      (λ some. made_limited IsArguments is_open (method_tree x s) (FitEach (Low low)) Fits (method_fits x s some) ts (reading.arguments low (reading.read low) ts) (arguments_law low (reading.read low) (read_law low) is_open ts)))

  dotted_fits : (x : Expr) → Low (suc low) x → (ts : List Token) → Law (Dotted x) (Limited (Dotted x) Fits) is_open ts (reading.dotted low (reading.read low) x ts)
  unfolding reading.dotted
  dotted_fits x f ts =
      open_limited is_dot (λ _. Then (Picks name_of) (FieldRest x)) Fits is_open
      (λ t h. (
        x_token ∷ [],
        field_tree x (codes "x"),
        (
          record { first = x_token ∷ []; second = []; value = codes "x"; joined = refl; heads = (x_token, refl, refl); tails = inr (refl, refl) },
          field_fit x (codes "x") f,
        ),
      ))
      ts (λ _. take_by name_of >>= reading.field_rest low (reading.read low) x)
      (λ t r h i. join_law (Picks name_of) never (FieldRest x) is_open Free_of_limit Fits
      (record {
        apart = λ a v p c w s q free. free_never (c ++ s);
        ends = λ a v p. ([], field_tree x v, inr (refl, refl));
        ends_within = λ a v p j. ([], field_tree x v, (inr (refl, refl), field_fit x v f));
        shrinks = λ a v p c w q j. tt;
      }) r (take_by name_of r) (take_limited name_of Free_of_limit (λ o. tt) never r) (reading.field_rest low (reading.read low) x)
      (λ used v q p j k. field_rest_fits x f v q))

  -- ---- in square brackets

  no_slice : (x : Expr) (o : Option Expr) → slice_fits low x o ≡ false → Low low x → LowOption low o → ⊥
  no_slice x o h f i =
      let j : nat_le (height_of_expr x) low ≡ true = le-leb (height_of_expr x) low f in
      let k : nat_le (highest (heights o)) low ≡ true = le-leb (highest (heights o)) low (optional_up low o i) in
      let m : slice_fits low x o ≡ true = ap (λ b. b && nat_le (highest (heights o)) low) j ∙ k in
      cc

  slice_fit : (x : Expr) (o : Option Expr) (cont : Token → Bool) (ts : List Token) → sees is_colon ts ≡ true
      → Law (Sliced x o) (Limited (Sliced x o) Fits) cont ts (within (slice_fits low x o) (reading.slice_from low (reading.read low) x o) ts)
  slice_fit x o cont ts h =
      limit_law (Sliced x o) Fits cont is_colon (slice_fits low x o)
      (λ t i. (op_token (codes "]") ∷ [], slice_tree x o None, (t, op_token (codes "]") ∷ [], refl, i, ([], None, op_token (codes "]"), refl, g.absent, refl, refl))))
      (λ none a v s k j free i.
      let p = slice_parts low (reading.read low) (read_law low) x o k.4.1 (slice_low x o k.4.1 (subst Fits k.4.6 j)) in no_slice x o none p.0 p.1)
      (reading.slice_from low (reading.read low) x o) ts h
      (λ some.
      let p = both (nat_le (height_of_expr x) low) (nat_le (highest (heights o)) low) some in
      let i = leb-true (height_of_expr x) low p.0 in
      let j = highest_option low o (leb-true (highest (heights o)) low p.1) in
      rename_law (Sliced x o) (Limited (Sliced x o) (Low (suc low))) (Sliced x o) (Limited (Sliced x o) Fits) cont
      (λ a v k. k) (λ a v k. (k.0, low_fit (suc low) v k.1)) (λ a v k. k)
      (λ a v k. (k.0, subst (Low (suc low)) (sym k.0.4.6) (slice_low x o k.0.4.1 (subst Fits k.0.4.6 k.1)))) ts _
      (slice_law low (reading.read low) (read_law low) x i o j cont ts))

  place_fit : (x : Expr) → Low (suc low) x → (o : Option Expr) → LowOption (suc low) o → (cont : Token → Bool) (ts : List Token)
      → Law (IndexAt x o) (Limited (IndexAt x o) Fits) cont ts (reading.index_at (suc low) (reading.read (suc low)) x o ts)
  unfolding reading.index_at
  place_fit x f None i cont ts = nothing_law Fits cont ts
  place_fit x f (Some y) i cont ts = end_limited is_square_close (index_tree x y) Fits (index_fit x y f i) cont ts

  bound_fits : (x : Expr) → Low (suc low) x → (o : Option Expr) → LowOption (suc low) o → (cont : Token → Bool) (ts : List Token)
      → Law (AfterIndex x o) (Limited (AfterIndex x o) Fits) cont ts (target_bound low x o ts)
  unfolding target_bound
  bound_fits x f o i cont ts =
      either_law (Sliced x o) (IndexAt x o) Fits cont is_colon
      (λ a v s k. ap (λ z. sees is_colon (z ++ s)) k.2 ∙ k.3) (λ a v s k free. index_misses low (reading.read low) (read_law low) x o a v s k)
      (within (slice_fits low x o) (reading.slice_from low (reading.read low) x o)) (reading.index_at (suc low) (reading.read (suc low)) x o) ts
      (λ h. slice_fit x o cont ts h) (λ h. place_fit x f o i cont ts)

  colon_begins_none : (t : Token) → is_colon t ≡ true → begins 3 t ≡ false
  colon_begins_none t h = ap (λ z. nat_le (opened_by z) 3) (op_kind (codes ":") t h)

  after_apart : (x y : Expr) (c : List Token) (w : Expr) (s : List Token) → AfterIndex x (Some y) c w → Free (carries 12) (c ++ s)
  after_apart x y c w s (inl k) = ap (λ z. sees (carries 12) (z ++ s)) k.2 ∙ op_carries (codes ":") 12 false refl k.0 k.3
  after_apart x y c w s (inr k) = ap (λ z. sees (carries 12) (z ++ s)) k.1 ∙ op_carries (codes "]") 12 false refl k.0 k.2

  place_low : (x y : Expr) (c : List Token) (w : Expr) → AfterIndex x (Some y) c w → Fits w → Low (suc low) y
  place_low x y c w (inl k) f =
      let p = slice_parts low (reading.read low) (read_law low) x (Some y) k.4.1 (slice_low x (Some y) k.4.1 (subst Fits k.4.6 f)) in
      let q : height_of_expr y ≤ low = p.1 in omega arith
  place_low x y c w (inr k) f =
      let p : height_of_expr (index_tree x y) ≤ suc (suc low) = fit_low (suc low) (index_tree x y) (subst Fits k.3 f) in let h = height-Index (node_of x) x y in omega arith

  -- a bound and what follows it, or a slice from the beginning
  abbrev Inside : Expr → Language Token Expr
  Inside x = Either (Then IsExpr (λ y. AfterIndex x (Some y))) (AfterIndex x None)

  inside_from : (x : Expr) (a : List Token) (v : Expr) → Inside x a v → Then IsOptional (AfterIndex x) a v
  inside_from x a v (inl k) = record { first = k.first; second = k.second; value = Some k.value; joined = k.joined; heads = g.present k.first k.value k.heads; tails = k.tails }
  inside_from x a v (inr k) = record { first = []; second = a; value = None; joined = refl; heads = g.absent; tails = k }

  inside_by : (x : Expr) (b : List Token) (o : Option Expr) → IsOptional b o → (c : List Token) (v : Expr) → AfterIndex x o c v → Inside x (b ++ c) v
  inside_by x _ _ g.absent c v q = inr q
  inside_by x _ _ (g.present b y p) c v q = inl (record { first = b; second = c; value = y; joined = refl; heads = p; tails = q })

  inside_to : (x : Expr) (a : List Token) (v : Expr) → Then IsOptional (AfterIndex x) a v → Inside x a v
  inside_to x a v k = let A : List Token → Type 0 = λ z. Inside x z v in subst A (sym k.joined) (inside_by x k.first k.value k.heads k.second v k.tails)

  inside_misses : (x : Expr) (a : List Token) (v : Expr) (s : List Token) → AfterIndex x None a v → sees (begins 3) (a ++ s) ≡ false
  inside_misses x a v s (inl k) = ap (λ z. sees (begins 3) (z ++ s)) k.2 ∙ colon_begins_none k.0 k.3
  inside_misses x a v s (inr k) = absurd k

  inside_fits : (x : Expr) → Low (suc low) x → (cont : Token → Bool) (ts : List Token)
      → Law (Inside x) (Limited (Inside x) Fits) cont ts (choose (begins 3) (reading.read (suc low) form.Whole >>= λ y. target_bound low x (Some y)) (target_bound low x None) ts)
  inside_fits x f cont ts =
      either_law (Then IsExpr (λ y. AfterIndex x (Some y))) (AfterIndex x None) Fits cont (begins 3)
      (λ a v s k. ap (λ z. sees (begins 3) (z ++ s)) k.joined ∙ (ap (sees (begins 3)) (append_assoc k.first k.second s) ∙ opens form.Whole k.first k.value k.heads (k.second ++ s)))
      (λ a v s k free. inside_misses x a v s k)
      (reading.read (suc low) form.Whole >>= λ y. target_bound low x (Some y)) (target_bound low x None) ts
      (λ h. join_law IsExpr (carries 12) (λ y. AfterIndex x (Some y)) cont (Low (suc low)) Fits
      (record {
        apart = λ a y p c w s q free. after_apart x y c w s q;
        ends = λ a y p. (op_token (codes "]") ∷ [], index_tree x y, inr (op_token (codes "]"), refl, refl, refl));
        ends_within = λ a y p i. (op_token (codes "]") ∷ [], index_tree x y, (inr (op_token (codes "]"), refl, refl, refl), index_fit x y f i));
        shrinks = λ a y p c w q i. place_low x y c w q i;
      }) ts (reading.read (suc low) form.Whole ts) (read_law (suc low) form.Whole ts) (λ y. target_bound low x (Some y))
      (λ used y r p i k. bound_fits x f (Some y) i cont r))
      (λ h. bound_fits x f None tt cont ts)

  indexed_fits : (x : Expr) → Low (suc low) x → (cont : Token → Bool) (ts : List Token) → Law (Indexed x) (Limited (Indexed x) Fits) cont ts (target_indexed low x ts)
  unfolding target_indexed
  indexed_fits x f cont ts =
      open_limited is_square (λ _. Then IsOptional (AfterIndex x)) Fits cont
      (λ t h. (
        x_token ∷ op_token (codes "]") ∷ [],
        index_tree x x_tree,
        (
          record { first = x_token ∷ []; second = op_token (codes "]") ∷ []; value = Some x_tree; joined = refl; heads = g.present (x_token ∷ []) x_tree (least form.Whole); tails = inr (op_token (codes "]"), refl, refl, refl) },
          index_fit x x_tree f (let k = height-Name (node_at x_token) (codes "x") in omega arith),
        ),
      ))
      ts (λ _. choose (begins 3) (reading.read (suc low) form.Whole >>= λ y. target_bound low x (Some y)) (target_bound low x None))
      (λ t r h i. same_law (Inside x) (Then IsOptional (AfterIndex x)) Fits cont (inside_from x) (inside_to x) r _ (inside_fits x f cont r))

-- ---- a trailer

square_no_dot : (t : Token) → is_square t ≡ true → is_dot t ≡ false
square_no_dot t h = op_is_no (codes "[") (codes ".") refl t h

after_fits : (room : ℕ) (x : Expr) → Low room x → (ts : List Token) → Law (Trailer x) (Limited (Trailer x) (Fit room)) is_open ts (target_after room x ts)
after_fits zero x f ts = let p = positive x in absurd (omega arith)
after_fits (suc low) x f ts =
    either_law (Dotted x) (Indexed x) (Fit (suc low)) is_open is_dot
    (λ a v s k. ap (λ z. sees is_dot (z ++ s)) k.2 ∙ k.3)
    (λ a v s k free. ap (λ z. sees is_dot (z ++ s)) k.2 ∙ square_no_dot k.0 k.3)
    (reading.dotted low (reading.read low) x) (target_indexed low x) ts
    (λ i. dotted_fits low x f ts) (λ i. indexed_fits low x f is_open ts)

trailer_fits : (room : ℕ) (x : Expr) (ts : List Token) → sees is_trailer ts ≡ true → Law (Trailer x) (Limited (Trailer x) (Fit room)) is_open ts (target_trailer room x ts)
unfolding target_trailer
trailer_fits room x ts h =
    limit_law (Trailer x) (Fit room) is_open is_trailer (nat_le (height_of_expr x) room)
    (by_trailer (λ t. Viable (Trailer x) (t ∷ [])) (dot_viable room (reading.read room) (read_law room) x) (square_viable room (reading.read room) (read_law room) x))
    (λ none a v s k j free i. no_room (height_of_expr x) room none (trailer_parts room (reading.read room) (read_law room) x a v k (fit_low room v j)))
    (target_after room x) ts h
    (λ some. after_fits room x (leb-true (height_of_expr x) room some) ts)

-- ---- the trailers of a target

then_all : {A B C : Type 0} (o : Outcome Token A) (q : A → Parser Token B) (p : B → Parser Token C) → and_then (and_then o q) p ≡ and_then o (λ v. q v >>= p)
then_all (Parsed v r) q p = refl
then_all (Stopped k r) q p = refl

some_used : (used : List Token) → sees is_trailer (used ++ []) ≡ true → 0 < length used
some_used [] h = absurd (cc)
some_used (t ∷ us) h = omega arith

no_open : (s : List Token) → Free (carries 1) s → Free is_open s
no_open s free = wider_at is_open (carries 1) open_wider s free

opens_no_round : (ts : List Token) → sees is_trailer ts ≡ true → sees is_open ts ≡ false
opens_no_round ts h = at_head is_trailer is_open false trailer_no_open ts h

no_trailer : (s : List Token) → Free (carries 1) s → sees is_trailer s ≡ true → ⊥
no_trailer [] free h = cc
no_trailer (t ∷ s) free h = let k = trailer_own t h in cc

module _ (room : ℕ) where
  abbrev Within : Expr → Type 0
  Within = Low (suc room)

  -- a target as it is, and anything else with a field
  to_within_by : (x : Expr) → Fit room x → (b : Bool) → is_pointed x ≡ b → Viable (Limited (To x) Within) []
  to_within_by x f true h = ([], x, ((done x, h), of_fit room x true h f))
  to_within_by x f false h =
      let k : height_of_expr x ≤ room = of_fit room x false h f in
      let m = height-Field (node_of x) x (codes "x") in
      (dot_x, with_field x, (to_field x, omega arith))

  to_within : (x : Expr) → Fit room x → Viable (Limited (To x) Within) []
  to_within x f = to_within_by x f (is_pointed x) refl

  turns_fit : (x : Expr) (c : List Token) (w : Expr) → Turns Trailer x c w → is_pointed w ≡ true → Within w → Fit room x
  turns_fit _ _ _ (done x) h f = fit_of room x true h f
  turns_fit _ _ _ (next x b u c w p rest) h f =
      low_fit room x (trailer_parts room (reading.read room) (read_law room) x b u p (trailers_shrink room (reading.read room) (read_law room) u c w rest f))

  -- ---- where no trailer follows

  is_to : (x : Expr) → is_pointed x ≡ true → (a : List Token) (w : Expr) → Is x a w → To x a w
  is_to x h a w k =
      let A : List Token → Type 0 = λ z. To x z w in
      let V : Expr → Type 0 = λ z. To x [] z in
      subst A (sym k.0) (subst V (sym k.1) (done x, h))

  turns_stop : (x : Expr) (a : List Token) (w : Expr) → Turns Trailer x a w → (s : List Token) → sees is_trailer (a ++ s) ≡ false → Is x a w
  turns_stop _ _ _ (done x) s h = (refl, refl)
  turns_stop _ _ _ (next x b u c w p rest) s h =
      let k : sees is_trailer (b ++ (c ++ s)) ≡ true = trailer_opens x b u (c ++ s) p in
      let l : sees is_trailer ((b ++ c) ++ s) ≡ true = ap (sees is_trailer) (append_assoc b c s) ∙ k in
      absurd (cc)

  end_by : (x : Expr) → Fit room x → (ts : List Token) → sees is_trailer ts ≡ false → (b : Bool) → is_pointed x ≡ b
      → Law (To x) (Limited (To x) Within) (carries 1) ts (cond b (Parsed x ts) (Stopped Unexpected ts))
  end_by x f ts h true i =
      widen (Is x) (Is x) (To x) (Limited (To x) Within) (carries 1) is_trailer false
      (record {
        up = is_to x i;
        up_within = λ a w k. (is_to x i a w k, subst Within (sym k.1) (of_fit room x true i f));
        down = λ a w s k free j. turns_stop x a w k.0 s j;
        down_within = λ a w s k free j. turns_stop x a w k.0.0 s j;
      }) ts h (Parsed x ts) (pure_law x (carries 1) ts)
  end_by x f ts h false i =
      refuse_law (To x) (Limited (To x) Within) (carries 1) is_trailer false
      (λ a w s k free j. let l = (turns_stop x a w k.0 s j).1 in let m : is_pointed x ≡ true = ap is_pointed (sym l) ∙ k.1 in cc) ts h

  end_law : (x : Expr) → Fit room x → (ts : List Token) → sees is_trailer ts ≡ false → Law (To x) (Limited (To x) Within) (carries 1) ts (pointed x ts)
  end_law x f ts h = end_by x f ts h (is_pointed x) refl

  -- ---- where one follows

  one_up : (x : Expr) (a : List Token) (w : Expr) → Then (Trailer x) To a w → To x a w
  one_up x a w k = let A : List Token → Type 0 = λ z. Turns Trailer x z w in (subst A (sym k.joined) (next x k.first k.value k.second w k.heads k.tails.0), k.tails.1)

  one_by : (x : Expr) (a : List Token) (w : Expr) → Turns Trailer x a w → is_pointed w ≡ true → (s : List Token) → Free (carries 1) s → sees is_trailer (a ++ s) ≡ true → Then (Trailer x) To a w
  one_by _ _ _ (done x) i s free h = absurd (no_trailer s free h)
  one_by _ _ _ (next x b u c w p rest) i s free h = record { first = b; second = c; value = u; joined = refl; heads = p; tails = (rest, i) }

  turns_apart : (u : Expr) (c : List Token) (w : Expr) → Turns Trailer u c w → (s : List Token) → Free (carries 1) s → Free is_open (c ++ s)
  turns_apart _ _ _ (done u) s free = no_open s free
  turns_apart _ _ _ (next u b x c w p rest) s free =
      ap (sees is_open) (append_assoc b c s) ∙ opens_no_round (b ++ (c ++ s)) (trailer_opens u b x (c ++ s) p)

  joins_one : (x : Expr) → Joins (Trailer x) is_open To (carries 1) (Fit room) Within
  joins_one x = record {
    apart = λ a u p c w s q free. turns_apart u c w q.0 s free;
    ends = λ a u p. to_some u;
    ends_within = λ a u p f. to_within u f;
    shrinks = λ a u p c w q f. turns_fit u c w q.0 q.1 f;
  }

  met_law : (x : Expr) (n : ℕ) → ((u : Expr) (us : List Token) → length us ≤ n → Fit room u → Law (To u) (Limited (To u) Within) (carries 1) us (and_then (repeat (λ _. is_trailer) (target_trailer room) n u us) pointed))
      → (ts : List Token) → length ts ≤ suc n → sees is_trailer ts ≡ true
      → Law (To x) (Limited (To x) Within) (carries 1) ts (and_then (and_then (target_trailer room x ts) (repeat (λ _. is_trailer) (target_trailer room) n)) pointed)
  met_law x n later ts small h =
      let L : Outcome Token Expr → Type 0 = λ z. Law (To x) (Limited (To x) Within) (carries 1) ts z in
      subst L (sym (then_all (target_trailer room x ts) (repeat (λ _. is_trailer) (target_trailer room) n) pointed))
      (widen (Then (Trailer x) To) (Limited (Then (Trailer x) To) Within) (To x) (Limited (To x) Within) (carries 1) is_trailer true
      (record {
        up = one_up x;
        up_within = λ a w k. (one_up x a w k.0, k.1);
        down = λ a w s k free i. one_by x a w k.0 k.1 s free i;
        down_within = λ a w s k free i. (one_by x a w k.0.0 k.0.1 s free i, k.1);
      }) ts h _
      (join_law (Trailer x) is_open To (carries 1) (Fit room) Within (joins_one x) ts (target_trailer room x ts) (trailer_fits room x ts h)
      (λ u. repeat (λ _. is_trailer) (target_trailer room) n u >>= pointed)
      (λ used u r p f e. later u r
      (let l : length ts ≡ length used + length r = ap length e ∙ length-append used r in
      let k : 0 < length used = some_used used (trailer_opens x used u [] p) in omega arith) f)))

  to_law : (n : ℕ) (x : Expr) (ts : List Token) → length ts ≤ n → Fit room x → Law (To x) (Limited (To x) Within) (carries 1) ts (and_then (repeat (λ _. is_trailer) (target_trailer room) n x ts) pointed)
  unfolding repeat
  to_law zero x [] small f = end_law x f [] refl
  to_law zero x (t ∷ ts) small f = absurd (omega arith)
  to_law (suc n) x ts small f =
      let go : (b : Bool) → sees is_trailer ts ≡ b
      → Law (To x) (Limited (To x) Within) (carries 1) ts (and_then (cond b (and_then (target_trailer room x ts) (repeat (λ _. is_trailer) (target_trailer room) n)) (Parsed x ts)) pointed) = elim [
        | true ↦ λ h. met_law x n (λ u us. to_law n u us) ts small h
        | false ↦ λ h. end_law x f ts h
      ] in
      go (sees is_trailer ts) refl

  -- ---- a target

  some_law : (ts : List Token) → Law IsPointed (Limited IsPointed Within) (carries 1) ts (and_then (target_atom room ts) (λ x. target_trailers room x >>= pointed))
  unfolding target_trailers
  some_law ts =
      same_law (Then IsAtom To) IsPointed Within (carries 1) pointed_from pointed_to ts _
      (join_law IsAtom atom_carries To (carries 1) (Fit room) Within
      (record {
        apart = λ a x p c w s q free. trailers_apart room (reading.read room) (read_law room) x c w s q.0 free;
        ends = λ a x p. to_some x;
        ends_within = λ a x p f. to_within x f;
        shrinks = λ a x p c w q f. turns_fit x c w q.0 q.1 f;
      }) ts (target_atom room ts) (atom_fits room ts) (λ x. target_trailers room x >>= pointed)
      (λ used x r p f e. to_law (length r) x r (omega arith) f))

no_room_law : (ts : List Token) → Law IsPointed (Limited IsPointed (Low 0)) (carries 1) ts (too_deep 1 ts)
no_room_law ts =
    choose_law IsPointed (Limited IsPointed (Low 0)) (carries 1) (begins 1) ts (Stopped TooDeep ts) (Stopped Unexpected ts)
    (λ h. deep_law IsPointed (Limited IsPointed (Low 0)) (carries 1) (begins 1) true
    (λ a v s k free i. let p = positive v in let q : height_of_expr v ≤ 0 = k.1 in absurd (omega arith)) ts h (begins_at (begins 1) IsPointed pointed_viable ts h))
    (λ h. refuse_law IsPointed (Limited IsPointed (Low 0)) (carries 1) (begins 1) false
    (λ a v s k free i. let p : sees (begins 1) (a ++ s) ≡ true = opens form.Postfix a v k.0 s in cc) ts h)

-- The parser of targets is exact within every limit of height.
pub target_law : (room : ℕ) (ts : List Token) → Law IsPointed (Limited IsPointed (Low room)) (carries 1) ts (read_target room ts)
unfolding read_target
target_law zero ts = no_room_law ts
target_law (suc room) ts = some_law room ts

pub target_opens : (a : List Token) (x : Expr) (s : List Token) → IsPointed a x → sees (begins 1) (a ++ s) ≡ true
target_opens a x s p = opens form.Postfix a x p.0 s

pub target_viable : (t : Token) → begins 1 t ≡ true → Viable IsPointed (t ∷ [])
target_viable = pointed_viable
