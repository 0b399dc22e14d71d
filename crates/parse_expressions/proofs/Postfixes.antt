-- The law of atoms with indices, slices, fields and calls of methods.
use Rattle.std.proofs.Common.{◌≡◌, ℕ, suc, ◌+◌, nat_le, Bool, true, false, ◌||◌, List, [], ◌∷◌, ◌++◌, length, refl, sym, ◌∙◌, ap, subst, Option, Some, None, codes, inl, inr, append_assoc, arith}
use Rattle.std.proofs.lemmas.List.{append-nil}
use Rattle.std.proofs.lemmas.Bool.{leb-true}
use Rattle.indent_lexer.specs.declared.token.Token.{Token}
use Rattle.indent_lexer.specs.declared.token.TokenKind.{TokenKind}
use Rattle.indent_lexer.specs.declared.token.TokenKind.TheVariants as kind
use Rattle.source_trees.specs.declared.expression.Expr.{Expr}
use Rattle.source_trees.specs.declared.expression.Expr.TheVariants as e
use Rattle.source_trees.specs.Heights.{height_of_expr}
use Rattle.parse_laws.specs.Parser.{Parser, sees, pure, choose, within, expect, take_by, in_table, ◌>>=◌, ◌>>◌}
use Rattle.parse_laws.specs.Language.{Language, Free, Viable, Law}
use Rattle.parse_laws.specs.Forms.{Then, Is, Picks, Ends, Opens, Closes, Made, Either, never}
use Rattle.parse_laws.specs.Limits.{Limited, Nothing, Carries}
use Rattle.parse_laws.specs.Loops.{Turns, done, next, Repeated}
use Rattle.parse_laws.proofs.Forms.{free_never, wider_at}
use Rattle.parse_laws.proofs.Lists.{FitEach}
use Rattle.parse_laws.proofs.Steps.{wider_law}
use Rattle.parse_laws.proofs.Repeats.{at_head, turns_snoc, repeat_law}
use Rattle.parse_laws.proofs.Limits.{same_law, nothing_law, take_limited, optional_law, either_law, limit_law, join_law, made_limited, open_limited, close_limited, end_limited}
use Rattle.grammar_rules.specs.Expressions as g
use Rattle.grammar_rules.specs.Expressions.{node_of, IsExpr, IsAtom, IsPostfix, IsOptional, IsArguments}
use Rattle.grammar_rules.specs.Words.{op_in, text_in, is_spelled, is_op, name_of}
use Rattle.parse_expressions.specs.declared.form.Form.{Form}
use Rattle.parse_expressions.specs.declared.form.Form.TheVariants as form
use Rattle.parse_expressions.specs.Forms.{Low, carried_by, opened_by, begins, carries}
use Rattle.parse_expressions.specs.Reading as reading
use Rattle.parse_expressions.specs.Reading.{is_open, is_square, is_square_close, is_dot, is_colon, is_trailer}
use Rattle.parse_expressions.proofs.Tokens.{op_kind, or_first, or_second, or_none}
use Rattle.parse_expressions.proofs.Opens.{x_token, op_token, opens}
use Rattle.parse_expressions.specs.Reading.{heights}
use Rattle.parse_expressions.proofs.Heights.{height-Index, height-Slice, height-Field, height-MethodCall}
use Rattle.parse_expressions.proofs.Lows.{highest_up, highest_down, highest-append, no_room, LowOption, optional_up, optional_down}
use Rattle.parse_expressions.proofs.Leaves.{Free_of_limit}
use Rattle.parse_expressions.proofs.Rows.{Reads, arguments_law}
use Rattle.parse_expressions.proofs.Atoms.{atom_carries, arguments_open, arguments_least, atom_law}

-- ---- what the grammar says, by its parts

abbrev MaybeExpr : Language Token (Option Expr)
MaybeExpr = Either (Made IsExpr (λ x. Some x)) (Is None)

optional_to : (a : List Token) (o : Option Expr) → IsOptional a o → MaybeExpr a o
optional_to _ _ g.absent = inr (refl, refl)
optional_to _ _ (g.present a x p) = inl (x, p, refl)

optional_from : (a : List Token) (o : Option Expr) → MaybeExpr a o → IsOptional a o
optional_from a o w =
    elim w as (λ _. IsOptional a o) [
      | inl k ↦ let X : Option Expr → Type 0 = λ z. IsOptional a z in subst X (sym k.2) (g.present a k.0 k.1)
      | inr k ↦
          let A : List Token → Type 0 = λ z. IsOptional z o in
          let X : Option Expr → Type 0 = λ z. IsOptional [] z in
          subst A (sym k.0) (subst X (sym k.1) g.absent)
    ]

abbrev pub method_tree : Expr → List ℕ → List Expr → Expr
method_tree x spelling xs = e.MethodCall (node_of x) (node_of x) x spelling xs

abbrev pub field_tree : Expr → List ℕ → Expr
field_tree x spelling = e.Field (node_of x) x spelling

abbrev pub slice_tree : Expr → Option Expr → Option Expr → Expr
slice_tree x o p = e.Slice (node_of x) x o p

abbrev pub index_tree : Expr → Expr → Expr
index_tree x y = e.Index (node_of x) x y

abbrev pub FieldRest : Expr → List ℕ → Language Token Expr
FieldRest x spelling = Either (Made IsArguments (method_tree x spelling)) (Is (field_tree x spelling))

abbrev pub Dotted : Expr → Language Token Expr
Dotted x = Opens is_dot (λ _. Then (Picks name_of) (FieldRest x))

abbrev pub Sliced : Expr → Option Expr → Language Token Expr
Sliced x o = Opens is_colon (λ _. Closes IsOptional is_square_close (slice_tree x o))

abbrev pub IndexAt : Expr → Option Expr → Language Token Expr
IndexAt x None = Nothing
IndexAt x (Some y) = Ends is_square_close (index_tree x y)

abbrev pub AfterIndex : Expr → Option Expr → Language Token Expr
AfterIndex x o = Either (Sliced x o) (IndexAt x o)

abbrev pub Indexed : Expr → Language Token Expr
Indexed x = Opens is_square (λ _. Then IsOptional (AfterIndex x))

abbrev pub Trailer : Expr → Language Token Expr
Trailer x = Either (Dotted x) (Indexed x)

-- ---- trailers follow one another

dotted_up : (a : List Token) (x : Expr) → IsPostfix a x → (b : List Token) (u : Expr) → Dotted x b u → IsPostfix (a ++ b) u
dotted_up a x p b u k =
    let n = k.4 in
    let A : List Token → Type 0 = λ z. IsPostfix (a ++ z) u in
    elim n.tails as (λ _. IsPostfix (a ++ b) u) [
      | inl q ↦
          let V : Expr → Type 0 = λ z. IsPostfix (a ++ k.0 ∷ n.heads.0 ∷ n.second) z in
          subst A (sym (k.2 ∙ ap (λ z. k.0 ∷ z) (n.joined ∙ ap (λ z. z ++ n.second) n.heads.1)))
          (subst V (sym q.2) (g.method a x k.0 n.heads.0 n.value n.second q.0 p k.3 n.heads.2 q.1))
      | inr q ↦
          let V : Expr → Type 0 = λ z. IsPostfix (a ++ k.0 ∷ n.heads.0 ∷ []) z in
          subst A (sym (k.2 ∙ ap (λ z. k.0 ∷ z) (n.joined ∙ ap (λ z. z ++ n.second) n.heads.1 ∙ ap (λ z. n.heads.0 ∷ z) q.0)))
          (subst V (sym q.1) (g.field a x k.0 n.heads.0 n.value p k.3 n.heads.2))
    ]

after_up : (a : List Token) (x : Expr) → IsPostfix a x → (t : Token) → is_square t ≡ true → (b : List Token) (o : Option Expr) → IsOptional b o → (c : List Token) (u : Expr) → AfterIndex x o c u → IsPostfix (a ++ t ∷ (b ++ c)) u
after_up a x p t h b o q c u (inl k) =
    let r = k.4 in
    let A : List Token → Type 0 = λ z. IsPostfix (a ++ t ∷ (b ++ z)) u in
    let V : Expr → Type 0 = λ z. IsPostfix (a ++ t ∷ (b ++ k.0 ∷ (r.0 ++ r.2 ∷ []))) z in
    subst A (sym (k.2 ∙ ap (λ z. k.0 ∷ z) r.3)) (subst V (sym r.6) (g.slice a x t b o k.0 r.0 r.1 r.2 p h q k.3 r.4 r.5))
after_up a x p t h _ _ g.absent c u (inr k) = absurd k
after_up a x p t h _ _ (g.present b y q) c u (inr k) =
    let A : List Token → Type 0 = λ z. IsPostfix (a ++ t ∷ (b ++ z)) u in
    let V : Expr → Type 0 = λ z. IsPostfix (a ++ t ∷ (b ++ k.0 ∷ [])) z in
    subst A (sym k.1) (subst V (sym k.3) (g.index a x t b y k.0 p h q k.2))

indexed_up : (a : List Token) (x : Expr) → IsPostfix a x → (b : List Token) (u : Expr) → Indexed x b u → IsPostfix (a ++ b) u
indexed_up a x p b u k =
    let n = k.4 in
    let A : List Token → Type 0 = λ z. IsPostfix (a ++ z) u in
    subst A (sym (k.2 ∙ ap (λ z. k.0 ∷ z) n.joined)) (after_up a x p k.0 k.3 n.first n.value n.heads n.second u n.tails)

trailer_up : (a : List Token) (x : Expr) → IsPostfix a x → (b : List Token) (u : Expr) → Trailer x b u → IsPostfix (a ++ b) u
trailer_up a x p b u (inl k) = dotted_up a x p b u k
trailer_up a x p b u (inr k) = indexed_up a x p b u k

trailers_up : (x : Expr) (c : List Token) (w : Expr) → Turns Trailer x c w → (a : List Token) → IsPostfix a x → IsPostfix (a ++ c) w
trailers_up _ _ _ (done x) a p = let A : List Token → Type 0 = λ z. IsPostfix z x in subst A (sym (append-nil a)) p
trailers_up _ _ _ (next x b u c w s rest) a p =
    let A : List Token → Type 0 = λ z. IsPostfix z w in
    subst A (append_assoc a b c) (trailers_up u c w rest (a ++ b) (trailer_up a x p b u s))

pub postfix_from : (a : List Token) (w : Expr) → Then IsAtom (Turns Trailer) a w → IsPostfix a w
postfix_from a w k =
    let A : List Token → Type 0 = λ z. IsPostfix z w in
    subst A (sym k.joined) (trailers_up k.value k.second w k.tails k.first (g.atom k.first k.value k.heads))

one_more : (a : List Token) (x : Expr) → Then IsAtom (Turns Trailer) a x → (b : List Token) (u : Expr) → Trailer x b u → Then IsAtom (Turns Trailer) (a ++ b) u
one_more a x k b u s = record {
  first = k.first;
  second = k.second ++ b;
  value = k.value;
  joined = ap (λ z. z ++ b) k.joined ∙ append_assoc k.first k.second b;
  heads = k.heads;
  tails = turns_snoc Trailer k.value k.second x k.tails b u s;
}

pub postfix_to : (a : List Token) (w : Expr) → IsPostfix a w → Then IsAtom (Turns Trailer) a w
postfix_to _ _ (g.atom a x p) = record { first = a; second = []; value = x; joined = sym (append-nil a); heads = p; tails = done x }
postfix_to _ _ (g.index a x t b y c p h q i) =
    one_more a x (postfix_to a x p) (t ∷ (b ++ c ∷ [])) (index_tree x y)
    (inr (t, b ++ c ∷ [], refl, h, record { first = b; second = c ∷ []; value = Some y; joined = refl; heads = g.present b y q; tails = inr (c, refl, i, refl) }))
postfix_to _ _ (g.slice a x t b o d c z u p h q i r j) =
    one_more a x (postfix_to a x p) (t ∷ (b ++ d ∷ (c ++ u ∷ []))) (slice_tree x o z)
    (inr (
      t,
      b ++ d ∷ (c ++ u ∷ []),
      refl,
      h,
      record {
        first = b;
        second = d ∷ (c ++ u ∷ []);
        value = o;
        joined = refl;
        heads = q;
        tails = inl (d, c ++ u ∷ [], refl, i, (c, z, u, refl, r, j, refl));
      },
    ))
postfix_to _ _ (g.field a x d t s p h i) =
    one_more a x (postfix_to a x p) (d ∷ t ∷ []) (field_tree x s)
    (inl (d, t ∷ [], refl, h, record { first = t ∷ []; second = []; value = s; joined = refl; heads = (t, refl, i); tails = inr (refl, refl) }))
postfix_to _ _ (g.method a x d t s b xs p h i q) =
    one_more a x (postfix_to a x p) (d ∷ t ∷ b) (method_tree x s xs)
    (inl (d, t ∷ b, refl, h, record { first = t ∷ []; second = b; value = s; joined = refl; heads = (t, refl, i); tails = inl (xs, q, refl) }))

-- ---- facts of tokens

pub op_carries : (word : List ℕ) (k : ℕ) (x : Bool) → nat_le (carried_by (kind.Op word)) k ≡ x → (t : Token) → is_op word t ≡ true → carries k t ≡ x
op_carries word k x h t i = ap (λ z. nat_le (carried_by z) k) (op_kind word t i) ∙ h

pub op_is_no : (word other : List ℕ) → is_op other (op_token word) ≡ false → (t : Token) → is_op word t ≡ true → is_op other t ≡ false
op_is_no word other h t i = ap (λ z. is_spelled (op_in z) other) (op_kind word t i) ∙ h

pub by_trailer : (P : Token → Type 0) → ((t : Token) → is_dot t ≡ true → P t) → ((t : Token) → is_square t ≡ true → P t) → (t : Token) → is_trailer t ≡ true → P t
by_trailer P dot square t h =
    let go : (x : Bool) → is_dot t ≡ x → x || is_square t ≡ true → P t = elim [ true ↦ λ i k. dot t i | false ↦ λ i k. square t k ] in
    go (is_dot t) refl h

pub trailer_own : (t : Token) → is_trailer t ≡ true → carries 1 t ≡ true
trailer_own = by_trailer (λ t. carries 1 t ≡ true) (op_carries (codes ".") 1 true refl) (op_carries (codes "[") 1 true refl)

pub trailer_no_open : (t : Token) → is_trailer t ≡ true → is_open t ≡ false
trailer_no_open = by_trailer (λ t. is_open t ≡ false) (op_is_no (codes ".") (codes "(") refl) (op_is_no (codes "[") (codes "(") refl)

pub open_wider : (t : Token) → carries 1 t ≡ false → is_open t ≡ false
open_wider t h =
    let go : (x : Bool) → is_open t ≡ x → x ≡ false = elim [
      | true ↦ λ e. let k = op_carries (codes "(") 1 true refl t e in absurd (cc)
      | false ↦ λ e. refl
    ] in
    go (is_open t) refl

text_carries : (k : TokenKind) → nat_le (carried_by k) 1 ≡ false → in_table (text_in k) ≡ false
text_carries (kind.Text value) h = absurd (cc)
text_carries _ h = refl

atom_wider : (t : Token) → carries 1 t ≡ false → atom_carries t ≡ false
atom_wider t h = ap (λ x. x || is_open t) (text_carries t.kind h) ∙ open_wider t h

op_no_text : (word : List ℕ) (t : Token) → is_op word t ≡ true → is_open t ≡ false → atom_carries t ≡ false
op_no_text word t h i = ap (λ k. in_table (text_in k) || is_open t) (op_kind word t h) ∙ i

trailer_no_atom : (t : Token) → is_trailer t ≡ true → atom_carries t ≡ false
trailer_no_atom =
    by_trailer (λ t. atom_carries t ≡ false)
    (λ t h. op_no_text (codes ".") t h (op_is_no (codes ".") (codes "(") refl t h)) (λ t h. op_no_text (codes "[") t h (op_is_no (codes "[") (codes "(") refl t h))

-- what carries on an expression that may be absent
abbrev pub optional_carries : Token → Bool
optional_carries t = begins 3 t || carries 12 t

op_ends_optional : (word : List ℕ) → nat_le (opened_by (kind.Op word)) 3 ≡ false → nat_le (carried_by (kind.Op word)) 12 ≡ false → (t : Token) → is_op word t ≡ true → optional_carries t ≡ false
op_ends_optional word h i t e =
    ap (λ k. nat_le (opened_by k) 3 || nat_le (carried_by k) 12) (op_kind word t e) ∙ ap (λ x. x || nat_le (carried_by (kind.Op word)) 12) h ∙ i

close_ends_optional : (t : Token) → is_square_close t ≡ true → optional_carries t ≡ false
close_ends_optional = op_ends_optional (codes "]") refl refl

colon_ends_optional : (t : Token) → is_colon t ≡ true → optional_carries t ≡ false
colon_ends_optional = op_ends_optional (codes ":") refl refl

pub trailer_opens : (x : Expr) (b : List Token) (u : Expr) (s : List Token) → Trailer x b u → sees is_trailer (b ++ s) ≡ true
trailer_opens x b u s (inl k) = ap (λ z. sees is_trailer (z ++ s)) k.2 ∙ or_first (is_dot k.0) (is_square k.0) k.3
trailer_opens x b u s (inr k) = ap (λ z. sees is_trailer (z ++ s)) k.2 ∙ or_second (is_dot k.0) (is_square k.0) k.3

module _ (room : ℕ) (sub : Form → Parser Token Expr) (below : Reads room sub) where
  abbrev Within : Expr → Type 0
  Within = Low (suc room)

  -- ---- heights

  pub field_low : (x : Expr) (s : List ℕ) → Low room x → Within (field_tree x s)
  field_low x s f = let h = height-Field (node_of x) x s in omega arith

  pub index_low : (x y : Expr) → Low room x → Low room y → Within (index_tree x y)
  index_low x y f i = let h = height-Index (node_of x) x y in omega arith

  slice_low : (x : Expr) (o p : Option Expr) → Low room x → LowOption room o → LowOption room p → Within (slice_tree x o p)
  slice_low x o p f i j =
      let h = height-Slice (node_of x) x o p in let k = highest-append (heights o) (heights p) in let l = optional_up room o i in let m = optional_up room p j in omega arith

  pub slice_parts : (x : Expr) (o p : Option Expr) → Within (slice_tree x o p) → Low room x × LowOption room o × LowOption room p
  slice_parts x o p f =
      let h = height-Slice (node_of x) x o p in
      let k = highest-append (heights o) (heights p) in
      (omega arith, optional_down room o (omega arith), optional_down room p (omega arith))

  after_parts : (x : Expr) (o : Option Expr) (c : List Token) (u : Expr) → AfterIndex x o c u → Within u → Low room x × LowOption room o
  after_parts x o c u (inl k) f = let s = slice_parts x o k.4.1 (subst Within k.4.6 f) in (s.0, s.1)
  after_parts x None c u (inr k) f = absurd k
  after_parts x (Some y) c u (inr k) f = let g = subst Within k.3 f in let h = height-Index (node_of x) x y in (omega arith, omega arith)

  field_rest_parts : (x : Expr) (s : List ℕ) (c : List Token) (u : Expr) → FieldRest x s c u → Within u → Low room x
  field_rest_parts x s c u (inl k) f = let g = subst Within k.2 f in let h = height-MethodCall (node_of x) (node_of x) x s k.0 in omega arith
  field_rest_parts x s c u (inr k) f = let g = subst Within k.1 f in let h = height-Field (node_of x) x s in omega arith

  pub trailer_parts : (x : Expr) (b : List Token) (u : Expr) → Trailer x b u → Within u → Low room x
  trailer_parts x b u (inl k) f = let n = k.4 in field_rest_parts x n.value n.second u n.tails f
  trailer_parts x b u (inr k) f = let n = k.4 in (after_parts x n.value n.second u n.tails f).0

  -- ---- after a dot

  pub method_carries : (x : Expr) (s : List ℕ) → nat_le (height_of_expr x + 1) room ≡ true → Carries (method_tree x s) (FitEach (Low room)) Within
  method_carries x s some = record {
    grows = λ xs f. let h = height-MethodCall (node_of x) (node_of x) x s xs in let k = highest_up room xs f in let l = leb-true (height_of_expr x + 1) room some in omega arith;
    shrinks = λ xs f. let h = height-MethodCall (node_of x) (node_of x) x s xs in highest_down room xs (omega arith);
  }

  field_rest_law : (x : Expr) → Low room x → (s : List ℕ) (ts : List Token) → Law (FieldRest x s) (Limited (FieldRest x s) Within) is_open ts (reading.field_rest room sub x s ts)
  unfolding reading.field_rest
  field_rest_law x f s ts =
      optional_law (Made IsArguments (method_tree x s)) (field_tree x s) Within (field_low x s f) is_open is_open
      (λ a w r k. arguments_open a k.0 r k.1) (λ t h. h)
      (within (nat_le (height_of_expr x + 1) room) (reading.arguments room sub >>= λ xs. pure (method_tree x s xs))) ts
      (λ h. limit_law (Made IsArguments (method_tree x s)) Within is_open is_open (nat_le (height_of_expr x + 1) room)
      (λ t i. (op_token (codes ")") ∷ [], method_tree x s [], ([], arguments_least t i, refl)))
      (λ none a v r k j free i. no_room (height_of_expr x + 1) room none (let m = subst Within k.2 j in let n = height-MethodCall (node_of x) (node_of x) x s k.0 in omega arith))
      (reading.arguments room sub >>= λ xs. pure (method_tree x s xs)) ts h
      (λ some. made_limited IsArguments is_open (method_tree x s) (FitEach (Low room)) Within (method_carries x s some) ts (reading.arguments room sub ts) (arguments_law room sub below is_open ts)))

  dotted_law : (x : Expr) → Low room x → (ts : List Token) → Law (Dotted x) (Limited (Dotted x) Within) is_open ts (reading.dotted room sub x ts)
  unfolding reading.dotted
  dotted_law x f ts =
      open_limited is_dot (λ _. Then (Picks name_of) (FieldRest x)) Within is_open
      (λ t h. (
        x_token ∷ [],
        field_tree x (codes "x"),
        (
          record { first = x_token ∷ []; second = []; value = codes "x"; joined = refl; heads = (x_token, refl, refl); tails = inr (refl, refl) },
          field_low x (codes "x") f,
        ),
      ))
      ts (λ _. take_by name_of >>= reading.field_rest room sub x)
      (λ t r h i. join_law (Picks name_of) never (FieldRest x) is_open Free_of_limit Within
      (record {
        apart = λ a v p c w s q free. free_never (c ++ s);
        ends = λ a v p. ([], field_tree x v, inr (refl, refl));
        ends_within = λ a v p j. ([], field_tree x v, (inr (refl, refl), field_low x v f));
        shrinks = λ a v p c w q j. tt;
      }) r (take_by name_of r) (take_limited name_of Free_of_limit (λ o. tt) never r) (reading.field_rest room sub x)
      (λ used v q p j k. field_rest_law x f v q))

  -- ---- in square brackets

  optional_reads : (ts : List Token) → Law IsOptional (Limited IsOptional (LowOption room)) optional_carries ts (reading.optional room sub ts)
  unfolding reading.optional
  optional_reads ts =
      same_law MaybeExpr IsOptional (LowOption room) optional_carries optional_from optional_to ts _
      (optional_law (Made IsExpr (λ x. Some x)) None (LowOption room) tt optional_carries (begins 3)
      (λ a w s k. opens form.Whole a k.0 k.1 s) (λ t h. or_first (begins 3 t) (carries 12 t) h)
      (sub form.Whole >>= λ x. pure (Some x)) ts
      (λ h. made_limited IsExpr optional_carries (λ x. Some x) (Low room) (LowOption room) (record { grows = λ x f. f; shrinks = λ x f. f }) ts (sub form.Whole ts)
      (wider_law IsExpr (Limited IsExpr (Low room)) (carries 12) optional_carries (λ t i. or_none (begins 3 t) (carries 12 t) i) ts (sub form.Whole ts) (below form.Whole ts))))

  pub slice_law : (x : Expr) → Low room x → (o : Option Expr) → LowOption room o → (cont : Token → Bool) (ts : List Token)
      → Law (Sliced x o) (Limited (Sliced x o) Within) cont ts (reading.slice_from room sub x o ts)
  unfolding reading.slice_from
  slice_law x f o i cont ts =
      open_limited is_colon (λ _. Closes IsOptional is_square_close (slice_tree x o)) Within cont
      (λ t h. (op_token (codes "]") ∷ [], slice_tree x o None, (([], None, op_token (codes "]"), refl, g.absent, refl, refl), slice_low x o None f i tt)))
      ts (λ _. reading.optional room sub >>= λ p. expect is_square_close >> pure (slice_tree x o p))
      (λ t r h j. close_limited is_square_close (op_token (codes "]")) refl IsOptional optional_carries cont close_ends_optional (slice_tree x o) (LowOption room) Within
      (record { grows = λ p k. slice_low x o p f i k; shrinks = λ p k. (slice_parts x o p k).2 }) r (reading.optional room sub r) (optional_reads r))

  index_law : (x : Expr) → Low room x → (o : Option Expr) → LowOption room o → (cont : Token → Bool) (ts : List Token)
      → Law (IndexAt x o) (Limited (IndexAt x o) Within) cont ts (reading.index_at room sub x o ts)
  unfolding reading.index_at
  index_law x f None i cont ts = nothing_law Within cont ts
  index_law x f (Some y) i cont ts = end_limited is_square_close (index_tree x y) Within (index_low x y f i) cont ts

  pub index_misses : (x : Expr) (o : Option Expr) (a : List Token) (v : Expr) (s : List Token) → IndexAt x o a v → sees is_colon (a ++ s) ≡ false
  index_misses x None a v s k = absurd k
  index_misses x (Some y) a v s k = ap (λ z. sees is_colon (z ++ s)) k.1 ∙ op_is_no (codes "]") (codes ":") refl k.0 k.2

  after_law : (x : Expr) → Low room x → (o : Option Expr) → LowOption room o → (cont : Token → Bool) (ts : List Token)
      → Law (AfterIndex x o) (Limited (AfterIndex x o) Within) cont ts (choose is_colon (reading.slice_from room sub x o) (reading.index_at room sub x o) ts)
  after_law x f o i cont ts =
      either_law (Sliced x o) (IndexAt x o) Within cont is_colon
      (λ a v s k. ap (λ z. sees is_colon (z ++ s)) k.2 ∙ k.3) (λ a v s k free. index_misses x o a v s k)
      (reading.slice_from room sub x o) (reading.index_at room sub x o) ts
      (λ h. slice_law x f o i cont ts) (λ h. index_law x f o i cont ts)

  slice_least : (x : Expr) (o : Option Expr) → AfterIndex x o (op_token (codes ":") ∷ op_token (codes "]") ∷ []) (slice_tree x o None)
  slice_least x o = inl (op_token (codes ":"), op_token (codes "]") ∷ [], refl, refl, ([], None, op_token (codes "]"), refl, g.absent, refl, refl))

  after_apart : (x : Expr) (o : Option Expr) (c : List Token) (w : Expr) (s : List Token) → AfterIndex x o c w → Free optional_carries (c ++ s)
  after_apart x o c w s (inl k) = ap (λ z. sees optional_carries (z ++ s)) k.2 ∙ colon_ends_optional k.0 k.3
  after_apart x None c w s (inr k) = absurd k
  after_apart x (Some y) c w s (inr k) = ap (λ z. sees optional_carries (z ++ s)) k.1 ∙ close_ends_optional k.0 k.2

  indexed_law : (x : Expr) → Low room x → (cont : Token → Bool) (ts : List Token) → Law (Indexed x) (Limited (Indexed x) Within) cont ts (reading.indexed room sub x ts)
  unfolding reading.indexed
  indexed_law x f cont ts =
      open_limited is_square (λ _. Then IsOptional (AfterIndex x)) Within cont
      (λ t h. (
        op_token (codes ":") ∷ op_token (codes "]") ∷ [],
        slice_tree x None None,
        (record { first = []; second = op_token (codes ":") ∷ op_token (codes "]") ∷ []; value = None; joined = refl; heads = g.absent; tails = slice_least x None }, slice_low x None None f tt tt),
      ))
      ts (λ _. reading.optional room sub >>= λ o. choose is_colon (reading.slice_from room sub x o) (reading.index_at room sub x o))
      (λ t r h i. join_law IsOptional optional_carries (AfterIndex x) cont (LowOption room) Within
      (record {
        apart = λ a o p c w s q free. after_apart x o c w s q;
        ends = λ a o p. (op_token (codes ":") ∷ op_token (codes "]") ∷ [], slice_tree x o None, slice_least x o);
        ends_within = λ a o p j. (op_token (codes ":") ∷ op_token (codes "]") ∷ [], slice_tree x o None, (slice_least x o, slice_low x o None f j tt));
        shrinks = λ a o p c w q j. (after_parts x o c w q j).1;
      }) r (reading.optional room sub r) (optional_reads r) (λ o. choose is_colon (reading.slice_from room sub x o) (reading.index_at room sub x o))
      (λ used o q p j k. after_law x f o j cont q))

  -- ---- a trailer

  pub dot_viable : (x : Expr) (t : Token) → is_dot t ≡ true → Viable (Trailer x) (t ∷ [])
  dot_viable x t h =
      (x_token ∷ [], field_tree x (codes "x"), inl (t, x_token ∷ [], refl, h, record { first = x_token ∷ []; second = []; value = codes "x"; joined = refl; heads = (x_token, refl, refl); tails = inr (refl, refl) }))

  pub square_viable : (x : Expr) (t : Token) → is_square t ≡ true → Viable (Trailer x) (t ∷ [])
  square_viable x t h = (
    op_token (codes ":") ∷ op_token (codes "]") ∷ [],
    slice_tree x None None,
    inr (
      t,
      op_token (codes ":") ∷ op_token (codes "]") ∷ [],
      refl,
      h,
      record { first = []; second = op_token (codes ":") ∷ op_token (codes "]") ∷ []; value = None; joined = refl; heads = g.absent; tails = slice_least x None },
    ),
  )

  trailer_law : (x : Expr) → Within x → (ts : List Token) → sees is_trailer ts ≡ true → Law (Trailer x) (Limited (Trailer x) Within) is_open ts (reading.trailer room sub x ts)
  unfolding reading.trailer
  trailer_law x f ts h =
      limit_law (Trailer x) Within is_open is_trailer (nat_le (height_of_expr x) room)
      (by_trailer (λ t. Viable (Trailer x) (t ∷ [])) (dot_viable x) (square_viable x))
      (λ none a v s k j free i. no_room (height_of_expr x) room none (trailer_parts x a v k j))
      (choose is_dot (reading.dotted room sub x) (reading.indexed room sub x)) ts h
      (λ some. let low = leb-true (height_of_expr x) room some in
      either_law (Dotted x) (Indexed x) Within is_open is_dot
      (λ a v s k. ap (λ z. sees is_dot (z ++ s)) k.2 ∙ k.3)
      (λ a v s k free. ap (λ z. sees is_dot (z ++ s)) k.2 ∙ op_is_no (codes "[") (codes ".") refl k.0 k.3)
      (reading.dotted room sub x) (reading.indexed room sub x) ts
      (λ i. dotted_law x low ts) (λ i. indexed_law x low is_open ts))

  repeated : Repeated (λ _. is_trailer) Trailer (λ _. is_open) (carries 1) Within
  repeated = record {
    opens = trailer_opens;
    own = λ v t h. trailer_own t h;
    wider = λ v t h. open_wider t h;
    next = λ v b u t p h. trailer_no_open t h;
    shrinks = λ v b u p f. let k = trailer_parts v b u p f in omega arith;
  }

  trailers_law : (x : Expr) → Within x → (ts : List Token) → Law (Turns Trailer x) (Limited (Turns Trailer x) Within) (carries 1) ts (reading.trailers room sub x ts)
  unfolding reading.trailers
  trailers_law x f ts = repeat_law (λ _. is_trailer) Trailer (λ _. is_open) (carries 1) Within repeated (reading.trailer room sub) trailer_law (length ts) x ts (omega arith) f

  pub trailers_apart : (x : Expr) (c : List Token) (w : Expr) (s : List Token) → Turns Trailer x c w → Free (carries 1) s → Free atom_carries (c ++ s)
  trailers_apart _ _ _ s (done x) free = wider_at atom_carries (carries 1) atom_wider s free
  trailers_apart _ _ _ s (next x b u c w p rest) free =
      ap (sees atom_carries) (append_assoc b c s) ∙ at_head is_trailer atom_carries false trailer_no_atom (b ++ (c ++ s)) (trailer_opens x b u (c ++ s) p)

  pub trailers_shrink : (x : Expr) (c : List Token) (w : Expr) → Turns Trailer x c w → Within w → Within x
  trailers_shrink _ _ _ (done x) f = f
  trailers_shrink _ _ _ (next x b u c w p rest) f = let k = trailer_parts x b u p (trailers_shrink u c w rest f) in omega arith

  pub postfix_law : (ts : List Token) → Law IsPostfix (Limited IsPostfix Within) (carries 1) ts (reading.postfix room sub ts)
  unfolding reading.postfix
  postfix_law ts =
      same_law (Then IsAtom (Turns Trailer)) IsPostfix Within (carries 1) postfix_from postfix_to ts _
      (join_law IsAtom atom_carries (Turns Trailer) (carries 1) Within Within
      (record {
        apart = λ a x p c w s q free. trailers_apart x c w s q free;
        ends = λ a x p. ([], x, done x);
        ends_within = λ a x p f. ([], x, (done x, f));
        shrinks = λ a x p c w q f. trailers_shrink x c w q f;
      }) ts (reading.atom room sub ts) (atom_law room sub below ts) (reading.trailers room sub)
      (λ used x r p f e. trailers_law x f r))
