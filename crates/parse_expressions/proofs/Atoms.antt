-- The law of atoms.
use Rattle.std.proofs.Common.{◌≡◌, ℕ, suc, ◌≤◌, nat_le, Bool, true, false, if◌then◌else◌, ◌||◌, List, [], ◌∷◌, ◌++◌, length, refl, sym, ◌∙◌, ap, subst, Option, Some, None, codes, inl, inr, append_assoc, arith}
use Rattle.std.specs.Str.{bytes_eq}
use Rattle.indent_lexer.specs.declared.token.Token.{Token}
use Rattle.indent_lexer.specs.declared.token.TokenKind.{TokenKind}
use Rattle.indent_lexer.specs.declared.token.TokenKind.TheVariants as kind
use Rattle.source_trees.specs.declared.expression.Commas.TheVariants.{Bracketed}
use Rattle.source_trees.specs.declared.expression.Expr.{Expr}
use Rattle.source_trees.specs.declared.expression.Expr.TheVariants as e
use Rattle.source_trees.specs.declared.node.Node.{Node}
use Rattle.source_trees.specs.declared.node.Name.{Name}
use Rattle.parse_laws.specs.Parser.{Parser, and_then, class_of, sees, pure, within, take_by, ◌>>=◌}
use Rattle.parse_laws.specs.Language.{Language, Law}
use Rattle.parse_laws.specs.Forms.{Then, Is, Picks, Opens, Brackets, Made, Either, never}
use Rattle.parse_laws.specs.Limits.{Limited, Nothing, Carries, bracket}
use Rattle.parse_laws.specs.Loops.{Listed, last, trailing, another, finished}
use Rattle.parse_laws.proofs.Forms.{free_never}
use Rattle.parse_laws.proofs.Lists.{FitEach, up, down, grows_of, most_of}
use Rattle.parse_laws.proofs.Steps.{wider_law}
use Rattle.parse_laws.proofs.Sorts.{sort_limited}
use Rattle.parse_laws.proofs.Limits.{nothing_law, take_limited, pick_limited, optional_law, limit_law, join_law, made_limited, bracket_law}
use Rattle.grammar_rules.specs.Expressions as g
use Rattle.grammar_rules.specs.Expressions.{IsExpr, IsRow, IsAtom, IsArguments}
use Rattle.grammar_rules.specs.Words.{op_in, keyword_in, number_in, is_comma, named_by, is_spelled, is_keyword, is_word, name_of, text_of, node_at, name_at, most_items}
use Rattle.parse_expressions.specs.declared.form.Form.{Form}
use Rattle.parse_expressions.specs.declared.form.Form.TheVariants as form
use Rattle.parse_expressions.specs.Forms.{Low}
use Rattle.parse_expressions.specs.declared.start.Start.{Start}
use Rattle.parse_expressions.specs.declared.start.Start.TheVariants.{Named, Leaf, Texts, Round, Square, Nowhere}
use Rattle.parse_expressions.specs.Reading as reading
use Rattle.parse_expressions.specs.Reading.{start_in, start_of, leaf_in, leaf_of, text_from, text_at, constant, round_tree, is_open, is_close, is_square, is_text, few, name_tree, call_tree, plain_at, any_number}
use Rattle.parse_expressions.proofs.Tokens.{or_second, op_kind, keyword_kind, name_kind, number_kind, text_kind, plain_name}
use Rattle.parse_expressions.proofs.Opens.{x_token, x_tree, op_token, name_spelling}
use Rattle.parse_expressions.proofs.Least.{least}
use Rattle.parse_expressions.proofs.Heights.{height-Name, height-Number, height-True, height-False, height-None, height-Bracketed, height-Tuple, height-Call}
use Rattle.parse_expressions.proofs.Lows.{positive, highest_up, highest_down, room_true, no_room, x_low}
use Rattle.parse_expressions.proofs.Leaves as leaves
use Rattle.parse_expressions.proofs.Leaves.{Free_of_limit, texts_law, turns_of_texts, texts_of_turns, grows_any}
use Rattle.parse_expressions.proofs.Rows.{Reads, Row, LowRow, row_to, row_from, row_carries, row_law, ends_row, arguments_law}
use Rattle.parse_expressions.proofs.Squares.{Inside, AfterItem, Comprehended, Listing, square_law}

-- ---- the languages of atoms by what they begin with

abbrev pub NamedRest : Name → Language Token Expr
NamedRest name = Either (Made IsArguments (call_tree name)) (Is (name_tree name))

abbrev pub AtomFrom : Start → Language Token Expr
AtomFrom Named = Then (Picks plain_at) NamedRest
AtomFrom Leaf = Picks leaf_of
AtomFrom Texts = leaves.Texts
AtomFrom Round = Brackets is_open (Row few) is_close round_tree
AtomFrom Square = Opens is_square Inside
AtomFrom Nowhere = Nothing

-- ---- facts of tokens

pub plain_of : (t : Token) (name : Name) → is_word (codes "print") t ≡ false → name_at t ≡ Some name → plain_at t ≡ Some name
plain_of t name p h = ap (λ b. if b then None else name_at t) p ∙ h

pub plain_is : (t : Token) (name : Name) → plain_at t ≡ Some name → (is_word (codes "print") t ≡ false) × (name_at t ≡ Some name)
plain_is t name h =
    let go : (b : Bool) → is_word (codes "print") t ≡ b → (if b then None else name_at t) ≡ Some name → (is_word (codes "print") t ≡ false) × (name_at t ≡ Some name) = elim [
      | true ↦ λ e k. absurd (cc)
      | false ↦ λ e k. (e, k)
    ] in
    go (is_word (codes "print") t) refl h

text_of_at : (n : Node) (o : Option (List ℕ)) (first : Node × List ℕ) → text_from n o ≡ Some first → (o ≡ Some first.1) × (n ≡ first.0)
text_of_at n None first h = absurd (cc)
text_of_at n (Some value) first h =
    let k : Some (n, value) ≡ Some first = h in
    let l : (n, value) ≡ first = cc in
    (ap (λ z. Some z.1) l, ap (λ z. z.0) l)

-- ---- up: what each of them spells is an atom

named_up : (a : List Token) (v : Expr) → AtomFrom Named a v → IsAtom a v
named_up a v w =
    let t = w.heads.0 in
    let p = plain_is t w.value w.heads.2 in
    let n = name_spelling t w.value (name_of t) refl p.1 in
    let A : List Token → Type 0 = λ z. IsAtom z v in
    elim w.tails as (λ _. IsAtom a v) [
      | inl k ↦
          let N : Node → Type 0 = λ z. IsAtom (t ∷ w.second) (e.Call z w.value k.0) in
          let V : Expr → Type 0 = λ z. IsAtom (t ∷ w.second) z in
          subst A (sym (w.joined ∙ ap (λ z. z ++ w.second) w.heads.1))
          (subst V (sym k.2) (subst N (sym (ap (λ z. z.node) n.2)) (g.call t w.value w.second k.0 p.1 p.0 k.1)))
      | inr k ↦
          let V : Expr → Type 0 = λ z. IsAtom (t ∷ []) z in
          subst A (sym (w.joined ∙ ap (λ z. z ++ w.second) w.heads.1 ∙ ap (λ z. t ∷ z) k.0))
          (subst V (sym (k.1 ∙ ap name_tree n.2)) (g.name t n.0 n.1 p.0))
    ]

constant_up : (t : Token) (spelling : List ℕ) → t.kind ≡ kind.Keyword spelling → (v : Expr) → constant (node_at t) spelling ≡ Some v → IsAtom (t ∷ []) v
constant_up t spelling f v h =
    let is : (word : List ℕ) → bytes_eq spelling word ≡ true → is_keyword word t ≡ true = λ word i. ap (λ z. is_spelled (keyword_in z) word) f ∙ i in
    let V : Expr → Type 0 = λ z. IsAtom (t ∷ []) z in
    let third : (b : Bool) → bytes_eq spelling (codes "None") ≡ b → (if b then Some (e.None (node_at t)) else None) ≡ Some v → IsAtom (t ∷ []) v = elim [
      | true ↦ λ i k. let l : e.None (node_at t) ≡ v = cc in subst V l (g.nothing t (is (codes "None") i))
      | false ↦ λ i k. absurd (cc)
    ] in
    let second : (b : Bool) → bytes_eq spelling (codes "False") ≡ b → (if b then Some (e.False (node_at t)) else if bytes_eq spelling (codes "None") then Some (e.None (node_at t)) else None) ≡ Some v → IsAtom (t ∷ []) v = elim [
      | true ↦ λ i k. let l : e.False (node_at t) ≡ v = cc in subst V l (g.no t (is (codes "False") i))
      | false ↦ λ i k. third (bytes_eq spelling (codes "None")) refl k
    ] in
    let first : (b : Bool) → bytes_eq spelling (codes "True") ≡ b → (if b then Some (e.True (node_at t)) else if bytes_eq spelling (codes "False") then Some (e.False (node_at t)) else if bytes_eq spelling (codes "None") then Some (e.None (node_at t)) else None) ≡ Some v → IsAtom (t ∷ []) v = elim [
      | true ↦ λ i k. let l : e.True (node_at t) ≡ v = cc in subst V l (g.yes t (is (codes "True") i))
      | false ↦ λ i k. second (bytes_eq spelling (codes "False")) refl k
    ] in
    first (bytes_eq spelling (codes "True")) refl h

leaf_up_in : (t : Token) (k : TokenKind) → t.kind ≡ k → (v : Expr) → leaf_in (node_at t) k ≡ Some v → IsAtom (t ∷ []) v
leaf_up_in t (kind.Number value) f v h =
    let V : Expr → Type 0 = λ z. IsAtom (t ∷ []) z in
    let l : e.Number (node_at t) value ≡ v = cc in
    subst V l (g.number t value (ap number_in f))
leaf_up_in t (kind.Keyword spelling) f v h = constant_up t spelling f v h
leaf_up_in t _ f v h = absurd (cc)

leaf_up : (a : List Token) (v : Expr) → AtomFrom Leaf a v → IsAtom a v
leaf_up a v w = let A : List Token → Type 0 = λ z. IsAtom z v in subst A (sym w.1) (leaf_up_in w.0 (w.0).kind refl v w.2)

texts_up : (a : List Token) (v : Expr) → AtomFrom Texts a v → IsAtom a v
texts_up a v w =
    let t = w.heads.0 in
    let f = text_of_at (node_at t) (text_of t) w.value w.heads.2 in
    let k = texts_of_turns w.value.1 w.second w.tails.0 w.tails.1 in
    let A : List Token → Type 0 = λ z. IsAtom z v in
    let V : Expr → Type 0 = λ z. IsAtom (t ∷ w.second) z in
    subst A (sym (w.joined ∙ ap (λ z. z ++ w.second) w.heads.1))
    (subst V (sym (w.tails.2 ∙ ap (λ z. e.Text w.value.0 z) k.2 ∙ ap (λ z. e.Text z (w.value.1 ++ k.0)) (sym f.1))) (g.texts t w.value.1 w.second k.0 f.0 k.1))

round_up_in : (t : Token) (b : List Token) (w : List Expr × Bool) (c : Token) → is_open t ≡ true → Listed is_comma IsExpr b w → length w.0 ≤ most_items → is_close c ≡ true
    → IsAtom (t ∷ (b ++ c ∷ [])) (round_tree t w)
round_up_in t _ _ c h (last b x p) l i = g.bracketed t b x c h p i
round_up_in t _ _ c h (trailing b x u p j) l i = g.tuple t (b ++ u ∷ []) (x ∷ []) c h (g.trailing b x u p j) l i
round_up_in t _ _ c h (another b x u d xs more p j q) l i = g.tuple t (b ++ u ∷ d) (x ∷ xs) c h (g.another b x u d xs more p j (row_from d (xs, more) q)) l i

round_up : (a : List Token) (v : Expr) → AtomFrom Round a v → IsAtom a v
round_up a v w =
    let k = w.4 in
    let A : List Token → Type 0 = λ z. IsAtom z v in
    let V : Expr → Type 0 = λ z. IsAtom (w.0 ∷ (k.0 ++ k.2 ∷ [])) z in
    let l : length k.1.0 ≤ most_items = let m = most_of most_items [] k.1.0 (omega arith) k.4.1 in omega arith in
    subst A (sym (w.2 ∙ ap (λ z. w.0 ∷ z) k.3)) (subst V (sym k.6) (round_up_in w.0 k.0 k.1 k.2 w.3 k.4.0 l k.5))

listing_up : (t : Token) → is_square t ≡ true → (a : List Token) (x : Expr) → IsExpr a x → (c : List Token) (v : Expr) → Listing t x c v → IsAtom (t ∷ (a ++ c)) v
listing_up t h a x p c v k =
    let A : List Token → Type 0 = λ z. IsAtom (t ∷ z) v in
    let V : Expr → Type 0 = λ z. IsAtom (t ∷ ((a ++ k.0) ++ k.2 ∷ [])) z in
    let w = up is_comma IsExpr any_number refl (a ++ k.0) (finished k.1) (k.1, record { first = a; second = k.0; value = x; joined = refl; heads = p; tails = k.4 }, refl) in
    subst A (append_assoc a k.0 (k.2 ∷ []) ∙ ap (λ z. a ++ z) (sym k.3))
    (subst V (sym k.6) (g.list t (a ++ k.0) k.1.0 (finished k.1).1 k.2 h (row_from (a ++ k.0) (finished k.1) w.0) k.5))

comprehension_up : (t : Token) → is_square t ≡ true → (a : List Token) (x : Expr) → IsExpr a x → (c : List Token) (v : Expr) → Comprehended t x c v → IsAtom (t ∷ (a ++ c)) v
comprehension_up t h a x p c v k =
    let n = k.4 in
    let i = n.tails in
    let j = i.4 in
    let d = j.tails in
    let A : List Token → Type 0 = λ z. IsAtom (t ∷ (a ++ z)) v in
    let V : Expr → Type 0 = λ z. IsAtom (t ∷ (a ++ k.0 ∷ (n.first ++ i.0 ∷ (j.first ++ (d.0 ++ d.2 ∷ []))))) z in
    subst A (sym (k.2 ∙ ap (λ z. k.0 ∷ z) (n.joined ∙ ap (λ z. n.first ++ z) (i.2 ∙ ap (λ z. i.0 ∷ z) (j.joined ∙ ap (λ z. j.first ++ z) d.3)))))
    (subst V (sym d.6) (g.comprehension t a x k.0 n.first n.value i.0 j.first j.value d.0 d.1 d.2 h p k.3 n.heads i.3 j.heads d.4 d.5))

after_up : (t : Token) → is_square t ≡ true → (a : List Token) (x : Expr) → IsExpr a x → (c : List Token) (v : Expr) → AfterItem t x c v → IsAtom (t ∷ (a ++ c)) v
after_up t h a x p c v (inl k) = comprehension_up t h a x p c v k
after_up t h a x p c v (inr k) = listing_up t h a x p c v k

square_up : (a : List Token) (v : Expr) → AtomFrom Square a v → IsAtom a v
square_up a v w =
    let t = w.0 in
    let A : List Token → Type 0 = λ z. IsAtom z v in
    elim w.4 as (λ _. IsAtom a v) [
      | inl k ↦
          let V : Expr → Type 0 = λ z. IsAtom (t ∷ k.0 ∷ []) z in
          subst A (sym (w.2 ∙ ap (λ z. t ∷ z) k.1)) (subst V (sym k.3) (g.empty_list t k.0 w.3 k.2))
      | inr k ↦ subst A (sym (w.2 ∙ ap (λ z. t ∷ z) k.joined)) (after_up t w.3 k.first k.value k.heads k.second v k.tails)
    ]

pub atom_up : (c : Start) (a : List Token) (v : Expr) → AtomFrom c a v → IsAtom a v
atom_up Named a v w = named_up a v w
atom_up Leaf a v w = leaf_up a v w
atom_up Texts a v w = texts_up a v w
atom_up Round a v w = round_up a v w
atom_up Square a v w = square_up a v w
atom_up Nowhere a v w = absurd w

-- ---- down: an atom is spelled by what its first token begins

abbrev pub From : List Token → List Token → Expr → Type 0
From l a v = AtomFrom (class_of start_of Nowhere l) a v

by_start : (c : Start) (t : Token) → start_of t ≡ c → (a : List Token) (v : Expr) → AtomFrom c a v → (l : List Token) → From (t ∷ l) a v
by_start c t h a v w l = let C : Start → Type 0 = λ z. AtomFrom z a v in subst C (sym h) w

pub start_of_name : (t : Token) (spelling : List ℕ) → name_of t ≡ Some spelling → is_word (codes "print") t ≡ false → start_of t ≡ Named
start_of_name t spelling h p =
    ap start_in (name_kind t spelling h) ∙ ap (λ b. if b then Nowhere else Named) (plain_name t spelling h p)

pub name_at_of : (t : Token) (spelling : List ℕ) → name_of t ≡ Some spelling → name_at t ≡ Some (record { node = node_at t; spelling = spelling })
name_at_of t spelling h = ap (named_by t) h

pub atom_down : (a : List Token) (v : Expr) (s : List Token) → IsAtom a v → From (a ++ s) a v
atom_down _ _ s (g.name t spelling h p) =
    by_start Named t (start_of_name t spelling h p) (t ∷ []) (e.Name (node_at t) spelling)
    (record {
      first = t ∷ [];
      second = [];
      value = record { node = node_at t; spelling = spelling };
      joined = refl;
      heads = (t, refl, plain_of t (record { node = node_at t; spelling = spelling }) p (name_at_of t spelling h));
      tails = inr (refl, refl);
    }) s
atom_down _ _ s (g.call t callee a xs h p q) =
    let n = name_spelling t callee (name_of t) refl h in
    by_start Named t (start_of_name t n.0 n.1 p) (t ∷ a) (e.Call (node_at t) callee xs)
    (record {
      first = t ∷ [];
      second = a;
      value = callee;
      joined = refl;
      heads = (t, refl, plain_of t callee p h);
      tails = inl (xs, q, ap (λ z. e.Call z callee xs) (sym (ap (λ z. z.node) n.2)));
    }) (a ++ s)
atom_down _ _ s (g.number t value h) =
    by_start Leaf t (ap start_in (number_kind t value h)) (t ∷ []) (e.Number (node_at t) value) (t, refl, ap (leaf_in (node_at t)) (number_kind t value h)) s
atom_down _ _ s (g.texts t value a more h p) =
    by_start Texts t (ap start_in (text_kind t value h)) (t ∷ a) (e.Text (node_at t) (value ++ more))
    (record {
      first = t ∷ [];
      second = a;
      value = (node_at t, value);
      joined = refl;
      heads = (t, refl, ap (text_from (node_at t)) h);
      tails = (value ++ more, turns_of_texts value a more p, refl);
    }) (a ++ s)
atom_down _ _ s (g.yes t h) = by_start Leaf t (ap start_in (keyword_kind (codes "True") t h)) (t ∷ []) (e.True (node_at t)) (t, refl, ap (leaf_in (node_at t)) (keyword_kind (codes "True") t h)) s
atom_down _ _ s (g.no t h) = by_start Leaf t (ap start_in (keyword_kind (codes "False") t h)) (t ∷ []) (e.False (node_at t)) (t, refl, ap (leaf_in (node_at t)) (keyword_kind (codes "False") t h)) s
atom_down _ _ s (g.nothing t h) = by_start Leaf t (ap start_in (keyword_kind (codes "None") t h)) (t ∷ []) (e.None (node_at t)) (t, refl, ap (leaf_in (node_at t)) (keyword_kind (codes "None") t h)) s
atom_down _ _ s (g.bracketed t a x c h p i) =
    by_start Round t (ap start_in (op_kind (codes "(") t h)) (t ∷ (a ++ c ∷ [])) (e.Bracketed (node_at t) x)
    (t, a ++ c ∷ [], refl, h, (a, (x ∷ [], false), c, refl, (last a x p, (refl, tt)), i, refl)) ((a ++ c ∷ []) ++ s)
atom_down _ _ s (g.tuple t a xs c h p l i) =
    by_start Round t (ap start_in (op_kind (codes "(") t h)) (t ∷ (a ++ c ∷ [])) (e.Tuple (node_at t) Bracketed xs)
    (t, a ++ c ∷ [], refl, h, (a, (xs, true), c, refl, (row_to a (xs, true) p, grows_of most_items [] xs (omega arith)), i, refl)) ((a ++ c ∷ []) ++ s)
atom_down _ _ s (g.empty_list t c h i) =
    by_start Square t (ap start_in (op_kind (codes "[") t h)) (t ∷ c ∷ []) (e.List (node_at t) []) (t, c ∷ [], refl, h, inl (c, refl, i, refl)) (c ∷ s)
atom_down _ _ s (g.list t a xs more c h p i) =
    let w = down is_comma IsExpr any_number a (xs, more) (row_to a (xs, more) p, grows_any [] xs) in
    let k = w.1 in
    by_start Square t (ap start_in (op_kind (codes "[") t h)) (t ∷ (a ++ c ∷ [])) (e.List (node_at t) xs) (
      t,
      a ++ c ∷ [],
      refl,
      h,
      inr (record {
        first = k.first;
        second = k.second ++ c ∷ [];
        value = k.value;
        joined = ap (λ z. z ++ c ∷ []) k.joined ∙ append_assoc k.first k.second (c ∷ []);
        heads = k.heads;
        tails = inr (k.second, w.0, c, refl, k.tails, i, ap (λ z. e.List (node_at t) z.0) w.2);
      }),
    ) ((a ++ c ∷ []) ++ s)
atom_down _ _ s (g.comprehension t a x u b ns j c y d z f h p k q l r m n) =
    by_start Square t (ap start_in (op_kind (codes "[") t h)) (t ∷ (a ++ u ∷ (b ++ j ∷ (c ++ (d ++ f ∷ []))))) (e.Comprehension (node_at t) x ns y z) (
      t,
      a ++ u ∷ (b ++ j ∷ (c ++ (d ++ f ∷ []))),
      refl,
      h,
      inr (record {
        first = a;
        second = u ∷ (b ++ j ∷ (c ++ (d ++ f ∷ [])));
        value = x;
        joined = refl;
        heads = p;
        tails = inl (
          u,
          b ++ j ∷ (c ++ (d ++ f ∷ [])),
          refl,
          k,
          record {
            first = b;
            second = j ∷ (c ++ (d ++ f ∷ []));
            value = ns;
            joined = refl;
            heads = q;
            tails = (
              j,
              c ++ (d ++ f ∷ []),
              refl,
              l,
              record {
                first = c;
                second = d ++ f ∷ [];
                value = y;
                joined = refl;
                heads = r;
                tails = (d, z, f, refl, m, n, refl);
              },
            );
          },
        );
      }),
    ) ((a ++ u ∷ (b ++ j ∷ (c ++ (d ++ f ∷ [])))) ++ s)

-- ---- the laws

-- what carries an atom on: another text, or the bracket of a call
abbrev pub atom_carries : Token → Bool
atom_carries t = is_text t || is_open t

text_wider : (t : Token) → atom_carries t ≡ false → is_text t ≡ false
text_wider t h =
    let go : (x : Bool) → is_text t ≡ x → x || is_open t ≡ false → x ≡ false = elim [ true ↦ λ e k. k | false ↦ λ e k. refl ] in
    go (is_text t) refl h

pub arguments_open : (a : List Token) (xs : List Expr) (s : List Token) → IsArguments a xs → sees is_open (a ++ s) ≡ true
arguments_open _ _ s (g.no_arguments o c h i) = h
arguments_open _ _ s (g.arguments o a xs more c h p l i) = h

pub arguments_least : (t : Token) → is_open t ≡ true → IsArguments (t ∷ op_token (codes ")") ∷ []) []
arguments_least t h = g.no_arguments t (op_token (codes ")")) h refl

constant_by : (room : ℕ) (n : Node) (x y z : Bool) (v : Expr) → (if x then Some (e.True n) else if y then Some (e.False n) else if z then Some (e.None n) else None) ≡ Some v → Low (suc room) v
constant_by room n true y z v h = let l : e.True n ≡ v = cc in subst (Low (suc room)) l (let m = height-True n in omega arith)
constant_by room n false true z v h = let l : e.False n ≡ v = cc in subst (Low (suc room)) l (let m = height-False n in omega arith)
constant_by room n false false true v h = let l : e.None n ≡ v = cc in subst (Low (suc room)) l (let m = height-None n in omega arith)
constant_by room n false false false v h = absurd (cc)

constant_low : (room : ℕ) (n : Node) (spelling : List ℕ) (v : Expr) → constant n spelling ≡ Some v → Low (suc room) v
constant_low room n spelling v h = constant_by room n (bytes_eq spelling (codes "True")) (bytes_eq spelling (codes "False")) (bytes_eq spelling (codes "None")) v h

module _ (room : ℕ) (sub : Form → Parser Token Expr) (below : Reads room sub) where
  abbrev Within : Expr → Type 0
  Within = Low (suc room)

  call_carries : (name : Name) → nat_le 1 room ≡ true → Carries (call_tree name) (FitEach (Low room)) Within
  call_carries name some = record {
    grows = λ xs f. let h = height-Call name.node name xs in let k = highest_up room xs f in let l = room_true room some in omega arith;
    shrinks = λ xs f. let h = height-Call name.node name xs in highest_down room xs (omega arith);
  }

  named_rest_law : (name : Name) (ts : List Token) → Law (NamedRest name) (Limited (NamedRest name) Within) atom_carries ts (reading.named_rest room sub name ts)
  unfolding reading.named_rest
  named_rest_law name ts =
      optional_law (Made IsArguments (call_tree name)) (name_tree name) Within (let h = height-Name name.node name.spelling in omega arith) atom_carries is_open
      (λ a w s k. arguments_open a k.0 s k.1) (λ t h. or_second (is_text t) (is_open t) h)
      (within (nat_le 1 room) (reading.arguments room sub >>= λ xs. pure (call_tree name xs))) ts
      (λ h. limit_law (Made IsArguments (call_tree name)) Within atom_carries is_open (nat_le 1 room)
      (λ t i. (op_token (codes ")") ∷ [], call_tree name [], ([], arguments_least t i, refl)))
      (λ none a v s k f free i. no_room 1 room none (let m = subst Within k.2 f in let n = height-Call name.node name k.0 in omega arith))
      (reading.arguments room sub >>= λ xs. pure (call_tree name xs)) ts h
      (λ some. made_limited IsArguments atom_carries (call_tree name) (FitEach (Low room)) Within (call_carries name some) ts (reading.arguments room sub ts) (arguments_law room sub below atom_carries ts)))

  pub named_law : (ts : List Token) → Law (AtomFrom Named) (Limited (AtomFrom Named) Within) atom_carries ts (and_then (take_by plain_at ts) (reading.named_rest room sub))
  named_law ts =
      join_law (Picks plain_at) never NamedRest atom_carries Free_of_limit Within
      (record {
        apart = λ a v p c w s q free. free_never (c ++ s);
        ends = λ a v p. ([], name_tree v, inr (refl, refl));
        ends_within = λ a v p f. ([], name_tree v, (inr (refl, refl), let h = height-Name v.node v.spelling in omega arith));
        shrinks = λ a v p c w q f. tt;
      }) ts (take_by plain_at ts) (take_limited plain_at Free_of_limit (λ o. tt) never ts) (reading.named_rest room sub)
      (λ used v r p f h. named_rest_law v r)

  leaf_low_in : (t : Token) (k : TokenKind) (o : Expr) → leaf_in (node_at t) k ≡ Some o → Within o
  leaf_low_in t (kind.Number value) o h = let l : e.Number (node_at t) value ≡ o = cc in subst Within l (let m = height-Number (node_at t) value in omega arith)
  leaf_low_in t (kind.Keyword spelling) o h = constant_low room (node_at t) spelling o h
  leaf_low_in t _ o h = absurd (cc)

  leaf_law : (ts : List Token) → Law (AtomFrom Leaf) (Limited (AtomFrom Leaf) Within) atom_carries ts (take_by leaf_of ts)
  leaf_law ts = pick_limited leaf_of Within (λ t o h. leaf_low_in t t.kind o h) atom_carries ts

  atom_texts_law : (ts : List Token) → Law (AtomFrom Texts) (Limited (AtomFrom Texts) Within) atom_carries ts (reading.texts ts)
  atom_texts_law ts = wider_law leaves.Texts (Limited leaves.Texts Within) is_text atom_carries text_wider ts (reading.texts ts) (texts_law room ts)

  round_low : (t : Token) (w : List Expr × Bool) → 1 ≤ room → FitEach (Low room) w.0 → Within (round_tree t w)
  round_low t (xs, true) some f = let h = height-Tuple (node_at t) Bracketed xs in let k = highest_up room xs f in omega arith
  round_low t (x ∷ [], false) some f = let h = height-Bracketed (node_at t) x in let k = f.0 in omega arith
  round_low t ([], false) some f = let h = height-Tuple (node_at t) Bracketed [] in omega arith
  round_low t (x ∷ y ∷ ys, false) some f = let h = height-Tuple (node_at t) Bracketed (x ∷ y ∷ ys) in let k = highest_up room (x ∷ y ∷ ys) f in omega arith

  round_parts : (t : Token) (w : List Expr × Bool) → Within (round_tree t w) → FitEach (Low room) w.0
  round_parts t (xs, true) f = let h = height-Tuple (node_at t) Bracketed xs in highest_down room xs (omega arith)
  round_parts t (x ∷ [], false) f = let h = height-Bracketed (node_at t) x in (omega arith, tt)
  round_parts t ([], false) f = tt
  round_parts t (x ∷ y ∷ ys, false) f = let h = height-Tuple (node_at t) Bracketed (x ∷ y ∷ ys) in highest_down room (x ∷ y ∷ ys) (omega arith)

  row_positive : (a : List Token) (w : List Expr × Bool) → Listed is_comma IsExpr a w → FitEach (Low room) w.0 → 1 ≤ room
  row_positive _ _ (last a x p) f = let h = positive x in let k = f.0 in omega arith
  row_positive _ _ (trailing a x c p i) f = let h = positive x in let k = f.0 in omega arith
  row_positive _ _ (another a x c b xs more p i q) f = let h = positive x in let k = f.0 in omega arith

  round_least : (t : Token) → is_open t ≡ true → AtomFrom Round (t ∷ x_token ∷ op_token (codes ")") ∷ []) (round_tree t (x_tree ∷ [], false))
  round_least t h = (t, x_token ∷ op_token (codes ")") ∷ [], refl, h, (x_token ∷ [], (x_tree ∷ [], false), op_token (codes ")"), refl, (last (x_token ∷ []) x_tree (least form.Whole), (refl, tt)), refl, refl))

  close_ends_row : (t : Token) → is_close t ≡ true → row_carries t ≡ false
  close_ends_row = ends_row (codes ")") refl refl refl

  round_law : (ts : List Token) → sees is_open ts ≡ true → Law (AtomFrom Round) (Limited (AtomFrom Round) Within) atom_carries ts (reading.round room sub ts)
  unfolding reading.round
  round_law ts h =
      limit_law (AtomFrom Round) Within atom_carries is_open (nat_le 1 room)
      (λ t i. (x_token ∷ op_token (codes ")") ∷ [], round_tree t (x_tree ∷ [], false), round_least t i))
      (λ none a v s k f free i. no_room 1 room none (row_positive k.4.0 k.4.1 k.4.4.0 (round_parts k.0 k.4.1 (subst Within k.4.6 f))))
      (bracket is_open (reading.row room sub few) is_close round_tree) ts h
      (λ some. bracket_law is_open is_close (op_token (codes ")")) refl (Row few) row_carries atom_carries close_ends_row round_tree (LowRow room) Within
      (λ t. record { grows = λ w f. round_low t w (room_true room some) f; shrinks = λ w f. round_parts t w f })
      (x_token ∷ [], (x_tree ∷ [], false), ((last (x_token ∷ []) x_tree (least form.Whole), (refl, tt)), (x_low room (room_true room some), tt)))
      (reading.row room sub few) (λ r. row_law room sub below few refl r) ts)

  name_not_round : (b : Bool) → (if b then Nowhere else Named) ≡ Round → ⊥
  name_not_round true h = cc
  name_not_round false h = cc

  word_not_round : (b : Bool) → (if b then Leaf else Nowhere) ≡ Round → ⊥
  word_not_round true h = cc
  word_not_round false h = cc

  op_round : (x y : Bool) → (if x then Round else if y then Square else Nowhere) ≡ Round → x ≡ true
  op_round true y h = refl
  op_round false true h = absurd (cc)
  op_round false false h = absurd (cc)

  round_in : (k : TokenKind) → start_in k ≡ Round → is_spelled (op_in k) (codes "(") ≡ true
  round_in (kind.Name spelling) h = absurd (name_not_round (bytes_eq spelling (codes "print")) h)
  round_in (kind.Op spelling) h = op_round (bytes_eq spelling (codes "(")) (bytes_eq spelling (codes "[")) h
  round_in (kind.Keyword spelling) h =
      absurd (word_not_round (bytes_eq spelling (codes "True") || bytes_eq spelling (codes "False") || bytes_eq spelling (codes "None")) h)
  round_in _ h = absurd (cc)

  round_sees : (ts : List Token) → class_of start_of Nowhere ts ≡ Round → sees is_open ts ≡ true
  round_sees [] h = absurd (cc)
  round_sees (t ∷ ts) h = round_in t.kind h

  from_law : (c : Start) (ts : List Token) → class_of start_of Nowhere ts ≡ c → Law (AtomFrom c) (Limited (AtomFrom c) Within) atom_carries ts (reading.atom_from room sub c ts)
  unfolding reading.atom_from
  from_law Named ts h = named_law ts
  from_law Leaf ts h = leaf_law ts
  from_law Texts ts h = atom_texts_law ts
  from_law Round ts h = round_law ts (round_sees ts h)
  from_law Square ts h = square_law room sub below atom_carries ts
  from_law Nowhere ts h = nothing_law Within atom_carries ts

  pub atom_law : (ts : List Token) → Law IsAtom (Limited IsAtom Within) atom_carries ts (reading.atom room sub ts)
  unfolding reading.atom
  atom_law ts =
      sort_limited start_of Nowhere IsAtom AtomFrom Within atom_carries atom_up (λ a v s p free. atom_down a v s p) ts _
      (from_law (class_of start_of Nowhere ts) ts refl)
