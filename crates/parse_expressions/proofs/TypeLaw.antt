-- The law of types at every height.
use Rattle.std.proofs.Common.{◌≡◌, ℕ, zero, suc, ◌≤◌, nat_le, Bool, true, false, if◌then◌else◌, ◌||◌, ◌&&◌, List, [], ◌∷◌, ◌++◌, length, refl, ◌∙◌, ap, subst, Some, None, codes, inr, append_assoc, arith}
use Rattle.std.specs.Str.{bytes_eq}
use Rattle.indent_lexer.specs.declared.token.Token.{Token}
use Rattle.indent_lexer.specs.declared.token.TokenKind.{TokenKind}
use Rattle.indent_lexer.specs.declared.token.TokenKind.TheVariants as kind
use Rattle.source_trees.specs.declared.item.Annotation.{Annotation}
use Rattle.source_trees.specs.declared.item.Annotation.TheVariants as annotation
use Rattle.source_trees.specs.declared.node.Node.{Node}
use Rattle.source_trees.specs.declared.node.Name.{Name}
use Rattle.parse_laws.specs.declared.cause.Cause.TheVariants.{Unexpected, TooDeep}
use Rattle.parse_laws.specs.Parser.{Parser, Stopped, and_then, class_of, sees, pure, refuse, choose, within, expect, take_by, repeat, ◌>>=◌, ◌>>◌}
use Rattle.parse_laws.specs.Language.{Language, Free, Law}
use Rattle.parse_laws.specs.Forms.{Then, Picks, Opens, Closes, Made, never}
use Rattle.parse_laws.specs.Limits.{Limited, Carries}
use Rattle.parse_laws.specs.Loops.{Turns, done, next, Repeated}
use Rattle.parse_laws.proofs.Choices.{choose_law}
use Rattle.parse_laws.proofs.Forms.{free_never, wider_at, begins_at}
use Rattle.parse_laws.proofs.Lists.{FitEach}
use Rattle.parse_laws.proofs.Steps.{refuse_law, deep_law}
use Rattle.parse_laws.proofs.Sorts.{sort_limited}
use Rattle.parse_laws.proofs.Repeats.{at_head, repeat_law}
use Rattle.parse_laws.proofs.Limits.{same_law, nothing_law, take_limited, pick_limited, optional_law, limit_law, join_law, made_limited, open_limited, close_limited}
use Rattle.grammar_rules.specs.Types as g
use Rattle.grammar_rules.specs.Types.{IsType, IsTypes, is_type_word, is_list_word, is_tuple_word}
use Rattle.grammar_rules.specs.Words.{op_in, is_spelled, is_comma, node_at}
use Rattle.parse_expressions.specs.Reading.{is_square, is_square_close}
use Rattle.parse_expressions.specs.declared.start.TypeStart.{TypeStart}
use Rattle.parse_expressions.specs.declared.start.TypeStart.TheVariants.{Simple, ListWord, TupleWord, Nowhere}
use Rattle.parse_expressions.specs.TypeReading as reading
use Rattle.parse_expressions.specs.TypeReading.{LowType, is_list_spelling, is_tuple_spelling, type_start_in, type_start, named_type, simple_in, simple_type, type_begins_in, type_begins, named_if, few_types, more_types, class_tree}
use Rattle.parse_expressions.proofs.Tokens.{op_kind, or_first, or_none, and_second}
use Rattle.parse_expressions.proofs.Opens.{x_token, op_token}
use Rattle.parse_expressions.proofs.Lows.{room_true, no_room}
use Rattle.parse_expressions.proofs.Leaves.{Free_of_limit}
use Rattle.parse_expressions.proofs.TypeHeights.{height-Int, height-Bool, height-Str, height-None, height-Class, height-List, height-Tuple, type_positive, types_up, types_down}
use Rattle.parse_expressions.proofs.Types.{Step, TypeRow, Bracket, Rest, list_tree, tuple_tree, TypeFrom, type_up, type_down, type_opens, type_viable}

-- ---- facts of tokens

square_ends : (t : Token) → is_square_close t ≡ true → is_square t ≡ false
square_ends t h = ap (λ k. is_spelled (op_in k) (codes "[")) (op_kind (codes "]") t h)

-- what carries a row of types on
abbrev row_carries : Token → Bool
row_carries t = is_comma t || is_square t

close_ends_row : (t : Token) → is_square_close t ≡ true → row_carries t ≡ false
close_ends_row t h = ap (λ k. is_spelled (op_in k) (codes ",") || is_spelled (op_in k) (codes "[")) (op_kind (codes "]") t h)

comma_no_square : (t : Token) → is_comma t ≡ true → is_square t ≡ false
comma_no_square t h = ap (λ k. is_spelled (op_in k) (codes "[")) (op_kind (codes ",") t h)

sees_both : (x : Bool) (f : Token → Bool) (l : List Token) → x ≡ true → sees f l ≡ true → sees (λ t. x && f t) l ≡ true
sees_both true f [] e h = cc
sees_both true f (t ∷ ts) e h = h
sees_both false f l e h = absurd (cc)

sees_first : (x : Bool) (f : Token → Bool) (l : List Token) → sees (λ t. x && f t) l ≡ true → x ≡ true
sees_first true f l h = refl
sees_first false f [] h = absurd (cc)
sees_first false f (t ∷ ts) h = absurd (cc)

least_type : IsType (x_token ∷ []) (annotation.Class (node_at x_token) (codes "x"))
least_type = g.class x_token (codes "x") refl refl

abbrev x_type : Annotation
x_type = annotation.Class (node_at x_token) (codes "x")

-- the parts of types are read by their law
abbrev pub ReadsTypes : ℕ → Parser Token Annotation → Type 0
ReadsTypes room sub = (ts : List Token) → Law IsType (Limited IsType (LowType room)) is_square ts (sub ts)

fit_snoc : (room : ℕ) (s : List Annotation) (y : Annotation) → FitEach (LowType room) s → LowType room y → FitEach (LowType room) (s ++ y ∷ [])
fit_snoc room [] y f i = (i, tt)
fit_snoc room (x ∷ s) y f i = (f.0, fit_snoc room s y f.1 i)

fit_front : (room : ℕ) (s : List Annotation) (y : Annotation) → FitEach (LowType room) (s ++ y ∷ []) → FitEach (LowType room) s
fit_front room [] y f = tt
fit_front room (x ∷ s) y f = (f.0, fit_front room s y f.1)

fit_last : (room : ℕ) (s : List Annotation) (y : Annotation) → FitEach (LowType room) (s ++ y ∷ []) → LowType room y
fit_last room [] y f = f.0
fit_last room (x ∷ s) y f = fit_last room s y f.1

module _ (room : ℕ) (sub : Parser Token Annotation) (below : ReadsTypes room sub) where
  abbrev Within : Annotation → Type 0
  Within = LowType (suc room)

  abbrev Fit : List Annotation → Type 0
  Fit = FitEach (LowType room)

  x_low : 1 ≤ room → LowType room x_type
  x_low some = let h = height-Class (node_at x_token) (codes "x") in omega arith

  -- ---- rows of types

  push : List Annotation → Annotation → List Annotation
  push v y = v ++ y ∷ []

  step_from : (v : List Annotation) → few_types v ≡ true → (a : List Token) (w : List Annotation) → Opens is_comma (λ _. Made IsType (λ y. v ++ y ∷ [])) a w → Step v a w
  step_from v l a w k = ((k.4.0, (k.0, k.1, k.2, k.3, k.4.1), k.4.2), l)

  step_to : (v : List Annotation) (a : List Token) (w : List Annotation) → Step v a w → Opens is_comma (λ _. Made IsType (λ y. v ++ y ∷ [])) a w
  step_to v a w k = let i = k.0.1 in (i.0, i.1, i.2, i.3, (k.0.0, i.4, k.0.2))

  turn_law : 1 ≤ room → (v : List Annotation) → Fit v → (ts : List Token) → sees (more_types v) ts ≡ true
      → Law (Step v) (Limited (Step v) Fit) is_square ts ((expect is_comma >>= λ _. sub >>= λ y. pure (v ++ y ∷ [])) ts)
  turn_law some v f ts h =
      same_law (Opens is_comma (λ _. Made IsType (λ y. v ++ y ∷ []))) (Step v) Fit is_square (step_from v (sees_first (few_types v) is_comma ts h)) (step_to v) ts _
      (open_limited is_comma (λ _. Made IsType (λ y. v ++ y ∷ [])) Fit is_square
      (λ t i. (x_token ∷ [], v ++ x_type ∷ [], ((x_type, least_type, refl), fit_snoc room v x_type f (x_low some))))
      ts (λ _. sub >>= λ y. pure (v ++ y ∷ []))
      (λ t r i j. made_limited IsType is_square (λ y. v ++ y ∷ []) (LowType room) Fit
      (record { grows = λ y k. fit_snoc room v y f k; shrinks = λ y k. fit_last room v y k }) r (sub r) (below r)))

  step_opens : (v : List Annotation) (b : List Token) (u : List Annotation) (s : List Token) → Step v b u → sees (more_types v) (b ++ s) ≡ true
  step_opens v b u s k =
      let i = k.0.1 in
      sees_both (few_types v) is_comma (b ++ s) k.1 (ap (λ z. sees is_comma (z ++ s)) i.2 ∙ i.3)

  repeated : Repeated more_types Step (λ _. is_square) row_carries Fit
  repeated = record {
    opens = step_opens;
    own = λ v t h. or_first (is_comma t) (is_square t) (and_second (few_types v) (is_comma t) h);
    wider = λ v t h. or_none (is_comma t) (is_square t) h;
    next = λ v b u t p h. comma_no_square t (and_second (few_types u) (is_comma t) h);
    shrinks = λ v b u p f. fit_front room v p.0.0 (subst Fit p.0.2 f);
  }

  turns_apart : (v : List Annotation) (c : List Token) (w : List Annotation) (s : List Token) → Turns Step v c w → Free row_carries s → Free is_square (c ++ s)
  turns_apart _ _ _ s (done v) free = wider_at is_square row_carries (λ t h. or_none (is_comma t) (is_square t) h) s free
  turns_apart _ _ _ s (next v b u c w p rest) free =
      ap (sees is_square) (append_assoc b c s)
      ∙ at_head (more_types v) is_square false (λ t h. comma_no_square t (and_second (few_types v) (is_comma t) h)) (b ++ (c ++ s)) (step_opens v b u (c ++ s) p)

  turns_shrink : (v : List Annotation) (c : List Token) (w : List Annotation) → Turns Step v c w → Fit w → Fit v
  turns_shrink _ _ _ (done v) f = f
  turns_shrink _ _ _ (next v b u c w p rest) f = fit_front room v p.0.0 (subst Fit p.0.2 (turns_shrink u c w rest f))

  types_law : 1 ≤ room → (ts : List Token) → Law TypeRow (Limited TypeRow Fit) row_carries ts (reading.types room sub ts)
  unfolding reading.types reading.types_after
  types_law some ts =
      join_law IsType is_square (λ x. Turns Step (x ∷ [])) row_carries (LowType room) Fit
      (record {
        apart = λ a x p c w s q free. turns_apart (x ∷ []) c w s q free;
        ends = λ a x p. ([], x ∷ [], done (x ∷ []));
        ends_within = λ a x p f. ([], x ∷ [], (done (x ∷ []), (f, tt)));
        shrinks = λ a x p c w q f. (turns_shrink (x ∷ []) c w q f).0;
      }) ts (sub ts) (below ts) (λ x us. repeat more_types (λ xs. expect is_comma >>= λ _. sub >>= λ y. pure (xs ++ y ∷ [])) (length us) (x ∷ []) us)
      (λ used x r p f e. repeat_law more_types Step (λ _. is_square) row_carries Fit repeated (λ xs. expect is_comma >>= λ _. sub >>= λ y. pure (xs ++ y ∷ []))
      (λ v g us h. turn_law some v g us h) (length r) (x ∷ []) r (omega arith) (f, tt))

  -- ---- what stands in brackets after `list` and `tuple`

  list_carries : (n : Node) → Carries (list_tree n) (LowType room) Within
  list_carries n = record {
    grows = λ x f. let h = height-List n x in omega arith;
    shrinks = λ x f. let h = height-List n x in omega arith;
  }

  tuple_carries : (n : Node) → Carries (tuple_tree n) Fit Within
  tuple_carries n = record {
    grows = λ xs f. let h = height-Tuple n xs in let k = types_up room xs f in omega arith;
    shrinks = λ xs f. let h = height-Tuple n xs in types_down room xs (omega arith);
  }

  class_low : (name : Name) → Within (class_tree name)
  class_low name = let h = height-Class name.node name.spelling in omega arith

  -- a name, with something in brackets after it where there is room
  rest_law : {A : Type 0} (L : Language Token A) (f : Node → A → Annotation) (fit : A → Type 0) (contp : Token → Bool) → ((t : Token) → is_square_close t ≡ true → contp t ≡ false)
      → ((n : Node) → Carries (f n) fit Within) → ((n : Node) (a : List Token) (x : A) → L a x → Within (f n x) → 1 ≤ room) → (least_value : A) → L (x_token ∷ []) least_value → (1 ≤ room → fit least_value)
      → (p : Parser Token A) → (1 ≤ room → (us : List Token) → Law L (Limited L fit) contp us (p us))
      → (name : Name) (ts : List Token) → Law (Rest L f name) (Limited (Rest L f name) Within) is_square ts
      (choose is_square (within (nat_le 1 room) (expect is_square >>= λ _. p >>= λ x. expect is_square_close >> pure (f name.node x))) (pure (class_tree name)) ts)
  rest_law L f fit contp apart carries some_of v least fits p law name ts =
      optional_law (Bracket L (f name.node)) (class_tree name) Within (class_low name) is_square is_square (λ a w s k. ap (λ z. sees is_square (z ++ s)) k.2 ∙ k.3) (λ t h. h)
      (within (nat_le 1 room) (expect is_square >>= λ _. p >>= λ x. expect is_square_close >> pure (f name.node x))) ts
      (λ h. limit_law (Bracket L (f name.node)) Within is_square is_square (nat_le 1 room)
      (λ t i. (x_token ∷ op_token (codes "]") ∷ [], f name.node v, (t, x_token ∷ op_token (codes "]") ∷ [], refl, i, (x_token ∷ [], v, op_token (codes "]"), refl, least, refl, refl))))
      (λ none a w s k g free i. no_room 1 room none (some_of name.node k.4.0 k.4.1 k.4.4 (subst Within k.4.6 g)))
      (expect is_square >>= λ _. p >>= λ x. expect is_square_close >> pure (f name.node x)) ts h
      (λ some. open_limited is_square (λ _. Closes L is_square_close (f name.node)) Within is_square
      (λ t i. (x_token ∷ op_token (codes "]") ∷ [], f name.node v, ((x_token ∷ [], v, op_token (codes "]"), refl, least, refl, refl), (carries name.node).grows v (fits (room_true room some)))))
      ts (λ _. p >>= λ x. expect is_square_close >> pure (f name.node x))
      (λ t r i j. close_limited is_square_close (op_token (codes "]")) refl L contp is_square apart (f name.node) fit Within (carries name.node) r (p r) (law (room_true room some) r))))

  named_law : (test : Token → Bool) (R : Name → Language Token Annotation) → ((name : Name) → R name [] (class_tree name)) → (q : Name → Parser Token Annotation)
      → ((name : Name) (ts : List Token) → Law (R name) (Limited (R name) Within) is_square ts (q name ts))
      → (ts : List Token) → Law (Then (Picks (named_if test)) R) (Limited (Then (Picks (named_if test)) R) Within) is_square ts (and_then (take_by (named_if test) ts) q)
  named_law test R alone q law ts =
      join_law (Picks (named_if test)) never R is_square Free_of_limit Within
      (record {
        apart = λ a v p c w s k free. free_never (c ++ s);
        ends = λ a v p. ([], class_tree v, alone v);
        ends_within = λ a v p f. ([], class_tree v, (alone v, class_low v));
        shrinks = λ a v p c w k f. tt;
      }) ts (take_by (named_if test) ts) (take_limited (named_if test) Free_of_limit (λ o. tt) never ts) q
      (λ used v r p f e. law v r)

  row_some : (n : Node) (a : List Token) (xs : List Annotation) → TypeRow a xs → Within (annotation.Tuple n xs) → 1 ≤ room
  row_some n a xs k f =
      let g = turns_shrink (k.value ∷ []) k.second xs k.tails ((tuple_carries n).shrinks xs f) in
      let h = g.0 in let p = type_positive k.value in omega arith

  list_law : (ts : List Token) → Law (TypeFrom ListWord) (Limited (TypeFrom ListWord) Within) is_square ts (and_then (take_by (named_if is_list_word) ts) (reading.list_rest room sub))
  unfolding reading.list_rest
  list_law ts =
      named_law is_list_word (Rest IsType list_tree) (λ name. inr (refl, refl)) (reading.list_rest room sub)
      (λ name us. rest_law IsType list_tree (LowType room) is_square square_ends list_carries
      (λ n a x p f. let h = height-List n x in let k = type_positive x in omega arith) x_type least_type x_low sub (λ some vs. below vs) name us) ts

  tuple_law : (ts : List Token) → Law (TypeFrom TupleWord) (Limited (TypeFrom TupleWord) Within) is_square ts (and_then (take_by (named_if is_tuple_word) ts) (reading.tuple_rest room sub))
  unfolding reading.tuple_rest
  tuple_law ts =
      named_law is_tuple_word (Rest TypeRow tuple_tree) (λ name. inr (refl, refl)) (reading.tuple_rest room sub)
      (λ name us. rest_law TypeRow tuple_tree Fit row_carries close_ends_row tuple_carries row_some (x_type ∷ [])
      (record { first = x_token ∷ []; second = []; value = x_type; joined = refl; heads = least_type; tails = done (x_type ∷ []) })
      (λ some. (x_low some, tt)) (reading.types room sub) types_law name us) ts

  named_low : (n : Node) (spelling : List ℕ) (x y z : Bool) → Within (if x then annotation.Int n else if y then annotation.Bool n else if z then annotation.Str n else annotation.Class n spelling)
  named_low n spelling true y z = let h = height-Int n in omega arith
  named_low n spelling false true z = let h = height-Bool n in omega arith
  named_low n spelling false false true = let h = height-Str n in omega arith
  named_low n spelling false false false = let h = height-Class n spelling in omega arith

  simple_low : (n : Node) (k : TokenKind) (v : Annotation) → simple_in n k ≡ Some v → Within v
  simple_low n (kind.Name spelling) v h =
      let l : named_type n spelling ≡ v = cc in subst Within l (named_low n spelling (bytes_eq spelling (codes "int")) (bytes_eq spelling (codes "bool")) (bytes_eq spelling (codes "str")))
  simple_low n (kind.Keyword spelling) v h =
      let go : (x : Bool) → (if x then Some (annotation.None n) else None) ≡ Some v → Within v = elim [
        | true ↦ λ k. let l : annotation.None n ≡ v = cc in subst Within l (let m = height-None n in omega arith)
        | false ↦ λ k. absurd (cc)
      ] in
      go (bytes_eq spelling (codes "None")) h
  simple_low n _ v h = absurd (cc)

  from_law : (c : TypeStart) (ts : List Token) → Law (TypeFrom c) (Limited (TypeFrom c) Within) is_square ts (reading.type_from room sub c ts)
  unfolding reading.type_from
  from_law Simple ts = pick_limited simple_type Within (λ t o h. simple_low (node_at t) t.kind o h) is_square ts
  from_law ListWord ts = list_law ts
  from_law TupleWord ts = tuple_law ts
  from_law Nowhere ts = nothing_law Within is_square ts

  at_law : (ts : List Token) → Law IsType (Limited IsType Within) is_square ts (reading.type_at room sub ts)
  unfolding reading.type_at
  at_law ts =
      sort_limited type_start Nowhere IsType TypeFrom Within is_square type_up (λ a v s p free. type_down a v s p) ts _ (from_law (class_of type_start Nowhere ts) ts)

no_room_law : (ts : List Token) → Law IsType (Limited IsType (LowType 0)) is_square ts (choose type_begins (λ us. Stopped TooDeep us) refuse ts)
no_room_law ts =
    choose_law IsType (Limited IsType (LowType 0)) is_square type_begins ts (Stopped TooDeep ts) (Stopped Unexpected ts)
    (λ h. deep_law IsType (Limited IsType (LowType 0)) is_square type_begins true
    (λ a v s k free i. let p = type_positive v in let q = k.1 in absurd (omega arith)) ts h (begins_at type_begins IsType type_viable ts h))
    (λ h. refuse_law IsType (Limited IsType (LowType 0)) is_square type_begins false (λ a v s k free i. let p = type_opens a v s k in absurd (cc)) ts h)

-- The parser of types is exact within every limit of height.
pub type_law : (room : ℕ) → ReadsTypes room (reading.read_type room)
unfolding reading.read_type
type_law zero ts = no_room_law ts
type_law (suc room) ts = at_law room (reading.read_type room) (type_law room) ts
