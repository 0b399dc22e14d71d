-- What the grammar says of types, by what they begin with.
use Rattle.std.proofs.Common.{◌≡◌, ℕ, ◌+◌, ◌≤◌, Bool, true, false, if◌then◌else◌, ◌||◌, List, [], ◌∷◌, ◌++◌, length, refl, sym, ◌∙◌, ap, subst, Some, None, codes, inl, inr, ◌⊎◌, append_assoc, arith}
use Rattle.std.proofs.lemmas.List.{append-nil, length-append}
use Rattle.std.proofs.lemmas.Bool.{ltb-true, lt-ltb}
use Rattle.std.specs.Str.{bytes_eq}
use Rattle.indent_lexer.specs.declared.token.Token.{Token}
use Rattle.indent_lexer.specs.declared.token.TokenKind.{TokenKind}
use Rattle.indent_lexer.specs.declared.token.TokenKind.TheVariants as kind
use Rattle.source_trees.specs.declared.item.Annotation.{Annotation}
use Rattle.source_trees.specs.declared.item.Annotation.TheVariants as annotation
use Rattle.source_trees.specs.declared.node.Node.{Node}
use Rattle.source_trees.specs.declared.node.Name.{Name}
use Rattle.parse_laws.specs.Parser.{class_of, sees}
use Rattle.parse_laws.specs.Language.{Language, Viable}
use Rattle.parse_laws.specs.Forms.{Then, Is, Picks, Opens, Closes, Made, Either}
use Rattle.parse_laws.specs.Limits.{Nothing}
use Rattle.parse_laws.specs.Loops.{Turns, done, next}
use Rattle.grammar_rules.specs.Types as g
use Rattle.grammar_rules.specs.Types.{IsType, IsTypes, is_type_word, is_list_word, is_tuple_word}
use Rattle.grammar_rules.specs.Words.{keyword_in, name_in, named_by, is_spelled, is_word, is_comma, name_of, node_at, name_at, most_items}
use Rattle.parse_expressions.specs.Reading.{is_square, is_square_close}
use Rattle.parse_expressions.specs.declared.start.TypeStart.{TypeStart}
use Rattle.parse_expressions.specs.declared.start.TypeStart.TheVariants.{Simple, ListWord, TupleWord, Nowhere}
use Rattle.parse_expressions.specs.TypeReading.{is_list_spelling, is_tuple_spelling, type_start_in, type_start, named_type, simple_in, simple_type, type_begins_in, type_begins, named_if, few_types, class_tree}
use Rattle.parse_expressions.proofs.Tokens.{bytes_equal, keyword_kind, name_kind}
use Rattle.parse_expressions.proofs.Opens.{name_spelling}

-- ---- what the grammar says, by its parts

abbrev pub TypeItem : Language Token Annotation
TypeItem = Opens is_comma (λ _. IsType)

-- one more type after a comma, where one may follow
abbrev pub Step : List Annotation → Language Token (List Annotation)
Step v a w = Made TypeItem (λ y. v ++ y ∷ []) a w × (few_types v ≡ true)

abbrev pub TypeRow : Language Token (List Annotation)
TypeRow = Then IsType (λ x. Turns Step (x ∷ []))

turns_of_types : (v : List Annotation) (comma : Token) → is_comma comma ≡ true → (b : List Token) (ys : List Annotation) → IsTypes b ys → length v + length ys ≤ most_items
    → Turns Step v (comma ∷ b) (v ++ ys)
turns_of_types v comma h _ _ (g.last b y p) l =
    let P : List Token → Type 0 = λ z. Turns Step v (comma ∷ z) (v ++ y ∷ []) in
    subst P (append-nil b) (next v (comma ∷ b) (v ++ y ∷ []) [] (v ++ y ∷ []) ((y, (comma, b, refl, h, p), refl), lt-ltb (length v) most_items (omega arith)) (done (v ++ y ∷ [])))
turns_of_types v comma h _ _ (g.another b y c d ys p i q) l =
    let W : List Annotation → Type 0 = λ z. Turns Step v (comma ∷ (b ++ c ∷ d)) z in
    let k : length (v ++ y ∷ []) ≡ length v + 1 = length-append v (y ∷ []) in
    let m : length (y ∷ ys) ≡ length ys + 1 = omega arith in
    subst W (append_assoc v (y ∷ []) ys)
    (next v (comma ∷ b) (v ++ y ∷ []) (c ∷ d) ((v ++ y ∷ []) ++ ys) ((y, (comma, b, refl, h, p), refl), lt-ltb (length v) most_items (omega arith))
    (turns_of_types (v ++ y ∷ []) c i d ys q (omega arith)))

row_to : (a : List Token) (xs : List Annotation) → IsTypes a xs → length xs ≤ most_items → TypeRow a xs
row_to _ _ (g.last a x p) l = record { first = a; second = []; value = x; joined = sym (append-nil a); heads = p; tails = done (x ∷ []) }
row_to _ _ (g.another a x c b xs p h q) l =
    let m : length (x ∷ xs) ≡ length xs + 1 = omega arith in
    record { first = a; second = c ∷ b; value = x; joined = refl; heads = p; tails = turns_of_types (x ∷ []) c h b xs q (omega arith) }

-- what turns give after the types that stand
abbrev Given : List Annotation → List Token → List Annotation → Type 0
Given v c w =
    ((c ≡ []) × (w ≡ v))
    ⊎ ((comma : Token) × (b : List Token) × (ys : List Annotation) × (c ≡ comma ∷ b) × (is_comma comma ≡ true) × IsTypes b ys × (w ≡ v ++ ys) × (length v + length ys ≤ most_items))

given_next : (v : List Annotation) (comma : Token) → is_comma comma ≡ true → (b : List Token) (y : Annotation) → IsType b y → few_types v ≡ true → (c : List Token) (w : List Annotation) → Given (v ++ y ∷ []) c w
    → Given v (comma ∷ (b ++ c)) w
given_next v comma h b y p l c w (inl k) =
    let m = ltb-true (length v) most_items l in
    let B : List Token → Type 0 = λ z. IsTypes z (y ∷ []) in
    inr (comma, b ++ c, y ∷ [], refl, h, subst B (sym (ap (λ z. b ++ z) k.0 ∙ append-nil b)) (g.last b y p), k.1, omega arith)
given_next v comma h b y p l c w (inr k) =
    let m = ltb-true (length v) most_items l in
    let n : length (v ++ y ∷ []) ≡ length v + 1 = length-append v (y ∷ []) in
    let o : length (y ∷ k.2) ≡ length k.2 + 1 = omega arith in
    let r = k.7 in
    let B : List Token → Type 0 = λ z. IsTypes (b ++ z) (y ∷ k.2) in
    inr (comma, b ++ c, y ∷ k.2, refl, h, subst B (sym k.3) (g.another b y k.0 k.1 k.2 p k.4 k.5), k.6 ∙ append_assoc v (y ∷ []) k.2, omega arith)

given_of_turns : (v : List Annotation) (c : List Token) (w : List Annotation) → Turns Step v c w → Given v c w
given_of_turns _ _ _ (done v) = inl (refl, refl)
given_of_turns _ _ _ (next v b u c w p rest) =
    let k = p.0 in
    let i = k.1 in
    let U : List Annotation → Type 0 = λ z. Given z c w in
    let A : List Token → Type 0 = λ z. Given v (z ++ c) w in
    subst A (sym i.2) (given_next v i.0 i.3 i.1 k.0 i.4 p.1 c w (subst U k.2 (given_of_turns u c w rest)))

row_made : (a : List Token) (x : Annotation) → IsType a x → (c : List Token) (w : List Annotation) → Given (x ∷ []) c w → IsTypes (a ++ c) w × (length w ≤ most_items)
row_made a x p c w (inl k) =
    let W : List Annotation → Type 0 = λ z. IsTypes (a ++ c) z × (length z ≤ most_items) in
    let A : List Token → Type 0 = λ z. IsTypes z (x ∷ []) in
    subst W (sym k.1) (subst A (sym (ap (λ z. a ++ z) k.0 ∙ append-nil a)) (g.last a x p), omega arith)
row_made a x p c w (inr k) =
    let W : List Annotation → Type 0 = λ z. IsTypes (a ++ c) z × (length z ≤ most_items) in
    let A : List Token → Type 0 = λ z. IsTypes (a ++ z) (x ∷ k.2) in
    let l = k.7 in
    let m : length (x ∷ k.2) ≡ length k.2 + 1 = omega arith in
    subst W (sym k.6) (subst A (sym k.3) (g.another a x k.0 k.1 k.2 p k.4 k.5), omega arith)

row_from : (a : List Token) (xs : List Annotation) → TypeRow a xs → IsTypes a xs × (length xs ≤ most_items)
row_from a xs k =
    let A : List Token → Type 0 = λ z. IsTypes z xs × (length xs ≤ most_items) in
    subst A (sym k.joined) (row_made k.first k.value k.heads k.second xs (given_of_turns (k.value ∷ []) k.second xs k.tails))

abbrev pub Bracket : {A : Type 0} → Language Token A → (A → Annotation) → Language Token Annotation
Bracket L f = Opens is_square (λ _. Closes L is_square_close f)

abbrev pub Rest : {A : Type 0} → Language Token A → (Node → A → Annotation) → Name → Language Token Annotation
Rest L f name = Either (Bracket L (f name.node)) (Is (class_tree name))

abbrev pub list_tree : Node → Annotation → Annotation
list_tree n x = annotation.List n x

abbrev pub tuple_tree : Node → List Annotation → Annotation
tuple_tree n xs = annotation.Tuple n xs

abbrev pub TypeFrom : TypeStart → Language Token Annotation
TypeFrom Simple = Picks simple_type
TypeFrom ListWord = Then (Picks (named_if is_list_word)) (Rest IsType list_tree)
TypeFrom TupleWord = Then (Picks (named_if is_tuple_word)) (Rest TypeRow tuple_tree)
TypeFrom Nowhere = Nothing

-- ---- facts of tokens

word_kind_in : (k : TokenKind) (word : List ℕ) → is_spelled (name_in k) word ≡ true → k ≡ kind.Name word
word_kind_in (kind.Name spelling) word h = ap (λ w. kind.Name w) (bytes_equal spelling word h)
word_kind_in _ word h = absurd (cc)

word_kind : (word : List ℕ) (t : Token) → is_word word t ≡ true → t.kind ≡ kind.Name word
word_kind word t h = word_kind_in t.kind word h

by_either : (P : Type 0) (v w : List ℕ) (t : Token) → is_word v t || is_word w t ≡ true → (t.kind ≡ kind.Name v → P) → (t.kind ≡ kind.Name w → P) → P
by_either P v w t h first second =
    let go : (x : Bool) → is_word v t ≡ x → x || is_word w t ≡ true → P = elim [ true ↦ λ i k. first (word_kind v t i) | false ↦ λ i k. second (word_kind w t k) ] in
    go (is_word v t) refl h

named_of : (test : Token → Bool) (t : Token) (name : Name) → test t ≡ true → name_at t ≡ Some name → named_if test t ≡ Some name
named_of test t name h i = ap (λ x. if x then name_at t else None) h ∙ i

named_is : (test : Token → Bool) (t : Token) (name : Name) → named_if test t ≡ Some name → (test t ≡ true) × (name_at t ≡ Some name)
named_is test t name h =
    let go : (x : Bool) → test t ≡ x → (if x then name_at t else None) ≡ Some name → (test t ≡ true) × (name_at t ≡ Some name) = elim [
      | true ↦ λ i k. (i, k)
      | false ↦ λ i k. absurd (cc)
    ] in
    go (test t) refl h

abbrev plain_of : TokenKind → Bool
plain_of k = is_spelled (name_in k) (codes "int") || is_spelled (name_in k) (codes "bool") || is_spelled (name_in k) (codes "str")

list_no_type : (t : Token) → is_list_word t ≡ true → is_type_word t ≡ false
list_no_type t h = by_either (is_type_word t ≡ false) (codes "list") (codes "List") t h (λ i. ap plain_of i) (λ i. ap plain_of i)

tuple_no_type : (t : Token) → is_tuple_word t ≡ true → is_type_word t ≡ false
tuple_no_type t h = by_either (is_type_word t ≡ false) (codes "tuple") (codes "Tuple") t h (λ i. ap plain_of i) (λ i. ap plain_of i)

list_start : (t : Token) → is_list_word t ≡ true → type_start t ≡ ListWord
list_start t h = by_either (type_start t ≡ ListWord) (codes "list") (codes "List") t h (λ i. ap type_start_in i) (λ i. ap type_start_in i)

tuple_start : (t : Token) → is_tuple_word t ≡ true → type_start t ≡ TupleWord
tuple_start t h = by_either (type_start t ≡ TupleWord) (codes "tuple") (codes "Tuple") t h (λ i. ap type_start_in i) (λ i. ap type_start_in i)

list_name : (t : Token) → is_list_word t ≡ true → (name : Name) × (name_at t ≡ Some name) × (node_at t ≡ name.node)
list_name t h =
    by_either ((name : Name) × (name_at t ≡ Some name) × (node_at t ≡ name.node)) (codes "list") (codes "List") t h
    (λ i. (record { node = node_at t; spelling = codes "list" }, ap (λ k. named_by t (name_in k)) i, refl))
    (λ i. (record { node = node_at t; spelling = codes "List" }, ap (λ k. named_by t (name_in k)) i, refl))

tuple_name : (t : Token) → is_tuple_word t ≡ true → (name : Name) × (name_at t ≡ Some name) × (node_at t ≡ name.node)
tuple_name t h =
    by_either ((name : Name) × (name_at t ≡ Some name) × (node_at t ≡ name.node)) (codes "tuple") (codes "Tuple") t h
    (λ i. (record { node = node_at t; spelling = codes "tuple" }, ap (λ k. named_by t (name_in k)) i, refl))
    (λ i. (record { node = node_at t; spelling = codes "Tuple" }, ap (λ k. named_by t (name_in k)) i, refl))

-- ---- up

named_up : (t : Token) (spelling : List ℕ) → t.kind ≡ kind.Name spelling → (x y z : Bool) → bytes_eq spelling (codes "int") ≡ x → bytes_eq spelling (codes "bool") ≡ y → bytes_eq spelling (codes "str") ≡ z
    → IsType (t ∷ []) (if x then annotation.Int (node_at t) else if y then annotation.Bool (node_at t) else if z then annotation.Str (node_at t) else annotation.Class (node_at t) spelling)
named_up t spelling f true y z h i j = g.int t (ap (λ k. is_spelled (name_in k) (codes "int")) f ∙ h)
named_up t spelling f false true z h i j = g.bool t (ap (λ k. is_spelled (name_in k) (codes "bool")) f ∙ i)
named_up t spelling f false false true h i j = g.str t (ap (λ k. is_spelled (name_in k) (codes "str")) f ∙ j)
named_up t spelling f false false false h i j =
    g.class t spelling (ap name_in f)
    (ap plain_of f ∙ ap (λ x. x || bytes_eq spelling (codes "bool") || bytes_eq spelling (codes "str")) h ∙ ap (λ x. x || bytes_eq spelling (codes "str")) i ∙ j)

simple_up : (t : Token) (k : TokenKind) → t.kind ≡ k → (v : Annotation) → simple_in (node_at t) k ≡ Some v → IsType (t ∷ []) v
simple_up t (kind.Name spelling) f v h =
    let l : named_type (node_at t) spelling ≡ v = cc in
    let V : Annotation → Type 0 = λ z. IsType (t ∷ []) z in
    subst V l (named_up t spelling f (bytes_eq spelling (codes "int")) (bytes_eq spelling (codes "bool")) (bytes_eq spelling (codes "str")) refl refl refl)
simple_up t (kind.Keyword spelling) f v h =
    let V : Annotation → Type 0 = λ z. IsType (t ∷ []) z in
    let go : (x : Bool) → bytes_eq spelling (codes "None") ≡ x → (if x then Some (annotation.None (node_at t)) else None) ≡ Some v → IsType (t ∷ []) v = elim [
      | true ↦ λ i k. let l : annotation.None (node_at t) ≡ v = cc in subst V l (g.none t (ap (λ z. is_spelled (keyword_in z) (codes "None")) f ∙ i))
      | false ↦ λ i k. absurd (cc)
    ] in
    go (bytes_eq spelling (codes "None")) refl h
simple_up t _ f v h = absurd (cc)

rest_class : (t : Token) (name : Name) → name_at t ≡ Some name → is_type_word t ≡ false → IsType (t ∷ []) (class_tree name)
rest_class t name h p =
    let n = name_spelling t name (name_of t) refl h in
    let V : Annotation → Type 0 = λ z. IsType (t ∷ []) z in
    subst V (sym (ap class_tree n.2)) (g.class t n.0 n.1 p)

list_up : (a : List Token) (v : Annotation) → TypeFrom ListWord a v → IsType a v
list_up a v w =
    let t = w.heads.0 in
    let p = named_is is_list_word t w.value w.heads.2 in
    let n = name_spelling t w.value (name_of t) refl p.1 in
    let A : List Token → Type 0 = λ z. IsType z v in
    elim w.tails as (λ _. IsType a v) [
      | inl k ↦
          let r = k.4 in
          let V : Annotation → Type 0 = λ z. IsType (t ∷ k.0 ∷ (r.0 ++ r.2 ∷ [])) z in
          subst A (sym (w.joined ∙ ap (λ z. z ++ w.second) w.heads.1 ∙ ap (λ z. t ∷ z) (k.2 ∙ ap (λ z. k.0 ∷ z) r.3)))
          (subst V (sym (r.6 ∙ ap (λ z. annotation.List z.node r.1) n.2)) (g.list t k.0 r.0 r.1 r.2 p.0 k.3 r.4 r.5))
      | inr k ↦
          let V : Annotation → Type 0 = λ z. IsType (t ∷ []) z in
          subst A (sym (w.joined ∙ ap (λ z. z ++ w.second) w.heads.1 ∙ ap (λ z. t ∷ z) k.0)) (subst V (sym k.1) (rest_class t w.value p.1 (list_no_type t p.0)))
    ]

tuple_up : (a : List Token) (v : Annotation) → TypeFrom TupleWord a v → IsType a v
tuple_up a v w =
    let t = w.heads.0 in
    let p = named_is is_tuple_word t w.value w.heads.2 in
    let n = name_spelling t w.value (name_of t) refl p.1 in
    let A : List Token → Type 0 = λ z. IsType z v in
    elim w.tails as (λ _. IsType a v) [
      | inl k ↦
          let r = k.4 in
          let q = row_from r.0 r.1 r.4 in
          let V : Annotation → Type 0 = λ z. IsType (t ∷ k.0 ∷ (r.0 ++ r.2 ∷ [])) z in
          subst A (sym (w.joined ∙ ap (λ z. z ++ w.second) w.heads.1 ∙ ap (λ z. t ∷ z) (k.2 ∙ ap (λ z. k.0 ∷ z) r.3)))
          (subst V (sym (r.6 ∙ ap (λ z. annotation.Tuple z.node r.1) n.2)) (g.tuple t k.0 r.0 r.1 r.2 p.0 k.3 q.0 q.1 r.5))
      | inr k ↦
          let V : Annotation → Type 0 = λ z. IsType (t ∷ []) z in
          subst A (sym (w.joined ∙ ap (λ z. z ++ w.second) w.heads.1 ∙ ap (λ z. t ∷ z) k.0)) (subst V (sym k.1) (rest_class t w.value p.1 (tuple_no_type t p.0)))
    ]

pub type_up : (c : TypeStart) (a : List Token) (v : Annotation) → TypeFrom c a v → IsType a v
type_up Simple a v w = let A : List Token → Type 0 = λ z. IsType z v in subst A (sym w.1) (simple_up w.0 (w.0).kind refl v w.2)
type_up ListWord a v w = list_up a v w
type_up TupleWord a v w = tuple_up a v w
type_up Nowhere a v w = absurd w

-- ---- down

abbrev From : List Token → List Token → Annotation → Type 0
From l a v = TypeFrom (class_of type_start Nowhere l) a v

by_start : (c : TypeStart) (t : Token) → type_start t ≡ c → (a : List Token) (v : Annotation) → TypeFrom c a v → (l : List Token) → From (t ∷ l) a v
by_start c t h a v w l = let C : TypeStart → Type 0 = λ z. TypeFrom z a v in subst C (sym h) w

or_neither : (x y : Bool) → x || y ≡ false → (x ≡ false) × (y ≡ false)
or_neither true y h = absurd (cc)
or_neither false y h = (refl, h)

class_down : (t : Token) (spelling : List ℕ) → t.kind ≡ kind.Name spelling → is_type_word t ≡ false → (x y : Bool) → is_list_spelling spelling ≡ x → is_tuple_spelling spelling ≡ y → (l : List Token)
    → From (t ∷ l) (t ∷ []) (annotation.Class (node_at t) spelling)
class_down t spelling f p true y h i l =
    by_start ListWord t (ap type_start_in f ∙ ap (λ z. if z then ListWord else if is_tuple_spelling spelling then TupleWord else Simple) h) (t ∷ []) (annotation.Class (node_at t) spelling)
    (record {
      first = t ∷ [];
      second = [];
      value = record { node = node_at t; spelling = spelling };
      joined = refl;
      heads = (
        t,
        refl,
        named_of is_list_word t (record { node = node_at t; spelling = spelling })
            (ap (λ k. is_spelled (name_in k) (codes "list") || is_spelled (name_in k) (codes "List")) f ∙ h) (ap (λ k. named_by t (name_in k)) f),
      );
      tails = inr (refl, refl);
    }) l
class_down t spelling f p false true h i l =
    by_start TupleWord t (ap type_start_in f ∙ ap (λ z. if z then ListWord else if is_tuple_spelling spelling then TupleWord else Simple) h ∙ ap (λ z. if z then TupleWord else Simple) i)
    (t ∷ []) (annotation.Class (node_at t) spelling)
    (record {
      first = t ∷ [];
      second = [];
      value = record { node = node_at t; spelling = spelling };
      joined = refl;
      heads = (
        t,
        refl,
        named_of is_tuple_word t (record { node = node_at t; spelling = spelling })
            (ap (λ k. is_spelled (name_in k) (codes "tuple") || is_spelled (name_in k) (codes "Tuple")) f ∙ i) (ap (λ k. named_by t (name_in k)) f),
      );
      tails = inr (refl, refl);
    }) l
class_down t spelling f p false false h i l =
    let q : plain_of (kind.Name spelling) ≡ false = sym (ap plain_of f) ∙ p in
    let r = or_neither (bytes_eq spelling (codes "int") || bytes_eq spelling (codes "bool")) (bytes_eq spelling (codes "str")) q in
    let s = or_neither (bytes_eq spelling (codes "int")) (bytes_eq spelling (codes "bool")) r.0 in
    let e : named_type (node_at t) spelling ≡ annotation.Class (node_at t) spelling =
    ap (λ z. if z then annotation.Int (node_at t) else if bytes_eq spelling (codes "bool") then annotation.Bool (node_at t) else if bytes_eq spelling (codes "str") then annotation.Str (node_at t) else annotation.Class (node_at t) spelling) s.0
    ∙ ap (λ z. if z then annotation.Bool (node_at t) else if bytes_eq spelling (codes "str") then annotation.Str (node_at t) else annotation.Class (node_at t) spelling) s.1
    ∙ ap (λ z. if z then annotation.Str (node_at t) else annotation.Class (node_at t) spelling) r.1 in
    by_start Simple t (ap type_start_in f ∙ ap (λ z. if z then ListWord else if is_tuple_spelling spelling then TupleWord else Simple) h ∙ ap (λ z. if z then TupleWord else Simple) i)
    (t ∷ []) (annotation.Class (node_at t) spelling) (t, refl, ap (simple_in (node_at t)) f ∙ ap (λ z. Some z) e) l

pub type_down : (a : List Token) (v : Annotation) (s : List Token) → IsType a v → From (a ++ s) a v
type_down _ _ s (g.int t h) = by_start Simple t (ap type_start_in (word_kind (codes "int") t h)) (t ∷ []) (annotation.Int (node_at t)) (t, refl, ap (simple_in (node_at t)) (word_kind (codes "int") t h)) s
type_down _ _ s (g.bool t h) = by_start Simple t (ap type_start_in (word_kind (codes "bool") t h)) (t ∷ []) (annotation.Bool (node_at t)) (t, refl, ap (simple_in (node_at t)) (word_kind (codes "bool") t h)) s
type_down _ _ s (g.str t h) = by_start Simple t (ap type_start_in (word_kind (codes "str") t h)) (t ∷ []) (annotation.Str (node_at t)) (t, refl, ap (simple_in (node_at t)) (word_kind (codes "str") t h)) s
type_down _ _ s (g.none t h) = by_start Simple t (ap type_start_in (keyword_kind (codes "None") t h)) (t ∷ []) (annotation.None (node_at t)) (t, refl, ap (simple_in (node_at t)) (keyword_kind (codes "None") t h)) s
type_down _ _ s (g.class t spelling h p) = class_down t spelling (name_kind t spelling h) p (is_list_spelling spelling) (is_tuple_spelling spelling) refl refl s
type_down _ _ s (g.list t o a x c h i p j) =
    let n = list_name t h in
    by_start ListWord t (list_start t h) (t ∷ o ∷ (a ++ c ∷ [])) (annotation.List (node_at t) x)
    (record {
      first = t ∷ [];
      second = o ∷ (a ++ c ∷ []);
      value = n.0;
      joined = refl;
      heads = (t, refl, named_of is_list_word t n.0 h n.1);
      tails = inl (o, a ++ c ∷ [], refl, i, (a, x, c, refl, p, j, ap (λ z. annotation.List z x) n.2));
    }) (o ∷ ((a ++ c ∷ []) ++ s))
type_down _ _ s (g.tuple t o a xs c h i p l j) =
    let n = tuple_name t h in
    by_start TupleWord t (tuple_start t h) (t ∷ o ∷ (a ++ c ∷ [])) (annotation.Tuple (node_at t) xs)
    (record {
      first = t ∷ [];
      second = o ∷ (a ++ c ∷ []);
      value = n.0;
      joined = refl;
      heads = (t, refl, named_of is_tuple_word t n.0 h n.1);
      tails = inl (o, a ++ c ∷ [], refl, i, (a, xs, c, refl, row_to a xs p l, j, ap (λ z. annotation.Tuple z xs) n.2));
    }) (o ∷ ((a ++ c ∷ []) ++ s))

-- ---- what types begin with

pub type_opens : (a : List Token) (v : Annotation) (s : List Token) → IsType a v → sees type_begins (a ++ s) ≡ true
type_opens _ _ s (g.int t h) = ap type_begins_in (word_kind (codes "int") t h)
type_opens _ _ s (g.bool t h) = ap type_begins_in (word_kind (codes "bool") t h)
type_opens _ _ s (g.str t h) = ap type_begins_in (word_kind (codes "str") t h)
type_opens _ _ s (g.none t h) = ap type_begins_in (keyword_kind (codes "None") t h)
type_opens _ _ s (g.class t spelling h p) = ap type_begins_in (name_kind t spelling h)
type_opens _ _ s (g.list t o a x c h i p j) = by_either (type_begins t ≡ true) (codes "list") (codes "List") t h (λ k. ap type_begins_in k) (λ k. ap type_begins_in k)
type_opens _ _ s (g.tuple t o a xs c h i p l j) = by_either (type_begins t ≡ true) (codes "tuple") (codes "Tuple") t h (λ k. ap type_begins_in k) (λ k. ap type_begins_in k)

type_viable_in : (t : Token) (k : TokenKind) → t.kind ≡ k → type_begins_in k ≡ true → Viable IsType (t ∷ [])
type_viable_in t (kind.Name spelling) f h = ([], named_type (node_at t) spelling, simple_up t (kind.Name spelling) f (named_type (node_at t) spelling) refl)
type_viable_in t (kind.Keyword spelling) f h =
    ([], annotation.None (node_at t), simple_up t (kind.Keyword spelling) f (annotation.None (node_at t)) (ap (λ z. if z then Some (annotation.None (node_at t)) else None) h))
type_viable_in t _ f h = absurd (cc)

pub type_viable : (t : Token) → type_begins t ≡ true → Viable IsType (t ∷ [])
type_viable t h = type_viable_in t t.kind refl h
