-- The law of a list of items as a grammar writes it. The parser reads the first item and then a row, which keeps the
-- items so far; the two ways to see a list are shown to be one by going along it from either side.
use Rattle.std.proofs.Common.{◌≡◌, ℕ, ◌+◌, ◌≤◌, nat_lt, arith, Bool, true, false, ◌||◌, ◌&&◌, List, [], ◌∷◌, ◌++◌, length, refl, sym, ◌∙◌, ap, subst, append_assoc}
use Rattle.std.proofs.lemmas.List.{append-nil, length-append}
use Rattle.std.proofs.lemmas.Bool.{ltb-true, lt-ltb}
use Rattle.parse_laws.specs.Parser.{Parser, sees}
use Rattle.parse_laws.specs.Language.{Language, Free, Law}
use Rattle.parse_laws.specs.Forms.{Then, Made}
use Rattle.parse_laws.specs.Limits.{Limited, Joins}
use Rattle.parse_laws.specs.Loops.{Turns, done, next, RowState, RowStep, Row, RowItems, ListItems, Listed, last, trailing, another, Grows, ListedWithin, is_several, finished, starts_in, rest_of, listed}
use Rattle.parse_laws.proofs.Forms.{wider_at, rename_law}
use Rattle.parse_laws.proofs.Limits.{join_law, made_limited, same_law}
use Rattle.parse_laws.proofs.Rows.{row_law}

-- each item is within a limit
abbrev pub FitEach : {B : Type 0} → (B → Type 0) → List B → Type 0
FitEach fit [] = Unit {0}
FitEach fit (y ∷ ys) = fit y × FitEach fit ys

or_true : (x : Bool) → x || true ≡ true
or_true true = refl
or_true false = refl

module _ {K B : Type 0} (is_separator : K → Bool) (Item : Language K B) (room : List B → Bool) where
  abbrev pub add : List B → B → List B
  add s y = s ++ y ∷ []

  abbrev pub Within : List B → Language K B
  Within s b y = Item b y × (room s ≡ true)

  abbrev pub Rest : RowState (List B) → Language K (RowState (List B))
  Rest = Row is_separator Within add

  -- ---- a row is a list

  abbrev Closed : List B → List K → RowState (List B) → Type 0
  Closed s c r = (b : List K) (y : B) (v : List B) → s ≡ v ++ y ∷ [] → Item b y
      → (ys : List B) × (r.0 ≡ v ++ y ∷ ys) × Listed is_separator Item (b ++ c) (y ∷ ys, r.1 || is_several (y ∷ ys)) × Grows room s ys

  abbrev Open : List B → List K → RowState (List B) → Type 0
  Open s c r = (b : List K) (y : B) (v : List B) (t : K) → s ≡ v ++ y ∷ [] → Item b y → is_separator t ≡ true
      → (ys : List B) × (r.0 ≡ v ++ y ∷ ys) × Listed is_separator Item (b ++ t ∷ c) (y ∷ ys, true) × (r.1 || is_several (y ∷ ys) ≡ true) × Grows room s ys

  mutual
    closed : (u : RowState (List B)) (c : List K) (r : RowState (List B)) → Turns (RowStep is_separator Within add) u c r → (s : List B) → u ≡ (s, false) → Closed s c r
    closed _ _ _ (done u) s e b y v f i =
        let P : List K → Type 0 = λ z. Listed is_separator Item z (y ∷ [], false) in
        let Q : Bool → Type 0 = λ z. Listed is_separator Item (b ++ []) (y ∷ [], z || false) in
        ([], ap (λ z. z.0) e ∙ f, subst Q (sym (ap (λ z. z.1) e)) (subst P (sym (append-nil b)) (last b y i)), tt)
    closed _ _ _ (next u b1 x c1 r p rest) s e b y v f i =
        let S : RowState (List B) → Type 0 = λ z. RowStep is_separator Within add z b1 x in
        let g = subst S e p in
        let k = opened x c1 r rest s g.3 b y v g.0 f i g.2 in
        let P : List K → Type 0 = λ z. Listed is_separator Item (b ++ (z ++ c1)) (y ∷ k.0, true) in
        let Q : Bool → Type 0 = λ z. Listed is_separator Item (b ++ (b1 ++ c1)) (y ∷ k.0, z) in
        (k.0, k.1, subst Q (sym k.3) (subst P (sym g.1) k.2), k.4)

    opened : (u : RowState (List B)) (c : List K) (r : RowState (List B)) → Turns (RowStep is_separator Within add) u c r → (s : List B) → u ≡ (s, true) → Open s c r
    opened _ _ _ (done u) s e b y v t f i h = ([], ap (λ z. z.0) e ∙ f, trailing b y t i h, ap (λ z. z.1 || false) e, tt)
    opened _ _ _ (next u b1 x c1 r p rest) s e b y v t f i h =
        let S : RowState (List B) → Type 0 = λ z. RowStep is_separator Within add z b1 x in
        let g = subst S e p in
        let k = closed x c1 r rest (s ++ g.0 ∷ []) g.2 b1 g.0 s refl g.1.0 in (
          g.0 ∷ k.0,
          k.1 ∙ ap (λ z. z ++ g.0 ∷ k.0) f ∙ append_assoc v (y ∷ []) (g.0 ∷ k.0),
          another b y t (b1 ++ c1) (g.0 ∷ k.0) (r.1 || is_several (g.0 ∷ k.0)) i h k.2,
          or_true r.1,
          (g.1.1, k.3),
        )

  -- ---- a list is a row

  abbrev Split : List B → List K → List B × Bool → Type 0
  Split v a p = (b : List K) × (c : List K) × (y : B) × (ys : List B) × (open_end : Bool) × (a ≡ b ++ c) × (p.0 ≡ y ∷ ys) × Item b y
      × Rest (v ++ y ∷ [], false) c (v ++ p.0, open_end) × (p.1 ≡ open_end || is_several p.0)

  split : (a : List K) (p : List B × Bool) → Listed is_separator Item a p → (v : List B) → Grows room v p.0 → Split v a p
  split _ _ (last a y i) v g = (a, [], y, [], false, sym (append-nil a), refl, i, done (v ++ y ∷ [], false), refl)
  split _ _ (trailing a y t i h) v g = (
    a,
    t ∷ [],
    y,
    [],
    true,
    refl,
    refl,
    i,
    next (v ++ y ∷ [], false) (t ∷ []) (v ++ y ∷ [], true) [] (v ++ y ∷ [], true) (t, refl, h, refl) (done (v ++ y ∷ [], true)),
    refl,
  )
  split _ _ (another a y t b ys more i h rest) v g =
      let s = v ++ y ∷ [] in
      let k = split b (ys, more) rest s g.1 in
      let R : List B → Type 0 = λ z. Rest (s, false) (t ∷ k.0 ++ k.1) (z, k.4) in
      let G : List B → Type 0 = λ z. Grows room s z in
      let first : room s ≡ true = (subst G k.6 g.1).0 in
      let F : List B → Type 0 = λ z. true ≡ k.4 || is_several (y ∷ z) in (
        a,
        t ∷ k.0 ++ k.1,
        y,
        ys,
        k.4,
        ap (λ z. a ++ t ∷ z) k.5,
        refl,
        i,
        subst R (append_assoc v (y ∷ []) ys)
            (next (s, false) (t ∷ []) (s, true) (k.0 ++ k.1) (s ++ ys, k.4) (t, refl, h, refl)
            (next (s, true) k.0 (s ++ k.2 ∷ [], false) k.1 (s ++ ys, k.4) (k.2, (k.7, first), refl) k.8)),
        subst F (sym k.6) (sym (or_true k.4)),
      )

  abbrev pub Whole : Language K (List B × Bool)
  Whole = Made (Then Item (λ y. Rest (y ∷ [], false))) finished

  pub up : room [] ≡ true → (a : List K) (w : List B × Bool) → Whole a w → ListedWithin is_separator Item room a w
  up some a w g =
      let f = g.1 in
      let r = g.0 in
      let k = closed (f.value ∷ [], false) f.second r f.tails (f.value ∷ []) refl f.first f.value [] refl f.heads in
      let P : List K → Type 0 = λ z. Listed is_separator Item z (f.value ∷ k.0, r.1 || is_several (f.value ∷ k.0)) in
      let Q : List B → Type 0 = λ z. Listed is_separator Item a (z, r.1 || is_several z) in
      let R : List B × Bool → Type 0 = λ z. ListedWithin is_separator Item room a z in
      let G : List B → Type 0 = λ z. Grows room [] z in
      subst R (sym g.2) (subst Q (sym k.1) (subst P (sym f.joined) k.2), subst G (sym k.1) (some, k.3))

  pub down : (a : List K) (w : List B × Bool) → ListedWithin is_separator Item room a w → Whole a w
  down a w g =
      let k = split a w g.0 [] g.1 in
      ((w.0, k.4), record { first = k.0; second = k.1; value = k.2; joined = k.5; heads = k.7; tails = k.8 }, ap (λ z. (w.0, z)) k.9)

  -- ---- the law

  sees_both : (x : Bool) (f : K → Bool) (l : List K) → x ≡ true → sees f l ≡ true → sees (λ t. x && f t) l ≡ true
  sees_both true f [] e h = cc
  sees_both true f (t ∷ ts) e h = h
  sees_both false f l e h = absurd (cc)

  sees_first : (x : Bool) (f : K → Bool) (l : List K) → sees (λ t. x && f t) l ≡ true → x ≡ true
  sees_first true f l h = refl
  sees_first false f [] h = absurd (cc)
  sees_first false f (t ∷ ts) h = absurd (cc)

  and_second : (x y : Bool) → x && y ≡ true → y ≡ true
  and_second true y h = h
  and_second false y h = absurd (cc)

  module _ (fit : B → Type 0) where
    pub fit_front : (s : List B) (y : B) → FitEach fit (s ++ y ∷ []) → FitEach fit s
    fit_front [] y f = tt
    fit_front (x ∷ s) y f = (f.0, fit_front s y f.1)

    pub fit_last : (s : List B) (y : B) → FitEach fit (s ++ y ∷ []) → fit y
    fit_last [] y f = f.0
    fit_last (x ∷ s) y f = fit_last s y f.1

    pub fit_add : (s : List B) (y : B) → FitEach fit s → fit y → FitEach fit (s ++ y ∷ [])
    fit_add [] y f g = (g, tt)
    fit_add (x ∷ s) y f g = (f.0, fit_add s y f.1 g)

    abbrev pub FitRow : RowState (List B) → Type 0
    FitRow r = FitEach fit r.0

    step_shrinks : (u : RowState (List B)) (b : List K) (x : RowState (List B)) → RowStep is_separator Within add u b x → FitRow x → FitRow u
    step_shrinks (s, true) b x g f = let P : RowState (List B) → Type 0 = λ z. FitRow z in fit_front s g.0 (subst P g.2 f)
    step_shrinks (s, false) b x g f = let P : RowState (List B) → Type 0 = λ z. FitRow z in subst P g.3 f

    pub rest_shrinks : (u : RowState (List B)) (c : List K) (w : RowState (List B)) → Turns (RowStep is_separator Within add) u c w → FitRow w → FitRow u
    rest_shrinks _ _ _ (done u) f = f
    rest_shrinks _ _ _ (next u b x c w p rest) f = step_shrinks u b x p (rest_shrinks x c w rest f)

    module _ (starts contp cont : K → Bool) (given : ListItems is_separator Item starts contp cont) where
      row_items : RowItems is_separator Within add (starts_in room starts) contp cont (FitEach fit)
      row_items = record {
        opens = λ s b y rest g. sees_both (room s) starts (b ++ rest) g.1 (given.opens b y rest g.0);
        own = λ s t h. given.own t (and_second (room s) (starts t) h);
        own_separator = given.own_separator;
        wider = given.wider;
        ends_before = given.ends_before;
        shrinks = λ s b y g f. fit_front s y f;
      }

      pub rest_apart : (u : RowState (List B)) (c : List K) (w : RowState (List B)) (s : List K) → Turns (RowStep is_separator Within add) u c w → (x : List B) → u ≡ (x, false) → Free cont s → Free contp (c ++ s)
      rest_apart _ _ _ s (done u) x e free = wider_at contp cont given.wider s free
      rest_apart _ _ _ s (next u b y c w p rest) x e free =
          let S : RowState (List B) → Type 0 = λ z. RowStep is_separator Within add z b y in
          let g = subst S e p in
          ap (λ z. sees contp ((z ++ c) ++ s)) g.1 ∙ given.ends_before g.0 g.2

      pub joins : Joins Item contp (λ y. Rest (y ∷ [], false)) cont fit FitRow
      joins = record {
        apart = λ a y g c w s h free. rest_apart (y ∷ [], false) c w s h (y ∷ []) refl free;
        ends = λ a y g. ([], (y ∷ [], false), done (y ∷ [], false));
        ends_within = λ a y g f. ([], (y ∷ [], false), (done (y ∷ [], false), (f, tt)));
        shrinks = λ a y g c w h f. (rest_shrinks (y ∷ [], false) c w h f).0;
      }

      module _ (item : Parser K B) (item_law : (ts : List K) → Law Item (Limited Item fit) contp ts (item ts)) where
        within_item : (s : List B) → FitEach fit s → (ts : List K) → sees (starts_in room starts s) ts ≡ true → Law (Within s) (λ b y. Within s b y × FitEach fit (add s y)) contp ts (item ts)
        within_item s f ts h =
            let r : room s ≡ true = sees_first (room s) starts ts h in
            rename_law Item (Limited Item fit) (Within s) (λ b y. Within s b y × FitEach fit (add s y)) contp
            (λ b y g. (g, r)) (λ b y g. ((g.0, r), fit_add s y f g.1)) (λ b y g. g.0) (λ b y g. (g.0.0, fit_last s y g.1)) ts (item ts) (item_law ts)

        pub rest_law : (s : List B) → FitEach fit s → (ts : List K) → Law (Rest (s, false)) (Limited (Rest (s, false)) FitRow) cont ts (rest_of is_separator starts room item s ts)
        unfolding rest_of
        rest_law s f ts = row_law is_separator Within add (starts_in room starts) contp cont (FitEach fit) row_items (λ _. item) within_item (s, false) f ts

        pub listed_law : room [] ≡ true → (ts : List K)
            → Law (ListedWithin is_separator Item room) (Limited (ListedWithin is_separator Item room) (λ w. FitEach fit w.0)) cont ts (listed is_separator starts room item ts)
        unfolding listed
        listed_law some ts =
            same_law Whole (ListedWithin is_separator Item room) (λ w. FitEach fit w.0) cont (up some) down ts _
            (made_limited (Then Item (λ y. Rest (y ∷ [], false))) cont finished FitRow (λ w. FitEach fit w.0) (record { grows = λ r f. f; shrinks = λ r f. f }) ts _
            (join_law Item contp (λ y. Rest (y ∷ [], false)) cont fit FitRow joins ts (item ts) (item_law ts) (λ y. rest_of is_separator starts room item (y ∷ []))
            (λ used y r g f e. rest_law (y ∷ []) (f, tt) r)))

-- a list that may have a number of items has no more
pub most_of : {B : Type 0} (most : ℕ) (v xs : List B) → length v ≤ most → Grows (λ s. nat_lt (length s) most) v xs → length v + length xs ≤ most
most_of most v [] small g = omega arith
most_of most v (x ∷ xs) small g =
    let h = ltb-true (length v) most g.0 in
    let l : length (v ++ x ∷ []) ≡ length v + 1 = length-append v (x ∷ []) in
    let k = most_of most (v ++ x ∷ []) xs (omega arith) g.1 in
    omega arith

pub grows_of : {B : Type 0} (most : ℕ) (v xs : List B) → length v + length xs ≤ most → Grows (λ s. nat_lt (length s) most) v xs
grows_of most v [] h = tt
grows_of most v (x ∷ xs) h =
    let l : length (v ++ x ∷ []) ≡ length v + 1 = length-append v (x ∷ []) in
    let m : length (x ∷ xs) ≡ length xs + 1 = omega arith in
    (lt-ltb (length v) most (omega arith), grows_of most (v ++ x ∷ []) xs (omega arith))
