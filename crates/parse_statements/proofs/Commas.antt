-- A list of items, seen as its first item and what follows it: a separator and then a row, or nothing. What items may
-- follow others is a test; so one lemma serves lists that are bounded, and lists whose items depend on those before.
use Rattle.std.proofs.Common.{◌≡◌, ℕ, ◌+◌, ◌≤◌, nat_lt, Bool, true, false, ◌||◌, ◌&&◌, List, [], ◌∷◌, ◌++◌, length, refl, sym, ◌∙◌, ap, subst, append_assoc, inl, inr, arith}
use Rattle.std.proofs.lemmas.List.{append-nil, length-append}
use Rattle.std.proofs.lemmas.Bool.{ltb-true, lt-ltb}
use Rattle.parse_laws.specs.Parser.{Parser, and_then, sees, expect, pure, repeat, row_turn, ◌>>=◌}
use Rattle.parse_laws.specs.Language.{Language, Law}
use Rattle.parse_laws.specs.Forms.{Then, Made, Is, Opens, Either}
use Rattle.parse_laws.specs.Limits.{Limited, Carries}
use Rattle.parse_laws.specs.Loops.{Turns, done, next, RowState, RowStep, Row, RowItems, row_test, Listed, last, trailing, another, is_several}
use Rattle.parse_laws.proofs.Forms.{rename_law}
use Rattle.parse_laws.proofs.Limits.{open_limited, made_limited}
use Rattle.parse_laws.proofs.Lists.{FitEach}
use Rattle.parse_laws.proofs.Rows.{row_law}

-- What is asked of the items of a list: each begins with a token that starts one after those before it, which `cont` has;
-- and a separator, which `cont` has too, carries no item on.
pub record Allowed {K B : Type 0} (is_separator : K → Bool) (Item : Language K B) (allow : List B → B → Bool) (starts : List B → K → Bool) (contp cont : K → Bool) : Type 0 where
  pub opens : (s : List B) (b : List K) (y : B) (rest : List K) → Item b y → allow s y ≡ true → sees (starts s) (b ++ rest) ≡ true
  pub own : (s : List B) (t : K) → starts s t ≡ true → cont t ≡ true
  pub own_separator : (t : K) → is_separator t ≡ true → cont t ≡ true
  pub wider : (t : K) → cont t ≡ false → contp t ≡ false
  pub ends_before : (t : K) → is_separator t ≡ true → contp t ≡ false

-- each of these items may follow those before it
abbrev pub GrowsBy : {B : Type 0} → (List B → B → Bool) → List B → List B → Type 0
GrowsBy allow before [] = Unit {0}
GrowsBy allow before (y ∷ ys) = (allow before y ≡ true) × GrowsBy allow (before ++ y ∷ []) ys

module _ {K B : Type 0} (is_separator : K → Bool) (Item : Language K B) (allow : List B → B → Bool) where
  abbrev pub ItemAfter : List B → Language K B
  ItemAfter s b y = Item b y × (allow s y ≡ true)

  abbrev pub add : List B → B → List B
  add s y = s ++ y ∷ []

  abbrev pub ListedBy : Language K (List B × Bool)
  ListedBy a w = Listed is_separator Item a w × GrowsBy allow [] w.0

  -- a separator and a row after it
  abbrev pub Following : {C : Type 0} → (List B → C) → B → Language K C
  Following f y = Opens is_separator (λ _. Made (Row is_separator ItemAfter add (y ∷ [], true)) (λ r. f r.0))

  -- what follows the first item
  abbrev pub Tail : B → Language K (List B × Bool)
  Tail y = Either (Following (λ s. (s, true)) y) (Is (y ∷ [], false))

  -- ---- what a row adds

  abbrev Closed : List B → List K → RowState (List B) → Type 0
  Closed s c r = (b : List K) (y : B) (v : List B) → s ≡ v ++ y ∷ [] → Item b y
      → (ys : List B) × (r.0 ≡ v ++ y ∷ ys) × Listed is_separator Item (b ++ c) (y ∷ ys, r.1 || is_several (y ∷ ys)) × GrowsBy allow s ys

  abbrev Open : List B → List K → RowState (List B) → Type 0
  Open s c r = (b : List K) (y : B) (v : List B) (t : K) → s ≡ v ++ y ∷ [] → Item b y → is_separator t ≡ true
      → (ys : List B) × (r.0 ≡ v ++ y ∷ ys) × Listed is_separator Item (b ++ t ∷ c) (y ∷ ys, true) × (r.1 || is_several (y ∷ ys) ≡ true) × GrowsBy allow s ys

  or_true : (x : Bool) → x || true ≡ true
  or_true true = refl
  or_true false = refl

  mutual
    closed : (u : RowState (List B)) (c : List K) (r : RowState (List B)) → Turns (RowStep is_separator ItemAfter add) u c r → (s : List B) → u ≡ (s, false) → Closed s c r
    closed _ _ _ (done u) s e b y v f i =
        let P : List K → Type 0 = λ z. Listed is_separator Item z (y ∷ [], false) in
        let Q : Bool → Type 0 = λ z. Listed is_separator Item (b ++ []) (y ∷ [], z || false) in
        ([], ap (λ z. z.0) e ∙ f, subst Q (sym (ap (λ z. z.1) e)) (subst P (sym (append-nil b)) (last b y i)), tt)
    closed _ _ _ (next u b1 x c1 r p rest) s e b y v f i =
        let S : RowState (List B) → Type 0 = λ z. RowStep is_separator ItemAfter add z b1 x in
        let g = subst S e p in
        let k = opened x c1 r rest s g.3 b y v g.0 f i g.2 in
        let P : List K → Type 0 = λ z. Listed is_separator Item (b ++ (z ++ c1)) (y ∷ k.0, true) in
        let Q : Bool → Type 0 = λ z. Listed is_separator Item (b ++ (b1 ++ c1)) (y ∷ k.0, z) in
        (k.0, k.1, subst Q (sym k.3) (subst P (sym g.1) k.2), k.4)

    opened : (u : RowState (List B)) (c : List K) (r : RowState (List B)) → Turns (RowStep is_separator ItemAfter add) u c r → (s : List B) → u ≡ (s, true) → Open s c r
    opened _ _ _ (done u) s e b y v t f i h = ([], ap (λ z. z.0) e ∙ f, trailing b y t i h, ap (λ z. z.1 || false) e, tt)
    opened _ _ _ (next u b1 x c1 r p rest) s e b y v t f i h =
        let S : RowState (List B) → Type 0 = λ z. RowStep is_separator ItemAfter add z b1 x in
        let g = subst S e p in
        let k = closed x c1 r rest (s ++ g.0 ∷ []) g.2 b1 g.0 s refl g.1.0 in (
          g.0 ∷ k.0,
          k.1 ∙ ap (λ z. z ++ g.0 ∷ k.0) f ∙ append_assoc v (y ∷ []) (g.0 ∷ k.0),
          another b y t (b1 ++ c1) (g.0 ∷ k.0) (r.1 || is_several (g.0 ∷ k.0)) i h k.2,
          or_true r.1,
          (g.1.1, k.3),
        )

  -- what follows an item makes a list with it
  pub followed : (b : List K) (y : B) (c : List K) (r : RowState (List B)) (t : K) → Item b y → is_separator t ≡ true → Row is_separator ItemAfter add (y ∷ [], true) c r
      → (ys : List B) × (r.0 ≡ y ∷ ys) × Listed is_separator Item (b ++ t ∷ c) (y ∷ ys, true) × GrowsBy allow (y ∷ []) ys
  followed b y c r t i h turns =
      let k = opened (y ∷ [], true) c r turns (y ∷ []) refl b y [] t refl i h in
      (k.0, k.1, k.2, k.4)

  -- a row keeps its first item
  keeps : (y : B) (u : RowState (List B)) (c : List K) (w : RowState (List B)) → Turns (RowStep is_separator ItemAfter add) u c w → (ys : List B) × (u.0 ≡ y ∷ ys) → (ys : List B) × (w.0 ≡ y ∷ ys)
  keeps y _ _ _ (done u) g = g
  keeps y _ _ _ (next u b x c w p rest) g =
      let go : (o : Bool) → RowStep is_separator ItemAfter add (u.0, o) b x → (ys : List B) × (x.0 ≡ y ∷ ys) = elim [
        | true ↦ λ q. (g.0 ++ q.0 ∷ [], ap (λ z. z.0) q.2 ∙ ap (λ z. z ++ q.0 ∷ []) g.1)
        | false ↦ λ q. (g.0, ap (λ z. z.0) q.3 ∙ g.1)
      ] in
      keeps y x c w rest (go u.1 p)

  pub row_first : (y : B) (c : List K) (w : RowState (List B)) → Row is_separator ItemAfter add (y ∷ [], true) c w → (ys : List B) × (w.0 ≡ y ∷ ys)
  row_first y c w turns = keeps y (y ∷ [], true) c w turns ([], refl)

  pub first_kept : {C : Type 0} (f : List B → C) (y : B) (c : List K) (w : C) → Following f y c w → (ys : List B) × (w ≡ f (y ∷ ys))
  first_kept f y c w g =
      let m = g.4 in
      let k = keeps y (y ∷ [], true) g.1 m.0 m.1 ([], refl) in
      (k.0, m.2 ∙ ap f k.1)

  -- ---- a list is an item and what follows

  abbrev TailFrom : List B → B → Language K (List B × Bool)
  TailFrom s y = Either (Opens is_separator (λ _. Made (Row is_separator ItemAfter add (s ++ y ∷ [], true)) (λ r. (r.0, true)))) (Is (s ++ y ∷ [], false))

  abbrev Ahead : List B → Language K (List B × Bool)
  Ahead v = Then (ItemAfter v) (TailFrom v)

  -- an item and what follows it are turns of the row
  split_turns : (s : List B) (b : List K) (y : B) (c : List K) (w : List B × Bool) → ItemAfter s b y
      → TailFrom s y c w
      → (r : RowState (List B)) × Row is_separator ItemAfter add (s, true) (b ++ c) r × (r.0 ≡ w.0)
  split_turns s b y c w i (inl g) =
      let m = g.4 in
      let P : List K → Type 0 = λ z. Row is_separator ItemAfter add (s ++ y ∷ [], false) z m.0 in
      (m.0, next (s, true) b (s ++ y ∷ [], false) c m.0 (y, i, refl) (subst P (sym g.2) (next (s ++ y ∷ [], false) (g.0 ∷ []) (s ++ y ∷ [], true) g.1 m.0 (g.0, refl, g.3, refl) m.1)), sym (ap (λ z. z.0) m.2))
  split_turns s b y c w i (inr g) =
      let P : List K → Type 0 = λ z. Row is_separator ItemAfter add (s ++ y ∷ [], false) z (s ++ y ∷ [], false) in
      ((s ++ y ∷ [], false), next (s, true) b (s ++ y ∷ [], false) c (s ++ y ∷ [], false) (y, i, refl) (subst P (sym g.0) (done (s ++ y ∷ [], false))), sym (ap (λ z. z.0) g.1))

  split : (a : List K) (p : List B × Bool) → Listed is_separator Item a p → (v : List B) → GrowsBy allow v p.0
      → Ahead v a (v ++ p.0, p.1)
  split _ _ (last a y i) v g = record { first = a; second = []; value = y; joined = sym (append-nil a); heads = (i, g.0); tails = inr (refl, refl) }
  split _ _ (trailing a y t i h) v g =
      record { first = a; second = t ∷ []; value = y; joined = refl; heads = (i, g.0); tails = inl (t, [], refl, h, ((v ++ y ∷ [], true), done (v ++ y ∷ [], true), refl)) }
  split _ _ (another a y t b ys more i h rest) v g =
      let s = v ++ y ∷ [] in
      let k = split b (ys, more) rest s g.1 in
      let turns = split_turns s k.first k.value k.second (s ++ ys, more) k.heads k.tails in
      let P : List K → Type 0 = λ z. Row is_separator ItemAfter add (s, true) z turns.0 in
      let e : turns.0.0 ≡ v ++ y ∷ ys = turns.2 ∙ append_assoc v (y ∷ []) ys in
      record {
        first = a;
        second = t ∷ b;
        value = y;
        joined = refl;
        heads = (i, g.0);
        tails = inl (t, b, refl, h, (turns.0, subst P (sym k.joined) turns.1, ap (λ z. (z, true)) (sym e)));
      }

  pub list_parts : (a : List K) (w : List B × Bool) → ListedBy a w → Then (ItemAfter []) Tail a w
  list_parts a w g = split a w g.0 [] g.1

  pub parts_list : (a : List K) (w : List B × Bool) → Then (ItemAfter []) Tail a w → ListedBy a w
  parts_list a w g =
      let go : Tail g.value g.second w → ListedBy a w = elim [
        | inl k ↦
            let m = k.4 in
            let l = followed g.first g.value k.1 m.0 k.0 g.heads.0 k.3 m.1 in
            let P : List K → Type 0 = λ z. ListedBy z (g.value ∷ l.0, true) in
            let Q : List B × Bool → Type 0 = λ z. ListedBy a z in
            subst Q (sym (m.2 ∙ ap (λ z. (z, true)) l.1)) (subst P (sym (g.joined ∙ ap (λ z. g.first ++ z) k.2)) (l.2, (g.heads.1, l.3)))
        | inr k ↦
            let P : List K → Type 0 = λ z. ListedBy z (g.value ∷ [], false) in
            let Q : List B × Bool → Type 0 = λ z. ListedBy a z in
            subst Q (sym k.1) (subst P (sym (g.joined ∙ ap (λ z. g.first ++ z) k.0 ∙ append-nil g.first)) (last g.first g.value g.heads.0, (g.heads.1, tt)))
      ] in
      go g.tails

  -- ---- the law of what follows a first item

  module _ (fit : B → Type 0) where
    fit_front : (s : List B) (y : B) → FitEach fit (s ++ y ∷ []) → FitEach fit s
    fit_front [] y f = tt
    fit_front (x ∷ s) y f = (f.0, fit_front s y f.1)

    fit_last : (s : List B) (y : B) → FitEach fit (s ++ y ∷ []) → fit y
    fit_last [] y f = f.0
    fit_last (x ∷ s) y f = fit_last s y f.1

    fit_add : (s : List B) (y : B) → FitEach fit s → fit y → FitEach fit (s ++ y ∷ [])
    fit_add [] y f g = (g, tt)
    fit_add (x ∷ s) y f g = (f.0, fit_add s y f.1 g)

    module _ (starts : List B → K → Bool) (contp cont : K → Bool) (given : Allowed is_separator Item allow starts contp cont) (item : List B → Parser K B)
        (item_law : (s : List B) → FitEach fit s → (ts : List K) → sees (starts s) ts ≡ true → Law (ItemAfter s) (Limited (ItemAfter s) fit) contp ts (item s ts)) where
      row_items : RowItems is_separator ItemAfter add starts contp cont (FitEach fit)
      row_items = record {
        opens = λ s b y rest g. given.opens s b y rest g.0 g.1;
        own = given.own;
        own_separator = given.own_separator;
        wider = given.wider;
        ends_before = given.ends_before;
        shrinks = λ s b y g f. fit_front s y f;
      }

      within_item : (s : List B) → FitEach fit s → (ts : List K) → sees (starts s) ts ≡ true → Law (ItemAfter s) (λ b y. ItemAfter s b y × FitEach fit (add s y)) contp ts (item s ts)
      within_item s f ts h =
          rename_law (ItemAfter s) (Limited (ItemAfter s) fit) (ItemAfter s) (λ b y. ItemAfter s b y × FitEach fit (add s y)) contp
          (λ b y g. g) (λ b y g. (g.0, fit_add s y f g.1)) (λ b y g. g) (λ b y g. (g.0, fit_last s y g.1)) ts (item s ts) (item_law s f ts h)

      -- a row after a first item and a separator
      pub rows_law : (y : B) → fit y → (ts : List K)
          → Law (Row is_separator ItemAfter add (y ∷ [], true)) (Limited (Row is_separator ItemAfter add (y ∷ [], true)) (λ r. FitEach fit r.0)) cont ts
          (repeat (row_test is_separator starts) (row_turn is_separator item (λ v z. v ++ z ∷ [])) (length ts) (y ∷ [], true) ts)
      rows_law y h ts = row_law is_separator ItemAfter add starts contp cont (FitEach fit) row_items item within_item (y ∷ [], true) (h, tt) ts

      pub following_law : {C : Type 0} (f : List B → C) (fit_all : C → Type 0) → Carries f (FitEach fit) fit_all → (y : B) → fit y → (ts : List K)
          → Law (Following f y) (Limited (Following f y) fit_all) cont ts
          (and_then (expect is_separator ts) (λ _. (λ us. repeat (row_test is_separator starts) (row_turn is_separator item (λ v z. v ++ z ∷ [])) (length us) (y ∷ [], true) us) >>= λ s. pure (f s.0)))
      following_law f fit_all carries y h ts =
          open_limited is_separator (λ _. Made (Row is_separator ItemAfter add (y ∷ [], true)) (λ r. f r.0)) fit_all cont
          (λ t i. ([], f (y ∷ []), (((y ∷ [], true), done (y ∷ [], true), refl), carries.grows (y ∷ []) (h, tt))))
          ts _
          (λ t r i e. made_limited (Row is_separator ItemAfter add (y ∷ [], true)) cont (λ s. f s.0) (λ s. FitEach fit s.0) fit_all
          (record { grows = λ s k. carries.grows s.0 k; shrinks = λ s k. carries.shrinks s.0 k }) r _
          (rows_law y h r))

-- ---- a bound on the number of items

abbrev pub up_to : {B : Type 0} → ℕ → List B → B → Bool
up_to most s y = nat_lt (length s) most

pub most_of : {B : Type 0} (most : ℕ) (v xs : List B) → length v ≤ most → GrowsBy (up_to most) v xs → length v + length xs ≤ most
most_of most v [] small g = omega arith
most_of most v (x ∷ xs) small g =
    let h = ltb-true (length v) most g.0 in
    let l : length (v ++ x ∷ []) ≡ length v + 1 = length-append v (x ∷ []) in
    let k = most_of most (v ++ x ∷ []) xs (omega arith) g.1 in
    omega arith

pub grows_of : {B : Type 0} (most : ℕ) (v xs : List B) → length v + length xs ≤ most → GrowsBy (up_to most) v xs
grows_of most v [] h = tt
grows_of most v (x ∷ xs) h =
    let l : length (v ++ x ∷ []) ≡ length v + 1 = length-append v (x ∷ []) in
    let m : length (x ∷ xs) ≡ length xs + 1 = omega arith in
    (lt-ltb (length v) most (omega arith), grows_of most (v ++ x ∷ []) xs (omega arith))

pub and_second : (x y : Bool) → x && y ≡ true → y ≡ true
and_second true y h = h
and_second false y h = absurd (cc)

pub sees_both : {K : Type 0} (x : Bool) (f : K → Bool) (l : List K) → x ≡ true → sees f l ≡ true → sees (λ t. x && f t) l ≡ true
sees_both true f [] e h = cc
sees_both true f (t ∷ ts) e h = h
sees_both false f l e h = absurd (cc)

pub sees_first : {K : Type 0} (x : Bool) (f : K → Bool) (l : List K) → sees (λ t. x && f t) l ≡ true → x ≡ true
sees_first true f l h = refl
sees_first false f [] h = absurd (cc)
sees_first false f (t ∷ ts) h = absurd (cc)
