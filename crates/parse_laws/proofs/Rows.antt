-- The law of a row of items with separators, and perhaps one after the last. A row is a loop whose turns are an item or
-- a separator, by whether an item may follow; so its law is the law of loops.
use Rattle.std.proofs.Common.{◌≡◌, Bool, true, false, cond, List, ◌++◌, length, refl, sym, ◌∙◌, ap, subst, arith}
use Rattle.parse_laws.specs.Parser.{Parser, sees, repeat, row_turn}
use Rattle.parse_laws.specs.Language.{Language, Law}
use Rattle.parse_laws.specs.Forms.{Made, Ends, never}
use Rattle.parse_laws.specs.Loops.{Repeated, RowState, RowStep, Row, row_test, RowItems}
use Rattle.parse_laws.proofs.Forms.{rename_law, made_law, end_law}
use Rattle.parse_laws.proofs.Repeats.{repeat_law}

module _ {K S B : Type 0} (is_separator : K → Bool)
    (Item : S → Language K B) (add : S → B → S) (starts : S → K → Bool) (contp cont : K → Bool) (fit : S → Type 0)
    (given : RowItems is_separator Item add starts contp cont fit) where
  abbrev Step : RowState S → Language K (RowState S)
  Step = RowStep is_separator Item add

  abbrev fits : RowState S → Type 0
  fits r = fit r.0

  abbrev turn_cont : RowState S → K → Bool
  turn_cont r t = cond r.1 (contp t) false

  opens : (v : RowState S) (b : List K) (u : RowState S) (s : List K) → Step v b u → sees (row_test is_separator starts v) (b ++ s) ≡ true
  opens (x, true) b u s g = given.opens x b g.0 s g.1
  opens (x, false) b u s g = ap (λ z. sees is_separator (z ++ s)) g.1 ∙ g.2

  own : (v : RowState S) (t : K) → row_test is_separator starts v t ≡ true → cont t ≡ true
  own (x, true) t h = given.own x t h
  own (x, false) t h = given.own_separator t h

  wider : (v : RowState S) (t : K) → cont t ≡ false → turn_cont v t ≡ false
  wider (x, true) t h = given.wider t h
  wider (x, false) t h = refl

  after : (v : RowState S) (b : List K) (u : RowState S) (t : K) → Step v b u → row_test is_separator starts u t ≡ true → turn_cont v t ≡ false
  after (x, true) b u t g h = given.ends_before t (ap (λ z. row_test is_separator starts z t) (sym g.2) ∙ h)
  after (x, false) b u t g h = refl

  shrinks : (v : RowState S) (b : List K) (u : RowState S) → Step v b u → fits u → fits v
  shrinks (x, true) b u g h = given.shrinks x b g.0 g.1 (let P : RowState S → Type 0 = λ z. fits z in subst P g.2 h)
  shrinks (x, false) b u g h = let P : RowState S → Type 0 = λ z. fits z in subst P g.3 h

  repeated : Repeated (row_test is_separator starts) Step turn_cont cont fits
  repeated = record { opens = opens; own = own; wider = wider; next = after; shrinks = shrinks }

  module _ (item : S → Parser K B)
      (item_law : (s : S) → fit s → (ts : List K) → sees (starts s) ts ≡ true → Law (Item s) (λ b y. Item s b y × fit (add s y)) contp ts (item s ts)) where
    turn_law : (v : RowState S) → fits v → (ts : List K) → sees (row_test is_separator starts v) ts ≡ true
        → Law (Step v) (λ a w. Step v a w × fits w) (turn_cont v) ts (row_turn is_separator item add v ts)
    turn_law (x, true) f ts h =
        rename_law (Made (Item x) (λ y. (add x y, false))) (Made (λ b y. Item x b y × fit (add x y)) (λ y. (add x y, false))) (Step (x, true)) (λ a w. Step (x, true) a w × fits w) contp
        (λ a w g. g)
        (λ a w g. ((g.0, g.1.0, g.2), let P : RowState S → Type 0 = λ z. fits z in subst P (sym g.2) g.1.1))
        (λ a w g. g)
        (λ a w g. (g.0.0, (g.0.1, let P : RowState S → Type 0 = λ z. fits z in subst P g.0.2 g.1), g.0.2))
        ts _ (made_law (Item x) (λ b y. Item x b y × fit (add x y)) contp (λ a y g. g.0) (λ y. (add x y, false)) ts (item x ts) (item_law x f ts h))
    turn_law (x, false) f ts h =
        rename_law (Ends is_separator (x, true)) (Ends is_separator (x, true)) (Step (x, false)) (λ a w. Step (x, false) a w × fits w) never
        (λ a w g. g)
        (λ a w g. (g, let P : RowState S → Type 0 = λ z. fits z in subst P (sym g.3) f))
        (λ a w g. g)
        (λ a w g. g.0)
        ts _ (end_law is_separator (x, true) never ts)

    -- a row from any state within the limit
    pub row_law : (v : RowState S) → fit v.0 → (ts : List K)
        → Law (Row is_separator Item add v) (λ a w. Row is_separator Item add v a w × fit w.0) cont ts
        (repeat (row_test is_separator starts) (row_turn is_separator item add) (length ts) v ts)
    row_law v f ts =
        repeat_law (row_test is_separator starts) Step turn_cont cont fits repeated (row_turn is_separator item add) turn_law (length ts) v ts (omega arith) f
