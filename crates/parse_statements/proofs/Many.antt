-- The law of items one after the other.
use Rattle.std.proofs.Common.{◌≡◌, Bool, true, false, List, [], ◌∷◌, ◌++◌, length, refl, sym, ◌∙◌, ap, subst, append_assoc, arith}
use Rattle.std.proofs.lemmas.List.{append-nil}
use Rattle.parse_laws.specs.Parser.{Parser, sees, pure, ◌>>=◌}
use Rattle.parse_laws.specs.Language.{Language, Free, Law}
use Rattle.parse_laws.specs.Forms.{Made}
use Rattle.parse_laws.specs.Limits.{Limited}
use Rattle.parse_laws.specs.Loops.{Turns, done, next, Repeated}
use Rattle.parse_laws.proofs.Forms.{wider_at}
use Rattle.parse_laws.proofs.Limits.{same_law, join_law, made_limited}
use Rattle.parse_laws.proofs.Lists.{FitEach}
use Rattle.parse_laws.proofs.Repeats.{repeat_law}
use Rattle.parse_statements.specs.Many.{Many, none, more, many, OneOrMore, one_or_more}

-- What is asked of the items: each begins with a token that starts one, which `cont` has and which carries no item on.
pub record Follows {K B : Type 0} (Item : Language K B) (starts contp cont : K → Bool) : Type 0 where
  pub opens : (a : List K) (y : B) (s : List K) → Item a y → sees starts (a ++ s) ≡ true
  pub own : (t : K) → starts t ≡ true → cont t ≡ true
  pub wider : (t : K) → cont t ≡ false → contp t ≡ false
  pub next : (t : K) → starts t ≡ true → contp t ≡ false

module _ {K B : Type 0} (Item : Language K B) (fit : B → Type 0) where
  abbrev Step : List B → Language K (List B)
  Step ys = Made Item (λ y. ys ++ y ∷ [])

  turns_many : (v : List B) (a : List K) (w : List B) → Turns Step v a w → (ys : List B) × Many Item a ys × (w ≡ v ++ ys)
  turns_many _ _ _ (done v) = ([], none, sym (append-nil v))
  turns_many _ _ _ (next v b u c w p rest) =
      let k = turns_many u c w rest in
      (p.0 ∷ k.0, more b p.0 c k.0 p.1 k.1, k.2 ∙ ap (λ z. z ++ k.0) p.2 ∙ append_assoc v (p.0 ∷ []) k.0)

  many_turns : (v : List B) (a : List K) (ys : List B) → Many Item a ys → Turns Step v a (v ++ ys)
  many_turns v _ _ none = let P : List B → Type 0 = λ z. Turns Step v [] z in subst P (sym (append-nil v)) (done v)
  many_turns v _ _ (more a y b ys p rest) =
      let P : List B → Type 0 = λ z. Turns Step v (a ++ b) z in
      subst P (append_assoc v (y ∷ []) ys) (next v a (v ++ y ∷ []) b ((v ++ y ∷ []) ++ ys) (y, p, refl) (many_turns (v ++ y ∷ []) b ys rest))

  many_up : (a : List K) (ys : List B) → Turns Step [] a ys → Many Item a ys
  many_up a ys t = let k = turns_many [] a ys t in let P : List B → Type 0 = λ z. Many Item a z in subst P (sym k.2) k.1

  front : (s : List B) (y : B) → FitEach fit (s ++ y ∷ []) → FitEach fit s × fit y
  front [] y f = (tt, f.0)
  front (x ∷ s) y f = let k = front s y f.1 in ((f.0, k.0), k.1)

  added : (s : List B) (y : B) → FitEach fit s → fit y → FitEach fit (s ++ y ∷ [])
  added [] y f g = (g, tt)
  added (x ∷ s) y f g = (f.0, added s y f.1 g)

  module _ (starts contp cont : K → Bool) (given : Follows Item starts contp cont) where
    repeated : Repeated (λ _. starts) Step (λ _. contp) cont (FitEach fit)
    repeated = record {
      opens = λ v b u s p. given.opens b p.0 s p.1;
      own = λ v t h. given.own t h;
      wider = λ v t h. given.wider t h;
      next = λ v b u t p h. given.next t h;
      shrinks = λ v b u p f. let P : List B → Type 0 = λ z. FitEach fit z in (front v p.0 (subst P p.2 f)).0;
    }

    starts_free : (s : List K) → sees starts s ≡ true → Free contp s
    starts_free [] h = absurd (cc)
    starts_free (t ∷ s) h = given.next t h

    pub many_apart : (a : List K) (ys : List B) (s : List K) → Many Item a ys → Free cont s → Free contp (a ++ s)
    many_apart _ _ s none free = wider_at contp cont given.wider s free
    many_apart _ _ s (more a y b ys p rest) free =
        let k : sees starts (a ++ (b ++ s)) ≡ true = given.opens a y (b ++ s) p in
        let l : sees starts ((a ++ b) ++ s) ≡ true = ap (sees starts) (append_assoc a b s) ∙ k in
        starts_free ((a ++ b) ++ s) l

    pub many_law : (item : Parser K B) → ((ts : List K) → sees starts ts ≡ true → Law Item (Limited Item fit) contp ts (item ts))
        → (ts : List K) → Law (Many Item) (Limited (Many Item) (FitEach fit)) cont ts (many starts item ts)
    unfolding many
    many_law item item_law ts =
        same_law (Turns Step []) (Many Item) (FitEach fit) cont many_up (λ a ys p. many_turns [] a ys p) ts _
        (repeat_law (λ _. starts) Step (λ _. contp) cont (FitEach fit) repeated (λ ys. item >>= λ y. pure (ys ++ y ∷ []))
        (λ v f us h. let l = made_limited Item contp (λ y. v ++ y ∷ []) fit (FitEach fit)
        (record { grows = λ y g. added v y f g; shrinks = λ y g. (front v y g).1 }) us (item us) (item_law us h) in l)
        (length ts) [] ts (omega arith) tt)

    -- one item or more; the first is read whatever begins it
    pub one_or_more_law : (item : Parser K B) → ((ts : List K) → sees starts ts ≡ true → Law Item (Limited Item fit) contp ts (item ts))
        → (ts : List K) → Law Item (Limited Item fit) contp ts (item ts) → Law (OneOrMore Item) (Limited (OneOrMore Item) (FitEach fit)) cont ts (one_or_more starts item ts)
    unfolding one_or_more
    one_or_more_law item item_law ts first =
        join_law Item contp (λ y. Made (Many Item) (λ ys. y ∷ ys)) cont fit (FitEach fit)
        (record {
          apart = λ a y g c w s h free. many_apart c h.0 s h.1 free;
          ends = λ a y g. ([], y ∷ [], ([], none, refl));
          ends_within = λ a y g f. ([], y ∷ [], (([], none, refl), (f, tt)));
          shrinks = λ a y g c w h f. let P : List B → Type 0 = λ z. FitEach fit z in (subst P h.2 f).0;
        }) ts (item ts) first (λ y. many starts item >>= λ ys. pure (y ∷ ys))
        (λ used y us g f e. made_limited (Many Item) cont (λ ys. y ∷ ys) (FitEach fit) (FitEach fit) (record { grows = λ ys k. (f, k); shrinks = λ ys k. k.1 }) us (many starts item us) (many_law item item_law us))

pub many_append : {K B : Type 0} (Item : Language K B) (a : List K) (xs : List B) → Many Item a xs → (b : List K) (ys : List B) → Many Item b ys → Many Item (a ++ b) (xs ++ ys)
many_append Item _ _ none b ys q = q
many_append Item _ _ (more a y c xs p rest) b ys q =
    let P : List _ → Type 0 = λ z. Many Item z (y ∷ (xs ++ ys)) in
    subst P (sym (append_assoc a c b)) (more a y (c ++ b) (xs ++ ys) p (many_append Item c xs rest b ys q))
