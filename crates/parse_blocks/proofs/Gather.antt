-- The law of items one after the other, each of which is a list.
use Rattle.std.proofs.Common.{◌≡◌, Bool, true, List, [], ◌∷◌, ◌++◌, length, refl, sym, ◌∙◌, ap, subst, append_assoc, arith}
use Rattle.std.proofs.lemmas.List.{append-nil}
use Rattle.parse_laws.specs.Parser.{Parser, sees, pure, ◌>>=◌}
use Rattle.parse_laws.specs.Language.{Language, Free, Law}
use Rattle.parse_laws.specs.Forms.{Made}
use Rattle.parse_laws.specs.Limits.{Limited}
use Rattle.parse_laws.specs.Loops.{Turns, done, next, Repeated}
use Rattle.parse_laws.proofs.Forms.{wider_at}
use Rattle.parse_laws.proofs.Limits.{same_law, made_limited}
use Rattle.parse_laws.proofs.Lists.{FitEach}
use Rattle.parse_laws.proofs.Repeats.{repeat_law}
use Rattle.parse_statements.proofs.Many.{Follows}
use Rattle.parse_blocks.specs.Gather.{Gathered, none, more, gather}

pub fit_parts : {B : Type 0} (fit : B → Type 0) (xs ys : List B) → FitEach fit (xs ++ ys) → FitEach fit xs × FitEach fit ys
fit_parts fit [] ys f = (tt, f)
fit_parts fit (x ∷ xs) ys f = let k = fit_parts fit xs ys f.1 in ((f.0, k.0), k.1)

pub fit_joined : {B : Type 0} (fit : B → Type 0) (xs ys : List B) → FitEach fit xs → FitEach fit ys → FitEach fit (xs ++ ys)
fit_joined fit [] ys f g = g
fit_joined fit (x ∷ xs) ys f g = (f.0, fit_joined fit xs ys f.1 g)

module _ {K B : Type 0} (Item : Language K (List B)) (fit : B → Type 0) where
  abbrev Step : List B → Language K (List B)
  Step xs = Made Item (λ ys. xs ++ ys)

  -- what stands, and the items after it
  abbrev pub Onto : List B → Language K (List B)
  Onto v = Made (Gathered Item) (λ zs. v ++ zs)

  turns_gathered : (v : List B) (a : List K) (w : List B) → Turns Step v a w → Onto v a w
  turns_gathered _ _ _ (done v) = ([], none, sym (append-nil v))
  turns_gathered _ _ _ (next v b u c w p rest) =
      let k = turns_gathered u c w rest in
      (p.0 ++ k.0, more b p.0 c k.0 p.1 k.1, k.2 ∙ ap (λ z. z ++ k.0) p.2 ∙ append_assoc v p.0 k.0)

  gathered_turns : (v : List B) (a : List K) (zs : List B) → Gathered Item a zs → Turns Step v a (v ++ zs)
  gathered_turns v _ _ none = let P : List B → Type 0 = λ z. Turns Step v [] z in subst P (sym (append-nil v)) (done v)
  gathered_turns v _ _ (more a ys b zs p rest) =
      let P : List B → Type 0 = λ z. Turns Step v (a ++ b) z in
      subst P (append_assoc v ys zs) (next v a (v ++ ys) b ((v ++ ys) ++ zs) (ys, p, refl) (gathered_turns (v ++ ys) b zs rest))

  onto_turns : (v : List B) (a : List K) (w : List B) → Onto v a w → Turns Step v a w
  onto_turns v a w g = let P : List B → Type 0 = λ z. Turns Step v a z in subst P (sym g.2) (gathered_turns v a g.0 g.1)

  module _ (starts contp cont : K → Bool) (given : Follows Item starts contp cont) where
    repeated : Repeated (λ _. starts) Step (λ _. contp) cont (FitEach fit)
    repeated = record {
      opens = λ v b u s p. given.opens b p.0 s p.1;
      own = λ v t h. given.own t h;
      wider = λ v t h. given.wider t h;
      next = λ v b u t p h. given.next t h;
      shrinks = λ v b u p f. let P : List B → Type 0 = λ z. FitEach fit z in (fit_parts fit v p.0 (subst P p.2 f)).0;
    }

    starts_free : (s : List K) → sees starts s ≡ true → Free contp s
    starts_free [] h = absurd (cc)
    starts_free (t ∷ s) h = given.next t h

    pub gathered_apart : (a : List K) (ys : List B) (s : List K) → Gathered Item a ys → Free cont s → Free contp (a ++ s)
    gathered_apart _ _ s none free = wider_at contp cont given.wider s free
    gathered_apart _ _ s (more a ys b zs p rest) free =
        let k : sees starts (a ++ (b ++ s)) ≡ true = given.opens a ys (b ++ s) p in
        let l : sees starts ((a ++ b) ++ s) ≡ true = ap (sees starts) (append_assoc a b s) ∙ k in
        starts_free ((a ++ b) ++ s) l

    pub gather_law : (item : Parser K (List B)) → ((ts : List K) → sees starts ts ≡ true → Law Item (Limited Item (FitEach fit)) contp ts (item ts))
        → (v : List B) → FitEach fit v → (ts : List K) → Law (Onto v) (Limited (Onto v) (FitEach fit)) cont ts (gather starts item v ts)
    unfolding gather
    gather_law item item_law v fv ts =
        same_law (Turns Step v) (Onto v) (FitEach fit) cont (turns_gathered v) (onto_turns v) ts _
        (repeat_law (λ _. starts) Step (λ _. contp) cont (FitEach fit) repeated (λ xs. item >>= λ ys. pure (xs ++ ys))
        (λ xs f us h. made_limited Item contp (λ ys. xs ++ ys) (FitEach fit) (FitEach fit)
        (record { grows = λ ys g. fit_joined fit xs ys f g; shrinks = λ ys g. (fit_parts fit xs ys g).1 }) us (item us) (item_law us h))
        (length ts) v ts (omega arith) fv)
