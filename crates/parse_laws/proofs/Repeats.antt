-- The law of a loop whose turns begin with a token of their own.
use Rattle.std.proofs.Common.{◌≡◌, ℕ, zero, suc, ◌+◌, ◌<◌, ◌≤◌, Bool, true, false, List, [], ◌∷◌, ◌++◌, length, refl, sym, ◌∙◌, ap, subst, append_assoc, arith}
use Rattle.std.proofs.lemmas.List.{length-append, append-nil}
use Rattle.parse_laws.specs.Parser.{Parsed, Parser, and_then, sees, repeat}
use Rattle.parse_laws.specs.Language.{Language, Free, Law}
use Rattle.parse_laws.specs.Forms.{Then, Link, Agrees}
use Rattle.parse_laws.specs.Loops.{Turns, done, next, Repeated}
use Rattle.parse_laws.proofs.Sequence.{seq}
use Rattle.parse_laws.proofs.Steps.{widen, pure_law}
use Rattle.parse_laws.proofs.Choices.{choose_law}
use Rattle.parse_laws.proofs.Forms.{wider_at}

module _ {K : Type 0} where
  pub at_head : (f g : K → Bool) (x : Bool) → ((t : K) → f t ≡ true → g t ≡ x) → (ts : List K) → sees f ts ≡ true → sees g ts ≡ x
  at_head f g x all [] h = cc
  at_head f g x all (t ∷ ts) h = all t h

  longer : (f : K → Bool) (ts : List K) → sees f ts ≡ true → 0 < length ts
  longer f [] h = cc
  longer f (t ∷ ts) h = omega arith

  module _ {A : Type 0} (test : A → K → Bool) (Step : A → Language K A) (contp : A → K → Bool) (cont : K → Bool) (fit : A → Type 0)
      (given : Repeated test Step contp cont fit) where
    abbrev pub All : A → Language K A
    All v c w = Turns Step v c w

    abbrev pub AllWithin : A → Language K A
    AllWithin v c w = Turns Step v c w × fit w

    abbrev pub StepWithin : A → Language K A
    StepWithin v c w = Step v c w × fit w

    shrink : (v : A) (c : List K) (w : A) → Turns Step v c w → fit w → fit v
    shrink _ _ _ (done v) h = h
    shrink _ _ _ (next v b u c w p rest) h = given.shrinks v b u p (shrink u c w rest h)

    One : A → Language K A
    One v = Then (Step v) All

    OneWithin : A → Language K A
    OneWithin v = Then (StepWithin v) AllWithin

    up : (v : A) (a : List K) (w : A) → One v a w → All v a w
    unfolding One
    up v a w g = let T : List K → Type 0 = λ z. Turns Step v z w in subst T (sym g.joined) (next v g.first g.value g.second w g.heads g.tails)

    up_within : (v : A) (a : List K) (w : A) → OneWithin v a w → AllWithin v a w
    unfolding One OneWithin
    up_within v a w g = (up v a w (record { first = g.first; second = g.second; value = g.value; joined = g.joined; heads = g.heads.0; tails = g.tails.0 }), g.tails.1)

    sees_own : (v : A) (s : List K) → Free cont s → sees (test v) s ≡ true → ⊥
    sees_own v [] free h = cc
    sees_own v (t ∷ s) free h = let c = given.own v t h in cc

    down : (v : A) (a : List K) (w : A) (s : List K) → Turns Step v a w → Free cont s → sees (test v) (a ++ s) ≡ true → One v a w
    unfolding One
    down _ _ _ s (done v) free h = absurd (sees_own v s free h)
    down _ _ _ s (next v b u c w p rest) free h = record { first = b; second = c; value = u; joined = refl; heads = p; tails = rest }

    down_within : (v : A) (a : List K) (w : A) (s : List K) → Turns Step v a w → fit w → Free cont s → sees (test v) (a ++ s) ≡ true → OneWithin v a w
    unfolding OneWithin
    down_within _ _ _ s (done v) k free h = absurd (sees_own v s free h)
    down_within _ _ _ s (next v b u c w p rest) k free h = record { first = b; second = c; value = u; joined = refl; heads = (p, shrink u c w rest k); tails = (rest, k) }

    one_agrees : (v : A) → Agrees (One v) (OneWithin v) (All v) (AllWithin v) cont (test v) true
    one_agrees v = record { up = up v; up_within = up_within v; down = down v; down_within = λ a w s g. down_within v a w s g.0 g.1 }

    Stop : A → Language K A
    Stop v a w = (a ≡ []) × (w ≡ v)

    stop_up : (v : A) (a : List K) (w : A) → Stop v a w → Turns Step v a w
    unfolding Stop
    stop_up v a w g =
        let T : List K → Type 0 = λ z. Turns Step v z w in
        let U : A → Type 0 = λ z. Turns Step v [] z in
        subst T (sym g.0) (subst U (sym g.1) (done v))

    stop_down : (v : A) (a : List K) (w : A) (s : List K) → Turns Step v a w → sees (test v) (a ++ s) ≡ false → Stop v a w
    unfolding Stop
    stop_down _ _ _ s (done v) h = (refl, refl)
    stop_down _ _ _ s (next v b u c w p rest) h =
        let k : sees (test v) (b ++ (c ++ s)) ≡ true = given.opens v b u (c ++ s) p in
        let k2 : sees (test v) ((b ++ c) ++ s) ≡ true = ap (sees (test v)) (append_assoc b c s) ∙ k in
        absurd (cc)

    stop_agrees : (v : A) → fit v → Agrees (Stop v) (Stop v) (All v) (AllWithin v) cont (test v) false
    unfolding Stop
    stop_agrees v f = record {
      up = stop_up v;
      up_within = λ a w g. (stop_up v a w g, subst fit (sym g.1) f);
      down = λ a w s g free h. stop_down v a w s g h;
      down_within = λ a w s g free h. stop_down v a w s g.0 h;
    }

    stop_law : (v : A) → fit v → (ts : List K) → sees (test v) ts ≡ false → Law (All v) (AllWithin v) cont ts (Parsed v ts)
    unfolding Stop
    stop_law v f ts h = widen (Stop v) (Stop v) (All v) (AllWithin v) cont (test v) false (stop_agrees v f) ts h (Parsed v ts) (pure_law v cont ts)

    apart : (v : A) (u : A) → ((t : K) → test u t ≡ true → contp v t ≡ false) → (c : List K) (w : A) (s : List K) → Turns Step u c w → Free cont s → Free (contp v) (c ++ s)
    apart v _ after _ _ s (done u) free = wider_at (contp v) cont (given.wider v) s free
    apart v _ after _ _ s (next u b x c w p rest) free =
        let k : sees (test u) (b ++ (c ++ s)) ≡ true = given.opens u b x (c ++ s) p in
        let k2 : sees (test u) ((b ++ c) ++ s) ≡ true = ap (sees (test u)) (append_assoc b c s) ∙ k in
        at_head (test u) (contp v) false after ((b ++ c) ++ s) k2

    link : (v : A) → Link (Step v) (StepWithin v) (contp v) All AllWithin cont
    link v = record {
      part = λ a u g. g.0;
      parts = λ u c w g. g.0;
      apart = λ a u h c w s g free. apart v u (λ t k. given.next v a u t h k) c w s g free;
      ends = λ a u g. ([], u, done u);
      ends_within = λ a u g. ([], u, (done u, g.1));
    }

    module _ (turn : A → Parser K A) (turn_law : (v : A) → fit v → (ts : List K) → sees (test v) ts ≡ true → Law (Step v) (StepWithin v) (contp v) ts (turn v ts)) where
      one_law : (v : A) → fit v → (n : ℕ) → ((u : A) (us : List K) → length us ≤ n → fit u → Law (All u) (AllWithin u) cont us (repeat test turn n u us))
          → (ts : List K) → length ts ≤ suc n → sees (test v) ts ≡ true → Law (One v) (OneWithin v) cont ts (and_then (turn v ts) (repeat test turn n))
      unfolding One OneWithin
      one_law v f n later ts small h =
          seq (Step v) (StepWithin v) (contp v) All AllWithin cont (link v) ts (turn v ts) (turn_law v f ts h) (repeat test turn n)
          (λ used u r g e. later u r
          (let l : length ts ≡ length used + length r = ap length e ∙ length-append used r in
          let k : 0 < length (used ++ []) = longer (test v) (used ++ []) (given.opens v used u [] g.0) in
          let m : length (used ++ []) ≡ length used + 0 = length-append used [] in omega arith) g.1)

      pub repeat_law : (n : ℕ) (v : A) (ts : List K) → length ts ≤ n → fit v → Law (All v) (AllWithin v) cont ts (repeat test turn n v ts)
      unfolding repeat
      repeat_law zero v [] small k = stop_law v k [] refl
      repeat_law zero v (t ∷ ts) small k = absurd (omega arith)
      repeat_law (suc n) v ts small k =
          choose_law (All v) (AllWithin v) cont (test v) ts _ _
          (λ h. widen (One v) (OneWithin v) (All v) (AllWithin v) cont (test v) true (one_agrees v) ts h _ (one_law v k n (λ u us. repeat_law n u us) ts small h))
          (λ h. stop_law v k ts h)

  -- one more turn after others
  pub turns_snoc : {A : Type 0} (Step : A → Language K A) (v : A) (c : List K) (u : A) → Turns Step v c u → (b : List K) (w : A) → Step u b w → Turns Step v (c ++ b) w
  turns_snoc Step _ _ _ (done v) b w s = let P : List K → Type 0 = λ z. Turns Step v z w in subst P (append-nil b) (next v b w [] w s (done w))
  turns_snoc Step _ _ _ (next v a x c u p rest) b w s =
      let P : List K → Type 0 = λ z. Turns Step v z w in
      subst P (sym (append_assoc a c b)) (next v a x (c ++ b) w p (turns_snoc Step x c u rest b w s))
