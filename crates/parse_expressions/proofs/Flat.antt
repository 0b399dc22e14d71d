-- The law of a first operand with items beside it that are all parts of one node, as in chains of `or`, `and` and
-- comparisons. The state of the loop is the first operand and the items so far: alone the operand may fill the room,
-- and with an item beside it it must fit under a node.
use Rattle.std.proofs.Common.{◌≡◌, ℕ, suc, ◌≤◌, Bool, true, false, List, [], ◌∷◌, ◌++◌, length, refl, sym, ◌∙◌, ap, subst, inl, inr, ◌⊎◌, append_assoc, arith}
use Rattle.std.proofs.lemmas.List.{append-nil}
use Rattle.std.proofs.lemmas.Bool.{leb-true}
use Rattle.indent_lexer.specs.declared.token.Token.{Token}
use Rattle.source_trees.specs.declared.expression.Expr.{Expr}
use Rattle.source_trees.specs.Heights.{height_of_expr}
use Rattle.parse_laws.specs.Parser.{Parser, sees, pure, within, ◌>>=◌}
use Rattle.parse_laws.specs.Language.{Language, Free, Viable, Law}
use Rattle.parse_laws.specs.Forms.{Then, Made}
use Rattle.parse_laws.specs.Limits.{Limited, Carries}
use Rattle.parse_laws.specs.Loops.{Turns, done, next, Repeated}
use Rattle.parse_laws.proofs.Forms.{wider_at}
use Rattle.parse_laws.proofs.Lists.{FitEach}
use Rattle.parse_laws.proofs.Limits.{limit_law, join_law, made_limited}
use Rattle.parse_laws.proofs.Repeats.{at_head, repeat_law}
use Rattle.parse_expressions.specs.declared.form.Form.{Form}
use Rattle.parse_expressions.specs.Forms.{Low}
use Rattle.parse_expressions.specs.Reading as reading
use Rattle.parse_expressions.proofs.Lows.{positive, no_room}

-- items one after the other, at least one
pub data More {B : Type 0} (Item : Language Token B) : List Token → List B → Type 0 where
  last : (a : List Token) (y : B) → Item a y → More Item a (y ∷ [])
  another : (a : List Token) (y : B) (b : List Token) (ys : List B) → Item a y → More Item b ys → More Item (a ++ b) (y ∷ ys)

module _ {B : Type 0} (Item : Language Token B) where
  abbrev pub Beside : Type 0
  Beside = Expr × List B

  abbrev pub push : Beside → B → Beside
  push v y = (v.0, v.1 ++ y ∷ [])

  abbrev pub Step : Beside → Language Token Beside
  Step v = Made Item (push v)

  pub turns_of_more : (x : Expr) (vs : List B) (a : List Token) (ys : List B) → More Item a ys → Turns Step (x, vs) a (x, vs ++ ys)
  turns_of_more x vs _ _ (last a y p) =
      let P : List Token → Type 0 = λ z. Turns Step (x, vs) z (x, vs ++ y ∷ []) in
      subst P (append-nil a) (next (x, vs) a (x, vs ++ y ∷ []) [] (x, vs ++ y ∷ []) (y, p, refl) (done (x, vs ++ y ∷ [])))
  turns_of_more x vs _ _ (another a y b ys p q) =
      let P : List B → Type 0 = λ z. Turns Step (x, vs) (a ++ b) (x, z) in
      subst P (append_assoc vs (y ∷ []) ys) (next (x, vs) a (x, vs ++ y ∷ []) b (x, (vs ++ y ∷ []) ++ ys) (y, p, refl) (turns_of_more x (vs ++ y ∷ []) b ys q))

  abbrev pub MaybeMore : Beside → List Token → Beside → Type 0
  MaybeMore v a w = ((a ≡ []) × (w ≡ v)) ⊎ ((ys : List B) × More Item a ys × (w ≡ (v.0, v.1 ++ ys)))

  grown : (a : List Token) (y : B) → Item a y → (c : List Token) (v w : Beside) → MaybeMore (push v y) c w → (ys : List B) × More Item (a ++ c) ys × (w ≡ (v.0, v.1 ++ ys))
  grown a y p c v w (inl k) =
      let P : List Token → Type 0 = λ z. More Item z (y ∷ []) in
      (y ∷ [], subst P (sym (ap (λ z. a ++ z) k.0 ∙ append-nil a)) (last a y p), k.1)
  grown a y p c v w (inr k) = (y ∷ k.0, another a y c k.0 p k.1, k.2 ∙ ap (λ z. (v.0, z)) (append_assoc v.1 (y ∷ []) k.0))

  pub more_of_turns : (v : Beside) (a : List Token) (w : Beside) → Turns Step v a w → MaybeMore v a w
  more_of_turns _ _ _ (done v) = inl (refl, refl)
  more_of_turns _ _ _ (next v b u c w p rest) =
      let U : Beside → Type 0 = λ z. MaybeMore z c w in
      inr (grown b p.0 p.1 c v w (subst U p.2 (more_of_turns u c w rest)))

  fit_snoc : (fit : B → Type 0) (s : List B) (y : B) → FitEach fit s → fit y → FitEach fit (s ++ y ∷ [])
  fit_snoc fit [] y f i = (i, tt)
  fit_snoc fit (x ∷ s) y f i = (f.0, fit_snoc fit s y f.1 i)

  fit_front : (fit : B → Type 0) (s : List B) (y : B) → FitEach fit (s ++ y ∷ []) → FitEach fit s
  fit_front fit [] y f = tt
  fit_front fit (x ∷ s) y f = (f.0, fit_front fit s y f.1)

  fit_last : (fit : B → Type 0) (s : List B) (y : B) → FitEach fit (s ++ y ∷ []) → fit y
  fit_last fit [] y f = f.0
  fit_last fit (x ∷ s) y f = fit_last fit s y f.1

  module _ (room : ℕ) (sub : Form → Parser Token Expr) (fit : B → Type 0) where
    abbrev pub FitBeside : Beside → Type 0
    FitBeside (x, []) = Low (suc room) x
    FitBeside (x, y ∷ ys) = Low room x × FitEach fit (y ∷ ys)

    push_grows : (v : Beside) (y : B) → reading.fits_more room sub v ≡ true → FitBeside v → fit y → FitBeside (push v y)
    push_grows (x, []) y some f i = (leb-true (height_of_expr x) room some, (i, tt))
    push_grows (x, z ∷ zs) y some f i = (f.0, fit_snoc fit (z ∷ zs) y f.1 i)

    push_shrinks : (v : Beside) (y : B) → FitBeside (push v y) → FitBeside v
    push_shrinks (x, []) y f = let k = f.0 in omega arith
    push_shrinks (x, z ∷ zs) y f = (f.0, fit_front fit (z ∷ zs) y f.1)

    push_last : (v : Beside) (y : B) → FitBeside (push v y) → fit y
    push_last (x, []) y f = f.1.0
    push_last (x, z ∷ zs) y f = fit_last fit (z ∷ zs) y f.1

    push_none : (v : Beside) (y : B) → reading.fits_more room sub v ≡ false → FitBeside (push v y) → ⊥
    push_none (x, []) y none f = no_room (height_of_expr x) room none f.0
    push_none (x, z ∷ zs) y none f = cc

    module _ (test contp cont : Token → Bool) (item : Parser Token B)
        (item_opens : (a : List Token) (y : B) (s : List Token) → Item a y → sees test (a ++ s) ≡ true)
        (item_viable : (t : Token) → test t ≡ true → Viable Item (t ∷ []))
        (own : (t : Token) → test t ≡ true → cont t ≡ true)
        (wider : (t : Token) → cont t ≡ false → contp t ≡ false)
        (apart : (t : Token) → test t ≡ true → contp t ≡ false)
        (item_law : 1 ≤ room → (ts : List Token) → sees test ts ≡ true → Law Item (Limited Item fit) contp ts (item ts)) where
      step_viable : (v : Beside) (t : Token) → test t ≡ true → Viable (Step v) (t ∷ [])
      step_viable v t h = let k = item_viable t h in (k.0, push v k.1, (k.1, k.2, refl))

      room_of : (v : Beside) → reading.fits_more room sub v ≡ true → FitBeside v → 1 ≤ room
      room_of (x, []) some f = let l = leb-true (height_of_expr x) room some in let p = positive x in omega arith
      room_of (x, z ∷ zs) some f = let l = f.0 in let p = positive x in omega arith

      turn_law : (v : Beside) → FitBeside v → (ts : List Token) → sees test ts ≡ true
          → Law (Step v) (Limited (Step v) FitBeside) contp ts (within (reading.fits_more room sub v) (item >>= λ y. pure (push v y)) ts)
      turn_law v f ts h =
          limit_law (Step v) FitBeside contp test (reading.fits_more room sub v) (step_viable v)
          (λ none a w s k i free j. push_none v k.0 none (subst FitBeside k.2 i))
          (item >>= λ y. pure (push v y)) ts h
          (λ some. made_limited Item contp (push v) fit FitBeside (record { grows = λ y i. push_grows v y some f i; shrinks = λ y i. push_last v y i }) ts (item ts) (item_law (room_of v some f) ts h))

      repeated : Repeated (λ _. test) Step (λ _. contp) cont FitBeside
      repeated = record {
        opens = λ v b u s p. item_opens b p.0 s p.1;
        own = λ v t h. own t h;
        wider = λ v t h. wider t h;
        next = λ v b u t p h. apart t h;
        shrinks = λ v b u p f. push_shrinks v p.0 (subst FitBeside p.2 f);
      }

      several_law : (x : Expr) → Low (suc room) x → (ts : List Token) → Law (Turns Step (x, [])) (Limited (Turns Step (x, [])) FitBeside) cont ts (reading.several room sub test item x ts)
      unfolding reading.several
      several_law x f ts =
          repeat_law (λ _. test) Step (λ _. contp) cont FitBeside repeated (λ v. within (reading.fits_more room sub v) (item >>= λ y. pure (push v y))) turn_law (length ts) (x, []) ts (omega arith) f

      several_apart : (v : Beside) (c : List Token) (w : Beside) (s : List Token) → Turns Step v c w → Free cont s → Free contp (c ++ s)
      several_apart _ _ _ s (done v) free = wider_at contp cont wider s free
      several_apart _ _ _ s (next v b u c w p rest) free = ap (sees contp) (append_assoc b c s) ∙ at_head test contp false apart (b ++ (c ++ s)) (item_opens b p.0 (c ++ s) p.1)

      several_shrinks : (v : Beside) (c : List Token) (w : Beside) → Turns Step v c w → FitBeside w → FitBeside v
      several_shrinks _ _ _ (done v) f = f
      several_shrinks _ _ _ (next v b u c w p rest) f = push_shrinks v p.0 (subst FitBeside p.2 (several_shrinks u c w rest f))

      abbrev pub Flat : Language Token Expr → (Beside → Expr) → Language Token Expr
      Flat Head finish = Made (Then Head (λ x. Turns Step (x, []))) finish

      pub flat_law : (Head : Language Token Expr) (head : Parser Token Expr) → ((ts : List Token) → Law Head (Limited Head (Low (suc room))) contp ts (head ts))
          → (finish : Beside → Expr) → Carries finish FitBeside (Low (suc room))
          → (ts : List Token) → Law (Flat Head finish) (Limited (Flat Head finish) (Low (suc room))) cont ts ((head >>= reading.several room sub test item >>= λ v. pure (finish v)) ts)
      flat_law Head head head_law finish carries ts =
          made_limited (Then Head (λ x. Turns Step (x, []))) cont finish FitBeside (Low (suc room)) carries ts _
          (join_law Head contp (λ x. Turns Step (x, [])) cont (Low (suc room)) FitBeside
          (record {
            apart = λ a x p c w s q free. several_apart (x, []) c w s q free;
            ends = λ a x p. ([], (x, []), done (x, []));
            ends_within = λ a x p f. ([], (x, []), (done (x, []), f));
            shrinks = λ a x p c w q f. several_shrinks (x, []) c w q f;
          }) ts (head ts) (head_law ts) (reading.several room sub test item) (λ used x r p f e. several_law x f r))
