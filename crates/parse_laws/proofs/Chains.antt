-- The law of a chain of operators.
use Rattle.std.proofs.Common.{◌≡◌, ℕ, zero, suc, ◌+◌, ◌≤◌, Bool, true, false, cond, List, [], ◌∷◌, ◌++◌, length, refl, sym, ◌∙◌, ap, subst, Option, Some, None, append_assoc, arith}
use Rattle.std.proofs.lemmas.List.{length-append, append-nil}
use Rattle.parse_laws.specs.declared.cause.Cause.TheVariants.{TooDeep}
use Rattle.parse_laws.specs.Parser.{Outcome, Parsed, Stopped, Parser, and_then, sees, pure, choose, within, take_by, in_table, has, turn, repeat, ◌>>=◌}
use Rattle.parse_laws.specs.Language.{Language, Free, GoesOn, Law}
use Rattle.parse_laws.specs.Forms.{Then, Link, Agrees, never, Picks}
use Rattle.parse_laws.specs.Loops.{Chain, stop, more, Chained}
use Rattle.parse_laws.proofs.Sequence.{seq}
use Rattle.parse_laws.proofs.Steps.{widen, pure_law, deep_law}
use Rattle.parse_laws.proofs.Choices.{choose_law, within_law, take_law}
use Rattle.parse_laws.proofs.Forms.{free_never, wider_at}

module _ {K : Type 0} where
  -- A value and what follows: each turn takes an operator and what stands on its right. The number bounds the turns.
  unfoldable pub chain : {A B O : Type 0} → (A → K → Option O) → (A → Bool) → (O → A → B → A) → (O → Parser K B) → ℕ → A → Parser K A
  chain pick fits node operand zero v = pure v
  chain pick fits node operand (suc n) v =
      choose (has (pick v)) (within (fits v) (take_by (pick v) >>= λ o. operand o >>= λ y. chain pick fits node operand n (node o v y))) (pure v)

  operand_turn : {A B : Type 0} (v : A) (o : Outcome K B) (node : B → A) (p : A → Parser K A) → and_then o (λ y. p (node y)) ≡ and_then (and_then o (λ y. pure (node y))) p
  operand_turn v (Parsed y r) node p = refl
  operand_turn v (Stopped k r) node p = refl

  chain_turn : {A B O : Type 0} (v : A) (took : Outcome K O) (operand : O → Parser K B) (node : O → A → B → A) (fits : Bool) (ts : List K) (p : A → Parser K A)
      → cond fits (and_then took (λ o. operand o >>= λ y. p (node o v y))) (Stopped TooDeep ts) ≡ and_then (cond fits (and_then took (λ o. operand o >>= λ y. pure (node o v y))) (Stopped TooDeep ts)) p
  chain_turn v took operand node false ts p = refl
  chain_turn v (Stopped k r) operand node true ts p = refl
  chain_turn v (Parsed o r) operand node true ts p = operand_turn v (operand o r) (node o v) p

  in_second : {A B : Type 0} (p q : A → Parser K A) → ((w : A) (us : List K) → p w us ≡ q w us) → (o : Outcome K B) (node : B → A) → and_then o (λ y. p (node y)) ≡ and_then o (λ y. q (node y))
  in_second p q same (Parsed y r) node = same (node y) r
  in_second p q same (Stopped k r) node = refl

  in_operand : {A B O : Type 0} {p q : A → Parser K A} → ((w : A) (us : List K) → p w us ≡ q w us) → (fits : Bool) (took : Outcome K O) (ts : List K) (operand : O → Parser K B) (node : O → B → A)
      → cond fits (and_then took (λ o. operand o >>= λ y. p (node o y))) (Stopped TooDeep ts) ≡ cond fits (and_then took (λ o. operand o >>= λ y. q (node o y))) (Stopped TooDeep ts)
  in_operand same false took ts operand node = refl
  in_operand same true (Stopped k r) ts operand node = refl
  in_operand {p = p} {q = q} same true (Parsed o r) ts operand node = in_second p q same (operand o r) (node o)

  chain_is : {A B O : Type 0} (pick : A → K → Option O) (fits : A → Bool) (node : O → A → B → A) (operand : O → Parser K B) (n : ℕ) (v : A) (ts : List K)
      → chain pick fits node operand n v ts ≡ repeat (λ w. has (pick w)) (turn pick fits node operand) n v ts
  unfolding chain repeat
  chain_is pick fits node operand zero v ts = refl
  chain_is {A} pick fits node operand (suc n) v ts =
      let p : A → Parser K A = λ w us. repeat (λ w. has (pick w)) (turn pick fits node operand) n w us in
      let go : (x : Bool) → cond x (cond (fits v) (and_then (take_by (pick v) ts) (λ o. operand o >>= λ y us. chain pick fits node operand n (node o v y) us)) (Stopped TooDeep ts)) (Parsed v ts)
      ≡ cond x (and_then (turn pick fits node operand v ts) p) (Parsed v ts) = elim [
        | true ↦ in_operand (λ w us. chain_is pick fits node operand n w us) (fits v) (take_by (pick v) ts) ts operand (λ o. node o v) ∙ chain_turn v (take_by (pick v) ts) operand node (fits v) ts p
        | false ↦ refl
      ] in
      go (sees (has (pick v)) ts)

  module _ {A B O : Type 0} (pick : A → K → Option O) (fits : A → Bool) (node : O → A → B → A) (P : O → Language K B) (contp cont : K → Bool) (fit : A → Type 0) (fit_part : B → Type 0)
      (given : Chained pick fits node P contp cont fit fit_part) where
    abbrev pub Tails : A → Language K A
    Tails v c w = Chain pick node P v c w

    abbrev pub Within : A → Language K A
    Within v c w = Chain pick node P v c w × fit w

    shrinks : (v : A) (c : List K) (w : A) → Chain pick node P v c w → fit w → fit v
    shrinks _ _ _ (stop v) h = h
    shrinks _ _ _ (more t o v b y c w e p rest) h = (given.grows o v y (shrinks (node o v y) c w rest h)).1

    abbrev pub Part : O → Language K B
    Part o b y = P o b y × fit_part y

    Turn : A → Language K A
    Turn v = Then (Picks (pick v)) (λ o. Then (P o) (λ y. Tails (node o v y)))

    TurnWithin : A → Language K A
    TurnWithin v = Then (Picks (pick v)) (λ o. Then (Part o) (λ y. Within (node o v y)))

    turn_up : (v : A) (a : List K) (w : A) → Turn v a w → Tails v a w
    unfolding Turn
    turn_up v a w g =
        let T : List K → Type 0 = λ z. Chain pick node P v z w in
        let k = g.tails in
        let e : a ≡ g.heads.0 ∷ k.first ++ k.second = g.joined ∙ ap (λ z. z ++ g.second) g.heads.1 ∙ ap (λ z. g.heads.0 ∷ z) k.joined in
        subst T (sym e) (more g.heads.0 g.value v k.first k.value k.second w g.heads.2 k.heads k.tails)

    up_within : (v : A) (a : List K) (w : A) → TurnWithin v a w → Within v a w
    unfolding TurnWithin Turn
    up_within v a w g =
        let k = g.tails in (
          turn_up v a w (record {
            first = g.first;
            second = g.second;
            value = g.value;
            joined = g.joined;
            heads = g.heads;
            tails = record { first = k.first; second = k.second; value = k.value; joined = k.joined; heads = k.heads.0; tails = k.tails.0 };
          }),
          k.tails.1,
        )

    sees_own : (v : A) (s : List K) → Free cont s → sees (has (pick v)) s ≡ true → ⊥
    sees_own v [] free h = cc
    sees_own v (t ∷ s) free h =
        let go : (x : Option O) → pick v t ≡ x → in_table x ≡ true → ⊥ = elim [ Some o ↦ λ e k. let c = (given.own v t o e).0 in cc | None ↦ λ e k. cc ] in
        go (pick v t) refl h

    turn_down : (v : A) (a : List K) (w : A) (s : List K) → Chain pick node P v a w → Free cont s → sees (has (pick v)) (a ++ s) ≡ true → Turn v a w
    unfolding Turn
    turn_down _ _ _ s (stop v) free h = absurd (sees_own v s free h)
    turn_down _ _ _ s (more t o v b y c w e p rest) free h =
        record {
          first = t ∷ [];
          second = b ++ c;
          value = o;
          joined = refl;
          heads = (t, refl, e);
          tails = record { first = b; second = c; value = y; joined = refl; heads = p; tails = rest };
        }

    down_within : (v : A) (a : List K) (w : A) (s : List K) → Chain pick node P v a w → fit w → Free cont s → sees (has (pick v)) (a ++ s) ≡ true → TurnWithin v a w
    unfolding TurnWithin
    down_within _ _ _ s (stop v) k free h = absurd (sees_own v s free h)
    down_within _ _ _ s (more t o v b y c w e p rest) k free h =
        record {
          first = t ∷ [];
          second = b ++ c;
          value = o;
          joined = refl;
          heads = (t, refl, e);
          tails = record { first = b; second = c; value = y; joined = refl; heads = (p, (given.grows o v y (shrinks (node o v y) c w rest k)).2); tails = (rest, k) };
        }

    turn_agrees : (v : A) → Agrees (Turn v) (TurnWithin v) (Tails v) (Within v) cont (has (pick v)) true
    turn_agrees v = record { up = turn_up v; up_within = up_within v; down = turn_down v; down_within = λ a w s g. down_within v a w s g.0 g.1 }

    Stop : A → Language K A
    Stop v a w = (a ≡ []) × (w ≡ v)

    stop_up : (v : A) (a : List K) (w : A) → Stop v a w → Chain pick node P v a w
    unfolding Stop
    stop_up v a w g =
        let T : List K → Type 0 = λ z. Chain pick node P v z w in
        let U : A → Type 0 = λ z. Chain pick node P v [] z in
        subst T (sym g.0) (subst U (sym g.1) (stop v))

    stop_down : (v : A) (a : List K) (w : A) (s : List K) → Chain pick node P v a w → sees (has (pick v)) (a ++ s) ≡ false → Stop v a w
    unfolding Stop
    stop_down _ _ _ s (stop v) h = (refl, refl)
    stop_down _ _ _ s (more t o v b y c w e p rest) h = let k : has (pick v) t ≡ true = ap in_table e in cc

    stop_agrees : (v : A) → fit v → Agrees (Stop v) (Stop v) (Tails v) (Within v) cont (has (pick v)) false
    unfolding Stop
    stop_agrees v f = record {
      up = stop_up v;
      up_within = λ a w g. (stop_up v a w g, subst fit (sym g.1) f);
      down = λ a w s g free h. stop_down v a w s g h;
      down_within = λ a w s g free h. stop_down v a w s g.0 h;
    }

    stop_law : (v : A) → fit v → (ts : List K) → sees (has (pick v)) ts ≡ false → Law (Tails v) (Within v) cont ts (Parsed v ts)
    unfolding Stop
    stop_law v f ts h = widen (Stop v) (Stop v) (Tails v) (Within v) cont (has (pick v)) false (stop_agrees v f) ts h (Parsed v ts) (pure_law v cont ts)

    tail_apart : (v : A) (c : List K) (w : A) (s : List K) → Chain pick node P v c w → Free cont s → Free contp (c ++ s)
    tail_apart _ _ _ s (stop v) free = wider_at contp cont given.wider s free
    tail_apart _ _ _ s (more t o v b y c w e p rest) free = (given.own v t o e).1

    link_part : (o : O) (v : A) → fits v ≡ true → fit v → Link (P o) (Part o) contp (λ y. Tails (node o v y)) (λ y. Within (node o v y)) cont
    link_part o v f k = record {
      part = λ a y g. g.0;
      parts = λ y c w g. g.0;
      apart = λ a y h c w s g free. tail_apart (node o v y) c w s g free;
      ends = λ a y g. ([], node o v y, stop (node o v y));
      ends_within = λ a y g. ([], node o v y, (stop (node o v y), given.room o v y f k g.1));
    }

    least_turn : (o : O) (v : A) → (c : List K) × (w : A) × Then (P o) (λ y. Tails (node o v y)) c w
    least_turn o v =
        let l = given.least o in
        (l.0 ++ [], node o v l.1, record { first = l.0; second = []; value = l.1; joined = refl; heads = l.2; tails = stop (node o v l.1) })

    some_turn : (o : O) (v : A) → fits v ≡ true → fit v → (c : List K) × (w : A) × Then (Part o) (λ y. Within (node o v y)) c w
    some_turn o v f k =
        let l = given.some o v f in
        (l.0 ++ [], node o v l.1, record { first = l.0; second = []; value = l.1; joined = refl; heads = (l.2, l.3); tails = (stop (node o v l.1), given.room o v l.1 f k l.3) })

    link_turn : (v : A) → fits v ≡ true → fit v
        → Link (Picks (pick v)) (Picks (pick v)) never (λ o. Then (P o) (λ y. Tails (node o v y))) (λ o. Then (Part o) (λ y. Within (node o v y))) cont
    link_turn v f k = record {
      part = λ a o g. g;
      parts = λ o c w g. record { first = g.first; second = g.second; value = g.value; joined = g.joined; heads = g.heads.0; tails = g.tails.0 };
      apart = λ a o h c w s g free. free_never (c ++ s);
      ends = λ a o g. least_turn o v;
      ends_within = λ a o g. some_turn o v f k;
    }

    deep_none : (v : A) (a : List K) (w : A) (s : List K) → Chain pick node P v a w → fit w → fits v ≡ false → Free cont s → sees (has (pick v)) (a ++ s) ≡ true → ⊥
    deep_none _ _ _ s (stop v) k f free h = sees_own v s free h
    deep_none _ _ _ s (more t o v b y c w e p rest) k f free h = let x : fits v ≡ true = (given.grows o v y (shrinks (node o v y) c w rest k)).0 in cc

    deep_turn : (v : A) → fits v ≡ false → (ts : List K) → sees (has (pick v)) ts ≡ true → Law (Tails v) (Within v) cont ts (Stopped TooDeep ts)
    deep_turn v f [] h = let x : true ≡ false = sym h in cc
    deep_turn v f (t ∷ ts) h =
        let none : (a : List K) (w : A) (s : List K) → Within v a w → Free cont s → sees (has (pick v)) (a ++ s) ≡ true → ⊥ =
        λ a w s g free k. deep_none v a w s g.0 g.1 f free k in
        let go : (x : Option O) → pick v t ≡ x → in_table x ≡ true → GoesOn (Tails v) [] (t ∷ ts) = elim [
          | Some o ↦ λ e k. record {
            token = t;
            rest = ts;
            more = (given.least o).0 ++ [];
            value = node o v (given.least o).1;
            next = refl;
            spells = more t o v (given.least o).0 (given.least o).1 [] (node o v (given.least o).1) e (given.least o).2 (stop (node o v (given.least o).1));
          }
          | None ↦ λ e k. absurd (cc)
        ] in
        deep_law (Tails v) (Within v) cont (has (pick v)) true none (t ∷ ts) h (go (pick v t) refl h)

    module _ (operand : O → Parser K B) (operand_law : (o : O) (v : A) → fits v ≡ true → (ts : List K) → Law (P o) (Part o) contp ts (operand o ts)) where
      abbrev pub run : ℕ → A → Parser K A
      run n v = chain pick fits node operand n v

      behind : (o : O) (v : A) → fits v ≡ true → fit v → (n : ℕ) → ((y : B) (ts : List K) → length ts ≤ n → fit (node o v y) → Law (Tails (node o v y)) (Within (node o v y)) cont ts (run n (node o v y) ts))
          → (ts : List K) → length ts ≤ n → Law (Then (P o) (λ y. Tails (node o v y))) (Then (Part o) (λ y. Within (node o v y))) cont ts (and_then (operand o ts) (λ y. run n (node o v y)))
      behind o v f k n later ts small =
          seq (P o) (Part o) contp (λ y. Tails (node o v y)) (λ y. Within (node o v y)) cont (link_part o v f k) ts (operand o ts) (operand_law o v f ts) (λ y. run n (node o v y))
          (λ used y r g e. later y r (let l : length ts ≡ length used + length r = ap length e ∙ length-append used r in omega arith) (given.room o v y f k g.1))

      turn_in : (v : A) → fits v ≡ true → fit v → (n : ℕ) → ((o : O) (y : B) (ts : List K) → length ts ≤ n → fit (node o v y) → Law (Tails (node o v y)) (Within (node o v y)) cont ts (run n (node o v y) ts))
          → (ts : List K) → length ts ≤ suc n → Law (Turn v) (TurnWithin v) cont ts (and_then (take_by (pick v) ts) (λ o. operand o >>= λ y. run n (node o v y)))
      unfolding Turn TurnWithin
      turn_in v f k n later ts small =
          seq (Picks (pick v)) (Picks (pick v)) never (λ o. Then (P o) (λ y. Tails (node o v y))) (λ o. Then (Part o) (λ y. Within (node o v y))) cont (link_turn v f k)
          ts (take_by (pick v) ts) (take_law (pick v) never ts) (λ o. operand o >>= λ y. run n (node o v y))
          (λ used o r g e. behind o v f k n (later o) r
          (let l : length ts ≡ length used + length r = ap length e ∙ length-append used r in let m : length used ≡ 1 = ap length g.1 in omega arith))

      turned : (v : A) → fits v ≡ true → fit v → (n : ℕ) → ((o : O) (y : B) (ts : List K) → length ts ≤ n → fit (node o v y) → Law (Tails (node o v y)) (Within (node o v y)) cont ts (run n (node o v y) ts))
          → (ts : List K) → length ts ≤ suc n → sees (has (pick v)) ts ≡ true → Law (Tails v) (Within v) cont ts (and_then (take_by (pick v) ts) (λ o. operand o >>= λ y. run n (node o v y)))
      turned v f k n later ts small h =
          widen (Turn v) (TurnWithin v) (Tails v) (Within v) cont (has (pick v)) true (turn_agrees v) ts h _
          (turn_in v f k n later ts small)

      pub chain_law : (n : ℕ) (v : A) (ts : List K) → length ts ≤ n → fit v → Law (Tails v) (Within v) cont ts (run n v ts)
      unfolding chain
      chain_law zero v [] small k = stop_law v k [] refl
      chain_law zero v (t ∷ ts) small k = absurd (omega arith)
      chain_law (suc n) v ts small k =
          choose_law (Tails v) (Within v) cont (has (pick v)) ts _ _
          (λ h. within_law (Tails v) (Within v) cont ts (fits v) _ (λ f. turned v f k n (λ o y us. chain_law n (node o v y) us) ts small h) (λ f. deep_turn v f ts h))
          (λ h. stop_law v k ts h)

      pub repeat_chain_law : (n : ℕ) (v : A) (ts : List K) → length ts ≤ n → fit v → Law (Tails v) (Within v) cont ts (repeat (λ w. has (pick w)) (turn pick fits node operand) n v ts)
      repeat_chain_law n v ts small k =
          let P : Outcome K A → Type 0 = λ z. Law (Tails v) (Within v) cont ts z in
          subst P (chain_is pick fits node operand n v ts) (chain_law n v ts small k)

  -- one more operator and its right operand after others
  pub chain_snoc : {A B O : Type 0} (pick : A → K → Option O) (node : O → A → B → A) (P : O → Language K B) (v : A) (c : List K) (u : A) → Chain pick node P v c u
      → (t : K) (o : O) (b : List K) (y : B) → pick u t ≡ Some o → P o b y → Chain pick node P v (c ++ t ∷ b) (node o u y)
  chain_snoc pick node P _ _ _ (stop v) t o b y h p =
      let Q : List K → Type 0 = λ z. Chain pick node P v (t ∷ z) (node o v y) in
      subst Q (append-nil b) (more t o v b y [] (node o v y) h p (stop (node o v y)))
  chain_snoc pick node P _ _ _ (more u q v a x c w e p rest) t o b y h r =
      let Q : List K → Type 0 = λ z. Chain pick node P v (u ∷ z) (node o w y) in
      subst Q (sym (append_assoc a c (t ∷ b))) (more u q v a x (c ++ t ∷ b) (node o w y) e p (chain_snoc pick node P (node q v x) c w rest t o b y h r))
