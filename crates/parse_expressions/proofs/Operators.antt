-- The laws of factors and of the operators that group to the left.
use Rattle.std.proofs.Common.{◌≡◌, ℕ, suc, ◌≤◌, nat_le, Bool, true, false, not, ◌&&◌, List, [], ◌∷◌, ◌++◌, length, refl, sym, ◌∙◌, ap, subst, Option, Some, None, codes, inl, inr, append_assoc, arith}
use Rattle.std.proofs.lemmas.List.{append-nil}
use Rattle.std.proofs.lemmas.Bool.{le-leb, leb-true}
use Rattle.indent_lexer.specs.declared.token.Token.{Token}
use Rattle.source_trees.specs.declared.expression.Expr.{Expr}
use Rattle.source_trees.specs.declared.expression.Expr.TheVariants as e
use Rattle.source_trees.specs.declared.node.Node.{Node}
use Rattle.source_trees.specs.declared.operator.BinaryOp.{BinaryOp}
use Rattle.source_trees.specs.declared.operator.BinaryOp.TheVariants.{Power}
use Rattle.source_trees.specs.declared.operator.UnaryOp.{UnaryOp}
use Rattle.source_trees.specs.Heights.{height_of_expr}
use Rattle.parse_laws.specs.Parser.{Parser, and_then, sees, pure, within, expect, take_by, has, in_table, ◌>>=◌}
use Rattle.parse_laws.specs.Language.{Language, Free, Viable, Law}
use Rattle.parse_laws.specs.Forms.{Then, Is, Picks, Opens, Made, Either, never}
use Rattle.parse_laws.specs.Limits.{Limited}
use Rattle.parse_laws.specs.Loops.{Chain, stop, more, Chained}
use Rattle.parse_laws.proofs.Forms.{free_never, wider_at}
use Rattle.parse_laws.proofs.Chains.{chain_snoc, repeat_chain_law}
use Rattle.parse_laws.proofs.Repeats.{at_head}
use Rattle.parse_laws.proofs.Limits.{same_law, take_limited, optional_law, either_law, limit_law, join_law, made_limited, open_limited}
use Rattle.grammar_rules.specs.declared.level.Rank.{Rank}
use Rattle.grammar_rules.specs.declared.level.Rank.TheVariants as rank
use Rattle.grammar_rules.specs.Expressions as g
use Rattle.grammar_rules.specs.Expressions.{node_of, IsPostfix, IsFactor, IsRanked, IsOperand}
use Rattle.grammar_rules.specs.Levels.{tighter, operators, signs}
use Rattle.grammar_rules.specs.Words.{look_up, node_at}
use Rattle.parse_expressions.specs.declared.form.Form.{Form}
use Rattle.parse_expressions.specs.declared.form.Form.TheVariants as form
use Rattle.parse_expressions.specs.Forms.{Low, carried_by, opened_by, looseness_of_rank, looseness_of_operand, begins, carries}
use Rattle.parse_expressions.specs.Reading as reading
use Rattle.parse_expressions.specs.Reading.{is_power, sign_from, sign_at, operation}
use Rattle.parse_expressions.proofs.Tokens.{op_kind, carries_looser, look_up_passes, and_first, and_second}
use Rattle.parse_expressions.proofs.Opens.{x_token, x_tree, opens}
use Rattle.parse_expressions.proofs.Least.{least}
use Rattle.parse_expressions.proofs.Heights.{height-Binary, height-Unary}
use Rattle.parse_expressions.proofs.Lows.{positive, x_low, room_true, no_room}
use Rattle.parse_expressions.proofs.Leaves.{Free_of_limit, picks_opens}
use Rattle.parse_expressions.proofs.Rows.{Reads}
use Rattle.parse_expressions.proofs.Postfixes.{postfix_law}

-- ---- factors, by their parts

abbrev PowerOf : Expr → Language Token Expr
PowerOf x = Opens is_power (λ _. Made IsFactor (operation Power x))

abbrev PowerRest : Expr → Language Token Expr
PowerRest x = Either (PowerOf x) (Is x)

abbrev Sign : Type 0
Sign = Node × UnaryOp

abbrev signed_tree : Sign → Expr → Expr
signed_tree s y = e.Unary s.0 s.1 y

abbrev Signed : Language Token Expr
Signed = Then (Picks sign_at) (λ s. Made IsFactor (signed_tree s))

abbrev Factors : Language Token Expr
Factors = Either Signed (Then IsPostfix PowerRest)

sign_of_at : (n : Node) (o : Option UnaryOp) (s : Sign) → sign_from n o ≡ Some s → (o ≡ Some s.1) × (n ≡ s.0)
sign_of_at n None s h = absurd (cc)
sign_of_at n (Some o) s h =
    let k : Some (n, o) ≡ Some s = h in
    let l : (n, o) ≡ s = cc in
    (ap (λ z. Some z.1) l, ap (λ z. z.0) l)

factor_to : (a : List Token) (v : Expr) → IsFactor a v → Factors a v
factor_to _ _ (g.base a x p) = inr (record { first = a; second = []; value = x; joined = sym (append-nil a); heads = p; tails = inr (refl, refl) })
factor_to _ _ (g.power a x t b y p h q) = inr (record { first = a; second = t ∷ b; value = x; joined = refl; heads = p; tails = inl (t, b, refl, h, (y, q, refl)) })
factor_to _ _ (g.signed t o a x h p) =
    inl (record { first = t ∷ []; second = a; value = (node_at t, o); joined = refl; heads = (t, refl, ap (sign_from (node_at t)) h); tails = (x, p, refl) })

power_from : (a : List Token) (x : Expr) → IsPostfix a x → (c : List Token) (v : Expr) → PowerRest x c v → IsFactor (a ++ c) v
power_from a x p c v (inl k) =
    let A : List Token → Type 0 = λ z. IsFactor (a ++ z) v in
    let V : Expr → Type 0 = λ z. IsFactor (a ++ k.0 ∷ k.1) z in
    subst A (sym k.2) (subst V (sym k.4.2) (g.power a x k.0 k.1 k.4.0 p k.3 k.4.1))
power_from a x p c v (inr k) =
    let A : List Token → Type 0 = λ z. IsFactor z v in
    let V : Expr → Type 0 = λ z. IsFactor a z in
    subst A (sym (ap (λ z. a ++ z) k.0 ∙ append-nil a)) (subst V (sym k.1) (g.base a x p))

factor_from : (a : List Token) (v : Expr) → Factors a v → IsFactor a v
factor_from a v (inl k) =
    let t = k.heads.0 in
    let f = sign_of_at (node_at t) (look_up signs t) k.value k.heads.2 in
    let A : List Token → Type 0 = λ z. IsFactor z v in
    let V : Expr → Type 0 = λ z. IsFactor (t ∷ k.second) z in
    subst A (sym (k.joined ∙ ap (λ z. z ++ k.second) k.heads.1))
    (subst V (sym (k.tails.2 ∙ ap (λ z. e.Unary z k.value.1 k.tails.0) (sym f.1))) (g.signed t k.value.1 k.second k.tails.0 f.0 k.tails.1))
factor_from a v (inr k) = let A : List Token → Type 0 = λ z. IsFactor z v in subst A (sym k.joined) (power_from k.first k.value k.heads k.second v k.tails)

-- ---- facts of tokens

sign_look : (t : Token) (o : Option UnaryOp) → in_table (sign_from (node_at t) o) ≡ true → (s : UnaryOp) × (o ≡ Some s)
sign_look t None h = absurd (cc)
sign_look t (Some o) h = (o, refl)

sign_begins_no_atom : (t : Token) → has sign_at t ≡ true → not (begins 1 t) ≡ true
sign_begins_no_atom t h = let o = sign_look t (look_up signs t) h in look_up_passes (λ k. not (nat_le (opened_by k) 1)) signs refl t o.0 o.1

sign_begins : (t : Token) → has sign_at t ≡ true → begins 2 t ≡ true
sign_begins t h = let o = sign_look t (look_up signs t) h in look_up_passes (λ k. nat_le (opened_by k) 2) signs refl t o.0 o.1

atom_no_sign : (t : Token) → begins 1 t ≡ true → has sign_at t ≡ false
atom_no_sign t h =
    let go : (x : Bool) → has sign_at t ≡ x → x ≡ false = elim [
      | true ↦ λ i. let k : not (begins 1 t) ≡ true = sign_begins_no_atom t i in let l : not (begins 1 t) ≡ false = ap not h in absurd (cc)
      | false ↦ λ i. refl
    ] in
    go (has sign_at t) refl

power_carries : (t : Token) → is_power t ≡ true → carries 2 t ≡ true
power_carries t h = ap (λ z. nat_le (carried_by z) 2) (op_kind (codes "**") t h)

power_no_postfix : (t : Token) → is_power t ≡ true → carries 1 t ≡ false
power_no_postfix t h = ap (λ z. nat_le (carried_by z) 1) (op_kind (codes "**") t h)

rank_passes : (r : Rank) → (t : Token) (o : BinaryOp) → look_up (operators r) t ≡ Some o → carries (looseness_of_rank r) t && not (carries (looseness_of_operand r) t) ≡ true
rank_passes rank.Term t o h = look_up_passes (λ k. nat_le (carried_by k) 3 && not (nat_le (carried_by k) 2)) (operators rank.Term) refl t o h
rank_passes rank.Sum t o h = look_up_passes (λ k. nat_le (carried_by k) 4 && not (nat_le (carried_by k) 3)) (operators rank.Sum) refl t o h
rank_passes rank.Shift t o h = look_up_passes (λ k. nat_le (carried_by k) 5 && not (nat_le (carried_by k) 4)) (operators rank.Shift) refl t o h
rank_passes rank.BitAnd t o h = look_up_passes (λ k. nat_le (carried_by k) 6 && not (nat_le (carried_by k) 5)) (operators rank.BitAnd) refl t o h
rank_passes rank.BitXor t o h = look_up_passes (λ k. nat_le (carried_by k) 7 && not (nat_le (carried_by k) 6)) (operators rank.BitXor) refl t o h
rank_passes rank.BitOr t o h = look_up_passes (λ k. nat_le (carried_by k) 8 && not (nat_le (carried_by k) 7)) (operators rank.BitOr) refl t o h

not_true : (x : Bool) → not x ≡ true → x ≡ false
not_true true h = absurd (cc)
not_true false h = refl

rank_own : (r : Rank) (t : Token) (o : BinaryOp) → look_up (operators r) t ≡ Some o → (carries (looseness_of_rank r) t ≡ true) × (carries (looseness_of_operand r) t ≡ false)
rank_own r t o h =
    let k = rank_passes r t o h in (
      and_first (carries (looseness_of_rank r) t) (not (carries (looseness_of_operand r) t)) k,
      not_true (carries (looseness_of_operand r) t) (and_second (carries (looseness_of_rank r) t) (not (carries (looseness_of_operand r) t)) k),
    )

rank_wider : (r : Rank) (t : Token) → carries (looseness_of_rank r) t ≡ false → carries (looseness_of_operand r) t ≡ false
rank_wider rank.Term t h = carries_looser 2 3 (omega arith) t h
rank_wider rank.Sum t h = carries_looser 3 4 (omega arith) t h
rank_wider rank.Shift t h = carries_looser 4 5 (omega arith) t h
rank_wider rank.BitAnd t h = carries_looser 5 6 (omega arith) t h
rank_wider rank.BitXor t h = carries_looser 6 7 (omega arith) t h
rank_wider rank.BitOr t h = carries_looser 7 8 (omega arith) t h

-- ---- chains of a rank

abbrev Operations : Rank → Expr → Language Token Expr
Operations r x = Chain (λ _. look_up (operators r)) operation (λ _. IsOperand r) x

ranked_to : (r : Rank) (a : List Token) (v : Expr) → IsRanked r a v → Then (IsOperand r) (Operations r) a v
ranked_to _ _ _ (g.single r a x p) = record { first = a; second = []; value = x; joined = sym (append-nil a); heads = p; tails = stop x }
ranked_to _ _ _ (g.operation r a x t o b y p h q) =
    let k = ranked_to r a x p in
    record {
      first = k.first;
      second = k.second ++ t ∷ b;
      value = k.value;
      joined = ap (λ z. z ++ t ∷ b) k.joined ∙ append_assoc k.first k.second (t ∷ b);
      heads = k.heads;
      tails = chain_snoc (λ _. look_up (operators r)) operation (λ _. IsOperand r) k.value k.second x k.tails t o b y h q;
    }

operations_from : (r : Rank) (x : Expr) (c : List Token) (w : Expr) → Operations r x c w → (a : List Token) → IsRanked r a x → IsRanked r (a ++ c) w
operations_from r _ _ _ (stop x) a p = let A : List Token → Type 0 = λ z. IsRanked r z x in subst A (sym (append-nil a)) p
operations_from r _ _ _ (more t o x b y c w h q rest) a p =
    let A : List Token → Type 0 = λ z. IsRanked r z w in
    subst A (append_assoc a (t ∷ b) c) (operations_from r (operation o x y) c w rest (a ++ t ∷ b) (g.operation r a x t o b y p h q))

ranked_from : (r : Rank) (a : List Token) (v : Expr) → Then (IsOperand r) (Operations r) a v → IsRanked r a v
ranked_from r a v k =
    let A : List Token → Type 0 = λ z. IsRanked r z v in
    subst A (sym k.joined) (operations_from r k.value k.second v k.tails k.first (g.single r k.first k.value k.heads))

term_operand : (r : Rank) (a : List Token) (x : Expr) → IsOperand r a x → tighter r ≡ None → IsFactor a x
term_operand _ _ _ (g.factor a x p) h = p
term_operand _ _ _ (g.ranked r next a x i p) h = absurd (cc)

operand_ranked : (r : Rank) (a : List Token) (x : Expr) → IsOperand r a x → (next : Rank) → tighter r ≡ Some next → IsRanked next a x
operand_ranked _ _ _ (g.factor a x p) next h = absurd (cc)
operand_ranked _ _ _ (g.ranked r m a x i p) next h = let e : m ≡ next = cc in let R : Rank → Type 0 = λ z. IsRanked z a x in subst R e p

module _ (room : ℕ) (sub : Form → Parser Token Expr) (below : Reads room sub) where
  abbrev Within : Expr → Type 0
  Within = Low (suc room)

  operation_low : (o : BinaryOp) (x y : Expr) → Low room x → Low room y → Within (operation o x y)
  operation_low o x y f i = let h = height-Binary (node_of x) o x y in omega arith

  operation_parts : (o : BinaryOp) (x y : Expr) → Within (operation o x y) → Low room x × Low room y
  operation_parts o x y f = let h = height-Binary (node_of x) o x y in (omega arith, omega arith)

  -- ---- the law of factors

  power_law : (x : Expr) → Within x → (ts : List Token) → Law (PowerRest x) (Limited (PowerRest x) Within) (carries 2) ts (reading.power room sub x ts)
  unfolding reading.power
  power_law x f ts =
      optional_law (PowerOf x) x Within f (carries 2) is_power
      (λ a w s k. ap (λ z. sees is_power (z ++ s)) k.2 ∙ k.3) power_carries
      (within (nat_le (height_of_expr x) room) (expect is_power >>= λ _. sub form.Factor >>= λ y. pure (operation Power x y))) ts
      (λ h. limit_law (PowerOf x) Within (carries 2) is_power (nat_le (height_of_expr x) room)
      (λ t i. (x_token ∷ [], operation Power x x_tree, (t, x_token ∷ [], refl, i, (x_tree, least form.Factor, refl))))
      (λ none a v s k j free i. no_room (height_of_expr x) room none (operation_parts Power x k.4.0 (subst Within k.4.2 j)).0)
      (expect is_power >>= λ _. sub form.Factor >>= λ y. pure (operation Power x y)) ts h
      (λ some. let low = leb-true (height_of_expr x) room some in
      open_limited is_power (λ _. Made IsFactor (operation Power x)) Within (carries 2)
      (λ t i. (x_token ∷ [], operation Power x x_tree, ((x_tree, least form.Factor, refl), operation_low Power x x_tree low (x_low room (let p = positive x in omega arith)))))
      ts (λ _. sub form.Factor >>= λ y. pure (operation Power x y))
      (λ t r i j. made_limited IsFactor (carries 2) (operation Power x) (Low room) Within
      (record { grows = λ y k. operation_low Power x y low k; shrinks = λ y k. (operation_parts Power x y k).1 }) r (sub form.Factor r) (below form.Factor r))))

  power_apart : (x : Expr) (c : List Token) (w : Expr) (s : List Token) → PowerRest x c w → Free (carries 2) s → Free (carries 1) (c ++ s)
  power_apart x c w s (inl k) free = ap (λ z. sees (carries 1) (z ++ s)) k.2 ∙ power_no_postfix k.0 k.3
  power_apart x c w s (inr k) free = ap (λ z. sees (carries 1) (z ++ s)) k.0 ∙ wider_at (carries 1) (carries 2) (carries_looser 1 2 (omega arith)) s free

  power_shrinks : (x : Expr) (c : List Token) (w : Expr) → PowerRest x c w → Within w → Within x
  power_shrinks x c w (inl k) f = let p = (operation_parts Power x k.4.0 (subst Within k.4.2 f)).0 in omega arith
  power_shrinks x c w (inr k) f = subst Within k.1 f

  base_law : (ts : List Token) → Law (Then IsPostfix PowerRest) (Limited (Then IsPostfix PowerRest) Within) (carries 2) ts (and_then (reading.postfix room sub ts) (reading.power room sub))
  base_law ts =
      join_law IsPostfix (carries 1) PowerRest (carries 2) Within Within
      (record {
        apart = λ a x p c w s q free. power_apart x c w s q free;
        ends = λ a x p. ([], x, inr (refl, refl));
        ends_within = λ a x p f. ([], x, (inr (refl, refl), f));
        shrinks = λ a x p c w q f. power_shrinks x c w q f;
      }) ts (reading.postfix room sub ts) (postfix_law room sub below ts) (reading.power room sub)
      (λ used x r p f e. power_law x f r)

  signed_low : 1 ≤ room → (s : Sign) (y : Expr) → Low room y → Within (signed_tree s y)
  signed_low some s y f = let h = height-Unary s.0 s.1 y in omega arith

  signed_parts : (s : Sign) (y : Expr) → Within (signed_tree s y) → Low room y
  signed_parts s y f = let h = height-Unary s.0 s.1 y in omega arith

  sign_viable : (t : Token) → has sign_at t ≡ true → Viable Signed (t ∷ [])
  sign_viable t h =
      let o = sign_look t (look_up signs t) h in (
        x_token ∷ [],
        signed_tree (node_at t, o.0) x_tree,
        record { first = t ∷ []; second = x_token ∷ []; value = (node_at t, o.0); joined = refl; heads = (t, refl, ap (sign_from (node_at t)) o.1); tails = (x_tree, least form.Factor, refl) },
      )

  signed_law : (ts : List Token) → sees (has sign_at) ts ≡ true → Law Signed (Limited Signed Within) (carries 2) ts (reading.signed room sub ts)
  unfolding reading.signed
  signed_law ts h =
      limit_law Signed Within (carries 2) (has sign_at) (nat_le 1 room) sign_viable
      (λ none a v s k f free i. no_room 1 room none (let l = signed_parts k.value k.tails.0 (subst Within k.tails.2 f) in let p = positive k.tails.0 in omega arith))
      (take_by sign_at >>= λ s. sub form.Factor >>= λ y. pure (signed_tree s y)) ts h
      (λ some. let room_is = room_true room some in
      join_law (Picks sign_at) never (λ s. Made IsFactor (signed_tree s)) (carries 2) Free_of_limit Within
      (record {
        apart = λ a s p c w r q free. free_never (c ++ r);
        ends = λ a s p. (x_token ∷ [], signed_tree s x_tree, (x_tree, least form.Factor, refl));
        ends_within = λ a s p f. (x_token ∷ [], signed_tree s x_tree, ((x_tree, least form.Factor, refl), signed_low room_is s x_tree (x_low room room_is)));
        shrinks = λ a s p c w q f. tt;
      }) ts (take_by sign_at ts) (take_limited sign_at Free_of_limit (λ o. tt) never ts) (λ s. sub form.Factor >>= λ y. pure (signed_tree s y))
      (λ used s r p f e. made_limited IsFactor (carries 2) (signed_tree s) (Low room) Within
      (record { grows = λ y k. signed_low room_is s y k; shrinks = λ y k. signed_parts s y k }) r (sub form.Factor r) (below form.Factor r)))

  pub factor_law : (ts : List Token) → Law IsFactor (Limited IsFactor Within) (carries 2) ts (reading.factor room sub ts)
  unfolding reading.factor
  factor_law ts =
      same_law Factors IsFactor Within (carries 2) factor_from factor_to ts _
      (either_law Signed (Then IsPostfix PowerRest) Within (carries 2) (has sign_at)
      (λ a v s k. ap (λ z. sees (has sign_at) (z ++ s)) k.joined ∙ ap (sees (has sign_at)) (append_assoc k.first k.second s) ∙ picks_opens sign_at k.first k.value (k.second ++ s) k.heads)
      (λ a v s k free. ap (λ z. sees (has sign_at) (z ++ s)) k.joined ∙ ap (sees (has sign_at)) (append_assoc k.first k.second s)
      ∙ at_head (begins 1) (has sign_at) false atom_no_sign (k.first ++ (k.second ++ s)) (opens form.Postfix k.first k.value k.heads (k.second ++ s)))
      (reading.signed room sub) (reading.postfix room sub >>= reading.power room sub) ts
      (λ h. signed_law ts h) (λ h. base_law ts))

  -- ---- the law of a rank

  chained : (r : Rank) → Chained (λ _. look_up (operators r)) (reading.fits room sub) operation (λ _. IsOperand r) (carries (looseness_of_operand r)) (carries (looseness_of_rank r)) Within (Low room)
  chained r = record {
    grows = λ o x y f. let p = operation_parts o x y f in (le-leb (height_of_expr x) room p.0, (let q = p.0 in omega arith), p.1);
    room = λ o x y i f k. operation_low o x y (leb-true (height_of_expr x) room i) k;
    some = λ o x i. (x_token ∷ [], x_tree, least (form.Operand r), x_low room (let l = leb-true (height_of_expr x) room i in let p = positive x in omega arith));
    least = λ o. (x_token ∷ [], x_tree, least (form.Operand r));
    own = λ x t o h. rank_own r t o h;
    wider = λ t h. rank_wider r t h;
  }

  operations_law : (r : Rank) (x : Expr) → Within x → (ts : List Token) → Law (Operations r x) (Limited (Operations r x) Within) (carries (looseness_of_rank r)) ts (reading.operations room sub r x ts)
  unfolding reading.operations
  operations_law r x f ts =
      repeat_chain_law (λ _. look_up (operators r)) (reading.fits room sub) operation (λ _. IsOperand r) (carries (looseness_of_operand r)) (carries (looseness_of_rank r)) Within (Low room) (chained r)
      (λ _. sub (form.Operand r)) (λ o y i us. below (form.Operand r) us) (length ts) x ts (omega arith) f

  operations_apart : (r : Rank) (x : Expr) (c : List Token) (w : Expr) (s : List Token) → Operations r x c w → Free (carries (looseness_of_rank r)) s → Free (carries (looseness_of_operand r)) (c ++ s)
  operations_apart r _ _ _ s (stop x) free = wider_at (carries (looseness_of_operand r)) (carries (looseness_of_rank r)) (rank_wider r) s free
  operations_apart r _ _ _ s (more t o x b y c w h q rest) free = (rank_own r t o h).1

  operations_shrink : (r : Rank) (x : Expr) (c : List Token) (w : Expr) → Operations r x c w → Within w → Within x
  operations_shrink r _ _ _ (stop x) f = f
  operations_shrink r _ _ _ (more t o x b y c w h q rest) f = let p = (operation_parts o x y (operations_shrink r (operation o x y) c w rest f)).0 in omega arith

  ranked_law : (r : Rank) (p : Parser Token Expr) → ((ts : List Token) → Law (IsOperand r) (Limited (IsOperand r) Within) (carries (looseness_of_operand r)) ts (p ts))
      → (ts : List Token) → Law (IsRanked r) (Limited (IsRanked r) Within) (carries (looseness_of_rank r)) ts (and_then (p ts) (reading.operations room sub r))
  ranked_law r p law ts =
      same_law (Then (IsOperand r) (Operations r)) (IsRanked r) Within (carries (looseness_of_rank r)) (ranked_from r) (ranked_to r) ts _
      (join_law (IsOperand r) (carries (looseness_of_operand r)) (Operations r) (carries (looseness_of_rank r)) Within Within
      (record {
        apart = λ a x q c w s k free. operations_apart r x c w s k free;
        ends = λ a x q. ([], x, stop x);
        ends_within = λ a x q f. ([], x, (stop x, f));
        shrinks = λ a x q c w k f. operations_shrink r x c w k f;
      }) ts (p ts) (law ts) (reading.operations room sub r) (λ used x q k f e. operations_law r x f q))

  -- an operand of a rank is what the next rank reads
  operand_law : (r next : Rank) → tighter r ≡ Some next → (cont : Token → Bool) (p : Parser Token Expr) → ((ts : List Token) → Law (IsRanked next) (Limited (IsRanked next) Within) cont ts (p ts))
      → (ts : List Token) → Law (IsOperand r) (Limited (IsOperand r) Within) cont ts (p ts)
  operand_law r next h cont p law ts =
      same_law (IsRanked next) (IsOperand r) Within cont (λ a x q. g.ranked r next a x h q) (λ a x q. operand_ranked r a x q next h) ts (p ts) (law ts)

  factor_operand_law : (ts : List Token) → Law (IsOperand rank.Term) (Limited (IsOperand rank.Term) Within) (carries 2) ts (reading.factor room sub ts)
  factor_operand_law ts =
      same_law IsFactor (IsOperand rank.Term) Within (carries 2) (λ a x q. g.factor a x q) (λ a x q. term_operand rank.Term a x q refl) ts _ (factor_law ts)

  term_law : (ts : List Token) → Law (IsRanked rank.Term) (Limited (IsRanked rank.Term) Within) (carries 3) ts (reading.term room sub ts)
  unfolding reading.term
  term_law ts = ranked_law rank.Term (reading.factor room sub) factor_operand_law ts

  sum_law : (ts : List Token) → Law (IsRanked rank.Sum) (Limited (IsRanked rank.Sum) Within) (carries 4) ts (reading.sum room sub ts)
  unfolding reading.sum
  sum_law ts = ranked_law rank.Sum (reading.term room sub) (operand_law rank.Sum rank.Term refl (carries 3) (reading.term room sub) term_law) ts

  shift_law : (ts : List Token) → Law (IsRanked rank.Shift) (Limited (IsRanked rank.Shift) Within) (carries 5) ts (reading.shift room sub ts)
  unfolding reading.shift
  shift_law ts = ranked_law rank.Shift (reading.sum room sub) (operand_law rank.Shift rank.Sum refl (carries 4) (reading.sum room sub) sum_law) ts

  bit_and_law : (ts : List Token) → Law (IsRanked rank.BitAnd) (Limited (IsRanked rank.BitAnd) Within) (carries 6) ts (reading.bit_and room sub ts)
  unfolding reading.bit_and
  bit_and_law ts = ranked_law rank.BitAnd (reading.shift room sub) (operand_law rank.BitAnd rank.Shift refl (carries 5) (reading.shift room sub) shift_law) ts

  bit_xor_law : (ts : List Token) → Law (IsRanked rank.BitXor) (Limited (IsRanked rank.BitXor) Within) (carries 7) ts (reading.bit_xor room sub ts)
  unfolding reading.bit_xor
  bit_xor_law ts = ranked_law rank.BitXor (reading.bit_and room sub) (operand_law rank.BitXor rank.BitAnd refl (carries 6) (reading.bit_and room sub) bit_and_law) ts

  pub bit_or_law : (ts : List Token) → Law (IsRanked rank.BitOr) (Limited (IsRanked rank.BitOr) Within) (carries 8) ts (reading.bit_or room sub ts)
  unfolding reading.bit_or
  bit_or_law ts = ranked_law rank.BitOr (reading.bit_xor room sub) (operand_law rank.BitOr rank.BitXor refl (carries 7) (reading.bit_xor room sub) bit_xor_law) ts

  pub rank_law : (r : Rank) (ts : List Token) → Law (IsRanked r) (Limited (IsRanked r) Within) (carries (looseness_of_rank r)) ts (reading.ranked room sub r ts)
  rank_law rank.Term ts = term_law ts
  rank_law rank.Sum ts = sum_law ts
  rank_law rank.Shift ts = shift_law ts
  rank_law rank.BitAnd ts = bit_and_law ts
  rank_law rank.BitXor ts = bit_xor_law ts
  rank_law rank.BitOr ts = bit_or_law ts

  pub rank_operand_law : (r : Rank) (ts : List Token) → Law (IsOperand r) (Limited (IsOperand r) Within) (carries (looseness_of_operand r)) ts (reading.operand room sub r ts)
  rank_operand_law rank.Term ts = factor_operand_law ts
  rank_operand_law rank.Sum ts = operand_law rank.Sum rank.Term refl (carries 3) (reading.term room sub) term_law ts
  rank_operand_law rank.Shift ts = operand_law rank.Shift rank.Sum refl (carries 4) (reading.sum room sub) sum_law ts
  rank_operand_law rank.BitAnd ts = operand_law rank.BitAnd rank.Shift refl (carries 5) (reading.shift room sub) shift_law ts
  rank_operand_law rank.BitXor ts = operand_law rank.BitXor rank.BitAnd refl (carries 6) (reading.bit_and room sub) bit_and_law ts
  rank_operand_law rank.BitOr ts = operand_law rank.BitOr rank.BitXor refl (carries 7) (reading.bit_xor room sub) bit_xor_law ts
