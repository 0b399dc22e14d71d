-- The law of statements, at every height.
use Rattle.std.proofs.Common.{◌≡◌, ℕ, zero, suc, ◌-◌, ◌≤◌, nat_le, Bool, true, false, List, [], ◌∷◌, ◌++◌, refl, sym, ◌∙◌, ap, subst, inl, inr, arith}
use Rattle.std.proofs.lemmas.List.{append-nil}
use Rattle.std.proofs.lemmas.Bool.{leb-true, le-leb}
use Rattle.indent_lexer.specs.declared.token.Token.{Token}
use Rattle.source_trees.specs.declared.statement.For.{For}
use Rattle.source_trees.specs.declared.statement.Stmt.{Stmt}
use Rattle.source_trees.specs.declared.statement.Stmt.TheVariants as stmt
use Rattle.parse_laws.specs.Parser.{Parser, sees, pure, choose, within, ◌>>=◌}
use Rattle.parse_laws.specs.Language.{Language, Free, Law}
use Rattle.parse_laws.specs.Forms.{Made, Either}
use Rattle.parse_laws.specs.Limits.{Limited}
use Rattle.parse_laws.proofs.Forms.{rename_law}
use Rattle.parse_laws.proofs.Limits.{same_law, made_limited, either_law, limit_law}
use Rattle.parse_laws.proofs.Repeats.{at_head}
use Rattle.grammar_rules.specs.Statements as g
use Rattle.grammar_rules.specs.Statements.{IsLine, IsStmt, IsStmts, IsBlock, IsFor, no_options}
use Rattle.grammar_rules.specs.Words.{node_at}
use Rattle.parse_expressions.specs.Reading.{is_if, is_for}
use Rattle.parse_expressions.proofs.Lows.{positive}
use Rattle.parse_statements.specs.Lines.{starts_simple, line}
use Rattle.parse_statements.specs.Readers.{Readers, Exact, LowStmts}
use Rattle.parse_statements.proofs.Lines.{line_law}
use Rattle.parse_blocks.specs.Blocks as reading
use Rattle.parse_blocks.specs.Blocks.{is_while, is_at, starts_stmt, stmt_on, stmts_on, Level}
use Rattle.parse_blocks.proofs.BlockLaw.{line_opens, StmtLaw, any_conditioned, stmts_law, block_law}
use Rattle.parse_blocks.proofs.Compounds.{BranchOf, BranchRest, branch_ends, branch_fits, RepeatOf, RepeatRest, repeat_ends, repeat_fits, for_opens, for_text, least_for, least_for_tree, ParOf, par_tree, par_text, least_par, for_token, branch_law, repetition_law, for_law, parallel_law}
use Rattle.parse_blocks.proofs.Heights.{LowBody, LowFor, low_for, loop_height, par_height, stmts_body, body_stmts}
use Rattle.parse_blocks.proofs.Marks.{simple_no_if, simple_no_while, simple_no_for, simple_no_at, simple_stmt, if_stmt, while_stmt, for_stmt, at_stmt, while_no_if, for_no_if, for_no_while, at_no_if, at_no_while, at_no_for}

-- ---- a statement by its first token

abbrev EachOf : Language Token (List Stmt)
EachOf = Made IsFor (λ f. stmt.For f ∷ [])

abbrev FromAt : Language Token (List Stmt)
FromAt = Either ParOf IsLine

abbrev FromFor : Language Token (List Stmt)
FromFor = Either EachOf FromAt

abbrev FromWhile : Language Token (List Stmt)
FromWhile = Either RepeatOf FromFor

abbrev StmtOf : Language Token (List Stmt)
StmtOf = Either BranchOf FromWhile

stmt_here : (a b : List Token) (w v : List Stmt) → a ≡ b → w ≡ v → IsStmt b v → IsStmt a w
stmt_here a b w v e f p =
    let P : List Token → Type 0 = λ z. IsStmt z w in
    let Q : List Stmt → Type 0 = λ z. IsStmt b z in
    subst P (sym e) (subst Q (sym f) p)

branch_up : (a : List Token) (w : List Stmt) → BranchOf a w → IsStmt a w
branch_up a w k =
    let f = k.4 in
    let m = f.tails in
    let q = m.tails in
    let o = q.tails in
    stmt_here a (k.0 ∷ (f.first ++ (m.first ++ (q.first ++ q.second)))) w _
    (k.2 ∙ ap (λ z. k.0 ∷ z) (f.joined ∙ ap (λ z. f.first ++ z) (m.joined ∙ ap (λ z. m.first ++ z) q.joined))) o.2
    (g.branch k.0 f.first f.value m.first m.value q.first q.value q.second o.0 k.3 f.heads m.heads q.heads o.1)

repeat_up : (a : List Token) (w : List Stmt) → RepeatOf a w → IsStmt a w
repeat_up a w k =
    let f = k.4 in
    let m = f.tails in
    stmt_here a (k.0 ∷ (f.first ++ m.first)) w _
    (k.2 ∙ ap (λ z. k.0 ∷ z) (f.joined ∙ ap (λ z. f.first ++ z) (m.joined ∙ ap (λ z. m.first ++ z) m.tails.0 ∙ append-nil m.first))) m.tails.1
    (g.while k.0 f.first f.value m.first m.value k.3 f.heads m.heads)

par_up : (a : List Token) (w : List Stmt) → ParOf a w → IsStmt a w
par_up a w k =
    let l = k.4 in
    let o = l.4 in
    let m = o.tails in
    let f = m.4 in
    stmt_here a (k.0 ∷ l.0 ∷ (o.first ++ m.0 ∷ m.1)) w _
    (k.2 ∙ ap (λ z. k.0 ∷ z) (l.2 ∙ ap (λ z. l.0 ∷ z) (o.joined ∙ ap (λ z. o.first ++ z) m.2))) f.2
    (g.par k.0 l.0 o.first o.value m.0 m.1 f.0 k.3 l.3 o.heads m.3 f.1)

stmt_up : (a : List Token) (w : List Stmt) → StmtOf a w → IsStmt a w
stmt_up a w (inl k) = branch_up a w k
stmt_up a w (inr (inl k)) = repeat_up a w k
stmt_up a w (inr (inr (inl k))) = stmt_here a a w _ refl k.2 (g.for a k.0 k.1)
stmt_up a w (inr (inr (inr (inl k)))) = par_up a w k
stmt_up a w (inr (inr (inr (inr k)))) = g.line a w k

stmt_down : (a : List Token) (w : List Stmt) → IsStmt a w → StmtOf a w
stmt_down _ _ (g.line a w p) = inr (inr (inr (inr p)))
stmt_down _ _ (g.branch t a x b body c arms d other h p q k l) =
    inl (
      t,
      a ++ (b ++ (c ++ d)),
      refl,
      h,
      record {
        first = a;
        second = b ++ (c ++ d);
        value = x;
        joined = refl;
        heads = p;
        tails = record { first = b; second = c ++ d; value = body; joined = refl; heads = q; tails = record { first = c; second = d; value = arms; joined = refl; heads = k; tails = (other, l, refl) } };
      },
    )
stmt_down _ _ (g.while t a x b body h p q) =
    inr (inl (
      t,
      a ++ b,
      refl,
      h,
      record { first = a; second = b; value = x; joined = refl; heads = p; tails = record { first = b; second = []; value = body; joined = sym (append-nil b); heads = q; tails = (refl, refl) } },
    ))
stmt_down _ _ (g.for a loop p) = inr (inr (inl (loop, p, refl)))
stmt_down _ _ (g.par u t a o v b loop h i p j q) =
    inr (inr (inr (inl (
      u,
      t ∷ (a ++ v ∷ b),
      refl,
      h,
      (t, a ++ v ∷ b, refl, i, record { first = a; second = v ∷ b; value = o; joined = refl; heads = p; tails = (v, b, refl, j, (loop, q, refl)) }),
    ))))

-- ---- what stands first

branch_first : (a : List Token) (w : List Stmt) (s : List Token) → BranchOf a w → sees is_if (a ++ s) ≡ true
branch_first a w s k = ap (λ z. sees is_if (z ++ s)) k.2 ∙ k.3

repeat_first : (a : List Token) (w : List Stmt) (s : List Token) → RepeatOf a w → sees is_while (a ++ s) ≡ true
repeat_first a w s k = ap (λ z. sees is_while (z ++ s)) k.2 ∙ k.3

each_first : (a : List Token) (w : List Stmt) (s : List Token) → EachOf a w → sees is_for (a ++ s) ≡ true
each_first a w s k = for_opens a k.0 s k.1

par_first : (a : List Token) (w : List Stmt) (s : List Token) → ParOf a w → sees is_at (a ++ s) ≡ true
par_first a w s k = ap (λ z. sees is_at (z ++ s)) k.2 ∙ k.3

-- ---- what is too high

branch_high : (n : ℕ) (a : List Token) (w : List Stmt) → BranchOf a w → LowBody n w → 2 ≤ n
branch_high n a w k f =
    let c = k.4 in
    let b = c.tails in
    let l = (branch_fits n k.0 c.value b.value b.second w b.tails f).0 in
    let p = positive c.value in
    omega arith

repeat_high : (n : ℕ) (a : List Token) (w : List Stmt) → RepeatOf a w → LowBody n w → 2 ≤ n
repeat_high n a w k f =
    let c = k.4 in
    let b = c.tails in
    let l = (repeat_fits n k.0 c.value b.value b.second w b.tails f).0 in
    let p = positive c.value in
    omega arith

loop_high : (n : ℕ) (f : For) → LowFor n f → 2 ≤ n
loop_high n f l = let k = (low_for n f l).0 in let p = positive f.iterable in omega arith

each_low : (n : ℕ) (f : For) (w : List Stmt) → w ≡ stmt.For f ∷ [] → LowBody n w → LowFor n f
each_low n f w e l = let P : List Stmt → Type 0 = λ z. LowBody n z in let k = (subst P e l).0 in let h = loop_height f in omega arith

each_high : (n : ℕ) (a : List Token) (w : List Stmt) → EachOf a w → LowBody n w → 2 ≤ n
each_high n a w k l = loop_high n k.0 (each_low n k.0 w k.2 l)

par_high : (n : ℕ) (a : List Token) (w : List Stmt) → ParOf a w → LowBody n w → 3 ≤ n
par_high n a w k l =
    let o = k.4.4 in
    let f = o.tails.4 in
    let P : List Stmt → Type 0 = λ z. LowBody n z in
    let q = (subst P f.2 l).0 in
    let h = par_height (node_at k.0) o.value f.0 in
    let b : LowFor (n - 1) f.0 = omega arith in
    let c = loop_high (n - 1) f.0 b in
    omega arith

module _ (r : Readers) (exact : Exact r) where
  pub stmt_opens : (a : List Token) (w : List Stmt) (s : List Token) → IsStmt a w → sees starts_stmt (a ++ s) ≡ true
  stmt_opens _ _ s (g.line a w p) = at_head starts_simple starts_stmt true simple_stmt (a ++ s) (line_opens r exact a w s p)
  stmt_opens _ _ s (g.branch t a x b body c arms d other h p q k l) = if_stmt t h
  stmt_opens _ _ s (g.while t a x b body h p q) = while_stmt t h
  stmt_opens _ _ s (g.for a loop p) = at_head is_for starts_stmt true for_stmt (a ++ s) (for_opens a loop s p)
  stmt_opens _ _ s (g.par u t a o v b loop h i p j q) = at_stmt u h

  no_if : (a : List Token) (w : List Stmt) (s : List Token) → FromWhile a w → Free stmt_on s → sees is_if (a ++ s) ≡ false
  no_if a w s (inl k) free = at_head is_while is_if false while_no_if (a ++ s) (repeat_first a w s k)
  no_if a w s (inr (inl k)) free = at_head is_for is_if false for_no_if (a ++ s) (each_first a w s k)
  no_if a w s (inr (inr (inl k))) free = at_head is_at is_if false at_no_if (a ++ s) (par_first a w s k)
  no_if a w s (inr (inr (inr k))) free = at_head starts_simple is_if false simple_no_if (a ++ s) (line_opens r exact a w s k)

  no_while : (a : List Token) (w : List Stmt) (s : List Token) → FromFor a w → Free stmt_on s → sees is_while (a ++ s) ≡ false
  no_while a w s (inl k) free = at_head is_for is_while false for_no_while (a ++ s) (each_first a w s k)
  no_while a w s (inr (inl k)) free = at_head is_at is_while false at_no_while (a ++ s) (par_first a w s k)
  no_while a w s (inr (inr k)) free = at_head starts_simple is_while false simple_no_while (a ++ s) (line_opens r exact a w s k)

  no_for : (a : List Token) (w : List Stmt) (s : List Token) → FromAt a w → Free stmt_on s → sees is_for (a ++ s) ≡ false
  no_for a w s (inl k) free = at_head is_at is_for false at_no_for (a ++ s) (par_first a w s k)
  no_for a w s (inr k) free = at_head starts_simple is_for false simple_no_for (a ++ s) (line_opens r exact a w s k)

  no_at : (a : List Token) (w : List Stmt) (s : List Token) → IsLine a w → Free stmt_on s → sees is_at (a ++ s) ≡ false
  no_at a w s k free = at_head starts_simple is_at false simple_no_at (a ++ s) (line_opens r exact a w s k)

  abbrev LoopLaw : ℕ → Parser Token For → Type 0
  LoopLaw n p = (ts : List Token) → Law IsFor (Limited IsFor (LowFor n)) stmt_on ts (p ts)

  module _ (n : ℕ) (some : 1 ≤ n) (below : Level) (stmt_below : 1 ≤ n - 1 → StmtLaw (n - 1) below.stmt) (loop_below : 2 ≤ n - 1 → LoopLaw (n - 1) below.loop) where
    if_law : (ts : List Token) → sees is_if ts ≡ true → Law BranchOf (Limited BranchOf (LowBody n)) stmt_on ts (within (nat_le 2 n) (reading.branch r n below.stmt) ts)
    if_law ts h =
        limit_law BranchOf (LowBody n) stmt_on is_if (nat_le 2 n)
        (λ t i. let k = any_conditioned (BranchRest t) (branch_ends t) in (k.0, k.1, (t, k.0, refl, i, k.2)))
        (λ full a w s k f free i. let m = le-leb 2 n (branch_high n a w k f) in absurd (cc))
        (reading.branch r n below.stmt) ts h
        (λ room. let two = leb-true 2 n room in branch_law r exact stmt_opens n two below.stmt (stmt_below (omega arith)) ts)

    while_law : (ts : List Token) → sees is_while ts ≡ true → Law RepeatOf (Limited RepeatOf (LowBody n)) stmt_on ts (within (nat_le 2 n) (reading.repetition r n below.stmt) ts)
    while_law ts h =
        limit_law RepeatOf (LowBody n) stmt_on is_while (nat_le 2 n)
        (λ t i. let k = any_conditioned (RepeatRest t) (repeat_ends t) in (k.0, k.1, (t, k.0, refl, i, k.2)))
        (λ full a w s k f free i. let m = le-leb 2 n (repeat_high n a w k f) in absurd (cc))
        (reading.repetition r n below.stmt) ts h
        (λ room. let two = leb-true 2 n room in repetition_law r exact stmt_opens n two below.stmt (stmt_below (omega arith)) ts)

    each_law : (ts : List Token) → sees is_for ts ≡ true → Law EachOf (Limited EachOf (LowBody n)) stmt_on ts (within (nat_le 2 n) (reading.for_loop r n below.stmt >>= λ f. pure (stmt.For f ∷ [])) ts)
    each_law ts h =
        limit_law EachOf (LowBody n) stmt_on is_for (nat_le 2 n)
        (λ t i. (for_text, stmt.For (least_for_tree t) ∷ [], (least_for_tree t, least_for t i, refl)))
        (λ full a w s k f free i. let m = le-leb 2 n (each_high n a w k f) in absurd (cc))
        (reading.for_loop r n below.stmt >>= λ f. pure (stmt.For f ∷ [])) ts h
        (λ room. let two = leb-true 2 n room in
        made_limited IsFor stmt_on (λ f. stmt.For f ∷ []) (LowFor n) (LowBody n)
        (record { grows = λ f l. (let k = loop_height f in omega arith, tt); shrinks = λ f l. each_low n f (stmt.For f ∷ []) refl l })
        ts (reading.for_loop r n below.stmt ts) (for_law r exact stmt_opens n two below.stmt (stmt_below (omega arith)) stmt_on ts))

    par_law : (ts : List Token) → sees is_at ts ≡ true → Law ParOf (Limited ParOf (LowBody n)) stmt_on ts (within (nat_le 3 n) (reading.parallel below.loop) ts)
    par_law ts h =
        limit_law ParOf (LowBody n) stmt_on is_at (nat_le 3 n)
        (λ t i. (par_text, par_tree t no_options (least_for_tree for_token), (t, par_text, refl, i, least_par t)))
        (λ full a w s k f free i. let m = le-leb 3 n (par_high n a w k f) in absurd (cc))
        (reading.parallel below.loop) ts h
        (λ room. let three = leb-true 3 n room in parallel_law n three below.loop (loop_below (omega arith)) ts)

    abbrev from_at : Parser Token (List Stmt)
    from_at = choose is_at (within (nat_le 3 n) (reading.parallel below.loop)) (line r n)

    abbrev each : Parser Token (List Stmt)
    each = within (nat_le 2 n) (reading.for_loop r n below.stmt >>= λ f. pure (stmt.For f ∷ []))

    abbrev from_for : Parser Token (List Stmt)
    from_for = choose is_for each from_at

    abbrev from_while : Parser Token (List Stmt)
    from_while = choose is_while (within (nat_le 2 n) (reading.repetition r n below.stmt)) from_for

    pub by_law : StmtLaw n (reading.statement_by r n below)
    unfolding reading.statement_by
    by_law ts =
        same_law StmtOf IsStmt (LowBody n) stmt_on stmt_up stmt_down ts _
        (either_law BranchOf FromWhile (LowBody n) stmt_on is_if branch_first no_if (within (nat_le 2 n) (reading.branch r n below.stmt)) from_while ts (if_law ts)
        (λ h. either_law RepeatOf FromFor (LowBody n) stmt_on is_while repeat_first no_while (within (nat_le 2 n) (reading.repetition r n below.stmt)) from_for ts (while_law ts)
        (λ h. either_law EachOf FromAt (LowBody n) stmt_on is_for each_first no_for each from_at ts (each_law ts)
        (λ h. either_law ParOf IsLine (LowBody n) stmt_on is_at par_first no_at (within (nat_le 3 n) (reading.parallel below.loop)) (line r n) ts (par_law ts)
        (λ h. line_law r exact n some stmt_on ts)))))

  abbrev LevelLaw : ℕ → Type 0
  LevelLaw n = (1 ≤ n → StmtLaw n (reading.level r n).stmt) × (2 ≤ n → LoopLaw n (reading.level r n).loop)

  level_law : (n : ℕ) → LevelLaw n
  unfolding reading.level
  level_law zero = (λ h. absurd (omega arith), λ h. absurd (omega arith))
  level_law (suc n) =
      let k = level_law n in
      let below : n ≡ suc n - 1 = omega arith in
      let P : ℕ → Type 0 = λ z. 1 ≤ z → StmtLaw z (reading.level r n).stmt in
      let Q : ℕ → Type 0 = λ z. 2 ≤ z → LoopLaw z (reading.level r n).loop in
      let p = subst P below k.0 in
      let q = subst Q below k.1 in (
        (λ h. by_law (suc n) h (reading.level r n) p q),
        (λ h. for_law r exact stmt_opens (suc n) h (reading.level r n).stmt (p (omega arith)) stmt_on),
      )

  pub statement_law : (n : ℕ) → 1 ≤ n → StmtLaw n (reading.statement r n)
  unfolding reading.statement
  statement_law n some = (level_law n).0 some

  pub statements_law : (n : ℕ) → 1 ≤ n → (ts : List Token) → Law IsStmts (Limited IsStmts (LowBody n)) stmts_on ts (reading.stmts r n ts)
  unfolding reading.stmts
  statements_law n some ts = stmts_law r exact stmt_opens n some (reading.statement r n) (statement_law n some) ts

  pub whole_block_law : (n : ℕ) → 1 ≤ n → (cont : Token → Bool) (ts : List Token) → Law IsBlock (Limited IsBlock (LowBody n)) cont ts (reading.block r n ts)
  unfolding reading.block
  whole_block_law n some cont ts = block_law r exact stmt_opens n some (reading.statement r n) (statement_law n some) cont ts

-- ---- the same in the words of the contract

low_stmts : (G : Language Token (List Stmt)) (n : ℕ) (cont : Token → Bool) (ts : List Token) (p : Parser Token (List Stmt))
    → Law G (Limited G (LowBody n)) cont ts (p ts) → Law G (Limited G (LowStmts n)) cont ts (p ts)
low_stmts G n cont ts p l =
    rename_law G (Limited G (LowBody n)) G (Limited G (LowStmts n)) cont (λ a w k. k) (λ a w k. (k.0, body_stmts n w k.1)) (λ a w k. k) (λ a w k. (k.0, stmts_body n w k.1)) ts (p ts) l

pub law_statement : (r : Readers) → Exact r → (n : ℕ) → 1 ≤ n → (ts : List Token) → Law IsStmt (Limited IsStmt (LowStmts n)) stmt_on ts (reading.statement r n ts)
law_statement r exact n some ts = low_stmts IsStmt n stmt_on ts (reading.statement r n) (statement_law r exact n some ts)

pub law_stmts : (r : Readers) → Exact r → (n : ℕ) → 1 ≤ n → (ts : List Token) → Law IsStmts (Limited IsStmts (LowStmts n)) stmts_on ts (reading.stmts r n ts)
law_stmts r exact n some ts = low_stmts IsStmts n stmts_on ts (reading.stmts r n) (statements_law r exact n some ts)

pub law_block : (r : Readers) → Exact r → (n : ℕ) → 1 ≤ n → (cont : Token → Bool) (ts : List Token) → Law IsBlock (Limited IsBlock (LowStmts n)) cont ts (reading.block r n ts)
law_block r exact n some cont ts = low_stmts IsBlock n cont ts (reading.block r n) (whole_block_law r exact n some cont ts)
