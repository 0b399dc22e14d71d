-- The law of blocks, and of a condition and its block.
use Rattle.std.proofs.Common.{◌≡◌, ℕ, ◌≤◌, Bool, true, false, not, List, [], ◌∷◌, ◌++◌, refl, sym, ◌∙◌, ap, subst, append_assoc, inl, inr, codes, arith}
use Rattle.std.proofs.lemmas.List.{append-nil}
use Rattle.indent_lexer.specs.declared.token.Token.{Token}
use Rattle.indent_lexer.specs.declared.token.TokenKind.TheVariants as kind
use Rattle.source_trees.specs.declared.expression.Expr.{Expr}
use Rattle.source_trees.specs.declared.statement.Stmt.{Stmt}
use Rattle.source_trees.specs.declared.statement.Stmt.TheVariants as stmt
use Rattle.source_trees.specs.Heights.{over_parts}
use Rattle.parse_laws.specs.Parser.{Parser, and_then, sees, pure, choose, expect, ◌>>=◌, ◌>>◌}
use Rattle.parse_laws.specs.Language.{Language, Free, Viable, Law}
use Rattle.parse_laws.specs.Forms.{Then, Opens, Closes, Either, never}
use Rattle.parse_laws.specs.Limits.{Limited}
use Rattle.parse_laws.specs.Loops.{Listed, last, trailing, another}
use Rattle.parse_laws.proofs.Forms.{free_never}
use Rattle.parse_laws.proofs.Limits.{same_law, join_law, open_limited, close_limited, either_law}
use Rattle.parse_laws.proofs.Repeats.{at_head}
use Rattle.grammar_rules.specs.Expressions.{IsExpr}
use Rattle.grammar_rules.specs.Simple.{IsSimple, pass}
use Rattle.grammar_rules.specs.Statements.{IsLine, IsStmt, IsBlock, same_line, indented as indented_block, IsStmts, line as line_stmt, last_stmt, another_stmt}
use Rattle.grammar_rules.specs.Words.{is_newline, is_indent, is_dedent, node_at}
use Rattle.parse_expressions.specs.Forms.{Low}
use Rattle.parse_expressions.specs.declared.form.Form.TheVariants as form
use Rattle.parse_expressions.proofs.Least.{least}
use Rattle.parse_expressions.proofs.Lows.{x_low}
use Rattle.parse_expressions.proofs.Opens.{sample, x_token, x_tree, op_token, keyword_token}
use Rattle.parse_statements.specs.Lines.{is_semicolon, starts_simple, line}
use Rattle.parse_statements.specs.Readers.{Readers, Exact, LowStmt, expr_on}
use Rattle.parse_statements.specs.Simple.{is_colon}
use Rattle.parse_statements.proofs.Heights.{stmt_Pass}
use Rattle.parse_statements.proofs.Lines.{simple_opens, line_law}
use Rattle.parse_statements.proofs.Many.{Follows}
use Rattle.parse_blocks.specs.Blocks as reading
use Rattle.parse_blocks.specs.Blocks.{starts_stmt, stmt_on, stmts_on}
use Rattle.parse_blocks.specs.Gather.{Gathered, none, more, gather}
use Rattle.parse_blocks.proofs.Gather.{fit_parts, fit_joined, Onto, gathered_apart, gather_law}
use Rattle.parse_blocks.proofs.Heights.{LowBody}
use Rattle.parse_blocks.proofs.Marks.{simple_no_newline, stmt_own, stmt_wider, stmt_next, colon_expr}

-- ---- the least block

abbrev pub pass_token : Token
pass_token = keyword_token (codes "pass")

abbrev pub colon_token : Token
colon_token = op_token (codes ":")

abbrev pub newline_token : Token
newline_token = sample kind.Newline

abbrev pub indent_token : Token
indent_token = sample kind.Indent

abbrev pub dedent_token : Token
dedent_token = sample kind.Dedent

abbrev pub pass_tree : Stmt
pass_tree = stmt.Pass (node_at pass_token)

abbrev pub pass_line : List Token
pass_line = pass_token ∷ newline_token ∷ []

pub least_line : IsLine pass_line (pass_tree ∷ [])
least_line = (pass_token ∷ [], (pass_tree ∷ [], false), newline_token, refl, last (pass_token ∷ []) pass_tree (pass pass_token refl), refl, refl)

abbrev pub pass_block : List Token
pass_block = colon_token ∷ pass_line

pub least_block : IsBlock pass_block (pass_tree ∷ [])
least_block = same_line colon_token pass_line (pass_tree ∷ []) refl least_line

pub pass_low : (n : ℕ) → 1 ≤ n → LowBody n (pass_tree ∷ [])
pass_low n some = (let k = stmt_Pass over_parts (node_at pass_token) in omega arith, tt)

-- ---- what begins a block

pub block_opens : (a : List Token) (w : List Stmt) (s : List Token) → IsBlock a w → sees is_colon (a ++ s) ≡ true
block_opens _ _ s (same_line t a w h p) = h
block_opens _ _ s (indented_block t u v a w d h i j p k) = h

-- ---- statements one after the other

abbrev All : Language Token (List Stmt)
All = Then IsStmt (λ ys. Onto IsStmt (LowStmt 0) ys)

gathered_stmts : (a : List Token) (body : List Stmt) → IsStmt a body → (c : List Token) (zs : List Stmt) → Gathered IsStmt c zs → IsStmts (a ++ c) (body ++ zs)
gathered_stmts a body p _ _ none =
    let P : List Token → Type 0 = λ z. IsStmts z (body ++ []) in
    let Q : List Stmt → Type 0 = λ z. IsStmts a z in
    subst P (sym (append-nil a)) (subst Q (sym (append-nil body)) (last_stmt a body p))
gathered_stmts a body p _ _ (more b ys c zs q rest) = another_stmt a body (b ++ c) (ys ++ zs) p (gathered_stmts b ys q c zs rest)

stmts_gathered : (a : List Token) (w : List Stmt) → IsStmts a w → Gathered IsStmt a w
stmts_gathered _ _ (last_stmt a body p) =
    let P : List Token → Type 0 = λ z. Gathered IsStmt z body in
    let Q : List Stmt → Type 0 = λ z. Gathered IsStmt (a ++ []) z in
    subst P (append-nil a) (subst Q (append-nil body) (more a body [] [] p none))
stmts_gathered _ _ (another_stmt a body b rest p q) = more a body b rest p (stmts_gathered b rest q)

all_up : (a : List Token) (w : List Stmt) → All a w → IsStmts a w
all_up a w g =
    let P : List Token → Type 0 = λ z. IsStmts z w in
    let Q : List Stmt → Type 0 = λ z. IsStmts (g.first ++ g.second) z in
    subst P (sym g.joined) (subst Q (sym g.tails.2) (gathered_stmts g.first g.value g.heads g.second g.tails.0 g.tails.1))

all_down : (a : List Token) (w : List Stmt) → IsStmts a w → All a w
all_down _ _ (last_stmt a body p) = record { first = a; second = []; value = body; joined = sym (append-nil a); heads = p; tails = ([], none, sym (append-nil body)) }
all_down _ _ (another_stmt a body b rest p q) = record { first = a; second = b; value = body; joined = refl; heads = p; tails = (rest, stmts_gathered b rest q, refl) }

abbrev pub Indented : Language Token (List Stmt)
Indented = Opens is_newline (λ _. Opens is_indent (λ _. Closes IsStmts is_dedent (λ body. body)))

abbrev pub BlockOf : Language Token (List Stmt)
BlockOf = Opens is_colon (λ _. Either Indented IsLine)

block_up : (a : List Token) (w : List Stmt) → BlockOf a w → IsBlock a w
block_up a w g =
    let P : List Token → Type 0 = λ z. IsBlock z w in
    elim g.4 as (λ _. IsBlock a w) [
      | inl k ↦
          let l = k.4 in
          let m = l.4 in
          let Q : List Stmt → Type 0 = λ z. IsBlock (g.0 ∷ k.0 ∷ l.0 ∷ (m.0 ++ m.2 ∷ [])) z in
          subst P (sym (g.2 ∙ ap (λ z. g.0 ∷ z) (k.2 ∙ ap (λ z. k.0 ∷ z) (l.2 ∙ ap (λ z. l.0 ∷ z) m.3))))
          (subst Q (sym m.6) (indented_block g.0 k.0 l.0 m.0 m.1 m.2 g.3 k.3 l.3 m.4 m.5))
      | inr k ↦ subst P (sym g.2) (same_line g.0 g.1 w g.3 k)
    ]

block_down : (a : List Token) (w : List Stmt) → IsBlock a w → BlockOf a w
block_down _ _ (same_line t a w h p) = (t, a, refl, h, inr p)
block_down _ _ (indented_block t u v a w d h i j p k) = (t, u ∷ v ∷ (a ++ d ∷ []), refl, h, inl (u, v ∷ (a ++ d ∷ []), refl, i, (v, a ++ d ∷ [], refl, j, (a, w, d, refl, p, k, refl))))

-- a condition, a block and what follows
pub any_conditioned : {A : Type 0} (Rest : Expr → List Stmt → Language Token A) → ((x : Expr) (body : List Stmt) → Viable (Rest x body) []) → Viable (Then IsExpr (λ x. Then IsBlock (Rest x))) []
any_conditioned Rest ends =
    let k = ends x_tree (pass_tree ∷ []) in (
      x_token ∷ (pass_block ++ k.0),
      k.1,
      record {
        first = x_token ∷ [];
        second = pass_block ++ k.0;
        value = x_tree;
        joined = refl;
        heads = least form.Whole;
        tails = record { first = pass_block; second = k.0; value = pass_tree ∷ []; joined = refl; heads = least_block; tails = k.2 };
      },
    )

-- the law of a parser of statements of this height
abbrev pub StmtLaw : ℕ → Parser Token (List Stmt) → Type 0
StmtLaw n p = (ts : List Token) → Law IsStmt (Limited IsStmt (LowBody n)) stmt_on ts (p ts)

module _ (r : Readers) (exact : Exact r) where
  row_opens : (a : List Token) (w : List Stmt × Bool) (s : List Token) → Listed is_semicolon IsSimple a w → sees starts_simple (a ++ s) ≡ true
  row_opens _ _ s (last a y p) = simple_opens r exact a y s p
  row_opens _ _ s (trailing a y t p h) = ap (sees starts_simple) (append_assoc a (t ∷ []) s) ∙ simple_opens r exact a y ((t ∷ []) ++ s) p
  row_opens _ _ s (another a y t b ys rest p h q) = ap (sees starts_simple) (append_assoc a (t ∷ b) s) ∙ simple_opens r exact a y ((t ∷ b) ++ s) p

  pub line_opens : (a : List Token) (w : List Stmt) (s : List Token) → IsLine a w → sees starts_simple (a ++ s) ≡ true
  line_opens a w s g =
      ap (λ z. sees starts_simple (z ++ s)) g.3 ∙ ap (sees starts_simple) (append_assoc g.0 (g.2 ∷ []) s) ∙ row_opens g.0 g.1 ((g.2 ∷ []) ++ s) g.4

  line_no_newline : (a : List Token) (w : List Stmt) (s : List Token) → IsLine a w → sees is_newline (a ++ s) ≡ false
  line_no_newline a w s g = at_head starts_simple is_newline false simple_no_newline (a ++ s) (line_opens a w s g)

  module _ (opens : (a : List Token) (w : List Stmt) (s : List Token) → IsStmt a w → sees starts_stmt (a ++ s) ≡ true) where
    pub stmt_follows : Follows IsStmt starts_stmt stmt_on stmts_on
    stmt_follows = record { opens = opens; own = stmt_own; wider = stmt_wider; next = stmt_next }

    module _ (n : ℕ) (some : 1 ≤ n) (sub : Parser Token (List Stmt)) (sub_law : StmtLaw n sub) where
      pub stmts_law : (ts : List Token) → Law IsStmts (Limited IsStmts (LowBody n)) stmts_on ts (reading.stmts_by sub ts)
      unfolding reading.stmts_by
      stmts_law ts =
          same_law All IsStmts (LowBody n) stmts_on all_up all_down ts _
          (join_law IsStmt stmt_on (λ ys. Onto IsStmt (LowStmt 0) ys) stmts_on (LowBody n) (LowBody n)
          (record {
            apart = λ a ys p c w s h free. gathered_apart IsStmt (LowStmt 0) starts_stmt stmt_on stmts_on stmt_follows c h.0 s h.1 free;
            ends = λ a ys p. ([], ys ++ [], ([], none, refl));
            ends_within = λ a ys p f. ([], ys ++ [], (([], none, refl), fit_joined (LowStmt n) ys [] f tt));
            shrinks = λ a ys p c w h f. let P : List Stmt → Type 0 = λ z. LowBody n z in (fit_parts (LowStmt n) ys h.0 (subst P h.2 f)).0;
          }) ts (sub ts) (sub_law ts) (λ ys. gather starts_stmt sub ys)
          (λ used ys us p f e. gather_law IsStmt (LowStmt n) starts_stmt stmt_on stmts_on stmt_follows sub (λ vs h. sub_law vs) ys f us))

      indented_law : (cont : Token → Bool) (ts : List Token) → Law Indented (Limited Indented (LowBody n)) cont ts (reading.indented sub ts)
      unfolding reading.indented
      indented_law cont ts =
          let least : IsStmts pass_line (pass_tree ∷ []) = last_stmt pass_line (pass_tree ∷ []) (line_stmt pass_line (pass_tree ∷ []) least_line) in
          let ending : Closes IsStmts is_dedent (λ body. body) (pass_line ++ dedent_token ∷ []) (pass_tree ∷ []) = (pass_line, pass_tree ∷ [], dedent_token, refl, least, refl, refl) in
          open_limited is_newline (λ _. Opens is_indent (λ _. Closes IsStmts is_dedent (λ body. body))) (LowBody n) cont
          (λ t h. (indent_token ∷ (pass_line ++ dedent_token ∷ []), pass_tree ∷ [], ((indent_token, pass_line ++ dedent_token ∷ [], refl, refl, ending), pass_low n some)))
          ts _
          (λ t us h e. open_limited is_indent (λ _. Closes IsStmts is_dedent (λ body. body)) (LowBody n) cont
          (λ u i. (pass_line ++ dedent_token ∷ [], pass_tree ∷ [], (ending, pass_low n some)))
          us (λ _. reading.stmts_by sub >>= λ body. expect is_dedent >> pure body)
          (λ u vs i f. close_limited is_dedent dedent_token refl IsStmts stmts_on cont (λ v j. ap not j) (λ body. body) (LowBody n) (LowBody n)
          (record { grows = λ w l. l; shrinks = λ w l. l }) vs (reading.stmts_by sub vs) (stmts_law vs)))

      pub block_law : (cont : Token → Bool) (ts : List Token) → Law IsBlock (Limited IsBlock (LowBody n)) cont ts (reading.block_by r n sub ts)
      unfolding reading.block_by
      block_law cont ts =
          same_law BlockOf IsBlock (LowBody n) cont block_up block_down ts _
          (open_limited is_colon (λ _. Either Indented IsLine) (LowBody n) cont
          (λ t h. (pass_line, pass_tree ∷ [], (inr least_line, pass_low n some)))
          ts (λ _. choose is_newline (reading.indented sub) (line r n))
          (λ t us h e. either_law Indented IsLine (LowBody n) cont is_newline
          (λ a w s g. ap (λ z. sees is_newline (z ++ s)) g.2 ∙ g.3)
          (λ a w s g free. line_no_newline a w s g)
          (reading.indented sub) (line r n) us
          (λ h. indented_law cont us)
          (λ h. line_law r exact n some cont us)))

      -- ---- a condition, its block and what follows

      module _ {A : Type 0} (Rest : Expr → List Stmt → Language Token A) (fit : A → Type 0) (cont : Token → Bool)
          (ends : (x : Expr) (body : List Stmt) → Viable (Rest x body) [])
          (ends_within : (x : Expr) (body : List Stmt) → Low n x → LowBody n body → Viable (Limited (Rest x body) fit) [])
          (shrinks : (x : Expr) (body : List Stmt) (c : List Token) (w : A) → Rest x body c w → fit w → Low n x × LowBody n body)
          (rest : Expr → List Stmt → Parser Token A)
          (rest_law : (x : Expr) (body : List Stmt) → Low n x → LowBody n body → (ts : List Token) → Law (Rest x body) (Limited (Rest x body) fit) cont ts (rest x body ts)) where
        abbrev pub Conditioned : Language Token A
        Conditioned = Then IsExpr (λ x. Then IsBlock (Rest x))

        some_block : (x : Expr) → Viable (Then IsBlock (Rest x)) []
        some_block x =
            let k = ends x (pass_tree ∷ []) in
            (pass_block ++ k.0, k.1, record { first = pass_block; second = k.0; value = pass_tree ∷ []; joined = refl; heads = least_block; tails = k.2 })

        some_within : (x : Expr) → Low n x → Viable (Limited (Then IsBlock (Rest x)) fit) []
        some_within x l =
            let k = ends_within x (pass_tree ∷ []) l (pass_low n some) in
            (pass_block ++ k.0, k.1, (record { first = pass_block; second = k.0; value = pass_tree ∷ []; joined = refl; heads = least_block; tails = k.2.0 }, k.2.1))

        pub conditioned_some : Viable (Limited Conditioned fit) []
        conditioned_some =
            let k = some_within x_tree (x_low n some) in
            (x_token ∷ k.0, k.1, (record { first = x_token ∷ []; second = k.0; value = x_tree; joined = refl; heads = least form.Whole; tails = k.2.0 }, k.2.1))

        block_apart : (x : Expr) (c : List Token) (w : A) (s : List Token) → Then IsBlock (Rest x) c w → Free expr_on (c ++ s)
        block_apart x c w s g =
            ap (λ z. sees expr_on (z ++ s)) g.joined ∙ ap (sees expr_on) (append_assoc g.first g.second s)
            ∙ at_head is_colon expr_on false colon_expr (g.first ++ (g.second ++ s)) (block_opens g.first g.value (g.second ++ s) g.heads)

        pub conditioned_law : (ts : List Token) → Law Conditioned (Limited Conditioned fit) cont ts (and_then (r.expr n ts) (λ x. reading.block_by r n sub >>= rest x))
        conditioned_law ts =
            join_law IsExpr expr_on (λ x. Then IsBlock (Rest x)) cont (Low n) fit
            (record {
              apart = λ a x p c w s g free. block_apart x c w s g;
              ends = λ a x p. some_block x;
              ends_within = λ a x p f. some_within x f;
              shrinks = λ a x p c w g f. (shrinks x g.value g.second w g.tails f).0;
            }) ts (r.expr n ts) (exact.expr_law n ts) (λ x. reading.block_by r n sub >>= rest x)
            (λ used x us p f e. join_law IsBlock never (Rest x) cont (LowBody n) fit
            (record {
              apart = λ a body g c w s h free. free_never (c ++ s);
              ends = λ a body g. ends x body;
              ends_within = λ a body g l. ends_within x body f l;
              shrinks = λ a body g c w h l. (shrinks x body c w h l).1;
            }) us (reading.block_by r n sub us) (block_law never us) (rest x)
            (λ front body vs g l i. rest_law x body f l vs))
