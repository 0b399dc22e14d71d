-- The laws of `if`, `while`, `for` and `@par`.
use Rattle.std.proofs.Common.{◌≡◌, ℕ, ◌-◌, ◌≤◌, Bool, true, false, List, [], ◌∷◌, ◌++◌, refl, sym, ◌∙◌, ap, subst, append_assoc, inl, inr, codes, arith}
use Rattle.std.proofs.lemmas.List.{append-nil}
use Rattle.indent_lexer.specs.declared.token.Token.{Token}
use Rattle.indent_lexer.specs.declared.token.TokenKind.TheVariants as kind
use Rattle.source_trees.specs.declared.expression.Expr.{Expr}
use Rattle.source_trees.specs.declared.node.Name.{Name}
use Rattle.source_trees.specs.declared.statement.Arm.{Arm}
use Rattle.source_trees.specs.declared.statement.For.{For}
use Rattle.source_trees.specs.declared.statement.LoopNames.{LoopNames}
use Rattle.source_trees.specs.declared.statement.LoopNames.TheVariants.{One}
use Rattle.source_trees.specs.declared.statement.ParOptions.{ParOptions}
use Rattle.source_trees.specs.declared.statement.Stmt.{Stmt}
use Rattle.source_trees.specs.declared.statement.Stmt.TheVariants as stmt
use Rattle.parse_laws.specs.Parser.{Parser, and_then, sees, pure, expect, ◌>>=◌}
use Rattle.parse_laws.specs.Language.{Language, Free, Viable, Law}
use Rattle.parse_laws.specs.Forms.{Then, Made, Is, Opens, Either, never}
use Rattle.parse_laws.specs.Limits.{Limited}
use Rattle.parse_laws.specs.Loops.{last}
use Rattle.parse_laws.proofs.Forms.{wider_at}
use Rattle.parse_laws.proofs.Limits.{same_law, join_law, made_limited, open_limited, optional_law, pure_limited}
use Rattle.parse_laws.proofs.Lists.{FitEach}
use Rattle.parse_laws.proofs.Repeats.{at_head}
use Rattle.grammar_rules.specs.Expressions.{IsExpr, IsNames}
use Rattle.grammar_rules.specs.Simple.{IsItems}
use Rattle.grammar_rules.specs.Statements as g
use Rattle.grammar_rules.specs.Statements.{IsStmt, IsBlock, IsArms, IsElse, IsFor, IsParOptions, no_options}
use Rattle.grammar_rules.specs.Words.{is_newline, node_at}
use Rattle.parse_expressions.specs.Forms.{Low}
use Rattle.parse_expressions.specs.Reading.{is_if, is_else, is_for, is_in, names}
use Rattle.parse_expressions.proofs.Leaves.{Free_of_limit, names_carry, names_law}
use Rattle.parse_expressions.proofs.Lows.{x_low}
use Rattle.parse_expressions.proofs.Opens.{sample, x_token, x_tree, keyword_token}
use Rattle.parse_statements.specs.Items.{items, items_on}
use Rattle.parse_statements.specs.Many.{Many, none, more, many}
use Rattle.parse_statements.specs.Options.{par_options}
use Rattle.parse_statements.specs.Readers.{Readers, Exact}
use Rattle.parse_statements.specs.Simple.{is_colon}
use Rattle.parse_statements.specs.Stages.{is_bracket}
use Rattle.parse_statements.proofs.Heads.{least_items}
use Rattle.parse_statements.proofs.Items.{items_law}
use Rattle.parse_statements.proofs.Many.{Follows, many_law}
use Rattle.parse_statements.proofs.Options.{par_options_law}
use Rattle.parse_blocks.specs.Blocks as reading
use Rattle.parse_blocks.specs.Blocks.{is_elif, is_while, is_at, is_par, starts_stmt, stmt_on, arm_of}
use Rattle.parse_blocks.proofs.BlockLaw.{pass_tree, pass_block, least_block, pass_low, newline_token, block_opens, StmtLaw, block_law, conditioned_some, conditioned_law}
use Rattle.parse_blocks.proofs.Heights.{LowBody, LowArm, if_low, low_if, while_low, low_while, LowFor, for_low, low_for, par_height}
use Rattle.parse_blocks.proofs.Marks.{else_on, else_no_elif, on_elif, colon_items, in_names, newline_bracket}

-- ---- the arms of `elif` and `else`

abbrev ElseOf : Language Token (List Stmt)
ElseOf = Either (Opens is_else (λ _. IsBlock)) (Is [])

else_up : (a : List Token) (w : List Stmt) → ElseOf a w → IsElse a w
else_up a w (inl k) = let P : List Token → Type 0 = λ z. IsElse z w in subst P (sym k.2) (g.otherwise k.0 k.1 w k.3 k.4)
else_up a w (inr k) =
    let P : List Token → Type 0 = λ z. IsElse z w in
    let Q : List Stmt → Type 0 = λ z. IsElse [] z in
    subst P (sym k.0) (subst Q (sym k.1) g.no_else)

else_down : (a : List Token) (w : List Stmt) → IsElse a w → ElseOf a w
else_down _ _ g.no_else = inr (refl, refl)
else_down _ _ (g.otherwise t a w h p) = inl (t, a, refl, h, p)

else_apart : (c : List Token) (w : List Stmt) (s : List Token) → IsElse c w → Free stmt_on s → Free is_elif (c ++ s)
else_apart _ _ s g.no_else free = wider_at is_elif stmt_on on_elif s free
else_apart _ _ s (g.otherwise t a w h p) free = else_no_elif t h

abbrev pub ArmRest : Expr → List Stmt → Language Token Arm
ArmRest x body = Is (arm_of x body)

abbrev pub ArmOf : Language Token Arm
ArmOf = Opens is_elif (λ _. Then IsExpr (λ x. Then IsBlock (ArmRest x)))

arms_up : (a : List Token) (w : List Arm) → Many ArmOf a w → IsArms a w
arms_up _ _ none = g.no_arm
arms_up _ _ (more a y b ys p rest) =
    let t = p.0 in
    let f = p.4 in
    let k = f.tails in
    let tokens : a ≡ t ∷ (f.first ++ k.first) = p.2 ∙ ap (λ z. t ∷ z) (f.joined ∙ ap (λ z. f.first ++ z) (k.joined ∙ ap (λ z. k.first ++ z) k.tails.0 ∙ append-nil k.first)) in
    let whole : a ++ b ≡ t ∷ (f.first ++ (k.first ++ b)) = ap (λ z. z ++ b) tokens ∙ ap (λ z. t ∷ z) (append_assoc f.first k.first b) in
    let P : List Token → Type 0 = λ z. IsArms z (y ∷ ys) in
    let Q : Arm → Type 0 = λ z. IsArms (t ∷ (f.first ++ (k.first ++ b))) (z ∷ ys) in
    subst P (sym whole) (subst Q (sym k.tails.1) (g.arm t f.first f.value k.first k.value b ys p.3 f.heads k.heads (arms_up b ys rest)))

arms_down : (a : List Token) (w : List Arm) → IsArms a w → Many ArmOf a w
arms_down _ _ g.no_arm = none
arms_down _ _ (g.arm t a x b body c arms h p q rest) =
    let P : List Token → Type 0 = λ z. Many ArmOf z (arm_of x body ∷ arms) in
    subst P (ap (λ z. t ∷ z) (append_assoc a b c))
    (more (t ∷ (a ++ b)) (arm_of x body) c arms (
      t,
      a ++ b,
      refl,
      h,
      record { first = a; second = b; value = x; joined = refl; heads = p; tails = record { first = b; second = []; value = body; joined = sym (append-nil b); heads = q; tails = (refl, refl) } },
    )
    (arms_down c arms rest))

arm_follows : Follows ArmOf is_elif never is_elif
arm_follows = record { opens = λ a y s k. ap (λ z. sees is_elif (z ++ s)) k.2 ∙ k.3; own = λ t h. h; wider = λ t h. refl; next = λ t h. refl }

-- ---- `if` and `while`

abbrev pub if_tree : Token → Expr → List Stmt → List Arm → List Stmt → List Stmt
if_tree t x body arms other = stmt.If (node_at t) (arm_of x body ∷ arms) other ∷ []

abbrev pub BranchRest : Token → Expr → List Stmt → Language Token (List Stmt)
BranchRest t x body = Then IsArms (λ arms. Made IsElse (if_tree t x body arms))

abbrev pub BranchOf : Language Token (List Stmt)
BranchOf = Opens is_if (λ t. Then IsExpr (λ x. Then IsBlock (BranchRest t x)))

pub branch_ends : (t : Token) (x : Expr) (body : List Stmt) → Viable (BranchRest t x body) []
branch_ends t x body = ([], if_tree t x body [] [], record { first = []; second = []; value = []; joined = refl; heads = g.no_arm; tails = ([], g.no_else, refl) })

pub branch_fits : (n : ℕ) (t : Token) (x : Expr) (body : List Stmt) (c : List Token) (w : List Stmt) → BranchRest t x body c w → LowBody n w → Low (n - 1) x × LowBody (n - 1) body
branch_fits n t x body c w k f =
    let P : List Stmt → Type 0 = λ z. LowBody n z in
    let l = subst P k.tails.2 f in
    (low_if n (node_at t) (arm_of x body ∷ k.value) k.tails.0 l.0).0.0

abbrev pub while_tree : Token → Expr → List Stmt → List Stmt
while_tree t x body = stmt.While (node_at t) x body ∷ []

abbrev pub RepeatRest : Token → Expr → List Stmt → Language Token (List Stmt)
RepeatRest t x body = Is (while_tree t x body)

abbrev pub RepeatOf : Language Token (List Stmt)
RepeatOf = Opens is_while (λ t. Then IsExpr (λ x. Then IsBlock (RepeatRest t x)))

pub repeat_ends : (t : Token) (x : Expr) (body : List Stmt) → Viable (RepeatRest t x body) []
repeat_ends t x body = ([], while_tree t x body, (refl, refl))

pub repeat_fits : (n : ℕ) (t : Token) (x : Expr) (body : List Stmt) (c : List Token) (w : List Stmt) → RepeatRest t x body c w → LowBody n w → Low (n - 1) x × LowBody (n - 1) body
repeat_fits n t x body c w k f =
    let P : List Stmt → Type 0 = λ z. LowBody n z in
    let l = subst P k.1 f in
    low_while n (node_at t) x body l.0

-- ---- `for`

abbrev pub for_tree : Token → LoopNames → Expr → List Stmt → For
for_tree t ns x body = record { node = node_at t; names = ns; iterable = x; body = body }

abbrev ForBody : Token → LoopNames → Expr → Language Token For
ForBody t ns x = Made IsBlock (for_tree t ns x)

abbrev ForItems : Token → LoopNames → Language Token For
ForItems t ns = Opens is_in (λ _. Then IsItems (ForBody t ns))

abbrev ForOf : Language Token For
ForOf = Opens is_for (λ t. Then IsNames (ForItems t))

for_up : (a : List Token) (w : For) → ForOf a w → IsFor a w
for_up a w k =
    let l = k.4 in
    let i = l.tails in
    let j = i.4 in
    let b = j.tails in
    let P : List Token → Type 0 = λ z. IsFor z w in
    let Q : For → Type 0 = λ z. IsFor (k.0 ∷ (l.first ++ i.0 ∷ (j.first ++ j.second))) z in
    subst P (sym (k.2 ∙ ap (λ z. k.0 ∷ z) (l.joined ∙ ap (λ z. l.first ++ z) (i.2 ∙ ap (λ z. i.0 ∷ z) j.joined))))
    (subst Q (sym b.2) (g.for_each k.0 l.first l.value i.0 j.first j.value j.second b.0 k.3 l.heads i.3 j.heads b.1))

for_down : (a : List Token) (w : For) → IsFor a w → ForOf a w
for_down _ _ (g.for_each t a ns u b x c body h p i q k) = (
  t,
  a ++ u ∷ (b ++ c),
  refl,
  h,
  record {
    first = a;
    second = u ∷ (b ++ c);
    value = ns;
    joined = refl;
    heads = p;
    tails = (u, b ++ c, refl, i, record { first = b; second = c; value = x; joined = refl; heads = q; tails = (body, k, refl) });
  },
)

pub for_opens : (a : List Token) (w : For) (s : List Token) → IsFor a w → sees is_for (a ++ s) ≡ true
for_opens _ _ s (g.for_each t a ns u b x c body h p i q k) = h

abbrev x_name : Name
x_name = record { node = node_at x_token; spelling = codes "x" }

least_names : IsNames (x_token ∷ []) (One x_name)
least_names = ((x_name ∷ [], false), last (x_token ∷ []) x_name (x_token, refl, refl), refl)

abbrev pub in_token : Token
in_token = keyword_token (codes "in")

abbrev pub for_token : Token
for_token = keyword_token (codes "for")

abbrev items_text : List Token
items_text = x_token ∷ pass_block

least_for_rest : (t : Token) (ns : LoopNames) → Then IsItems (ForBody t ns) items_text (for_tree t ns x_tree (pass_tree ∷ []))
least_for_rest t ns = record { first = x_token ∷ []; second = pass_block; value = x_tree; joined = refl; heads = least_items; tails = (pass_tree ∷ [], least_block, refl) }

least_for_items : (t : Token) (ns : LoopNames) → ForItems t ns (in_token ∷ items_text) (for_tree t ns x_tree (pass_tree ∷ []))
least_for_items t ns = (in_token, items_text, refl, refl, least_for_rest t ns)

abbrev pub for_text : List Token
for_text = x_token ∷ in_token ∷ items_text

abbrev pub least_for_tree : Token → For
least_for_tree t = for_tree t (One x_name) x_tree (pass_tree ∷ [])

pub least_for : (t : Token) → is_for t ≡ true → IsFor (t ∷ for_text) (least_for_tree t)
least_for t h = g.for_each t (x_token ∷ []) (One x_name) in_token (x_token ∷ []) x_tree pass_block (pass_tree ∷ []) h least_names refl least_items least_block

pub least_for_low : (n : ℕ) → 2 ≤ n → (t : Token) (ns : LoopNames) → LowFor n (for_tree t ns x_tree (pass_tree ∷ []))
least_for_low n two t ns = for_low n two (for_tree t ns x_tree (pass_tree ∷ [])) (x_low (n - 1) (omega arith)) (pass_low (n - 1) (omega arith))

-- ---- `@par`

abbrev pub par_tree : Token → ParOptions → For → List Stmt
par_tree t o f = stmt.Par (node_at t) o f ∷ []

abbrev ParLoop : Token → ParOptions → Language Token (List Stmt)
ParLoop t o = Opens is_newline (λ _. Made IsFor (par_tree t o))

abbrev ParRest : Token → Language Token (List Stmt)
ParRest t = Opens is_par (λ _. Then IsParOptions (ParLoop t))

abbrev pub ParOf : Language Token (List Stmt)
ParOf = Opens is_at ParRest

abbrev pub par_token : Token
par_token = sample (kind.Name (codes "par"))

abbrev loop_text : List Token
loop_text = newline_token ∷ for_token ∷ for_text

least_loop_rest : (t : Token) (o : ParOptions) → Made IsFor (par_tree t o) (for_token ∷ for_text) (par_tree t o (least_for_tree for_token))
least_loop_rest t o = (least_for_tree for_token, least_for for_token refl, refl)

least_loop : (t : Token) (o : ParOptions) → ParLoop t o loop_text (par_tree t o (least_for_tree for_token))
least_loop t o = (newline_token, for_token ∷ for_text, refl, refl, least_loop_rest t o)

abbrev pub par_text : List Token
par_text = par_token ∷ loop_text

least_par_rest : (t : Token) → Then IsParOptions (ParLoop t) loop_text (par_tree t no_options (least_for_tree for_token))
least_par_rest t = record { first = []; second = loop_text; value = no_options; joined = refl; heads = g.absent; tails = least_loop t no_options }

pub least_par : (t : Token) → ParRest t par_text (par_tree t no_options (least_for_tree for_token))
least_par t = (par_token, loop_text, refl, refl, least_par_rest t)

par_low : (n : ℕ) → 3 ≤ n → (t : Token) (o : ParOptions) → LowBody n (par_tree t o (least_for_tree for_token))
par_low n three t o =
    let k = par_height (node_at t) o (least_for_tree for_token) in
    let l = least_for_low (n - 1) (omega arith) for_token (One x_name) in
    (omega arith, tt)

-- ---- the laws, at the height that the statement may have

module _ (r : Readers) (exact : Exact r) (opens : (a : List Token) (w : List Stmt) (s : List Token) → IsStmt a w → sees starts_stmt (a ++ s) ≡ true)
    (n : ℕ) (two : 2 ≤ n) (sub : Parser Token (List Stmt)) (sub_law : StmtLaw (n - 1) sub) where
  lower : 1 ≤ n - 1
  lower = omega arith

  blocks_law : (cont : Token → Bool) (ts : List Token) → Law IsBlock (Limited IsBlock (LowBody (n - 1))) cont ts (reading.block_by r (n - 1) sub ts)
  blocks_law cont ts = block_law r exact opens (n - 1) lower sub sub_law cont ts

  else_law : (ts : List Token) → Law IsElse (Limited IsElse (LowBody (n - 1))) stmt_on ts (reading.otherwise r n sub ts)
  unfolding reading.otherwise
  else_law ts =
      same_law ElseOf IsElse (LowBody (n - 1)) stmt_on else_up else_down ts _
      (optional_law (Opens is_else (λ _. IsBlock)) [] (LowBody (n - 1)) tt stmt_on is_else (λ a w s k. ap (λ z. sees is_else (z ++ s)) k.2 ∙ k.3) else_on
      (expect is_else >>= λ _. reading.block_by r (n - 1) sub) ts
      (λ h. open_limited is_else (λ _. IsBlock) (LowBody (n - 1)) stmt_on (λ t i. (pass_block, pass_tree ∷ [], (least_block, pass_low (n - 1) lower))) ts (λ _. reading.block_by r (n - 1) sub)
      (λ t us i e. blocks_law stmt_on us)))

  arm_ends : (x : Expr) (body : List Stmt) → Viable (ArmRest x body) []
  arm_ends x body = ([], arm_of x body, (refl, refl))

  arm_within : (x : Expr) (body : List Stmt) → Low (n - 1) x → LowBody (n - 1) body → Viable (Limited (ArmRest x body) (LowArm (n - 1))) []
  arm_within x body l k = ([], arm_of x body, ((refl, refl), (l, k)))

  arm_fits : (x : Expr) (body : List Stmt) (c : List Token) (w : Arm) → ArmRest x body c w → LowArm (n - 1) w → Low (n - 1) x × LowBody (n - 1) body
  arm_fits x body c w k f = let P : Arm → Type 0 = λ z. LowArm (n - 1) z in subst P k.1 f

  arm_rest_law : (x : Expr) (body : List Stmt) → Low (n - 1) x → LowBody (n - 1) body → (ts : List Token) → Law (ArmRest x body) (Limited (ArmRest x body) (LowArm (n - 1))) never ts (pure (arm_of x body) ts)
  arm_rest_law x body l k ts = pure_limited (arm_of x body) (LowArm (n - 1)) (l, k) never ts

  arm_law : (ts : List Token) → Law ArmOf (Limited ArmOf (LowArm (n - 1))) never ts (reading.elif_arm r n sub ts)
  unfolding reading.elif_arm
  arm_law ts =
      open_limited is_elif (λ _. Then IsExpr (λ x. Then IsBlock (ArmRest x))) (LowArm (n - 1)) never
      (λ t h. conditioned_some r exact opens (n - 1) lower sub sub_law ArmRest (LowArm (n - 1)) never arm_ends arm_within arm_fits (λ x body. pure (arm_of x body)) arm_rest_law)
      ts (λ _. r.expr (n - 1) >>= λ x. reading.block_by r (n - 1) sub >>= λ body. pure (arm_of x body))
      (λ t us h e. conditioned_law r exact opens (n - 1) lower sub sub_law ArmRest (LowArm (n - 1)) never arm_ends arm_within arm_fits (λ x body. pure (arm_of x body)) arm_rest_law us)

  arms_law : (ts : List Token) → Law IsArms (Limited IsArms (FitEach (LowArm (n - 1)))) is_elif ts (many is_elif (reading.elif_arm r n sub) ts)
  arms_law ts =
      same_law (Many ArmOf) IsArms (FitEach (LowArm (n - 1))) is_elif arms_up arms_down ts _
      (many_law ArmOf (LowArm (n - 1)) is_elif never is_elif arm_follows (reading.elif_arm r n sub) (λ us h. arm_law us) ts)

  branch_within : (t : Token) (x : Expr) (body : List Stmt) → Low (n - 1) x → LowBody (n - 1) body → Viable (Limited (BranchRest t x body) (LowBody n)) []
  branch_within t x body l k = (
    [],
    if_tree t x body [] [],
    (
      record { first = []; second = []; value = []; joined = refl; heads = g.no_arm; tails = ([], g.no_else, refl) },
      (if_low n (omega arith) (node_at t) (arm_of x body ∷ []) [] ((l, k), tt) tt, tt),
    ),
  )

  branch_rest_law : (t : Token) (x : Expr) (body : List Stmt) → Low (n - 1) x → LowBody (n - 1) body → (ts : List Token)
      → Law (BranchRest t x body) (Limited (BranchRest t x body) (LowBody n)) stmt_on ts (reading.branch_rest r n sub t x body ts)
  unfolding reading.branch_rest
  branch_rest_law t x body l k ts =
      join_law IsArms is_elif (λ arms. Made IsElse (if_tree t x body arms)) stmt_on (FitEach (LowArm (n - 1))) (LowBody n)
      (record {
        apart = λ a arms p c w s q free. else_apart c q.0 s q.1 free;
        ends = λ a arms p. ([], if_tree t x body arms [], ([], g.no_else, refl));
        ends_within = λ a arms p f. ([], if_tree t x body arms [], (([], g.no_else, refl), (if_low n (omega arith) (node_at t) (arm_of x body ∷ arms) [] ((l, k), f) tt, tt)));
        shrinks = λ a arms p c w q f.
            let P : List Stmt → Type 0 = λ z. LowBody n z in
            let i = subst P q.2 f in
            (low_if n (node_at t) (arm_of x body ∷ arms) q.0 i.0).0.1;
      }) ts (many is_elif (reading.elif_arm r n sub) ts) (arms_law ts) (λ arms. reading.otherwise r n sub >>= λ other. pure (if_tree t x body arms other))
      (λ used arms us p f e. made_limited IsElse stmt_on (if_tree t x body arms) (LowBody (n - 1)) (LowBody n)
      (record {
        grows = λ other i. (if_low n (omega arith) (node_at t) (arm_of x body ∷ arms) other ((l, k), f) i, tt);
        shrinks = λ other i. (low_if n (node_at t) (arm_of x body ∷ arms) other i.0).1;
      }) us (reading.otherwise r n sub us) (else_law us))

  pub branch_law : (ts : List Token) → Law BranchOf (Limited BranchOf (LowBody n)) stmt_on ts (reading.branch r n sub ts)
  unfolding reading.branch
  branch_law ts =
      open_limited is_if (λ t. Then IsExpr (λ x. Then IsBlock (BranchRest t x))) (LowBody n) stmt_on
      (λ t h. conditioned_some r exact opens (n - 1) lower sub sub_law (BranchRest t) (LowBody n) stmt_on (branch_ends t) (branch_within t) (branch_fits n t) (reading.branch_rest r n sub t) (branch_rest_law t))
      ts (λ t. r.expr (n - 1) >>= λ x. reading.block_by r (n - 1) sub >>= reading.branch_rest r n sub t x)
      (λ t us h e. conditioned_law r exact opens (n - 1) lower sub sub_law (BranchRest t) (LowBody n) stmt_on (branch_ends t) (branch_within t) (branch_fits n t) (reading.branch_rest r n sub t) (branch_rest_law t) us)

  repeat_low : (t : Token) (x : Expr) (body : List Stmt) → Low (n - 1) x → LowBody (n - 1) body → LowBody n (while_tree t x body)
  repeat_low t x body l k = (while_low n (omega arith) (node_at t) x body l k, tt)

  repeat_within : (t : Token) (x : Expr) (body : List Stmt) → Low (n - 1) x → LowBody (n - 1) body → Viable (Limited (RepeatRest t x body) (LowBody n)) []
  repeat_within t x body l k = ([], while_tree t x body, ((refl, refl), repeat_low t x body l k))

  repeat_rest_law : (t : Token) (x : Expr) (body : List Stmt) → Low (n - 1) x → LowBody (n - 1) body → (ts : List Token)
      → Law (RepeatRest t x body) (Limited (RepeatRest t x body) (LowBody n)) stmt_on ts (pure (while_tree t x body) ts)
  repeat_rest_law t x body l k ts = pure_limited (while_tree t x body) (LowBody n) (repeat_low t x body l k) stmt_on ts

  pub repetition_law : (ts : List Token) → Law RepeatOf (Limited RepeatOf (LowBody n)) stmt_on ts (reading.repetition r n sub ts)
  unfolding reading.repetition
  repetition_law ts =
      open_limited is_while (λ t. Then IsExpr (λ x. Then IsBlock (RepeatRest t x))) (LowBody n) stmt_on
      (λ t h. conditioned_some r exact opens (n - 1) lower sub sub_law (RepeatRest t) (LowBody n) stmt_on (repeat_ends t) (repeat_within t) (repeat_fits n t) (λ x body. pure (while_tree t x body)) (repeat_rest_law t))
      ts (λ t. r.expr (n - 1) >>= λ x. reading.block_by r (n - 1) sub >>= λ body. pure (while_tree t x body))
      (λ t us h e. conditioned_law r exact opens (n - 1) lower sub sub_law (RepeatRest t) (LowBody n) stmt_on (repeat_ends t) (repeat_within t) (repeat_fits n t) (λ x body. pure (while_tree t x body)) (repeat_rest_law t) us)

  -- ---- loops

  body_apart : (t : Token) (ns : LoopNames) (x : Expr) (c : List Token) (w : For) (s : List Token) → ForBody t ns x c w → Free items_on (c ++ s)
  body_apart t ns x c w s k = at_head is_colon items_on false colon_items (c ++ s) (block_opens c k.0 s k.1)

  for_items_law : (cont : Token → Bool) (t : Token) (ns : LoopNames) (ts : List Token)
      → Law (ForItems t ns) (Limited (ForItems t ns) (LowFor n)) cont ts (and_then (expect is_in ts) (λ _. items r (n - 1) >>= λ x. reading.block_by r (n - 1) sub >>= λ body. pure (for_tree t ns x body)))
  for_items_law cont t ns ts =
      open_limited is_in (λ _. Then IsItems (ForBody t ns)) (LowFor n) cont
      (λ u h. (items_text, for_tree t ns x_tree (pass_tree ∷ []), (least_for_rest t ns, least_for_low n two t ns)))
      ts (λ _. items r (n - 1) >>= λ x. reading.block_by r (n - 1) sub >>= λ body. pure (for_tree t ns x body))
      (λ u us h e. join_law IsItems items_on (ForBody t ns) cont (Low (n - 1)) (LowFor n)
      (record {
        apart = λ a x p c w s k free. body_apart t ns x c w s k;
        ends = λ a x p. (pass_block, for_tree t ns x (pass_tree ∷ []), (pass_tree ∷ [], least_block, refl));
        ends_within = λ a x p f. (pass_block, for_tree t ns x (pass_tree ∷ []), ((pass_tree ∷ [], least_block, refl), for_low n two (for_tree t ns x (pass_tree ∷ [])) f (pass_low (n - 1) lower)));
        shrinks = λ a x p c w k f. let P : For → Type 0 = λ z. LowFor n z in (low_for n (for_tree t ns x k.0) (subst P k.2 f)).0;
      }) us (items r (n - 1) us) (items_law r exact (n - 1) us) (λ x. reading.block_by r (n - 1) sub >>= λ body. pure (for_tree t ns x body))
      (λ used x vs p f i. made_limited IsBlock cont (for_tree t ns x) (LowBody (n - 1)) (LowFor n)
      (record { grows = λ body k. for_low n two (for_tree t ns x body) f k; shrinks = λ body k. (low_for n (for_tree t ns x body) k).1 })
      vs (reading.block_by r (n - 1) sub vs) (blocks_law cont vs)))

  pub for_law : (cont : Token → Bool) (ts : List Token) → Law IsFor (Limited IsFor (LowFor n)) cont ts (reading.for_loop r n sub ts)
  unfolding reading.for_loop
  for_law cont ts =
      same_law ForOf IsFor (LowFor n) cont for_up for_down ts _
      (open_limited is_for (λ t. Then IsNames (ForItems t)) (LowFor n) cont
      (λ t h. (
        for_text,
        least_for_tree t,
        (record { first = x_token ∷ []; second = in_token ∷ items_text; value = One x_name; joined = refl; heads = least_names; tails = least_for_items t (One x_name) }, least_for_low n two t (One x_name)),
      ))
      ts (λ t. names >>= λ ns. expect is_in >>= λ _. items r (n - 1) >>= λ x. reading.block_by r (n - 1) sub >>= λ body. pure (for_tree t ns x body))
      (λ t us h e. join_law IsNames names_carry (ForItems t) cont Free_of_limit (LowFor n)
      (record {
        apart = λ a ns p c w s k free. ap (λ z. sees names_carry (z ++ s)) k.2 ∙ in_names k.0 k.3;
        ends = λ a ns p. (in_token ∷ items_text, for_tree t ns x_tree (pass_tree ∷ []), least_for_items t ns);
        ends_within = λ a ns p f. (in_token ∷ items_text, for_tree t ns x_tree (pass_tree ∷ []), (least_for_items t ns, least_for_low n two t ns));
        shrinks = λ a ns p c w k f. tt;
      }) us (names us) (names_law us) (λ ns. expect is_in >>= λ _. items r (n - 1) >>= λ x. reading.block_by r (n - 1) sub >>= λ body. pure (for_tree t ns x body))
      (λ used ns vs p f i. for_items_law cont t ns vs)))

-- `@par` at the height n, from a parser of loops one level lower
pub parallel_law : (n : ℕ) → 3 ≤ n → (loop : Parser Token For) → ((ts : List Token) → Law IsFor (Limited IsFor (LowFor (n - 1))) stmt_on ts (loop ts))
    → (ts : List Token) → Law ParOf (Limited ParOf (LowBody n)) stmt_on ts (reading.parallel loop ts)
unfolding reading.parallel
parallel_law n three loop loop_law ts =
    open_limited is_at ParRest (LowBody n) stmt_on
    (λ t h. (par_text, par_tree t no_options (least_for_tree for_token), (least_par t, par_low n three t no_options)))
    ts (λ t. expect is_par >>= λ _. par_options >>= λ o. expect is_newline >>= λ _. loop >>= λ f. pure (par_tree t o f))
    (λ t us h e. open_limited is_par (λ _. Then IsParOptions (ParLoop t)) (LowBody n) stmt_on
    (λ u i. (loop_text, par_tree t no_options (least_for_tree for_token), (least_par_rest t, par_low n three t no_options)))
    us (λ _. par_options >>= λ o. expect is_newline >>= λ _. loop >>= λ f. pure (par_tree t o f))
    (λ u vs i j. join_law IsParOptions is_bracket (ParLoop t) stmt_on Free_of_limit (LowBody n)
    (record {
      apart = λ a o p c w s k free. ap (λ z. sees is_bracket (z ++ s)) k.2 ∙ newline_bracket k.0 k.3;
      ends = λ a o p. (loop_text, par_tree t o (least_for_tree for_token), least_loop t o);
      ends_within = λ a o p f. (loop_text, par_tree t o (least_for_tree for_token), (least_loop t o, par_low n three t o));
      shrinks = λ a o p c w k f. tt;
    }) vs (par_options vs) (par_options_law vs) (λ o. expect is_newline >>= λ _. loop >>= λ f. pure (par_tree t o f))
    (λ used o ws p f k. open_limited is_newline (λ _. Made IsFor (par_tree t o)) (LowBody n) stmt_on
    (λ v l. (for_token ∷ for_text, par_tree t o (least_for_tree for_token), (least_loop_rest t o, par_low n three t o)))
    ws (λ _. loop >>= λ f. pure (par_tree t o f))
    (λ v xs l m. made_limited IsFor stmt_on (par_tree t o) (LowFor (n - 1)) (LowBody n)
    (record {
      grows = λ f q. (let z = par_height (node_at t) o f in omega arith, tt);
      shrinks = λ f q. let z = par_height (node_at t) o f in let y = q.0 in omega arith;
    }) xs (loop xs) (loop_law xs)))))
