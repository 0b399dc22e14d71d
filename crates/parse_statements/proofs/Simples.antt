-- The law of simple statements.
use Rattle.std.proofs.Common.{◌≡◌, ℕ, ◌≤◌, nat_le, Bool, true, false, not, cond, List, [], ◌∷◌, ◌++◌, refl, sym, ◌∙◌, ap, subst, append_assoc, inl, inr, Option, Some, None, codes}
use Rattle.std.specs.Str.{bytes_eq}
use Rattle.std.proofs.lemmas.List.{append-nil}
use Rattle.indent_lexer.specs.declared.token.Token.{Token}
use Rattle.indent_lexer.specs.declared.token.TokenKind.{TokenKind}
use Rattle.indent_lexer.specs.declared.token.TokenKind.TheVariants as kind
use Rattle.source_trees.specs.declared.expression.Expr.{Expr}
use Rattle.source_trees.specs.declared.pipeline.Printed.{Printed}
use Rattle.source_trees.specs.declared.statement.Stmt.{Stmt}
use Rattle.source_trees.specs.declared.statement.Stmt.TheVariants as stmt
use Rattle.parse_laws.specs.Parser.{sees, class_of}
use Rattle.parse_laws.specs.Language.{Law}
use Rattle.parse_laws.specs.Limits.{Limited}
use Rattle.parse_laws.proofs.Sorts.{sort_limited}
use Rattle.grammar_rules.specs.Simple as g
use Rattle.grammar_rules.specs.Simple.{IsItems, IsPrint, printed, IsSimple, node_of_target, node_of_targets}
use Rattle.grammar_rules.specs.Words.{is_spelled, name_in, node_at}
use Rattle.parse_expressions.specs.Forms.{opened_by, opening_words, row_of}
use Rattle.parse_expressions.proofs.Tokens.{keyword_kind}
use Rattle.parse_statements.specs.Readers.{Readers, Exact, LowStmt, starts_expr}
use Rattle.parse_statements.specs.Heads.{is_print_word, simple_on}
use Rattle.parse_statements.specs.Forms.{UpdateTo}
use Rattle.parse_statements.specs.Simple as reading
use Rattle.parse_statements.specs.Simple.{Equals, Augmented, Piped, Colon, HeadTail, TailOf, annotation_of, ValueOf, Lead, Pass, Break, Continue, Return, Yield, Raise, Assert, Print, Value, lead_word, lead_in, lead_of, print_tree, LeadOf}
use Rattle.parse_statements.proofs.Leads.{lead_law}
use Rattle.parse_statements.proofs.Marks.{one_word}
use Rattle.parse_statements.proofs.Shapes.{Headed, headed_simple, assign_headed, items_headed, note_headed, target_head}
use Rattle.parse_statements.proofs.Targets.{expr_not_print}

-- ---- classes

chain_value : (a b c d f g h : Bool) → a ≡ false → b ≡ false → c ≡ false → d ≡ false → f ≡ false → g ≡ false → h ≡ false
    → cond a Pass (cond b Break (cond c Continue (cond d Return (cond f Yield (cond g Raise (cond h Assert Value)))))) ≡ Value
chain_value true b c d f g h p q r s t u v = absurd (cc)
chain_value false true c d f g h p q r s t u v = absurd (cc)
chain_value false false true d f g h p q r s t u v = absurd (cc)
chain_value false false false true f g h p q r s t u v = absurd (cc)
chain_value false false false false true g h p q r s t u v = absurd (cc)
chain_value false false false false false true h p q r s t u v = absurd (cc)
chain_value false false false false false false true p q r s t u v = absurd (cc)
chain_value false false false false false false false p q r s t u v = refl

no_opening : (w word : List ℕ) → nat_le (row_of opening_words w) 3 ≡ true → nat_le (row_of opening_words word) 3 ≡ false → bytes_eq w word ≡ false
no_opening w word h k =
    let go : (x : Bool) → bytes_eq w word ≡ x → x ≡ false = elim [
      | true ↦ λ e. let i : nat_le (row_of opening_words w) 3 ≡ false = one_word w word (λ z. nat_le (row_of opening_words z) 3 ≡ false) e k in absurd (cc)
      | false ↦ λ e. refl
    ] in
    go (bytes_eq w word) refl

name_value : (x : Bool) → nat_le (cond x 100 1) 3 ≡ true → cond x Print Value ≡ Value
name_value true h = absurd (cc)
name_value false h = refl

starts_value_in : (k : TokenKind) → nat_le (opened_by k) 3 ≡ true → lead_in k ≡ Value
starts_value_in (kind.Keyword w) h =
    chain_value (bytes_eq w (codes "pass")) (bytes_eq w (codes "break")) (bytes_eq w (codes "continue")) (bytes_eq w (codes "return")) (bytes_eq w (codes "yield")) (bytes_eq w (codes "raise")) (bytes_eq w (codes "assert"))
    (no_opening w (codes "pass") h refl) (no_opening w (codes "break") h refl) (no_opening w (codes "continue") h refl) (no_opening w (codes "return") h refl) (no_opening w (codes "yield") h refl) (no_opening w (codes "raise") h refl) (no_opening w (codes "assert") h refl)
starts_value_in (kind.Name w) h = name_value (bytes_eq w (codes "print")) h
starts_value_in (kind.Number z) h = refl
starts_value_in (kind.Text s) h = refl
starts_value_in (kind.Op w) h = refl
starts_value_in _ h = absurd (cc)

class_value : (ts : List Token) → sees starts_expr ts ≡ true → class_of lead_of Value ts ≡ Value
class_value [] h = absurd (cc)
class_value (t ∷ ts) h = starts_value_in t.kind h

print_class_in : (k : TokenKind) → is_spelled (name_in k) (codes "print") ≡ true → lead_in k ≡ Print
print_class_in (kind.Name w) h = ap (λ z. cond z Print Value) h
print_class_in _ h = absurd (cc)

print_class : (t : Token) → is_print_word t ≡ true → lead_of t ≡ Print
print_class t h = print_class_in t.kind h

simple_here : (a b : List Token) (w v : Stmt) → b ≡ a → w ≡ v → IsSimple b w → IsSimple a v
simple_here a b w v e f p =
    let P : List Token → Type 0 = λ z. IsSimple z v in
    let Q : Stmt → Type 0 = λ z. IsSimple b z in
    subst P e (subst Q f p)

-- ---- as the grammar writes them

lead_simple : (c : Lead) (a : List Token) (w : Stmt) → LeadOf c a w → IsSimple a w
lead_simple Pass a w k = simple_here a (k.0 ∷ []) _ w (ap (λ z. k.0 ∷ z) (sym k.4.0) ∙ sym k.2) (sym k.4.1) (g.pass k.0 k.3)
lead_simple Break a w k = simple_here a (k.0 ∷ []) _ w (ap (λ z. k.0 ∷ z) (sym k.4.0) ∙ sym k.2) (sym k.4.1) (g.break k.0 k.3)
lead_simple Continue a w k = simple_here a (k.0 ∷ []) _ w (ap (λ z. k.0 ∷ z) (sym k.4.0) ∙ sym k.2) (sym k.4.1) (g.continue k.0 k.3)
lead_simple Return a w k =
    elim k.4 as (λ _. IsSimple a w) [
      | inl i ↦ simple_here a (k.0 ∷ k.1) _ w (sym k.2) (sym i.2) (g.return_value k.0 k.1 i.0 k.3 i.1)
      | inr i ↦ simple_here a (k.0 ∷ []) _ w (ap (λ z. k.0 ∷ z) (sym i.0) ∙ sym k.2) (sym i.1) (g.return k.0 k.3)
    ]
lead_simple Yield a w k = simple_here a (k.0 ∷ k.1) _ w (sym k.2) (sym k.4.2) (g.yield k.0 k.1 k.4.0 k.3 k.4.1)
lead_simple Raise a w k =
    let n = k.4 in
    let u = n.heads.0 in
    let front : a ≡ k.0 ∷ u ∷ n.second = k.2 ∙ ap (λ z. k.0 ∷ z) (n.joined ∙ ap (λ z. z ++ n.second) n.heads.1) in
    elim n.tails as (λ _. IsSimple a w) [
      | inl i ↦
          let j = i.4 in
          let tokens : k.0 ∷ u ∷ i.0 ∷ (j.0 ++ j.2 ∷ []) ≡ a = ap (λ z. k.0 ∷ u ∷ z) (sym (i.2 ∙ ap (λ z. i.0 ∷ z) j.3)) ∙ sym front in
          elim j.4 as (λ _. IsSimple a w) [
            | inl m ↦
                simple_here a (k.0 ∷ u ∷ i.0 ∷ (j.0 ++ j.2 ∷ [])) _ w tokens (ap (λ z. stmt.Raise (node_at k.0) n.value z) (sym m.2) ∙ sym j.6)
                (g.raise_text k.0 u n.value i.0 j.0 m.0 j.2 k.3 n.heads.2 i.3 m.1 j.5)
            | inr m ↦
                simple_here a (k.0 ∷ u ∷ i.0 ∷ j.2 ∷ []) _ w (ap (λ z. k.0 ∷ u ∷ i.0 ∷ (z ++ j.2 ∷ [])) (sym m.0) ∙ tokens) (ap (λ z. stmt.Raise (node_at k.0) n.value z) (sym m.1) ∙ sym j.6)
                (g.raise_called k.0 u n.value i.0 j.2 k.3 n.heads.2 i.3 j.5)
          ]
      | inr i ↦ simple_here a (k.0 ∷ u ∷ []) _ w (ap (λ z. k.0 ∷ u ∷ z) (sym i.0) ∙ sym front) (sym i.1) (g.raise k.0 u n.value k.3 n.heads.2)
    ]
lead_simple Assert a w k =
    let n = k.4 in
    let front : a ≡ k.0 ∷ (n.first ++ n.second) = k.2 ∙ ap (λ z. k.0 ∷ z) n.joined in
    elim n.tails as (λ _. IsSimple a w) [
      | inl i ↦
          simple_here a (k.0 ∷ (n.first ++ i.0 ∷ i.1)) _ w (ap (λ z. k.0 ∷ (n.first ++ z)) (sym i.2) ∙ sym front) (sym i.4.2)
          (g.assert_text k.0 n.first n.value i.0 i.1 i.4.0 k.3 n.heads i.3 i.4.1)
      | inr i ↦
          simple_here a (k.0 ∷ n.first) _ w (ap (λ z. k.0 ∷ z) (sym (append-nil n.first) ∙ ap (λ z. n.first ++ z) (sym i.0)) ∙ sym front) (sym i.1)
          (g.assert k.0 n.first n.value k.3 n.heads)
    ]
lead_simple Print a w k =
    elim k.4 as (λ _. IsSimple a w) [
      | inl i ↦
          let j = i.4 in
          simple_here a (k.0 ∷ i.0 ∷ (j.0 ++ j.2 ∷ [])) _ w (ap (λ z. k.0 ∷ z) (sym (i.2 ∙ ap (λ z. i.0 ∷ z) j.3)) ∙ sym k.2) (sym j.6)
          (g.print k.0 (i.0 ∷ (j.0 ++ j.2 ∷ [])) j.1 (printed k.0 i.0 j.0 j.1 j.2 k.3 i.3 j.4 j.5))
      | inr i ↦
          headed_simple a w (record { first = k.0 ∷ []; second = k.1; value = print_tree k.0; joined = k.2; heads = inr (k.0, refl, k.3, refl); tails = i })
    ]
lead_simple Value a w k = headed_simple a w (record { first = k.first; second = k.second; value = k.value; joined = k.joined; heads = inl k.heads; tails = k.tails })

-- ---- as they are read

module _ (r : Readers) (exact : Exact r) where
  by_class : (c : Lead) (a : List Token) (w : Stmt) (s : List Token) → class_of lead_of Value (a ++ s) ≡ c → LeadOf c a w → LeadOf (class_of lead_of Value (a ++ s)) a w
  by_class c a w s h k = let P : Lead → Type 0 = λ z. LeadOf z a w in subst P (sym h) k

  headed_lead : (a : List Token) (w : Stmt) (s : List Token) → Headed a w → LeadOf (class_of lead_of Value (a ++ s)) a w
  headed_lead a w s k =
      elim k.heads as (λ _. LeadOf (class_of lead_of Value (a ++ s)) a w) [
        | inl p ↦
            let starts : sees starts_expr (a ++ s) ≡ true =
            ap (λ z. sees starts_expr (z ++ s)) k.joined ∙ ap (sees starts_expr) (append_assoc k.first k.second s) ∙ exact.expr_starts k.first k.value (k.second ++ s) p in
            by_class Value a w s (class_value (a ++ s) starts) (record { first = k.first; second = k.second; value = k.value; joined = k.joined; heads = p; tails = k.tails })
        | inr p ↦
            let front : a ≡ p.0 ∷ k.second = k.joined ∙ ap (λ z. z ++ k.second) p.1 in
            let P : Expr → Type 0 = λ z. HeadTail z k.second w in
            by_class Print a w s (ap (λ z. class_of lead_of Value (z ++ s)) front ∙ print_class p.0 p.2) (p.0, k.second, front, p.2, inr (subst P p.3 k.tails))
      ]

  print_lead : (t : Token) (a : List Token) (p : Printed) (b : List Token) → IsPrint b p → b ≡ t ∷ a → (s : List Token) → LeadOf (class_of lead_of Value ((t ∷ a) ++ s)) (t ∷ a) (stmt.Print (node_at t) p)
  print_lead t a _ _ (printed u o c p d h k q l) e s =
      let same : u ≡ t = cc in
      let rest : a ≡ o ∷ (c ++ d ∷ []) = cc in
      let here : is_print_word t ≡ true = ap is_print_word (sym same) ∙ h in
      by_class Print (t ∷ a) _ s (print_class t here) (t, a, refl, here, inl (o, c ++ d ∷ [], rest, k, (c, p, d, refl, q, l, refl)))

  pub simple_lead : (a : List Token) (w : Stmt) (s : List Token) → IsSimple a w → LeadOf (class_of lead_of Value (a ++ s)) a w
  simple_lead _ _ s (g.pass t h) = by_class Pass (t ∷ []) _ s (ap lead_in (keyword_kind (codes "pass") t h)) (t, [], refl, h, (refl, refl))
  simple_lead _ _ s (g.break t h) = by_class Break (t ∷ []) _ s (ap lead_in (keyword_kind (codes "break") t h)) (t, [], refl, h, (refl, refl))
  simple_lead _ _ s (g.continue t h) = by_class Continue (t ∷ []) _ s (ap lead_in (keyword_kind (codes "continue") t h)) (t, [], refl, h, (refl, refl))
  simple_lead _ _ s (g.return t h) = by_class Return (t ∷ []) _ s (ap lead_in (keyword_kind (codes "return") t h)) (t, [], refl, h, inr (refl, refl))
  simple_lead _ _ s (g.return_value t a x h p) = by_class Return (t ∷ a) _ s (ap lead_in (keyword_kind (codes "return") t h)) (t, a, refl, h, inl (x, p, refl))
  simple_lead _ _ s (g.yield t a x h p) = by_class Yield (t ∷ a) _ s (ap lead_in (keyword_kind (codes "yield") t h)) (t, a, refl, h, (x, p, refl))
  simple_lead _ _ s (g.raise t u m h k) =
      by_class Raise (t ∷ u ∷ []) _ s (ap lead_in (keyword_kind (codes "raise") t h))
      (t, u ∷ [], refl, h, record { first = u ∷ []; second = []; value = m; joined = refl; heads = (u, refl, k); tails = inr (refl, refl) })
  simple_lead _ _ s (g.raise_called t u m o c h k i j) =
      by_class Raise (t ∷ u ∷ o ∷ c ∷ []) _ s (ap lead_in (keyword_kind (codes "raise") t h)) (
        t,
        u ∷ o ∷ c ∷ [],
        refl,
        h,
        record { first = u ∷ []; second = o ∷ c ∷ []; value = m; joined = refl; heads = (u, refl, k); tails = inl (o, c ∷ [], refl, i, ([], None, c, refl, inr (refl, refl), j, refl)) },
      )
  simple_lead _ _ s (g.raise_text t u m o a x c h k i p j) =
      by_class Raise (t ∷ u ∷ o ∷ (a ++ c ∷ [])) _ s (ap lead_in (keyword_kind (codes "raise") t h)) (
        t,
        u ∷ o ∷ (a ++ c ∷ []),
        refl,
        h,
        record {
          first = u ∷ [];
          second = o ∷ (a ++ c ∷ []);
          value = m;
          joined = refl;
          heads = (u, refl, k);
          tails = inl (o, a ++ c ∷ [], refl, i, (a, Some x, c, refl, inl (x, p, refl), j, refl));
        },
      )
  simple_lead _ _ s (g.assert t a x h p) =
      by_class Assert (t ∷ a) _ s (ap lead_in (keyword_kind (codes "assert") t h))
      (t, a, refl, h, record { first = a; second = []; value = x; joined = sym (append-nil a); heads = p; tails = inr (refl, refl) })
  simple_lead _ _ s (g.assert_text t a x c b y h p k q) =
      by_class Assert (t ∷ (a ++ c ∷ b)) _ s (ap lead_in (keyword_kind (codes "assert") t h))
      (t, a ++ c ∷ b, refl, h, record { first = a; second = c ∷ b; value = x; joined = refl; heads = p; tails = inl (c, b, refl, k, (y, q, refl)) })
  simple_lead _ _ s (g.annotated t m c a type h k p) =
      let P : List Token → Type 0 = λ z. Headed (t ∷ c ∷ z) (stmt.Annotated (node_at t) m type None) in
      headed_lead (t ∷ c ∷ a) _ s (subst P (append-nil a) (note_headed t m h c k a type p [] None (inr (refl, refl))))
  simple_lead _ _ s (g.annotated_value t m c a type e b x h k p i q) =
      headed_lead (t ∷ c ∷ (a ++ e ∷ b)) _ s (note_headed t m h c k a type p (e ∷ b) (Some x) (inl (e, b, refl, i, (x, q, refl))))
  simple_lead _ _ s (g.assign a x e b y p h q) = headed_lead (a ++ e ∷ b) _ s (assign_headed a x e b y p h q)
  simple_lead _ _ s (g.update a x t o b y p h q) =
      let k = target_head a x p in
      let v = stmt.Update (node_of_target x) x o y in
      let P : Option _ → Type 0 = λ z. UpdateTo z (t ∷ b) v in
      headed_lead (a ++ t ∷ b) v s
      (record {
        first = a;
        second = t ∷ b;
        value = k.0;
        joined = refl;
        heads = k.1;
        tails = (Augmented, subst P (sym k.2) (record { first = t ∷ []; second = b; value = o; joined = refl; heads = (t, refl, h); tails = (y, q, refl) }));
      })
  simple_lead _ _ s (g.pipeline a x b stages p q) =
      headed_lead (a ++ b) _ s (record { first = a; second = b; value = x; joined = refl; heads = inl p; tails = (Piped, (ap not (expr_not_print a x p), (stages, q, refl))) })
  simple_lead _ _ s (g.print t a p q) = print_lead t a p (t ∷ a) q refl s
  simple_lead _ _ s (g.evaluate a x p) = headed_lead a _ s (items_headed a x p)

  pub simple_law : (n : ℕ) → 1 ≤ n → (ts : List Token) → Law IsSimple (Limited IsSimple (LowStmt n)) simple_on ts (reading.simple r n ts)
  unfolding reading.simple
  simple_law n some ts =
      sort_limited lead_of Value IsSimple LeadOf (LowStmt n) simple_on lead_simple (λ a w s g free. simple_lead a w s g) ts _
      (lead_law r exact n some (class_of lead_of Value ts) ts refl)
