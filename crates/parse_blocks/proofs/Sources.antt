-- The law of whole sources.
use Rattle.std.proofs.Common.{◌≡◌, ℕ, ◌≤◌, Bool, true, false, not, ◌||◌, List, [], ◌∷◌, ◌++◌, map, refl, sym, ap, subst, inl, inr, codes, arith}
use Rattle.indent_lexer.specs.declared.token.Token.{Token}
use Rattle.indent_lexer.specs.declared.token.TokenKind.{TokenKind}
use Rattle.indent_lexer.specs.declared.token.TokenKind.TheVariants as kind
use Rattle.source_trees.specs.declared.item.Item.{Item}
use Rattle.source_trees.specs.declared.item.Item.TheVariants as item
use Rattle.source_trees.specs.declared.item.Module.{Module}
use Rattle.source_trees.specs.declared.statement.Stmt.{Stmt}
use Rattle.source_trees.specs.Heights.{highest, height_of_item, height_of}
use Rattle.parse_laws.specs.Parser.{sees, pure, choose, ◌>>=◌}
use Rattle.parse_laws.specs.Language.{Language, Free, Law}
use Rattle.parse_laws.specs.Forms.{Made, Closes, Either, any}
use Rattle.parse_laws.specs.Limits.{Limited}
use Rattle.parse_laws.proofs.Limits.{same_law, made_limited, close_limited, either_law}
use Rattle.parse_laws.proofs.Lists.{FitEach}
use Rattle.parse_laws.proofs.Repeats.{at_head}
use Rattle.parse_laws.proofs.Whole.{all_law}
use Rattle.grammar_rules.specs.Modules as g
use Rattle.grammar_rules.specs.Modules.{IsFunction, IsClass, IsTop, IsTops, Derives, most_height}
use Rattle.grammar_rules.specs.Refusals.{IsLow}
use Rattle.grammar_rules.specs.Statements.{IsStmt}
use Rattle.grammar_rules.specs.Words.{is_end, is_end_kind, is_spelled, keyword_in}
use Rattle.parse_expressions.proofs.Opens.{sample}
use Rattle.parse_expressions.proofs.Tokens.{keyword_kind, not_keyword, or_first, or_second}
use Rattle.parse_statements.specs.Readers.{Readers, Exact}
use Rattle.parse_statements.proofs.Many.{Follows}
use Rattle.parse_blocks.specs.Blocks.{starts_stmt, stmt_on, statement}
use Rattle.parse_blocks.specs.Functions.{is_def, is_class, function, class}
use Rattle.parse_blocks.specs.Gather.{Gathered, none, more}
use Rattle.parse_blocks.specs.Sources as reading
use Rattle.parse_blocks.specs.Sources.{starts_top, tops_on, as_items, source_of}
use Rattle.parse_blocks.proofs.Classes.{LowClass, class_opens, class_law}
use Rattle.parse_blocks.proofs.Functions.{LowFunction, function_opens, function_law}
use Rattle.parse_blocks.proofs.Gather.{Onto, gather_law}
use Rattle.parse_blocks.proofs.Heights.{LowBody}
use Rattle.parse_blocks.proofs.Marks.{stmt_kind, not_it, not_both, false_not, neither}
use Rattle.parse_blocks.proofs.Statements.{stmt_opens, statement_law}

-- ---- heights

-- the item has at most this height
abbrev pub LowItem : ℕ → Item → Type 0
LowItem n i = height_of_item i ≤ n

items_body : (n : ℕ) (ss : List Stmt) → FitEach (LowItem n) (as_items ss) → LowBody n ss
items_body n [] f = tt
items_body n (s ∷ ss) f = (f.0, items_body n ss f.1)

body_items : (n : ℕ) (ss : List Stmt) → LowBody n ss → FitEach (LowItem n) (as_items ss)
body_items n [] f = tt
body_items n (s ∷ ss) f = (f.0, body_items n ss f.1)

items_up : (n : ℕ) (its : List Item) → FitEach (LowItem n) its → highest (map height_of_item its) ≤ n
items_up n [] f = omega arith
items_up n (i ∷ its) f = let k = f.0 in let l = items_up n its f.1 in omega arith

items_down : (n : ℕ) (its : List Item) → highest (map height_of_item its) ≤ n → FitEach (LowItem n) its
items_down n [] f = tt
items_down n (i ∷ its) f = (omega arith, items_down n its (omega arith))

-- ---- tokens

def_no_class : (t : Token) → is_class t ≡ true → is_def t ≡ false
def_no_class t h = ap (λ k. is_spelled (keyword_in k) (codes "def")) (keyword_kind (codes "class") t h)

stmt_no_def : (t : Token) → starts_stmt t ≡ true → is_def t ≡ false
stmt_no_def t h = not_keyword stmt_kind (codes "def") refl t h

stmt_no_class : (t : Token) → starts_stmt t ≡ true → is_class t ≡ false
stmt_no_class t h = not_keyword stmt_kind (codes "class") refl t h

def_top : (t : Token) → is_def t ≡ true → starts_top t ≡ true
def_top t h = or_first (is_def t) (is_class t || starts_stmt t) h

class_top : (t : Token) → is_class t ≡ true → starts_top t ≡ true
class_top t h = or_second (is_def t) (is_class t || starts_stmt t) (or_first (is_class t) (starts_stmt t) h)

stmt_top : (t : Token) → starts_stmt t ≡ true → starts_top t ≡ true
stmt_top t h = or_second (is_def t) (is_class t || starts_stmt t) (or_second (is_class t) (starts_stmt t) h)

abbrev top_kind : TokenKind → Bool
top_kind k = is_spelled (keyword_in k) (codes "def") || (is_spelled (keyword_in k) (codes "class") || stmt_kind k)

end_top_in : (k : TokenKind) → is_end_kind k ≡ true → top_kind k ≡ false
end_top_in kind.End h = refl
end_top_in _ h = absurd (cc)

top_own : (t : Token) → starts_top t ≡ true → tops_on t ≡ true
top_own t h = not_it (is_end t) (not_both (is_end t) (starts_top t) (end_top_in t.kind) h)

end_on_in : (k : TokenKind) → is_end_kind k ≡ true → is_spelled (keyword_in k) (codes "elif") || is_spelled (keyword_in k) (codes "else") ≡ false
end_on_in kind.End h = refl
end_on_in _ h = absurd (cc)

top_wider : (t : Token) → tops_on t ≡ false → stmt_on t ≡ false
top_wider t h = end_on_in t.kind (false_not (is_end t) h)

top_next : (t : Token) → starts_top t ≡ true → stmt_on t ≡ false
top_next t h = neither _ _ (not_keyword top_kind (codes "elif") refl t h) (not_keyword top_kind (codes "else") refl t h)

-- ---- what stands at the top, by its first token

abbrev DefOf : Language Token (List Item)
DefOf = Made IsFunction (λ f. item.Function f ∷ [])

abbrev ClassOf : Language Token (List Item)
ClassOf = Made IsClass (λ c. item.Class c ∷ [])

abbrev StmtsOf : Language Token (List Item)
StmtsOf = Made IsStmt as_items

abbrev FromClass : Language Token (List Item)
FromClass = Either ClassOf StmtsOf

abbrev TopOf : Language Token (List Item)
TopOf = Either DefOf FromClass

top_read : (a : List Token) (w : List Item) → TopOf a w → IsTop a w
top_read a w (inl k) = let P : List Item → Type 0 = λ z. IsTop a z in subst P (sym k.2) (g.function a k.0 k.1)
top_read a w (inr (inl k)) = let P : List Item → Type 0 = λ z. IsTop a z in subst P (sym k.2) (g.class a k.0 k.1)
top_read a w (inr (inr k)) = let P : List Item → Type 0 = λ z. IsTop a z in subst P (sym k.2) (g.statements a k.0 k.1)

read_top : (a : List Token) (w : List Item) → IsTop a w → TopOf a w
read_top _ _ (g.function a f p) = inl (f, p, refl)
read_top _ _ (g.class a c p) = inr (inl (c, p, refl))
read_top _ _ (g.statements a body p) = inr (inr (body, p, refl))

gathered_tops : (a : List Token) (w : List Item) → Gathered IsTop a w → IsTops a w
gathered_tops _ _ none = g.no_more
gathered_tops _ _ (more a ys b zs p rest) = g.another a ys b zs p (gathered_tops b zs rest)

tops_gathered : (a : List Token) (w : List Item) → IsTops a w → Gathered IsTop a w
tops_gathered _ _ g.no_more = none
tops_gathered _ _ (g.another a ys b zs p rest) = more a ys b zs p (tops_gathered b zs rest)

onto_tops : (a : List Token) (w : List Item) → Onto IsTop (LowItem 0) [] a w → IsTops a w
onto_tops a w k = let P : List Item → Type 0 = λ z. IsTops a z in subst P (sym k.2) (gathered_tops a k.0 k.1)

tops_onto : (a : List Token) (w : List Item) → IsTops a w → Onto IsTop (LowItem 0) [] a w
tops_onto a w p = (w, tops_gathered a w p, refl)

abbrev SourceOf : Language Token Module
SourceOf = Closes IsTops is_end source_of

source_read : (a : List Token) (w : Module) → SourceOf a w → Derives a w
source_read a w k =
    let P : List Token → Type 0 = λ z. Derives z w in
    let Q : Module → Type 0 = λ z. Derives (k.0 ++ k.2 ∷ []) z in
    subst P (sym k.3) (subst Q (sym k.6) (g.module_of k.0 k.1 k.2 k.4 k.5))

read_source : (a : List Token) (w : Module) → Derives a w → SourceOf a w
read_source _ _ (g.module_of a all t p h) = (a, all, t, refl, p, h, refl)

-- each item of the source has at most this height
abbrev pub LowModule : ℕ → Module → Type 0
LowModule n m = height_of m ≤ n

-- ---- the laws

module _ (r : Readers) (exact : Exact r) where
  top_opens : (a : List Token) (w : List Item) (s : List Token) → IsTop a w → sees starts_top (a ++ s) ≡ true
  top_opens _ _ s (g.statements a body p) = at_head starts_stmt starts_top true stmt_top (a ++ s) (stmt_opens r exact a body s p)
  top_opens _ _ s (g.function a f p) = at_head is_def starts_top true def_top (a ++ s) (function_opens a f s p)
  top_opens _ _ s (g.class a c p) = at_head is_class starts_top true class_top (a ++ s) (class_opens a c s p)

  no_def : (a : List Token) (w : List Item) (s : List Token) → FromClass a w → Free stmt_on s → sees is_def (a ++ s) ≡ false
  no_def a w s (inl k) free = at_head is_class is_def false def_no_class (a ++ s) (class_opens a k.0 s k.1)
  no_def a w s (inr k) free = at_head starts_stmt is_def false stmt_no_def (a ++ s) (stmt_opens r exact a k.0 s k.1)

  no_class : (a : List Token) (w : List Item) (s : List Token) → StmtsOf a w → Free stmt_on s → sees is_class (a ++ s) ≡ false
  no_class a w s k free = at_head starts_stmt is_class false stmt_no_class (a ++ s) (stmt_opens r exact a k.0 s k.1)

  top_law : (n : ℕ) → 4 ≤ n → (ts : List Token) → Law IsTop (Limited IsTop (FitEach (LowItem n))) stmt_on ts (reading.top r n ts)
  unfolding reading.top
  top_law n four ts =
      same_law TopOf IsTop (FitEach (LowItem n)) stmt_on top_read read_top ts _
      (either_law DefOf FromClass (FitEach (LowItem n)) stmt_on is_def (λ a w s k. function_opens a k.0 s k.1) no_def (function r n >>= λ f. pure (item.Function f ∷ [])) (choose is_class (class r n >>= λ c. pure (item.Class c ∷ [])) (statement r n >>= λ ss. pure (as_items ss))) ts
      (λ h. made_limited IsFunction stmt_on (λ f. item.Function f ∷ []) (LowFunction n) (FitEach (LowItem n)) (record { grows = λ f l. (l, tt); shrinks = λ f l. l.0 })
      ts (function r n ts) (function_law r exact n (omega arith) stmt_on ts))
      (λ h. either_law ClassOf StmtsOf (FitEach (LowItem n)) stmt_on is_class (λ a w s k. class_opens a k.0 s k.1) no_class
      (class r n >>= λ c. pure (item.Class c ∷ [])) (statement r n >>= λ ss. pure (as_items ss)) ts
      (λ h. made_limited IsClass stmt_on (λ c. item.Class c ∷ []) (LowClass n) (FitEach (LowItem n)) (record { grows = λ c l. (l, tt); shrinks = λ c l. l.0 })
      ts (class r n ts) (class_law r exact n four stmt_on ts))
      (λ h. made_limited IsStmt stmt_on as_items (LowBody n) (FitEach (LowItem n)) (record { grows = body_items n; shrinks = items_body n })
      ts (statement r n ts) (statement_law r exact n (omega arith) ts))))

  top_follows : Follows IsTop starts_top stmt_on tops_on
  top_follows = record { opens = top_opens; own = top_own; wider = top_wider; next = top_next }

  tops_law : (n : ℕ) → 4 ≤ n → (ts : List Token) → Law IsTops (Limited IsTops (FitEach (LowItem n))) tops_on ts (reading.tops r n ts)
  unfolding reading.tops
  tops_law n four ts =
      same_law (Onto IsTop (LowItem 0) []) IsTops (FitEach (LowItem n)) tops_on onto_tops tops_onto ts _
      (gather_law IsTop (LowItem n) starts_top stmt_on tops_on top_follows (reading.top r n) (λ us h. top_law n four us) [] tt ts)

  pub source_at_law : (n : ℕ) → 4 ≤ n → (cont : Token → Bool) (ts : List Token) → Law Derives (Limited Derives (LowModule n)) cont ts (reading.source_at r n ts)
  unfolding reading.source_at
  source_at_law n four cont ts =
      same_law SourceOf Derives (LowModule n) cont source_read read_source ts _
      (close_limited is_end (sample kind.End) refl IsTops tops_on cont (λ t h. ap not h) source_of (FitEach (LowItem n)) (LowModule n)
      (record { grows = λ its f. items_up n its f; shrinks = λ its f. items_down n its f }) ts (reading.tops r n ts) (tops_law n four ts))

pub source_law : (r : Readers) → Exact r → (ts : List Token) → Law Derives (Limited Derives IsLow) any ts (reading.source r ts)
unfolding reading.source
source_law r exact ts = all_law Derives IsLow any (reading.source_at r most_height) ts (source_at_law r exact most_height (omega arith) any ts)
