-- The law of what stands in the brackets of `print(..)`.
use Rattle.std.proofs.Common.{◌≡◌, ℕ, ◌≤◌, nat_le, Bool, true, false, not, cond, ◌||◌, ◌&&◌, List, [], ◌∷◌, ◌++◌, length, refl, sym, ◌∙◌, ap, subst, append_assoc, inl, inr, Option, Some, None, codes, arith}
use Rattle.std.specs.Str.{bytes_eq}
use Rattle.std.proofs.lemmas.Slice.Eq.{bytes_eq-Decides}
use Rattle.std.proofs.lemmas.List.{append-nil}
use Rattle.indent_lexer.specs.declared.token.Token.{Token}
use Rattle.indent_lexer.specs.declared.token.TokenKind.{TokenKind}
use Rattle.indent_lexer.specs.declared.token.TokenKind.TheVariants as kind
use Rattle.source_trees.specs.declared.expression.Expr.{Expr}
use Rattle.source_trees.specs.declared.expression.Expr.TheVariants as e
use Rattle.source_trees.specs.declared.pipeline.PrintOptions.{PrintOptions}
use Rattle.source_trees.specs.declared.pipeline.PrintOptions.TheVariants.{Neither, Sep, End, SepEnd, EndSep}
use Rattle.source_trees.specs.declared.pipeline.Printed.{Printed}
use Rattle.source_trees.specs.declared.statement.Target.{Target}
use Rattle.source_trees.specs.declared.statement.Target.TheVariants as target
use Rattle.parse_laws.specs.Parser.{and_then, sees, pure, choose, expect, take_by, ◌>>=◌}
use Rattle.parse_laws.specs.Language.{Language, Free, Viable, Law}
use Rattle.parse_laws.specs.Forms.{Then, Made, Is, Opens, Picks, Either, never}
use Rattle.parse_laws.specs.Limits.{Limited, Joins}
use Rattle.parse_laws.specs.Loops.{Turns, done, next, Repeated}
use Rattle.parse_laws.proofs.Forms.{wider_at, free_never}
use Rattle.parse_laws.proofs.Limits.{same_law, join_law, nothing_law, made_limited, open_limited, take_limited, optional_law}
use Rattle.parse_laws.proofs.Lists.{FitEach}
use Rattle.parse_laws.proofs.Repeats.{repeat_law}
use Rattle.parse_laws.proofs.Steps.{wider_law}
use Rattle.grammar_rules.specs.Expressions.{IsExpr}
use Rattle.grammar_rules.specs.Words.{is_comma, is_spelled, name_of, op_in, node_at}
use Rattle.parse_expressions.specs.Forms.{Low, carried_by, opened_by}
use Rattle.parse_expressions.specs.declared.form.Form.TheVariants as form
use Rattle.parse_expressions.proofs.Least.{least}
use Rattle.parse_expressions.proofs.Lows.{positive, x_low}
use Rattle.parse_expressions.proofs.Opens.{sample, x_token, x_tree, op_token}
use Rattle.parse_expressions.proofs.Tokens.{op_kind, name_kind}
use Rattle.parse_statements.specs.Targets.{target_of}
use Rattle.parse_statements.specs.Readers.{Readers, Exact, starts_expr, expr_on, has_room}
use Rattle.parse_statements.specs.Heads.{is_equals}
use Rattle.parse_statements.specs.Prints as reading
use Rattle.parse_statements.specs.Prints.{option_after, option_of_name, option_at, option_of_target, option_by, is_neither, is_whole, takes_one, with_value, with_options, SetTo, PrintItem, is_bracket_end, printed_on, print_item_on}
use Rattle.parse_statements.proofs.Marks.{either_word, one_word, not_false, equals_expr}
use Rattle.parse_statements.proofs.States.{and_both, some_same}
use Rattle.parse_statements.proofs.Targets.{target_height, named_expr, name_expr, name_target}

-- ---- heights

each_last : (n : ℕ) (s : List Expr) (y : Expr) → FitEach (Low n) (s ++ y ∷ []) → FitEach (Low n) s × Low n y
each_last n [] y f = (tt, f.0)
each_last n (x ∷ s) y f = let k = each_last n s y f.1 in ((f.0, k.0), k.1)

each_add : (n : ℕ) (s : List Expr) (y : Expr) → FitEach (Low n) s → Low n y → FitEach (Low n) (s ++ y ∷ [])
each_add n [] y f l = (l, tt)
each_add n (x ∷ s) y f l = (f.0, each_add n s y f.1 l)

abbrev pub LowOptions : ℕ → PrintOptions → Type 0
LowOptions n Neither = Unit {0}
LowOptions n (Sep x) = Low n x
LowOptions n (End x) = Low n x
LowOptions n (SepEnd x y) = Low n x × Low n y
LowOptions n (EndSep x y) = Low n x × Low n y

abbrev pub LowPrinted : ℕ → Printed → Type 0
LowPrinted n p = FitEach (Low n) p.values × LowOptions n p.options

-- ---- names of options

-- The four ways to set one more option.
pub option_cases : (o : PrintOptions) (w : List ℕ) (f : Expr → PrintOptions) → option_after o w ≡ Some f → (P : PrintOptions → (Expr → PrintOptions) → List ℕ → Type 0)
    → P Neither (λ z. Sep z) (codes "sep") → P Neither (λ z. End z) (codes "end") → ((x : Expr) → P (Sep x) (λ z. SepEnd x z) (codes "end")) → ((x : Expr) → P (End x) (λ z. EndSep x z) (codes "sep"))
    → P o f w
option_cases Neither w f h P a b c d =
    let Q : (Expr → PrintOptions) → Type 0 = λ z. P Neither z w in
    let go : (x y : Bool) → bytes_eq w (codes "sep") ≡ x → bytes_eq w (codes "end") ≡ y → cond x (Some (λ z. Sep z)) (cond y (Some (λ z. End z)) None) ≡ Some f → P Neither f w = elim [
      | true ↦ λ y i j k. subst Q (some_same _ _ k) (subst (P Neither (λ z. Sep z)) (sym ((bytes_eq-Decides w (codes "sep")).0 i)) a)
      | false ↦ elim [
        | true ↦ λ i j k. subst Q (some_same _ _ k) (subst (P Neither (λ z. End z)) (sym ((bytes_eq-Decides w (codes "end")).0 j)) b)
        | false ↦ λ i j k. absurd (cc)
      ]
    ] in
    go (bytes_eq w (codes "sep")) (bytes_eq w (codes "end")) refl refl h
option_cases (Sep x) w f h P a b c d =
    let Q : (Expr → PrintOptions) → Type 0 = λ z. P (Sep x) z w in
    let go : (y : Bool) → bytes_eq w (codes "end") ≡ y → cond y (Some (λ z. SepEnd x z)) None ≡ Some f → P (Sep x) f w = elim [
      | true ↦ λ j k. subst Q (some_same _ _ k) (subst (P (Sep x) (λ z. SepEnd x z)) (sym ((bytes_eq-Decides w (codes "end")).0 j)) (c x))
      | false ↦ λ j k. absurd (cc)
    ] in
    go (bytes_eq w (codes "end")) refl h
option_cases (End x) w f h P a b c d =
    let Q : (Expr → PrintOptions) → Type 0 = λ z. P (End x) z w in
    let go : (y : Bool) → bytes_eq w (codes "sep") ≡ y → cond y (Some (λ z. EndSep x z)) None ≡ Some f → P (End x) f w = elim [
      | true ↦ λ j k. subst Q (some_same _ _ k) (subst (P (End x) (λ z. EndSep x z)) (sym ((bytes_eq-Decides w (codes "sep")).0 j)) (d x))
      | false ↦ λ j k. absurd (cc)
    ] in
    go (bytes_eq w (codes "sep")) refl h
option_cases (SepEnd x y) w f h P a b c d = absurd (cc)
option_cases (EndSep x y) w f h P a b c d = absurd (cc)

not_print : (o : PrintOptions) (w : List ℕ) (f : Expr → PrintOptions) → option_after o w ≡ Some f → bytes_eq w (codes "print") ≡ false
not_print o w f h = option_cases o w f h (λ o f w. bytes_eq w (codes "print") ≡ false) refl refl (λ x. refl) (λ x. refl)

-- an option is within the limit exactly where its value is
abbrev Keeps : ℕ → (Expr → PrintOptions) → Type 0
Keeps n f = (y : Expr) → (Low n y → LowOptions n (f y)) × (LowOptions n (f y) → Low n y)

option_keeps : (n : ℕ) (o : PrintOptions) (w : List ℕ) (f : Expr → PrintOptions) → option_after o w ≡ Some f → LowOptions n o → Keeps n f
option_keeps n o w f h =
    option_cases o w f h (λ o f w. LowOptions n o → Keeps n f)
    (λ l y. ((λ k. k), (λ k. k))) (λ l y. ((λ k. k), (λ k. k))) (λ x l y. ((λ k. (l, k)), (λ k. k.1))) (λ x l y. ((λ k. (l, k)), (λ k. k.1)))

-- the options before are within the limit where those with one more are
option_before : (n : ℕ) (o : PrintOptions) (w : List ℕ) (f : Expr → PrintOptions) → option_after o w ≡ Some f → (y : Expr) → LowOptions n (f y) → LowOptions n o × Low n y
option_before n o w f h =
    option_cases o w f h (λ o f w. (y : Expr) → LowOptions n (f y) → LowOptions n o × Low n y)
    (λ y k. (tt, k)) (λ y k. (tt, k)) (λ x y k. (k.0, k.1)) (λ x y k. (k.0, k.1))

not_whole : (o : PrintOptions) (w : List ℕ) (f : Expr → PrintOptions) → option_after o w ≡ Some f → is_whole o ≡ false
not_whole o w f h = option_cases o w f h (λ o f w. is_whole o ≡ false) refl refl (λ x. refl) (λ x. refl)

neither_not_whole : (o : PrintOptions) → is_neither o ≡ true → is_whole o ≡ false
neither_not_whole Neither h = refl
neither_not_whole (Sep x) h = absurd (cc)
neither_not_whole (End x) h = absurd (cc)
neither_not_whole (SepEnd x y) h = absurd (cc)
neither_not_whole (EndSep x y) h = absurd (cc)

-- what sets an option, with its name
pub set_named : (p : Printed) (t : Token) (b : List Token) (q : Printed) → SetTo p (option_at p.options t) b q
    → (w : List ℕ) × (f : Expr → PrintOptions) × (name_of t ≡ Some w) × (option_after p.options w ≡ Some f) × SetTo p (Some f) b q
set_named p t b q g =
    let named : (w : List ℕ) → name_of t ≡ Some w → (m : Option (Expr → PrintOptions)) → option_after p.options w ≡ m → SetTo p m b q
    → (w : List ℕ) × (f : Expr → PrintOptions) × (name_of t ≡ Some w) × (option_after p.options w ≡ Some f) × SetTo p (Some f) b q = λ w h. elim [
      | Some f ↦ λ i k. (w, f, h, i, k)
      | None ↦ λ i k. absurd k
    ] in
    let go : (m : Option (List ℕ)) → name_of t ≡ m → SetTo p (option_of_name p.options m) b q
    → (w : List ℕ) × (f : Expr → PrintOptions) × (name_of t ≡ Some w) × (option_after p.options w ≡ Some f) × SetTo p (Some f) b q = elim [
      | Some w ↦ λ h k. named w h (option_after p.options w) refl k
      | None ↦ λ h k. absurd k
    ] in
    go (name_of t) refl g

-- ---- an item, by how it is read

abbrev ItemTail : Printed → Expr → Language Token Printed
ItemTail p x = Either (SetTo p (option_by p.options x)) (Is (with_value p x))

open_up : (p : Printed) → takes_one p ≡ true → (a : List Token) (q : Printed) → Then IsExpr (ItemTail p) a q → PrintItem p a q
open_up p h a q g =
    let named : (w : Option Target) → target_of g.value ≡ w → SetTo p (option_of_target p.options w) g.second q → PrintItem p a q = elim [
      | Some w ↦ elim w as (λ w. target_of g.value ≡ Some w → SetTo p (option_of_target p.options (Some w)) g.second q → PrintItem p a q) [
        | target.Name n s ↦ λ i k.
            let m = named_expr g.first g.value n s g.heads i in
            let P : Option (List ℕ) → Type 0 = λ z. SetTo p (option_of_name p.options z) g.second q in
            inr (m.0, g.second, g.joined ∙ ap (λ z. z ++ g.second) m.1, subst P (sym m.2) k)
        | target.Index n x y ↦ λ i k. absurd k
        | target.Field n x s ↦ λ i k. absurd k
      ]
      | None ↦ λ i k. absurd k
    ] in
    let go : ItemTail p g.value g.second q → PrintItem p a q = elim [
      | inl k ↦ named (target_of g.value) refl k
      | inr k ↦
          let P : List Token → Type 0 = λ z. IsExpr z g.value in
          inl (h, (g.value, subst P (sym (g.joined ∙ ap (λ z. g.first ++ z) k.0 ∙ append-nil g.first)) g.heads, k.1))
    ] in
    go g.tails

open_down : (p : Printed) (a : List Token) (q : Printed) → PrintItem p a q → Then IsExpr (ItemTail p) a q
open_down p a q (inl g) = record { first = a; second = []; value = g.1.0; joined = sym (append-nil a); heads = g.1.1; tails = inr (refl, g.1.2) }
open_down p a q (inr g) =
    let k = set_named p g.0 g.1 q g.3 in
    let x = e.Name (node_at g.0) k.0 in
    let same : option_by p.options x ≡ Some k.1 = ap (option_of_target p.options) (name_target (node_at g.0) k.0) ∙ k.3 in
    let P : Option (Expr → PrintOptions) → Type 0 = λ z. SetTo p z g.1 q in
    record { first = g.0 ∷ []; second = g.1; value = x; joined = g.2; heads = name_expr g.0 k.0 k.2 (not_print p.options k.0 k.1 k.3); tails = inl (subst P (sym same) k.4) }

picked_up : (p : Printed) (a : List Token) (q : Printed) → Then (Picks (option_at p.options)) (λ f. SetTo p (Some f)) a q → PrintItem p a q
picked_up p a q g =
    let P : Option (Expr → PrintOptions) → Type 0 = λ z. SetTo p z g.second q in
    inr (g.heads.0, g.second, g.joined ∙ ap (λ z. z ++ g.second) g.heads.1, subst P (sym g.heads.2) g.tails)

picked_down : (p : Printed) → takes_one p ≡ false → (a : List Token) (q : Printed) → PrintItem p a q → Then (Picks (option_at p.options)) (λ f. SetTo p (Some f)) a q
picked_down p h a q (inl g) = let k = g.0 in absurd (cc)
picked_down p h a q (inr g) =
    let k = set_named p g.0 g.1 q g.3 in
    record { first = g.0 ∷ []; second = g.1; value = k.1; joined = g.2; heads = (g.0, refl, ap (option_of_name p.options) k.2 ∙ k.3); tails = k.4 }

-- an item adds to what is within the limit, and has a height
item_before : (n : ℕ) (p : Printed) (a : List Token) (q : Printed) → PrintItem p a q → LowPrinted n q → LowPrinted n p × (1 ≤ n)
item_before n p a q (inl g) f =
    let P : Printed → Type 0 = λ z. LowPrinted n z in
    let k = subst P g.1.2 f in
    let l = each_last n p.values g.1.0 k.0 in
    let m = positive g.1.0 in
    ((l.0, k.1), let i = l.1 in omega arith)
item_before n p a q (inr g) f =
    let k = set_named p g.0 g.1 q g.3 in
    let P : Printed → Type 0 = λ z. LowPrinted n z in
    let l = subst P k.4.4.2 f in
    let m = option_before n p.options k.0 k.1 k.3 k.4.4.0 l.1 in
    let i = positive k.4.4.0 in
    ((l.0, m.0), let j = m.1 in omega arith)

-- ---- tokens

abbrev print_end : Token → Bool
print_end t = is_comma t || is_bracket_end t

item_expr_in : (k : TokenKind) → is_spelled (op_in k) (codes ",") || is_spelled (op_in k) (codes ")") ≡ true → nat_le (carried_by k) 12 ≡ false
item_expr_in (kind.Op w) h = either_word w (codes ",") (codes ")") (λ z. nat_le (carried_by (kind.Op z)) 12 ≡ false) h refl refl
item_expr_in _ h = absurd (cc)

pub item_expr : (t : Token) → print_item_on t ≡ false → expr_on t ≡ false
item_expr t h = item_expr_in t.kind (not_false (print_end t) h)

equals_item : (t : Token) → is_equals t ≡ true → print_item_on t ≡ true
equals_item t h = ap (λ k. not (is_spelled (op_in k) (codes ",") || is_spelled (op_in k) (codes ")"))) (op_kind (codes "=") t h)

pub comma_item : (t : Token) → is_comma t ≡ true → print_item_on t ≡ false
comma_item t h = ap (λ z. not (z || is_bracket_end t)) h

or_not_true : (x y : Bool) → not y ≡ false → not (x || y) ≡ false
or_not_true true y h = refl
or_not_true false y h = h

pub printed_item : (t : Token) → printed_on t ≡ false → print_item_on t ≡ false
printed_item t h = or_not_true (is_comma t) (is_bracket_end t) h

pub comma_printed : (t : Token) → is_comma t ≡ true → printed_on t ≡ true
comma_printed t h = ap (λ k. not (is_spelled (op_in k) (codes ")"))) (op_kind (codes ",") t h)

starts_printed_in : (k : TokenKind) → nat_le (opened_by k) 3 ≡ true → not (is_spelled (op_in k) (codes ")")) ≡ true
starts_printed_in (kind.Op w) h =
    let go : (x : Bool) → bytes_eq w (codes ")") ≡ x → not x ≡ true = elim [
      | true ↦ λ e. let k : nat_le (opened_by (kind.Op w)) 3 ≡ false = one_word w (codes ")") (λ z. nat_le (opened_by (kind.Op z)) 3 ≡ false) e refl in absurd (cc)
      | false ↦ λ e. refl
    ] in
    go (bytes_eq w (codes ")")) refl
starts_printed_in _ h = refl

pub starts_printed : (t : Token) → starts_expr t ≡ true → printed_on t ≡ true
starts_printed t h = starts_printed_in t.kind h

equals_misses : (s : List Token) → Free print_item_on s → sees is_equals s ≡ false
equals_misses [] free = refl
equals_misses (t ∷ s) free =
    let go : (x : Bool) → is_equals t ≡ x → x ≡ false = elim [ true ↦ λ e. let k = equals_item t e in absurd (cc) | false ↦ λ e. refl ] in
    go (is_equals t) refl

abbrev pub Step : Printed → Language Token Printed
Step p = Opens is_comma (λ _. PrintItem p)

abbrev pub Started : Language Token Printed
Started = Then (PrintItem reading.nothing) (Turns Step)

set_here : (p : Printed) (f : Expr → PrintOptions) (o : Option (Expr → PrintOptions)) → o ≡ Some f → SetTo p o (op_token (codes "=") ∷ x_token ∷ []) (with_options p (f x_tree))
set_here p f o h =
    let P : Option (Expr → PrintOptions) → Type 0 = λ z. SetTo p z (op_token (codes "=") ∷ x_token ∷ []) (with_options p (f x_tree)) in
    subst P (sym h) (op_token (codes "="), x_token ∷ [], refl, refl, (x_tree, least form.Whole, refl))

set_opens : (p : Printed) (o : Option (Expr → PrintOptions)) (a : List Token) (q : Printed) (s : List Token) → SetTo p o a q → sees is_equals (a ++ s) ≡ true
set_opens p None a q s g = absurd g
set_opens p (Some f) a q s g = ap (λ z. sees is_equals (z ++ s)) g.2 ∙ g.3

option_token : (o : PrintOptions) (w : List ℕ) (f : Expr → PrintOptions) → option_after o w ≡ Some f → nat_le (opened_by (kind.Name w)) 3 ≡ true
option_token o w f h = option_cases o w f h (λ o f w. nat_le (opened_by (kind.Name w)) 3 ≡ true) refl refl (λ x. refl) (λ x. refl)

module _ (r : Readers) (exact : Exact r) where
  item_opens : (p : Printed) (a : List Token) (q : Printed) (s : List Token) → PrintItem p a q → sees starts_expr (a ++ s) ≡ true
  item_opens p a q s (inl g) = exact.expr_starts a g.1.0 s g.1.1
  item_opens p a q s (inr g) =
      let k = set_named p g.0 g.1 q g.3 in
      ap (λ z. sees starts_expr (z ++ s)) g.2 ∙ ap (λ z. nat_le (opened_by z) 3) (name_kind g.0 k.0 k.2) ∙ option_token p.options k.0 k.1 k.3

  pub expr_here : (n : ℕ) (ts : List Token) → Law IsExpr (Limited IsExpr (Low n)) print_item_on ts (r.expr n ts)
  expr_here n ts = wider_law IsExpr (Limited IsExpr (Low n)) expr_on print_item_on item_expr ts (r.expr n ts) (exact.expr_law n ts)

  set_law : (n : ℕ) → 1 ≤ n → (p : Printed) → LowPrinted n p → (o : Option (Expr → PrintOptions)) → ((f : Expr → PrintOptions) → o ≡ Some f → Keeps n f)
      → (ts : List Token) → Law (SetTo p o) (Limited (SetTo p o) (LowPrinted n)) print_item_on ts (reading.set_to r n p o ts)
  unfolding reading.set_to
  set_law n some p low None keeps ts = nothing_law (LowPrinted n) print_item_on ts
  set_law n some p low (Some f) keeps ts =
      open_limited is_equals (λ _. Made IsExpr (λ y. with_options p (f y))) (LowPrinted n) print_item_on
      (λ u h. (x_token ∷ [], with_options p (f x_tree), ((x_tree, least form.Whole, refl), (low.0, (keeps f refl x_tree).0 (x_low n some)))))
      ts (λ _. r.expr n >>= λ y. pure (with_options p (f y)))
      (λ u us h k. made_limited IsExpr print_item_on (λ y. with_options p (f y)) (Low n) (LowPrinted n)
      (record { grows = λ y l. (low.0, (keeps f refl y).0 l); shrinks = λ y l. (keeps f refl y).1 l.1 })
      us (r.expr n us) (expr_here n us))

  by_keeps : (n : ℕ) (p : Printed) → LowPrinted n p → (x : Expr) (f : Expr → PrintOptions) → option_by p.options x ≡ Some f → Keeps n f
  by_keeps n p low x f h =
      let go : (w : Option Target) → option_of_target p.options w ≡ Some f → Keeps n f = elim [
        | Some w ↦ elim w as (λ w. option_of_target p.options (Some w) ≡ Some f → Keeps n f) [
          | target.Name m s ↦ λ k. option_keeps n p.options s f k low.1
          | target.Index m x y ↦ λ k. absurd (cc)
          | target.Field m x s ↦ λ k. absurd (cc)
        ]
        | None ↦ λ k. absurd (cc)
      ] in
      go (target_of x) h

  tail_law : (n : ℕ) (p : Printed) → LowPrinted n p → (x : Expr) → Low n x → (ts : List Token)
      → Law (ItemTail p x) (Limited (ItemTail p x) (LowPrinted n)) print_item_on ts (choose is_equals (reading.set_to r n p (option_by p.options x)) (pure (with_value p x)) ts)
  tail_law n p low x l ts =
      let some : 1 ≤ n = let k = positive x in omega arith in
      optional_law (SetTo p (option_by p.options x)) (with_value p x) (LowPrinted n) (each_add n p.values x low.0 l, low.1) print_item_on is_equals
      (λ a q s g. set_opens p (option_by p.options x) a q s g) equals_item (reading.set_to r n p (option_by p.options x)) ts
      (λ h. set_law n some p low (option_by p.options x) (by_keeps n p low x) ts)

  named_low : (n : ℕ) → 1 ≤ n → (o : PrintOptions) (x : Expr) (f : Expr → PrintOptions) → option_by o x ≡ Some f → Low n x
  named_low n some o x f h =
      let go : (w : Option Target) → target_of x ≡ w → option_of_target o w ≡ Some f → Low n x = elim [
        | Some w ↦ elim w as (λ w. target_of x ≡ Some w → option_of_target o (Some w) ≡ Some f → Low n x) [
          | target.Name m s ↦ λ i k. let l = target_height x (target.Name m s) i in omega arith
          | target.Index m y z ↦ λ i k. absurd (cc)
          | target.Field m y s ↦ λ i k. absurd (cc)
        ]
        | None ↦ λ i k. absurd (cc)
      ] in
      go (target_of x) refl h

  set_some : (n : ℕ) (p : Printed) (x : Expr) (f : Expr → PrintOptions) → option_by p.options x ≡ Some f → (y : Expr) → LowOptions n (f y) → 1 ≤ n
  set_some n p x f h y l =
      let go : (w : Option Target) → option_of_target p.options w ≡ Some f → 1 ≤ n = elim [
        | Some w ↦ elim w as (λ w. option_of_target p.options (Some w) ≡ Some f → 1 ≤ n) [
          | target.Name m s ↦ λ k. let i = (option_before n p.options s f k y l).1 in let j = positive y in omega arith
          | target.Index m x y ↦ λ k. absurd (cc)
          | target.Field m x s ↦ λ k. absurd (cc)
        ]
        | None ↦ λ k. absurd (cc)
      ] in
      go (target_of x) h

  tail_shrinks : (n : ℕ) (p : Printed) (x : Expr) (c : List Token) (q : Printed) → ItemTail p x c q → LowPrinted n q → Low n x
  tail_shrinks n p x c q (inl g) f =
      let go : (o : Option (Expr → PrintOptions)) → option_by p.options x ≡ o → SetTo p o c q → Low n x = elim [
        | Some h ↦ λ i k.
            let P : Printed → Type 0 = λ z. LowPrinted n z in
            let l = subst P k.4.2 f in
            let m = set_some n p x h i k.4.0 l.1 in
            named_low n m p.options x h i
        | None ↦ λ i k. absurd k
      ] in
      go (option_by p.options x) refl g
  tail_shrinks n p x c q (inr g) f = let P : Printed → Type 0 = λ z. LowPrinted n z in (each_last n p.values x (subst P g.1 f).0).1

  tail_apart : (p : Printed) (x : Expr) (c : List Token) (q : Printed) (s : List Token) → ItemTail p x c q → Free print_item_on s → Free expr_on (c ++ s)
  tail_apart p x c q s (inl g) free =
      let go : (o : Option (Expr → PrintOptions)) → SetTo p o c q → Free expr_on (c ++ s) = elim [
        | Some h ↦ λ k. ap (λ z. sees expr_on (z ++ s)) k.2 ∙ equals_expr k.0 k.3
        | None ↦ λ k. absurd k
      ] in
      go (option_by p.options x) g
  tail_apart p x c q s (inr g) free = ap (λ z. sees expr_on (z ++ s)) g.0 ∙ wider_at expr_on print_item_on item_expr s free

  joins : (n : ℕ) (p : Printed) → LowPrinted n p → Joins IsExpr expr_on (ItemTail p) print_item_on (Low n) (LowPrinted n)
  joins n p low = record {
    apart = λ a x g c q s h free. tail_apart p x c q s h free;
    ends = λ a x g. ([], with_value p x, inr (refl, refl));
    ends_within = λ a x g f. ([], with_value p x, (inr (refl, refl), (each_add n p.values x low.0 f, low.1)));
    shrinks = λ a x g c q h f. tail_shrinks n p x c q h f;
  }

  at_keeps : (n : ℕ) (p : Printed) → LowPrinted n p → (t : Token) (f : Expr → PrintOptions) → option_at p.options t ≡ Some f → Keeps n f
  at_keeps n p low t f h =
      let go : (w : Option (List ℕ)) → option_of_name p.options w ≡ Some f → Keeps n f = elim [
        | Some w ↦ λ k. option_keeps n p.options w f k low.1
        | None ↦ λ k. absurd (cc)
      ] in
      go (name_of t) h

  abbrev Any : (Expr → PrintOptions) → Type 0
  Any f = Unit {0}

  picked_joins : (n : ℕ) → 1 ≤ n → (p : Printed) → LowPrinted n p → Joins (Picks (option_at p.options)) never (λ f. SetTo p (Some f)) print_item_on Any (LowPrinted n)
  picked_joins n some p low = record {
    apart = λ a f g c q s h free. free_never (c ++ s);
    ends = λ a f g. (op_token (codes "=") ∷ x_token ∷ [], with_options p (f x_tree), (op_token (codes "="), x_token ∷ [], refl, refl, (x_tree, least form.Whole, refl)));
    ends_within = λ a f g l. (
      op_token (codes "=") ∷ x_token ∷ [],
      with_options p (f x_tree),
      ((op_token (codes "="), x_token ∷ [], refl, refl, (x_tree, least form.Whole, refl)), (low.0, (at_keeps n p low g.0 f g.2 x_tree).0 (x_low n some))),
    );
    shrinks = λ a f g c q h l. tt;
  }

  pub item_law : (n : ℕ) (p : Printed) → LowPrinted n p → (takes_one p ≡ false → 1 ≤ n) → (ts : List Token)
      → Law (PrintItem p) (Limited (PrintItem p) (LowPrinted n)) print_item_on ts (reading.print_item r n p ts)
  unfolding reading.print_item
  item_law n p low some ts =
      let go : (x : Bool) → takes_one p ≡ x → Law (PrintItem p) (Limited (PrintItem p) (LowPrinted n)) print_item_on ts
      (cond x (r.expr n >>= λ x. choose is_equals (reading.set_to r n p (option_by p.options x)) (pure (with_value p x))) (take_by (option_at p.options) >>= λ set. reading.set_to r n p (Some set)) ts) = elim [
        | true ↦ λ h.
            same_law (Then IsExpr (ItemTail p)) (PrintItem p) (LowPrinted n) print_item_on (open_up p h) (open_down p) ts _
            (join_law IsExpr expr_on (ItemTail p) print_item_on (Low n) (LowPrinted n) (joins n p low) ts (r.expr n ts) (exact.expr_law n ts)
            (λ x. choose is_equals (reading.set_to r n p (option_by p.options x)) (pure (with_value p x)))
            (λ used x us g f e. tail_law n p low x f us))
        | false ↦ λ h.
            same_law (Then (Picks (option_at p.options)) (λ f. SetTo p (Some f))) (PrintItem p) (LowPrinted n) print_item_on (picked_up p) (picked_down p h) ts _
            (join_law (Picks (option_at p.options)) never (λ f. SetTo p (Some f)) print_item_on Any (LowPrinted n) (picked_joins n (some h) p low) ts
            (take_by (option_at p.options) ts) (take_limited (option_at p.options) Any (λ f. tt) never ts) (λ f. reading.set_to r n p (Some f))
            (λ used f us g l e. set_law n (some h) p low (Some f)
            (λ f2 k. let P : (Expr → PrintOptions) → Type 0 = λ z. Keeps n z in subst P (some_same _ _ k) (at_keeps n p low g.0 f g.2)) us))
      ] in
      go (takes_one p) refl

  -- ---- items with commas

  item_some : (n : ℕ) → 1 ≤ n → (p : Printed) → is_whole p.options ≡ false → LowPrinted n p → Viable (Limited (PrintItem p) (LowPrinted n)) []
  item_some n some p h low =
      let named : (w : List ℕ) (f : Expr → PrintOptions) → option_after p.options w ≡ Some f → Viable (Limited (PrintItem p) (LowPrinted n)) [] = λ w f k. (
        sample (kind.Name w) ∷ op_token (codes "=") ∷ x_token ∷ [],
        with_options p (f x_tree),
        (inr (sample (kind.Name w), op_token (codes "=") ∷ x_token ∷ [], refl, set_here p f (option_of_name p.options (Some w)) k), (low.0, (option_keeps n p.options w f k low.1 x_tree).0 (x_low n some))),
      ) in
      let go : (o : PrintOptions) → p.options ≡ o → is_whole o ≡ false → Viable (Limited (PrintItem p) (LowPrinted n)) [] = elim [
        | Neither ↦ λ e k. named (codes "sep") (λ z. Sep z) (ap (λ o. option_after o (codes "sep")) e)
        | Sep x ↦ λ e k. named (codes "end") (λ z. SepEnd x z) (ap (λ o. option_after o (codes "end")) e)
        | End x ↦ λ e k. named (codes "sep") (λ z. EndSep x z) (ap (λ o. option_after o (codes "sep")) e)
        | SepEnd x y ↦ λ e k. absurd (cc)
        | EndSep x y ↦ λ e k. absurd (cc)
      ] in
      go p.options refl h

  abbrev goes_on : Printed → Token → Bool
  goes_on p t = not (is_whole p.options) && is_comma t

  item_goes : (p : Printed) (a : List Token) (q : Printed) → PrintItem p a q → is_whole p.options ≡ false
  item_goes p a q (inl g) = neither_not_whole p.options (and_both (is_neither p.options) (has_room p.values) g.0).0
  item_goes p a q (inr g) = let k = set_named p g.0 g.1 q g.3 in not_whole p.options k.0 k.1 k.3

  sees_comma : (x : Bool) → x ≡ false → (ts : List Token) → sees is_comma ts ≡ true → sees (λ t. not x && is_comma t) ts ≡ true
  sees_comma true e ts h = absurd (cc)
  sees_comma false e [] h = absurd (cc)
  sees_comma false e (t ∷ ts) h = h

  goes_comma : (x : Bool) (t : Token) → not x && is_comma t ≡ true → is_comma t ≡ true
  goes_comma true t h = absurd (cc)
  goes_comma false t h = h

  goes_false : (x : Bool) (ts : List Token) → sees (λ t. not x && is_comma t) ts ≡ true → x ≡ false
  goes_false true [] h = absurd (cc)
  goes_false true (t ∷ ts) h = absurd (cc)
  goes_false false ts h = refl

  repeated : (n : ℕ) → Repeated goes_on Step (λ p. print_item_on) printed_on (LowPrinted n)
  repeated n = record {
    opens = λ p b q s g. sees_comma (is_whole p.options) (item_goes p g.1 q g.4) (b ++ s) (ap (λ z. sees is_comma (z ++ s)) g.2 ∙ g.3);
    own = λ p t h. comma_printed t (goes_comma (is_whole p.options) t h);
    wider = λ p t h. printed_item t h;
    next = λ p b q t g h. comma_item t (goes_comma (is_whole q.options) t h);
    shrinks = λ p b q g f. (item_before n p g.1 q g.4 f).0;
  }

  more_law : (n : ℕ) → 1 ≤ n → (p : Printed) → LowPrinted n p → (ts : List Token) → Law (Turns Step p) (Limited (Turns Step p) (LowPrinted n)) printed_on ts (reading.more_printed r n p ts)
  unfolding reading.more_printed
  more_law n some p low ts =
      repeat_law goes_on Step (λ p. print_item_on) printed_on (LowPrinted n) (repeated n) (λ q. expect is_comma >>= λ _. reading.print_item r n q)
      (λ q f us h. open_limited is_comma (λ _. PrintItem q) (LowPrinted n) print_item_on (λ t i. item_some n some q (goes_false (is_whole q.options) us h) f) us (λ _. reading.print_item r n q)
      (λ t vs i e. item_law n q f (λ k. some) vs))
      (length ts) p ts (omega arith) low

  turns_apart : (p : Printed) (c : List Token) (q : Printed) (s : List Token) → Turns Step p c q → Free printed_on s → Free print_item_on (c ++ s)
  turns_apart _ _ _ s (done p) free = wider_at print_item_on printed_on printed_item s free
  turns_apart _ _ _ s (next p b u c q g rest) free = ap (λ z. sees print_item_on ((z ++ c) ++ s)) g.2 ∙ comma_item g.0 g.3

  turns_before : (n : ℕ) (p : Printed) (c : List Token) (q : Printed) → Turns Step p c q → LowPrinted n q → LowPrinted n p
  turns_before n _ _ _ (done p) f = f
  turns_before n _ _ _ (next p b u c q g rest) f = (item_before n p g.1 u g.4 (turns_before n u c q rest f)).0

  started_law : (n : ℕ) (ts : List Token) → Law Started (Limited Started (LowPrinted n)) printed_on ts (and_then (reading.print_item r n reading.nothing ts) (reading.more_printed r n))
  started_law n ts =
      join_law (PrintItem reading.nothing) print_item_on (Turns Step) printed_on (LowPrinted n) (LowPrinted n)
      (record {
        apart = λ a p g c q s h free. turns_apart p c q s h free;
        ends = λ a p g. ([], p, done p);
        ends_within = λ a p g f. ([], p, (done p, f));
        shrinks = λ a p g c q h f. turns_before n p c q h f;
      }) ts (reading.print_item r n reading.nothing ts) (item_law n reading.nothing (tt, tt) (λ h. absurd (cc)) ts) (reading.more_printed r n)
      (λ used p us g f e. more_law n (item_before n reading.nothing used p g f).1 p f us)

  pub any_printed_law : (n : ℕ) (ts : List Token) → Law (Either Started (Is reading.nothing)) (Limited (Either Started (Is reading.nothing)) (LowPrinted n)) printed_on ts (reading.printed r n ts)
  unfolding reading.printed
  any_printed_law n ts =
      optional_law Started reading.nothing (LowPrinted n) (tt, tt) printed_on starts_expr
      (λ a q s g. ap (λ z. sees starts_expr (z ++ s)) g.joined ∙ ap (sees starts_expr) (append_assoc g.first g.second s) ∙ item_opens reading.nothing g.first g.value (g.second ++ s) g.heads)
      starts_printed (λ us. and_then (reading.print_item r n reading.nothing us) (reading.more_printed r n)) ts (λ h. started_law n ts)
