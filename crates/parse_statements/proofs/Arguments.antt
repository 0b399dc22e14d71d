-- The law of the arguments of a stage.
use Rattle.std.proofs.Common.{◌≡◌, ℕ, ◌+◌, ◌≤◌, nat_le, nat_lt, Bool, true, false, not, ◌||◌, ◌&&◌, List, [], ◌∷◌, ◌++◌, length, map, refl, sym, ◌∙◌, ap, subst, append_assoc, ◌⊎◌, inl, inr, Option, Some, None, codes, arith}
use Rattle.std.proofs.lemmas.List.{append-nil, length-append}
use Rattle.std.proofs.lemmas.Bool.{ltb-true, lt-ltb}
use Rattle.indent_lexer.specs.declared.token.Token.{Token}
use Rattle.indent_lexer.specs.declared.token.TokenKind.{TokenKind}
use Rattle.indent_lexer.specs.declared.token.TokenKind.TheVariants as kind
use Rattle.source_trees.specs.declared.expression.Expr.{Expr}
use Rattle.parse_laws.specs.Parser.{and_then, sees, pure, expect, repeat, row_turn, ◌>>=◌}
use Rattle.parse_laws.specs.Language.{Language, Free, Law}
use Rattle.parse_laws.specs.Forms.{Then, Made, Is, Opens, Either}
use Rattle.parse_laws.specs.Limits.{Limited, Joins}
use Rattle.parse_laws.specs.Loops.{Listed, row_test}
use Rattle.parse_laws.proofs.Choices.{choose_law}
use Rattle.parse_laws.proofs.Forms.{wider_at}
use Rattle.parse_laws.proofs.Limits.{same_law, join_law, made_limited, open_limited, optional_law, pure_limited}
use Rattle.parse_laws.proofs.Lists.{FitEach}
use Rattle.parse_laws.proofs.Steps.{widen}
use Rattle.grammar_rules.specs.Expressions.{IsExpr}
use Rattle.grammar_rules.specs.Simple.{IsStageArgument, value, piped, IsStageArguments, no_arguments, unplaced, placed}
use Rattle.grammar_rules.specs.Words.{is_comma, is_spelled, op_in, most_items}
use Rattle.parse_expressions.specs.Forms.{Low, opened_by}
use Rattle.parse_expressions.proofs.Tokens.{op_kind}
use Rattle.parse_statements.specs.Readers.{Readers, Exact, starts_expr}
use Rattle.parse_statements.specs.Prints.{printed_on, print_item_on}
use Rattle.parse_statements.specs.Stages as reading
use Rattle.parse_statements.specs.Stages.{is_dots, filled, has_piped, cut, may_pass, starts_argument, begins_argument}
use Rattle.parse_statements.proofs.Commas.{Allowed, GrowsBy, ItemAfter, ListedBy, Following, Tail, first_kept, list_parts, parts_list, following_law}
use Rattle.parse_statements.proofs.Marks.{one_word}
use Rattle.parse_statements.proofs.Prints.{comma_item, printed_item, comma_printed, starts_printed, expr_here}

-- an argument within a limit of height
abbrev pub LowArgument : ℕ → Option Expr → Type 0
LowArgument n (Some x) = Low n x
LowArgument n None = Unit {0}

abbrev Arguments : Language Token (List (Option Expr) × Bool)
Arguments = ListedBy is_comma IsStageArgument may_pass

-- ---- how many arguments, and where the piped value stands

filled-append : (v ys : List (Option Expr)) → filled (v ++ ys) ≡ filled v ++ filled ys
filled-append [] ys = refl
filled-append (Some x ∷ v) ys = ap (λ z. x ∷ z) (filled-append v ys)
filled-append (None ∷ v) ys = filled-append v ys

piped-snoc : (v : List (Option Expr)) (y : Option Expr) → has_piped v ≡ true → has_piped (v ++ y ∷ []) ≡ true
piped-snoc [] y h = absurd (cc)
piped-snoc (Some x ∷ v) y h = piped-snoc v y h
piped-snoc (None ∷ v) y h = refl

piped-last : (v : List (Option Expr)) → has_piped (v ++ None ∷ []) ≡ true
piped-last [] = refl
piped-last (Some x ∷ v) = piped-last v
piped-last (None ∷ v) = refl

piped-value : (v : List (Option Expr)) (x : Expr) → has_piped (v ++ Some x ∷ []) ≡ has_piped v
piped-value [] x = refl
piped-value (Some y ∷ v) x = piped-value v x
piped-value (None ∷ v) x = refl

filled-value : (v : List (Option Expr)) (x : Expr) → length (filled (v ++ Some x ∷ [])) ≡ length (filled v) + 1
filled-value v x = ap length (filled-append v (Some x ∷ [])) ∙ length-append (filled v) (x ∷ [])

filled-none : (v : List (Option Expr)) → length (filled (v ++ None ∷ [])) ≡ length (filled v)
filled-none v = ap length (filled-append v (None ∷ []) ∙ append-nil (filled v))

filled-map : (xs : List Expr) → filled (map Some xs) ≡ xs
filled-map [] = refl
filled-map (x ∷ xs) = ap (λ z. x ∷ z) (filled-map xs)

few : (v ys : List (Option Expr)) → GrowsBy may_pass v ys → length (filled v) ≤ most_items → length (filled v) + length (filled ys) ≤ most_items
few v [] g l = omega arith
few v (Some x ∷ ys) g l =
    let h = ltb-true (length (filled v)) most_items g.0 in
    let i = filled-value v x in
    let k = few (v ++ Some x ∷ []) ys g.1 (omega arith) in
    let j : length (x ∷ filled ys) ≡ length (filled ys) + 1 = omega arith in
    omega arith
few v (None ∷ ys) g l =
    let i = filled-none v in
    let k = few (v ++ None ∷ []) ys g.1 (omega arith) in
    omega arith

-- no second piped value
rest_values : (v ys : List (Option Expr)) → GrowsBy may_pass v ys → has_piped v ≡ true → ys ≡ map Some (filled ys)
rest_values v [] g h = refl
rest_values v (Some x ∷ ys) g h = ap (λ z. Some x ∷ z) (rest_values (v ++ Some x ∷ []) ys g.1 (piped-snoc v (Some x) h))
rest_values v (None ∷ ys) g h = let k = g.0 in let l : not (has_piped v) ≡ false = ap not h in absurd (cc)

abbrev Shape : List Expr → List (Option Expr) → Type 0
Shape before ys =
    ((ys ≡ map Some (filled ys)) × (cut before ys ≡ ([], before ++ filled ys)))
    ⊎ ((xs : List Expr) × (zs : List Expr) × (ys ≡ map Some xs ++ None ∷ map Some zs) × (cut before ys ≡ (before ++ xs, zs)) × (length (filled ys) ≡ length xs + length zs))

shape_value : (before : List Expr) (x : Expr) (ys : List (Option Expr)) → Shape (before ++ x ∷ []) ys → Shape before (Some x ∷ ys)
shape_value before x ys (inl g) = inl (ap (λ z. Some x ∷ z) g.0, g.1 ∙ ap (λ z. ([], z)) (append_assoc before (x ∷ []) (filled ys)))
shape_value before x ys (inr g) =
    inr (x ∷ g.0, g.1, ap (λ z. Some x ∷ z) g.2, g.3 ∙ ap (λ z. (z, g.1)) (append_assoc before (x ∷ []) g.0), let k = g.4 in omega arith)

shape : (v ys : List (Option Expr)) → GrowsBy may_pass v ys → (before : List Expr) → Shape before ys
shape v [] g before = inl (refl, ap (λ z. ([], z)) (sym (append-nil before)))
shape v (Some x ∷ ys) g before = shape_value before x ys (shape (v ++ Some x ∷ []) ys g.1 (before ++ x ∷ []))
shape v (None ∷ ys) g before =
    let k = rest_values (v ++ None ∷ []) ys g.1 (piped-last v) in
    inr ([], filled ys, ap (λ z. None ∷ z) k, ap (λ z. (z, filled ys)) (sym (append-nil before)), omega arith)

arguments_of : (a : List Token) (w : List (Option Expr) × Bool) → Arguments a w → IsStageArguments a (cut [] w.0).0 (cut [] w.0).1
arguments_of a w g =
    let small = few [] w.0 g.1 (omega arith) in
    let go : Shape [] w.0 → IsStageArguments a (cut [] w.0).0 (cut [] w.0).1 = elim [
      | inl k ↦
          let P : List Expr × List Expr → Type 0 = λ z. IsStageArguments a z.0 z.1 in
          let Q : List (Option Expr) → Type 0 = λ z. Listed is_comma IsStageArgument a (z, w.1) in
          subst P (sym k.1) (unplaced a (filled w.0) w.1 (subst Q k.0 g.0) (omega arith))
      | inr k ↦
          let P : List Expr × List Expr → Type 0 = λ z. IsStageArguments a z.0 z.1 in
          let Q : List (Option Expr) → Type 0 = λ z. Listed is_comma IsStageArgument a (z, w.1) in
          let l = k.4 in
          subst P (sym k.3) (placed a k.0 k.1 w.1 (subst Q k.2 g.0) (omega arith))
    ] in
    go (shape [] w.0 g.1 [])

-- ---- the other way

grows_values : (v : List (Option Expr)) (xs : List Expr) (ys : List (Option Expr)) → length (filled v) + length xs ≤ most_items
    → GrowsBy may_pass (v ++ map Some xs) ys → GrowsBy may_pass v (map Some xs ++ ys)
grows_values v [] ys l g = let P : List (Option Expr) → Type 0 = λ z. GrowsBy may_pass z ys in subst P (append-nil v) g
grows_values v (x ∷ xs) ys l g =
    let i = filled-value v x in
    let j : length (x ∷ xs) ≡ length xs + 1 = omega arith in
    let P : List (Option Expr) → Type 0 = λ z. GrowsBy may_pass z ys in
    (lt-ltb (length (filled v)) most_items (omega arith), grows_values (v ++ Some x ∷ []) xs ys (omega arith) (subst P (sym (append_assoc v (Some x ∷ []) (map Some xs))) g))

piped-map : (xs : List Expr) → has_piped (map Some xs) ≡ false
piped-map [] = refl
piped-map (x ∷ xs) = piped-map xs

cut_values : (before xs : List Expr) → cut before (map Some xs) ≡ ([], before ++ xs)
cut_values before [] = ap (λ z. ([], z)) (sym (append-nil before))
cut_values before (x ∷ xs) = cut_values (before ++ x ∷ []) xs ∙ ap (λ z. ([], z)) (append_assoc before (x ∷ []) xs)

cut_placed : (before xs ys : List Expr) → cut before (map Some xs ++ None ∷ map Some ys) ≡ (before ++ xs, ys)
cut_placed before [] ys = ap (λ z. (z, filled (map Some ys))) (sym (append-nil before)) ∙ ap (λ z. (before ++ [], z)) (filled-map ys)
cut_placed before (x ∷ xs) ys = cut_placed (before ++ x ∷ []) xs ys ∙ ap (λ z. (z, ys)) (append_assoc before (x ∷ []) xs)

-- as arguments that are read, none or more
abbrev pub Read : Language Token (List (Option Expr))
Read = Either (Made Arguments (λ w. w.0)) (Is [])

pub arguments_read : (a : List Token) (before after : List Expr) → IsStageArguments a before after → (ys : List (Option Expr)) × Read a ys × (cut [] ys ≡ (before, after))
arguments_read _ _ _ no_arguments = ([], inr (refl, refl), refl)
arguments_read _ _ _ (unplaced a xs more g l) =
    let P : List (Option Expr) → Type 0 = λ z. GrowsBy may_pass [] z in
    (map Some xs, inl ((map Some xs, more), (g, subst P (append-nil (map Some xs)) (grows_values [] xs [] (omega arith) tt)), refl), cut_values [] xs)
arguments_read _ _ _ (placed a xs ys more g l) =
    let m : filled (map Some xs) ≡ xs = filled-map xs in
    let k : length (filled ((map Some xs) ++ None ∷ [])) ≡ length xs = filled-none (map Some xs) ∙ ap length m in
    let P : List (Option Expr) → Type 0 = λ z. GrowsBy may_pass (map Some xs ++ None ∷ []) z in
    let later = subst P (append-nil (map Some ys)) (grows_values (map Some xs ++ None ∷ []) ys [] (omega arith) tt) in (
      map Some xs ++ None ∷ map Some ys,
      inl ((map Some xs ++ None ∷ map Some ys, more), (g, grows_values [] xs (None ∷ map Some ys) (omega arith) (ap not (piped-map xs), later)), refl),
      cut_placed [] xs ys,
    )

pub read_arguments : (a : List Token) (ys : List (Option Expr)) → Read a ys → IsStageArguments a (cut [] ys).0 (cut [] ys).1
read_arguments a ys (inl g) = let P : List (Option Expr) → Type 0 = λ z. IsStageArguments a (cut [] z).0 (cut [] z).1 in subst P (sym g.2) (arguments_of a g.0 g.1)
read_arguments a ys (inr g) =
    let P : List Token → Type 0 = λ z. IsStageArguments z (cut [] ys).0 (cut [] ys).1 in
    let Q : List (Option Expr) → Type 0 = λ z. IsStageArguments [] (cut [] z).0 (cut [] z).1 in
    subst P (sym g.0) (subst Q (sym g.1) no_arguments)

-- ---- the law

abbrev Dots : Language Token (Option Expr)
Dots = Opens is_dots (λ _. Is None)

abbrev Values : Language Token (Option Expr)
Values = Made IsExpr Some

dots_piped : (a : List Token) (y : Option Expr) → Dots a y → IsStageArgument a y
dots_piped a y g =
    let P : List Token → Type 0 = λ z. IsStageArgument z y in
    let Q : Option Expr → Type 0 = λ z. IsStageArgument (g.0 ∷ []) z in
    subst P (sym (g.2 ∙ ap (λ z. g.0 ∷ z) g.4.0)) (subst Q (sym g.4.1) (piped g.0 g.3))

value_argument : (a : List Token) (y : Option Expr) → Values a y → IsStageArgument a y
value_argument a y g = let P : Option Expr → Type 0 = λ z. IsStageArgument a z in subst P (sym g.2) (value a g.0 g.1)

starts_no_dots_in : (k : TokenKind) → is_spelled (op_in k) (codes "...") ≡ true → nat_le (opened_by k) 3 ≡ false
starts_no_dots_in (kind.Op w) h = one_word w (codes "...") (λ z. nat_le (opened_by (kind.Op z)) 3 ≡ false) h refl
starts_no_dots_in _ h = absurd (cc)

dots_not_start : (t : Token) → is_dots t ≡ true → starts_expr t ≡ false
dots_not_start t h = starts_no_dots_in t.kind h

start_not_dots : (t : Token) → starts_expr t ≡ true → is_dots t ≡ false
start_not_dots t h =
    let go : (x : Bool) → is_dots t ≡ x → x ≡ false = elim [ true ↦ λ e. let k = dots_not_start t e in absurd (cc) | false ↦ λ e. refl ] in
    go (is_dots t) refl

dots_printed : (t : Token) → is_dots t ≡ true → printed_on t ≡ true
dots_printed t h = ap (λ k. not (is_spelled (op_in k) (codes ")"))) (op_kind (codes "...") t h)

or_split : (x y : Bool) → x || y ≡ true → (P : Type 0) → (x ≡ true → P) → (y ≡ true → P) → P
or_split true y h P f g = f refl
or_split false y h P f g = g h

and_parts : (x y : Bool) → x && y ≡ true → (x ≡ true) × (y ≡ true)
and_parts true y h = (refl, h)
and_parts false y h = absurd (cc)

and_true : (x y : Bool) → x ≡ true → y ≡ true → x && y ≡ true
and_true true y h k = k
and_true false y h k = absurd (cc)

or_one : (x y : Bool) → x ≡ true → x || y ≡ true
or_one true y h = refl
or_one false y h = absurd (cc)

or_two : (x y : Bool) → y ≡ true → x || y ≡ true
or_two true y h = refl
or_two false y h = h

abbrev counts : List (Option Expr) → Bool
counts s = nat_lt (length (filled s)) most_items

-- what the first token of an argument that may follow tells
pub starts_tells : (s : List (Option Expr)) (ts : List Token) → sees (starts_argument s) ts ≡ true
    → (sees is_dots ts ≡ true → not (has_piped s) ≡ true) × (sees is_dots ts ≡ false → counts s ≡ true)
starts_tells s [] h = absurd (cc)
starts_tells s (t ∷ ts) h = (
  (λ d. or_split (counts s && starts_expr t) (not (has_piped s) && is_dots t) h (not (has_piped s) ≡ true)
      (λ k. let i = (and_parts (counts s) (starts_expr t) k).1 in let j = dots_not_start t d in absurd (cc)) (λ k. (and_parts (not (has_piped s)) (is_dots t) k).0)),
  (λ d. or_split (counts s && starts_expr t) (not (has_piped s) && is_dots t) h (counts s ≡ true)
      (λ k. (and_parts (counts s) (starts_expr t) k).0) (λ k. let i = (and_parts (not (has_piped s)) (is_dots t) k).1 in absurd (cc))),
)

first_of_expr : (f g : Token → Bool) (x : Bool) → ((t : Token) → f t ≡ true → g t ≡ x) → (ts : List Token) → sees f ts ≡ true → sees g ts ≡ x
first_of_expr f g x h [] k = absurd (cc)
first_of_expr f g x h (t ∷ ts) k = h t k

module _ (r : Readers) (exact : Exact r) where
  value_starts : (a : List Token) (y : Option Expr) (s : List Token) → Values a y → sees is_dots (a ++ s) ≡ false
  value_starts a y s g = first_of_expr starts_expr is_dots false start_not_dots (a ++ s) (exact.expr_starts a g.0 s g.1)

  dots_law : (n : ℕ) (ts : List Token) → Law Dots (Limited Dots (LowArgument n)) print_item_on ts (and_then (expect is_dots ts) (λ _. pure None))
  dots_law n ts =
      open_limited is_dots (λ _. Is None) (LowArgument n) print_item_on (λ t h. ([], None, ((refl, refl), tt))) ts (λ _. pure None)
      (λ t us h k. pure_limited None (LowArgument n) tt print_item_on us)

  values_law : (n : ℕ) (ts : List Token) → Law Values (Limited Values (LowArgument n)) print_item_on ts (and_then (r.expr n ts) (λ x. pure (Some x)))
  values_law n ts = made_limited IsExpr print_item_on Some (Low n) (LowArgument n) (record { grows = λ x f. f; shrinks = λ x f. f }) ts (r.expr n ts) (expr_here r exact n ts)

  abbrev After : List (Option Expr) → Language Token (Option Expr)
  After s = ItemAfter is_comma IsStageArgument may_pass s

  as_dots : (us a : List Token) (y : Option Expr) → IsStageArgument a y → sees is_dots (a ++ us) ≡ true → Dots a y
  as_dots us _ _ (value b x p) k = let i = value_starts b (Some x) us (x, p, refl) in absurd (cc)
  as_dots us _ _ (piped t p) k = (t, [], refl, p, (refl, refl))

  as_value : (us a : List Token) (y : Option Expr) → IsStageArgument a y → sees is_dots (a ++ us) ≡ false → Values a y
  as_value us _ _ (value b x p) k = (x, p, refl)
  as_value us _ _ (piped t p) k = absurd (cc)

  after_dots : (s : List (Option Expr)) (a : List Token) (y : Option Expr) (us : List Token) → After s a y → sees is_dots (a ++ us) ≡ true → Dots a y
  after_dots s a y us g h = as_dots us a y g.0 h

  after_value : (s : List (Option Expr)) (a : List Token) (y : Option Expr) (us : List Token) → After s a y → sees is_dots (a ++ us) ≡ false → Values a y
  after_value s a y us g h = as_value us a y g.0 h

  argument_law : (n : ℕ) (s : List (Option Expr)) → FitEach (LowArgument n) s → (ts : List Token) → sees (starts_argument s) ts ≡ true
      → Law (After s) (Limited (After s) (LowArgument n)) print_item_on ts (reading.argument r n ts)
  unfolding reading.argument
  argument_law n s f ts h =
      let tells = starts_tells s ts h in
      choose_law (After s) (Limited (After s) (LowArgument n)) print_item_on is_dots ts _ _
      (λ d. widen Dots (Limited Dots (LowArgument n)) (After s) (Limited (After s) (LowArgument n)) print_item_on is_dots true
      (record {
        up = λ a y g. (dots_piped a y g, let P : Option Expr → Type 0 = λ z. may_pass s z ≡ true in subst P (sym g.4.1) (tells.0 d));
        up_within = λ a y g. ((dots_piped a y g.0, let P : Option Expr → Type 0 = λ z. may_pass s z ≡ true in subst P (sym g.0.4.1) (tells.0 d)), g.1);
        down = λ a y us g free k. after_dots s a y us g k;
        down_within = λ a y us g free k. (after_dots s a y us g.0 k, g.1);
      }) ts d _ (dots_law n ts))
      (λ d. widen Values (Limited Values (LowArgument n)) (After s) (Limited (After s) (LowArgument n)) print_item_on is_dots false
      (record {
        up = λ a y g. (value_argument a y g, let P : Option Expr → Type 0 = λ z. may_pass s z ≡ true in subst P (sym g.2) (tells.1 d));
        up_within = λ a y g. ((value_argument a y g.0, let P : Option Expr → Type 0 = λ z. may_pass s z ≡ true in subst P (sym g.0.2) (tells.1 d)), g.1);
        down = λ a y us g free k. after_value s a y us g k;
        down_within = λ a y us g free k. (after_value s a y us g.0 k, g.1);
      }) ts d _ (values_law n ts))

  argument_opens : (s : List (Option Expr)) (b : List Token) (y : Option Expr) (rest : List Token) → IsStageArgument b y → may_pass s y ≡ true → sees (starts_argument s) (b ++ rest) ≡ true
  argument_opens s _ _ rest (value b x p) h =
      first_of_expr starts_expr (starts_argument s) true (λ t k. or_one (counts s && starts_expr t) (not (has_piped s) && is_dots t) (and_true (counts s) (starts_expr t) h k)) (b ++ rest)
      (exact.expr_starts b x rest p)
  argument_opens s _ _ rest (piped t p) h = or_two (counts s && starts_expr t) (not (has_piped s) && is_dots t) (and_true (not (has_piped s)) (is_dots t) h p)

  argument_own : (s : List (Option Expr)) (t : Token) → starts_argument s t ≡ true → printed_on t ≡ true
  argument_own s t h =
      or_split (counts s && starts_expr t) (not (has_piped s) && is_dots t) h (printed_on t ≡ true)
      (λ k. starts_printed t (and_parts (counts s) (starts_expr t) k).1) (λ k. dots_printed t (and_parts (not (has_piped s)) (is_dots t) k).1)

  given : Allowed is_comma IsStageArgument may_pass starts_argument print_item_on printed_on
  given = record { opens = argument_opens; own = argument_own; own_separator = comma_printed; wider = printed_item; ends_before = comma_item }

  abbrev ArgumentTail : Option Expr → Language Token (List (Option Expr))
  ArgumentTail y = Either (Following is_comma IsStageArgument may_pass (λ s. s) y) (Is (y ∷ []))

  abbrev Several : Language Token (List (Option Expr))
  Several = Then (After []) ArgumentTail

  several_up : (a : List Token) (ys : List (Option Expr)) → Several a ys → Made Arguments (λ w. w.0) a ys
  several_up a ys g =
      let go : ArgumentTail g.value g.second ys → Made Arguments (λ w. w.0) a ys = elim [
        | inl k ↦ (
          (ys, true),
          parts_list is_comma IsStageArgument may_pass a (ys, true)
              (record { first = g.first; second = g.second; value = g.value; joined = g.joined; heads = g.heads; tails = inl (k.0, k.1, k.2, k.3, (k.4.0, k.4.1, ap (λ z. (z, true)) k.4.2)) }),
          refl,
        )
        | inr k ↦ (
          (ys, false),
          parts_list is_comma IsStageArgument may_pass a (ys, false)
              (record { first = g.first; second = g.second; value = g.value; joined = g.joined; heads = g.heads; tails = inr (k.0, ap (λ z. (z, false)) k.1) }),
          refl,
        )
      ] in
      go g.tails

  several_down : (a : List Token) (ys : List (Option Expr)) → Made Arguments (λ w. w.0) a ys → Several a ys
  several_down a ys m =
      let g = list_parts is_comma IsStageArgument may_pass a m.0 m.1 in
      let go : Tail is_comma IsStageArgument may_pass g.value g.second m.0 → ArgumentTail g.value g.second ys = elim [
        | inl k ↦ inl (k.0, k.1, k.2, k.3, (k.4.0, k.4.1, m.2 ∙ ap (λ z. z.0) k.4.2))
        | inr k ↦ inr (k.0, m.2 ∙ ap (λ z. z.0) k.1)
      ] in
      record { first = g.first; second = g.second; value = g.value; joined = g.joined; heads = g.heads; tails = go g.tails }

  more_arguments_law : (n : ℕ) (y : Option Expr) → LowArgument n y → (ts : List Token)
      → Law (ArgumentTail y) (Limited (ArgumentTail y) (FitEach (LowArgument n))) printed_on ts (reading.more_arguments r n y ts)
  unfolding reading.more_arguments
  more_arguments_law n y f ts =
      optional_law (Following is_comma IsStageArgument may_pass (λ s. s) y) (y ∷ []) (FitEach (LowArgument n)) (f, tt) printed_on is_comma
      (λ a w s g. ap (λ z. sees is_comma (z ++ s)) g.2 ∙ g.3) comma_printed
      (expect is_comma >>= λ _. (λ us. repeat (row_test is_comma starts_argument) (row_turn is_comma (λ _. reading.argument r n) (λ v z. v ++ z ∷ [])) (length us) (y ∷ [], true) us) >>= λ s. pure s.0) ts
      (λ h. following_law is_comma IsStageArgument may_pass (LowArgument n) starts_argument print_item_on printed_on given (λ _. reading.argument r n) (argument_law n) (λ s. s) (FitEach (LowArgument n))
      (record { grows = λ s k. k; shrinks = λ s k. k }) y f ts)

  several_apart : (y : Option Expr) (c : List Token) (w : List (Option Expr)) (s : List Token) → ArgumentTail y c w → Free printed_on s → Free print_item_on (c ++ s)
  several_apart y c w s (inl g) free = ap (λ z. sees print_item_on (z ++ s)) g.2 ∙ comma_item g.0 g.3
  several_apart y c w s (inr g) free = ap (λ z. sees print_item_on (z ++ s)) g.0 ∙ wider_at print_item_on printed_on printed_item s free

  several_shrinks : (n : ℕ) (y : Option Expr) (c : List Token) (w : List (Option Expr)) → ArgumentTail y c w → FitEach (LowArgument n) w → LowArgument n y
  several_shrinks n y c w (inl g) f =
      let d = first_kept is_comma IsStageArgument may_pass (λ s. s) y c w g in
      let P : List (Option Expr) → Type 0 = λ z. FitEach (LowArgument n) z in (subst P d.1 f).0
  several_shrinks n y c w (inr g) f = let P : List (Option Expr) → Type 0 = λ z. FitEach (LowArgument n) z in (subst P g.1 f).0

  several_joins : (n : ℕ) → Joins (After []) print_item_on ArgumentTail printed_on (LowArgument n) (FitEach (LowArgument n))
  several_joins n = record {
    apart = λ a y g c w s h free. several_apart y c w s h free;
    ends = λ a y g. ([], y ∷ [], inr (refl, refl));
    ends_within = λ a y g f. ([], y ∷ [], (inr (refl, refl), (f, tt)));
    shrinks = λ a y g c w h f. several_shrinks n y c w h f;
  }

  begins_first : (ts : List Token) → sees begins_argument ts ≡ true → sees (starts_argument []) ts ≡ true
  begins_first [] h = absurd (cc)
  begins_first (t ∷ ts) h = h

  same_begin : (ts : List Token) → sees (starts_argument []) ts ≡ true → sees begins_argument ts ≡ true
  same_begin [] h = absurd (cc)
  same_begin (t ∷ ts) h = h

  argument_begins : (a : List Token) (y : Option Expr) (s : List Token) → After [] a y → sees begins_argument (a ++ s) ≡ true
  argument_begins a y s g = same_begin (a ++ s) (argument_opens [] a y s g.0 g.1)

  pub read_law : (n : ℕ) (ts : List Token) → Law Read (Limited Read (FitEach (LowArgument n))) printed_on ts (reading.stage_arguments r n ts)
  unfolding reading.stage_arguments
  read_law n ts =
      same_law (Either Several (Is [])) Read (FitEach (LowArgument n)) printed_on
      (λ a ys g. elim g as (λ _. Read a ys) [ inl k ↦ inl (several_up a ys k) | inr k ↦ inr k ])
      (λ a ys g. elim g as (λ _. Either Several (Is []) a ys) [ inl k ↦ inl (several_down a ys k) | inr k ↦ inr k ]) ts _
      (optional_law Several [] (FitEach (LowArgument n)) tt printed_on begins_argument
      (λ a w s g. ap (λ z. sees begins_argument (z ++ s)) g.joined ∙ ap (sees begins_argument) (append_assoc g.first g.second s) ∙ argument_begins g.first g.value (g.second ++ s) g.heads)
      (λ t h. argument_own [] t h)
      (reading.argument r n >>= reading.more_arguments r n) ts
      (λ h. join_law (After []) print_item_on ArgumentTail printed_on (LowArgument n) (FitEach (LowArgument n)) (several_joins n) ts (reading.argument r n ts)
      (argument_law n [] tt ts (begins_first ts h)) (reading.more_arguments r n) (λ used y us g f e. more_arguments_law n y f us)))
