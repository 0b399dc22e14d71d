-- What stands in the brackets of `print(..)`, as the grammar writes it and as it is read, one item after the other.
use Rattle.std.proofs.Common.{◌≡◌, ℕ, ◌+◌, ◌<◌, ◌≤◌, true, false, List, [], ◌∷◌, ◌++◌, length, refl, sym, ◌∙◌, ap, subst, append_assoc, inl, inr, Option, Some, codes, arith}
use Rattle.std.proofs.lemmas.Slice.Eq.{bytes_eq-Decides}
use Rattle.std.proofs.lemmas.List.{append-nil, length-append}
use Rattle.std.proofs.lemmas.Bool.{ltb-true, lt-ltb}
use Rattle.indent_lexer.specs.declared.token.Token.{Token}
use Rattle.indent_lexer.specs.declared.token.TokenKind.{TokenKind}
use Rattle.indent_lexer.specs.declared.token.TokenKind.TheVariants as kind
use Rattle.source_trees.specs.declared.expression.Expr.{Expr}
use Rattle.source_trees.specs.declared.pipeline.PrintOptions.{PrintOptions}
use Rattle.source_trees.specs.declared.pipeline.PrintOptions.TheVariants.{Neither, Sep, End, SepEnd, EndSep}
use Rattle.source_trees.specs.declared.pipeline.Printed.{Printed}
use Rattle.parse_laws.specs.Language.{Law}
use Rattle.parse_laws.specs.Forms.{Is, Either}
use Rattle.parse_laws.specs.Limits.{Limited}
use Rattle.parse_laws.specs.Loops.{Turns, done, next}
use Rattle.parse_laws.proofs.Limits.{same_law}
use Rattle.grammar_rules.specs.Expressions.{IsExpr}
use Rattle.grammar_rules.specs.Simple.{IsValues, last, another, IsOption, option, IsOptions, sep, end_text, sep_end, end_sep, IsPrinted, nothing, values_alone, options_alone, both}
use Rattle.grammar_rules.specs.Words.{is_comma, is_word, is_spelled, name_of, name_in, most_items}
use Rattle.parse_statements.specs.Readers.{Readers, Exact, has_room}
use Rattle.parse_statements.specs.Prints as reading
use Rattle.parse_statements.specs.Prints.{option_after, option_of_name, option_at, is_neither, takes_one, with_value, with_options, SetTo, PrintItem, printed_on}
use Rattle.parse_statements.proofs.Prints.{LowPrinted, Step, Started, set_named, option_cases, any_printed_law}
use Rattle.parse_statements.proofs.States.{and_both, both_true}

-- ---- words

word_name_in : (word : List ℕ) (k : TokenKind) → is_spelled (name_in k) word ≡ true → name_in k ≡ Some word
word_name_in word (kind.Name s) h = ap (λ z. Some z) ((bytes_eq-Decides s word).0 h)
word_name_in word _ h = absurd (cc)

pub word_name : (word : List ℕ) (t : Token) → is_word word t ≡ true → name_of t ≡ Some word
word_name word t h = word_name_in word t.kind h

pub name_word : (word : List ℕ) (t : Token) → name_of t ≡ Some word → is_word word t ≡ true
name_word word t h = ap (λ z. is_spelled z word) h ∙ (bytes_eq-Decides word word).1 refl

-- ---- what stands so far

abbrev of_values : List Expr → Printed
of_values xs = record { values = xs; options = Neither }

abbrev of_options : List Expr → PrintOptions → Printed
of_options xs o = record { values = xs; options = o }

data SoFar : List Token → Printed → Type 0 where
  only_values : (a : List Token) (xs : List Expr) → IsValues a xs → length xs ≤ most_items → SoFar a (of_values xs)
  only_options : (a : List Token) (o : PrintOptions) → IsOptions a o → SoFar a (of_options [] o)
  values_options : (a : List Token) (xs : List Expr) (c : Token) (b : List Token) (o : PrintOptions) → IsValues a xs → length xs ≤ most_items → is_comma c ≡ true → IsOptions b o
      → SoFar (a ++ c ∷ b) (of_options xs o)

so_far_printed : (a : List Token) (p : Printed) → SoFar a p → IsPrinted a p
so_far_printed _ _ (only_values a xs v l) = values_alone a xs v l
so_far_printed _ _ (only_options a o p) = options_alone a o p
so_far_printed _ _ (values_options a xs c b o v l h p) = both a xs c b o v l h p

values_snoc : (a : List Token) (xs : List Expr) → IsValues a xs → (c : Token) (b : List Token) (x : Expr) → is_comma c ≡ true → IsExpr b x → IsValues (a ++ c ∷ b) (xs ++ x ∷ [])
values_snoc _ _ (last a y p) c b x h q = another a y c b (x ∷ []) p h (last b x q)
values_snoc _ _ (another a y d e ys p k v) c b x h q =
    let P : List Token → Type 0 = λ z. IsValues z (y ∷ (ys ++ x ∷ [])) in
    subst P (sym (append_assoc a (d ∷ e) (c ∷ b))) (another a y d (e ++ c ∷ b) (ys ++ x ∷ []) p k (values_snoc e ys v c b x h q))

first_option : (w : List ℕ) (f : Expr → PrintOptions) → option_after Neither w ≡ Some f → (b : List Token) (y : Expr) → IsOption w b y → IsOptions b (f y)
first_option w f h b y p =
    option_cases Neither w f h (λ o f w. o ≡ Neither → IsOption w b y → IsOptions b (f y))
    (λ e q. sep b y q) (λ e q. end_text b y q) (λ x e q. absurd (cc)) (λ x e q. absurd (cc)) refl p

next_option : (a : List Token) (o : PrintOptions) → IsOptions a o → (c : Token) → is_comma c ≡ true → (w : List ℕ) (f : Expr → PrintOptions) → option_after o w ≡ Some f → (b : List Token) (y : Expr) → IsOption w b y
    → IsOptions (a ++ c ∷ b) (f y)
next_option _ _ (sep a x p) c h w f k b y q =
    option_cases (Sep x) w f k (λ o f w. o ≡ Sep x → IsOption w b y → IsOptions (a ++ c ∷ b) (f y))
    (λ e i. absurd (cc)) (λ e i. absurd (cc))
    (λ z e i. let same : x ≡ z = cc in let P : Expr → Type 0 = λ v. IsOptions (a ++ c ∷ b) (SepEnd v y) in subst P same (sep_end a x c b y p h i))
    (λ z e i. absurd (cc)) refl q
next_option _ _ (end_text a x p) c h w f k b y q =
    option_cases (End x) w f k (λ o f w. o ≡ End x → IsOption w b y → IsOptions (a ++ c ∷ b) (f y))
    (λ e i. absurd (cc)) (λ e i. absurd (cc)) (λ z e i. absurd (cc))
    (λ z e i. let same : x ≡ z = cc in let P : Expr → Type 0 = λ v. IsOptions (a ++ c ∷ b) (EndSep v y) in subst P same (end_sep a x c b y p h i)) refl q
next_option _ _ (sep_end a x d e z p l q2) c h w f k b y q = absurd (cc)
next_option _ _ (end_sep a x d e z p l q2) c h w f k b y q = absurd (cc)

options_set : (a : List Token) (o : PrintOptions) → IsOptions a o → is_neither o ≡ false
options_set _ _ (sep a x p) = refl
options_set _ _ (end_text a x p) = refl
options_set _ _ (sep_end a x d e z p l q2) = refl
options_set _ _ (end_sep a x d e z p l q2) = refl

-- what sets an option is an option
as_option : (p : Printed) (t : Token) (b : List Token) (q : Printed) (w : List ℕ) (f : Expr → PrintOptions) → name_of t ≡ Some w → SetTo p (Some f) b q
    → (y : Expr) × IsOption w (t ∷ b) y × (q ≡ with_options p (f y))
as_option p t b q w f h g =
    let P : List Token → Type 0 = λ z. IsOption w (t ∷ z) g.4.0 in
    (g.4.0, subst P (sym g.2) (option t g.0 g.1 g.4.0 (name_word w t h) g.3 g.4.1), g.4.2)

no_value : (o : PrintOptions) (xs : List Expr) → is_neither o ≡ false → takes_one (of_options xs o) ≡ true → ⊥
no_value o xs h k = let f = and_both (is_neither o) (has_room xs) k in let i = f.0 in cc

step_so_far : (a : List Token) (p : Printed) → SoFar a p → (c : Token) → is_comma c ≡ true → (b : List Token) (q : Printed) → PrintItem p b q → SoFar (a ++ c ∷ b) q
step_so_far _ _ (only_values a xs v l) c h b q (inl g) =
    let P : Printed → Type 0 = λ z. SoFar (a ++ c ∷ b) z in
    let m = ltb-true (length xs) most_items g.0 in
    let i : length (xs ++ g.1.0 ∷ []) ≡ length xs + 1 = length-append xs (g.1.0 ∷ []) in
    subst P (sym g.1.2) (only_values (a ++ c ∷ b) (xs ++ g.1.0 ∷ []) (values_snoc a xs v c b g.1.0 h g.1.1) (omega arith))
step_so_far _ _ (only_values a xs v l) c h b q (inr g) =
    let k = set_named (of_values xs) g.0 g.1 q g.3 in
    let m = as_option (of_values xs) g.0 g.1 q k.0 k.1 k.2 k.4 in
    let P : Printed → Type 0 = λ z. SoFar (a ++ c ∷ b) z in
    let Q : List Token → Type 0 = λ z. IsOption k.0 z m.0 in
    subst P (sym m.2) (values_options a xs c b (k.1 m.0) v l h (first_option k.0 k.1 k.3 b m.0 (subst Q (sym g.2) m.1)))
step_so_far _ _ (only_options a o p) c h b q (inl g) = absurd (no_value o [] (options_set a o p) g.0)
step_so_far _ _ (only_options a o p) c h b q (inr g) =
    let k = set_named (of_options [] o) g.0 g.1 q g.3 in
    let m = as_option (of_options [] o) g.0 g.1 q k.0 k.1 k.2 k.4 in
    let P : Printed → Type 0 = λ z. SoFar (a ++ c ∷ b) z in
    let Q : List Token → Type 0 = λ z. IsOption k.0 z m.0 in
    subst P (sym m.2) (only_options (a ++ c ∷ b) (k.1 m.0) (next_option a o p c h k.0 k.1 k.3 b m.0 (subst Q (sym g.2) m.1)))
step_so_far _ _ (values_options a xs d e o v l i p) c h b q (inl g) = absurd (no_value o xs (options_set e o p) g.0)
step_so_far _ _ (values_options a xs d e o v l i p) c h b q (inr g) =
    let k = set_named (of_options xs o) g.0 g.1 q g.3 in
    let m = as_option (of_options xs o) g.0 g.1 q k.0 k.1 k.2 k.4 in
    let P : Printed → Type 0 = λ z. SoFar ((a ++ d ∷ e) ++ c ∷ b) z in
    let Q : List Token → Type 0 = λ z. IsOption k.0 z m.0 in
    let R : List Token → Type 0 = λ z. SoFar z (of_options xs (k.1 m.0)) in
    subst P (sym m.2) (subst R (sym (append_assoc a (d ∷ e) (c ∷ b))) (values_options a xs d (e ++ c ∷ b) (k.1 m.0) v l i (next_option e o p c h k.0 k.1 k.3 b m.0 (subst Q (sym g.2) m.1))))

first_so_far : (b : List Token) (q : Printed) → PrintItem reading.nothing b q → SoFar b q
first_so_far b q (inl g) =
    let P : Printed → Type 0 = λ z. SoFar b z in subst P (sym g.1.2) (only_values b (g.1.0 ∷ []) (last b g.1.0 g.1.1) (omega arith))
first_so_far b q (inr g) =
    let k = set_named reading.nothing g.0 g.1 q g.3 in
    let m = as_option reading.nothing g.0 g.1 q k.0 k.1 k.2 k.4 in
    let P : Printed → Type 0 = λ z. SoFar b z in
    let Q : List Token → Type 0 = λ z. IsOption k.0 z m.0 in
    subst P (sym m.2) (only_options b (k.1 m.0) (first_option k.0 k.1 k.3 b m.0 (subst Q (sym g.2) m.1)))

turns_so_far : (p : Printed) (c : List Token) (q : Printed) → Turns Step p c q → (a : List Token) → SoFar a p → SoFar (a ++ c) q
turns_so_far _ _ _ (done p) a s = let P : List Token → Type 0 = λ z. SoFar z p in subst P (sym (append-nil a)) s
turns_so_far _ _ _ (next p b u c q g rest) a s =
    let P : List Token → Type 0 = λ z. SoFar (a ++ z) u in
    let Q : List Token → Type 0 = λ z. SoFar z q in
    subst Q (append_assoc a b c) (turns_so_far u c q rest (a ++ b) (subst P (sym g.2) (step_so_far a p s g.0 g.3 g.1 u g.4)))

printed_up : (a : List Token) (q : Printed) → Either Started (Is reading.nothing) a q → IsPrinted a q
printed_up a q (inl g) =
    let P : List Token → Type 0 = λ z. IsPrinted z q in
    subst P (sym g.joined) (so_far_printed (g.first ++ g.second) q (turns_so_far g.value g.second q g.tails g.first (first_so_far g.first g.value g.heads)))
printed_up a q (inr g) =
    let P : List Token → Type 0 = λ z. IsPrinted z q in
    let Q : Printed → Type 0 = λ z. IsPrinted [] z in
    subst P (sym g.0) (subst Q (sym g.1) nothing)

-- ---- as it is read

turns_snoc : (p : Printed) (c : List Token) (q : Printed) → Turns Step p c q → (b : List Token) (u : Printed) → Step q b u → Turns Step p (c ++ b) u
turns_snoc _ _ _ (done p) b u s = let P : List Token → Type 0 = λ z. Turns Step p z u in subst P (append-nil b) (next p b u [] u s (done u))
turns_snoc _ _ _ (next p d v c q g rest) b u s = let P : List Token → Type 0 = λ z. Turns Step p z u in subst P (sym (append_assoc d c b)) (next p d v (c ++ b) u g (turns_snoc v c q rest b u s))

snoc : (a : List Token) (p : Printed) → Started a p → (c : Token) → is_comma c ≡ true → (b : List Token) (q : Printed) → PrintItem p b q → Started (a ++ c ∷ b) q
snoc a p g c h b q i =
    record {
      first = g.first;
      second = g.second ++ c ∷ b;
      value = g.value;
      joined = ap (λ z. z ++ c ∷ b) g.joined ∙ append_assoc g.first g.second (c ∷ b);
      heads = g.heads;
      tails = turns_snoc g.value g.second p g.tails (c ∷ b) q (c, b, refl, h, i);
    }

start : (b : List Token) (q : Printed) → PrintItem reading.nothing b q → Started b q
start b q i = record { first = b; second = []; value = q; joined = sym (append-nil b); heads = i; tails = done q }

value_item : (xs : List Expr) → length xs < most_items → (b : List Token) (x : Expr) → IsExpr b x → PrintItem (of_values xs) b (of_values (xs ++ x ∷ []))
value_item xs l b x p = inl (both_true true (has_room xs) refl (lt-ltb (length xs) most_items l), (x, p, refl))

option_item : (xs : List Expr) (o : PrintOptions) (w : List ℕ) (f : Expr → PrintOptions) → option_after o w ≡ Some f → (b : List Token) (y : Expr) → IsOption w b y → PrintItem (of_options xs o) b (of_options xs (f y))
option_item xs o w f h _ _ (option t equals a x i j p) =
    let P : Option (Expr → PrintOptions) → Type 0 = λ z. SetTo (of_options xs o) z (equals ∷ a) (of_options xs (f x)) in
    inr (t, equals ∷ a, refl, subst P (sym (ap (option_of_name o) (word_name w t i) ∙ h)) (equals, a, refl, j, (x, p, refl)))

more_values : (b : List Token) (xs : List Expr) → IsValues b xs → (a : List Token) (vs : List Expr) → Started a (of_values vs) → (c : Token) → is_comma c ≡ true → length vs + length xs ≤ most_items
    → Started (a ++ c ∷ b) (of_values (vs ++ xs))
more_values _ _ (last b x p) a vs g c h l = snoc a (of_values vs) g c h b (of_values (vs ++ x ∷ [])) (value_item vs (omega arith) b x p)
more_values _ _ (another b x d e xs p k v) a vs g c h l =
    let i : length (vs ++ x ∷ []) ≡ length vs + 1 = length-append vs (x ∷ []) in
    let j : length (x ∷ xs) ≡ length xs + 1 = omega arith in
    let s = snoc a (of_values vs) g c h b (of_values (vs ++ x ∷ [])) (value_item vs (omega arith) b x p) in
    let m = more_values e xs v (a ++ c ∷ b) (vs ++ x ∷ []) s d k (omega arith) in
    let P : List Token → Type 0 = λ z. Started z (of_values (vs ++ x ∷ xs)) in
    let Q : List Expr → Type 0 = λ z. Started ((a ++ c ∷ b) ++ d ∷ e) (of_values z) in
    subst P (append_assoc a (c ∷ b) (d ∷ e)) (subst Q (append_assoc vs (x ∷ []) xs) m)

values_started : (a : List Token) (xs : List Expr) → IsValues a xs → length xs ≤ most_items → Started a (of_values xs)
values_started _ _ (last a x p) l = start a (of_values (x ∷ [])) (value_item [] (omega arith) a x p)
values_started _ _ (another a x d e xs p k v) l =
    more_values e xs v a (x ∷ []) (start a (of_values (x ∷ [])) (value_item [] (omega arith) a x p)) d k (let j : length (x ∷ xs) ≡ length xs + 1 = omega arith in omega arith)

options_started : (b : List Token) (o : PrintOptions) → IsOptions b o → (a : List Token) (xs : List Expr) → Started a (of_values xs) → (c : Token) → is_comma c ≡ true → Started (a ++ c ∷ b) (of_options xs o)
options_started _ _ (sep b x p) a xs g c h = snoc a (of_values xs) g c h b (of_options xs (Sep x)) (option_item xs Neither (codes "sep") (λ z. Sep z) refl b x p)
options_started _ _ (end_text b x p) a xs g c h = snoc a (of_values xs) g c h b (of_options xs (End x)) (option_item xs Neither (codes "end") (λ z. End z) refl b x p)
options_started _ _ (sep_end b x d e y p k q) a xs g c h =
    let s = snoc a (of_values xs) g c h b (of_options xs (Sep x)) (option_item xs Neither (codes "sep") (λ z. Sep z) refl b x p) in
    let P : List Token → Type 0 = λ z. Started z (of_options xs (SepEnd x y)) in
    subst P (append_assoc a (c ∷ b) (d ∷ e)) (snoc (a ++ c ∷ b) (of_options xs (Sep x)) s d k e (of_options xs (SepEnd x y)) (option_item xs (Sep x) (codes "end") (λ z. SepEnd x z) refl e y q))
options_started _ _ (end_sep b x d e y p k q) a xs g c h =
    let s = snoc a (of_values xs) g c h b (of_options xs (End x)) (option_item xs Neither (codes "end") (λ z. End z) refl b x p) in
    let P : List Token → Type 0 = λ z. Started z (of_options xs (EndSep x y)) in
    subst P (append_assoc a (c ∷ b) (d ∷ e)) (snoc (a ++ c ∷ b) (of_options xs (End x)) s d k e (of_options xs (EndSep x y)) (option_item xs (End x) (codes "sep") (λ z. EndSep x z) refl e y q))

options_alone_started : (b : List Token) (o : PrintOptions) → IsOptions b o → Started b (of_options [] o)
options_alone_started _ _ (sep b x p) = start b (of_options [] (Sep x)) (option_item [] Neither (codes "sep") (λ z. Sep z) refl b x p)
options_alone_started _ _ (end_text b x p) = start b (of_options [] (End x)) (option_item [] Neither (codes "end") (λ z. End z) refl b x p)
options_alone_started _ _ (sep_end b x d e y p k q) =
    snoc b (of_options [] (Sep x)) (start b (of_options [] (Sep x)) (option_item [] Neither (codes "sep") (λ z. Sep z) refl b x p)) d k e (of_options [] (SepEnd x y))
    (option_item [] (Sep x) (codes "end") (λ z. SepEnd x z) refl e y q)
options_alone_started _ _ (end_sep b x d e y p k q) =
    snoc b (of_options [] (End x)) (start b (of_options [] (End x)) (option_item [] Neither (codes "end") (λ z. End z) refl b x p)) d k e (of_options [] (EndSep x y))
    (option_item [] (End x) (codes "sep") (λ z. EndSep x z) refl e y q)

printed_down : (a : List Token) (q : Printed) → IsPrinted a q → Either Started (Is reading.nothing) a q
printed_down _ _ nothing = inr (refl, refl)
printed_down _ _ (values_alone a xs v l) = inl (values_started a xs v l)
printed_down _ _ (options_alone a o p) = inl (options_alone_started a o p)
printed_down _ _ (both a xs c b o v l h p) = inl (options_started b o p a xs (values_started a xs v l) c h)

pub printed_law : (r : Readers) → Exact r → (n : ℕ) (ts : List Token) → Law IsPrinted (Limited IsPrinted (LowPrinted n)) printed_on ts (reading.printed r n ts)
printed_law r exact n ts = same_law (Either Started (Is reading.nothing)) IsPrinted (LowPrinted n) printed_on printed_up printed_down ts (reading.printed r n ts) (any_printed_law r exact n ts)
