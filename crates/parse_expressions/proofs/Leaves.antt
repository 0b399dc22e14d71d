-- The laws of names with commas and of texts side by side, which hold no expression.
use Rattle.std.proofs.Common.{◌≡◌, ℕ, suc, Bool, true, ◌||◌, List, [], ◌∷◌, ◌++◌, length, refl, sym, ◌∙◌, ap, subst, Option, append_assoc, arith}
use Rattle.std.proofs.lemmas.List.{append-nil}
use Rattle.indent_lexer.specs.declared.token.Token.{Token}
use Rattle.source_trees.specs.declared.expression.Expr.{Expr}
use Rattle.source_trees.specs.declared.expression.Expr.TheVariants as e
use Rattle.source_trees.specs.declared.node.Node.{Node}
use Rattle.parse_laws.specs.Parser.{sees, pure, take_by, has, in_table, ◌>>=◌}
use Rattle.parse_laws.specs.Language.{Language, Law}
use Rattle.parse_laws.specs.Forms.{Then, Picks, Made, never}
use Rattle.parse_laws.specs.Limits.{Limited}
use Rattle.parse_laws.specs.Loops.{Turns, done, next, Repeated, Grows, ListedWithin, ListItems}
use Rattle.parse_laws.proofs.Forms.{free_never}
use Rattle.parse_laws.proofs.Lists.{FitEach, listed_law}
use Rattle.parse_laws.proofs.Limits.{same_law, made_limited, take_limited, join_law}
use Rattle.parse_laws.proofs.Repeats.{repeat_law}
use Rattle.grammar_rules.specs.Expressions as g
use Rattle.grammar_rules.specs.Expressions.{IsNames, IsTexts, loop_names}
use Rattle.grammar_rules.specs.Words.{is_comma, text_of, name_at}
use Rattle.parse_expressions.specs.Forms.{Low}
use Rattle.parse_expressions.specs.Reading as reading
use Rattle.parse_expressions.specs.Reading.{is_name, is_text, any_number, text_at}
use Rattle.parse_expressions.proofs.Tokens.{or_first, or_second}
use Rattle.parse_expressions.proofs.Heights.{height-Text}

-- no limit
abbrev pub Free_of_limit : {A : Type 0} → A → Type 0
Free_of_limit v = Unit {0}

pub each_free : {A : Type 0} (xs : List A) → FitEach Free_of_limit xs
each_free [] = tt
each_free (x ∷ xs) = (tt, each_free xs)

pub grows_any : {A : Type 0} (v xs : List A) → Grows any_number v xs
grows_any v [] = tt
grows_any v (x ∷ xs) = (refl, grows_any (v ++ x ∷ []) xs)

pub picks_opens : {O : Type 0} (pick : Token → Option O) (a : List Token) (o : O) (s : List Token) → Picks pick a o → sees (has pick) (a ++ s) ≡ true
picks_opens pick a o s p = ap (λ z. sees (has pick) (z ++ s)) p.1 ∙ ap in_table p.2

-- ---- names

-- what carries a row of names on
abbrev pub names_carry : Token → Bool
names_carry t = is_comma t || is_name t

names_given : ListItems is_comma (Picks name_at) is_name never names_carry
names_given = record {
  opens = λ b y rest p. picks_opens name_at b y rest p;
  own = λ t h. or_second (is_comma t) (is_name t) h;
  own_separator = λ t h. or_first (is_comma t) (is_name t) h;
  wider = λ t h. refl;
  ends_before = λ t h. refl;
}

pub names_law : (ts : List Token) → Law IsNames (Limited IsNames Free_of_limit) names_carry ts (reading.names ts)
unfolding reading.names
names_law ts =
    same_law (Made (ListedWithin is_comma (Picks name_at) any_number) loop_names) IsNames Free_of_limit names_carry
    (λ a v p. (p.0, p.1.0, p.2)) (λ a v p. (p.0, (p.1, grows_any [] p.0.0), p.2)) ts _
    (made_limited (ListedWithin is_comma (Picks name_at) any_number) names_carry loop_names (λ w. FitEach Free_of_limit w.0) Free_of_limit
    (record { grows = λ w f. tt; shrinks = λ w f. each_free w.0 }) ts _
    (listed_law is_comma (Picks name_at) any_number Free_of_limit is_name never names_carry names_given (take_by name_at)
    (λ us. take_limited name_at Free_of_limit (λ o. tt) never us) refl ts))

-- ---- texts

abbrev Step : List ℕ → Language Token (List ℕ)
Step v = Made (Picks text_of) (λ value. v ++ value)

repeated : Repeated (λ v. is_text) Step (λ v. never) is_text Free_of_limit
repeated = record {
  opens = λ v b u s p. picks_opens text_of b p.0 s p.1;
  own = λ v t h. h;
  wider = λ v t h. refl;
  next = λ v b u t p h. refl;
  shrinks = λ v b u p f. tt;
}

pub more_law : (v : List ℕ) (ts : List Token) → Law (Turns Step v) (Limited (Turns Step v) Free_of_limit) is_text ts (reading.more_texts v ts)
unfolding reading.more_texts
more_law v ts =
    repeat_law (λ v. is_text) Step (λ v. never) is_text Free_of_limit repeated (λ w. take_by text_of >>= λ value. pure (w ++ value))
    (λ w f us h. made_limited (Picks text_of) never (λ value. w ++ value) Free_of_limit Free_of_limit (record { grows = λ x i. tt; shrinks = λ x i. tt }) us _
    (take_limited text_of Free_of_limit (λ o. tt) never us))
    (length ts) v ts (omega arith) tt

-- a first text and those beside it
abbrev pub Texts : Language Token Expr
Texts = Then (Picks text_at) (λ first. Made (Turns Step first.1) (λ value. e.Text first.0 value))

pub turns_of_texts : (v : List ℕ) (a : List Token) (more : List ℕ) → IsTexts a more → Turns Step v a (v ++ more)
turns_of_texts v _ _ g.no_more = let P : List ℕ → Type 0 = λ z. Turns Step v [] z in subst P (sym (append-nil v)) (done v)
turns_of_texts v _ _ (g.another t value a more h p) =
    let P : List ℕ → Type 0 = λ z. Turns Step v (t ∷ a) z in
    subst P (append_assoc v value more) (next v (t ∷ []) (v ++ value) a ((v ++ value) ++ more) (value, (t, refl, h), refl) (turns_of_texts (v ++ value) a more p))

pub texts_of_turns : (v : List ℕ) (a : List Token) (w : List ℕ) → Turns Step v a w → (more : List ℕ) × IsTexts a more × (w ≡ v ++ more)
texts_of_turns _ _ _ (done v) = ([], g.no_more, sym (append-nil v))
texts_of_turns _ _ _ (next v b u c w p rest) =
    let k = texts_of_turns u c w rest in
    let A : List Token → Type 0 = λ z. IsTexts (z ++ c) (p.0 ++ k.0) in
    (p.0 ++ k.0, subst A (sym p.1.1) (g.another p.1.0 p.0 c k.0 p.1.2 k.1), k.2 ∙ ap (λ z. z ++ k.0) p.2 ∙ append_assoc v p.0 k.0)

pub texts_law : (room : ℕ) (ts : List Token) → Law Texts (Limited Texts (Low (suc room))) is_text ts (reading.texts ts)
unfolding reading.texts
texts_law room ts =
    let low : (n : Node) (value : List ℕ) → Low (suc room) (e.Text n value) = λ n value. let k = height-Text n value in omega arith in
    join_law (Picks text_at) never (λ first. Made (Turns Step first.1) (λ value. e.Text first.0 value)) is_text Free_of_limit (Low (suc room))
    (record {
      apart = λ a v p c w s q free. free_never (c ++ s);
      ends = λ a v p. ([], e.Text v.0 v.1, (v.1, done v.1, refl));
      ends_within = λ a v p f. ([], e.Text v.0 v.1, ((v.1, done v.1, refl), low v.0 v.1));
      shrinks = λ a v p c w q f. tt;
    }) ts (take_by text_at ts) (take_limited text_at Free_of_limit (λ o. tt) never ts)
    (λ first. reading.more_texts first.1 >>= λ value. pure (e.Text first.0 value))
    (λ used v r p f h. made_limited (Turns Step v.1) is_text (λ value. e.Text v.0 value) Free_of_limit (Low (suc room))
    (record { grows = λ x i. low v.0 x; shrinks = λ x i. tt }) r _ (more_law v.1 r))
