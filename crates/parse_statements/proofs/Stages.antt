-- The law of the stages of a pipeline.
use Rattle.std.proofs.Common.{◌≡◌, ℕ, Bool, true, false, not, cond, List, [], ◌∷◌, ◌++◌, refl, sym, ◌∙◌, ap, subst, inl, inr, Option, Some, None, codes}
use Rattle.std.specs.Str.{bytes_eq}
use Rattle.std.proofs.lemmas.List.{append-nil}
use Rattle.indent_lexer.specs.declared.token.Token.{Token}
use Rattle.indent_lexer.specs.declared.token.TokenKind.{TokenKind}
use Rattle.indent_lexer.specs.declared.token.TokenKind.TheVariants as kind
use Rattle.source_trees.specs.declared.expression.Expr.{Expr}
use Rattle.source_trees.specs.declared.node.Name.{Name}
use Rattle.source_trees.specs.declared.pipeline.Joint.{Joint}
use Rattle.source_trees.specs.declared.pipeline.Stage.{Stage}
use Rattle.source_trees.specs.declared.pipeline.StageForm.{StageForm}
use Rattle.source_trees.specs.declared.pipeline.StageForm.TheVariants as form
use Rattle.source_trees.specs.declared.pipeline.Printed.{Printed}
use Rattle.parse_laws.specs.Parser.{Parser, and_then, sees, pure, choose, expect, take_by, has, in_table, ◌>>=◌, ◌>>◌}
use Rattle.parse_laws.specs.Language.{Language, Viable, Law}
use Rattle.parse_laws.specs.Forms.{Then, Made, Is, Opens, Closes, Picks, Either, never}
use Rattle.parse_laws.specs.Limits.{Limited, Carries}
use Rattle.parse_laws.proofs.Forms.{free_never}
use Rattle.parse_laws.proofs.Limits.{same_law, join_law, made_limited, open_limited, close_limited, optional_law, take_limited}
use Rattle.parse_laws.proofs.Lists.{FitEach}
use Rattle.grammar_rules.specs.Simple.{IsPrint, printed, IsPrinted, nothing, IsStageForm, iter, name, call, print_alone, print_of, IsStages, last, another, joints}
use Rattle.grammar_rules.specs.Words.{is_word, is_spelled, op_in, name_of, name_at, named_by, look_up, entry_of, node_at}
use Rattle.parse_expressions.specs.Forms.{Low}
use Rattle.parse_expressions.proofs.Opens.{name_spelling, sample, op_token}
use Rattle.parse_statements.specs.Readers.{Readers, Exact}
use Rattle.parse_statements.specs.Many.{Many, none, more, OneOrMore}
use Rattle.parse_statements.specs.Heads.{ends_simple_in, simple_on}
use Rattle.parse_statements.specs.Prints as print
use Rattle.parse_statements.specs.Prints.{is_bracket_end, printed_on}
use Rattle.parse_statements.specs.Stages as reading
use Rattle.parse_statements.specs.Stages.{is_bracket, filled, cut, called}
use Rattle.parse_statements.proofs.Arguments.{LowArgument, Read, arguments_read, read_arguments, read_law}
use Rattle.parse_statements.proofs.Many.{Follows, one_or_more_law}
use Rattle.parse_statements.proofs.Marks.{one_word, not_false}
use Rattle.parse_statements.proofs.Prints.{LowPrinted}
use Rattle.parse_statements.proofs.Printed.{printed_law, word_name}

-- ---- limits of height

abbrev pub LowForm : ℕ → StageForm → Type 0
LowForm n form.Iter = Unit {0}
LowForm n (form.Call spelling before after) = FitEach (Low n) before × FitEach (Low n) after
LowForm n (form.Print p) = LowPrinted n p

abbrev pub LowStage : ℕ → Stage → Type 0
LowStage n s = LowForm n s.form

low_filled : (n : ℕ) (ys : List (Option Expr)) → FitEach (LowArgument n) ys → FitEach (Low n) (filled ys)
low_filled n [] f = tt
low_filled n (Some x ∷ ys) f = (f.0, low_filled n ys f.1)
low_filled n (None ∷ ys) f = low_filled n ys f.1

filled_low : (n : ℕ) (ys : List (Option Expr)) → FitEach (Low n) (filled ys) → FitEach (LowArgument n) ys
filled_low n [] f = tt
filled_low n (Some x ∷ ys) f = (f.0, filled_low n ys f.1)
filled_low n (None ∷ ys) f = (tt, filled_low n ys f)

add_low : (n : ℕ) (s : List Expr) (y : Expr) → FitEach (Low n) s → Low n y → FitEach (Low n) (s ++ y ∷ [])
add_low n [] y f l = (l, tt)
add_low n (x ∷ s) y f l = (f.0, add_low n s y f.1 l)

last_low : (n : ℕ) (s : List Expr) (y : Expr) → FitEach (Low n) (s ++ y ∷ []) → FitEach (Low n) s × Low n y
last_low n [] y f = (tt, f.0)
last_low n (x ∷ s) y f = let k = last_low n s y f.1 in ((f.0, k.0), k.1)

low_cut : (n : ℕ) (before : List Expr) (ys : List (Option Expr)) → FitEach (Low n) before → FitEach (LowArgument n) ys → FitEach (Low n) (cut before ys).0 × FitEach (Low n) (cut before ys).1
low_cut n before [] f g = (tt, f)
low_cut n before (Some x ∷ ys) f g = low_cut n (before ++ x ∷ []) ys (add_low n before x f g.0) g.1
low_cut n before (None ∷ ys) f g = (f, low_filled n ys g.1)

cut_low : (n : ℕ) (before : List Expr) (ys : List (Option Expr)) → FitEach (Low n) (cut before ys).0 → FitEach (Low n) (cut before ys).1 → FitEach (Low n) before × FitEach (LowArgument n) ys
cut_low n before [] f g = (g, tt)
cut_low n before (Some x ∷ ys) f g =
    let k = cut_low n (before ++ x ∷ []) ys f g in
    let l = last_low n before x k.0 in
    (l.0, (l.1, k.1))
cut_low n before (None ∷ ys) f g = (f, (tt, filled_low n ys g))

-- ---- the language of what follows a stage's name

abbrev BracketOf : {A B : Type 0} → Language Token A → (A → B) → Language Token B
BracketOf L f = Opens is_bracket (λ _. Closes L is_bracket_end f)

abbrev alone : List ℕ → StageForm
alone spelling = cond (bytes_eq spelling (codes "iter")) form.Iter (form.Call spelling [] [])

abbrev pub PrintForm : Language Token StageForm
PrintForm = Either (BracketOf IsPrinted (λ p. form.Print p)) (Is (form.Print print.nothing))

abbrev pub CallForm : List ℕ → Language Token StageForm
CallForm spelling = Either (BracketOf Read (called spelling)) (Is (alone spelling))

abbrev chosen : Bool → List ℕ → Language Token StageForm
chosen true spelling = PrintForm
chosen false spelling = CallForm spelling

abbrev pub FormAfter : List ℕ → Language Token StageForm
FormAfter spelling = chosen (bytes_eq spelling (codes "print")) spelling

ends_bracket : (t : Token) → is_bracket_end t ≡ true → printed_on t ≡ false
ends_bracket t h = ap not h

module _ (r : Readers) (exact : Exact r) where
  bracket_law : {A B : Type 0} (L : Language Token A) (p : Parser Token A) (fit : A → Type 0) (f : A → B) (fit_all : B → Type 0) → Carries f fit fit_all → Viable (Limited L fit) []
      → ((ts : List Token) → Law L (Limited L fit) printed_on ts (p ts)) → (ts : List Token)
      → Law (BracketOf L f) (Limited (BracketOf L f) fit_all) is_bracket ts (and_then (expect is_bracket ts) (λ _. p >>= λ x. expect is_bracket_end >> pure (f x)))
  bracket_law L p fit f fit_all carries some law ts =
      open_limited is_bracket (λ _. Closes L is_bracket_end f) fit_all is_bracket
      (λ t h. (some.0 ++ op_token (codes ")") ∷ [], f some.1, ((some.0, some.1, op_token (codes ")"), refl, some.2.0, refl, refl), carries.grows some.1 some.2.1)))
      ts (λ _. p >>= λ x. expect is_bracket_end >> pure (f x))
      (λ t us h k. close_limited is_bracket_end (op_token (codes ")")) refl L printed_on is_bracket ends_bracket f fit fit_all carries us (p us) (law us))

  print_form_law : (n : ℕ) (ts : List Token) → Law PrintForm (Limited PrintForm (LowForm n)) is_bracket ts (choose is_bracket (reading.print_stage r n) (pure (form.Print print.nothing)) ts)
  unfolding reading.print_stage
  print_form_law n ts =
      optional_law (BracketOf IsPrinted (λ p. form.Print p)) (form.Print print.nothing) (LowForm n) (tt, tt) is_bracket is_bracket
      (λ a w s g. ap (λ z. sees is_bracket (z ++ s)) g.2 ∙ g.3) (λ t h. h)
      (λ us. and_then (expect is_bracket us) (λ _. print.printed r n >>= λ p. expect is_bracket_end >> pure (form.Print p))) ts
      (λ h. bracket_law IsPrinted (print.printed r n) (LowPrinted n) (λ p. form.Print p) (LowForm n) (record { grows = λ p f. f; shrinks = λ p f. f })
      ([], print.nothing, (nothing, (tt, tt))) (printed_law r exact n) ts)

  alone_low : (n : ℕ) (b : Bool) (spelling : List ℕ) → LowForm n (cond b form.Iter (form.Call spelling [] []))
  alone_low n true spelling = tt
  alone_low n false spelling = (tt, tt)

  call_form_law : (n : ℕ) (spelling : List ℕ) (ts : List Token)
      → Law (CallForm spelling) (Limited (CallForm spelling) (LowForm n)) is_bracket ts (choose is_bracket (reading.call_stage r n spelling) (pure (alone spelling)) ts)
  unfolding reading.call_stage
  call_form_law n spelling ts =
      optional_law (BracketOf Read (called spelling)) (alone spelling) (LowForm n) (alone_low n (bytes_eq spelling (codes "iter")) spelling) is_bracket is_bracket
      (λ a w s g. ap (λ z. sees is_bracket (z ++ s)) g.2 ∙ g.3) (λ t h. h)
      (λ us. and_then (expect is_bracket us) (λ _. reading.stage_arguments r n >>= λ ys. expect is_bracket_end >> pure (called spelling ys))) ts
      (λ h. bracket_law Read (reading.stage_arguments r n) (FitEach (LowArgument n)) (called spelling) (LowForm n)
      (record { grows = λ ys f. low_cut n [] ys tt f; shrinks = λ ys f. (cut_low n [] ys f.0 f.1).1 })
      ([], [], (inr (refl, refl), tt)) (read_law r exact n) ts)

  pub form_law : (n : ℕ) (spelling : List ℕ) (ts : List Token) → Law (FormAfter spelling) (Limited (FormAfter spelling) (LowForm n)) is_bracket ts (reading.stage_after r n spelling ts)
  unfolding reading.stage_after
  form_law n spelling ts =
      let go : (b : Bool) → Law (chosen b spelling) (Limited (chosen b spelling) (LowForm n)) is_bracket ts
      (cond b (choose is_bracket (reading.print_stage r n) (pure (form.Print print.nothing))) (choose is_bracket (reading.call_stage r n spelling) (pure (alone spelling))) ts) = elim [
        | true ↦ print_form_law n ts
        | false ↦ call_form_law n spelling ts
      ] in
      go (bytes_eq spelling (codes "print"))

-- ---- stages

abbrev pub a_stage : Joint → Name → StageForm → Stage
a_stage j m f = record { node = m.node; joint = j; form = f }

abbrev pub IsStage : Language Token Stage
IsStage = Then (Picks (look_up joints)) (λ j. Then (Picks name_at) (λ m. Made (FormAfter m.spelling) (a_stage j m)))

abbrev named : Token → List ℕ → Name
named u spelling = record { node = node_at u; spelling = spelling }

named_at : (u : Token) (spelling : List ℕ) → name_of u ≡ Some spelling → name_at u ≡ Some (named u spelling)
named_at u spelling h = ap (named_by u) h

spelled : (word : List ℕ) (t : Token) (s : List ℕ) → name_of t ≡ Some s → is_word word t ≡ bytes_eq s word
spelled word t s h = ap (λ z. is_spelled z word) h

as_chosen : (b : Bool) (s : List ℕ) → bytes_eq s (codes "print") ≡ b → (a : List Token) (f : StageForm) → chosen b s a f → FormAfter s a f
as_chosen b s h a f g = let P : Bool → Type 0 = λ z. chosen z s a f in subst P (sym h) g

print_parts : (b : List Token) (p : Printed) → IsPrint b p → (u : Token) (a : List Token) → b ≡ u ∷ a → (s : List ℕ) × (name_of u ≡ Some s) × FormAfter s a (form.Print p)
print_parts _ _ (printed t o c p d h k q l) u a e =
    let same : t ≡ u = cc in
    let rest : a ≡ o ∷ (c ++ d ∷ []) = cc in
    (codes "print", ap name_of (sym same) ∙ word_name (codes "print") t h, inl (o, c ++ d ∷ [], rest, k, (c, p, d, refl, q, l, refl)))

-- what a form of the grammar is after its name
form_parts : (b : List Token) (f : StageForm) → IsStageForm b f → (u : Token) (a : List Token) → b ≡ u ∷ a → (s : List ℕ) × (name_of u ≡ Some s) × FormAfter s a f
form_parts _ _ (iter t h) u a e =
    let same : t ≡ u = cc in
    let rest : a ≡ [] = cc in
    (codes "iter", ap name_of (sym same) ∙ word_name (codes "iter") t h, inr (rest, refl))
form_parts _ _ (name t s k l m) u a e =
    let same : t ≡ u = cc in
    let rest : a ≡ [] = cc in (
      s,
      ap name_of (sym same) ∙ k,
      as_chosen false s (sym (spelled (codes "print") t s k) ∙ m) a (form.Call s [] [])
          (inr (rest, ap (λ z. cond z form.Iter (form.Call s [] [])) (sym (sym (spelled (codes "iter") t s k) ∙ l)))),
    )
form_parts _ _ (call t s o c before after d k l m p q) u a e =
    let same : t ≡ u = cc in
    let rest : a ≡ o ∷ (c ++ d ∷ []) = cc in
    let g = arguments_read c before after p in (
      s,
      ap name_of (sym same) ∙ k,
      as_chosen false s (sym (spelled (codes "print") t s k) ∙ l) a (form.Call s before after)
          (inl (o, c ++ d ∷ [], rest, m, (c, g.0, d, refl, g.1, q, ap (λ z. form.Call s z.0 z.1) (sym g.2)))),
    )
form_parts _ _ (print_alone t h) u a e =
    let same : t ≡ u = cc in
    let rest : a ≡ [] = cc in
    (codes "print", ap name_of (sym same) ∙ word_name (codes "print") t h, inr (rest, refl))
form_parts _ _ (print_of b p g) u a e = print_parts b p g u a e

print_form : (u : Token) (s : List ℕ) → name_of u ≡ Some s → bytes_eq s (codes "print") ≡ true → (a : List Token) (f : StageForm) → PrintForm a f → IsStageForm (u ∷ a) f
print_form u s h k a f g =
    let w : is_word (codes "print") u ≡ true = spelled (codes "print") u s h ∙ k in
    let F : StageForm → Type 0 = λ z. IsStageForm (u ∷ a) z in
    let go : PrintForm a f → IsStageForm (u ∷ a) f = elim [
      | inl i ↦
          let j = i.4 in
          let P : List Token → Type 0 = λ z. IsStageForm (u ∷ z) (form.Print j.1) in
          subst F (sym j.6) (subst P (sym (i.2 ∙ ap (λ z. i.0 ∷ z) j.3)) (print_of (u ∷ i.0 ∷ (j.0 ++ j.2 ∷ [])) j.1 (printed u i.0 j.0 j.1 j.2 w i.3 j.4 j.5)))
      | inr i ↦
          let P : List Token → Type 0 = λ z. IsStageForm (u ∷ z) (form.Print print.nothing) in
          subst F (sym i.1) (subst P (sym i.0) (print_alone u w))
    ] in
    go g

alone_form : (u : Token) (s : List ℕ) → name_of u ≡ Some s → bytes_eq s (codes "print") ≡ false → (b : Bool) → bytes_eq s (codes "iter") ≡ b → IsStageForm (u ∷ []) (cond b form.Iter (form.Call s [] []))
alone_form u s h k true i = iter u (spelled (codes "iter") u s h ∙ i)
alone_form u s h k false i = name u s h (spelled (codes "iter") u s h ∙ i) (spelled (codes "print") u s h ∙ k)

call_form : (u : Token) (s : List ℕ) → name_of u ≡ Some s → bytes_eq s (codes "print") ≡ false → (a : List Token) (f : StageForm) → CallForm s a f → IsStageForm (u ∷ a) f
call_form u s h k a f g =
    let F : StageForm → Type 0 = λ z. IsStageForm (u ∷ a) z in
    let go : CallForm s a f → IsStageForm (u ∷ a) f = elim [
      | inl i ↦
          let j = i.4 in
          let P : List Token → Type 0 = λ z. IsStageForm (u ∷ z) (called s j.1) in
          subst F (sym j.6) (subst P (sym (i.2 ∙ ap (λ z. i.0 ∷ z) j.3))
          (call u s i.0 j.0 (cut [] j.1).0 (cut [] j.1).1 j.2 h (spelled (codes "print") u s h ∙ k) i.3 (read_arguments j.0 j.1 j.4) j.5))
      | inr i ↦
          let P : List Token → Type 0 = λ z. IsStageForm (u ∷ z) (alone s) in
          subst F (sym i.1) (subst P (sym i.0) (alone_form u s h k (bytes_eq s (codes "iter")) refl))
    ] in
    go g

form_whole : (u : Token) (s : List ℕ) → name_of u ≡ Some s → (a : List Token) (f : StageForm) → FormAfter s a f → IsStageForm (u ∷ a) f
form_whole u s h a f g =
    let go : (b : Bool) → bytes_eq s (codes "print") ≡ b → chosen b s a f → IsStageForm (u ∷ a) f = elim [
      | true ↦ λ k i. print_form u s h k a f i
      | false ↦ λ k i. call_form u s h k a f i
    ] in
    go (bytes_eq s (codes "print")) refl g

stage_made : (t : Token) (j : Joint) (u : Token) (a : List Token) (f : StageForm) → look_up joints t ≡ Some j → IsStageForm (u ∷ a) f → IsStage (t ∷ u ∷ a) (record { node = node_at u; joint = j; form = f })
stage_made t j u a f h p =
    let k = form_parts (u ∷ a) f p u a refl in
    record {
      first = t ∷ [];
      second = u ∷ a;
      value = j;
      joined = refl;
      heads = (t, refl, h);
      tails = record { first = u ∷ []; second = a; value = named u k.0; joined = refl; heads = (u, refl, named_at u k.0 k.1); tails = (f, k.2, refl) };
    }

-- a stage by its tokens
stage_parts : (a : List Token) (s : Stage) → IsStage a s
    → (t : Token) × (j : Joint) × (u : Token) × (b : List Token) × (f : StageForm) × (a ≡ t ∷ u ∷ b) × (look_up joints t ≡ Some j) × IsStageForm (u ∷ b) f × (s ≡ record { node = node_at u; joint = j; form = f })
stage_parts a s g =
    let t = g.heads.0 in
    let k = g.tails in
    let u = k.heads.0 in
    let n = name_spelling u k.value (name_of u) refl k.heads.2 in
    let m = k.tails in
    let same : k.value.spelling ≡ n.0 = ap (λ z. z.spelling) n.2 in
    let P : List ℕ → Type 0 = λ z. FormAfter z k.second m.0 in (
      t,
      g.value,
      u,
      k.second,
      m.0,
      g.joined ∙ ap (λ z. z ++ g.second) g.heads.1 ∙ ap (λ z. t ∷ z) (k.joined ∙ ap (λ z. z ++ k.second) k.heads.1),
      g.heads.2,
      form_whole u n.0 n.1 k.second m.0 (subst P same m.1),
      m.2 ∙ ap (λ z. a_stage g.value z m.0) n.2,
    )

one_many : (b : List Token) (ss : List Stage) → OneOrMore IsStage b ss → Many IsStage b ss
one_many b ss g =
    let P : List Token → Type 0 = λ z. Many IsStage z (g.value ∷ g.tails.0) in
    let Q : List Stage → Type 0 = λ z. Many IsStage b z in
    subst Q (sym g.tails.2) (subst P (sym g.joined) (more g.first g.value g.second g.tails.0 g.heads g.tails.1))

stages_many : (a : List Token) (ss : List Stage) → IsStages a ss → OneOrMore IsStage a ss
stages_many _ _ (last t j u a f h p) = record { first = t ∷ u ∷ a; second = []; value = _; joined = sym (append-nil (t ∷ u ∷ a)); heads = stage_made t j u a f h p; tails = ([], none, refl) }
stages_many _ _ (another t j u a f b ss h p rest) =
    let g = stages_many b ss rest in
    record {
      first = t ∷ u ∷ a;
      second = b;
      value = _;
      joined = refl;
      heads = stage_made t j u a f h p;
      tails = (ss, one_many b ss g, refl);
    }

many_stages : (a : List Token) (s : Stage) (b : List Token) (ss : List Stage) → IsStage a s → Many IsStage b ss → IsStages (a ++ b) (s ∷ ss)
many_stages a s _ _ p none =
    let k = stage_parts a s p in
    let P : List Token → Type 0 = λ z. IsStages z (s ∷ []) in
    let Q : Stage → Type 0 = λ z. IsStages (k.0 ∷ k.2 ∷ k.3) (z ∷ []) in
    subst P (sym (append-nil a ∙ k.5)) (subst Q (sym k.8) (last k.0 k.1 k.2 k.3 k.4 k.6 k.7))
many_stages a s _ _ p (more c u d us q rest) =
    let k = stage_parts a s p in
    let l = many_stages c u d us q rest in
    let P : List Token → Type 0 = λ z. IsStages (z ++ (c ++ d)) (s ∷ u ∷ us) in
    let Q : Stage → Type 0 = λ z. IsStages (k.0 ∷ k.2 ∷ k.3 ++ (c ++ d)) (z ∷ u ∷ us) in
    subst P (sym k.5) (subst Q (sym k.8) (another k.0 k.1 k.2 k.3 k.4 (c ++ d) (u ∷ us) k.6 k.7 l))

stages_up : (a : List Token) (ss : List Stage) → OneOrMore IsStage a ss → IsStages a ss
stages_up a ss g =
    let P : List Token → Type 0 = λ z. IsStages z (g.value ∷ g.tails.0) in
    let Q : List Stage → Type 0 = λ z. IsStages a z in
    subst Q (sym g.tails.2) (subst P (sym g.joined) (many_stages g.first g.value g.second g.tails.0 g.heads g.tails.1))

-- ---- the law

bracket_no_joint_in : (k : TokenKind) → is_spelled (op_in k) (codes "(") ≡ true → in_table (entry_of (op_in k) joints) ≡ false
bracket_no_joint_in (kind.Op w) h = one_word w (codes "(") (λ z. in_table (entry_of (Some z) joints) ≡ false) h refl
bracket_no_joint_in _ h = absurd (cc)

joint_no_bracket : (t : Token) → has (look_up joints) t ≡ true → is_bracket t ≡ false
joint_no_bracket t h =
    let go : (x : Bool) → is_bracket t ≡ x → x ≡ false = elim [ true ↦ λ e. let k = bracket_no_joint_in t.kind e in absurd (cc) | false ↦ λ e. refl ] in
    go (is_bracket t) refl

simple_bracket_in : (k : TokenKind) → ends_simple_in k ≡ true → is_spelled (op_in k) (codes "(") ≡ false
simple_bracket_in (kind.Op w) h = one_word w (codes ";") (λ z. bytes_eq z (codes "(") ≡ false) h refl
simple_bracket_in _ h = refl

simple_bracket : (t : Token) → simple_on t ≡ false → is_bracket t ≡ false
simple_bracket t h = simple_bracket_in t.kind (not_false (ends_simple_in t.kind) h)

joint_simple_in : (k : TokenKind) → in_table (entry_of (op_in k) joints) ≡ true → not (ends_simple_in k) ≡ true
joint_simple_in (kind.Op w) h =
    let go : (x : Bool) → bytes_eq w (codes ";") ≡ x → not x ≡ true = elim [
      | true ↦ λ e. let k : in_table (entry_of (Some w) joints) ≡ false = one_word w (codes ";") (λ z. in_table (entry_of (Some z) joints) ≡ false) e refl in absurd (cc)
      | false ↦ λ e. refl
    ] in
    go (bytes_eq w (codes ";")) refl
joint_simple_in _ h = absurd (cc)

pub joint_simple : (t : Token) → has (look_up joints) t ≡ true → simple_on t ≡ true
joint_simple t h = joint_simple_in t.kind h

abbrev Any : {A : Type 0} → A → Type 0
Any x = Unit {0}

stage_follows : Follows IsStage (has (look_up joints)) is_bracket simple_on
stage_follows = record {
  opens = λ a y s g. ap (λ z. sees (has (look_up joints)) (z ++ s)) (g.joined ∙ ap (λ z. z ++ g.second) g.heads.1) ∙ ap in_table g.heads.2;
  own = joint_simple;
  wider = simple_bracket;
  next = joint_no_bracket;
}

low_alone : (n : ℕ) (b : Bool) (spelling : List ℕ) → LowForm n (cond b form.Iter (form.Call spelling [] []))
low_alone n true spelling = tt
low_alone n false spelling = (tt, tt)

some_form : (n : ℕ) (spelling : List ℕ) → Viable (Limited (FormAfter spelling) (LowForm n)) []
some_form n spelling =
    let go : (b : Bool) → Viable (Limited (chosen b spelling) (LowForm n)) [] = elim [
      | true ↦ ([], form.Print print.nothing, (inr (refl, refl), (tt, tt)))
      | false ↦ ([], alone spelling, (inr (refl, refl), low_alone n (bytes_eq spelling (codes "iter")) spelling))
    ] in
    go (bytes_eq spelling (codes "print"))

module _ (r : Readers) (exact : Exact r) where
  some_rest : (n : ℕ) (j : Joint) → Viable (Limited (Then (Picks name_at) (λ m. Made (FormAfter m.spelling) (a_stage j m))) (LowStage n)) []
  some_rest n j =
      let k = some_form n (codes "x") in
      let m = named (sample (kind.Name (codes "x"))) (codes "x") in (
        sample (kind.Name (codes "x")) ∷ k.0,
        a_stage j m k.1,
        (
          record { first = sample (kind.Name (codes "x")) ∷ []; second = k.0; value = m; joined = refl; heads = (sample (kind.Name (codes "x")), refl, refl); tails = (k.1, k.2.0, refl) },
          k.2.1,
        ),
      )

  rest_law : (n : ℕ) (j : Joint) (ts : List Token)
      → Law (Then (Picks name_at) (λ m. Made (FormAfter m.spelling) (a_stage j m))) (Limited (Then (Picks name_at) (λ m. Made (FormAfter m.spelling) (a_stage j m))) (LowStage n)) is_bracket ts
      (and_then (take_by name_at ts) (λ m. reading.stage_after r n m.spelling >>= λ f. pure (a_stage j m f)))
  rest_law n j ts =
      join_law (Picks name_at) never (λ m. Made (FormAfter m.spelling) (a_stage j m)) is_bracket Any (LowStage n)
      (record {
        apart = λ a m g c w s h free. free_never (c ++ s);
        ends = λ a m g. let k = some_form n m.spelling in (k.0, a_stage j m k.1, (k.1, k.2.0, refl));
        ends_within = λ a m g f. let k = some_form n m.spelling in (k.0, a_stage j m k.1, ((k.1, k.2.0, refl), k.2.1));
        shrinks = λ a m g c w h f. tt;
      }) ts (take_by name_at ts) (take_limited name_at Any (λ o. tt) never ts) (λ m. reading.stage_after r n m.spelling >>= λ f. pure (a_stage j m f))
      (λ used m us g f e. made_limited (FormAfter m.spelling) is_bracket (a_stage j m) (LowForm n) (LowStage n) (record { grows = λ x k. k; shrinks = λ x k. k }) us _ (form_law r exact n m.spelling us))

  stage_law : (n : ℕ) (ts : List Token) → Law IsStage (Limited IsStage (LowStage n)) is_bracket ts (reading.stage r n ts)
  unfolding reading.stage
  stage_law n ts =
      join_law (Picks (look_up joints)) never (λ j. Then (Picks name_at) (λ m. Made (FormAfter m.spelling) (a_stage j m))) is_bracket Any (LowStage n)
      (record {
        apart = λ a j g c w s h free. free_never (c ++ s);
        ends = λ a j g. let k = some_rest n j in (k.0, k.1, k.2.0);
        ends_within = λ a j g f. some_rest n j;
        shrinks = λ a j g c w h f. tt;
      }) ts (take_by (look_up joints) ts) (take_limited (look_up joints) Any (λ o. tt) never ts) _
      (λ used j us g f e. rest_law n j us)

  pub stages_law : (n : ℕ) (ts : List Token) → Law IsStages (Limited IsStages (FitEach (LowStage n))) simple_on ts (reading.stages r n ts)
  unfolding reading.stages
  stages_law n ts =
      same_law (OneOrMore IsStage) IsStages (FitEach (LowStage n)) simple_on stages_up stages_many ts _
      (one_or_more_law IsStage (LowStage n) (has (look_up joints)) is_bracket simple_on stage_follows (reading.stage r n) (λ us h. stage_law n us) ts (stage_law n ts))
