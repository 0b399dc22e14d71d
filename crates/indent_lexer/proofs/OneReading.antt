-- A text has one reading: what comes next at a place is a function of the state and of the text, so two readings
-- agree piece by piece.
use Rattle.std.proofs.Common.{◌≡◌, ℕ, Bool, true, false, nat_lt, List, drop, refl, sym, ◌∙◌, ap, subst, arith, inl, inr}
use Rattle.std.proofs.lemmas.Bool.{ltb-true, ltb-false}
use Rattle.std.specs.Str.{IsValidUpTo}
use Rattle.codon_base.specs.declared.source.Span.{Span}
use Rattle.indent_lexer.specs.declared.token.Token.{Token}
use Rattle.indent_lexer.specs.declared.token.LexKind.{LexKind}
use Rattle.indent_lexer.specs.declared.token.LexRefusal.{LexRefusal}
use Rattle.indent_lexer.specs.declared.lexer.State.{State}
use Rattle.indent_lexer.specs.Tokens.{Goes, Ends, Stops, Lexes, ends, goes, Fails, here, later, first_state, mark_len, Tokens, LexPlace, place_at}

pub one_list : (s : State) (text : List ℕ) (a : List Token) → Lexes s text a → (b : List Token) → Lexes s text b → a ≡ b
one_list _ _ _ (ends s text out e) _ (ends _ _ out' f) = let g : Ends out ≡ Ends out' = sym e ∙ f in cc
one_list _ _ _ (ends s text out e) _ (goes _ _ out' s' len more f l) = let g : Ends out ≡ Goes out' s' len = sym e ∙ f in absurd (cc)
one_list _ _ _ (goes s text out s' len more e l) _ (ends _ _ out' f) = let g : Goes out s' len ≡ Ends out' = sym e ∙ f in absurd (cc)
one_list _ _ _ (goes s text out s1 n more e l) _ (goes _ _ out' s2 m more' f l') =
    let g : Goes out s1 n ≡ Goes out' s2 m = sym e ∙ f in
    let es : s2 ≡ s1 = cc in
    let en : m ≡ n = cc in
    let eo : out ≡ out' = cc in
    let P : State → Type 0 = λ z. Lexes z (drop m text) more' in
    let Q : ℕ → Type 0 = λ z. Lexes s1 (drop z text) more' in
    let i = one_list s1 (drop n text) more l more' (subst Q en (subst P es l')) in cc

pub not_both : (s : State) (text : List ℕ) (a : List Token) → Lexes s text a → (k : LexKind) (at : Span) → Fails s text k at → ⊥
not_both _ _ _ (ends s text out e) _ _ (here _ _ k at f) = let g : Ends out ≡ Stops k at = sym e ∙ f in cc
not_both _ _ _ (ends s text out e) _ _ (later _ _ out' s' len k at f l) = let g : Ends out ≡ Goes out' s' len = sym e ∙ f in cc
not_both _ _ _ (goes s text out s1 n more e l) _ _ (here _ _ k at f) = let g : Goes out s1 n ≡ Stops k at = sym e ∙ f in cc
not_both _ _ _ (goes s text out s1 n more e l) _ _ (later _ _ out' s2 m k at f l') =
    let g : Goes out s1 n ≡ Goes out' s2 m = sym e ∙ f in
    let es : s2 ≡ s1 = cc in
    let en : m ≡ n = cc in
    let P : State → Type 0 = λ z. Fails z (drop m text) k at in
    let Q : ℕ → Type 0 = λ z. Fails s1 (drop z text) k at in
    not_both s1 (drop n text) more l k at (subst Q en (subst P es l'))

pub one_refusal : (s : State) (text : List ℕ) (k : LexKind) (at : Span) → Fails s text k at → (j : LexKind) (to : Span) → Fails s text j to → (k ≡ j) × (at ≡ to)
one_refusal _ _ _ _ (here s text k at e) _ _ (here _ _ j to f) = let g : Stops k at ≡ Stops j to = sym e ∙ f in (cc, cc)
one_refusal _ _ _ _ (here s text k at e) _ _ (later _ _ out s' len j to f l) = let g : Stops k at ≡ Goes out s' len = sym e ∙ f in absurd (cc)
one_refusal _ _ _ _ (later s text out s' len k at e l) _ _ (here _ _ j to f) = let g : Goes out s' len ≡ Stops j to = sym e ∙ f in absurd (cc)
one_refusal _ _ _ _ (later s text out s1 n k at e l) _ _ (later _ _ out' s2 m j to f l') =
    let g : Goes out s1 n ≡ Goes out' s2 m = sym e ∙ f in
    let es : s2 ≡ s1 = cc in
    let en : m ≡ n = cc in
    let P : State → Type 0 = λ z. Fails z (drop m text) j to in
    let Q : ℕ → Type 0 = λ z. Fails s1 (drop z text) j to in
    one_refusal s1 (drop n text) k at l j to (subst Q en (subst P es l'))

pub lists : (b : List ℕ) (t u : List Token) → Tokens b t → Tokens b u → t ≡ u
lists b t u h g = one_list (first_state b) (drop (mark_len b) b) t h.tokens u g.tokens

pub apart : (b : List ℕ) (t : List Token) (r : LexRefusal) → Tokens b t → LexPlace b r → ⊥
apart b t r h (inl (inl p)) = let s = h.short in let l = p.0 in omega arith
apart b t r h (inl (inr p)) = p.1.not_utf8 h.utf8
apart b t r h (inr p) = not_both (first_state b) (drop (mark_len b) b) t h.tokens r.kind r.at p.fault

same_valid : (b : List ℕ) (m n : ℕ) → IsValidUpTo b m → IsValidUpTo b n → m ≡ n
same_valid b m n h g =
    let go : (x y : Bool) → nat_lt m n ≡ x → nat_lt n m ≡ y → m ≡ n = elim [
      | true ↦ λ y e f. absurd (h.longest n (ltb-true m n e) g.front)
      | false ↦ elim [
        | true ↦ λ e f. absurd (g.longest m (ltb-true n m f) h.front)
        | false ↦ λ e f. let i = ltb-false m n e in let j = ltb-false n m f in omega arith
      ]
    ] in
    go (nat_lt m n) (nat_lt n m) refl refl

same_refusal : (r s : LexRefusal) → r.kind ≡ s.kind → r.at ≡ s.at → r ≡ s
same_refusal r s e f =
    let by_kind : LexKind → LexRefusal = λ k. record { kind = k; at = r.at } in
    let by_place : Span → LexRefusal = λ a. record { kind = s.kind; at = a } in
    ap by_kind e ∙ ap by_place f

pub refusals : (b : List ℕ) (r s : LexRefusal) → LexPlace b r → LexPlace b s → r ≡ s
refusals b r s (inl (inl p)) (inl (inl q)) = p.1 ∙ sym q.1
refusals b r s (inl (inl p)) (inl (inr q)) = let l = p.0 in let h = q.1.short in absurd (omega arith)
refusals b r s (inl (inl p)) (inr q) = let l = p.0 in let h = q.short in absurd (omega arith)
refusals b r s (inl (inr p)) (inl (inl q)) = let l = q.0 in let h = p.1.short in absurd (omega arith)
refusals b r s (inl (inr p)) (inl (inr q)) = same_refusal r s (p.0 ∙ sym q.0) (p.1.place ∙ ap (place_at b) (same_valid b p.1.valid q.1.valid p.1.first_fault q.1.first_fault) ∙ sym q.1.place)
refusals b r s (inl (inr p)) (inr q) = absurd (p.1.not_utf8 q.utf8)
refusals b r s (inr p) (inl (inl q)) = let l = q.0 in let h = p.short in absurd (omega arith)
refusals b r s (inr p) (inl (inr q)) = absurd (q.1.not_utf8 p.utf8)
refusals b r s (inr p) (inr q) = let g = one_refusal (first_state b) (drop (mark_len b) b) r.kind r.at p.fault s.kind s.at q.fault in same_refusal r s g.0 g.1
