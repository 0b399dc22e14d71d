-- The same of trees with numbers; and a list has one place of a first bad token at most.
use Rattle.std.proofs.Common.{◌≡◌, ℕ, zero, suc, ◌+◌, ◌<◌, ◌≤◌, nat_lt, Bool, true, false, List, [], ◌∷◌, ◌++◌, take, slice_get, refl, sym, ◌∙◌, ap, subst, append_assoc, ◌⊎◌, inl, inr, Some, arith}
use Rattle.std.proofs.lemmas.Bool.{ltb-true, ltb-false}
use Rattle.codon_base.specs.declared.source.Span.{Span}
use Rattle.indent_lexer.specs.declared.token.Token.{Token}
use Rattle.source_trees.specs.declared.item.Module.{Module}
use Rattle.source_trees.specs.Bare.{bare_module}
use Rattle.source_trees.specs.Heights.{height_of}
use Rattle.parse_laws.specs.declared.cause.Cause.{Cause}
use Rattle.parse_laws.specs.declared.cause.Cause.TheVariants.{Unexpected, TooDeep}
use Rattle.parse_laws.specs.Language.{Language, Viable}
use Rattle.parse_laws.specs.Place.{IsFirstBad}
use Rattle.grammar_rules.specs.declared.refusal.ParseKind.{ParseKind}
use Rattle.grammar_rules.specs.declared.refusal.ParseRefusal.{ParseRefusal}
use Rattle.grammar_rules.specs.Modules.{Derives, Tree, most_height}
use Rattle.grammar_rules.specs.Refusals.{IsParsePlace, kind_of}
use Rattle.bare_trees.proofs.BareHeights.{same_module}
use Rattle.bare_trees.proofs.Derived.{derived_bare}
use Rattle.bare_trees.proofs.Numbering.{has_numbered}
use Rattle.bare_trees.proofs.RestoreSources.{one_numbered}
use Rattle.parse_statements.specs.Readers.{Readers, Exact}
use Rattle.parse_blocks.specs.Answers.{HoldsEnd, DerivesLow, HasTree, HasNumberedTree, HasPlace}
use Rattle.parse_blocks.proofs.Places.{decided, apart, one_tree}

-- ---- trees with numbers

low_tree : (ts : List Token) (m : Module) → Tree ts m → DerivesLow ts (bare_module m)
low_tree ts m k = let P : ℕ → Type 0 = λ z. z ≤ most_height in (k.0.0, subst P (sym (same_module m)) k.1)

numbered_tree : (ts : List Token) → HasTree ts → HasNumberedTree ts
numbered_tree ts k =
    let n = has_numbered k.0 in
    let same : bare_module n.0 ≡ k.0 = n.1 ∙ derived_bare ts k.0 k.1.0 in
    let P : Module → Type 0 = λ z. Derives ts z in
    let Q : ℕ → Type 0 = λ z. z ≤ most_height in
    (n.0, ((subst P (sym same) k.1.0, n.2), subst Q (sym (ap height_of same) ∙ same_module n.0) k.1.1))

pub decided_tree : (r : Readers) → Exact r → (ts : List Token) → HoldsEnd ts → HasNumberedTree ts ⊎ HasPlace ts
decided_tree r exact ts held = elim (decided r exact ts held) as (λ _. HasNumberedTree ts ⊎ HasPlace ts) [ inl k ↦ inl (numbered_tree ts k) | inr k ↦ inr k ]

pub apart_tree : (ts : List Token) (m : Module) (p : ParseRefusal) → Tree ts m → IsParsePlace ts p → ⊥
apart_tree ts m p k h = apart ts (bare_module m) p (low_tree ts m k) h

pub only_tree : (r : Readers) → Exact r → (ts : List Token) (m w : Module) → Tree ts m → Tree ts w → w ≡ m
only_tree r exact ts m w k h = one_numbered w m (one_tree r exact ts (bare_module m) (bare_module w) (low_tree ts m k) h.0.0) h.0.1 k.0.1

-- ---- one place

viable_prefix : (L : Language Token Module) (a c : List Token) → Viable L (a ++ c) → Viable L a
viable_prefix L a c v = let P : List Token → Type 0 = λ z. L z v.1 in (c ++ v.0, v.1, subst P (append_assoc a c v.0) v.2)

shorter : (i j : ℕ) (ts : List Token) → i ≤ j → (c : List Token) × (take j ts ≡ take i ts ++ c)
shorter zero j ts h = (take j ts, refl)
shorter (suc i) zero ts h = absurd (omega arith)
shorter (suc i) (suc j) [] h = ([], refl)
shorter (suc i) (suc j) (t ∷ ts) h = let k = shorter i j ts (omega arith) in (k.0, ap (λ z. t ∷ z) k.1)

begins_low : (k : Cause) (i : ℕ) (ts : List Token) → IsFirstBad Derives DerivesLow k ts i → Viable DerivesLow (take i ts)
begins_low Unexpected i ts f = f.0
begins_low TooDeep i ts f = f.0

derives_viable : (a : List Token) → Viable DerivesLow a → Viable Derives a
derives_viable a v = (v.0, v.1, v.2.0)

not_low : (k : Cause) (i : ℕ) (ts : List Token) → IsFirstBad Derives DerivesLow k ts i → Viable DerivesLow (take (i + 1) ts) → ⊥
not_low Unexpected i ts f v = f.1 (derives_viable (take (i + 1) ts) v)
not_low TooDeep i ts f v = f.1 v

first_bad_last : (k l : Cause) (i j : ℕ) (ts : List Token) → IsFirstBad Derives DerivesLow k ts i → IsFirstBad Derives DerivesLow l ts j → i < j → ⊥
first_bad_last k l i j ts f g h =
    let s = shorter (i + 1) j ts (omega arith) in
    let P : List Token → Type 0 = λ z. Viable DerivesLow z in
    let v = viable_prefix DerivesLow (take (i + 1) ts) s.0 (subst P s.1 (begins_low l j ts g)) in
    not_low k i ts f v

same_token : (k l : Cause) (i j : ℕ) (ts : List Token) → IsFirstBad Derives DerivesLow k ts i → IsFirstBad Derives DerivesLow l ts j → i ≡ j
same_token k l i j ts f g =
    let go : (x y : Bool) → nat_lt i j ≡ x → nat_lt j i ≡ y → i ≡ j = elim [
      | true ↦ λ y h m. absurd (first_bad_last k l i j ts f g (ltb-true i j h))
      | false ↦ elim [
        | true ↦ λ h m. absurd (first_bad_last l k j i ts g f (ltb-true j i m))
        | false ↦ λ h m. let a = ltb-false i j h in let b = ltb-false j i m in omega arith
      ]
    ] in
    go (nat_lt i j) (nat_lt j i) refl refl

same_cause : (k l : Cause) (i : ℕ) (ts : List Token) → IsFirstBad Derives DerivesLow k ts i → IsFirstBad Derives DerivesLow l ts i → k ≡ l
same_cause Unexpected Unexpected i ts f g = refl
same_cause TooDeep TooDeep i ts f g = refl
same_cause Unexpected TooDeep i ts f g = absurd (f.1 g.2)
same_cause TooDeep Unexpected i ts f g = absurd (g.1 f.2)

abbrev refusal_of : ParseKind → ℕ → Span → ParseRefusal
refusal_of kind token at = record { kind = kind; token = token; at = at }

pub one_place : (ts : List Token) (p q : ParseRefusal) → IsParsePlace ts p → IsParsePlace ts q → p ≡ q
one_place ts p q f g =
    let same : p.token ≡ q.token = same_token f.0 g.0 p.token q.token ts f.5 g.5 in
    let P : ℕ → Type 0 = λ z. IsFirstBad Derives DerivesLow f.0 ts z in
    let cause = same_cause f.0 g.0 q.token ts (subst P same f.5) g.5 in
    let found : Some f.1 ≡ Some g.1 = sym f.2 ∙ ap (slice_get ts) same ∙ g.2 in
    let token : f.1 ≡ g.1 = cc in
    let kind : p.kind ≡ q.kind = f.4 ∙ ap (λ z. kind_of z f.1) cause ∙ ap (kind_of g.0) token ∙ sym g.4 in
    let place : p.at ≡ q.at = f.3 ∙ ap (λ z. z.span) token ∙ sym g.3 in
    ap (λ z. refusal_of z p.token p.at) kind ∙ ap (λ z. refusal_of q.kind z p.at) same ∙ ap (refusal_of q.kind q.token) place
