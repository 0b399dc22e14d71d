-- Values that are taken from the stack one by one, and their texts that are written one by one.
use Rattle.std.proofs.Common.{◌≡◌, ℕ, suc, ◌+◌, ◌-◌, ◌<◌, List, [], ◌∷◌, ◌++◌, Option, Some, None, Bool, true, length, drop, get_or, reverse, refl, ap, sym, ◌∙◌, arith, append_assoc, drop-cons}
use Rattle.std.proofs.lemmas.List.{reverse-append}
use Rattle.codon_base.specs.declared.value.Value.{Value}
use Rattle.codon_base.specs.Shown.{shown, AppendsShown}
use Rattle.code_module.specs.Machine.{Step, with_values, separated, then_text}

-- ---- taking values

reversed_more : (xs : List Value) (v : Value) → reverse (xs ++ v ∷ []) ≡ v ∷ reverse xs
reversed_more xs v = reverse-append xs (v ∷ [])

-- one more value is taken
pub takes_one : (n i : ℕ) (old stack rest values more : List Value) (v : Value) (go : List Value → List Value → Step) (other : Step) → i < n → stack ≡ v ∷ rest → more ≡ values ++ v ∷ [] → with_values n old [] go other ≡ with_values (n - i) stack (reverse values) go other → with_values n old [] go other ≡ with_values (n - (i + 1)) rest (reverse more) go other
takes_one n i old stack rest values more v go other small e m so_far =
    let next : n - i ≡ suc (n - (i + 1)) = omega arith in
    so_far
    ∙ ap (λ k. with_values k stack (reverse values) go other) next
    ∙ ap (λ s. with_values (suc (n - (i + 1))) s (reverse values) go other) e
    ∙ ap (λ above. with_values (n - (i + 1)) rest above go other) (sym (ap reverse m ∙ reversed_more values v))

-- there is none to take
pub takes_none : (n i : ℕ) (old stack above : List Value) (go : List Value → List Value → Step) (other : Step) → i < n → stack ≡ [] → with_values n old [] go other ≡ with_values (n - i) stack above go other → with_values n old [] go other ≡ other
takes_none n i old stack above go other small e so_far =
    let next : n - i ≡ suc (n - (i + 1)) = omega arith in
    so_far
    ∙ ap (λ k. with_values k stack above go other) next
    ∙ ap (λ s. with_values (suc (n - (i + 1))) s above go other) e

-- ---- writing texts

shown_appended : (old new : List ℕ) (o : Option (List ℕ)) (has : Bool) → has ≡ true → AppendsShown old new o has → (t : List ℕ) × (o ≡ Some t) × (new ≡ old ++ t)
shown_appended old new None has e h = cc
shown_appended old new (Some t) has e h = (t, refl, h.1)

joined_text : (a b c : List ℕ) (x : Option (List ℕ)) → then_text (Some a) (then_text (Some b) (then_text (Some c) x)) ≡ then_text (Some (a ++ (b ++ c))) x
joined_text a b c None = refl
joined_text a b c (Some d) = ap (λ t. Some t) (simp append_assoc)

-- the texts so far, and one more with the separator before it
pub text_more : (sep : List ℕ) (values : List Value) (i : ℕ) (v : Value) (old piece mid new text : List ℕ) (has : Bool) → i < length values → v ≡ get_or values i v → piece ≡ old ++ text → separated sep values ≡ then_text (Some text) (separated sep (drop i values)) → mid ≡ piece ++ sep → has ≡ true → AppendsShown mid new (shown v) has → (more : List ℕ) × (new ≡ old ++ more) × (separated sep values ≡ then_text (Some more) (separated sep (drop (i + 1) values)))
text_more sep values i v old piece mid new text has small item p so_far m shows appended =
    let a = shown_appended mid new (shown v) has shows appended in
    let next : suc i ≡ i + 1 = omega arith in
    let rest : drop i values ≡ v ∷ drop (i + 1) values = drop-cons values i v small ∙ ap (λ x. x ∷ drop (suc i) values) (sym item) ∙ ap (λ k. v ∷ drop k values) next in
    let written : new ≡ old ++ (text ++ (sep ++ a.0)) = a.2 ∙ ap (λ t. t ++ a.0) (m ∙ ap (λ t. t ++ sep) p) ∙ simp append_assoc in
    let texts : separated sep (drop i values) ≡ then_text (Some sep) (then_text (Some a.0) (separated sep (drop (i + 1) values))) = ap (separated sep) rest ∙ ap (λ o. then_text (Some sep) (then_text o (separated sep (drop (i + 1) values)))) a.1 in
    (text ++ (sep ++ a.0), written, so_far ∙ ap (λ o. then_text (Some text) o) texts ∙ joined_text text sep a.0 (separated sep (drop (i + 1) values)))
