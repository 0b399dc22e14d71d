-- What the law of a parser of whole lists says: the value is the only one, and a refused token is the first bad one.
use Rattle.std.proofs.Common.{◌≡◌, ℕ, ◌+◌, ◌-◌, ◌<◌, Bool, true, false, List, [], ◌∷◌, ◌++◌, length, take, refl, sym, ◌∙◌, ap, subst, arith, append_assoc}
use Rattle.std.proofs.lemmas.List.{append-nil, length-append}
use Rattle.parse_laws.specs.declared.cause.Cause.{Cause}
use Rattle.parse_laws.specs.declared.cause.Cause.TheVariants.{Unexpected, TooDeep}
use Rattle.parse_laws.specs.Parser.{Parsed, Stopped, Parser, sees, ended, all_of}
use Rattle.parse_laws.specs.Language.{Language, Free, NoneGoesOn, Viable, ViableIfAny, Law}
use Rattle.parse_laws.specs.Forms.{Then, any, Is}
use Rattle.parse_laws.specs.Limits.{Limited}
use Rattle.parse_laws.specs.Place.{IsFirstBad, IsOnly}
use Rattle.parse_laws.proofs.Sequence.{same_refl}
use Rattle.parse_laws.proofs.Steps.{refuse_law}
use Rattle.parse_laws.proofs.Forms.{rename_law}
use Rattle.parse_laws.proofs.Limits.{join_law, pure_limited}

module _ {K : Type 0} where
  take_front : (a b : List K) → take (length a) (a ++ b) ≡ a
  take_front [] b = refl
  take_front (x ∷ a) b = ap (λ z. x ∷ z) (take_front a b)

  take_next : (a : List K) (u : K) (b : List K) → take (length a + 1) (a ++ u ∷ b) ≡ a ++ u ∷ []
  take_next a u b =
      let k : length a + 1 ≡ length (a ++ u ∷ []) = let l : length (a ++ u ∷ []) ≡ length a + 1 = length-append a (u ∷ []) in sym l in
      ap (λ z. take z (a ++ u ∷ b)) k ∙ ap (take (length (a ++ u ∷ []))) (sym (append_assoc a (u ∷ []) b)) ∙ take_front (a ++ u ∷ []) b

module _ {K A : Type 0} where
  -- ---- a parser that takes the whole list

  not_ended : (a : List K) (w : A) (s : List K) (v : A) → Is v a w → Free any s → sees any (a ++ s) ≡ true → ⊥
  not_ended a w [] v g free h = let k : sees any (a ++ []) ≡ false = ap (λ z. sees any (z ++ [])) g.0 in cc
  not_ended a w (u ∷ s) v g free h = cc

  ended_law : (v : A) (fit : A → Type 0) → fit v → (ts : List K) → Law (Is v) (Limited (Is v) fit) any ts (ended v ts)
  ended_law v fit f [] = pure_limited v fit f any []
  ended_law v fit f (u ∷ ts) = refuse_law (Is v) (Limited (Is v) fit) any any true (λ a w s g free h. not_ended a w s v g free h) (u ∷ ts) refl

  whole_apart : (contp : K → Bool) (v : A) (c : List K) (w : A) (s : List K) → Is v c w → Free any s → Free contp (c ++ s)
  whole_apart contp v c w [] g free = ap (λ z. sees contp (z ++ [])) g.0
  whole_apart contp v c w (u ∷ s) g free = absurd (cc)

  up : (G : Language K A) (a : List K) (w : A) → Then G Is a w → G a w
  up G a w g =
      let P : A → Type 0 = λ z. G a z in
      let Q : List K → Type 0 = λ z. G z g.value in
      subst P (sym g.tails.1) (subst Q (sym (g.joined ∙ ap (λ z. g.first ++ z) g.tails.0 ∙ append-nil g.first)) g.heads)

  down : (G : Language K A) (a : List K) (w : A) → G a w → Then G Is a w
  down G a w g = record { first = a; second = []; value = w; joined = sym (append-nil a); heads = g; tails = (refl, refl) }

  pub all_law : (G : Language K A) (fit : A → Type 0) (contp : K → Bool) (p : Parser K A) (ts : List K)
      → Law G (Limited G fit) contp ts (p ts) → Law G (Limited G fit) any ts (all_of p ts)
  all_law G fit contp p ts l =
      rename_law (Then G Is) (Limited (Then G Is) fit) G (Limited G fit) any
      (up G) (λ a w g. (up G a w g.0, g.1)) (down G) (λ a w g. (down G a w g.0, g.1)) ts _
      (join_law G contp Is any fit fit
      (record {
        apart = λ a v g c w s h free. whole_apart contp v c w s h free;
        ends = λ a v g. ([], v, (refl, refl));
        ends_within = λ a v g f. ([], v, ((refl, refl), f));
        shrinks = λ a v g c w h f. subst fit h.1 f;
      }) ts (p ts) l ended (λ used v r g f e. ended_law v fit f r))

  -- ---- what its law says

  -- where nothing is left, the value is the only one
  pub only_value : (G R : Language K A) (ts : List K) (v : A) → Law G R any ts (Parsed v []) → IsOnly G R ts v
  only_value G R ts v l =
      let P : List K → Type 0 = λ z. R z v in
      (subst P (sym (l.whole ∙ append-nil l.used)) l.spells, λ w g. (l.only ts w [] [] g refl tt (append-nil ts ∙ l.whole)).1)

  -- a list of the language within the limit is not refused
  pub no_refusal : (G R : Language K A) → ((a : List K) (v : A) → R a v → G a v) → (ts : List K) (k : Cause) (r : List K) → Law G R any ts (Stopped k r) → (v : A) → R ts v → ⊥
  no_refusal G R part ts Unexpected r l v h = l.refused ts v [] r (part ts v h) refl (same_refl r) (append-nil ts ∙ l.whole)
  no_refusal G R part ts TooDeep r l v h = l.refused.0 ts v [] r h refl (same_refl r) (append-nil ts ∙ l.whole)

  none_here : (L : Language K A) (used : List K) (u : K) (r : List K) → NoneGoesOn L any used (u ∷ r) → Viable L (used ++ u ∷ []) → ⊥
  none_here L used u r none g = none ((used ++ u ∷ []) ++ g.0) g.1 [] (u ∷ g.0) g.2 refl refl (append-nil ((used ++ u ∷ []) ++ g.0) ∙ append_assoc used (u ∷ []) g.0)

  viable_any : (R : Language K A) → Viable R [] → (used : List K) → ViableIfAny R used → Viable R used
  viable_any R some [] g = some
  viable_any R some (u ∷ us) g = g

  -- the refused token is the first bad one
  bad_after : (G R : Language K A) → Viable R [] → (ts : List K) (k : Cause) (u : K) (r : List K) (l : Law G R any ts (Stopped k (u ∷ r))) → IsFirstBad G R k ts (length l.used)
  bad_after G R some ts Unexpected u r l =
      let B : List K → Type 0 = λ z. Viable R z in
      let N : List K → Type 0 = λ z. Viable G z → ⊥ in (
        subst B (sym (ap (take (length l.used)) l.whole ∙ take_front l.used (u ∷ r))) (viable_any R some l.used l.viable),
        subst N (sym (ap (take (length l.used + 1)) l.whole ∙ take_next l.used u r)) (none_here G l.used u r l.refused),
      )
  bad_after G R some ts TooDeep u r l =
      let B : List K → Type 0 = λ z. Viable R z in
      let N : List K → Type 0 = λ z. Viable R z → ⊥ in
      let C : List K → Type 0 = λ z. Viable G z in
      let b = l.refused.1 in
      let P : List K → Type 0 = λ z. G z b.value in
      let same : b.token ≡ u = cc in
      let front = sym (ap (take (length l.used + 1)) l.whole ∙ take_next l.used u r) in (
        subst B (sym (ap (take (length l.used)) l.whole ∙ take_front l.used (u ∷ r))) (viable_any R some l.used l.viable),
        subst N front (none_here R l.used u r l.refused.0),
        subst C front (b.more, b.value, subst P (ap (λ z. l.used ++ z ∷ b.more) same ∙ sym (append_assoc l.used (u ∷ []) b.more)) b.spells),
      )

  pub first_bad : (G R : Language K A) → Viable R [] → (ts : List K) (k : Cause) (r : List K) → 0 < length r → Law G R any ts (Stopped k r) → IsFirstBad G R k ts (length ts - length r)
  first_bad G R some ts k [] h l = absurd (omega arith)
  first_bad G R some ts k (u ∷ r) h l =
      let P : ℕ → Type 0 = λ z. IsFirstBad G R k ts z in
      let e : length ts ≡ length l.used + length (u ∷ r) = ap length l.whole ∙ length-append l.used (u ∷ r) in
      let n : length l.used ≡ length ts - length (u ∷ r) = omega arith in
      subst P n (bad_after G R some ts k u r l)
