-- The law of one parser after another: what the first read is the only reading, so the second begins at one place alone.
use Rattle.std.proofs.Common.{◌≡◌, Bool, List, [], ◌∷◌, ◌++◌, refl, sym, ◌∙◌, ap, subst, append_assoc}
use Rattle.std.proofs.lemmas.List.{append_cancel_left, append-nil}
use Rattle.parse_laws.specs.declared.cause.Cause.{Cause}
use Rattle.parse_laws.specs.declared.cause.Cause.TheVariants.{Unexpected, TooDeep}
use Rattle.parse_laws.specs.Parser.{Outcome, Parsed, Stopped, Parser, and_then, sees}
use Rattle.parse_laws.specs.Language.{Language, Free, Same, NoneGoesOn, Unique, ViableIfAny, GoesOn, Refused, IsRead, Law}
use Rattle.parse_laws.specs.Forms.{Then, Link}

module _ {K : Type 0} where
  pub same_refl : (ts : List K) → Same ts ts
  same_refl [] = tt
  same_refl (t ∷ ts) = refl

  pub same_sees : (test : K → Bool) (ts us : List K) → Same ts us → sees test ts ≡ sees test us
  same_sees test [] [] h = refl
  same_sees test [] (u ∷ us) h = absurd h
  same_sees test (t ∷ ts) [] h = absurd h
  same_sees test (t ∷ ts) (u ∷ us) h = ap test h

  pub same_append : (q ts us : List K) → Same ts us → Same (q ++ ts) (q ++ us)
  same_append [] ts us h = h
  same_append (t ∷ q) ts us h = refl

  pub goes_by : {A : Type 0} (L : Language K A) (used more : List K) (v : A) → L (used ++ more) v → ViableIfAny L used
  goes_by L [] more v h = tt
  goes_by L (u ∷ us) more v h = (more, v, h)

  regroup : (a b c s t : List K) → a ≡ b ++ c → a ++ s ≡ t → b ++ (c ++ s) ≡ t
  regroup a b c s t e h = sym (append_assoc b c s) ∙ ap (λ z. z ++ s) (sym e) ∙ h

  cancel : (a b s t : List K) → a ≡ b → a ++ s ≡ b ++ t → s ≡ t
  cancel a b s t e h = append_cancel_left b s t (ap (λ z. z ++ s) (sym e) ∙ h)

  begins_on : {A B : Type 0} (L : Language K A) (H : A → Language K B) → ((a : List K) (v : A) → L a v → (c : List K) × (w : B) × H v c w)
      → (used r : List K) → GoesOn L used r → GoesOn (Then L H) used r
  begins_on L H go used r b =
      let g = go (used ++ b.token ∷ b.more) b.value b.spells in
      record {
        token = b.token;
        rest = b.rest;
        more = b.more ++ g.0;
        value = g.1;
        next = b.next;
        spells = record { first = used ++ b.token ∷ b.more; second = g.0; value = b.value; joined = sym (append_assoc used (b.token ∷ b.more) g.0); heads = b.spells; tails = g.2 };
      }

  none_first : {A B : Type 0} (L : Language K A) (H : A → Language K B) (contp contq : K → Bool)
      → ((a : List K) (v : A) → L a v → (c : List K) (w : B) (s : List K) → H v c w → Free contq s → Free contp (c ++ s))
      → (used r : List K) → NoneGoesOn L contp used r → NoneGoesOn (Then L H) contq used r
  none_first L H contp contq link used r none b w s c g free same e =
      none g.first g.value (g.second ++ s) c g.heads (link g.first g.value g.heads g.second w s g.tails free) same
      (regroup b g.first g.second s (used ++ c) g.joined e)

  split_first : {A B : Type 0} (G : Language K A) (contp contq : K → Bool) (H : A → Language K B)
      → ((a : List K) (v : A) → G a v → (c : List K) (w : B) (s : List K) → H v c w → Free contq s → Free contp (c ++ s))
      → (used : List K) (v : A) (r : List K) → Unique G contp used v r
      → (more left : List K) → r ≡ more ++ left
      → (first second : List K) (x : A) (w : B) (s c : List K) → G first x → H x second w → Free contq s → Same left c
      → first ++ (second ++ s) ≡ used ++ (more ++ c)
      → (first ≡ used) × (x ≡ v) × (second ++ s ≡ more ++ c)
  split_first G contp contq H link used v r only more left e first second x w s c g h free same whole =
      let alike : Same r (more ++ c) = let P : List K → Type 0 = λ z. Same z (more ++ c) in subst P (sym e) (same_append more left c same) in
      let u = only first x (second ++ s) (more ++ c) g (link first x g second w s h free) alike whole in
      (u.0, u.1, cancel first used (second ++ s) (more ++ c) u.0 whole)

  none_second : {A B : Type 0} (G L : Language K A) (contp contq : K → Bool) (H : A → Language K B)
      → ((a : List K) (v : A) → L a v → G a v)
      → ((a : List K) (v : A) → G a v → (c : List K) (w : B) (s : List K) → H v c w → Free contq s → Free contp (c ++ s))
      → (used : List K) (v : A) (r : List K) → Unique G contp used v r
      → (more left : List K) → r ≡ more ++ left → NoneGoesOn (H v) contq more left → NoneGoesOn (Then L H) contq (used ++ more) left
  none_second G L contp contq H sub link used v r only more left e none b w s c g free same whole =
      let P : _ → Type 0 = λ x. H x g.second w in
      let u = split_first G contp contq H link used v r only more left e g.first g.second g.value w s c (sub g.first g.value g.heads) g.tails free same
      (regroup b g.first g.second s ((used ++ more) ++ c) g.joined whole ∙ append_assoc used more c) in
      none g.second w s c (subst P u.1 g.tails) free same u.2

  begins_second : {A B : Type 0} (L : Language K A) (H : A → Language K B) (used : List K) (v : A) → L used v
      → (more left : List K) → GoesOn (H v) more left → GoesOn (Then L H) (used ++ more) left
  begins_second L H used v l more left b = record {
    token = b.token;
    rest = b.rest;
    more = b.more;
    value = b.value;
    next = b.next;
    spells = record { first = used; second = more ++ b.token ∷ b.more; value = v; joined = append_assoc used more (b.token ∷ b.more); heads = l; tails = b.spells };
  }

  goes_second : {A B : Type 0} (L : Language K A) (H : A → Language K B) (used : List K) (v : A) → L used v
      → ((c : List K) × (w : B) × H v c w) → (more : List K) → ViableIfAny (H v) more → ViableIfAny (Then L H) (used ++ more)
  goes_second L H used v l go [] goes =
      goes_by (Then L H) (used ++ []) go.0 go.1 (record { first = used; second = go.0; value = v; joined = ap (λ z. z ++ go.0) (append-nil used); heads = l; tails = go.2 })
  goes_second L H used v l go (t ∷ more) goes =
      goes_by (Then L H) (used ++ t ∷ more) goes.0 goes.1 (record { first = used; second = t ∷ more ++ goes.0; value = v; joined = append_assoc used (t ∷ more) goes.0; heads = l; tails = goes.2 })

  goes_first : {A B : Type 0} (L : Language K A) (H : A → Language K B) → ((a : List K) (v : A) → L a v → (c : List K) × (w : B) × H v c w)
      → (used : List K) → ViableIfAny L used → ViableIfAny (Then L H) used
  goes_first L H go [] h = tt
  goes_first L H go (u ∷ us) h =
      let g = go (u ∷ us ++ h.0) h.1 h.2 in
      (h.0 ++ g.0, g.1, record { first = u ∷ us ++ h.0; second = g.0; value = h.1; joined = sym (append_assoc (u ∷ us) h.0 g.0); heads = h.2; tails = g.2 })

  refused_first : {A B : Type 0} (G R : Language K A) (contp : K → Bool) (H S : A → Language K B) (contq : K → Bool) → Link G R contp H S contq
      → (used r : List K) (k : Cause) → Refused G R contp k used r → Refused (Then G H) (Then R S) contq k used r
  refused_first G R contp H S contq link used r Unexpected h = none_first G H contp contq link.apart used r h
  refused_first G R contp H S contq link used r TooDeep h =
      (none_first R S contp contq (λ a v g c w s x. link.apart a v (link.part a v g) c w s (link.parts v c w x)) used r h.0, begins_on G H link.ends used r h.1)

  refused_second : {A B : Type 0} (G R : Language K A) (contp : K → Bool) (H S : A → Language K B) (contq : K → Bool) → Link G R contp H S contq
      → (used : List K) (v : A) (r : List K) → R used v → Unique G contp used v r
      → (more left : List K) → r ≡ more ++ left → (k : Cause) → Refused (H v) (S v) contq k more left → Refused (Then G H) (Then R S) contq k (used ++ more) left
  refused_second G R contp H S contq link used v r l only more left e Unexpected h =
      none_second G G contp contq H (λ a x g. g) link.apart used v r only more left e h
  refused_second G R contp H S contq link used v r l only more left e TooDeep h = (
    none_second G R contp contq S link.part (λ a x g c w s y. link.apart a x g c w s (link.parts x c w y)) used v r only more left e h.0,
    begins_second G H used v (link.part used v l) more left h.1,
  )

  seq_behind : {A B : Type 0} (G R : Language K A) (contp : K → Bool) (H S : A → Language K B) (contq : K → Bool) → Link G R contp H S contq
      → (ts : List K) (v : A) (r : List K) → IsRead G R contp ts v r → (o : Outcome K B) → Law (H v) (S v) contq r o → Law (Then G H) (Then R S) contq ts o
  seq_behind G R contp H S contq link ts v r l (Parsed w left) m = record {
    used = l.used ++ m.used;
    whole = l.whole ∙ ap (λ z. l.used ++ z) m.whole ∙ sym (append_assoc l.used m.used left);
    spells = record { first = l.used; second = m.used; value = v; joined = refl; heads = l.spells; tails = m.spells };
    only = λ b x s c g free same whole.
        let P : _ → Type 0 = λ y. H y g.second x in
        let u = split_first G contp contq H link.apart l.used v r l.only m.used left m.whole g.first g.second g.value x s c g.heads g.tails free same
        (regroup b g.first g.second s ((l.used ++ m.used) ++ c) g.joined whole ∙ append_assoc l.used m.used c) in
        let n = m.only g.second x s c (subst P u.1 g.tails) free same u.2 in
        (g.joined ∙ ap (λ z. z ++ g.second) u.0 ∙ ap (λ z. l.used ++ z) n.0, n.1);
  }
  seq_behind G R contp H S contq link ts v r l (Stopped k left) m = record {
    used = l.used ++ m.used;
    whole = l.whole ∙ ap (λ z. l.used ++ z) m.whole ∙ sym (append_assoc l.used m.used left);
    viable = goes_second R S l.used v l.spells (link.ends_within l.used v l.spells) m.used m.viable;
    refused = refused_second G R contp H S contq link l.used v r l.spells l.only m.used left m.whole k m.refused;
  }

  pub seq : {A B : Type 0} (G R : Language K A) (contp : K → Bool) (H S : A → Language K B) (contq : K → Bool) → Link G R contp H S contq
      → (ts : List K) (o : Outcome K A) → Law G R contp ts o
      → (q : A → Parser K B) → ((used : List K) (v : A) (r : List K) → R used v → ts ≡ used ++ r → Law (H v) (S v) contq r (q v r))
      → Law (Then G H) (Then R S) contq ts (and_then o q)
  seq G R contp H S contq link ts (Parsed v r) l q second = seq_behind G R contp H S contq link ts v r l (q v r) (second l.used v r l.spells l.whole)
  seq G R contp H S contq link ts (Stopped k r) l q second = record {
    used = l.used;
    whole = l.whole;
    viable = goes_first R S link.ends_within l.used l.viable;
    refused = refused_first G R contp H S contq link l.used r k l.refused;
  }
