-- The laws of the smallest parsers, and of one language in place of another.
use Rattle.std.proofs.Common.{◌≡◌, Bool, true, false, cond, List, [], ◌∷◌, ◌++◌, refl, sym, ◌∙◌, ap}
use Rattle.parse_laws.specs.declared.cause.Cause.{Cause}
use Rattle.parse_laws.specs.declared.cause.Cause.TheVariants.{Unexpected, TooDeep}
use Rattle.parse_laws.specs.Parser.{Outcome, Parsed, Stopped, sees, expect}
use Rattle.parse_laws.specs.Language.{Language, Free, Same, NoneGoesOn, ViableIfAny, GoesOn, Refused, Law}
use Rattle.parse_laws.specs.Forms.{Agrees, Just}
use Rattle.parse_laws.proofs.Sequence.{same_sees, same_append}

module _ {K : Type 0} where
  alike : (test : K → Bool) (x : Bool) (ts used r b s c : List K) → sees test ts ≡ x → ts ≡ used ++ r → Same r c → b ++ s ≡ used ++ c → sees test (b ++ s) ≡ x
  alike test x ts used r b s c h e same f =
      ap (sees test) f ∙ sym (same_sees test (used ++ r) (used ++ c) (same_append used r c same)) ∙ sym (ap (sees test) e) ∙ h

  none_wide : {A : Type 0} (L M : Language K A) (cont test : K → Bool) (x : Bool) → ((a : List K) (v : A) (s : List K) → M a v → Free cont s → sees test (a ++ s) ≡ x → L a v)
      → (ts used r : List K) → sees test ts ≡ x → ts ≡ used ++ r → NoneGoesOn L cont used r → NoneGoesOn M cont used r
  none_wide L M cont test x down ts used r h e none b w s c m free same f = none b w s c (down b w s m free (alike test x ts used r b s c h e same f)) free same f

  pub goes_wide : {A : Type 0} (L M : Language K A) → ((a : List K) (v : A) → L a v → M a v) → (used : List K) → ViableIfAny L used → ViableIfAny M used
  goes_wide L M up [] h = tt
  goes_wide L M up (u ∷ us) h = (h.0, h.1, up (u ∷ us ++ h.0) h.1 h.2)

  pub begins_wide : {A : Type 0} (L M : Language K A) → ((a : List K) (v : A) → L a v → M a v) → (used r : List K) → GoesOn L used r → GoesOn M used r
  begins_wide L M up used r b = record { token = b.token; rest = b.rest; more = b.more; value = b.value; next = b.next; spells = up (used ++ b.token ∷ b.more) b.value b.spells }

  refused_wide : {A : Type 0} (G R G' R' : Language K A) (cont test : K → Bool) (x : Bool) → Agrees G R G' R' cont test x
      → (ts used r : List K) → sees test ts ≡ x → ts ≡ used ++ r → (k : Cause) → Refused G R cont k used r → Refused G' R' cont k used r
  refused_wide G R G' R' cont test x agrees ts used r h e Unexpected n = none_wide G G' cont test x agrees.down ts used r h e n
  refused_wide G R G' R' cont test x agrees ts used r h e TooDeep n = (none_wide R R' cont test x agrees.down_within ts used r h e n.0, begins_wide G G' agrees.up used r n.1)

  pub widen : {A : Type 0} (G R G' R' : Language K A) (cont test : K → Bool) (x : Bool) → Agrees G R G' R' cont test x
      → (ts : List K) → sees test ts ≡ x → (o : Outcome K A) → Law G R cont ts o → Law G' R' cont ts o
  widen G R G' R' cont test x agrees ts h (Parsed v r) l = record {
    used = l.used;
    whole = l.whole;
    spells = agrees.up_within l.used v l.spells;
    only = λ b w s c g free same f. l.only b w s c (agrees.down b w s g free (alike test x ts l.used r b s c h l.whole same f)) free same f;
  }
  widen G R G' R' cont test x agrees ts h (Stopped k r) l = record {
    used = l.used;
    whole = l.whole;
    viable = goes_wide R R' agrees.up_within l.used l.viable;
    refused = refused_wide G R G' R' cont test x agrees ts l.used r h l.whole k l.refused;
  }

  -- ---- nothing, and a token

  pub pure_law : {A : Type 0} (v : A) (cont : K → Bool) (ts : List K) → let L : Language K A = λ a w. (a ≡ []) × (w ≡ v) in Law L L cont ts (Parsed v ts)
  pure_law v cont ts = record { used = []; whole = refl; spells = (refl, refl); only = λ b w s c g free same e. g }

  pub refuse_law : {A : Type 0} (G R : Language K A) (cont test : K → Bool) (x : Bool) → ((a : List K) (v : A) (s : List K) → G a v → Free cont s → sees test (a ++ s) ≡ x → ⊥)
      → (ts : List K) → sees test ts ≡ x → Law G R cont ts (Stopped Unexpected ts)
  refuse_law G R cont test x none ts h = record {
    used = [];
    whole = refl;
    viable = tt;
    refused = λ b w s c g free same e. none b w s g free (ap (sees test) e ∙ sym (same_sees test ts c same) ∙ h);
  }

  pub deep_law : {A : Type 0} (G R : Language K A) (cont test : K → Bool) (x : Bool) → ((a : List K) (v : A) (s : List K) → R a v → Free cont s → sees test (a ++ s) ≡ x → ⊥)
      → (ts : List K) → sees test ts ≡ x → GoesOn G [] ts → Law G R cont ts (Stopped TooDeep ts)
  deep_law G R cont test x none ts h begins = record {
    used = [];
    whole = refl;
    viable = tt;
    refused = ((λ b w s c g free same e. none b w s g free (ap (sees test) e ∙ sym (same_sees test ts c same) ∙ h)), begins);
  }

  pub cons_tail : (t u : K) (ts us : List K) → t ∷ ts ≡ u ∷ us → (t ≡ u) × (ts ≡ us)
  cons_tail t u ts us e = (cc, cc)

  expect_at : (test : K → Bool) (cont : K → Bool) (t : K) (ts : List K) (x : Bool) → test t ≡ x
      → Law (Just test) (Just test) cont (t ∷ ts) (cond x (Parsed t ts) (Stopped Unexpected (t ∷ ts)))
  expect_at test cont t ts true h = record {
    used = t ∷ [];
    whole = refl;
    spells = (refl, h);
    only = λ b w s c g free same e.
        let m : w ≡ t = (cons_tail w t s c (ap (λ z. z ++ s) (sym g.0) ∙ e)).0 in
        (g.0 ∙ ap (λ z. z ∷ []) m, m);
  }
  expect_at test cont t ts false h = record {
    used = [];
    whole = refl;
    viable = tt;
    refused = λ b w s c g free same e.
        let h1 : sees test c ≡ false = sym (same_sees test (t ∷ ts) c same) ∙ h in
        let h2 : sees test c ≡ true = sym (ap (sees test) e) ∙ ap (λ z. sees test (z ++ s)) g.0 ∙ g.1 in
        cc;
  }

  pub expect_law : (test : K → Bool) (cont : K → Bool) (ts : List K) → Law (Just test) (Just test) cont ts (expect test ts)
  expect_law test cont [] = record {
    used = [];
    whole = refl;
    viable = tt;
    refused = λ b w s c g free same e.
        let h1 : sees test c ≡ false = sym (same_sees test [] c same) in
        let h2 : sees test c ≡ true = sym (ap (sees test) e) ∙ ap (λ z. sees test (z ++ s)) g.0 ∙ g.1 in
        cc;
  }
  expect_law test cont (t ∷ ts) = expect_at test cont t ts (test t) refl

  -- ---- more tokens that carry on

  free_wider : (cont wide : K → Bool) → ((t : K) → wide t ≡ false → cont t ≡ false) → (s : List K) → Free wide s → Free cont s
  free_wider cont wide less [] free = refl
  free_wider cont wide less (t ∷ s) free = less t free

  none_wider : {A : Type 0} (L : Language K A) (cont wide : K → Bool) → ((t : K) → wide t ≡ false → cont t ≡ false) → (used r : List K) → NoneGoesOn L cont used r → NoneGoesOn L wide used r
  none_wider L cont wide less used r none b w s c g free same e = none b w s c g (free_wider cont wide less s free) same e

  refused_wider : {A : Type 0} (G R : Language K A) (cont wide : K → Bool) → ((t : K) → wide t ≡ false → cont t ≡ false) → (k : Cause) (used r : List K) → Refused G R cont k used r → Refused G R wide k used r
  refused_wider G R cont wide less Unexpected used r n = none_wider G cont wide less used r n
  refused_wider G R cont wide less TooDeep used r n = (none_wider R cont wide less used r n.0, n.1)

  pub wider_law : {A : Type 0} (G R : Language K A) (cont wide : K → Bool) → ((t : K) → wide t ≡ false → cont t ≡ false) → (ts : List K) (o : Outcome K A) → Law G R cont ts o → Law G R wide ts o
  wider_law G R cont wide less ts (Parsed v r) l = record {
    used = l.used;
    whole = l.whole;
    spells = l.spells;
    only = λ b w s c g free same e. l.only b w s c g (free_wider cont wide less s free) same e;
  }
  wider_law G R cont wide less ts (Stopped k r) l = record {
    used = l.used;
    whole = l.whole;
    viable = l.viable;
    refused = refused_wider G R cont wide less k l.used r l.refused;
  }
