-- The laws of tokens that open, close and end something, and of what is made of a value.
use Rattle.std.proofs.Common.{◌≡◌, Bool, true, false, List, [], ◌∷◌, ◌++◌, refl, sym, ◌∙◌, ap, subst}
use Rattle.std.proofs.lemmas.List.{append-nil}
use Rattle.parse_laws.specs.Parser.{Outcome, Parser, and_then, sees, pure, within, expect, ◌>>◌}
use Rattle.parse_laws.specs.Language.{Language, Free, Viable, GoesOn, Law}
use Rattle.parse_laws.specs.Forms.{Then, never, Is, Just, Ends, Opens, Closes, Made}
use Rattle.parse_laws.proofs.Sequence.{seq}
use Rattle.parse_laws.proofs.Steps.{widen, pure_law, expect_law}

module _ {K : Type 0} where
  pub free_never : (s : List K) → Free never s
  free_never [] = refl
  free_never (t ∷ s) = refl

  -- the languages are the same everywhere
  pub rename_law : {A : Type 0} (G R H S : Language K A) (cont : K → Bool) → ((a : List K) (v : A) → G a v → H a v) → ((a : List K) (v : A) → R a v → S a v)
      → ((a : List K) (v : A) → H a v → G a v) → ((a : List K) (v : A) → S a v → R a v)
      → (ts : List K) (o : Outcome K A) → Law G R cont ts o → Law H S cont ts o
  rename_law G R H S cont a b c d ts o l =
      widen G R H S cont never false (record { up = a; up_within = b; down = λ x v s g free h. c x v g; down_within = λ x v s g free h. d x v g }) ts (free_never ts) o l

  opens_up : {B : Type 0} (test : K → Bool) (L : K → Language K B) (a : List K) (w : B) → Then (Just test) L a w → Opens test L a w
  opens_up test L a w g = (g.value, g.second, g.joined ∙ ap (λ z. z ++ g.second) g.heads.0, g.heads.1, g.tails)

  opens_down : {B : Type 0} (test : K → Bool) (L : K → Language K B) (a : List K) (w : B) → Opens test L a w → Then (Just test) L a w
  opens_down test L a w g = record { first = g.0 ∷ []; second = g.1; value = g.0; joined = g.2; heads = (refl, g.3); tails = g.4 }

  -- a token and then what it opens
  pub open_law : {B : Type 0} (test : K → Bool) (G R : K → Language K B) (cont : K → Bool)
      → ((t : K) (c : List K) (w : B) → R t c w → G t c w) → ((t : K) → test t ≡ true → Viable (R t) [])
      → (ts : List K) (q : K → Parser K B) → ((t : K) (r : List K) → test t ≡ true → ts ≡ t ∷ r → Law (G t) (R t) cont r (q t r))
      → Law (Opens test G) (Opens test R) cont ts (and_then (expect test ts) q)
  open_law test G R cont within some ts q second =
      rename_law (Then (Just test) G) (Then (Just test) R) (Opens test G) (Opens test R) cont (opens_up test G) (opens_up test R) (opens_down test G) (opens_down test R) ts _
      (seq (Just test) (Just test) never G R cont
      (record {
        part = λ a v g. g;
        parts = λ v c w g. within v c w g;
        apart = λ a v g c w s h free. free_never (c ++ s);
        ends = λ a v g. let s = some v g.1 in (s.0, s.1, within v s.0 s.1 s.2);
        ends_within = λ a v g. some v g.1;
      }) ts (expect test ts) (expect_law test never ts) q
      (λ used v r g e. second v r g.1 (e ∙ ap (λ z. z ++ r) g.0)))

  ends_up : {B : Type 0} (test : K → Bool) (v : B) (a : List K) (w : B) → Then (Just test) (λ _. Is v) a w → Ends test v a w
  ends_up test v a w g = (g.value, g.joined ∙ ap (λ z. z ++ g.second) g.heads.0 ∙ ap (λ z. g.value ∷ z) g.tails.0, g.heads.1, g.tails.1)

  ends_down : {B : Type 0} (test : K → Bool) (v : B) (a : List K) (w : B) → Ends test v a w → Then (Just test) (λ _. Is v) a w
  ends_down test v a w g = record { first = g.0 ∷ []; second = []; value = g.0; joined = g.1; heads = (refl, g.2); tails = (refl, g.3) }

  -- a token, and a value that stands already
  pub end_law : {B : Type 0} (test : K → Bool) (v : B) (cont : K → Bool) (ts : List K) → Law (Ends test v) (Ends test v) cont ts (and_then (expect test ts) (λ _. pure v))
  end_law test v cont ts =
      rename_law (Then (Just test) (λ _. Is v)) (Then (Just test) (λ _. Is v)) (Ends test v) (Ends test v) cont (ends_up test v) (ends_up test v) (ends_down test v) (ends_down test v) ts _
      (seq (Just test) (Just test) never (λ _. Is v) (λ _. Is v) cont
      (record {
        part = λ a v g. g;
        parts = λ v c w g. g;
        apart = λ a x g c w s h free. free_never (c ++ s);
        ends = λ a x g. ([], v, (refl, refl));
        ends_within = λ a x g. ([], v, (refl, refl));
      }) ts (expect test ts) (expect_law test never ts) (λ _. pure v)
      (λ used x r g e. pure_law v cont r))

  closes_up : {A B : Type 0} (L : Language K A) (test : K → Bool) (f : A → B) (a : List K) (w : B) → Then L (λ x. Ends test (f x)) a w → Closes L test f a w
  closes_up L test f a w g = (g.first, g.value, g.tails.0, g.joined ∙ ap (λ z. g.first ++ z) g.tails.1, g.heads, g.tails.2, g.tails.3)

  closes_down : {A B : Type 0} (L : Language K A) (test : K → Bool) (f : A → B) (a : List K) (w : B) → Closes L test f a w → Then L (λ x. Ends test (f x)) a w
  closes_down L test f a w g = record { first = g.0; second = g.2 ∷ []; value = g.1; joined = g.3; heads = g.4; tails = (g.2, refl, g.5, g.6) }

  -- something and then a token that closes it; some token does, and none that does carries the inside on
  pub close_law : {A B : Type 0} (test : K → Bool) (it : K) → test it ≡ true → (G R : Language K A) (contp cont : K → Bool) → ((a : List K) (v : A) → R a v → G a v)
      → ((t : K) → test t ≡ true → contp t ≡ false)
      → (f : A → B) (ts : List K) (o : Outcome K A) → Law G R contp ts o → Law (Closes G test f) (Closes R test f) cont ts (and_then o (λ x. expect test >> pure (f x)))
  close_law test it is G R contp cont part apart f ts o l =
      rename_law (Then G (λ x. Ends test (f x))) (Then R (λ x. Ends test (f x))) (Closes G test f) (Closes R test f) cont (closes_up G test f) (closes_up R test f) (closes_down G test f) (closes_down R test f) ts _
      (seq G R contp (λ x. Ends test (f x)) (λ x. Ends test (f x)) cont
      (record {
        part = part;
        parts = λ v c w g. g;
        apart = λ a v g c w s h free. ap (λ z. sees contp (z ++ s)) h.1 ∙ apart h.0 h.2;
        ends = λ a v g. (it ∷ [], f v, (it, refl, is, refl));
        ends_within = λ a v g. (it ∷ [], f v, (it, refl, is, refl));
      }) ts o l (λ x. expect test >> pure (f x))
      (λ used v r g e. end_law test (f v) cont r))

  made_up : {A B : Type 0} (L : Language K A) (f : A → B) (a : List K) (w : B) → Then L (λ x. Is (f x)) a w → Made L f a w
  made_up L f a w g = let P : List K → Type 0 = λ z. L z g.value in
      (g.value, subst P (sym (g.joined ∙ ap (λ z. g.first ++ z) g.tails.0 ∙ append-nil g.first)) g.heads, g.tails.1)

  made_down : {A B : Type 0} (L : Language K A) (f : A → B) (a : List K) (w : B) → Made L f a w → Then L (λ x. Is (f x)) a w
  made_down L f a w g = record { first = a; second = []; value = g.0; joined = sym (append-nil a); heads = g.1; tails = (refl, g.2) }

  pub made_law : {A B : Type 0} (G R : Language K A) (cont : K → Bool) → ((a : List K) (v : A) → R a v → G a v)
      → (f : A → B) (ts : List K) (o : Outcome K A) → Law G R cont ts o → Law (Made G f) (Made R f) cont ts (and_then o (λ x. pure (f x)))
  made_law G R cont part f ts o l =
      rename_law (Then G (λ x. Is (f x))) (Then R (λ x. Is (f x))) (Made G f) (Made R f) cont (made_up G f) (made_up R f) (made_down G f) (made_down R f) ts _
      (seq G R cont (λ x. Is (f x)) (λ x. Is (f x)) cont
      (record {
        part = part;
        parts = λ v c w g. g;
        apart = λ a v g c w s h free. ap (λ z. sees cont (z ++ s)) h.0 ∙ free;
        ends = λ a v g. ([], f v, (refl, refl));
        ends_within = λ a v g. ([], f v, (refl, refl));
      }) ts o l (λ x. pure (f x))
      (λ used v r g e. pure_law (f v) cont r))

  -- where each token that passes the test begins a text, so does the next one that does
  pub begins_at : {A : Type 0} (test : K → Bool) (G : Language K A) → ((t : K) → test t ≡ true → Viable G (t ∷ [])) → (ts : List K) → sees test ts ≡ true → GoesOn G [] ts
  begins_at test G viable [] h = absurd (cc)
  begins_at test G viable (t ∷ ts) h = let b = viable t h in record { token = t; rest = ts; more = b.0; value = b.1; next = refl; spells = b.2 }

  pub wider_at : (contp cont : K → Bool) → ((t : K) → cont t ≡ false → contp t ≡ false) → (s : List K) → Free cont s → Free contp s
  wider_at contp cont wider [] free = refl
  wider_at contp cont wider (t ∷ s) free = wider t free
