-- The laws of the forms under a limit: the part within the limit is always the language with a condition on its values,
-- so that the laws compose without a word on how the limit is kept inside.
use Rattle.std.proofs.Common.{◌≡◌, Bool, true, false, List, [], ◌∷◌, ◌++◌, refl, sym, ◌∙◌, ap, subst, inl, inr, Option, Some}
use Rattle.parse_laws.specs.declared.cause.Cause.TheVariants.{Unexpected}
use Rattle.parse_laws.specs.Parser.{Outcome, Parsed, Stopped, Parser, and_then, sees, pure, choose, within, expect, take_by, ◌>>=◌, ◌>>◌}
use Rattle.parse_laws.specs.Language.{Language, Free, Viable, Law}
use Rattle.parse_laws.specs.Forms.{Then, Is, Picks, Ends, Opens, Closes, Brackets, Made, Either}
use Rattle.parse_laws.specs.Limits.{Limited, Nothing, Joins, Carries, bracket}
use Rattle.parse_laws.proofs.Sequence.{seq}
use Rattle.parse_laws.proofs.Steps.{widen, pure_law, deep_law}
use Rattle.parse_laws.proofs.Choices.{choose_law, take_law}
use Rattle.parse_laws.proofs.Forms.{rename_law, open_law, close_law, end_law, made_law}

module _ {K : Type 0} where
  -- one language for another that is the same
  pub same_law : {A : Type 0} (G H : Language K A) (fit : A → Type 0) (cont : K → Bool) → ((a : List K) (v : A) → G a v → H a v) → ((a : List K) (v : A) → H a v → G a v)
      → (ts : List K) (o : Outcome K A) → Law G (Limited G fit) cont ts o → Law H (Limited H fit) cont ts o
  same_law G H fit cont up down ts o l =
      rename_law G (Limited G fit) H (Limited H fit) cont up (λ a v g. (up a v g.0, g.1)) down (λ a v g. (down a v g.0, g.1)) ts o l

  pub pure_limited : {A : Type 0} (v : A) (fit : A → Type 0) → fit v → (cont : K → Bool) (ts : List K) → Law (Is v) (Limited (Is v) fit) cont ts (Parsed v ts)
  pure_limited v fit f cont ts =
      rename_law (Is v) (Is v) (Is v) (Limited (Is v) fit) cont (λ a w g. g) (λ a w g. (g, subst fit (sym g.1) f)) (λ a w g. g) (λ a w g. g.0) ts (Parsed v ts) (pure_law v cont ts)

  pub nothing_law : {A : Type 0} (fit : A → Type 0) (cont : K → Bool) (ts : List K) → let L : Language K A = Nothing in Law L (Limited L fit) cont ts (Stopped Unexpected ts)
  nothing_law fit cont ts = record { used = []; whole = refl; viable = tt; refused = λ b w s c g free same e. g }

  pub take_limited : {O : Type 0} (pick : K → Option O) (fit : O → Type 0) → ((o : O) → fit o) → (cont : K → Bool) (ts : List K) → Law (Picks pick) (Limited (Picks pick) fit) cont ts (take_by pick ts)
  take_limited pick fit all cont ts =
      rename_law (Picks pick) (Picks pick) (Picks pick) (Limited (Picks pick) fit) cont (λ a v g. g) (λ a v g. (g, all v)) (λ a v g. g) (λ a v g. g.0) ts (take_by pick ts) (take_law pick cont ts)

  -- ---- one after the other

  then_out : {A B : Type 0} (G : Language K A) (H : A → Language K B) (fit_first : A → Type 0) (fit : B → Type 0) (a : List K) (w : B)
      → Then (Limited G fit_first) (λ v. Limited (H v) fit) a w → Limited (Then G H) fit a w
  then_out G H fit_first fit a w g = (record { first = g.first; second = g.second; value = g.value; joined = g.joined; heads = g.heads.0; tails = g.tails.0 }, g.tails.1)

  pub join_law : {A B : Type 0} (G : Language K A) (contp : K → Bool) (H : A → Language K B) (contq : K → Bool) (fit_first : A → Type 0) (fit : B → Type 0) → Joins G contp H contq fit_first fit
      → (ts : List K) (o : Outcome K A) → Law G (Limited G fit_first) contp ts o
      → (q : A → Parser K B) → ((used : List K) (v : A) (r : List K) → G used v → fit_first v → ts ≡ used ++ r → Law (H v) (Limited (H v) fit) contq r (q v r))
      → Law (Then G H) (Limited (Then G H) fit) contq ts (and_then o q)
  join_law G contp H contq fit_first fit joins ts o l q second =
      rename_law (Then G H) (Then (Limited G fit_first) (λ v. Limited (H v) fit)) (Then G H) (Limited (Then G H) fit) contq
      (λ a w g. g)
      (then_out G H fit_first fit)
      (λ a w g. g)
      (λ a w g. let k = g.0 in record {
        first = k.first;
        second = k.second;
        value = k.value;
        joined = k.joined;
        heads = (k.heads, joins.shrinks k.first k.value k.heads k.second w k.tails g.1);
        tails = (k.tails, g.1);
      })
      ts _
      (seq G (Limited G fit_first) contp H (λ v. Limited (H v) fit) contq
      (record {
        part = λ a v g. g.0;
        parts = λ v c w g. g.0;
        apart = joins.apart;
        ends = joins.ends;
        ends_within = λ a v g. joins.ends_within a v g.0 g.1;
      }) ts o l q (λ used v r g e. second used v r g.0 g.1 e))

  -- ---- what is made, opened and closed

  pub made_limited : {A B : Type 0} (G : Language K A) (cont : K → Bool) (f : A → B) (fit_first : A → Type 0) (fit : B → Type 0) → Carries f fit_first fit
      → (ts : List K) (o : Outcome K A) → Law G (Limited G fit_first) cont ts o → Law (Made G f) (Limited (Made G f) fit) cont ts (and_then o (λ x. pure (f x)))
  made_limited G cont f fit_first fit carries ts o l =
      rename_law (Made G f) (Made (Limited G fit_first) f) (Made G f) (Limited (Made G f) fit) cont
      (λ a w g. g)
      (λ a w g. ((g.0, g.1.0, g.2), subst fit (sym g.2) (carries.grows g.0 g.1.1)))
      (λ a w g. g)
      (λ a w g. (g.0.0, (g.0.1, carries.shrinks g.0.0 (subst fit g.0.2 g.1)), g.0.2))
      ts _ (made_law G (Limited G fit_first) cont (λ a v g. g.0) f ts o l)

  pub open_limited : {B : Type 0} (test : K → Bool) (G : K → Language K B) (fit : B → Type 0) (cont : K → Bool) → ((t : K) → test t ≡ true → Viable (Limited (G t) fit) [])
      → (ts : List K) (q : K → Parser K B) → ((t : K) (r : List K) → test t ≡ true → ts ≡ t ∷ r → Law (G t) (Limited (G t) fit) cont r (q t r))
      → Law (Opens test G) (Limited (Opens test G) fit) cont ts (and_then (expect test ts) q)
  open_limited test G fit cont some ts q second =
      rename_law (Opens test G) (Opens test (λ t. Limited (G t) fit)) (Opens test G) (Limited (Opens test G) fit) cont
      (λ a w g. g)
      (λ a w g. ((g.0, g.1, g.2, g.3, g.4.0), g.4.1))
      (λ a w g. g)
      (λ a w g. (g.0.0, g.0.1, g.0.2, g.0.3, (g.0.4, g.1)))
      ts _ (open_law test G (λ t. Limited (G t) fit) cont (λ t c w g. g.0) some ts q second)

  pub close_limited : {A B : Type 0} (test : K → Bool) (it : K) → test it ≡ true → (G : Language K A) (contp cont : K → Bool) → ((t : K) → test t ≡ true → contp t ≡ false)
      → (f : A → B) (fit_first : A → Type 0) (fit : B → Type 0) → Carries f fit_first fit
      → (ts : List K) (o : Outcome K A) → Law G (Limited G fit_first) contp ts o
      → Law (Closes G test f) (Limited (Closes G test f) fit) cont ts (and_then o (λ x. expect test >> pure (f x)))
  close_limited test it is G contp cont apart f fit_first fit carries ts o l =
      rename_law (Closes G test f) (Closes (Limited G fit_first) test f) (Closes G test f) (Limited (Closes G test f) fit) cont
      (λ a w g. g)
      (λ a w g. ((g.0, g.1, g.2, g.3, g.4.0, g.5, g.6), subst fit (sym g.6) (carries.grows g.1 g.4.1)))
      (λ a w g. g)
      (λ a w g. (g.0.0, g.0.1, g.0.2, g.0.3, (g.0.4, carries.shrinks g.0.1 (subst fit g.0.6 g.1)), g.0.5, g.0.6))
      ts _ (close_law test it is G (Limited G fit_first) contp cont (λ a v g. g.0) apart f ts o l)

  pub end_limited : {B : Type 0} (test : K → Bool) (v : B) (fit : B → Type 0) → fit v → (cont : K → Bool) (ts : List K)
      → Law (Ends test v) (Limited (Ends test v) fit) cont ts (and_then (expect test ts) (λ _. pure v))
  end_limited test v fit f cont ts =
      rename_law (Ends test v) (Ends test v) (Ends test v) (Limited (Ends test v) fit) cont (λ a w g. g) (λ a w g. (g, subst fit (sym g.3) f)) (λ a w g. g) (λ a w g. g.0) ts _
      (end_law test v cont ts)

  -- something between two tokens
  pub bracket_law : {A B : Type 0} (is_open is_close : K → Bool) (close_it : K) → is_close close_it ≡ true
      → (G : Language K A) (contp cont : K → Bool) → ((t : K) → is_close t ≡ true → contp t ≡ false)
      → (f : K → A → B) (fit_first : A → Type 0) (fit : B → Type 0) → ((t : K) → Carries (f t) fit_first fit) → Viable (Limited G fit_first) []
      → (p : Parser K A) → ((r : List K) → Law G (Limited G fit_first) contp r (p r))
      → (ts : List K) → Law (Brackets is_open G is_close f) (Limited (Brackets is_open G is_close f) fit) cont ts (bracket is_open p is_close f ts)
  bracket_law is_open is_close close_it is G contp cont apart f fit_first fit carries some p inside ts =
      open_limited is_open (λ t. Closes G is_close (f t)) fit cont
      (λ t h. (some.0 ++ close_it ∷ [], f t some.1, ((some.0, some.1, close_it, refl, some.2.0, is, refl), (carries t).grows some.1 some.2.1)))
      ts (λ t. p >>= λ x. expect is_close >> pure (f t x))
      (λ t r h e. close_limited is_close close_it is G contp cont apart (f t) fit_first fit (carries t) r (p r) (inside r))

  -- ---- choices

  -- one language or the other, where the next token tells which
  pub either_law : {A : Type 0} (G H : Language K A) (fit : A → Type 0) (cont test : K → Bool)
      → ((a : List K) (v : A) (s : List K) → G a v → sees test (a ++ s) ≡ true)
      → ((a : List K) (v : A) (s : List K) → H a v → Free cont s → sees test (a ++ s) ≡ false)
      → (p q : Parser K A) (ts : List K)
      → (sees test ts ≡ true → Law G (Limited G fit) cont ts (p ts)) → (sees test ts ≡ false → Law H (Limited H fit) cont ts (q ts))
      → Law (Either G H) (Limited (Either G H) fit) cont ts (choose test p q ts)
  either_law {A} G H fit cont test opens misses p q ts met unmet =
      let left : (a : List K) (v : A) (s : List K) → Either G H a v → Free cont s → sees test (a ++ s) ≡ true → G a v =
      λ a v s g free h. elim g as (λ _. G a v) [ inl k ↦ k | inr k ↦ let m = misses a v s k free in absurd (cc) ] in
      let right : (a : List K) (v : A) (s : List K) → Either G H a v → Free cont s → sees test (a ++ s) ≡ false → H a v =
      λ a v s g free h. elim g as (λ _. H a v) [ inl k ↦ let m = opens a v s k in absurd (cc) | inr k ↦ k ] in
      choose_law (Either G H) (Limited (Either G H) fit) cont test ts (p ts) (q ts)
      (λ h. widen G (Limited G fit) (Either G H) (Limited (Either G H) fit) cont test true
      (record { up = λ a v g. inl g; up_within = λ a v g. (inl g.0, g.1); down = left; down_within = λ a v s g free k. (left a v s g.0 free k, g.1) })
      ts h (p ts) (met h))
      (λ h. widen H (Limited H fit) (Either G H) (Limited (Either G H) fit) cont test false
      (record { up = λ a v g. inr g; up_within = λ a v g. (inr g.0, g.1); down = right; down_within = λ a v s g free k. (right a v s g.0 free k, g.1) })
      ts h (q ts) (unmet h))

  stop_misses : {A : Type 0} (test cont : K → Bool) → ((t : K) → test t ≡ true → cont t ≡ true) → (v : A) (a : List K) (w : A) (s : List K) → Is v a w → Free cont s → sees test (a ++ s) ≡ false
  stop_misses test cont own v a w [] g free = ap (λ z. sees test (z ++ [])) g.0
  stop_misses test cont own v a w (u ∷ s) g free =
      let go : (x : Bool) → test u ≡ x → x ≡ false = elim [ true ↦ λ e. let k = own u e in absurd (cc) | false ↦ λ e. refl ] in
      ap (λ z. sees test (z ++ u ∷ s)) g.0 ∙ go (test u) refl

  -- a language where its first token comes next, and else a value that stands already
  pub optional_law : {A : Type 0} (G : Language K A) (v : A) (fit : A → Type 0) → fit v → (cont test : K → Bool)
      → ((a : List K) (w : A) (s : List K) → G a w → sees test (a ++ s) ≡ true) → ((t : K) → test t ≡ true → cont t ≡ true)
      → (p : Parser K A) (ts : List K) → (sees test ts ≡ true → Law G (Limited G fit) cont ts (p ts))
      → Law (Either G (Is v)) (Limited (Either G (Is v)) fit) cont ts (choose test p (pure v) ts)
  optional_law G v fit f cont test opens own p ts met =
      either_law G (Is v) fit cont test opens (stop_misses test cont own v) p (pure v) ts met (λ h. pure_limited v fit f cont ts)

  -- ---- the limit

  -- Where there is no room for what the next token begins, that token is refused as too deep.
  pub limit_law : {A : Type 0} (G : Language K A) (fit : A → Type 0) (cont test : K → Bool) (room : Bool)
      → ((t : K) → test t ≡ true → Viable G (t ∷ []))
      → (room ≡ false → (a : List K) (v : A) (s : List K) → G a v → fit v → Free cont s → sees test (a ++ s) ≡ true → ⊥)
      → (p : Parser K A) (ts : List K) → sees test ts ≡ true → (room ≡ true → Law G (Limited G fit) cont ts (p ts))
      → Law G (Limited G fit) cont ts (within room p ts)
  limit_law G fit cont test true viable none p ts h met = met refl
  limit_law G fit cont test false viable none p [] h met = let x : true ≡ false = sym h in absurd (cc)
  limit_law G fit cont test false viable none p (t ∷ ts) h met =
      let b = viable t h in
      deep_law G (Limited G fit) cont test true (λ a v s g free k. none refl a v s g.0 g.1 free k) (t ∷ ts) h
      (record { token = t; rest = ts; more = b.0; value = b.1; next = refl; spells = b.2 })

  -- a table all of whose values are within the limit
  pub pick_limited : {O : Type 0} (pick : K → Option O) (fit : O → Type 0) → ((t : K) (o : O) → pick t ≡ Some o → fit o) → (cont : K → Bool) (ts : List K)
      → Law (Picks pick) (Limited (Picks pick) fit) cont ts (take_by pick ts)
  pick_limited pick fit all cont ts =
      rename_law (Picks pick) (Picks pick) (Picks pick) (Limited (Picks pick) fit) cont (λ a v g. g) (λ a v g. (g, all g.0 v g.2)) (λ a v g. g) (λ a v g. g.0) ts (take_by pick ts) (take_law pick cont ts)
