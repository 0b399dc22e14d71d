-- The law of a choice among several languages by a class of the next token. What was read and what was refused begin with
-- the same token, so that both are of one class.
use Rattle.std.proofs.Common.{◌≡◌, Bool, List, [], ◌∷◌, ◌++◌, refl, sym, ◌∙◌, ap, subst}
use Rattle.parse_laws.specs.declared.cause.Cause.{Cause}
use Rattle.parse_laws.specs.declared.cause.Cause.TheVariants.{Unexpected, TooDeep}
use Rattle.parse_laws.specs.Parser.{Outcome, Parsed, Stopped}
use Rattle.parse_laws.specs.Language.{Language, Free, Same, NoneGoesOn, Refused, Law}
use Rattle.parse_laws.specs.Forms.{Sorted}
use Rattle.parse_laws.specs.Limits.{Limited}
use Rattle.parse_laws.specs.Parser.{class_of}
use Rattle.parse_laws.proofs.Sequence.{same_append}
use Rattle.parse_laws.proofs.Steps.{goes_wide, begins_wide}

module _ {K C : Type 0} (class : K → C) (none : C) where
  same_class : (ts us : List K) → Same ts us → class_of class none ts ≡ class_of class none us
  same_class [] [] h = refl
  same_class [] (u ∷ us) h = absurd h
  same_class (t ∷ ts) [] h = absurd h
  same_class (t ∷ ts) (u ∷ us) h = ap class h

  alike : (ts used r b s c : List K) → ts ≡ used ++ r → Same r c → b ++ s ≡ used ++ c → class_of class none (b ++ s) ≡ class_of class none ts
  alike ts used r b s c e same f =
      ap (class_of class none) f ∙ sym (same_class (used ++ r) (used ++ c) (same_append used r c same)) ∙ sym (ap (class_of class none) e)

  module _ {A : Type 0} (G R : Language K A) (L S : C → Language K A) (cont : K → Bool) (sorted : Sorted class none G R L S cont) where
    none_goes : (ts used r : List K) → ts ≡ used ++ r → NoneGoesOn (L (class_of class none ts)) cont used r → NoneGoesOn G cont used r
    none_goes ts used r e none_on b w s c g free same f =
        let P : C → Type 0 = λ z. L z b w in
        none_on b w s c (let d = sorted.down b w s g free in subst P (alike ts used r b s c e same f) d) free same f

    none_within : (ts used r : List K) → ts ≡ used ++ r → NoneGoesOn (S (class_of class none ts)) cont used r → NoneGoesOn R cont used r
    none_within ts used r e none_on b w s c g free same f =
        let P : C → Type 0 = λ z. S z b w in
        none_on b w s c (let d = sorted.down_within b w s g free in subst P (alike ts used r b s c e same f) d) free same f

    refused : (ts used r : List K) → ts ≡ used ++ r → (k : Cause) → Refused (L (class_of class none ts)) (S (class_of class none ts)) cont k used r → Refused G R cont k used r
    refused ts used r e Unexpected n = none_goes ts used r e n
    refused ts used r e TooDeep n =
        (none_within ts used r e n.0, begins_wide (L (class_of class none ts)) G (λ a v g. sorted.up (class_of class none ts) a v g) used r n.1)

    pub sort_law : (ts : List K) (o : Outcome K A) → Law (L (class_of class none ts)) (S (class_of class none ts)) cont ts o → Law G R cont ts o
    sort_law ts (Parsed v r) l = record {
      used = l.used;
      whole = l.whole;
      spells = sorted.up_within (class_of class none ts) l.used v l.spells;
      only = λ b w s c g free same f.
          let P : C → Type 0 = λ z. L z b w in
          l.only b w s c (let d = sorted.down b w s g free in subst P (alike ts l.used r b s c l.whole same f) d) free same f;
    }
    sort_law ts (Stopped k r) l = record {
      used = l.used;
      whole = l.whole;
      viable = goes_wide (S (class_of class none ts)) R (λ a v g. sorted.up_within (class_of class none ts) a v g) l.used l.viable;
      refused = refused ts l.used r l.whole k l.refused;
    }

  -- the same under a limit
  pub sort_limited : {A : Type 0} (G : Language K A) (L : C → Language K A) (fit : A → Type 0) (cont : K → Bool)
      → ((c : C) (a : List K) (v : A) → L c a v → G a v) → ((a : List K) (v : A) (s : List K) → G a v → Free cont s → L (class_of class none (a ++ s)) a v)
      → (ts : List K) (o : Outcome K A) → Law (L (class_of class none ts)) (Limited (L (class_of class none ts)) fit) cont ts o → Law G (Limited G fit) cont ts o
  sort_limited G L fit cont up down ts o l =
      sort_law G (Limited G fit) L (λ c. Limited (L c) fit) cont
      (record { up = up; up_within = λ c a v g. (up c a v g.0, g.1); down = down; down_within = λ a v s g free. (down a v s g.0 free, g.1) }) ts o l
