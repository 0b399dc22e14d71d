-- The laws of a choice by the next token, of a limit, and of a table of tokens.
use Rattle.std.proofs.Common.{◌≡◌, Bool, true, false, cond, List, [], ◌∷◌, ◌++◌, refl, sym, ◌∙◌, ap, Option, Some, None}
use Rattle.parse_laws.specs.declared.cause.Cause.TheVariants.{TooDeep}
use Rattle.parse_laws.specs.Parser.{Outcome, Stopped, sees, taken, take_by, in_table, has}
use Rattle.parse_laws.specs.Language.{Language, Law}
use Rattle.parse_laws.specs.Forms.{Picks}
use Rattle.parse_laws.proofs.Sequence.{same_sees}
use Rattle.parse_laws.proofs.Steps.{cons_tail}

module _ {K : Type 0} where
  pub choose_law : {A : Type 0} (G R : Language K A) (cont test : K → Bool) (ts : List K) (p q : Outcome K A)
      → (sees test ts ≡ true → Law G R cont ts p) → (sees test ts ≡ false → Law G R cont ts q) → Law G R cont ts (cond (sees test ts) p q)
  choose_law G R cont test ts p q met unmet =
      let go : (x : Bool) → sees test ts ≡ x → Law G R cont ts (cond x p q) = elim [ true ↦ λ h. met h | false ↦ λ h. unmet h ] in
      go (sees test ts) refl

  pub within_law : {A : Type 0} (G R : Language K A) (cont : K → Bool) (ts : List K) (x : Bool) (p : Outcome K A)
      → (x ≡ true → Law G R cont ts p) → (x ≡ false → Law G R cont ts (Stopped TooDeep ts)) → Law G R cont ts (cond x p (Stopped TooDeep ts))
  within_law G R cont ts true p met unmet = met refl
  within_law G R cont ts false p met unmet = unmet refl

  taken_law : {O : Type 0} (pick : K → Option O) (cont : K → Bool) (t : K) (ts : List K) (x : Option O) → pick t ≡ x
      → Law (Picks pick) (Picks pick) cont (t ∷ ts) (taken x t ts)
  taken_law pick cont t ts (Some o) h = record {
    used = t ∷ [];
    whole = refl;
    spells = (t, refl, h);
    only = λ b w s c g free same e.
        let same_first : g.0 ≡ t = (cons_tail g.0 t s c (ap (λ z. z ++ s) (sym g.1) ∙ e)).0 in
        let found : Some w ≡ Some o = sym g.2 ∙ ap pick same_first ∙ h in
        (g.1 ∙ ap (λ z. z ∷ []) same_first, cc);
  }
  taken_law pick cont t ts None h = record {
    used = [];
    whole = refl;
    viable = tt;
    refused = λ b w s c g free same e.
        let h1 : sees (has pick) c ≡ false = sym (same_sees (has pick) (t ∷ ts) c same) ∙ ap in_table h in
        let h2 : sees (has pick) c ≡ true = sym (ap (sees (has pick)) e) ∙ ap (λ z. sees (has pick) (z ++ s)) g.1 ∙ ap in_table g.2 in
        cc;
  }

  pub take_law : {O : Type 0} (pick : K → Option O) (cont : K → Bool) (ts : List K) → Law (Picks pick) (Picks pick) cont ts (take_by pick ts)
  take_law pick cont [] = record {
    used = [];
    whole = refl;
    viable = tt;
    refused = λ b w s c g free same e.
        let h1 : sees (has pick) c ≡ false = sym (same_sees (has pick) [] c same) in
        let h2 : sees (has pick) c ≡ true = sym (ap (sees (has pick)) e) ∙ ap (λ z. sees (has pick) (z ++ s)) g.1 ∙ ap in_table g.2 in
        cc;
  }
  take_law pick cont (t ∷ ts) = taken_law pick cont t ts (pick t) refl
