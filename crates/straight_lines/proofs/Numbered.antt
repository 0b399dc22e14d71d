-- A name that had no number gets the next one.
use Rattle.std.proofs.Common.{◌≡◌, ◌≢◌, ℕ, ◌+◌, ◌<◌, List, Option, Some, None, Bool, true, false, refl, ap, sym, ◌∙◌, arith, if◌then◌else◌}
use Rattle.std.specs.Str.{bytes_eq}
use Rattle.std.proofs.lemmas.Slice.Eq.{bytes_eq-Decides}
use Rattle.straight_lines.specs.Names.{AreNumbers, Numbers}

pub bytes_eq-true : (m n : List ℕ) → bytes_eq m n ≡ true → m ≡ n
bytes_eq-true m n e = (bytes_eq-Decides m n).0 e

pub bytes_eq-apart : (m n : List ℕ) → bytes_eq m n ≡ false → m ≢ n
bytes_eq-apart m n e same =
    let t : bytes_eq m n ≡ true = (bytes_eq-Decides m n).1 same in
    cc

-- a name has this number now, and each other name has what it had
abbrev pub Updated : (List ℕ → Option ℕ) → (List ℕ → Option ℕ) → List ℕ → ℕ → Type 0
Updated old new name number = (new name ≡ Some number) × ((n : List ℕ) → n ≢ name → new n ≡ old n)

updated_other : (old new : List ℕ → Option ℕ) (name : List ℕ) (number : ℕ) → Updated old new name number → (n : List ℕ) → bytes_eq name n ≡ false → new n ≡ old n
updated_other old new name number u n e = u.1 n (λ same. bytes_eq-apart name n e (sym same))

pub same_number : (j k : ℕ) (o : Option ℕ) → o ≡ Some j → o ≡ Some k → j ≡ k
same_number j k o e f = cc

below_at : (old new : List ℕ → Option ℕ) (name : List ℕ) (count : ℕ) → Updated old new name count → AreNumbers old count → (n : List ℕ) (k : ℕ) (b : Bool) → bytes_eq name n ≡ b → new n ≡ Some k → k < count + 1
below_at old new name count u valid n k true b e =
    let own : new name ≡ Some k = ap new (bytes_eq-true name n b) ∙ e in
    let same : count ≡ k = same_number count k (new name) u.0 own in
    omega arith
below_at old new name count u valid n k false b e =
    let low : k < count = valid.below n k (sym (updated_other old new name count u n b) ∙ e) in
    omega arith

apart_at : (old new : List ℕ → Option ℕ) (name : List ℕ) (count : ℕ) → Updated old new name count → AreNumbers old count → (m n : List ℕ) (k : ℕ) (b c : Bool) → bytes_eq name m ≡ b → bytes_eq name n ≡ c → new m ≡ Some k → new n ≡ Some k → m ≡ n
apart_at old new name count u valid m n k true true b c e f = sym (bytes_eq-true name m b) ∙ bytes_eq-true name n c
apart_at old new name count u valid m n k false false b c e f =
    valid.apart m n k (sym (updated_other old new name count u m b) ∙ e) (sym (updated_other old new name count u n c) ∙ f)
apart_at old new name count u valid m n k true false b c e f =
    let own : new name ≡ Some k = ap new (bytes_eq-true name m b) ∙ e in
    let same : count ≡ k = same_number count k (new name) u.0 own in
    let low : k < count = valid.below n k (sym (updated_other old new name count u n c) ∙ f) in
    absurd (omega arith)
apart_at old new name count u valid m n k false true b c e f =
    let own : new name ≡ Some k = ap new (bytes_eq-true name n c) ∙ f in
    let same : count ≡ k = same_number count k (new name) u.0 own in
    let low : k < count = valid.below m k (sym (updated_other old new name count u m b) ∙ e) in
    absurd (omega arith)

pub numbers_next : (old new : List ℕ → Option ℕ) (name : List ℕ) (count next : ℕ) → next ≡ count + 1 → Updated old new name count → AreNumbers old count → Numbers old new count next name count
numbers_next old new name count next e u valid = record {
  own = u.0;
  others = u.1;
  valid = record {
    below = λ n k f. let low : k < count + 1 = below_at old new name count u valid n k (bytes_eq name n) refl f in omega arith;
    apart = λ m n k f g. apart_at old new name count u valid m n k (bytes_eq name m) (bytes_eq name n) refl refl f g;
  };
  more = omega arith;
}

pub some_none : (k : ℕ) (o : Option ℕ) → o ≡ None → o ≡ Some k → ⊥
some_none k o e f = cc

-- where no name has a number, each number is one name's
pub valid_none : (numbers : List ℕ → Option ℕ) (count : ℕ) → ((n : List ℕ) → numbers n ≡ None) → AreNumbers numbers count
valid_none numbers count none = record {
  below = λ n k e. absurd (some_none k (numbers n) (none n) e);
  apart = λ m n k e f. absurd (some_none k (numbers n) (none n) f);
}

-- what a map that was changed at a name has at another name
pub other_stays : (old : List ℕ → Option ℕ) (key name n : List ℕ) (o p : Option ℕ) (b : Bool) → key ≡ name → bytes_eq key n ≡ b → o ≡ (if bytes_eq key n then p else old n) → n ≢ name → o ≡ old n
other_stays old key name n o p true same b e differs = absurd (differs (sym (sym same ∙ bytes_eq-true key n b)))
other_stays old key name n o p false same b e differs = e ∙ ap (λ x. if x then p else old n) b
