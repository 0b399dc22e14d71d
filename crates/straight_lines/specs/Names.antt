-- Names that were given numbers.
use Rattle.std.specs.Prelude.{◌≡◌, ◌≢◌, ℕ, ◌<◌, ◌≤◌, List, Option, Some, Bool, is_some}
use Rattle.std.specs.BTreeMap.{get_by}
use Rattle.std.specs.Ordering.{nat_cmp}
use Rattle.std.specs.Cmp.Lexicographic.{slice_cmp}
use Rattle.straight_lines.specs.declared.names.Names.{Names}

-- the number of a name, where it has one
abbrev pub number_in : Names → List ℕ → Option ℕ
number_in names n = get_by (λ k. slice_cmp nat_cmp n k.now) names.numbers

abbrev pub is_numbered : (List ℕ → Option ℕ) → List ℕ → Bool
is_numbered numbers n = is_some (numbers n)

-- each number stands below the count, and for one name alone
pub record AreNumbers (numbers : List ℕ → Option ℕ) (count : ℕ) : Type 0 where
  pub below : (n : List ℕ) (k : ℕ) → numbers n ≡ Some k → k < count
  pub apart : (m n : List ℕ) (k : ℕ) → numbers m ≡ Some k → numbers n ≡ Some k → m ≡ n

-- a name has this number now, and the other names have theirs
pub record Numbers (old new : List ℕ → Option ℕ) (old_count count : ℕ) (name : List ℕ) (number : ℕ) : Type 0 where
  pub own : new name ≡ Some number
  pub others : (n : List ℕ) → n ≢ name → new n ≡ old n
  pub valid : AreNumbers new count
  pub more : old_count ≤ count
