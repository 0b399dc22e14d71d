-- Places, slices and repetition of lists and texts (Python reference, 6.3.2, 6.3.3 and 6.7).
use Rattle.std.specs.Prelude.{ℕ, suc, zero, ◌-◌, Bool, ◌||◌, if◌then◌else◌, nat_lt, nat_eq, min, List, [], ◌∷◌, ◌++◌, take, drop, Option, Some, None, ℤ, pos, negsuc}
use Rattle.std.specs.List.{starts_with}

-- the place that an index names in a sequence of that length; a negative one counts from the end
abbrev pub place_of : ℕ → ℤ → Option ℕ
place_of size (pos n) = if nat_lt n size then Some n else None
place_of size (negsuc n) = if nat_lt n size then Some (size - suc n) else None

-- the place that a bound of a slice names: it is clamped
abbrev pub bound_of : ℕ → ℤ → ℕ
bound_of size (pos n) = min n size
bound_of size (negsuc n) = size - suc n

-- the items from one place to before another
abbrev pub sliced : {A : Type 0} → List A → ℕ → ℕ → List A
sliced xs from to = take (to - from) (drop from xs)

-- how often a sequence is repeated: a count below 1 leaves nothing
abbrev pub count_of : ℤ → ℕ
count_of (pos n) = n
count_of (negsuc n) = 0

unfoldable pub repeated : {A : Type 0} → ℕ → List A → List A
repeated zero xs = []
repeated (suc n) xs = xs ++ repeated n xs

-- whether one text stands in another
abbrev pub occurs : List ℕ → List ℕ → Bool
occurs part [] = starts_with nat_eq [] part
occurs part (b ∷ bs) = starts_with nat_eq (b ∷ bs) part || occurs part bs
