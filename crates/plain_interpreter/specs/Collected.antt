-- What parts give in order, as a list.
use Rattle.std.specs.Prelude.{List, [], ◌∷◌}
use Rattle.meaning_rules.specs.Outcome.{Run, ◌>>=◌, pure}

abbrev pub collect : {X A : Type 0} → (X → Run A) → List X → Run (List A)
collect f [] = pure []
collect f (x ∷ xs) = f x >>= λ a. collect f xs >>= λ more. pure (a ∷ more)
