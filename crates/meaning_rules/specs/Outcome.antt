-- Computations over a state, and the few steps of which all others are made.
use Rattle.std.specs.Prelude.{ℕ, ◌+◌, ◌-◌, Bool, true, false, ◌&&◌, if◌then◌else◌, nat_lt, List, [], ◌∷◌, ◌++◌, length, take, codes}
use Rattle.codon_base.specs.declared.fault.FaultKind.{FaultKind}
use Rattle.codon_base.specs.declared.fault.FaultKind.TheVariants as kind
use Rattle.codon_base.specs.declared.object.Object.{Object}
use Rattle.meaning_rules.specs.State.{Spelling, Names, unset_names, with_names_of, Iteration, Shared, State, Stop, Faulted, OutOfFuel, Flow, Next}

-- what a computation gives, or why it stops, and the state then
pub data Outcome (A : Type 0) : Type 0 where
  Gives : A → State → Outcome A
  Stops : Stop → State → Outcome A

abbrev pub Run : Type 0 → Type 0
Run A = State → Outcome A

abbrev pub and_then : {A B : Type 0} → Outcome A → (A → Run B) → Outcome B
and_then (Gives a s) next = next a s
and_then (Stops why s) next = Stops why s

-- one computation, and then another that sees what it gave
unfoldable pub bind : {A B : Type 0} → Run A → (A → Run B) → Run B
bind first next s = and_then (first s) next

infixl 10 ◌>>=◌
abbrev pub ◌>>=◌ : {A B : Type 0} → Run A → (A → Run B) → Run B
first >>= next = bind first next

unfoldable pub pure : {A : Type 0} → A → Run A
pure a s = Gives a s

unfoldable pub stop : {A : Type 0} → Stop → Run A
stop why s = Stops why s

abbrev pub fault : {A : Type 0} → FaultKind → List ℕ → Run A
fault kind text = stop (Faulted (record { kind = kind; text = text }))

-- what the rules of the language give no value
abbrev pub wrong : {A : Type 0} → Run A
wrong = fault kind.Runtime (codes "wrong kind")

-- ---- fuel

-- a tick is taken, where one is left
unfoldable pub tick : ℕ → Run (Unit {0})
tick limit s = if nat_lt s.shared.used limit then Gives tt (record s { shared = record s.shared { used = s.shared.used + 1 } }) else Stops OutOfFuel s

-- by how many ticks are left
unfoldable pub by_fuel : {A : Type 0} → ℕ → (ℕ → Run A) → Run A
by_fuel limit next s = next (limit - s.shared.used) s

-- ---- reading and changing the state

unfoldable pub look : {A : Type 0} → (State → A) → Run A
look seen s = Gives (seen s) s

unfoldable pub change_names : (Names → Names) → Run (Unit {0})
change_names change s = Gives tt (record s { names = change s.names })

unfoldable pub change_globals : (Names → Names) → Run (Unit {0})
change_globals change s = Gives tt (record s { shared = record s.shared { globals = change s.shared.globals } })

unfoldable pub change_levels : (List (List Object) → List (List Object)) → Run (Unit {0})
change_levels change s = Gives tt (record s { shared = record s.shared { levels = change s.shared.levels } })

unfoldable pub write : List ℕ → Run (Unit {0})
write bytes s = Gives tt (record s { shared = record s.shared { out = s.shared.out ++ bytes } })

-- ---- names of other bodies

-- with these names, and then with the names before
unfoldable pub framed : {A : Type 0} → Names → Run A → Run A
framed names run s = and_then (run (record s { names = names })) (λ a t. Gives a (record t { names = s.names }))

abbrev pub woken : {A : Type 0} → A → List Names → Run A
woken a [] s = wrong s
woken a (names ∷ waiting) s = Gives a (record s { names = names; waiting = waiting })

-- the body of a generator with these names, while the names of its loop wait
unfoldable pub generating : {A : Type 0} → Names → Run A → Run A
generating names run s =
    and_then (run (record s { names = names; waiting = s.names ∷ s.waiting })) (λ a t. woken a t.waiting t)

abbrev pub resumed : {A : Type 0} → Run A → List Names → Run A
resumed run [] s = wrong s
resumed run (names ∷ waiting) s =
    and_then (run (record s { names = names; waiting = waiting })) (λ a t. Gives a (record t { names = s.names; waiting = t.names ∷ t.waiting }))

-- a turn of the loop that waits innermost, while the generator stands still
unfoldable pub suspended : {A : Type 0} → Run A → Run A
suspended run s = resumed run s.waiting s

-- ---- regions

-- a parallel iteration: on a level of the heap that is dropped, with these names of the body and these of the module fresh and then as before, and on a fuel of its own, which is what is left
unfoldable pub in_iteration : {A : Type 0} → Iteration → List Spelling → List Spelling → Run A → Run A
in_iteration iteration own own_globals run s =
    and_then (run (record s {
      names = with_names_of unset_names own s.names;
      shared = record s.shared {
        levels = s.shared.levels ++ [] ∷ [];
        globals = with_names_of unset_names own_globals s.shared.globals;
        iterations = s.shared.iterations ++ iteration ∷ [];
      };
    }))
    (λ a t. Gives a (record t {
      names = with_names_of s.names own t.names;
      shared = record t.shared {
        used = s.shared.used;
        levels = take (length s.shared.levels) t.shared.levels;
        globals = with_names_of s.shared.globals own_globals t.shared.globals;
        iterations = s.shared.iterations;
      };
    }))

-- an item has come to the region that runs
unfoldable pub item_reached : Run (Unit {0})
item_reached s = Gives tt (record s { shared = record s.shared { reached = s.shared.reached + 1 } })

abbrev pub is_next : Flow → Bool
is_next Next = true
is_next _ = false

abbrev pub is_outside : List Iteration → Bool
is_outside [] = true
is_outside _ = false

-- a region that begins outside of any iteration counts where it ends by itself, and so do its items
abbrev pub counted : Bool → Shared → Shared → Shared
counted counts before after =
    if counts
    then record after { reached = before.reached; regions = after.regions + 1; items = after.items + after.reached }
    else record after { reached = before.reached }

-- a region with its producer
unfoldable pub counting : Run Flow → Run Flow
counting run s =
    and_then (run (record s { shared = record s.shared { reached = 0 } }))
    (λ flow t. Gives flow (record t { shared = counted (is_outside s.shared.iterations && is_next flow) s.shared t.shared }))
