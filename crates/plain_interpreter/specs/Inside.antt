-- How a parallel iteration is entered and left, and how a region begins and ends, step by step.
use Rattle.std.specs.Prelude.{ℕ, ◌+◌, ◌-◌, Bool, ◌&&◌, [], ◌∷◌, ◌++◌, length, take}
use Rattle.codon_base.specs.declared.value.Value.{Value}
use Rattle.meaning_rules.specs.State.{Names, unset_names, with_names_of, State, Flow}
use Rattle.meaning_rules.specs.Outcome.{Run, Gives, is_next, counted}
use Rattle.meaning_rules.specs.Task.{Region}
use Rattle.plain_interpreter.specs.Seen.{names_of}
use Rattle.plain_interpreter.specs.declared.iterations.Saved as code

-- ---- iterations

-- what was before an iteration: the ticks taken, and what the private names held
pub record Saved : Type 0 where
  pub used : ℕ
  pub names : Names
  pub globals : Names

abbrev pub saved_of : code.Saved → Saved
saved_of saved = record { used = saved.used; names = names_of saved.names; globals = names_of saved.globals }

-- an item has come to the region, and its iteration begins
unfoldable pub entering : Region → Value → Run Saved
entering region item s =
    Gives (record {
      used = s.shared.used;
      names = with_names_of s.names region.own unset_names;
      globals = with_names_of s.shared.globals region.own_globals unset_names;
    })
    (record s {
      names = with_names_of unset_names region.own s.names;
      shared = record s.shared {
        levels = s.shared.levels ++ [] ∷ [];
        globals = with_names_of unset_names region.own_globals s.shared.globals;
        iterations = s.shared.iterations ++ (record { item = item; lent = region.lent; targets = region.targets }) ∷ [];
        reached = s.shared.reached + 1;
      };
    })

-- the innermost iteration ends, and what was before it comes back
unfoldable pub leaving : Region → Saved → Run (Unit {0})
leaving region saved s =
    Gives tt (record s {
      names = with_names_of saved.names region.own s.names;
      shared = record s.shared {
        used = saved.used;
        levels = take (length s.shared.levels - 1) s.shared.levels;
        globals = with_names_of saved.globals region.own_globals s.shared.globals;
        iterations = take (length s.shared.iterations - 1) s.shared.iterations;
      };
    })

-- ---- regions

-- no item has come
abbrev pub from_zero : State → State
from_zero s = record s { shared = record s.shared { reached = 0 } }

-- the region with its items is counted
abbrev pub one_more : State → State
one_more s = record s { shared = record s.shared { regions = s.shared.regions + 1; items = s.shared.items + s.shared.reached } }

-- a region has ended that began outside of any iteration or inside one, after so many items had come to the region round it
unfoldable pub finishing : Bool → ℕ → Flow → Run (Unit {0})
finishing outside reached flow s =
    Gives tt (record s { shared = counted (outside && is_next flow) (record s.shared { reached = reached }) s.shared })
