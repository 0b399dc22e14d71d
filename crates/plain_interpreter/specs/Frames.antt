-- Changes of the names of the body that runs, one by one.
use Rattle.std.specs.Prelude.{List, [], ◌∷◌}
use Rattle.codon_base.specs.declared.value.Value.{Value}
use Rattle.meaning_rules.specs.State.{Spelling, Names, State, assigned_to}
use Rattle.meaning_rules.specs.Outcome.{Outcome, Gives, Run, wrong}

-- the state with other names
abbrev pub with_names : Names → State → State
with_names names s = record s { names = names }

-- names with these values, in order
abbrev pub put_back : List Spelling → List Value → Names → Names
put_back own [] names = names
put_back [] (v ∷ vs) names = names
put_back (name ∷ own) (v ∷ vs) names = put_back own vs (assigned_to name v names)

-- the state in which the names wait and others run
abbrev pub waited : Names → State → State
waited names s = record s { names = names; waiting = s.names ∷ s.waiting }

-- the names of the loop that waits innermost take the place of the names that run, which are given
abbrev pub taken_from : List Names → State → Outcome Names
taken_from [] s = wrong s
taken_from (names ∷ waiting) s = Gives s.names (record s { names = names; waiting = waiting })

unfoldable pub taken : Run Names
taken s = taken_from s.waiting s
