use Rattle.std.proofs.Common.{ℕ, ◌+◌, ◌*◌, Bool, Result, drop}
use Rattle.codon_base.specs.Compared.{equal, all_equal}
use Rattle.codon_base.specs.Operators.{whole}
use Rattle.codon_base.specs.declared.walk.WalkEnd.{WalkEnd}
use Rattle.value_operators.specs.Answers.{Judges}
use Rattle.value_operators.proofs.compare.+compare.Given as goal

abbrev pub decreases-equal_one : goal.decreases-equal_one
decreases-equal_one g l = 6 * l.room + 5

abbrev pub decreases-equal_met : goal.decreases-equal_met
decreases-equal_met g l = 6 * l.room + 4

abbrev pub decreases-equal_lists : goal.decreases-equal_lists
decreases-equal_lists g l = 6 * l.room + 3

abbrev pub decreases-equal_found : goal.decreases-equal_found
decreases-equal_found g l = 6 * l.room + 2

abbrev pub decreases-equal_tuples : goal.decreases-equal_tuples
decreases-equal_tuples g l = 6 * l.room + 2

abbrev pub decreases-equal_items : goal.decreases-equal_items
decreases-equal_items g l = 6 * l.room + 1

abbrev pub decreases-equal_all : goal.decreases-equal_all
decreases-equal_all g l = 6 * l.room + 6

-- what follows from here follows from the start
abbrev pub invariant-equal_all-items : goal.invariant-equal_all-items
invariant-equal_all-items g l =
    (r : Result Bool WalkEnd) (new : ℕ) →
    Judges r (all_equal (equal (whole (g.S.Sighted.sight l.sight)) l.room) (drop l.place l.vs) (drop l.place l.ws) l.met) new →
    Judges r (all_equal (equal (whole (g.S.Sighted.sight l.sight)) l.room) l.vs l.ws l.initial.met) new
