use Rattle.std.proofs.Common.{ℕ, ◌+◌, ◌*◌, List, Result, drop, true}
use Rattle.codon_base.specs.declared.memory.Or.{Or}
use Rattle.codon_base.specs.declared.walk.WalkEnd.{WalkEnd}
use Rattle.codon_base.specs.Printed.{text_of, more_texts}
use Rattle.codon_base.specs.Operators.{whole}
use Rattle.codon_base.specs.ShowAnswers.{Writes}
use Rattle.codon_base.proofs.show.+show.Given as goal

abbrev pub decreases-show_one : goal.decreases-show_one
decreases-show_one g l = 6 * l.room + 5

abbrev pub decreases-show_met : goal.decreases-show_met
decreases-show_met g l = 6 * l.room + 4

abbrev pub decreases-show_tuple : goal.decreases-show_tuple
decreases-show_tuple g l = 6 * l.room + 2

abbrev pub decreases-show_list : goal.decreases-show_list
decreases-show_list g l = 6 * l.room + 3

abbrev pub decreases-show_list_items : goal.decreases-show_list_items
decreases-show_list_items g l = 6 * l.room + 2

abbrev pub decreases-show_items : goal.decreases-show_items
decreases-show_items g l = 6 * l.room + 1

abbrev pub decreases-show_more : goal.decreases-show_more
decreases-show_more g l = 6 * l.room + 6

-- what follows from here follows from the start
abbrev pub invariant-show_more-more : goal.invariant-show_more-more
invariant-show_more-more g l =
    (r : Result (Unit {0}) (Or WalkEnd)) (new : List ℕ) (met : ℕ) →
    Writes r (more_texts (text_of (whole (g.S.Sighted.sight l.sight)) l.room true) (drop l.value-index l.values) l.printer.met) l.printer.text new met →
    Writes r (more_texts (text_of (whole (g.S.Sighted.sight l.sight)) l.room true) l.values l.initial.printer.met) l.initial.printer.text new met
