use Rattle.std.proofs.Common.{refl, sym, ap, ◌∙◌}
use Rattle.codon_base.specs.Operators.{new_list}
use Rattle.value_operators.proofs.Repeating.{Makes-along, repeated-over, repeated-within}
use Rattle.value_operators.proofs.repeat.repeated_list.Goals as goal

pub returns-then-not-fits : goal.returns-then-not-fits
returns-then-not-fits c = Makes-along c.size_fault.result _ _ (repeated-over c.args.count _ c.args.items.now _ _ refl c.if-not-fits.ensures) c.size_fault.ensures

pub returns : goal.returns
returns c = ap (λ t. new_list t) c.in_ok-made.ensures ∙ sym (repeated-within c.args.count _ c.args.items.now _ _ refl c.if-not-fits.ensures)
