use Rattle.std.proofs.Common.{sym, ◌∙◌, refl}
use Rattle.value_operators.proofs.Repeating.{repeated-zero, repeated-more, repeated-empty}
use Rattle.value_operators.proofs.repeat.text_copies.Goals as goal

pub repeat-init : goal.repeat-init
repeat-init c = c.in_ok-made.ensures ∙ sym (repeated-zero c.args.text.now)

pub repeat-preserved : goal.repeat-preserved
repeat-preserved c = repeated-more c.repeat._turn c.args.text.now c.repeat.made c.append.new.self c.repeat.invariant c.in_ok-append.ensures.ok

pub returns-then-is_empty : goal.returns-then-is_empty
returns-then-is_empty c = repeated-empty c.args.count c.args.text.now c.in_ok-made.made c.in_ok-made.ensures (c.if-is_empty.ensures.0 refl)
