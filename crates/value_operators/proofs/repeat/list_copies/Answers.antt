use Rattle.std.proofs.Common.{sym, ◌∙◌}
use Rattle.value_operators.proofs.Repeating.{repeated-zero, repeated-more, repeated-empty, empty_from}
use Rattle.value_operators.proofs.repeat.list_copies.Goals as goal

pub repeat-init : goal.repeat-init
repeat-init c = c.new-made.ensures ∙ sym (repeated-zero c.args.items.now)

pub repeat-preserved : goal.repeat-preserved
repeat-preserved c = repeated-more c.repeat._turn c.args.items.now c.repeat.made c.push_all.new.list c.repeat.invariant c.in_ok-push_all.ensures.ok

pub returns-then-is_empty : goal.returns-then-is_empty
returns-then-is_empty c = repeated-empty c.args.count c.args.items.now c.new-made.result c.new-made.ensures (empty_from c.args.items.now c.if-is_empty.ensures)
