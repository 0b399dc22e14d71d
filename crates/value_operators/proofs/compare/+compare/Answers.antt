use Rattle.value_operators.proofs.Walking.{Judges-along, Judges-limit, equal-met}
use Rattle.value_operators.proofs.compare.+compare.Goals as goal

pub equal_one-returns-then-met-ge-VALUE_LIMIT : goal.equal_one-returns-then-met-ge-VALUE_LIMIT
equal_one-returns-then-met-ge-VALUE_LIMIT g t c = Judges-limit _ c.args.room c.args.v.now c.args.w.now c.args.met.now _ c.if-met-ge-VALUE_LIMIT.true

pub equal_one-returns : goal.equal_one-returns
equal_one-returns g t c = Judges-along _ _ _ _ (equal-met _ c.args.room c.args.v.now c.args.w.now c.args.met.now c.if-met-ge-VALUE_LIMIT.false) c.equal_met.ensures
