use Rattle.codon_front.proofs.Values.{takes_one, takes_none}
use Rattle.codon_front.proofs.machine.stack.Stack.pop_values.Goals as goal

pub returns-in_default : goal.returns-in_default
returns-in_default c =
    λ go other. takes_none c.args.count c.loop-taken.taken c.args.self.now c.loop-taken.self _ go other c.loop-taken-test.true c.in_default.ensures.0 (c.loop-taken.invariant go other)

pub loop-taken-preserved : goal.loop-taken-preserved
loop-taken-preserved c =
    λ go other. takes_one c.args.count c.loop-taken.taken c.args.self.now c.loop-taken.self c.pop.new.self c.loop-taken.values.items c.push.new.self.items c.in-Some.value go other c.loop-taken-test.true c.in-Some.ensures c.in_ok-push.ensures.items (c.loop-taken.invariant go other)
