use Rattle.std.proofs.Common.{◌≡◌, ◌-◌, List, [], reverse}
use Rattle.codon_base.specs.declared.value.Value.{Value}
use Rattle.code_module.specs.Machine.{Step, with_values}
use Rattle.codon_front.proofs.machine.stack.Stack.pop_values.Given as goal

abbrev pub invariant-loop-taken : goal.invariant-loop-taken
invariant-loop-taken l = (go : List Value → List Value → Step) (other : Step) → with_values l.count l.initial.self [] go other ≡ with_values (l.count - l.taken) l.self (reverse l.values.items) go other
