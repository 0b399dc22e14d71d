use Rattle.std.proofs.Common.{◌≡◌, replicate}
use Rattle.codon_base.specs.declared.value.Value.TheVariants.{Unset}
use Rattle.codon_front.proofs.machine.runner.unset_globals.Given as goal

abbrev pub invariant-loop-i : goal.invariant-loop-i
invariant-loop-i l = l.globals ≡ replicate l.i Unset
