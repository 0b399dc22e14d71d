use Rattle.std.proofs.Common.{◌≡◌, ◌≤◌, ℕ, List, drop}
use Rattle.outer_world.specs.Sink.{gained}
use Rattle.code_module.specs.Machine.{run_from, run_of}
use Rattle.codon_front.specs.Run.{state_of}
use Rattle.codon_front.proofs.machine.runner.run.Given as goal

abbrev pub invariant-loop-instr : goal.invariant-loop-instr
invariant-loop-instr g l =
    (sofar : List ℕ) × (g.O.Sink.written l.out ≡ gained (g.O.Sink.written l.initial.out) sofar)
    × (run_from l.program.texts (drop l.instr-index l.instr-items) (state_of l.machine sofar) ≡ run_of l.program)
    × (g.O.Sink.faults l.initial.out ≤ g.O.Sink.faults l.out)
