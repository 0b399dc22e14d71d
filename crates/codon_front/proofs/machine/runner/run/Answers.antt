use Rattle.std.proofs.Common.{◌++◌, ◌∙◌, arith, refl, drop}
use Rattle.codon_front.specs.Run.{state_of}
use Rattle.codon_front.proofs.Running.{front, goes_on, cut_piece, written_more}
use Rattle.codon_front.proofs.machine.runner.run.Goals as goal
use Rattle.codon_front.proofs.machine.runner.run.Goals.{in-Goes, in-Prints+in-Ok-put}

pub returns-in_default-step-clause-partly : goal.returns-in_default-step-clause-partly
returns-in_default-step-clause-partly g c =
    let inv = c.loop-instr.invariant in
    front c.args.program.now.texts (drop c.loop-instr.instr-index c.entry_code-instr-items.result.now) (state_of c.loop-instr.machine inv.0) _ _ _ inv.1 inv.2

pub returns-in-Stuck-clause-partly : goal.returns-in-Stuck-clause-partly
returns-in-Stuck-clause-partly g c =
    let inv = c.loop-instr.invariant in
    front c.args.program.now.texts (drop c.loop-instr.instr-index c.entry_code-instr-items.result.now) (state_of c.loop-instr.machine inv.0) _ _ _ inv.1 inv.2

pub returns-clause-partly : goal.returns-clause-partly
returns-clause-partly g c =
    let inv = c.loop-instr.invariant in
    front c.args.program.now.texts (drop c.loop-instr.instr-index c.entry_code-instr-items.result.now) (state_of c.loop-instr.machine inv.0) _ _ _ inv.1 inv.2

pub returns-in-Err-Failed-clause-partly : goal.returns-in-Err-Failed-clause-partly
returns-in-Err-Failed-clause-partly g c =
    let inv = c.loop-instr.invariant in
    let leads = rw c.in-Prints.is at c.in-Ok-step.ensures in
    cut_piece c.args.program.now.texts c.entry_code-instr-items.result.now c.loop-instr.instr-index _ (state_of c.loop-instr.machine inv.0) (state_of c.step.new.machine (inv.0 ++ c.in-Prints.piece.items)) _ _ _ inv.0 c.in-Prints.piece.items _ _ c.loop-instr-test.true (leads inv.0) refl inv.1 c.as_slice.ensures.value c.in-Err-Failed.ensures.partly inv.2

pub returns-in-Err-Memory-clause-partly : goal.returns-in-Err-Memory-clause-partly
returns-in-Err-Memory-clause-partly g c =
    let inv = c.loop-instr.invariant in
    let leads = rw c.in-Prints.is at c.in-Ok-step.ensures in
    cut_piece c.args.program.now.texts c.entry_code-instr-items.result.now c.loop-instr.instr-index _ (state_of c.loop-instr.machine inv.0) (state_of c.step.new.machine (inv.0 ++ c.in-Prints.piece.items)) _ _ _ inv.0 c.in-Prints.piece.items _ _ c.loop-instr-test.true (leads inv.0) refl inv.1 c.as_slice.ensures.value c.in-Err-Memory.ensures.partly inv.2

pub loop-instr-preserved : goal.loop-instr-preserved
loop-instr-preserved g c =
    let inv = c.loop-instr.invariant in
    elim c.match-flow.branch [
      | in-Goes w ↦
          (let leads = rw w.in-Goes.is at c.in-Ok-step.ensures in
          (inv.0, rw w.out-is inv.1, goes_on c.args.program.now.texts c.entry_code-instr-items.result.now c.loop-instr.instr-index _ (state_of c.loop-instr.machine inv.0) (state_of c.step.new.machine inv.0) c.loop-instr-test.true (leads inv.0) ∙ inv.2, rw w.out-is inv.3))
      | in-Prints+in-Ok-put w ↦
          (let leads = rw w.in-Prints.is at c.in-Ok-step.ensures in
          (inv.0 ++ w.in-Prints.piece.items, rw w.out-is (written_more _ _ _ inv.0 w.in-Prints.piece.items _ inv.1 w.in-Ok-put.ensures.taken w.as_slice.ensures.value), goes_on c.args.program.now.texts c.entry_code-instr-items.result.now c.loop-instr.instr-index _ (state_of c.loop-instr.machine inv.0) (state_of c.step.new.machine (inv.0 ++ w.in-Prints.piece.items)) c.loop-instr-test.true (leads inv.0) ∙ inv.2, rw w.out-is (omega (arith, inv.3, w.put.ensures.later))))
    ]
