use Rattle.std.proofs.Common.{sym, refl, inr, subst}
use Rattle.straight_lines.specs.Compiled.{IsNotCompiled}
use Rattle.code_module.specs.Machine.{run_of}
use Rattle.codon_front.specs.Run.{IsRunStopOf}
use Rattle.codon_front.specs.Refusals.{unbuilt_line}
use Rattle.codon_front.specs.Due.{refused}
use Rattle.codon_front.proofs.Fronts.{gained_nothing}
use Rattle.codon_front.proofs.RunDues.{compiled_done, compiled_front}
use Rattle.codon_front.proofs.run.run_compiled.Goals as goal

pub returns-in-Ok-unbuilt_line-clause-stopped : goal.returns-in-Ok-unbuilt_line-clause-stopped
returns-in-Ok-unbuilt_line-clause-stopped g c = λ fuel. record {
  due = refused (unbuilt_line c.in-Err-NotBuilt.at);
  is_due = inr (c.in-Err-NotBuilt.at, subst (IsNotCompiled c.args.module.now) c.in-Err-NotBuilt.field-0-is c.in-Err-NotBuilt.ensures.refusal, refl);
  out = sym (gained_nothing (g.O.Sink.written c.args.out.now));
  err = sym c.in-Ok-unbuilt_line.ensures;
  status = refl;
}

pub returns-in-Ok-run-clause-done : goal.returns-in-Ok-run-clause-done
returns-in-Ok-run-clause-done g c = λ fuel. compiled_done c.args.module.now c.in-Ok.code fuel c.in-Ok.ensures.code _ _ c.in-Ok-run.ensures.written

pub returns-in-Err-Sink-clause-stopped : goal.returns-in-Err-Sink-clause-stopped
returns-in-Err-Sink-clause-stopped g c = λ fuel. (
  subst (IsRunStopOf (run_of c.in-Ok.code) (g.O.Sink.faults c.args.out.now) (g.O.Sink.faults c.run.new.out)) c.in-Err-Sink.field-0-is c.in-Err-Sink.ensures.cause,
  compiled_front c.args.module.now c.in-Ok.code fuel c.in-Ok.ensures.code _ _ c.in-Err-Sink.ensures.partly,
)

pub returns-clause-stopped : goal.returns-clause-stopped
returns-clause-stopped g c = λ fuel. compiled_front c.args.module.now c.in-Ok.code fuel c.in-Ok.ensures.code _ _ c.in-Err-Memory-run.ensures.partly
