use Rattle.std.proofs.lemmas.Result.{IfOk-weaker}
use Rattle.plain_interpreter.proofs.Answered.{run_told}
use Rattle.plain_interpreter.proofs.Depths.{is_meant}
use Rattle.plain_interpreter.proofs.plain.run_plain.Goals as goal

pub returns-clause-run : goal.returns-clause-run
returns-clause-run c = IfOk-weaker c.told.result _ _ (λ plain h. run_told _ c.run_module-flow.result c.run_module-flow.new.state plain.out plain.end c.run_module-flow.ensures h.0 h.1) c.told.ensures

pub returns-clause-meant : goal.returns-clause-meant
returns-clause-meant c =
    IfOk-weaker c.told.result _ _ (λ plain h. is_meant c.args.«module».now c.args.fuel c.args.depth plain.out plain.end (run_told _ c.run_module-flow.result c.run_module-flow.new.state plain.out plain.end c.run_module-flow.ensures h.0 h.1)) c.told.ensures
