use Rattle.std.proofs.Common.{subst}
use Rattle.plain_interpreter.specs.Seen.{seen, TellsFlow}
use Rattle.plain_interpreter.specs.Tasks.{program_of, lower}
use Rattle.plain_interpreter.proofs.Modules.{run_is}
use Rattle.plain_interpreter.proofs.plain.run_module.Goals as goal

pub returns : goal.returns
unfolding lower
returns c =
    let a = c.as_slice.ensures in
    let b = c.in_ok-fixed.ensures in
    let d = c.as_slice-2.ensures in
    subst (λ o. TellsFlow o c.top.result c.top.new.state)
    (run_is c.args.«module».now c.args.fuel c.args.depth (program_of c.args.program.now) c.as_slice.result.now c.as_slice-2.result.now (seen c.args.state.now) c.requires.program (cc) (cc) c.requires.begins)
    c.top.ensures
