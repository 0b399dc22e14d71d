use Rattle.std.proofs.Common.{◌∙◌}
use Rattle.plain_interpreter.proofs.Held.{has_is}
use Rattle.plain_interpreter.proofs.scope.Scope.has.Goals as goal

pub returns : goal.returns
returns c = c.has_local.ensures ∙ has_is c.args.name.now c.args.self.now
