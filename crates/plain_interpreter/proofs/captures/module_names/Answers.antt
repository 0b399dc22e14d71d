use Rattle.std.proofs.Common.{ap, ◌∙◌}
use Rattle.plain_interpreter.specs.Noted.{noted}
use Rattle.plain_interpreter.proofs.Capturing.{named_once}
use Rattle.plain_interpreter.proofs.captures.module_names.Goals as goal

pub returns : goal.returns
returns c = named_once _ _ _ _ _ c.in_ok-push_module_names.ensures c.new-names.ensures (ap noted c.deref.ensures.value ∙ c.in_ok-outside.ensures)
