use Rattle.std.proofs.Common.{◌∙◌}
use Rattle.value_operators.proofs.Searching.{found_is}
use Rattle.value_operators.proofs.text_search.occurs.Goals as goal

pub returns : goal.returns
returns c = c.is_some.ensures ∙ found_is c.args.part.now c.args.text.now c.find.result c.find.ensures
