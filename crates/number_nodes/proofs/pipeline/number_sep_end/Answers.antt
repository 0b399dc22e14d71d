use Rattle.std.proofs.Common.{refl}
use Rattle.number_nodes.proofs.PipelineForms as form
use Rattle.number_nodes.proofs.Parts.{its_part}
use Rattle.number_nodes.proofs.pipeline.number_sep_end.Goals as goal

pub returns : goal.returns
returns c =
    let pair = c.in_ok-sep.ensures in
    form.options_SepEnd refl (its_part c.number_expr-sep.ensures pair.0) (its_part c.number_expr-end_text.ensures pair.1)
