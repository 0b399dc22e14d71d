use Rattle.std.proofs.Common.{refl}
use Rattle.number_nodes.proofs.PipelineForms as form
use Rattle.number_nodes.proofs.Parts.{its_part}
use Rattle.number_nodes.proofs.pipeline.number_end_sep.Goals as goal

pub returns : goal.returns
returns c =
    let pair = c.in_ok-end_text.ensures in
    form.options_EndSep refl (its_part c.number_expr-end_text.ensures pair.0) (its_part c.number_expr-sep.ensures pair.1)
