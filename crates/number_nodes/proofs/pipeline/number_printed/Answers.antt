use Rattle.number_nodes.proofs.PipelineForms as form
use Rattle.number_nodes.proofs.Parts.{its_part}
use Rattle.number_nodes.proofs.pipeline.number_printed.Goals as goal

pub returns : goal.returns
returns c =
    let pair = c.in_ok-values.ensures in
    form.printed c.args.printed (its_part c.number_exprs-values.ensures pair.0) (its_part c.number_print_options-options.ensures pair.1)
