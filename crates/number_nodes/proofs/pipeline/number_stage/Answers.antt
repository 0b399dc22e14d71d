use Rattle.number_nodes.proofs.PipelineForms as form
use Rattle.number_nodes.proofs.Parts.{its_node, its_part}
use Rattle.number_nodes.proofs.pipeline.number_stage.Goals as goal

pub returns : goal.returns
returns c =
    let pair = c.in_ok-node.ensures in
    form.stage c.args.stage (its_node c.number_node-node.ensures pair.0) (its_part c.number_stage_form-form.ensures pair.1)
