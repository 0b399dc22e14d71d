use Rattle.std.proofs.Common.{rules}
use Rattle.number_nodes.proofs.PipelineForms as form
use Rattle.number_nodes.proofs.pipeline.number_stage_form.Goals as goal

pub returns-in-Iter : goal.returns-in-Iter
returns-in-Iter c = form.form_Iter c.in-Iter.is

pub returns-in_ok-number_exprs-in-Call : goal.returns-in_ok-number_exprs-in-Call
returns-in_ok-number_exprs-in-Call c =
    let made = form.form_Call c.in-Call.is c.in_ok-before-in-Call.ensures c.in_ok-number_exprs-in-Call.ensures in
    search (rules, made)

pub returns-in_ok-number_printed-in-Print : goal.returns-in_ok-number_printed-in-Print
returns-in_ok-number_printed-in-Print c = form.form_Print c.in-Print.is c.in_ok-number_printed-in-Print.ensures
