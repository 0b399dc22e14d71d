use Rattle.source_trees.specs.Bare.{bare_print_options}
use Rattle.number_nodes.specs.Numbers.{nodes_of_print_options}
use Rattle.number_nodes.proofs.PipelineForms as form
use Rattle.number_nodes.proofs.Parts.{of_form}
use Rattle.number_nodes.proofs.pipeline.number_print_options.Goals as goal

pub returns-in-Neither : goal.returns-in-Neither
returns-in-Neither c = form.options_Neither c.in-Neither.is

pub returns-in_ok-number_expr-in-Sep : goal.returns-in_ok-number_expr-in-Sep
returns-in_ok-number_expr-in-Sep c = form.options_Sep c.in-Sep.is c.in_ok-number_expr-in-Sep.ensures

pub returns-in_ok-number_expr-in-End : goal.returns-in_ok-number_expr-in-End
returns-in_ok-number_expr-in-End c = form.options_End c.in-End.is c.in_ok-number_expr-in-End.ensures

pub returns-in-SepEnd : goal.returns-in-SepEnd
returns-in-SepEnd c = of_form bare_print_options nodes_of_print_options _ _ _ c.in-SepEnd.is c.number_sep_end.ensures

pub returns-in-EndSep : goal.returns-in-EndSep
returns-in-EndSep c = of_form bare_print_options nodes_of_print_options _ _ _ c.in-EndSep.is c.number_end_sep.ensures
