-- The classes of tokens in the code and those of the parser.
use Rattle.std.specs.Prelude.{ℕ, if◌then◌else◌, List, [], codes}
use Rattle.std.specs.Str.{bytes_eq}
use Rattle.source_trees.specs.declared.pipeline.StageForm.{StageForm}
use Rattle.source_trees.specs.declared.pipeline.StageForm.TheVariants as form
use Rattle.parse_statements.specs.declared.lead.Lead as code
use Rattle.parse_statements.specs.declared.lead.Lead.TheVariants as lead
use Rattle.parse_statements.specs.declared.lead.Follow as code_follow
use Rattle.parse_statements.specs.declared.lead.Follow.TheVariants as follow
use Rattle.parse_statements.specs.Prints.{nothing}
use Rattle.parse_statements.specs.Simple as spec

abbrev pub lead_view : code.Lead → spec.Lead
lead_view lead.Pass = spec.Pass
lead_view lead.Break = spec.Break
lead_view lead.Continue = spec.Continue
lead_view lead.Return = spec.Return
lead_view lead.Yield = spec.Yield
lead_view lead.Raise = spec.Raise
lead_view lead.Assert = spec.Assert
lead_view lead.Print = spec.Print
lead_view lead.Value = spec.Value

abbrev pub follow_view : code_follow.Follow → spec.Follow
follow_view follow.Comma = spec.Comma
follow_view follow.Equals = spec.Equals
follow_view follow.Augmented = spec.Augmented
follow_view follow.Piped = spec.Piped
follow_view follow.Colon = spec.Colon
follow_view follow.Over = spec.Over

-- the stage that a name makes without brackets
abbrev pub bare_stage : List ℕ → StageForm
bare_stage spelling =
    if bytes_eq spelling (codes "print") then form.Print nothing
    else if bytes_eq spelling (codes "iter") then form.Iter else form.Call spelling [] []
