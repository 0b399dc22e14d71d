-- What the interpreter's answer for a stage stands for among the definitions.
use Rattle.plain_interpreter.specs.Stages as stages
use Rattle.plain_interpreter.specs.Seen.{flow_of}
use Rattle.plain_interpreter.specs.declared.pipelines.Passed.{Passed}
use Rattle.plain_interpreter.specs.declared.pipelines.Passed.TheVariants as passed

abbrev pub passed_of : Passed → stages.Passed
passed_of (passed.On v) = stages.On v
passed_of (passed.Left flow) = stages.Ended (flow_of flow)
