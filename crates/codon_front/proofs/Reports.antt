-- What the report of a stop leaves on err.
use Rattle.std.proofs.Common.{◌≡◌, ℕ, List, Option}
use Rattle.outer_world.specs.Sink.{gained, GainsPrefix}
use Rattle.codon_front.proofs.Fronts.{prefix_from_whole, front_from_whole, front_from_prefix}
use Rattle.codon_front.specs.Answer.{memory_line, sink_line}
use Rattle.codon_front.specs.declared.report.Stop.{Stop}
use Rattle.codon_front.specs.declared.report.Stop.TheVariants as stop
use Rattle.codon_front.specs.Stop.{IsReportOf, line_of}

-- the whole line of a stop is on err
pub report_from_whole : (s : Stop) (old new : Option (List ℕ)) → new ≡ gained old (line_of s) → IsReportOf s old new
report_from_whole stop.Sink old new e = prefix_from_whole old new sink_line e
report_from_whole stop.Memory old new e = prefix_from_whole old new memory_line e
report_from_whole stop.Usage old new e = front_from_whole old new _ e
report_from_whole stop.File old new e = front_from_whole old new _ e
report_from_whole (stop.Refused line) old new e = front_from_whole old new _ e
report_from_whole (stop.Fault line) old new e = front_from_whole old new _ e
report_from_whole stop.OutOfFuel old new e = front_from_whole old new _ e
report_from_whole stop.Deep old new e = front_from_whole old new _ e

-- a front of the line of a stop is on err
pub report_from_front : (s : Stop) (old new : Option (List ℕ)) → GainsPrefix old new (line_of s) → IsReportOf s old new
report_from_front stop.Sink old new p = p
report_from_front stop.Memory old new p = p
report_from_front stop.Usage old new p = front_from_prefix old new _ p
report_from_front stop.File old new p = front_from_prefix old new _ p
report_from_front (stop.Refused line) old new p = front_from_prefix old new _ p
report_from_front (stop.Fault line) old new p = front_from_prefix old new _ p
report_from_front stop.OutOfFuel old new p = front_from_prefix old new _ p
report_from_front stop.Deep old new p = front_from_prefix old new _ p
