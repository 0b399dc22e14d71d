-- What a stop owes for a part of what is due, it owes for the whole.
use Rattle.std.proofs.Common.{ℕ, List, Option, inl, inr}
use Rattle.outer_world.specs.declared.status.Status.{Status}
use Rattle.codon_front.specs.Due.{Due}
use Rattle.codon_front.specs.Answer.{GainsOutFront}
use Rattle.codon_front.specs.Stop.{Owes, StopsBy}
use Rattle.codon_front.specs.declared.report.Stop.{Stop}
use Rattle.codon_front.specs.declared.report.Stop.TheVariants as stop

module _ (P Q : Due → Type 0) (grows : (d : Due) → P d → Q d) (old new : Option (List ℕ)) where
  pub owes_more : (line : List ℕ) (result : Status) → Owes P old new line result → Owes Q old new line result
  owes_more line result h = record { due = h.due; is_due = grows h.due h.is_due; out = h.out; err = h.err; status = h.status }

  pub front_more : GainsOutFront P old new → GainsOutFront Q old new
  front_more (inl same) = inl same
  front_more (inr more) = inr (more.0, grows more.0 more.1, more.2)

  pub stops_more : (before now : ℕ) (s : Stop) → StopsBy P old new before now s → StopsBy Q old new before now s
  stops_more before now stop.Memory h = front_more h
  stops_more before now stop.Sink h = (h.0, front_more h.1)
  stops_more before now stop.File h = h
  stops_more before now stop.Usage h = owes_more _ _ h
  stops_more before now (stop.Refused line) h = owes_more _ _ h
  stops_more before now (stop.Fault line) h = owes_more _ _ h
  stops_more before now stop.OutOfFuel h = owes_more _ _ h
  stops_more before now stop.Deep h = owes_more _ _ h
