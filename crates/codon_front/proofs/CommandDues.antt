-- What is due for words and their file, from what is due for the text of the file.
use Rattle.std.proofs.Common.{◌≡◌, ℕ, List, [], Option, None, Some, sym, refl, inl, inr}
use Rattle.outer_world.specs.Files.{Told}
use Rattle.outer_world.specs.declared.status.Status.TheVariants as status
use Rattle.codon_front.specs.Command.{Command}
use Rattle.codon_front.specs.Refusals.{too_long_line}
use Rattle.codon_front.specs.Due.{Due, IsDue, IsDueOfText, IsSourceText, refused, usage_line}
use Rattle.codon_front.specs.Stop.{Owes, Finishes, StopsBy, IsStopOf, IsReadStopOf}
use Rattle.codon_front.specs.declared.report.Stop.{Stop}
use Rattle.codon_front.specs.declared.report.Stop.TheVariants as stop
use Rattle.codon_front.proofs.Dues.{owes_more, stops_more}
use Rattle.codon_front.proofs.Fronts.{gained_nothing}

pub usage_owed : (holds : List ℕ → Told) (command : Option Command) → command ≡ None → (old : Option (List ℕ)) → Owes (IsDue holds command) old old usage_line status.Usage
usage_owed holds None e old = record { due = record { out = []; err = usage_line; status = status.Usage }; is_due = refl; out = sym (gained_nothing old); err = refl; status = refl }
usage_owed holds (Some c) e old = absurd (cc)

module _ (holds : List ℕ → Told) (c : Command) where
  pub read_stops : (f f' : ℕ) (old : Option (List ℕ)) (o o' : ℕ) (s : Stop) → IsReadStopOf c holds f f' s → IsStopOf (Some c) holds f f' old old o o' s
  read_stops f f' old o o' stop.File h = (h, refl)
  read_stops f f' old o o' stop.Memory h = inl refl
  read_stops f f' old o o' (stop.Refused line) h = record { due = refused too_long_line; is_due = inl (h.0, refl); out = sym (gained_nothing old); err = sym h.1; status = refl }
  read_stops f f' old o o' stop.Usage h = absurd h
  read_stops f f' old o o' (stop.Fault line) h = absurd h
  read_stops f f' old o o' stop.OutOfFuel h = absurd h
  read_stops f f' old o o' stop.Deep h = absurd h
  read_stops f f' old o o' stop.Sink h = absurd h

  module _ (text : List ℕ) (k : IsSourceText holds c text) where
    due_of_text : (d : Due) → IsDueOfText c.action text d → IsDue holds (Some c) d
    due_of_text d h = inr (text, k, h)

    pub text_done : (old new : Option (List ℕ)) → Finishes (IsDueOfText c.action text) old new → Finishes (IsDue holds (Some c)) old new
    text_done old new h = owes_more (IsDueOfText c.action text) (IsDue holds (Some c)) due_of_text old new _ _ h

    pub text_stops : (f f' : ℕ) (old new : Option (List ℕ)) (o o' : ℕ) (s : Stop) → StopsBy (IsDueOfText c.action text) old new o o' s → IsStopOf (Some c) holds f f' old new o o' s
    text_stops f f' old new o o' stop.File h = absurd h
    text_stops f f' old new o o' stop.Memory h = stops_more (IsDueOfText c.action text) (IsDue holds (Some c)) due_of_text old new o o' stop.Memory h
    text_stops f f' old new o o' (stop.Refused line) h = stops_more (IsDueOfText c.action text) (IsDue holds (Some c)) due_of_text old new o o' (stop.Refused line) h
    text_stops f f' old new o o' stop.Usage h = stops_more (IsDueOfText c.action text) (IsDue holds (Some c)) due_of_text old new o o' stop.Usage h
    text_stops f f' old new o o' (stop.Fault line) h = stops_more (IsDueOfText c.action text) (IsDue holds (Some c)) due_of_text old new o o' (stop.Fault line) h
    text_stops f f' old new o o' stop.OutOfFuel h = stops_more (IsDueOfText c.action text) (IsDue holds (Some c)) due_of_text old new o o' stop.OutOfFuel h
    text_stops f f' old new o o' stop.Deep h = stops_more (IsDueOfText c.action text) (IsDue holds (Some c)) due_of_text old new o o' stop.Deep h
    text_stops f f' old new o o' stop.Sink h = stops_more (IsDueOfText c.action text) (IsDue holds (Some c)) due_of_text old new o o' stop.Sink h
