-- What is due for a text that is refused, and for the tree of one.
use Rattle.std.proofs.Common.{ℕ, List, Option, sym, refl, inl, inr}
use Rattle.source_trees.specs.declared.item.Module.{Module}
use Rattle.grammar_rules.specs.Modules.{Source}
use Rattle.codon_front.specs.Due.{IsDueOfTree, IsDueOfText, refused}
use Rattle.codon_front.specs.Stop.{StopsBy, IsNoTreeOf}
use Rattle.codon_front.specs.declared.command.Action.{Action}
use Rattle.codon_front.specs.declared.report.Stop.{Stop}
use Rattle.codon_front.specs.declared.report.Stop.TheVariants as stop
use Rattle.codon_front.proofs.Dues.{stops_more}
use Rattle.codon_front.proofs.Fronts.{gained_nothing}

module _ (action : Action) (text : List ℕ) where
  pub no_tree_stops : (old : Option (List ℕ)) (o o' : ℕ) (s : Stop) → IsNoTreeOf text s → StopsBy (IsDueOfText action text) old old o o' s
  no_tree_stops old o o' (stop.Refused line) h = record { due = refused line.items; is_due = inl (line.items, h, refl); out = sym (gained_nothing old); err = refl; status = refl }
  no_tree_stops old o o' stop.Memory h = inl refl
  no_tree_stops old o o' stop.Usage h = absurd h
  no_tree_stops old o o' stop.File h = h
  no_tree_stops old o o' (stop.Fault line) h = absurd h
  no_tree_stops old o o' stop.OutOfFuel h = absurd h
  no_tree_stops old o o' stop.Deep h = absurd h
  no_tree_stops old o o' stop.Sink h = absurd h

  pub tree_stops : (m : Module) → Source text m → (old new : Option (List ℕ)) (o o' : ℕ) (s : Stop) → StopsBy (IsDueOfTree m action) old new o o' s → StopsBy (IsDueOfText action text) old new o o' s
  tree_stops m k old new o o' s h = stops_more (IsDueOfTree m action) (IsDueOfText action text) (λ d i. inr (m, k, i)) old new o o' s h
