use Rattle.std.proofs.Common.{◌∙◌, ap, sym, List, length, Some, None, negsuc}
use Rattle.codon_base.specs.declared.value.Value.{Value}
use Rattle.codon_base.specs.Sequences.{place_of}
use Rattle.meaning_rules.specs.Outcome.{Outcome, and_then, bind, stop}
use Rattle.meaning_rules.specs.Objects.{pop_last, placed}
use Rattle.plain_interpreter.specs.Seen.{seen}
use Rattle.meaning_rules.specs.State.{Stop}
use Rattle.plain_interpreter.specs.declared.state.State.{State}
use Rattle.plain_interpreter.proofs.Popped.{popped_tells}
use Rattle.plain_interpreter.proofs.changes.pop.Goals as goal

pub returns-in-Some : goal.returns-in-Some
unfolding bind seen
returns-in-Some c =
    ap (λ (o : Outcome (List Value)). and_then o (λ items. pop_last c.args.at items (placed items (place_of (length items) (negsuc 0))))) c.in_ok-list_at.ensures.items
    ∙ popped_tells c.args.state.now c.item_popped.new.heap c.args.at c.in_ok-list_at.field-0.now (Some c.in-Some.v) c.in_ok-list_at.ensures.found c.in-Some.ensures

pub returns-in-None : goal.returns-in-None
unfolding bind seen stop
returns-in-None c = λ wanted.
    let new : State = record c.args.state.now { store = record c.args.state.now.store { heap = c.item_popped.new.heap } } in
    ap (λ (o : Outcome (List Value)). and_then o (λ items. pop_last c.args.at items (placed items (place_of (length items) (negsuc 0))))) c.in_ok-list_at.ensures.items
    ∙ popped_tells c.args.state.now c.item_popped.new.heap c.args.at c.in_ok-list_at.field-0.now None c.in_ok-list_at.ensures.found c.in-None.ensures
    ∙ ap (λ (why : Stop). stop {A = Value} why (seen new)) (sym (c.index_fault.ensures wanted))
