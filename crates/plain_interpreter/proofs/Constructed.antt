-- New instances whose fields their `__init__` sets.
use Rattle.std.proofs.Common.{◌≡◌, ℕ, List, map, Some, sym, ap, ◌∙◌}
use Rattle.codon_base.specs.declared.value.Value.{Value}
use Rattle.codon_base.specs.declared.value.Value.TheVariants as value
use Rattle.codon_base.specs.declared.object.Object.TheVariants.{Instance}
use Rattle.source_trees.specs.declared.item.Function.{Function}
use Rattle.source_trees.specs.declared.item.Class.{Class}
use Rattle.meaning_rules.specs.State.{Spelling, State}
use Rattle.meaning_rules.specs.Outcome.{Outcome, Gives, and_then, bind}
use Rattle.meaning_rules.specs.Objects.{allocate}
use Rattle.meaning_rules.specs.Program.{fields_of}
use Rattle.meaning_rules.specs.Task.{Setting}
use Rattle.meaning_rules.specs.Calls.{construct_by, initialize}

pub constructed : (here : Setting) (number : ℕ) (c : Class) (f : Function) (given vs : List Value) (fields : List Spelling) (s t : State) (new : Value)
    → fields ≡ fields_of c → vs ≡ map (λ name. value.Unset) fields → allocate (Instance number vs) s ≡ Gives new t → construct_by here number c (Some f) given s ≡ initialize here f given new t
unfolding bind
constructed here number c f given vs fields s t new named unset e =
    let all : map (λ name. value.Unset) (fields_of c) ≡ vs = ap (map (λ name. value.Unset)) (sym named) ∙ sym unset in
    ap (λ (l : List Value). and_then (allocate (Instance number l) s) (initialize here f given)) all ∙ ap (λ (o : Outcome Value). and_then o (initialize here f given)) e
