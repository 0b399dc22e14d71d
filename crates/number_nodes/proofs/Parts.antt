-- What is known of the parts of a node that were taken together.
use Rattle.std.proofs.Common.{◌≡◌, ℕ, List, sym, subst}
use Rattle.std.specs.Prelude.{IfOk, Ok}
use Rattle.std.specs.declared.result.Result.{Result}
use Rattle.std.proofs.lemmas.Result.{IfOk-at_ok}
use Rattle.source_trees.specs.declared.node.Node.{Node}
use Rattle.number_nodes.specs.Numbers.{Numbers, NumbersNode}

pub its_node : {E : Type 0} {first next : ℕ} {old new : Node} {r : Result Node E} → IfOk r (λ numbered. NumbersNode first old numbered next) → r ≡ Ok new → NumbersNode first old new next
its_node {E} {first} {next} {old} {new} {r} h is = IfOk-at_ok (λ numbered. NumbersNode first old numbered next) is h

pub its_part : {A E : Type 0} {bare_part : A → A} {nodes : A → List Node} {first next : ℕ} {old new : A} {r : Result A E}
    → IfOk r (λ numbered. Numbers bare_part nodes first old numbered next) → r ≡ Ok new → Numbers bare_part nodes first old new next
its_part {A} {E} {bare_part} {nodes} {first} {next} {old} {new} {r} h is = IfOk-at_ok (λ numbered. Numbers bare_part nodes first old numbered next) is h

-- two parts in one pair
pub its_pair : {A B E : Type 0} {one : Result A E} {two : Result B E} {r : Result (A × B) E} {pair : A × B}
    → IfOk r (λ both. (one ≡ Ok both.0) × (two ≡ Ok both.1)) → r ≡ Ok pair → (one ≡ Ok pair.0) × (two ≡ Ok pair.1)
its_pair {A} {B} {E} {one} {two} {r} {pair} h is = IfOk-at_ok (λ both. (one ≡ Ok both.0) × (two ≡ Ok both.1)) is h

-- a node of this form
pub of_form : {A E : Type 0} (bare_part : A → A) (nodes : A → List Node) (first next : ℕ) (r : Result A E) {old form : A}
    → old ≡ form → IfOk r (λ numbered. Numbers bare_part nodes first form numbered next) → IfOk r (λ numbered. Numbers bare_part nodes first old numbered next)
of_form {A} {E} bare_part nodes first next r {old} {form} is h = subst (λ (part : A). IfOk r (λ numbered. Numbers bare_part nodes first part numbered next)) (sym is) h
