-- Names that take items in order: what a loop over them does from a place on.
use Rattle.std.proofs.Common.{◌≡◌, ℕ, ◌+◌, ◌<◌, ◌≤◌, List, [], ◌∷◌, map, length, get_or, drop, refl, ap, ◌∙◌}
use Rattle.codon_base.specs.declared.value.Value.{Value}
use Rattle.source_trees.specs.declared.node.Name.{Name}
use Rattle.meaning_rules.specs.State.{State}
use Rattle.meaning_rules.specs.Outcome.{Outcome, Gives, and_then, bind, pure}
use Rattle.meaning_rules.specs.Program.{Scope}
use Rattle.meaning_rules.specs.Variables.{set_name, set_each}
use Rattle.plain_interpreter.proofs.Rest.{drop_next, drop_end}

module _ (scope : Scope) where
  abbrev set_more : Name → List Name → List Value → State → Outcome (Unit {0})
  set_more name more [] s = Gives tt s
  set_more name more (v ∷ vs) s = and_then (set_name scope name.spelling v s) (λ _. set_each scope (map (λ n. n.spelling) more) vs)

  set_by : (name : Name) (more : List Name) (rest : List Value) (s : State) → set_each scope (map (λ n. n.spelling) (name ∷ more)) rest s ≡ set_more name more rest s
  unfolding bind pure
  set_by name more [] s = refl
  set_by name more (v ∷ vs) s = refl

  pub set_next : (names : List Name) (i : ℕ) (x : Name) (rest : List Value) (s : State) → i < length names → x ≡ get_or names i x
      → set_each scope (map (λ n. n.spelling) (drop i names)) rest s ≡ set_more x (drop (i + 1) names) rest s
  set_next names i x rest s h e = ap (λ l. set_each scope (map (λ n. n.spelling) l) rest s) (drop_next names i x h e) ∙ set_by x (drop (i + 1) names) rest s

  set_none : (rest : List Value) (s : State) → set_each scope [] rest s ≡ Gives tt s
  unfolding pure
  set_none [] s = refl
  set_none (v ∷ vs) s = refl

  pub set_done : (names : List Name) (i : ℕ) (rest : List Value) (s : State) → length names ≤ i → set_each scope (map (λ n. n.spelling) (drop i names)) rest s ≡ Gives tt s
  set_done names i rest s h = ap (λ l. set_each scope (map (λ n. n.spelling) l) rest s) (drop_end names i h) ∙ set_none rest s
