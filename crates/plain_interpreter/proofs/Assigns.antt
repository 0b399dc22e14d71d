-- Targets that take items in order: what a loop over them does from a place on.
use Rattle.std.proofs.Common.{◌≡◌, ℕ, ◌+◌, ◌<◌, ◌≤◌, List, [], ◌∷◌, length, get_or, drop, refl, ap, ◌∙◌}
use Rattle.codon_base.specs.declared.value.Value.{Value}
use Rattle.source_trees.specs.declared.statement.Target.{Target}
use Rattle.meaning_rules.specs.Task.{Setting}
use Rattle.meaning_rules.specs.State.{State}
use Rattle.meaning_rules.specs.Outcome.{Outcome, Gives, and_then, bind, pure}
use Rattle.meaning_rules.specs.Program.{Scope}
use Rattle.meaning_rules.specs.Statements.{assign, assign_each}
use Rattle.plain_interpreter.proofs.Rest.{drop_next, drop_end}

module _ (here : Setting) (scope : Scope) where
  abbrev assign_more : Target → List Target → List Value → State → Outcome (Unit {0})
  assign_more written more [] s = Gives tt s
  assign_more written more (v ∷ vs) s = and_then (assign here scope written v s) (λ _. assign_each here scope more vs)

  assign_by : (written : Target) (more : List Target) (rest : List Value) (s : State) → assign_each here scope (written ∷ more) rest s ≡ assign_more written more rest s
  unfolding bind pure
  assign_by written more [] s = refl
  assign_by written more (v ∷ vs) s = refl

  pub assign_next : (all : List Target) (i : ℕ) (x : Target) (rest : List Value) (s : State) → i < length all → x ≡ get_or all i x
      → assign_each here scope (drop i all) rest s ≡ assign_more x (drop (i + 1) all) rest s
  assign_next all i x rest s h e = ap (λ l. assign_each here scope l rest s) (drop_next all i x h e) ∙ assign_by x (drop (i + 1) all) rest s

  assign_none : (rest : List Value) (s : State) → assign_each here scope [] rest s ≡ Gives tt s
  unfolding pure
  assign_none [] s = refl
  assign_none (v ∷ vs) s = refl

  pub assign_done : (all : List Target) (i : ℕ) (rest : List Value) (s : State) → length all ≤ i → assign_each here scope (drop i all) rest s ≡ Gives tt s
  assign_done all i rest s h = ap (λ l. assign_each here scope l rest s) (drop_end all i h) ∙ assign_none rest s
