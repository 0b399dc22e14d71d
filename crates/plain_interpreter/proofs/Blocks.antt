-- Statements in order: what a block does from a place on.
use Rattle.std.proofs.Common.{◌≡◌, ℕ, ◌+◌, ◌<◌, ◌≤◌, true, false, if◌then◌else◌, List, length, get_or, drop, refl, ap, ◌∙◌}
use Rattle.source_trees.specs.declared.statement.Stmt.{Stmt}
use Rattle.source_trees.specs.declared.statement.Arm.{Arm}
use Rattle.meaning_rules.specs.State.{State, Stop, Flow, Next}
use Rattle.meaning_rules.specs.Outcome.{Outcome, Gives, Stops, Run, and_then, bind, pure, is_next}
use Rattle.meaning_rules.specs.Program.{Scope}
use Rattle.meaning_rules.specs.Task.{Consumer, Setting}
use Rattle.meaning_rules.specs.Expressions.{condition}
use Rattle.meaning_rules.specs.Statements.{stmt, statements, then_next}
use Rattle.plain_interpreter.specs.Steps.{chosen}
use Rattle.plain_interpreter.proofs.Left.{next_more, next_none}
use Rattle.plain_interpreter.proofs.Rest.{drop_next, drop_end}

module _ (here : Setting) (consumers : List Consumer) (scope : Scope) where
  abbrev all : List Stmt → Run Flow
  all = statements here consumers scope

  step : (body : List Stmt) (i : ℕ) (x : Stmt) (s : State) (o : Outcome Flow) → i < length body → x ≡ get_or body i x → stmt here consumers x scope s ≡ o
      → all (drop i body) s ≡ and_then o (λ flow. then_next flow (all (drop (i + 1) body)))
  unfolding bind
  step body i x s o h e f = ap (λ (l : List Stmt). all l s) (drop_next body i x h e) ∙ ap (λ (o : Outcome Flow). and_then o (λ flow. then_next flow (all (drop (i + 1) body)))) f

  pub block_more : (body : List Stmt) (i : ℕ) (x : Stmt) (s t : State) (flow : Flow) → i < length body → x ≡ get_or body i x → stmt here consumers x scope s ≡ Gives flow t → is_next flow ≡ true → all (drop i body) s ≡ all (drop (i + 1) body) t
  block_more body i x s t flow h e f g = step body i x s (Gives flow t) h e f ∙ ap (λ (r : Run Flow). r t) (next_more flow (all (drop (i + 1) body)) g)

  pub block_leaves : (body : List Stmt) (i : ℕ) (x : Stmt) (s t : State) (flow : Flow) → i < length body → x ≡ get_or body i x → stmt here consumers x scope s ≡ Gives flow t → is_next flow ≡ false → all (drop i body) s ≡ Gives flow t
  unfolding pure
  block_leaves body i x s t flow h e f g = step body i x s (Gives flow t) h e f ∙ ap (λ (r : Run Flow). r t) (next_none flow (all (drop (i + 1) body)) g)

  pub block_next : (body : List Stmt) (i : ℕ) (x : Stmt) (s : State) → i < length body → x ≡ get_or body i x → all (drop i body) s ≡ and_then (stmt here consumers x scope s) (λ flow. then_next flow (all (drop (i + 1) body)))
  block_next body i x s h e = step body i x s (stmt here consumers x scope s) h e refl

  pub block_stops : (body : List Stmt) (i : ℕ) (x : Stmt) (s t : State) (why : Stop) → i < length body → x ≡ get_or body i x → stmt here consumers x scope s ≡ Stops why t → all (drop i body) s ≡ Stops why t
  block_stops body i x s t why h e f = step body i x s (Stops why t) h e f

  pub block_end : (body : List Stmt) (i : ℕ) (s : State) → length body ≤ i → all (drop i body) s ≡ Gives Next s
  unfolding pure
  block_end body i s h = ap (λ (l : List Stmt). all l s) (drop_end body i h)

  pub chosen_next : (arms : List Arm) (otherwise : List Stmt) (i : ℕ) (x : Arm) (s : State) → i < length arms → x ≡ get_or arms i x
      → chosen here consumers scope (drop i arms) otherwise s ≡ and_then (condition here scope x.condition s) (λ t. if t then all x.body else chosen here consumers scope (drop (i + 1) arms) otherwise)
  unfolding bind
  chosen_next arms otherwise i x s h e = ap (λ (l : List Arm). chosen here consumers scope l otherwise s) (drop_next arms i x h e)

  pub chosen_end : (arms : List Arm) (otherwise : List Stmt) (i : ℕ) (s : State) → length arms ≤ i → chosen here consumers scope (drop i arms) otherwise s ≡ all otherwise s
  chosen_end arms otherwise i s h = ap (λ (l : List Arm). chosen here consumers scope l otherwise s) (drop_end arms i h)
