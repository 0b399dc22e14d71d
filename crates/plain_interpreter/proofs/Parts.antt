-- Parts of expressions in order: what a loop over them computes from a place on.
use Rattle.std.proofs.Common.{◌≡◌, ℕ, ◌+◌, ◌<◌, ◌≤◌, true, false, if◌then◌else◌, List, [], ◌∷◌, Option, Some, None, length, get_or, drop, refl, ap, ◌∙◌}
use Rattle.codon_base.specs.declared.value.Value.{Value}
use Rattle.codon_base.specs.declared.value.Value.TheVariants as value
use Rattle.source_trees.specs.declared.expression.Expr.{Expr}
use Rattle.source_trees.specs.declared.expression.Comparison.{Comparison}
use Rattle.meaning_rules.specs.State.{State, Stop}
use Rattle.meaning_rules.specs.Outcome.{Outcome, Gives, Stops, Run, and_then, ◌>>=◌, bind, pure}
use Rattle.meaning_rules.specs.Program.{Scope}
use Rattle.meaning_rules.specs.Task.{Setting}
use Rattle.meaning_rules.specs.Expressions.{expr, exprs, condition, if_holds}
use Rattle.plain_interpreter.specs.Collected.{collect}
use Rattle.plain_interpreter.specs.Lists.{some_true, all_true, chained, compares}
use Rattle.plain_interpreter.proofs.Rest.{after, drop_next, drop_end, collect_begin}

module _ (here : Setting) (scope : Scope) where
  exprs_collect : (xs : List Expr) → exprs here scope xs ≡ collect (expr here scope) xs
  exprs_collect [] = refl
  exprs_collect (e ∷ more) = ap (λ (rest : Run (List Value)). expr here scope e >>= λ v. rest >>= λ vs. pure (v ∷ vs)) (exprs_collect more)

  pub exprs_begin : (xs : List Expr) (s : State) → exprs here scope xs s ≡ after [] (collect (expr here scope) xs s)
  exprs_begin xs s = ap (λ (r : Run (List Value)). r s) (exprs_collect xs) ∙ collect_begin (expr here scope) xs s

  pub some_next : (xs : List Expr) (i : ℕ) (x : Expr) (s : State) → i < length xs → x ≡ get_or xs i x
      → some_true here scope (drop i xs) s ≡ and_then (condition here scope x s) (λ t. if t then pure (value.Bool true) else some_true here scope (drop (i + 1) xs))
  unfolding bind
  some_next xs i x s h e = ap (λ l. some_true here scope l s) (drop_next xs i x h e)

  pub some_end : (xs : List Expr) (i : ℕ) (s : State) → length xs ≤ i → some_true here scope (drop i xs) s ≡ Gives (value.Bool false) s
  unfolding pure
  some_end xs i s h = ap (λ l. some_true here scope l s) (drop_end xs i h)

  pub all_next : (xs : List Expr) (i : ℕ) (x : Expr) (s : State) → i < length xs → x ≡ get_or xs i x
      → all_true here scope (drop i xs) s ≡ and_then (condition here scope x s) (λ t. if t then all_true here scope (drop (i + 1) xs) else pure (value.Bool false))
  unfolding bind
  all_next xs i x s h e = ap (λ l. all_true here scope l s) (drop_next xs i x h e)

  pub all_end : (xs : List Expr) (i : ℕ) (s : State) → length xs ≤ i → all_true here scope (drop i xs) s ≡ Gives (value.Bool true) s
  unfolding pure
  all_end xs i s h = ap (λ l. all_true here scope l s) (drop_end xs i h)

  pub chain_next : (xs : List Comparison) (i : ℕ) (x : Comparison) (v : Value) (s : State) → i < length xs → x ≡ get_or xs i x
      → chained here scope (drop i xs) v s ≡ and_then (compares here scope x v s) (λ o. if_holds here o (chained here scope (drop (i + 1) xs)))
  unfolding bind
  chain_next xs i x v s h e = ap (λ (l : List Comparison). chained here scope l v s) (drop_next xs i x h e)

  pub chain_end : (xs : List Comparison) (i : ℕ) (v : Value) (s : State) → length xs ≤ i → chained here scope (drop i xs) v s ≡ Gives (value.Bool true) s
  unfolding pure
  chain_end xs i v s h = ap (λ (l : List Comparison). chained here scope l v s) (drop_end xs i h)

  abbrev goes : List Comparison → Outcome (Option Value) → Outcome Value
  goes rest o = and_then o (λ o. if_holds here o (chained here scope rest))

  pub chain_more : (xs : List Comparison) (i : ℕ) (x : Comparison) (v w : Value) (s t : State) → i < length xs → x ≡ get_or xs i x → compares here scope x v s ≡ Gives (Some w) t
      → chained here scope (drop i xs) v s ≡ chained here scope (drop (i + 1) xs) w t
  chain_more xs i x v w s t h e f = chain_next xs i x v s h e ∙ ap (goes (drop (i + 1) xs)) f

  pub chain_fails : (xs : List Comparison) (i : ℕ) (x : Comparison) (v : Value) (s t : State) → i < length xs → x ≡ get_or xs i x → compares here scope x v s ≡ Gives None t
      → chained here scope (drop i xs) v s ≡ Gives (value.Bool false) t
  unfolding pure
  chain_fails xs i x v s t h e f = chain_next xs i x v s h e ∙ ap (goes (drop (i + 1) xs)) f

  pub chain_stops : (xs : List Comparison) (i : ℕ) (x : Comparison) (v : Value) (s t : State) (why : Stop) → i < length xs → x ≡ get_or xs i x → compares here scope x v s ≡ Stops why t
      → chained here scope (drop i xs) v s ≡ Stops why t
  chain_stops xs i x v s t why h e f = chain_next xs i x v s h e ∙ ap (goes (drop (i + 1) xs)) f

pub ruleset chain_rules = (chain_more, chain_fails, chain_stops, chain_end)
