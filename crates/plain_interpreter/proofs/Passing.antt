-- Stages one after another: a stage with those after it is what comes of the stage, and then those after it.
use Rattle.std.proofs.Common.{◌≡◌, ◌+◌, ℕ, refl, sym, ap, ◌∙◌, Bool, true, false, if◌then◌else◌, List, [], ◌∷◌, ◌++◌, drop, slice_get, Option, Some, None}
use Rattle.std.proofs.lemmas.Option.{slice_get_within, get_or_from_slice_get}
use Rattle.codon_base.specs.declared.value.Value.{Value}
use Rattle.codon_base.specs.declared.value.Value.TheVariants as value
use Rattle.source_trees.specs.declared.expression.Expr.{Expr}
use Rattle.source_trees.specs.declared.pipeline.StageForm.{StageForm}
use Rattle.source_trees.specs.declared.pipeline.StageForm.TheVariants as form
use Rattle.source_trees.specs.declared.pipeline.Stage.{Stage}
use Rattle.source_trees.specs.declared.pipeline.Joint.{Joint}
use Rattle.source_trees.specs.declared.pipeline.Joint.TheVariants.{InTurn, InParallel}
use Rattle.meaning_rules.specs.State.{Spelling, State, Stop, Flow, Next}
use Rattle.meaning_rules.specs.Outcome.{Outcome, Gives, Stops, Run, and_then, bind, pure, stop, wrong, ◌>>=◌}
use Rattle.meaning_rules.specs.Bodies.{yields}
use Rattle.meaning_rules.specs.Program.{Scope, Known, Callee, Defined, Constructor, Standard, Variable, Unknown, callee}
use Rattle.meaning_rules.specs.Task.{Region, Consumer, Setting}
use Rattle.meaning_rules.specs.Loops.{Items, Generated}
use Rattle.meaning_rules.specs.Variables.{read_name}
use Rattle.meaning_rules.specs.Calls.{call, construct}
use Rattle.meaning_rules.specs.Expressions.{expr, exprs, call_builtin}
use Rattle.meaning_rules.specs.Printing.{print_after}
use Rattle.meaning_rules.specs.Pipelines.{joined, through, first_stage, from_head}
use Rattle.plain_interpreter.specs.Stages.{Passed, On, Ended, staged, stage_called, stage_loop, whole_loop, called_stage, passed, resumed, reached_stage}
use Rattle.plain_interpreter.proofs.Ahead.{through_next}

module _ (here : Setting) (consumers : List Consumer) (scope : Scope) (region : Option Region) (more : List Stage) where
  abbrev goes : Passed → Run Flow
  goes = resumed here consumers scope region more

  abbrev next : Value → Run Flow
  next = through here consumers scope region more

  loop_ends : (o : Outcome Flow) → o ≡ and_then (and_then o (λ flow. pure (Ended flow))) goes
  unfolding pure
  loop_ends (Gives flow s) = refl
  loop_ends (Stops why s) = refl

  value_goes : (o : Outcome Value) → and_then o next ≡ and_then (and_then o (λ v. pure (On v))) goes
  unfolding pure
  value_goes (Gives v s) = refl
  value_goes (Stops why s) = refl

  stops_both : {A : Type 0} (o : Outcome A) → and_then o (λ _. wrong) ≡ and_then (and_then o (λ _. wrong)) goes
  unfolding stop
  stops_both (Gives a s) = refl
  stops_both (Stops why s) = refl

  by_yields : (b : Bool) (known : Known) (given : List Value) (s : State)
      → (if b then stage_loop here consumers scope (Generated known given) region more else (call here known given >>= next)) s
      ≡ and_then ((if b then whole_loop here consumers scope (Generated known given) region more else (call here known given >>= λ v. pure (On v))) s) goes
  unfolding bind
  by_yields true known given s = loop_ends (stage_loop here consumers scope (Generated known given) region more s)
  by_yields false known given s = value_goes (call here known given s)

  by_name : (c : Callee) (name : Spelling) (given : List Value) (s : State)
      → stage_called here consumers scope c name given region more s ≡ and_then (called_stage here consumers scope c name given region more s) goes
  unfolding bind stop
  by_name (Defined known) name given s = by_yields (yields known.function.body) known given s
  by_name (Constructor number class) name given s = value_goes (construct here number class given s)
  by_name (Standard which) name given s = value_goes (call_builtin here which given s)
  by_name Variable name given s = stops_both (read_name here.program scope name s)
  by_name Unknown name given s = refl

  abbrev named : Spelling → List Value → Run Flow
  named name given = stage_called here consumers scope (callee here.program scope name) name given region more

  abbrev named_passed : Spelling → List Value → Run Passed
  named_passed name given = called_stage here consumers scope (callee here.program scope name) name given region more

  with_behind : (name : Spelling) (xs : List Value) (v : Value) (o : Outcome (List Value))
      → and_then o (λ ys. named name (xs ++ v ∷ ys)) ≡ and_then (and_then (and_then o (λ ys. pure (xs ++ v ∷ ys))) (named_passed name)) goes
  unfolding pure
  with_behind name xs v (Gives ys s) = by_name (callee here.program scope name) name (xs ++ v ∷ ys) s
  with_behind name xs v (Stops why s) = refl

  with_before : (name : Spelling) (v : Value) (behind : List Expr) (o : Outcome (List Value))
      → and_then o (λ xs. exprs here scope behind >>= λ ys. named name (xs ++ v ∷ ys))
      ≡ and_then (and_then (and_then o (λ xs. exprs here scope behind >>= λ ys. pure (xs ++ v ∷ ys))) (named_passed name)) goes
  unfolding bind
  with_before name v behind (Gives xs s) = with_behind name xs v (exprs here scope behind s)
  with_before name v behind (Stops why s) = refl

  after_print : (o : Outcome (Unit {0})) → and_then o (λ _. next value.Unit) ≡ and_then (and_then o (λ _. pure (On value.Unit))) goes
  unfolding pure
  after_print (Gives u s) = refl
  after_print (Stops why s) = refl

  -- a stage with those after it
  pub staged_is : (f : StageForm) (v : Value) (s : State) → staged here consumers scope f region more v s ≡ and_then (passed here consumers scope f region more v s) goes
  unfolding bind
  staged_is form.Iter v s = loop_ends (stage_loop here consumers scope (Items v) region more s)
  staged_is (form.Call name before behind) v s = with_before name v behind (exprs here scope before s)
  staged_is (form.Print printed) v s = after_print (print_after here scope (v ∷ []) printed s)

  by_passed : (f : StageForm) (v : Value) (s : State) (o : Outcome Passed) → passed here consumers scope f region more v s ≡ o → staged here consumers scope f region more v s ≡ and_then o goes
  by_passed f v s o e = staged_is f v s ∙ ap (λ p. and_then p goes) e

  pub staged_on : (f : StageForm) (v w : Value) (s t : State) → passed here consumers scope f region more v s ≡ Gives (On w) t → staged here consumers scope f region more v s ≡ through here consumers scope region more w t
  staged_on f v w s t e = by_passed f v s (Gives (On w) t) e

  pub staged_left : (f : StageForm) (v : Value) (flow : Flow) (s t : State) → passed here consumers scope f region more v s ≡ Gives (Ended flow) t → staged here consumers scope f region more v s ≡ Gives flow t
  unfolding pure
  staged_left f v flow s t e = by_passed f v s (Gives (Ended flow) t) e

  pub staged_stops : (f : StageForm) (v : Value) (why : Stop) (s t : State) → passed here consumers scope f region more v s ≡ Stops why t → staged here consumers scope f region more v s ≡ Stops why t
  staged_stops f v why s t e = by_passed f v s (Stops why t) e

-- the stages from a place on, by the first of them
module _ (here : Setting) (consumers : List Consumer) (scope : Scope) (region : Option Region) (stages : List Stage) (i : ℕ) (x : Stage) (v : Value) (s : State) (e : slice_get stages i ≡ Some x) where
  abbrev behind : List Stage
  behind = drop (i + 1) stages

  joined_next : (joint : Joint) → x.joint ≡ joint → through here consumers scope region (drop i stages) v s ≡ joined here consumers scope joint region behind (λ r. staged here consumers scope x.form r behind v) v s
  joined_next joint j = through_next here consumers scope region stages i x v s (slice_get_within stages i x e) (sym (get_or_from_slice_get stages i x x e)) ∙ ap (λ k. joined here consumers scope k region behind (λ r. staged here consumers scope x.form r behind v) v s) j

  pub reaches_next : x.joint ≡ InParallel → through here consumers scope region (drop i stages) v s ≡ reached_stage here consumers scope x.form region behind v s
  reaches_next j = joined_next InParallel j

  pub passes_on : (w : Value) (t : State) → x.joint ≡ InTurn → passed here consumers scope x.form region behind v s ≡ Gives (On w) t → through here consumers scope region (drop i stages) v s ≡ through here consumers scope region behind w t
  passes_on w t j p = joined_next InTurn j ∙ staged_on here consumers scope region behind x.form v w s t p

  pub passes_left : (flow : Flow) (t : State) → x.joint ≡ InTurn → passed here consumers scope x.form region behind v s ≡ Gives (Ended flow) t → through here consumers scope region (drop i stages) v s ≡ Gives flow t
  passes_left flow t j p = joined_next InTurn j ∙ staged_left here consumers scope region behind x.form v flow s t p

  pub passes_none : (why : Stop) (t : State) → x.joint ≡ InTurn → passed here consumers scope x.form region behind v s ≡ Stops why t → through here consumers scope region (drop i stages) v s ≡ Stops why t
  passes_none why t j p = joined_next InTurn j ∙ staged_stops here consumers scope region behind x.form v why s t p

-- the head of a pipeline, by the first of its stages
module _ (here : Setting) (consumers : List Consumer) (scope : Scope) (head : Expr) (region : Option Region) where
  pub head_some : (stages : List Stage) (x : Stage) (s : State) → slice_get stages 0 ≡ Some x → from_head here consumers scope head stages region s ≡ first_stage here consumers scope head x.joint x.form region (drop 1 stages) stages s
  head_some [] x s e = cc
  head_some (y ∷ more) x s e = ap (λ (z : Stage). first_stage here consumers scope head z.joint z.form region more (y ∷ more) s) (get_or_from_slice_get (y ∷ more) 0 x x e)

  none_left : (o : Outcome Value) → and_then o (λ _. pure Next) ≡ and_then o (through here consumers scope region [])
  unfolding pure
  none_left (Gives v s) = refl
  none_left (Stops why s) = refl

  pub head_none : (stages : List Stage) (s : State) → slice_get stages 0 ≡ None → from_head here consumers scope head stages region s ≡ (expr here scope head >>= through here consumers scope region stages) s
  unfolding bind
  head_none [] s e = none_left (expr here scope head s)
  head_none (y ∷ more) s e = cc
