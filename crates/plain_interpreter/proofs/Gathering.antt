-- Comprehensions: their texts, how they begin, what a turn does, and what becomes of the names.
use Rattle.std.proofs.Common.{◌≡◌, ℕ, suc, ◌-◌, Bool, true, false, if◌then◌else◌, List, [], ◌∷◌, ◌++◌, Option, Some, None, Ok, refl, sym, ap, ◌∙◌, append_assoc, map}
use Rattle.std.specs.List.{flat_map}
use Rattle.std.specs.Option.{is_some}
use Rattle.std.specs.Borrow.{Bor}
use Rattle.codon_base.specs.declared.value.Value.{Value}
use Rattle.codon_base.specs.declared.object.Object.TheVariants.{List as Listed}
use Rattle.source_trees.specs.declared.expression.Expr.{Expr}
use Rattle.source_trees.specs.declared.statement.LoopNames.{LoopNames}
use Rattle.meaning_rules.specs.State.{Spelling, Names, with_names_of, State, Stop, Flow, Next}
use Rattle.meaning_rules.specs.Outcome.{Outcome, Gives, Stops, Run, and_then, bind, pure, look, change_names, ◌>>=◌}
use Rattle.source_trees.specs.Names.{loop_names}
use Rattle.meaning_rules.specs.Objects.{allocate, truth}
use Rattle.meaning_rules.specs.Program.{Scope, with_locals}
use Rattle.meaning_rules.specs.Task.{Comprehension, Setting}
use Rattle.meaning_rules.specs.Loops.{Iterable, loop, turns}
use Rattle.plain_interpreter.specs.Lists.{comprehension, comprehended_of}
use Rattle.meaning_rules.specs.Expressions.{expr, iterable, append_to}
use Rattle.meaning_rules.specs.Meaning.{condition_of, turn_of}
use Rattle.plain_interpreter.specs.Steps.{looped}
use Rattle.plain_interpreter.specs.Entered.{TellsEntered, TellsStep}
use Rattle.plain_interpreter.specs.Cursors.{next_by}
use Rattle.plain_interpreter.specs.Frames.{with_names}
use Rattle.plain_interpreter.proofs.Private.{as_before}
use Rattle.plain_interpreter.specs.Gathered.{HasNames, IsSame, turns_of, filling, ends, ended}
use Rattle.plain_interpreter.specs.Scopes.{scope_of}
use Rattle.plain_interpreter.specs.Seen.{seen, flow_of}
use Rattle.plain_interpreter.specs.declared.comprehensions.Gathering.{Gathering}
use Rattle.plain_interpreter.specs.declared.state.State as code
use Rattle.plain_interpreter.specs.declared.flow.Flow.{Flow as Left}
use Rattle.plain_interpreter.specs.declared.iterable.Cursor.{Cursor}
use Rattle.plain_interpreter.specs.declared.scope.Scope.{Scope as Place}
use Rattle.plain_interpreter.specs.declared.scope.Inner.{Inner}
use Rattle.plain_interpreter.proofs.Turns.{loop_begins}

abbrev names_in : List Inner → List Spelling
names_in = flat_map (λ each. loop_names each.names.now)

pub inner_locals : (top : Inner) (inner all : List Inner) (locals : List Spelling) → all ≡ top ∷ inner
    → flat_map (λ each. loop_names each.names.now) all ++ locals ≡ loop_names top.names.now ++ (flat_map (λ each. loop_names each.names.now) inner ++ locals)
inner_locals top inner all locals e = ap (λ l. names_in l ++ locals) e ∙ append_assoc (loop_names top.names.now) (names_in inner) locals

-- ---- how a comprehension begins

module _ (here : Setting) (scope : Scope) (names : LoopNames) (goes : Iterable) (kept : Option Expr) (item : Expr) where
  abbrev gathers : Value → Run Flow
  gathers list = looped here [] goes (Comprehension (with_locals (loop_names names) scope) names kept item list)

  abbrev ends_by : Value → Names → Outcome Flow → Outcome Value
  ends_by list own o = and_then o (λ _ u. Gives list (with_names (with_names_of own (loop_names names) u.names) u))

  begins : (s t : State) (list : Value) → allocate (Listed []) s ≡ Gives list t → comprehended_of here scope names goes kept item s ≡ ends_by list t.names (gathers list t)
  unfolding bind pure look change_names
  begins s t list e = ap (λ (o : Outcome Value). and_then o (λ list t. ends_by list t.names (gathers list t))) e

  back : (list : Value) (own : Names) (o : Outcome Flow) → ends_by list own o ≡ and_then o (ends list (loop_names names) (map own (loop_names names)))
  back list own (Gives flow u) = ap (λ (ns : Names). Gives list (with_names ns u)) (sym (as_before own (loop_names names) u.names))
  back list own (Stops why u) = refl

  -- by what was found of its loop: that it was left, or the turns that it has left to make
  pub gathering_is : (s t : State) (list : Value) (before : List Value) (o : Outcome Flow) → allocate (Listed []) s ≡ Gives list t → before ≡ map t.names (loop_names names) → gathers list t ≡ o
      → comprehended_of here scope names goes kept item s ≡ and_then o (ends list (loop_names names) before)
  gathering_is s t list before o e n f = begins s t list e ∙ back list t.names (gathers list t) ∙ ap (λ (o : Outcome Flow). and_then o (ends list (loop_names names) (map t.names (loop_names names)))) f ∙ ap (λ (vs : List Value). and_then o (ends list (loop_names names) vs)) (sym n)

  -- by how its loop began
  pub gathering_made : (s t : State) (list : Value) (before : List Value) (at : Cursor) (flow : Option Left) (whole : Bool) (new : code.State) → allocate (Listed []) s ≡ Gives list t → before ≡ map t.names (loop_names names)
      → TellsEntered (gathers list t) (turns_of here scope names kept item list) (Ok flow) at new → whole ≡ is_some flow
      → comprehended_of here scope names goes kept item s ≡ and_then (if whole then Gives Next (seen new) else turns_of here scope names kept item list at (seen new)) (ends list (loop_names names) before)
  gathering_made s t list before at None whole new e n f w = gathering_is s t list before (turns_of here scope names kept item list at (seen new)) e n f ∙ ap (λ (b : Bool). and_then (if b then Gives Next (seen new) else turns_of here scope names kept item list at (seen new)) (ends list (loop_names names) before)) (sym w)
  gathering_made s t list before at (Some flow) whole new e n f w = gathering_is s t list before (Gives (flow_of flow) (seen new)) e n f ∙ ap (λ (b : Bool). and_then (if b then Gives Next (seen new) else turns_of here scope names kept item list at (seen new)) (ends list (loop_names names) before)) (sym w)

-- the text inside of a comprehension
pub inner_scope : (all : Bor (List Inner)) (names : LoopNames) (scope : Place) → HasNames all.now names scope
    → scope_of (record { inner = all; locals = scope.locals; fixed = scope.fixed; in_prelude = scope.in_prelude }) ≡ with_locals (loop_names names) (scope_of scope)
inner_scope all names scope h = ap (λ (ls : List Spelling). record (scope_of scope) { locals = ls }) h

-- ---- what is left of one that has begun

module _ (here : Setting) (scope inner : Scope) (names : LoopNames) (kept : Option Expr) (item : Expr) (begun : Gathering) (s : State) (n : ℕ) where
  -- from where its turns begin
  pub filling_begins : begun.is_whole ≡ false → inner ≡ with_locals (loop_names names) scope → n ≡ here.limit - s.shared.used
      → filling (turns_of here scope names kept item) begun s ≡ turns (next_by here.rules here.limit) (turn_of here [] (Comprehension inner names kept item begun.list)) (suc n) begun.cursor s
  filling_begins w e l =
      ap (λ (b : Bool). if b then Gives Next s else turns_of here scope names kept item begun.list begun.cursor s) w
      ∙ ap (λ (sc : Scope). loop here.limit (next_by here.rules here.limit) (turn_of here [] (Comprehension sc names kept item begun.list)) begun.cursor s) (sym e)
      ∙ loop_begins (next_by here.rules here.limit) (turn_of here [] (Comprehension inner names kept item begun.list)) here.limit begun.cursor s n l

pub ended_same : (names : LoopNames) (old new : Gathering) (o : Outcome Flow) → IsSame old new → ended names new o ≡ ended names old o
ended_same names old new o h = ap (λ (b : Gathering). ended names b o) h

-- ---- what a turn does, once the names have their item

module _ (here : Setting) (inner : Scope) (kept : Option Expr) (item : Expr) (list : Value) where
  abbrev pub gathers_item : Bool → Run Flow
  gathers_item t = if t then (expr here inner item >>= append_to here list) else pure Next

  abbrev pub body : Run Flow
  body = condition_of here inner kept >>= gathers_item

  pub kept_stops : (s t : State) (why : Stop) → condition_of here inner kept s ≡ Stops why t → body s ≡ Stops why t
  unfolding bind
  kept_stops s t why e = ap (λ (o : Outcome Bool). and_then o gathers_item) e

  pub is_passed : (s t : State) → condition_of here inner kept s ≡ Gives false t → body s ≡ Gives Next t
  unfolding bind pure
  is_passed s t e = ap (λ (o : Outcome Bool). and_then o gathers_item) e

  pub item_stops : (s t u : State) (why : Stop) → condition_of here inner kept s ≡ Gives true t → expr here inner item t ≡ Stops why u → body s ≡ Stops why u
  unfolding bind
  item_stops s t u why e f = ap (λ (o : Outcome Bool). and_then o gathers_item) e ∙ ap (λ (o : Outcome Value). and_then o (append_to here list)) f

  pub item_found : (s t : State) (found : Outcome Value) (o : Outcome Flow) → condition_of here inner kept s ≡ Gives true t → expr here inner item t ≡ found → and_then found (append_to here list) ≡ o → body s ≡ o
  unfolding bind
  item_found s t found o e f g = ap (λ (o : Outcome Bool). and_then o gathers_item) e ∙ ap (λ (o : Outcome Value). and_then o (append_to here list)) f ∙ g

-- ---- by what was found of a part

pub condition_found : (here : Setting) (scope : Scope) (kept : Option Expr) (e x : Expr) (s : State) → kept ≡ Some e → x ≡ e → condition_of here scope kept s ≡ and_then (expr here scope x s) (truth here.rules)
unfolding bind
condition_found here scope kept e x s k g = ap (λ (d : Option Expr). condition_of here scope d s) k ∙ ap (λ (d : Expr). and_then (expr here scope d s) (truth here.rules)) (sym g)

pub condition_none : (here : Setting) (scope : Scope) (kept : Option Expr) (s : State) → kept ≡ None → condition_of here scope kept s ≡ Gives true s
unfolding pure
condition_none here scope kept s k = ap (λ (d : Option Expr). condition_of here scope d s) k

pub comprehension_found : (here : Setting) (scope : Scope) (names : LoopNames) (goes x : Expr) (kept : Option Expr) (item : Expr) (s : State) → x ≡ goes
    → comprehension here scope names goes kept item s ≡ and_then (iterable here scope x s) (λ goes_over. comprehended_of here scope names goes_over kept item)
unfolding bind
comprehension_found here scope names goes x kept item s g = ap (λ (d : Expr). and_then (iterable here scope d s) (λ goes_over. comprehended_of here scope names goes_over kept item)) (sym g)

-- ---- what a step of the loop tells

pub stepped_on : (o : Outcome (Option Cursor)) (b : Bool) (at : Cursor) (new : code.State) → b ≡ true → TellsStep o (Ok b) at new → o ≡ Gives (Some at) (seen new)
stepped_on o true at new e h = h
stepped_on o false at new e h = cc

pub stepped_out : (o : Outcome (Option Cursor)) (b : Bool) (at : Cursor) (new : code.State) → b ≡ false → TellsStep o (Ok b) at new → o ≡ Gives None (seen new)
stepped_out o true at new e h = cc
stepped_out o false at new e h = h
