-- Calls, loops, generators and the beginnings of regions under a closed relation.
use Rattle.std.proofs.Common.{◌≡◌, ℕ, zero, suc, ◌≤◌, ◌==◌, Bool, false, if◌then◌else◌, List, [], ◌∷◌, length, slice_get, Option, Some, None, ℤ, pos, negsuc, ◌+ℤ◌, ap, arith}
use Rattle.codon_base.specs.declared.value.Value.{Value}
use Rattle.codon_base.specs.declared.value.Value.TheVariants as value
use Rattle.codon_base.specs.declared.object.Object.TheVariants.{Instance}
use Rattle.source_trees.specs.declared.item.Function.{Function}
use Rattle.source_trees.specs.declared.item.Class.{Class}
use Rattle.source_trees.specs.declared.statement.LoopNames.{LoopNames}
use Rattle.source_trees.specs.declared.statement.Stmt.{Stmt}
use Rattle.meaning_rules.specs.State.{Spelling, Flow, Next, Break, Continue, Return, Left}
use Rattle.meaning_rules.specs.Outcome.{Run, stop}
use Rattle.meaning_rules.specs.Bodies.{yields, gives_value}
use Rattle.meaning_rules.specs.Mentions.{Note, notes_of_body, written_places}
use Rattle.meaning_rules.specs.Program.{Program, Scope, Known, fields_of, methods_of, function_named, initializer_name}
use Rattle.meaning_rules.specs.Task.{Region, Consumer, Task, Rules, Setting}
use Rattle.meaning_rules.specs.Captures as captures
use Rattle.meaning_rules.specs.Calls as calls
use Rattle.meaning_rules.specs.Loops as loops
use Rattle.meaning_rules.specs.Loops.{Iterable, Numbers, Items, Generated}
use Rattle.meaning_rules.proofs.Closed.{Relation, Closed, chain, gives, pick}
use Rattle.meaning_rules.proofs.ClosedObjects.{allocate_closed, one_of_closed, int_in_closed, ref_in_closed, found_at_closed, instance_at_closed, read_name_closed}

none_more : (n : ℕ) → zero ≡ suc n → ⊥
none_more n e = omega arith

one_less : (n k : ℕ) → suc n ≡ suc k → n ≡ k
one_less n k e = omega arith

module _ (program : Program) {R : Relation} {rules : Rules} {limit more : ℕ} {low high : List Consumer → Task → Run Flow} (c : Closed R rules limit more low high) where
  abbrev pub here : Setting
  here = record { program = program; limit = limit; rules = rules; low = low }

  abbrev pub there : Setting
  there = record { program = program; limit = more; rules = rules; low = high }

  -- ---- beginnings of regions

  capture_closed : {n : ℕ} (scope : Scope) (names : List Spelling) → R n (List captures.Captured) (captures.capture program scope names) (captures.capture program scope names)
  capture_closed scope [] = gives c _
  capture_closed scope (name ∷ names) = chain c (read_name_closed c program scope name) (λ v. chain c (capture_closed scope names) (λ others. gives c _))

  pub begin_closed : {n : ℕ} (scope : Scope) (own : List Spelling) (notes : List Note) (lent : List Spelling) → R n Region (captures.begin program scope own notes lent) (captures.begin program scope own notes lent)
  begin_closed scope own notes lent =
      chain c (capture_closed scope _) (λ outer. chain c (capture_closed (captures.outside scope) _) (λ others. c.looks _ _ (λ s. captures.region_of scope own lent s.shared.levels outer others)))

  pub begin_loop_closed : {n : ℕ} (scope : Scope) (names : LoopNames) (over_range : Bool) (body : List Stmt) → R n Region (captures.begin_loop program scope names over_range body) (captures.begin_loop program scope names over_range body)
  begin_loop_closed scope names over_range body = begin_closed scope (captures.private_names scope names body) (notes_of_body body) (if over_range then written_places (notes_of_body body) else [])

  -- ---- calls

  result_closed : {n : ℕ} (f : Function) (flow : Flow) → R n Value (calls.result f flow) (calls.result f flow)
  result_closed f (Return v) = gives c _
  result_closed f (Left flow) = result_closed f flow
  result_closed f Next = pick c (gives_value f.body) (c.stops _ _ _) (gives c value.Unit)
  result_closed f Break = pick c (gives_value f.body) (c.stops _ _ _) (gives c value.Unit)
  result_closed f Continue = pick c (gives_value f.body) (c.stops _ _ _) (gives c value.Unit)

  enter_closed : (known : Known) (vs : List Value) → R 0 Value (calls.enter here known vs) (calls.enter there known vs)
  enter_closed known vs = c.enters _ _ _ _ (λ _. c.binds_ticked _ _ _ _ _ _ _ (c.frames_ticked _ _ _ _ _ (c.lows [] _)) (λ flow. result_closed known.function flow))

  pub call_closed : (known : Known) (given : List Value) → R 0 Value (calls.call here known given) (calls.call there known given)
  call_closed known given = pick c (yields known.function.body) (c.stops _ _ _) (chain c (one_of_closed c (calls.arguments known.function.params given)) (λ vs. enter_closed known vs))

  construct_by_closed : (number : ℕ) (class : Class) (f : Option Function) (given : List Value) → R 0 Value (calls.construct_by here number class f given) (calls.construct_by there number class f given)
  construct_by_closed number class None given = pick c (length given == length (fields_of class)) (allocate_closed c (Instance number given)) (c.stops _ _ _)
  construct_by_closed number class (Some f) given = chain c (allocate_closed c _) (λ new. chain c (call_closed (record { function = f; in_prelude = false }) (new ∷ given)) (λ _. gives c new))

  pub construct_closed : (number : ℕ) (class : Class) (given : List Value) → R 0 Value (calls.construct here number class given) (calls.construct there number class given)
  construct_closed number class given = construct_by_closed number class (function_named initializer_name (methods_of class)) given

  pub method_of_closed : {n : ℕ} (v : Value) (name : Spelling) → R n Known (calls.method_of here v name) (calls.method_of there v name)
  method_of_closed v name =
      chain c (ref_in_closed c _) (λ at. chain c (instance_at_closed c at) (λ instance. chain c (one_of_closed c (slice_get program.classes instance.class)) (λ class. chain c (one_of_closed c _) (λ f. gives c _))))

  -- ---- loops

  after_turn_closed : {n : ℕ} (flow : Flow) {p q : Run Flow} → R n Flow p q → R n Flow (loops.after_turn flow p) (loops.after_turn flow q)
  after_turn_closed Next e = e
  after_turn_closed Continue e = e
  after_turn_closed Break e = gives c _
  after_turn_closed (Return v) e = gives c _
  after_turn_closed (Left flow) e = gives c _

  shown_closed : {n : ℕ} {A : Type 0} (o : Option (Value × A)) (k l : Value → A → Run Flow) → ((v : Value) (a : A) → R n Flow (k v a) (l v a)) → R n Flow (loops.shown o k) (loops.shown o l)
  shown_closed None k l e = gives c _
  shown_closed (Some p) k l e = e p.0 p.1

  module _ {n : ℕ} {A : Type 0} (next after : A → Run (Option (Value × A))) (turn deed : Value → Run Flow) (nexts : (a : A) → R n (Option (Value × A)) (next a) (after a)) (each : (v : Value) → R n Flow (turn v) (deed v)) where
    turns_equal : (k : ℕ) (a : A) → R n Flow (loops.turns next turn k a) (loops.turns after deed k a)
    turns_equal zero a = c.stops _ _ _
    turns_equal (suc k) a = chain c (nexts a) (λ o. shown_closed o _ _ (λ v b. chain c (each v) (λ flow. after_turn_closed flow (turns_equal k b))))

    turns_closed : (k l : ℕ) → k ≤ l → (limit ≡ more → k ≡ l) → (a : A) → R n Flow (loops.turns next turn k a) (loops.turns after deed l a)
    turns_closed zero zero h same a = c.stops _ _ _
    turns_closed zero (suc l) h same a = c.cuts (λ e. none_more l (same e)) _ _ _ _ (turns_equal (suc l) a)
    turns_closed (suc k) zero h same a = absurd (omega arith)
    turns_closed (suc k) (suc l) h same a = chain c (nexts a) (λ o. shown_closed o _ _ (λ v b. chain c (each v) (λ flow. after_turn_closed flow (turns_closed k l (omega arith) (λ e. one_less k l (same e)) b))))

    pub loop_closed : (a : A) → R n Flow (loops.loop limit next turn a) (loops.loop more after deed a)
    loop_closed a = c.fuels _ _ _ _ (λ left right h same. turns_closed (suc left) (suc right) (omega arith) (λ e. ap suc (same e)) a)

  pub ticked_closed : {n : ℕ} {A : Type 0} (a : A) → R n (Option A) (loops.ticked limit a) (loops.ticked more a)
  ticked_closed a = chain c (c.ticks _) (λ _. gives c _)

  pub while_next_closed : {n : ℕ} {p q : Run Bool} → R n Bool p q → (u : Unit {0}) → R n (Option (Value × Unit {0})) (loops.while_next limit p u) (loops.while_next more q u)
  while_next_closed e u = chain c e (λ t. pick c t (ticked_closed _) (gives c None))

  number_next_closed : {n : ℕ} (step stop at : ℤ) → R n (Option (Value × ℤ)) (loops.number_next limit step stop at) (loops.number_next more step stop at)
  number_next_closed step stop at = pick c (loops.is_before step stop at) (ticked_closed (value.Int at, at +ℤ step)) (gives c None)

  item_found_closed : {n : ℕ} (place : ℕ) (o : Option Value) → R n (Option (Value × ℕ)) (loops.item_found limit place o) (loops.item_found more place o)
  item_found_closed place None = gives c _
  item_found_closed place (Some v) = ticked_closed _

  item_next_closed : {n : ℕ} (container : Value) (place : ℕ) → R n (Option (Value × ℕ)) (loops.item_next here container place) (loops.item_next there container place)
  item_next_closed container place = chain c (found_at_closed c container place) (λ o. item_found_closed place o)

  numbers_closed : {n : ℕ} (start stop step : ℤ) (turn deed : Value → Run Flow) → ((v : Value) → R n Flow (turn v) (deed v)) → R n Flow (loops.numbers here start stop step turn) (loops.numbers there start stop step deed)
  numbers_closed start stop (pos zero) turn deed e = c.stops _ _ _
  numbers_closed start stop (pos (suc k)) turn deed e = loop_closed _ _ turn deed (number_next_closed (pos (suc k)) stop) e start
  numbers_closed start stop (negsuc k) turn deed e = loop_closed _ _ turn deed (number_next_closed (negsuc k) stop) e start

  -- ---- generators

  generate_closed : (consumers : List Consumer) (consumer : Consumer) (known : Known) (vs : List Value) → R (length consumers) Flow (loops.generate here consumers consumer known vs) (loops.generate there consumers consumer known vs)
  generate_closed consumers consumer known vs = c.enters _ _ _ _ (λ _. c.binds_ticked _ _ _ _ _ _ _ (c.generates_ticked _ _ _ _ _ (c.lows (consumer ∷ consumers) _)) (λ flow. gives c _))

  pub yield_closed : (consumers : List Consumer) (v : Value) → R (length consumers) Flow (loops.yield here consumers v) (loops.yield there consumers v)
  yield_closed [] v = c.stops _ _ _
  yield_closed (consumer ∷ below) v = chain c (c.suspends _ _ _ _ (c.enters _ _ _ _ (λ _. c.lows below _))) (λ flow. gives c _)

  pub over_closed : (consumers : List Consumer) (goes_over : Iterable) (consumer : Consumer) (turn deed : Value → Run Flow) → ((v : Value) → R (length consumers) Flow (turn v) (deed v)) → R (length consumers) Flow (loops.over here consumers goes_over consumer turn) (loops.over there consumers goes_over consumer deed)
  over_closed consumers (Numbers start stop step) consumer turn deed e =
      chain c (int_in_closed c _) (λ i. chain c (int_in_closed c _) (λ j. chain c (int_in_closed c _) (λ k. numbers_closed i j k turn deed e)))
  over_closed consumers (Items container) consumer turn deed e = loop_closed _ _ turn deed (item_next_closed container) e 0
  over_closed consumers (Generated known given) consumer turn deed e = chain c (one_of_closed c _) (λ vs. generate_closed consumers consumer known vs)
