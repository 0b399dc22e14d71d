-- Loops and what they go over (the Python reference, 8.2 and 8.3, and 6.2.9 for generators). Each turn takes a tick, after its condition held or its item came and before its body.
-- A loop over a generator is the execution of the generator's body, in which each `yield` executes a turn of the loop in the loop's own names.
use Rattle.std.specs.Prelude.{ℕ, zero, suc, ◌+◌, Bool, if◌then◌else◌, List, [], ◌∷◌, Option, Some, None, ℤ, pos, negsuc, ◌+ℤ◌, int_lt, codes}
use Rattle.codon_base.specs.declared.fault.FaultKind.TheVariants as kind
use Rattle.codon_base.specs.declared.value.Value.{Value, out-Value}
use Rattle.codon_base.specs.declared.value.Value.TheVariants as value
use Rattle.meaning_rules.specs.State.{OutOfFuel, Flow, Next, Break, Continue, Left}
use Rattle.meaning_rules.specs.Outcome.{Run, ◌>>=◌, pure, stop, fault, wrong, tick, by_fuel, generating, suspended}
use Rattle.meaning_rules.specs.Objects.{one_of, int_in, found_at}
use Rattle.meaning_rules.specs.Program.{Known, function_scope}
use Rattle.meaning_rules.specs.Task.{Consumer, Enter, Turn, Setting}
use Rattle.meaning_rules.specs.Calls.{arguments, parameters}

-- what a loop goes over: the numbers of a range by its start, stop and step, the items of a list or a text, or those of a call of a generator
pub data Iterable : Type 0 where
  Numbers : Value → Value → Value → Iterable
  Items : Value → Iterable
  Generated : Known → List Value → Iterable

-- ---- how turns end

-- what comes after a turn that ended so: the next turn, or the end of the loop
abbrev pub after_turn : Flow → Run Flow → Run Flow
after_turn Next more = more
after_turn Continue more = more
after_turn flow more = pure flow

-- how the statement of a loop ends that was left so: a break is for this loop alone
abbrev pub after_loop : Flow → Flow
after_loop Break = Next
after_loop flow = flow

-- what the turn of a loop tells the generator that yielded the item
abbrev pub yielded : Flow → Flow
yielded Next = Next
yielded Continue = Next
yielded flow = Left flow

-- how a loop is left whose generator's body ended so
abbrev pub closed : Flow → Flow
closed (Left flow) = flow
closed _ = Next

-- ---- loops in place

abbrev pub shown : {A : Type 0} → Option (Value × A) → (Value → A → Run Flow) → Run Flow
shown None turn = pure Next
shown (Some p) turn = turn p.0 p.1

-- at most n turns, where `next` gives the item of a turn and what comes after it, or the end
abbrev pub turns : {A : Type 0} → (A → Run (Option (Value × A))) → (Value → Run Flow) → ℕ → A → Run Flow
turns next turn zero a = stop OutOfFuel
turns next turn (suc n) a = next a >>= λ o. shown o (λ v b. turn v >>= λ flow. after_turn flow (turns next turn n b))

-- no loop makes more turns than ticks are left
abbrev pub loop : {A : Type 0} → ℕ → (A → Run (Option (Value × A))) → (Value → Run Flow) → A → Run Flow
loop limit next turn a = by_fuel limit (λ left. turns next turn (suc left) a)

abbrev pub ticked : {A : Type 0} → ℕ → A → Run (Option A)
ticked limit a = tick limit >>= λ _. pure (Some a)

-- a condition is the item of a turn without one
abbrev pub while_next : ℕ → Run Bool → Unit {0} → Run (Option (Value × Unit {0}))
while_next limit condition u = condition >>= λ t. if t then ticked limit (value.Unit, tt) else pure None

-- whether a range with that step goes on at a number. No turn wraps
abbrev pub is_before : ℤ → ℤ → ℤ → Bool
is_before (pos n) stop at = int_lt at stop
is_before (negsuc n) stop at = int_lt stop at

abbrev pub number_next : ℕ → ℤ → ℤ → ℤ → Run (Option (Value × ℤ))
number_next limit step stop at = if is_before step stop at then ticked limit (value.Int at, at +ℤ step) else pure None

abbrev pub item_found : ℕ → ℕ → Option Value → Run (Option (Value × ℕ))
item_found limit place None = pure None
item_found limit place (Some v) = ticked limit (v, place + 1)

module _ (here : Setting) where
  -- the items of a list or a text, by position against its length at each turn
  abbrev pub item_next : Value → ℕ → Run (Option (Value × ℕ))
  item_next container place = found_at here.rules container place >>= item_found here.limit place

  abbrev pub numbers : ℤ → ℤ → ℤ → (Value → Run Flow) → Run Flow
  numbers start stop (pos zero) turn = fault kind.Value (codes "range step is zero")
  numbers start stop step turn = loop here.limit (number_next here.limit step stop) turn start

  -- ---- generators

  -- the body of a generator, with the consumer of its items
  abbrev pub generate : List Consumer → Consumer → Known → List Value → Run Flow
  generate consumers consumer known vs =
      tick here.limit >>= λ _. generating (parameters known.function.params vs) (here.low (consumer ∷ consumers) (Enter (function_scope known.in_prelude known.function) known.function.body)) >>= λ flow. pure (closed flow)

  -- an item that a generator's body gives to the consumer round it
  abbrev pub yield : List Consumer → Value → Run Flow
  yield [] v = wrong
  yield (consumer ∷ below) v =
      suspended (tick here.limit >>= λ _. here.low below (Turn consumer v)) >>= λ flow. pure (yielded flow)

  -- ---- any loop

  -- How a loop is left. Its turns are made in place, or by the generator, in which the consumer does what a turn does
  abbrev pub over : List Consumer → Iterable → Consumer → (Value → Run Flow) → Run Flow
  over consumers (Numbers start stop step) consumer turn =
      int_in (out-Value start) >>= λ a. int_in (out-Value stop) >>= λ b. int_in (out-Value step) >>= λ c. numbers a b c turn
  over consumers (Items container) consumer turn = loop here.limit (item_next container) turn 0
  over consumers (Generated known given) consumer turn = one_of (arguments known.function.params given) >>= generate consumers consumer known
