-- The turns of loops in place, one after another, as the interpreter makes them.
use Rattle.std.specs.Prelude.{ℕ, ◌+◌, ◌≤ℤ◌, ◌<ℤ◌, Bool, if◌then◌else◌, Option, Some, None, ℤ, pos, negsuc, ◌+ℤ◌, nat_lt, codes}
use Rattle.codon_base.specs.declared.fault.FaultKind.TheVariants as kind
use Rattle.codon_base.specs.declared.value.Value.{Value, out-Value}
use Rattle.codon_base.specs.declared.value.Value.TheVariants as value
use Rattle.codon_base.specs.Compared.{int_equal}
use Rattle.meaning_rules.specs.Outcome.{Run, ◌>>=◌, pure, fault}
use Rattle.meaning_rules.specs.Objects.{int_in, found_at}
use Rattle.meaning_rules.specs.Task.{Rules}
use Rattle.meaning_rules.specs.Loops.{is_before, ticked}
use Rattle.plain_interpreter.specs.declared.iterable.Cursor.{Cursor}
use Rattle.plain_interpreter.specs.declared.iterable.Cursor.TheVariants as cursor

-- whether a number is in the range of int
abbrev pub in_range : ℤ → Bool
in_range (pos n) = nat_lt n 9223372036854775808
in_range (negsuc n) = nat_lt n 9223372036854775808

abbrev pub advanced : ℤ → ℤ → ℤ → Cursor
advanced at stop step = if in_range (at +ℤ step) then cursor.Number (at +ℤ step) stop step else cursor.Ended

abbrev pub item_or_end : ℕ → Value → ℕ → Option Value → Run (Option (Value × Cursor))
item_or_end limit container place None = pure None
item_or_end limit container place (Some v) = ticked limit (v, cursor.Item container (place + 1))

abbrev pub next_by : Rules → ℕ → Cursor → Run (Option (Value × Cursor))
next_by rules limit cursor.Ended = pure None
next_by rules limit (cursor.Number at stop step) = if is_before step stop at then ticked limit (value.Int at, advanced at stop step) else pure None
next_by rules limit (cursor.Item container place) = found_at rules container place >>= item_or_end limit container place

abbrev pub begun_by : ℤ → ℤ → ℤ → Run Cursor
begun_by at stop step = if int_equal step (pos 0) then fault kind.Value (codes "range step is zero") else pure (cursor.Number at stop step)

abbrev pub begun : Value → Value → Value → Run Cursor
begun start stop step = int_in (out-Value start) >>= λ a. int_in (out-Value stop) >>= λ b. int_in (out-Value step) >>= λ c. begun_by a b c

-- the number and the stop of a cursor are in the range of int
abbrev pub IsWithin : Cursor → Type 0
IsWithin cursor.Ended = Unit {0}
IsWithin (cursor.Number at stop step) = (negsuc 9223372036854775807 ≤ℤ at) × (at <ℤ pos 9223372036854775808) × (negsuc 9223372036854775807 ≤ℤ stop) × (stop <ℤ pos 9223372036854775808)
IsWithin (cursor.Item container place) = Unit {0}
