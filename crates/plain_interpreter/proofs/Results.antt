-- What a function gives whose body left bodies of generators.
use Rattle.std.proofs.Common.{◌≡◌, ℕ, zero, suc, refl}
use Rattle.source_trees.specs.declared.item.Function.{Function}
use Rattle.meaning_rules.specs.State.{Flow}
use Rattle.meaning_rules.specs.Calls.{result}
use Rattle.plain_interpreter.specs.Seen.{left_by}

pub result_left : (f : Function) (n : ℕ) (flow : Flow) → result f (left_by n flow) ≡ result f flow
result_left f zero flow = refl
result_left f (suc n) flow = result_left f n flow
