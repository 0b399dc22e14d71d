-- What stands at an address, and the method of an instance.
use Rattle.std.specs.Prelude.{ℕ, false, List, ◌∷◌, Option, Some, None, slice_get}
use Rattle.codon_base.specs.declared.object.Object.{Object}
use Rattle.codon_base.specs.declared.value.Value.{Value}
use Rattle.source_trees.specs.declared.item.Function.{Function}
use Rattle.codon_base.specs.declared.object.Object.TheVariants.{List as Listed, Instance}
use Rattle.meaning_rules.specs.State.{Spelling}
use Rattle.meaning_rules.specs.Outcome.{Run, ◌>>=◌, pure}
use Rattle.meaning_rules.specs.Objects.{one_of}
use Rattle.meaning_rules.specs.Program.{Program, Known, function_named, methods_of}
use Rattle.meaning_rules.specs.Task.{Setting}
use Rattle.meaning_rules.specs.Calls.{call}
use Rattle.meaning_rules.specs.Loops.{Iterable}
use Rattle.meaning_rules.specs.Expressions.{generated_by}
use Rattle.plain_interpreter.specs.declared.methods.Kind.{Kind}
use Rattle.plain_interpreter.specs.declared.methods.Kind.TheVariants as kind

abbrev pub kind_of : Option Object → Kind
kind_of (Some (Listed items)) = kind.List
kind_of (Some (Instance class fields)) = kind.Instance class
kind_of None = kind.Nothing

abbrev pub told : Option Function → Run Known
told o = one_of o >>= λ f. pure (record { function = f; in_prelude = false })

-- the method of that name in a class
abbrev pub found_method : Program → ℕ → Spelling → Run Known
found_method program class name =
    one_of (slice_get program.classes class) >>= λ c. told (function_named name (methods_of c))

-- a call of the method of an instance of that class
abbrev pub called_on : Setting → Value → ℕ → Spelling → List Value → Run Value
called_on here v class name given = found_method here.program class name >>= λ known. call here known (v ∷ given)

abbrev pub goes_over_on : Setting → Value → ℕ → Spelling → List Value → Run Iterable
goes_over_on here v class name given = found_method here.program class name >>= generated_by here v given
