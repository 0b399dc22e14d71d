use Rattle.std.proofs.Common.{◌≡◌, map, take}
use Rattle.codon_base.specs.declared.value.Value.TheVariants as value
use Rattle.plain_interpreter.proofs.returns.unset_fields.Given as goal

abbrev pub invariant-fields : goal.invariant-fields
invariant-fields l = l.unset ≡ map (λ name. value.Unset) (take l.index l.fields)
