-- The values that instructions name.
use Rattle.std.specs.Prelude.{true, false}
use Rattle.codon_base.specs.declared.value.Value.{Value}
use Rattle.codon_base.specs.declared.value.Value.TheVariants as value
use Rattle.code_module.specs.declared.instr.Constant.{Constant}
use Rattle.code_module.specs.declared.instr.Constant.TheVariants.{Unit as UnitConst, False, True}

-- the value of a constant
abbrev pub constant_of : Constant → Value
constant_of UnitConst = value.Unit
constant_of False = value.Bool false
constant_of True = value.Bool true
