-- What a loop goes over that a call by name gives, by what the name means.
use Rattle.std.specs.Prelude.{◌≡◌, ◌≢◌, true, false}
use Rattle.meaning_rules.specs.Bodies.{yields}
use Rattle.meaning_rules.specs.Program.{Callee, Defined, Standard, Range}
use Rattle.plain_interpreter.specs.Tasks.{known_of}
use Rattle.plain_interpreter.specs.declared.goes.Going.{Going}
use Rattle.plain_interpreter.specs.declared.goes.Going.TheVariants as going

-- the call gives a value
abbrev pub GivesValue : Callee → Type 0
GivesValue (Defined known) = yields known.function.body ≡ false
GivesValue (Standard which) = which ≢ Range
GivesValue other = Unit {0}

abbrev pub Goes : Callee → Going → Type 0
Goes c going.Value = GivesValue c
Goes c going.Range = c ≡ Standard Range
Goes c (going.Generator called) = (c ≡ Defined (known_of called)) × (yields (known_of called).function.body ≡ true)
