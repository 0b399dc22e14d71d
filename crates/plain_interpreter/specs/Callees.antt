-- What the interpreter's answers on names stand for among the definitions.
use Rattle.std.specs.Prelude.{List, map, Option, Some, None}
use Rattle.std.specs.Borrow.{Bor}
use Rattle.source_trees.specs.declared.item.Function.{Function}
use Rattle.source_trees.specs.declared.item.Class.{Class}
use Rattle.meaning_rules.specs.Program as program
use Rattle.plain_interpreter.specs.Tasks.{known_of}
use Rattle.plain_interpreter.specs.declared.prepared.Known.{Known}
use Rattle.plain_interpreter.specs.declared.prepared.KnownClass.{KnownClass}
use Rattle.plain_interpreter.specs.declared.callee.Builtin.{Builtin}
use Rattle.plain_interpreter.specs.declared.callee.Builtin.TheVariants as builtin
use Rattle.plain_interpreter.specs.declared.callee.Numbered.{Numbered}
use Rattle.plain_interpreter.specs.declared.callee.Callee.{Callee}
use Rattle.plain_interpreter.specs.declared.callee.Callee.TheVariants as callee

abbrev pub functions_in : List Known → List Function
functions_in = map (λ k. k.function.now)

abbrev pub classes_in : List KnownClass → List Class
classes_in = map (λ c. c.class.now)

abbrev pub found_function : Option (Bor Known) → Option Function
found_function None = None
found_function (Some k) = Some k.now.function.now

abbrev pub builtin_of : Builtin → program.Builtin
builtin_of builtin.Length = program.Length
builtin_of builtin.Least = program.Least
builtin_of builtin.Greatest = program.Greatest
builtin_of builtin.ToText = program.ToText
builtin_of builtin.ToInt = program.ToInt
builtin_of builtin.ToBool = program.ToBool
builtin_of builtin.Code = program.Code
builtin_of builtin.Character = program.Character
builtin_of builtin.ToList = program.ToList
builtin_of builtin.Range = program.Range

abbrev pub callee_of : Callee → program.Callee
callee_of (callee.Defined called) = program.Defined (known_of called)
callee_of (callee.Constructor c) = program.Constructor c.number c.class.now.class.now
callee_of (callee.Standard which) = program.Standard (builtin_of which)
callee_of callee.Variable = program.Variable
callee_of callee.Unknown = program.Unknown

-- a class that was found, or what a name means else
abbrev pub class_or : Option Numbered → program.Callee → program.Callee
class_or None other = other
class_or (Some c) other = program.Constructor c.number c.class.now.class.now
