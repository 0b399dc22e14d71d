-- The operators, builtins and methods of lists, as a run applies them (the Python reference, 6.5 to 6.12; the library reference, 'Built-in Functions' and 'Lists').
use Rattle.std.specs.Prelude.{if◌then◌else◌, List, [], ◌∷◌, codes}
use Rattle.codon_base.specs.declared.value.Ref.{Ref}
use Rattle.codon_base.specs.declared.value.Value.{Value, Value-F, out-Value}
use Rattle.codon_base.specs.declared.value.Value.TheVariants as value
use Rattle.codon_base.specs.Operators as operators
use Rattle.codon_base.specs.Operators.{Made, Sight}
use Rattle.source_trees.specs.declared.operator.BinaryOp.{BinaryOp}
use Rattle.source_trees.specs.declared.operator.BinaryOp.TheVariants as op
use Rattle.source_trees.specs.declared.operator.UnaryOp.{UnaryOp}
use Rattle.source_trees.specs.declared.operator.UnaryOp.TheVariants as unary
use Rattle.source_trees.specs.declared.operator.Comparator.{Comparator}
use Rattle.source_trees.specs.declared.operator.Comparator.TheVariants as comparator
use Rattle.meaning_rules.specs.State.{Spelling, same}
use Rattle.meaning_rules.specs.Outcome.{Run, ◌>>=◌, pure, wrong}
use Rattle.meaning_rules.specs.Objects.{operate, append, extend, pop, copy, clear}
use Rattle.meaning_rules.specs.Program.{Builtin, Length, Least, Greatest, ToText, ToInt, ToBool, Code, Character}
use Rattle.meaning_rules.specs.Task.{Rules}

abbrev pub binary_made : BinaryOp → Value-F Value → Value-F Value → Sight → Made
binary_made op.Add v w sight = operators.plus sight v w
binary_made op.Subtract v w sight = operators.minus v w
binary_made op.Multiply v w sight = operators.times sight v w
binary_made op.FloorDivide v w sight = operators.floor_divided v w
binary_made op.Modulo v w sight = operators.modulo v w
binary_made op.Power v w sight = operators.to_the_power v w
binary_made op.ShiftLeft v w sight = operators.shifted_left v w
binary_made op.ShiftRight v w sight = operators.shifted_right v w
binary_made op.And v w sight = operators.bits_and v w
binary_made op.Or v w sight = operators.bits_or v w
binary_made op.Xor v w sight = operators.bits_xor v w

abbrev pub binary : Rules → BinaryOp → Value → Value → Run Value
binary rules by v w = operate rules (binary_made by (out-Value v) (out-Value w))

abbrev pub unary_made : UnaryOp → Value-F Value → Made
unary_made unary.Plus v = operators.unchanged v
unary_made unary.Minus v = operators.negated v
unary_made unary.Invert v = operators.complemented v

abbrev pub compared_made : Comparator → Value → Value → Sight → Made
compared_made comparator.Equal v w sight = operators.is_equal sight v w
compared_made comparator.NotEqual v w sight = operators.is_unequal sight v w
compared_made comparator.Less v w sight = operators.less (out-Value v) (out-Value w)
compared_made comparator.LessEqual v w sight = operators.less_equal (out-Value v) (out-Value w)
compared_made comparator.Greater v w sight = operators.greater (out-Value v) (out-Value w)
compared_made comparator.GreaterEqual v w sight = operators.greater_equal (out-Value v) (out-Value w)
compared_made comparator.In v w sight = operators.is_in sight v w
compared_made comparator.NotIn v w sight = operators.is_not_in sight v w

-- ---- builtins

abbrev pub on_one : Builtin → Value → Sight → Made
on_one Length v sight = operators.length_of sight (out-Value v)
on_one Least v sight = operators.least_item sight (out-Value v)
on_one Greatest v sight = operators.greatest_item sight (out-Value v)
on_one ToText v sight = operators.text_from sight v
on_one ToInt v sight = operators.int_from (out-Value v)
on_one ToBool v sight = operators.truth sight (out-Value v)
on_one Code v sight = operators.code_of (out-Value v)
on_one Character v sight = operators.character_from (out-Value v)
on_one _ v sight = operators.wrong

abbrev pub on_two : Builtin → Value → Value → Made
on_two Least v w = operators.least v w
on_two Greatest v w = operators.greatest v w
on_two _ v w = operators.wrong

-- a builtin on its arguments, but for `list` and `range`, which make or are iterables
abbrev pub builtin : Rules → Builtin → List Value → Run Value
builtin rules which (v ∷ []) = operate rules (on_one which v)
builtin rules which (v ∷ w ∷ []) = operate rules (λ sight. on_two which v w)
builtin rules which _ = wrong

-- ---- methods of lists

abbrev pub nothing : Run (Unit {0}) → Run Value
nothing done = done >>= λ _. pure value.Unit

abbrev pub method_without : Rules → Spelling → Ref → Run Value
method_without rules name at =
    if same name (codes "pop") then pop at else
    (if same name (codes "copy") then copy rules at else
    (if same name (codes "clear") then nothing (clear at) else wrong))

abbrev pub method_with : Rules → Spelling → Ref → Value → Run Value
method_with rules name at v =
    if same name (codes "append") then nothing (append at v) else
    (if same name (codes "extend") then nothing (extend rules at v) else wrong)

abbrev pub list_method : Rules → Spelling → Ref → List Value → Run Value
list_method rules name at [] = method_without rules name at
list_method rules name at (v ∷ []) = method_with rules name at v
list_method rules name at _ = wrong
